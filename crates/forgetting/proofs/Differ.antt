-- The theorem says something: kinds and records differ with the input and with the past, its conditions can be met, by either marker, and each
-- is needed.
-- Assumes nothing.
use Prim.Native.Nat.{ℕ, ◌+◌, ◌-◌, ◌*◌, ◌≤◌}
use mathlib.Core.Path.{◌≡◌, refl, ap}
use mathlib.Core.Bool.{Bool, true, false, true≢false}
use mathlib.Core.List.{List, [], ◌∷◌, ◌++◌}
use native.Mathlib.Omega.{arith}
use borrow.Author.Tests.{eqb-false}
use lib.Dec.{eqb}
use lib.ListN.{get_or, replicate}
use Rattle.words.specs.declared.Word.{Word}
use Rattle.words.specs.Word.{number, word_of, bits}
use Rattle.packet.specs.declared.Rule.TheVariants as R
use Rattle.std.specs.Prelude.{Some}
use Rattle.packet.specs.declared.Settings.{Settings}
use Rattle.packet.specs.Packet.{most_packets}
use Rattle.payload_fsm.specs.Kinds.{kind_number}
use Rattle.payload_fsm.specs.Settle.{DataClear, TdtDone, TdhClear, Marker, three_data, short_frame}
use Rattle.words.specs.Lists.{Each}
use Rattle.records.specs.Records.{most_records, record_width, flat, given}
use Rattle.cdp_running.specs.declared.Tracker.{Tracker}
use Rattle.cdp_running.specs.Told.{Taken, Refused}
use Rattle.cdp_running.specs.Tracker.{Good, start_of, packet_call}
use Rattle.cdp_running.specs.Word.{records_of, taken_of, word_call}
use Rattle.cdp_running.proofs.Good.{good_start}
use Rattle.forgetting.specs.Calls.{Call, packet, word, payload, reset, run, Answer, answers, Kind, kind, refusal, kinds_in, kinds, took_in, took, words_in}
use Rattle.forgetting.specs.Forget.{NoReset, AcceptedMarker, Roomy, Begins, NeverTen, Continues, as_ihw, as_internal_tdh, as_first_cdw, some, HasMet}
use Rattle.forgetting.proofs.Walk.{good_run}
use Rattle.forgetting.proofs.Same.{counting}
use Rattle.forgetting.proofs.Forgetting.{forgetting}

-- Ten bytes: the first three, byte 8, and the id; a word call with room for so many records; and the words that are used below, with room for the
-- most that a word gives.
abbrev pub ten : ℕ → ℕ → ℕ → ℕ → ℕ → List ℕ
ten a b c done id = a ∷ b ∷ c ∷ 0 ∷ 0 ∷ 0 ∷ 0 ∷ 0 ∷ done ∷ id ∷ []

abbrev pub say_in : ℕ → List ℕ → Call
say_in records bytes = word bytes (replicate (records * record_width) 0)

abbrev pub say : ℕ → ℕ → ℕ → ℕ → ℕ → Call
say a b c done id = say_in most_records (ten a b c done id)

abbrev pub ihw : ℕ → Call
ihw lanes = say lanes 0 0 0 0xE0

abbrev pub tdh : ℕ → Call
tdh bc = say 1 0 bc 0 0xE8

abbrev pub internal_tdh : ℕ → Call
internal_tdh bc = say 0 0x10 bc 0 0xE8

abbrev pub cdw : ℕ → Call
cdw user = say user 0 0 1 0xF8

abbrev pub data_word : ℕ → Call
data_word low = say low 0 0 0 0x20

abbrev pub tdt_done : Call
tdt_done = say 0 0 0 1 0xF0

abbrev pub header : Call
header = packet (record { position = 0; orbit = 0; trigger = 0; bc = 0; page = 0; stop = 0; format = 2 })

-- A tracker with running checks, frames and a period, that has accepted a packet.
abbrev pub settings : Settings
settings = record { running = true; frames = true; period = Some 198; rule = R.One }

pub begun : Tracker
begun = run (start_of settings) (header ∷ [])

-- The two markers, each at the start. The first of three data words is taken as IHW there, and the second as TDH, here with internal trigger; a short
-- frame has these words of its own, the IHW before the marker.
abbrev pub three : ℕ → ℕ → List Call
three lanes bc = data_word lanes ∷ say 0 0x10 bc 0 0x20 ∷ data_word 0 ∷ tdt_done ∷ []

abbrev pub short : ℕ → ℕ → List Call
short lanes bc = ihw lanes ∷ internal_tdh bc ∷ data_word 0 ∷ tdt_done ∷ []

-- The number of the first kind, and the records of all answers.
pub first_kind : List (List Kind) → ℕ
first_kind ((kind k guessed ∷ ks) ∷ rest) = kind_number k
first_kind ((refusal n ∷ ks) ∷ rest) = first_kind rest
first_kind ([] ∷ rest) = first_kind rest
first_kind [] = 0

pub counted : List Answer → ℕ
counted [] = 0
counted (packet n ∷ rest) = counted rest
counted (word (Taken x) buffer ∷ rest) = x.records + counted rest
counted (word (Refused n) buffer ∷ rest) = counted rest
counted (payload words records n buffer ∷ rest) = records + counted rest
counted (reset ∷ rest) = counted rest

-- The same word is an IHW after one past, and a TDH after another: without a marker kinds differ.
pub kinds_differ : kinds begun (header ∷ ihw 1 ∷ []) ≡ kinds (run begun (ihw 1 ∷ [])) (header ∷ ihw 1 ∷ []) → ⊥
unfolding begun first_kind run kinds kinds_in packet_call word_call taken_of records_of given word_of number bits
kinds_differ e = eqb-false 1 3 refl (ap first_kind e)

-- What the theorem asks, one by one; none is for leaving out nothing.
pub data Condition : Type 0 where
  none : Condition
  equal_settings : Condition
  has_marker : Condition
  not_reset : Condition
  packet_first : Condition
  has_room : Condition
  met_ihw : Condition
  met_internal : Condition
  met_cdw : Condition
  equally_many : Condition

abbrev place : Condition → ℕ
place none = 0
place equal_settings = 1
place has_marker = 2
place not_reset = 3
place packet_first = 4
place has_room = 5
place met_ihw = 6
place met_internal = 7
place met_cdw = 8
place equally_many = 9

abbrev pub unless : Bool → Type 0 → Type 0
unless true A = Unit
unless false A = A

-- A condition is asked unless it is the one that is left out.
abbrev pub But : Condition → Condition → Type 0 → Type 0
But left this A = unless (eqb (place left) (place this)) A

-- Words that end in a marker: with no reset between, an accepted marker.
pub record EndsInMarker (words : List Word) : Type 0 where
  pub earlier : List Word
  pub marker : List Word
  pub is : words ≡ earlier ++ marker
  pub is_marker : Marker marker

pub accepted : (t : Tracker) (past : List Call) → EndsInMarker (words_in (took t past)) → Each NoReset past
    → AcceptedMarker t past
accepted t past m no_reset =
    record { earlier = m.earlier; marker = m.marker; words = m.is; is_marker = m.is_marker; no_reset = no_reset }

-- A condition is needed: two trackers, pasts and calls that meet all others, and a later answer that differs. Where a marker is left out, or a reset
-- let in, that is in the first past.
pub record Needed (left : Condition) (t u : Tracker) (past past' calls later : List Call) : Type 0 where
  pub settings_equal : But left equal_settings (t.settings ≡ u.settings)
  pub marker : But left has_marker (EndsInMarker (words_in (took t past)))
  pub no_reset : But left not_reset (Each NoReset past)
  pub marker' : AcceptedMarker u past'
  pub begins : But left packet_first (Begins (run t past) (calls ++ later) × Begins (run u past') (calls ++ later))
  pub never_ten : NeverTen (run t past) (calls ++ later) × NeverTen (run u past') (calls ++ later)
  pub roomy : But left has_room (Each Roomy (calls ++ later))
  pub has_ihw : But left met_ihw (some as_ihw (took (run t past) calls) ≡ true)
  pub has_internal : But left met_internal (some as_internal_tdh (took (run t past) calls) ≡ true)
  pub has_cdw : But left met_cdw (some as_first_cdw (took (run t past) calls) ≡ true)
  pub equal : But left equally_many ((run t past).packets ≡ (run u past').packets)
  pub differ : answers (run (run t past) calls) later ≡ answers (run (run u past') calls) later → ⊥

-- They are all: with none left out, no answer differs.
pub all_asked : {t u : Tracker} {past past' calls later : List Call} → Good t → Good u
    → Needed none t u past past' calls later → ⊥
all_asked {t} {u} {past} {past'} {calls} {later} gt gu n =
    let m = accepted t past n.marker n.no_reset in
    let goes : Continues (run t past) (calls ++ later) = record { begins = n.begins.0; never_ten = n.never_ten.0 } in
    let goes' : Continues (run u past') (calls ++ later) = record { begins = n.begins.1; never_ten = n.never_ten.1 } in
    let f = forgetting t u past past' calls later gt gu n.settings_equal m n.marker' goes goes' n.roomy in
    let met : HasMet (took (run t past) calls) = record { ihw = n.has_ihw; internal_tdh = n.has_internal; first_cdw_is = n.has_cdw } in
    n.differ (f.answers_agree met n.equal)

-- The words of the two markers. Below, the first past ends in a short frame, and the second in three data words and a TDT.
data_0 : DataClear (word_of (ten 0 0 0 0 0x20))
unfolding word_of number bits
data_0 = record { data_id = refl; clear = refl }

done : TdtDone (word_of (ten 0 0 0 1 0xF0))
unfolding word_of number bits
done = record { tdt_id_is = refl; done = refl }

tdh_0 : TdhClear (word_of (ten 0 0x10 0 0 0xE8))
unfolding word_of number bits
tdh_0 = record { tdh_id_is = refl; clear = refl }

by_short : {words : List Word} (before : List Word)
    → words ≡ before ++ (word_of (ten 0 0x10 0 0 0xE8) ∷ word_of (ten 0 0 0 0 0x20) ∷ word_of (ten 0 0 0 1 0xF0) ∷ [])
    → EndsInMarker words
by_short before is = record { earlier = before; marker = _; is = is; is_marker = short_frame tdh_0 data_0 done }

by_three : (t : Tracker) (past : List Call) (before : List Word) (lanes bc : ℕ)
    → words_in (took t past)
    ≡ before ++ (word_of (ten lanes 0 0 0 0x20) ∷ word_of (ten 0 0x10 bc 0 0x20) ∷ word_of (ten 0 0 0 0 0x20)
    ∷ word_of (ten 0 0 0 1 0xF0) ∷ [])
    → DataClear (word_of (ten lanes 0 0 0 0x20)) → DataClear (word_of (ten 0 0x10 bc 0 0x20)) → Each NoReset past
    → AcceptedMarker t past
by_three t past before lanes bc is first second no_reset =
    record { earlier = before; marker = _; words = is; is_marker = three_data first second data_0 done; no_reset = no_reset }

four : Each NoReset (short 0 0)
four = (tt, (tt, (tt, (tt, tt))))

-- Both can be accepted, the second with other lanes or another crossing too; and calls can meet all three.
ends_short : EndsInMarker (words_in (took begun (short 1 0)))
unfolding begun run took took_in words_in packet_call word_call taken_of records_of given word_of number bits
ends_short = by_short (word_of (ten 1 0 0 0 0xE0) ∷ []) refl

pub accepted_short : AcceptedMarker begun (short 1 0)
accepted_short = accepted begun (short 1 0) ends_short four

pub accepted_three : AcceptedMarker begun (three 1 0)
unfolding begun run took took_in words_in packet_call word_call taken_of records_of given word_of number bits
accepted_three =
    by_three begun (three 1 0) [] 1 0 refl (record { data_id = refl; clear = refl })
    (record { data_id = refl; clear = refl }) four

other_lanes : AcceptedMarker begun (three 2 0)
unfolding begun run took took_in words_in packet_call word_call taken_of records_of given word_of number bits
other_lanes =
    by_three begun (three 2 0) [] 2 0 refl (record { data_id = refl; clear = refl })
    (record { data_id = refl; clear = refl }) four

other_crossing : AcceptedMarker begun (three 1 1)
unfolding begun run took took_in words_in packet_call word_call taken_of records_of given word_of number bits
other_crossing =
    by_three begun (three 1 1) [] 1 1 refl (record { data_id = refl; clear = refl })
    (record { data_id = refl; clear = refl }) four

pub met : HasMet (took (run begun (short 1 0)) (header ∷ ihw 1 ∷ internal_tdh 0 ∷ cdw 0 ∷ []))
unfolding begun some run took took_in packet_call word_call taken_of records_of given word_of number bits
met = record { ihw = refl; internal_tdh = refl; first_cdw_is = refl }

-- Room for the most records.
room : {A : Type 0} → A → most_records ≤ most_records
room e = omega arith

-- A packet that is accepted is not refused with 10.
no : ◌≡◌ {A = ℕ} 0 10 → ⊥
no e = omega arith

-- A data word of lane 1, which is not active, gets 1072 with running checks only.
abbrev pub all_three : List Call
all_three = header ∷ ihw 1 ∷ internal_tdh 0 ∷ cdw 0 ∷ []

pub begun_plain : Tracker
begun_plain =
    run (start_of (record { running = false; frames = true; period = Some 198; rule = R.One })) (header ∷ [])

pub needs_settings : Needed equal_settings begun begun_plain (short 1 0) (three 1 0) all_three (say 0 0 0 0 0x21 ∷ [])
unfolding begun begun_plain counted some run answers took took_in words_in packet_call word_call taken_of
    records_of given flat word_of number bits
needs_settings =
    record {
      settings_equal = tt;
      marker = ends_short;
      no_reset = four;
      marker' =
          by_three begun_plain (three 1 0) [] 1 0 refl (record { data_id = refl; clear = refl })
          (record { data_id = refl; clear = refl }) four;
      begins = (refl, refl);
      never_ten = ((no, (tt, (tt, (tt, (tt, tt))))), (no, (tt, (tt, (tt, (tt, tt))))));
      roomy = (tt, (room, (room, (room, (room, tt)))));
      has_ihw = refl;
      has_internal = refl;
      has_cdw = refl;
      equal = refl;
      differ = λ e. eqb-false 1 0 refl (ap counted e);
    }

-- 02, ticket 9, "Demand 3 asks for equal rules in both trackers": with settings that differ in the rule alone. An internal TDH 198 crossings on, but an
-- orbit later, gets 45 by rule 2 only.
pub begun_two : Tracker
begun_two =
    run (start_of (record { running = true; frames = true; period = Some 198; rule = R.Two })) (header ∷ [])

abbrev pub an_orbit_on : Call
an_orbit_on = say_in most_records (0 ∷ 0x10 ∷ 198 ∷ 0 ∷ 1 ∷ 0 ∷ 0 ∷ 0 ∷ 0 ∷ 0xE8 ∷ [])

pub needs_rule : Needed equal_settings begun begun_two (short 1 0) (three 1 0) all_three (tdt_done ∷ an_orbit_on ∷ [])
unfolding begun begun_two counted some run answers took took_in words_in packet_call word_call taken_of
    records_of given flat word_of number bits
needs_rule =
    record {
      settings_equal = tt;
      marker = ends_short;
      no_reset = four;
      marker' =
          by_three begun_two (three 1 0) [] 1 0 refl (record { data_id = refl; clear = refl })
          (record { data_id = refl; clear = refl }) four;
      begins = (refl, refl);
      never_ten = ((no, (tt, (tt, (tt, (tt, (tt, tt)))))), (no, (tt, (tt, (tt, (tt, (tt, tt)))))));
      roomy = (tt, (room, (room, (room, (room, (room, tt))))));
      has_ihw = refl;
      has_internal = refl;
      has_cdw = refl;
      equal = refl;
      differ = λ e. eqb-false 0 1 refl (ap counted e);
    }

-- Without a marker the first tracker is still in its start state, and takes the three words as IHW, TDH and CDW; the other takes the third as a TDH,
-- so that the CDW after it is its first.
pub needs_marker : Needed has_marker begun begun [] (three 1 0) (header ∷ data_word 1 ∷ internal_tdh 0 ∷ cdw 0 ∷ [])
    (cdw 0 ∷ [])
unfolding begun counted some run answers took took_in words_in packet_call word_call taken_of
    records_of given flat word_of number bits
needs_marker =
    record {
      settings_equal = refl;
      marker = tt;
      no_reset = tt;
      marker' = accepted_three;
      begins = (refl, refl);
      never_ten = ((no, (tt, (tt, (tt, (tt, tt))))), (no, (tt, (tt, (tt, (tt, tt))))));
      roomy = (tt, (room, (room, (room, (room, tt)))));
      has_ihw = refl;
      has_internal = refl;
      has_cdw = refl;
      equal = refl;
      differ = λ e. eqb-false 1 0 refl (ap counted e);
    }

-- A reset before the TDT: it is then taken as IHW, and the next word as a TDH.
abbrev pub resets : List Call
resets = ihw 1 ∷ internal_tdh 0 ∷ data_word 0 ∷ reset ∷ tdt_done ∷ []

pub needs_no_reset : Needed not_reset begun begun resets (three 1 0)
    (header ∷ say 0 0x10 0 0 0x20 ∷ cdw 0 ∷ tdt_done ∷ ihw 1 ∷ []) (tdh 0 ∷ [])
unfolding begun counted some run answers took took_in words_in packet_call word_call taken_of
    records_of given flat word_of number bits
needs_no_reset =
    record {
      settings_equal = refl;
      marker = by_short (word_of (ten 1 0 0 0 0xE0) ∷ []) refl;
      no_reset = tt;
      marker' = accepted_three;
      begins = (refl, refl);
      never_ten = ((no, (tt, (tt, (tt, (tt, (tt, tt)))))), (no, (tt, (tt, (tt, (tt, (tt, tt)))))));
      roomy = (tt, (room, (room, (room, (room, (room, tt))))));
      has_ihw = refl;
      has_internal = refl;
      has_cdw = refl;
      equal = refl;
      differ = λ e. eqb-false 0 2 refl (ap counted e);
    }

-- A packet before the TDT: no data is seen in it yet, so that the next CDW is the first data, and is stored. A new packet for both would end that
-- difference. The other past has a packet more too, so that both have accepted equally many.
abbrev pub packets : List Call
packets = ihw 1 ∷ internal_tdh 0 ∷ data_word 0 ∷ header ∷ tdt_done ∷ []

pub needs_packet : Needed packet_first begun begun packets (header ∷ three 1 0) (ihw 1 ∷ internal_tdh 0 ∷ cdw 0 ∷ [])
    (header ∷ cdw 1 ∷ [])
unfolding begun counted some run answers took took_in words_in packet_call word_call taken_of
    records_of given flat word_of number bits
needs_packet =
    record {
      settings_equal = refl;
      marker = by_short (word_of (ten 1 0 0 0 0xE0) ∷ []) refl;
      no_reset = (tt, (tt, (tt, (tt, (tt, tt)))));
      marker' =
          by_three begun (header ∷ three 1 0) [] 1 0 refl (record { data_id = refl; clear = refl })
          (record { data_id = refl; clear = refl }) (tt, four);
      begins = tt;
      never_ten = ((tt, (tt, (tt, (no, (tt, tt))))), (tt, (tt, (tt, (no, (tt, tt))))));
      roomy = (room, (room, (room, (tt, (room, tt)))));
      has_ihw = refl;
      has_internal = refl;
      has_cdw = refl;
      equal = refl;
      differ = λ e. eqb-false 1 0 refl (ap counted e);
    }

-- A TDH that gives five records, and 45 as a sixth where the internal TDH of the past was at crossing 1, and not at 0. With room for five it is refused
-- there, and the CDW after it is taken as the TDH.
abbrev pub cramped : List Call
cramped =
    packet (record { position = 0; orbit = 1; trigger = 0; bc = 0; page = 0; stop = 0; format = 2 }) ∷ ihw 1 ∷ say_in 5
    (ten 1 0xD0 198 0 0xE8) ∷ cdw 0 ∷ []

pub needs_room : Needed has_room begun begun (short 1 0) (three 1 1) cramped (cdw 0 ∷ [])
unfolding begun counted some run answers took took_in words_in packet_call word_call taken_of
    records_of given flat word_of number bits
needs_room =
    record {
      settings_equal = refl;
      marker = ends_short;
      no_reset = four;
      marker' = other_crossing;
      begins = (refl, refl);
      never_ten = ((no, (tt, (tt, (tt, (tt, tt))))), (no, (tt, (tt, (tt, (tt, tt))))));
      roomy = tt;
      has_ihw = refl;
      has_internal = refl;
      has_cdw = refl;
      equal = refl;
      differ = λ e. eqb-false 1 0 refl (ap counted e);
    }

-- A data word of lane 0 gets 1072 where the IHW of the past has not switched it on.
abbrev pub no_ihw : List Call
no_ihw = header ∷ internal_tdh 0 ∷ cdw 0 ∷ []

pub needs_ihw : Needed met_ihw begun begun (short 1 0) (three 2 0) no_ihw (data_word 0 ∷ [])
unfolding begun counted some run answers took took_in words_in packet_call word_call taken_of
    records_of given flat word_of number bits
needs_ihw =
    record {
      settings_equal = refl;
      marker = ends_short;
      no_reset = four;
      marker' = other_lanes;
      begins = (refl, refl);
      never_ten = ((no, (tt, (tt, (tt, tt)))), (no, (tt, (tt, (tt, tt)))));
      roomy = (tt, (room, (room, (room, tt))));
      has_ihw = tt;
      has_internal = refl;
      has_cdw = refl;
      equal = refl;
      differ = λ e. eqb-false 0 1 refl (ap counted e);
    }

-- An internal TDH at crossing 198 gets 45 where that of the past was at 1, and not at 0.
abbrev pub no_internal : List Call
no_internal = header ∷ ihw 1 ∷ tdh 0 ∷ cdw 0 ∷ tdt_done ∷ []

pub needs_internal : Needed met_internal begun begun (short 1 0) (three 1 1) no_internal (internal_tdh 198 ∷ [])
unfolding begun counted some run answers took took_in words_in packet_call word_call taken_of
    records_of given flat word_of number bits
needs_internal =
    record {
      settings_equal = refl;
      marker = ends_short;
      no_reset = four;
      marker' = other_crossing;
      begins = (refl, refl);
      never_ten = ((no, (tt, (tt, (tt, (tt, (tt, tt)))))), (no, (tt, (tt, (tt, (tt, (tt, tt)))))));
      roomy = (tt, (room, (room, (room, (room, (room, tt))))));
      has_ihw = refl;
      has_internal = tt;
      has_cdw = refl;
      equal = refl;
      differ = λ e. eqb-false 0 1 refl (ap counted e);
    }

-- A CDW gets 81 where the one of the past has other user fields.
abbrev pub with_cdw : ℕ → List Call → List Call
with_cdw user past = ihw 1 ∷ tdh 0 ∷ cdw user ∷ tdt_done ∷ past

abbrev pub words_before : ℕ → List Word
words_before user =
    word_of (ten 1 0 0 0 0xE0) ∷ word_of (ten 1 0 0 0 0xE8) ∷ word_of (ten user 0 0 1 0xF8)
    ∷ word_of (ten 0 0 0 1 0xF0) ∷ []

eight : Each NoReset (with_cdw 0 (short 0 0))
eight = (tt, (tt, (tt, (tt, (tt, (tt, (tt, (tt, tt))))))))

abbrev pub no_cdw : List Call
no_cdw = header ∷ ihw 1 ∷ internal_tdh 0 ∷ []

pub needs_cdw : Needed met_cdw begun begun (with_cdw 1 (short 1 0)) (with_cdw 2 (three 1 0)) no_cdw (cdw 1 ∷ [])
unfolding begun counted some run answers took took_in words_in packet_call word_call taken_of
    records_of given flat word_of number bits
needs_cdw =
    record {
      settings_equal = refl;
      marker = by_short (words_before 1 ++ (word_of (ten 1 0 0 0 0xE0) ∷ [])) refl;
      no_reset = eight;
      marker' =
          by_three begun (with_cdw 2 (three 1 0)) (words_before 2) 1 0 refl
          (record { data_id = refl; clear = refl }) (record { data_id = refl; clear = refl }) eight;
      begins = (refl, refl);
      never_ten = ((no, (tt, (tt, (tt, tt)))), (no, (tt, (tt, (tt, tt)))));
      roomy = (tt, (room, (room, (room, tt))));
      has_ihw = refl;
      has_internal = refl;
      has_cdw = tt;
      equal = refl;
      differ = λ e. eqb-false 0 1 refl (ap counted e);
    }

-- With unequal counts the last numbers of records differ: a past with a packet more, and a data word of lane 1, which is not active.
pub packet_said : List Answer → ℕ
packet_said [] = 0
packet_said (packet n ∷ rest) = packet_said rest
packet_said (word told buffer ∷ rest) = get_or buffer 4 0
packet_said (payload words records n buffer ∷ rest) = get_or buffer 4 0
packet_said (reset ∷ rest) = packet_said rest

pub needs_equally_many : Needed equally_many begun begun (short 1 0) (header ∷ three 1 0) all_three (say 0 0 0 0 0x21 ∷ [])
unfolding begun packet_said some run answers took took_in words_in packet_call word_call taken_of
    records_of given flat word_of number bits
needs_equally_many =
    record {
      settings_equal = refl;
      marker = ends_short;
      no_reset = four;
      marker' =
          by_three begun (header ∷ three 1 0) [] 1 0 refl (record { data_id = refl; clear = refl })
          (record { data_id = refl; clear = refl }) (tt, four);
      begins = (refl, refl);
      never_ten = ((no, (tt, (tt, (tt, (tt, tt))))), (no, (tt, (tt, (tt, (tt, tt))))));
      roomy = (tt, (room, (room, (room, (room, tt)))));
      has_ihw = refl;
      has_internal = refl;
      has_cdw = refl;
      equal = tt;
      differ = λ e. eqb-false 2 3 refl (ap packet_said e);
    }

-- Where one of the two meets 10, kinds differ: all else that is asked holds of a tracker that has accepted all packets but one and of one that has
-- accepted one, and the second of two packets is refused with 10 by the first alone.
pub last_but_one : Tracker
last_but_one = counting begun (most_packets - 1)

pub good_last : Good last_but_one
unfolding begun last_but_one run packet_call
good_last =
    let g = good_run (start_of settings) (header ∷ []) (good_start settings) in
    record {
      packet = g.packet;
      count = g.count;
      stored = g.stored;
      frame = g.frame;
      ihw_present = g.ihw_present;
      tdh_present = g.tdh_present;
      fresh = λ e. absurd (true≢false e);
      counted = refl;
      few = omega arith;
    }

pub accepted_last : AcceptedMarker last_but_one (short 1 0)
unfolding begun last_but_one run took took_in words_in packet_call word_call taken_of records_of given word_of number bits
accepted_last = accepted last_but_one (short 1 0) (by_short (word_of (ten 1 0 0 0 0xE0) ∷ []) refl) four

pub both_begin : Begins (run last_but_one (short 1 0)) (header ∷ header ∷ []) × Begins (run begun (three 1 0)) (header ∷ header ∷ [])
unfolding begun last_but_one run packet_call word_call taken_of records_of given word_of number bits
both_begin = (refl, refl)

pub last_refusal : List (List Kind) → ℕ
last_refusal [] = 0
last_refusal ((refusal n ∷ ks) ∷ []) = n
last_refusal ((refusal n ∷ ks) ∷ k ∷ rest) = last_refusal (k ∷ rest)
last_refusal ((kind k guessed ∷ ks) ∷ rest) = last_refusal rest
last_refusal ([] ∷ rest) = last_refusal rest

pub needs_never_ten : kinds (run last_but_one (short 1 0)) (header ∷ header ∷ []) ≡ kinds (run begun (three 1 0)) (header ∷ header ∷ []) → ⊥
unfolding begun last_but_one last_refusal run kinds packet_call word_call taken_of records_of given word_of number bits
needs_never_ten e = eqb-false 10 0 refl (ap last_refusal e)
