-- What each return of the exported functions hands over, over plain variables.
-- Assumes nothing.
use Prim.Native.Nat.{ℕ, ◌≤◌, ◌<◌, ◌^◌}
use mathlib.Core.Path.{◌≡◌, refl, ap, sym, ◌∙◌}
use mathlib.Core.Bool.{Bool, true, false, cond, not}
use mathlib.Core.List.{List}
use lib.ListN.{length}
use borrow.Author.Tests.{eqb-true, eq-eqb, ne_eqb, not-true, not-false}
use Rattle.words.proofs.Tests.{tests}
use native.Mathlib.Omega.{arith}
use Rattle.std.specs.Prelude.{Option, unwrap_or}
use Rattle.std.specs.Bool.{then_some}
use Rattle.packet.specs.declared.Rule.{Rule}
use Rattle.packet.specs.declared.Packet.{Packet}
use Rattle.packet.specs.Settings.{period_of}
use Rattle.words.specs.Lists.{over}
use Rattle.records.specs.Records.{flat, room}
use Rattle.cdp_running.specs.declared.Tracker.{Tracker}
use Rattle.cdp_running.specs.Told.{Told}
use Rattle.cdp_running.specs.Told.{Refused}
use Rattle.cdp_running.specs.Tracker.{start_of, reset_of, packet_call}
use Rattle.cdp_running.specs.Word as Word
use Rattle.cdp_running.specs.Word.{word_call, records_in}
use Rattle.payload.specs.Payload as Payload
use Rattle.payload.specs.Payload.{payload_call}
use Rattle.tracker_array.specs.Array.{size, encode_of, written_to, is_on, rule_of}
use Rattle.tracker_array.specs.Read.{tracker_in, is_tracker}
use Rattle.tracker_array.specs.Good.{GoodArray}
use Rattle.tracker_array.proofs.Laws.{tests_decide, read_as, no_tracker_lem, good_array}
use Rattle.payload.specs.Answer.{PayloadTold}
use Rattle.in_place.specs.Calls.{PacketInPlace, ResetInPlace, WordInPlace, PayloadInPlace}
use Rattle.khandzorul.specs.declared.WordNumbers.{WordNumbers}
use Rattle.khandzorul.specs.Answer.{no_tracker, no_settings, told_numbers, paid_numbers}
use Rattle.khandzorul.specs.Calls.{Asked, max_period, are_settings, settings_from, On, StartOn, PacketOn, ResetOn, WordOn, PayloadOn}

-- A period of settings fits, where there is one.
pub period_fits : (s : Asked) → are_settings s ≡ true → is_on s.periodic ≡ true → s.period ≤ max_period
period_fits s e on = let (running, (frames, (periodic, (low, rule)))) = simp tests at e in low (eqb-true _ _ on)

low_period : (on : Bool) (n : ℕ) → (on ≡ true → n ≤ max_period) → unwrap_or (then_some on n) 0 < 2 ^ 32
low_period true n low = let most = low refl in omega (arith, most)
low_period false n low = omega arith

pub settings_fit : (s : Asked) → are_settings s ≡ true → period_of (settings_from s) < 2 ^ 32
settings_fit s e = low_period (is_on s.periodic) s.period (period_fits s e)

stays : (b : Bool) (a : List ℕ) → a ≡ cond b a a
stays true a = refl
stays false a = refl

-- The start, as the code comes to it: another length, numbers that are no settings, and settings part by part.
module _ (a : List ℕ) (s : Asked) where
  pub start_none : (length a ≡ size → ⊥) → StartOn a s no_tracker a
  start_none h = record { answer = simp (ne_eqb _ _ h); tracker = simp (ne_eqb _ _ h) (stays (are_settings s) a) }

  module _ (long : length a ≡ size) {r : Bool} (asked : r ≡ are_settings s) where
    pub start_refused : not r ≡ true → StartOn a s no_settings a
    start_refused e =
        let no = sym asked ∙ not-true r e in record { answer = simp (eq-eqb _ _ long, no); tracker = simp no }

    pub start_done : {t : Tracker} {period : Option ℕ} {rule : Rule} {after : List ℕ} → not r ≡ false
        → period ≡ then_some (is_on s.periodic) s.period
        → rule ≡ rule_of s.rule
        → t ≡ start_of (record { running = is_on s.running; frames = is_on s.frames; period = period; rule = rule })
        → after ≡ written_to a t → StartOn a s 0 after
    start_done {t} {period} e k j p q =
        let yes = sym asked ∙ not-false r e in
        record {
          answer = simp (eq-eqb _ _ long, yes);
          tracker =
              simp yes
              (q
              ∙ ap (written_to a)
              (p
              ∙ (λ i. start_of (record { running = is_on s.running; frames = is_on s.frames; period = k i; rule = j i }))));
        }

-- Whether numbers are a tracker, as the code asks it: r is its answer.
module _ (a : List ℕ) {r : Bool} (asked : r ≡ is_tracker a) where
  -- Where there is no tracker, 100, and all stays.
  module _ (no : r ≡ false) where
    none : {A : Type 0} {x otherwise : A} {call : Tracker → A} → x ≡ otherwise → On a x otherwise call
    none p = record { is = λ t i. absurd (no_tracker_lem a (sym asked ∙ no) t i); none = λ h. p }

    pub packet_none : {p : Packet} → PacketOn a p no_tracker a
    packet_none = record { answer = none refl; tracker = none refl }

    pub reset_none : ResetOn a no_tracker a
    reset_none = record { answer = none refl; tracker = none refl }

    pub word_none : {bytes buffer : List ℕ} {n : WordNumbers} → n ≡ told_numbers (Refused no_tracker)
        → WordOn a bytes buffer n a buffer
    word_none p = record { answer = none p; tracker = none refl; buffer_is = none refl }

    pub payload_none : {bytes buffer : List ℕ}
        → PayloadOn a bytes buffer (record { refusal = no_tracker; words = 0; records = 0 }) a buffer
    payload_none = record { answer = none refl; tracker = none refl; buffer_is = none refl }

  -- Where there is one, what the call on its numbers gives.
  module _ (yes : r ≡ true) where
    one : is_tracker a ≡ true
    one = sym asked ∙ yes

    pub is_good : GoodArray a
    is_good = good_array a one

    is : {A : Type 0} {x otherwise : A} (call : Tracker → A) → x ≡ call (tracker_in a) → On a x otherwise call
    is call p =
        record { is = λ t i. p ∙ ap call (read_as a t i); none = λ h. absurd (h (tracker_in a) ((tests_decide a).0 one)) }

    pub packet_done : {p : Packet} {n : ℕ} {after : List ℕ} → PacketInPlace a p n after → PacketOn a p n after
    packet_done {p} w =
        record { answer = is (λ t. (packet_call t p).refusal) w.answer; tracker = is (λ t. encode_of (packet_call t p).tracker) w.numbers }

    pub reset_done : {after : List ℕ} → ResetInPlace a after → ResetOn a 0 after
    reset_done w = record { answer = is (λ t. 0) refl; tracker = is (λ t. encode_of (reset_of t)) w.numbers }

    pub word_done : {bytes buffer : List ℕ} {told : Told} {n : WordNumbers} {after buffer-after : List ℕ}
        → WordInPlace a bytes buffer told after buffer-after
        → n ≡ told_numbers told → WordOn a bytes buffer n after buffer-after
    word_done {bytes} {buffer} w p =
        record {
          answer =
              is (λ t. told_numbers (Word.word_answer t (word_call t bytes (room buffer))).told)
              (p ∙ ap told_numbers w.answer);
          tracker = is (λ t. encode_of (Word.word_answer t (word_call t bytes (room buffer))).tracker) w.numbers;
          buffer_is = is (λ t. over (flat (records_in (word_call t bytes (room buffer)))) buffer) w.buffer_is;
        }

    pub payload_done : {bytes buffer : List ℕ} {told : PayloadTold} {after buffer-after : List ℕ}
        → PayloadInPlace a bytes buffer told after buffer-after
        → PayloadOn a bytes buffer (record { refusal = told.refusal; words = told.words; records = told.records })
        after buffer-after
    payload_done {bytes} {buffer} w =
        record {
          answer =
              is (λ t. paid_numbers (Payload.payload_answer (payload_call t bytes (room buffer))))
              (ap (λ (x : PayloadTold). record { refusal = x.refusal; words = x.words; records = x.records })
              w.answer);
          tracker = is (λ t. encode_of (payload_call t bytes (room buffer)).tracker) w.numbers;
          buffer_is = is (λ t. over (flat (payload_call t bytes (room buffer)).records) buffer) w.buffer_is;
        }
