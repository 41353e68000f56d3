-- Promise 3, the past is forgotten in time (docs/RULES.md): what two trackers accept first, what the equal calls are, what they meet, and what then agrees.
-- Assumes nothing.
use Rattle.std.specs.Prelude.{ℕ, zero, suc, ◌-◌, ◌*◌, ◌/◌, ◌≤◌, ◌≡◌, Bool, true, false, ◌&&◌, ◌||◌, List, [], ◌∷◌, ◌++◌, eqb, length, take, drop}
use Rattle.words.specs.declared.Word.{Word}
use Rattle.words.specs.Word.{word_bytes}
use Rattle.words.specs.Tdh.{internal_trigger}
use Rattle.payload_fsm.specs.Kinds.{is_ihw, is_tdh, is_data}
use Rattle.payload_fsm.specs.Settle.{Marker}
use Rattle.words.specs.Lists.{Each}
use Rattle.records.specs.Records.{record_width, most_records, room}
use Rattle.stored.specs.Stored.{first_cdw}
use Rattle.cdp_running.specs.declared.Tracker.{Tracker}
use Rattle.cdp_running.specs.Answer.{numbers_of}
use Rattle.cdp_running.specs.Tracker.{packet_call}
use Rattle.forgetting.specs.Calls.{Call, packet, word, payload, reset, run, Answer, answers, kinds, Took, took, words_in}

-- No reset between.
abbrev pub NoReset : Call → Type 0
NoReset (packet p) = Unit
NoReset (word bytes buffer) = Unit
NoReset (payload bytes buffer) = Unit
NoReset reset = ⊥

-- A tracker accepts a marker: the last words that its calls took are three data words with bit 13 clear and a TDT with packet done or, by 02's ticket
-- 12, a TDH and one data word with bit 13 clear and such a TDT; and there is no reset between. Packets, and calls that are refused, may stand between
-- these words. Each tracker has words and packets of its own, and either of the two markers.
pub record AcceptedMarker (t : Tracker) (calls : List Call) : Type 0 where
  pub earlier : List Word
  pub marker : List Word
  pub words : words_in (took t calls) ≡ earlier ++ marker
  pub is_marker : Marker marker
  pub no_reset : Each NoReset calls

-- Each record buffer has room for six records for each whole word that it is lent to. A word that is not ten bytes needs none.
abbrev pub Roomy : Call → Type 0
Roomy (packet p) = Unit
Roomy (word bytes buffer) = length bytes ≡ word_bytes → most_records ≤ room buffer
Roomy (payload bytes buffer) = most_records * (length bytes / word_bytes) ≤ room buffer
Roomy reset = Unit

-- The calls begin with a packet that the tracker accepts.
abbrev pub Begins : Tracker → List Call → Type 0
Begins t [] = ⊥
Begins t (packet p ∷ calls) = (packet_call t p).refusal ≡ 0
Begins t (word bytes buffer ∷ calls) = ⊥
Begins t (payload bytes buffer ∷ calls) = ⊥
Begins t (reset ∷ calls) = ⊥

-- 02, ticket 7, "neither may meet 10": none of the calls is refused with it. A packet alone can be.
abbrev pub NotTen : Answer → Type 0
NotTen (packet refusal) = refusal ≡ 10 → ⊥
NotTen (word told buffer) = Unit
NotTen (payload words records refusal buffer) = Unit
NotTen reset = Unit

abbrev pub NeverTen : Tracker → List Call → Type 0
NeverTen t calls = Each NotTen (answers t calls)

-- What is asked of each of the two trackers and the equal calls.
pub record Continues (t : Tracker) (calls : List Call) : Type 0 where
  pub begins : Begins t calls
  pub never_ten : NeverTen t calls

-- A word was taken as IHW or IHW continuation, one as a TDH of any kind with internal trigger, and a CDW as the first data of a packet.
abbrev pub as_ihw : Took → Bool
as_ihw x = is_ihw x.kind

abbrev pub as_internal_tdh : Took → Bool
as_internal_tdh x = is_tdh x.kind && eqb (internal_trigger x.word) 1

abbrev pub as_first_cdw : Took → Bool
as_first_cdw x = is_data x.kind && first_cdw x.seen x.word

unfoldable pub some : (Took → Bool) → List Took → Bool
some test [] = false
some test (x ∷ xs) = test x || some test xs

-- All three were met, in any order.
pub record HasMet (xs : List Took) : Type 0 where
  pub ihw : some as_ihw xs ≡ true
  pub internal_tdh : some as_internal_tdh xs ≡ true
  pub first_cdw_is : some as_first_cdw xs ≡ true

-- 02, ticket 7, "or else compares records without that number": the numbers of a buffer, with so many records at its front, but for the last number of each
-- of them; and so an answer, which says how many records were written.
unfoldable pub bare : ℕ → List ℕ → List ℕ
bare zero buffer = buffer
bare (suc records) buffer = take (record_width - 1) buffer ++ bare records (drop record_width buffer)

abbrev pub bare_answer : Answer → Answer
bare_answer (packet refusal) = packet refusal
bare_answer (word told buffer) = word told (bare (numbers_of told).records buffer)
bare_answer (payload words records refusal buffer) = payload words records refusal (bare records buffer)
bare_answer reset = reset

unfoldable pub bare_answers : List Answer → List Answer
bare_answers [] = []
bare_answers (x ∷ xs) = bare_answer x ∷ bare_answers xs

-- Two trackers after their markers, the equal calls, and later ones: refusals and word kinds, guesses included, agree at once and for ever. Once all three
-- were met, and where the two had accepted equally many packets, the trackers are the same, and so are all later answers and all numbers of the record buffers.
-- Where they had not, later answers are the same without that number.
pub record Forgotten (t u : Tracker) (calls later : List Call) : Type 0 where
  pub kinds_agree : kinds t (calls ++ later) ≡ kinds u (calls ++ later)
  pub trackers_agree : HasMet (took t calls) → t.packets ≡ u.packets → run t calls ≡ run u calls
  pub answers_agree : HasMet (took t calls) → t.packets ≡ u.packets → answers (run t calls) later ≡ answers (run u calls) later
  pub bare_agree : HasMet (took t calls) → bare_answers (answers (run t calls) later) ≡ bare_answers (answers (run u calls) later)
