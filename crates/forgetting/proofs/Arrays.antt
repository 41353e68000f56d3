-- Promise 3 at the C boundary, over the promises of the exported functions alone: what callers see of kinds agrees at once; and once all three were met the
-- numbers of the two arrays are the same, and so is all that is seen of later calls, or, with unequal counts of packets, all but the count in the records.
-- Assumes nothing.
use Prim.Native.Nat.{ℕ, ◌+◌}
use mathlib.Core.Path.{◌≡◌, refl, sym, ap, ◌∙◌}
use mathlib.Core.Bool.{cond}
use mathlib.Core.List.{List, [], ◌∷◌, ◌++◌}
use Rattle.payload_fsm.specs.Kinds.{kind_number}
use Rattle.words.specs.Lists.{Each}
use Rattle.records.specs.Records.{room}
use Rattle.cdp_running.specs.declared.Tracker.{Tracker}
use Rattle.cdp_running.specs.Word as Word
use Rattle.cdp_running.specs.Word.{Outcome, taken, refused, word_call}
use Rattle.payload.specs.Payload.{Run, total, payload_calls}
use Rattle.payload.proofs.Words.{payload_total}
use Rattle.tracker_array.specs.Array.{encode_of, IsTracker}
use Rattle.khandzorul.specs.Answer.{told_numbers}
use Rattle.khandzorul.proofs.Laws.{packet_holds, reset_holds, word_holds, payload_holds}
use Rattle.forgetting.specs.Calls as C
use Rattle.forgetting.specs.Calls.{Call, after, run, Answer, answer, answers, Kind, kind, refusal, kind_of, kinds_in, kinds_of, kinds, took}
use Rattle.forgetting.specs.Forget.{AcceptedMarker, Roomy, Continues, HasMet, bare_answer, bare_answers}
use Rattle.forgetting.specs.Seen as Show
use Rattle.forgetting.specs.Seen.{Seen, Did, khz_packet, khz_word, khz_payload, khz_reset, Ran, none, then, kinds_seen, all_kinds}
use Rattle.forgetting.specs.Seen.{bare_seen, all_bare, ForgottenOnArrays}
use Rattle.forgetting.proofs.Forgetting.{forgetting}

-- An answer of the definitions, as a caller sees it.
abbrev shown : Answer → Seen
shown (C.packet n) = Show.packet n
shown (C.word told buffer) = Show.word (told_numbers told) buffer
shown (C.payload words records n buffer) =
    Show.payload (record { refusal = n; words = words; records = records }) buffer
shown C.reset = Show.reset 0

unfoldable showing : List Answer → List Seen
showing [] = []
showing (x ∷ xs) = shown x ∷ showing xs

-- A call on the numbers of a tracker: they are those of the tracker that it leaves, and its answer is seen.
record Step (t : Tracker) (c : Call) (s : Seen) (b : List ℕ) : Type 0 where
  pub holds : IsTracker b (after t c)
  pub sees : s ≡ shown (answer t c)

step : (a b : List ℕ) (t : Tracker) (c : Call) (s : Seen) → IsTracker a t → Did a c s b → Step t c s b
step a b t _ _ e (khz_packet {p = p} w) =
    record { holds = packet_holds a t e p w; sees = ap Show.packet (w.answer.is t e) }
step a b t _ _ e (khz_word {bytes = bytes} {buffer = buffer} w) =
    let r = w.answer.is t e in
    let l = w.buffer_is.is t e in
    record { holds = word_holds a t e bytes buffer w; sees = λ i. Show.word (r i) (l i) }
step a b t _ _ e (khz_payload {bytes = bytes} {buffer = buffer} w) =
    let r = w.answer.is t e in
    let l = w.buffer_is.is t e in
    record { holds = payload_holds a t e bytes buffer w; sees = λ i. Show.payload (r i) (l i) }
step a b t _ _ e (khz_reset w) = record { holds = reset_holds a t e w; sees = ap Show.reset (w.answer.is t e) }

record Steps (t : Tracker) (calls : List Call) (seen : List Seen) (b : List ℕ) : Type 0 where
  pub holds : IsTracker b (run t calls)
  pub sees : seen ≡ showing (answers t calls)

steps : {a b : List ℕ} {t : Tracker} {calls : List Call} {seen : List Seen} → IsTracker a t → Ran a calls seen b
    → Steps t calls seen b
unfolding run answers showing
steps e none = record { holds = e; sees = refl }
steps {a} {b} {t} e (then {b = m} {c = c} {s = s} d rest) =
    let one = step a m t c s e d in
    let more = steps one.holds rest in
    record { holds = more.holds; sees = λ i. one.sees i ∷ more.sees i }

ran_on : {a m z : List ℕ} {calls later : List Call} {seen more : List Seen} → Ran a calls seen m → Ran m later more z
    → Ran a (calls ++ later) (seen ++ more) z
ran_on none r = r
ran_on (then d rest) r = then d (ran_on rest r)

-- What is seen of kinds, from the kinds of the definitions.
taken_in : List Kind → ℕ
taken_in [] = 0
taken_in (kind k guessed ∷ ks) = 1 + taken_in ks
taken_in (refusal n ∷ ks) = 0

refusal_in : List Kind → ℕ
refusal_in [] = 0
refusal_in (kind k guessed ∷ ks) = refusal_in ks
refusal_in (refusal n ∷ ks) = n

of_word : List Kind → List ℕ
of_word [] = []
of_word (kind k guessed ∷ ks) = 0 ∷ kind_number k ∷ cond guessed 1 0 ∷ []
of_word (refusal n ∷ ks) = n ∷ 0 ∷ 0 ∷ []

of_call : Call → List Kind → List ℕ
of_call (C.packet p) ks = refusal_in ks ∷ []
of_call (C.word bytes buffer) ks = of_word ks
of_call (C.payload bytes buffer) ks = refusal_in ks ∷ taken_in ks ∷ []
of_call C.reset ks = 0 ∷ []

word_kinds : (t : Tracker) (o : Outcome) (buffer : List ℕ)
    → kinds_seen (Show.word (told_numbers (Word.word_answer t o).told) buffer) ≡ of_word (kind_of o ∷ [])
unfolding of_word
word_kinds t (taken x) buffer = refl
word_kinds t (refused n) buffer = refl

total_kinds : (t : Tracker) (os : List Outcome) → ((total t os).refusal ≡ refusal_in (kinds_in os))
    × ((total t os).words ≡ taken_in (kinds_in os))
unfolding total kinds_in refusal_in taken_in
total_kinds t [] = (refl, refl)
total_kinds t (taken x ∷ os) = let more = total_kinds x.next os in (more.0, ap (λ (n : ℕ). 1 + n) more.1)
total_kinds t (refused n ∷ os) = (refl, refl)

call_kinds : (t : Tracker) (c : Call) → kinds_seen (shown (answer t c)) ≡ of_call c (kinds_of t c)
unfolding of_call refusal_in kinds_in
call_kinds t (C.packet p) = refl
call_kinds t (C.word bytes buffer) = word_kinds t (word_call t bytes (room buffer)) []
call_kinds t (C.payload bytes buffer) =
    let all = payload_total t bytes (room buffer) in
    let k = total_kinds t (payload_calls t bytes (room buffer)) in
    let n = ap (λ (r : Run). r.refusal) all ∙ k.0 in
    let m = ap (λ (r : Run). r.words) all ∙ k.1 in
    λ i. n i ∷ m i ∷ []
call_kinds t C.reset = refl

of_calls : List Call → List (List Kind) → List (List ℕ)
of_calls [] ks = []
of_calls (c ∷ calls) [] = []
of_calls (c ∷ calls) (k ∷ ks) = of_call c k ∷ of_calls calls ks

calls_kinds : (t : Tracker) (calls : List Call) → all_kinds (showing (answers t calls)) ≡ of_calls calls (kinds t calls)
unfolding all_kinds showing answers kinds of_calls
calls_kinds t [] = refl
calls_kinds t (c ∷ calls) = let one = call_kinds t c in let more = calls_kinds (after t c) calls in λ i. one i ∷ more i

-- What is seen without the last number of each record is the answers without it.
bare_shown : (x : Answer) → bare_seen (shown x) ≡ shown (bare_answer x)
bare_shown (C.packet n) = refl
bare_shown (C.word told buffer) = refl
bare_shown (C.payload words records n buffer) = refl
bare_shown C.reset = refl

bare_showing : (xs : List Answer) → all_bare (showing xs) ≡ showing (bare_answers xs)
unfolding all_bare showing bare_answers
bare_showing [] = refl
bare_showing (x ∷ xs) = λ i. bare_shown x i ∷ bare_showing xs i

-- Two arrays that are trackers with equal settings; each accepts a marker; then equal calls, with room, that begin with a packet that both accept, and of
-- which neither refuses one with 10.
pub forgetting_on_arrays : {a a' b b' m m' z z' : List ℕ} (t u : Tracker)
    (past past' calls later : List Call) {sp sp' sc sc' sl sl' : List Seen}
    → IsTracker a t → IsTracker a' u → t.settings ≡ u.settings → AcceptedMarker t past → AcceptedMarker u past'
    → Continues (run t past) (calls ++ later) → Continues (run u past') (calls ++ later) → Each Roomy (calls ++ later)
    → Ran a past sp b → Ran a' past' sp' b' → Ran b calls sc m → Ran b' calls sc' m' → Ran m later sl z
    → Ran m' later sl' z'
    → ForgottenOnArrays (HasMet (took (run t past) calls)) ((run t past).packets ≡ (run u past').packets) sc sc' sl sl' z z'
forgetting_on_arrays {a} {a'} {b} {b'} {m} {m'} {z} {z'} t u past past' calls later e e' set mt mu goes goes' room p p' q q'
    r r' =
    let one = steps e p in
    let one' = steps e' p' in
    let two = steps one.holds q in
    let two' = steps one'.holds q' in
    let three = steps two.holds r in
    let three' = steps two'.holds r' in
    let all = steps one.holds (ran_on q r) in
    let all' = steps one'.holds (ran_on q' r') in
    let f = forgetting t u past past' calls later e.good e'.good set mt mu goes goes' room in
    record {
      kinds_agree =
          ap all_kinds all.sees ∙ calls_kinds (run t past) (calls ++ later)
          ∙ ap (of_calls (calls ++ later)) f.kinds_agree
          ∙ sym (calls_kinds (run u past') (calls ++ later)) ∙ sym (ap all_kinds all'.sees);
      numbers_agree =
          λ met even. three.holds.numbers ∙ ap (λ (x : Tracker). encode_of (run x later)) (f.trackers_agree met even)
          ∙ sym three'.holds.numbers;
      seen_agree = λ met even. three.sees ∙ ap showing (f.answers_agree met even) ∙ sym three'.sees;
      bare_agree =
          λ met. ap all_bare three.sees ∙ bare_showing (answers (run (run t past) calls) later)
          ∙ ap showing (f.bare_agree met)
          ∙ sym (bare_showing (answers (run (run u past') calls) later)) ∙ sym (ap all_bare three'.sees);
    }
