-- One word: from what was written and stored to what the step gives.
use Prim.Native.Nat.{ℕ, ◌<◌}
use mathlib.Core.Path.{◌≡◌, refl, sym, ap, subst, ◌∙◌}
use mathlib.Core.Bool.{Bool, true, false, cond, true≢false}
use mathlib.Core.List.{List, []}
use native.Mathlib.Omega.{arith}
use Rattle.std.specs.Prelude.{Result, Ok, Err, IsErr, IsErrAnd}
use lib.Dec.{eqb}
use lib.ListN.{length}
use borrow.Author.Tests.{le-ltb}
use Rattle.words.specs.declared.Word.{Word}
use Rattle.words.specs.Word.{word_of, from_buf}
use Rattle.packet.specs.Packet.{max_words}
use Rattle.payload_fsm.specs.declared.Advanced.{Advanced}
use Rattle.payload_fsm.specs.declared.ItsPayloadWord.{ItsPayloadWord}
use Rattle.refusals.specs.Refusals.{number}
use Rattle.records.specs.declared.Row.{Row}
use Rattle.refusals.specs.declared.Refusal.{Refusal}
use Rattle.refusals.specs.declared.Refusal.TheVariants.{Size, Room}
use Rattle.records.specs.Records.{given, flat, room, exceed, padded, silent, WritePost}
use Rattle.records.proofs.Given.{given_padded, silent_padded, unheard}
use Rattle.cdp_running.specs.declared.Tracker.{Tracker}
use Rattle.cdp_running.specs.declared.Taken.{Taken}
use Rattle.cdp_running.specs.Told as T
use Rattle.cdp_running.specs.Told.{Told, WordAnswer, told_by, word_answered}
use Rattle.cdp_running.specs.Tracker.{Good}
use Rattle.cdp_running.specs.Next.{next_tracker}
use Rattle.cdp_running.specs.Word.{taken_as, position_now, rows_as, rows_of, records_of, Outcome, taken, refused, word_call, word_answer, WordPost}
use Rattle.cdp_running.proofs.Calls.{not_ten, word_1, word_4, word_taken}
use Rattle.tracker_memory.specs.Memory.{told_as, StepPost}

-- Rows that give no record are written by writing nothing.
pub quiet_wrote : (here packet : ℕ) (rows : List Row) (buffer : List ℕ) → silent rows ≡ true
    → WritePost here packet (padded rows) buffer (Ok 0) buffer
unfolding flat
quiet_wrote here packet rows buffer s =
    let none : given here packet (padded rows) ≡ [] = given_padded here packet rows ∙ unheard here packet rows s in
    let fits = le-ltb (room buffer) 0 (omega arith) in
    record { answer = simp (none, fits); number = simp (none, fits); value = simp (none, fits); buffer_is = simp (none, fits) }

-- What is asked of the six places is asked of the rows.
pub kind_silent : (t : Tracker) (a : Advanced) (w : Word) (kind : ItsPayloadWord) {r : Bool} {rows : List Row}
    → a.word ≡ kind → r ≡ silent rows
    → rows ≡ padded (rows_as kind a.guessed t w) → r ≡ true → silent (rows_of t a w) ≡ true
kind_silent t a w kind e p q h =
    subst (λ (k : ItsPayloadWord). silent (rows_as k a.guessed t w) ≡ true) (sym e)
    (sym (silent_padded (rows_as kind a.guessed t w)) ∙ sym (ap silent q) ∙ sym p ∙ h)

full : (b : Bool) (n : ℕ) {x : Result ℕ Refusal} {r : Refusal} → x ≡ cond b (Err Room) (Ok n) → x ≡ Err r → b ≡ true
full true n p q = refl
full false n p q = cc

room_it_is : (b : Bool) (n : ℕ) {r : Refusal} → Err r ≡ cond b (Err Room) (Ok n) → r ≡ Room
room_it_is true n q = cc
room_it_is false n q = cc

fits : (b : Bool) (m : ℕ) {n : ℕ} {x : Result ℕ Refusal} → x ≡ cond b (Err Room) (Ok m) → x ≡ Ok n → b ≡ false
fits true m p q = cc
fits false m p q = refl

module _ (t : Tracker) (w : Word) where
  abbrev rows : List Row
  rows = padded (rows_of t (taken_as t w) w)

  records_are : given (position_now t) t.packets rows ≡ records_of t w
  unfolding records_of
  records_are = given_padded (position_now t) t.packets (rows_of t (taken_as t w) w)

  module _ {buffer after : List ℕ} {x : Result ℕ Refusal} (wrote : WritePost (position_now t) t.packets rows buffer x after) where
    answered : x ≡ cond (exceed (records_of t w) (room buffer)) (Err Room) (Ok (length (records_of t w)))
    answered = rw records_are at wrote.answer

    pub step_full : {r : Refusal} → x ≡ Err r → StepPost t w buffer (Err r) t after
    step_full e =
        record {
          wrote = subst (λ (y : Result ℕ Refusal). WritePost (position_now t) t.packets rows buffer y after) e wrote;
          tracker = simp (full (exceed (records_of t w) (room buffer)) (length (records_of t w)) answered e);
        }

    pub step_done : {n : ℕ} {l : Tracker} → x ≡ Ok n → l ≡ next_tracker t (taken_as t w) w
        → StepPost t w buffer (Ok n) l after
    step_done e p =
        record {
          wrote = subst (λ (y : Result ℕ Refusal). WritePost (position_now t) t.packets rows buffer y after) e wrote;
          tracker = simp (fits (exceed (records_of t w) (room buffer)) (length (records_of t w)) answered e) p;
        }

-- The tracker after a step.
module _ {t : Tracker} {w : Word} {buffer after : List ℕ} {l : Tracker} where
  pub moved : {n : ℕ} → StepPost t w buffer (Ok n) l after → l ≡ next_tracker t (taken_as t w) w
  moved s = s.tracker ∙ simp (fits (exceed (records_of t w) (room buffer)) (length (records_of t w)) (answered t w s.wrote) refl)

  pub stayed : {r : Refusal} → StepPost t w buffer (Err r) l after → l ≡ t
  stayed s = s.tracker ∙ simp (full (exceed (records_of t w) (room buffer)) (length (records_of t w)) (answered t w s.wrote) refl)

  -- It is refused for the room alone.
  pub of_room : {r : Refusal} → StepPost t w buffer (Err r) l after → r ≡ Room
  of_room s = room_it_is (exceed (records_of t w) (room buffer)) (length (records_of t w)) (answered t w s.wrote)

  pub of_written : {x r : Result ℕ Refusal} → x ≡ r → StepPost t w buffer x l after → StepPost t w buffer r l after
  of_written e s = subst (λ (r : Result ℕ Refusal). StepPost t w buffer r l after) e s

pub at_load : {t u : Tracker} {w v : Word} {buffer after : List ℕ} {r : Result ℕ Refusal} → w ≡ v → StepPost t w buffer r u after
    → StepPost t v buffer r u after
at_load {t} {u} {buffer = buffer} {after} {r} e s = subst (λ (x : Word). StepPost t x buffer r u after) e s

-- What the code computed on the way, put in the definition's terms.
module _ (t : Tracker) (w : Word) {a : Advanced} (p : a ≡ taken_as t w) where
  pub wrote_as : {here : ℕ} {buffer after : List ℕ} {x : Result ℕ Refusal} → here ≡ position_now t
      → WritePost here t.packets (padded (rows_of t a w)) buffer x after
      → WritePost (position_now t) t.packets (padded (rows_of t (taken_as t w) w)) buffer x after
  wrote_as {here} {buffer} {after} {x} h wrote =
      subst (λ (b : Advanced). WritePost (position_now t) t.packets (padded (rows_of t b w)) buffer x after) p
      (subst (λ (n : ℕ). WritePost n t.packets (padded (rows_of t a w)) buffer x after) h wrote)

  pub next_as : {l : Tracker} → l ≡ next_tracker t a w → l ≡ next_tracker t (taken_as t w) w
  next_as e = e ∙ ap (λ (b : Advanced). next_tracker t b w) p

-- The word call by a step, where the word is ten bytes, a packet was accepted and takes one more.
module _ (t : Tracker) (bytes : List ℕ) {buffer : List ℕ} (g : Good t) (ten : eqb (length bytes) 10 ≡ true) (have : t.accepted ≡ true)
    (low : t.at.count < max_words) {w : Word} (q : w ≡ word_of bytes) {x : Result ℕ Refusal} {u : Tracker} {after : List ℕ}
    (s : StepPost t w buffer x u after) where
  at_word : {r : Result ℕ Refusal} → x ≡ r → StepPost t (word_of bytes) buffer r u after
  at_word {r} e = subst (λ (v : Word). StepPost t v buffer r u after) q (of_written e s)

  pub word_denied : {r : Refusal} → x ≡ Err r → WordPost t bytes buffer (record { tracker = u; told = T.Refused (number r) }) after
  word_denied e =
      word_4 t bytes buffer g ten have low (at_word e).wrote refl
      (λ i. record { tracker = stayed (at_word e) i; told = T.Refused (number (of_room (at_word e) i)) })

  pub word_done : {n : ℕ} {told : Taken} → x ≡ Ok n → told ≡ told_as t w 0
      → WordPost t bytes buffer
      (record {
        tracker = u;
        told = T.Taken (record { kind = told.kind; guessed = told.guessed; records = n; frame = told.frame; lanes = told.lanes });
      })
      after
  word_done {n} {told} e p =
      let is : told ≡ told_as t (word_of bytes) 0 = p ∙ ap (λ (v : Word). told_as t v 0) q in
      word_taken t bytes buffer g ten have low (at_word e).wrote refl
      (λ i. record {
        tracker = moved (at_word e) i;
        told = T.Taken (record { kind = (is i).kind; guessed = (is i).guessed; records = n; frame = (is i).frame; lanes = (is i).lanes });
      })

-- What `?` hands on.
pub handed_on : {A : Type 0} (r : Result A Refusal) {x : Refusal} → IsErr r × IsErrAnd r (λ y. y ≡ x) → r ≡ Err x
handed_on (Ok u) (_, none) = absurd none
handed_on (Err y) (_, same) = ap Err same

abbrev is_taken : Told → Bool
is_taken (T.Taken x) = true
is_taken (T.Refused n) = false

-- A refused word leaves the tracker.
still : (t : Tracker) (o : Outcome) {u : Tracker} {n : ℕ} → ◌≡◌ {A = WordAnswer} (record { tracker = u; told = T.Refused n }) (word_answer t o) → u ≡ t
still t (taken x) e = absurd (true≢false (sym (ap (λ (r : WordAnswer). is_taken r.told) e)))
still t (refused m) e = ap (λ (r : WordAnswer). r.tracker) e

size_it_is : (b : Bool) (w : Word) {x : Refusal} → Err x ≡ cond b (Ok w) (Err Size) → x ≡ Size
size_it_is true w q = cc
size_it_is false w q = cc

module _ {t u : Tracker} {bytes buffer after : List ℕ} where
  pub told_with : {x r : Result Taken Refusal} → x ≡ r → WordPost t bytes buffer (record { tracker = u; told = told_by x }) after
      → WordPost t bytes buffer (record { tracker = u; told = told_by r }) after
  told_with e w = subst (λ (r : Result Taken Refusal). WordPost t bytes buffer (record { tracker = u; told = told_by r }) after) e w

  -- The same by value.
  pub by_value : {next : Taken} {x : Result Taken Refusal} → x ≡ Ok next → WordPost t bytes buffer (record { tracker = u; told = told_by x }) after
      → WordPost t bytes buffer (word_answered t (Ok (u, next))) after
  by_value e w = told_with e w

  pub refused_by_value : {x : Result Taken Refusal} {r : Result (Tracker × Taken) Refusal} {y : Refusal} → x ≡ Err y → r ≡ Err y
      → WordPost t bytes buffer (record { tracker = u; told = told_by x }) after
      → WordPost t bytes buffer (word_answered t r) after
  refused_by_value {y = y} e p w =
      let refused : WordPost t bytes buffer (record { tracker = u; told = T.Refused (number y) }) after = told_with e w in
      subst (λ (q : Result (Tracker × Taken) Refusal). WordPost t bytes buffer (word_answered t q) after) (sym p)
      (subst (λ (v : Tracker). WordPost t bytes buffer (record { tracker = v; told = T.Refused (number y) }) after)
      (still t (word_call t bytes (room buffer)) refused.answer) refused)

-- Bytes that are no word.
pub word_short : (t : Tracker) (bytes : List ℕ) {buffer : List ℕ} → Good t → {x : Result Word Refusal} {y : Refusal} {r : Result Taken Refusal}
    → x ≡ from_buf bytes → x ≡ Err y → r ≡ Err y
    → WordPost t bytes buffer (record { tracker = t; told = told_by r }) buffer
word_short t bytes {buffer} g d e p =
    told_with (sym (p ∙ ap Err (size_it_is (eqb (length bytes) 10) (word_of bytes) (sym e ∙ d)))) (word_1 t bytes buffer g (not_ten bytes d e) refl)
