-- What a call in any memory gives, on the numbers that are lent.
-- Assumes nothing.
use Prim.Native.Nat.{ℕ, zero, suc, ◌-◌, ◌/◌, ◌%◌}
use Rattle.std.proofs.Common.{◌≡◌, refl, sym, ap, ◌∙◌, subst, Option, Some, MatchOption, Result, Ok, Err, one-add}
use mathlib.Core.List.{List}
use lib.Dec.{eqb}
use lib.ListN.{length, take, drop}
use Rattle.refusals.specs.declared.Refusal.{Refusal}
use Rattle.words.specs.Word.{word_of}
use Rattle.records.specs.Records.{room}
use Rattle.payload_fsm.proofs.Rows.{choice}
use Rattle.cdp_running.specs.declared.Taken.{Taken}
use Rattle.cdp_running.specs.declared.Tracker.{Tracker}
use Rattle.cdp_running.specs.Told.{Told, WordAnswer, told_by}
use Rattle.cdp_running.specs.Next.{next_tracker}
use Rattle.cdp_running.specs.Word.{TakenWord, Outcome, taken, refused, taken_as, word_call, word_answer, WordPost}
use Rattle.cdp_running.proofs.Outcome.{next_is}
use Rattle.payload.specs.Answer.{PayloadAnswer}
use Rattle.payload.specs.Answer.{PayloadTold}
use Rattle.payload.specs.Payload.{Run, words_from, payload_call, PayloadPost}
use Rattle.payload.proofs.Run.{step_taken, step_refused}
use Rattle.tracker_array.specs.Array.{encode_of}
use Rattle.tracker_array.specs.Read.{tracker_in}
use Rattle.tracker_array.specs.Good.{GoodArray}
use Rattle.tracker_array.proofs.Laws.{reads_back, good_again}
use Rattle.tracker_memory.specs.Holds.{Holds}
use Rattle.in_place.specs.Calls.{WordInPlace, PayloadInPlace}
use Rattle.in_place.specs.Storing.{word_stores, WordStores, payload_stores}
use Rattle.in_place.proofs.Storing.{good_next}
use Rattle.in_place.proofs.Kept.{Kept, kept_taken, kept_word, kept_payload, good_after}

-- The numbers as an array of them: the same numbers.
pub as_array : {B : Type 0} {o : Option B} {y : B} (P : Type 0) (Q : B → Type 0) → o ≡ Some y → MatchOption o P Q → Q y
as_array {B} P Q e m = subst (λ (x : Option B). MatchOption x P Q) e m

-- The word call. q is a, as an array of as many numbers.
pub word_in_place : {a q b out₀ out after : List ℕ} {told : Told} → q ≡ a → GoodArray a → Holds after
    → WordPost (tracker_in q) b out₀ (record { tracker = tracker_in after; told = told }) out
    → WordInPlace a b out₀ told after out
word_in_place {a} {q} {b} {out₀} {out} {after} {told} same h k given =
    let p = subst (λ (l : List ℕ). WordPost (tracker_in l) b out₀ (record { tracker = tracker_in after; told = told }) out) same given in
    let e = k.numbers ∙ ap (λ (x : WordAnswer). encode_of x.tracker) p.answer in
    record {
      answer = ap (λ (x : WordAnswer). x.told) p.answer;
      numbers = e;
      buffer_is = p.buffer_is;
      good = good_after e (kept_word (tracker_in a) (h.is.good, h.is.sized) b (room out₀));
    }

-- What a word call leaves is what the kind of the word stores, or nothing.
pub word_stored : {a b out₀ out after : List ℕ} (r : Result Taken Refusal) → GoodArray a
    → WordInPlace a b out₀ (told_by r) after out
    → WordStores a b r after
word_stored {a} {b} {out₀} {out} {after} r h given = at r (word_call (tracker_in a) b (room out₀)) refl given.answer given.numbers
  where
    at : (r : Result Taken Refusal) (o : Outcome) → word_call (tracker_in a) b (room out₀) ≡ o
        → told_by r ≡ (word_answer (tracker_in a) (word_call (tracker_in a) b (room out₀))).told
        → after ≡ encode_of (word_answer (tracker_in a) (word_call (tracker_in a) b (room out₀))).tracker
        → WordStores a b r after
    at (Ok told) (taken x) e answer numbers =
        numbers ∙ ap (λ (y : Outcome). encode_of (word_answer (tracker_in a) y).tracker) e
        ∙ ap encode_of (next_is (tracker_in a) b (room out₀) e)
        ∙ sym (good_next a (taken_as (tracker_in a) (word_of b)) (word_of b) h)
    at (Ok told) (refused n) e answer numbers =
        let f = answer ∙ ap (λ (y : Outcome). (word_answer (tracker_in a) y).told) e in cc
    at (Err s) (taken x) e answer numbers =
        let f = answer ∙ ap (λ (y : Outcome). (word_answer (tracker_in a) y).told) e in cc
    at (Err s) (refused n) e answer numbers =
        numbers ∙ ap (λ (y : Outcome). encode_of (word_answer (tracker_in a) y).tracker) e ∙ sym h.is.numbers

-- The payload call.
pub payload_in_place : {a q b out₀ out after : List ℕ} {r : PayloadTold} → q ≡ a → GoodArray a → Holds after
    → PayloadPost (tracker_in q) b out₀ (record { tracker = tracker_in after; words = r.words; records = r.records; refusal = r.refusal }) out
    → PayloadInPlace a b out₀ r after out
payload_in_place {a} {q} {b} {out₀} {out} {after} {r} same h k given =
    let post : List ℕ → Type 0 = λ l. PayloadPost (tracker_in l) b out₀
    (record { tracker = tracker_in after; words = r.words; records = r.records; refusal = r.refusal }) out in
    let p = subst post same given in
    let e = k.numbers ∙ ap (λ (x : PayloadAnswer). encode_of x.tracker) p.answer in
    record {
      answer = ap (λ (x : PayloadAnswer). record { words = x.words; records = x.records; refusal = x.refusal }) p.answer;
      numbers = e;
      buffer_is = p.buffer_is;
      good = good_after e (kept_payload (tracker_in a) b (room out₀) (h.is.good, h.is.sized));
    }

-- A word that is taken, of a tracker's own numbers.
taken_stored : (t : Tracker) (b : List ℕ) (places : ℕ) {x : TakenWord} → Kept t → word_call t b places ≡ taken x
    → encode_of x.next
    ≡ word_stores (taken_as (tracker_in (encode_of t)) (word_of b)) (word_of b) (encode_of t)
taken_stored t b places k e =
    let w = word_of b in
    ap encode_of (next_is t b places e)
    ∙ ap (λ (u : Tracker). encode_of (next_tracker u (taken_as u w) w)) (sym (reads_back t))
    ∙ sym (good_next (encode_of t) (taken_as (tracker_in (encode_of t)) w) w (good_again t k.0 k.1))

-- What words one after the other leave of a tracker's numbers is what those that were taken store, in turn.
abbrev RunStores : List ℕ → Tracker → Run → Type 0
RunStores b t r = encode_of r.tracker ≡ payload_stores r.words b (encode_of t)

words_stored : (n : ℕ) (t : Tracker) (b : List ℕ) (places : ℕ) → Kept t → RunStores b t (words_from n t b places)
unfolding words_from payload_stores
words_stored zero t b places k = refl
words_stored (suc n) t b places k = at (word_call t (take 10 b) places) refl (words_stored n)
  where
    at : (o : Outcome) → word_call t (take 10 b) places ≡ o
        → ((u : Tracker) (l : List ℕ) (p : ℕ) → Kept u → RunStores l u (words_from n u l p))
        → RunStores b t (words_from (suc n) t b places)
    at (taken x) e more =
        let p = places - length x.records in
        let r = words_from n x.next (drop 10 b) p in
        subst (RunStores b t) (sym (step_taken n t b places e))
        (more x.next (drop 10 b) p (kept_taken t k (take 10 b) places (taken x) e)
        ∙ ap (payload_stores r.words (drop 10 b)) (taken_stored t (take 10 b) places k e)
        ∙ ap (λ (m : ℕ). payload_stores m b (encode_of t)) (sym (one-add r.words)))
    at (refused number) e more = subst (RunStores b t) (sym (step_refused n t b places e)) refl

call_stored : (t : Tracker) (b : List ℕ) (places : ℕ) → Kept t → RunStores b t (payload_call t b places)
unfolding payload_call payload_stores
call_stored t b places k =
    choice (RunStores b t) (eqb (length b % 10) 0)
    (choice (RunStores b t) t.accepted (words_stored (length b / 10) t b places k) refl)
    refl

-- What a payload call leaves is what the words that it took store, one after the other.
pub payload_stored : {a b out₀ out after : List ℕ} {r : PayloadTold} → GoodArray a → PayloadInPlace a b out₀ r after out
    → after ≡ payload_stores r.words b a
payload_stored {a} {b} {out₀} {out} {after} {r} h given =
    given.numbers
    ∙ call_stored (tracker_in a) b (room out₀) (h.is.good, h.is.sized)
    ∙ ap (λ (x : PayloadTold). payload_stores x.words b (encode_of (tracker_in a))) (sym given.answer)
    ∙ ap (payload_stores r.words b) (sym h.is.numbers)
