-- Laws of words one after the other: a word that is taken, one that is refused, and one that gives no record.
-- Assumes nothing.
use Prim.Native.Nat.{ℕ, suc, ◌+◌, ◌-◌, ◌<◌}
use mathlib.Core.Path.{◌≡◌, sym, ap, ◌∙◌}
use mathlib.Core.Bool.{true}
use mathlib.Core.List.{List, [], ◌++◌, append_assoc}
use native.Mathlib.Nat.{add_assoc, zero-add, sub-zero}
use native.Mathlib.Omega.{arith}
use borrow.Author.Tests.{lt-leb, le-ltb, eq-eqb}
use lib.ListN.{length, take, drop}
use Rattle.words.specs.Word.{word_of}
use Rattle.packet.specs.Packet.{max_words}
use Rattle.records.specs.Records.{Record, silent}
use Rattle.records.proofs.Given.{unheard}
use Rattle.stored.specs.Stored.{frame_told, lanes_told}
use Rattle.cdp_running.specs.declared.Tracker.{Tracker}
use Rattle.cdp_running.specs.Next.{next_tracker}
use Rattle.cdp_running.specs.Word.{taken_as, position_now, rows_of, records_of, TakenWord, taken, refused, taken_of, word_call}
use Rattle.payload.specs.Payload.{Run, stop, preceded, words_from}

pub step_taken : (n : ℕ) (t : Tracker) (b : List ℕ) (places : ℕ) {x : TakenWord}
    → word_call t (take 10 b) places ≡ taken x
    → words_from (suc n) t b places ≡ preceded 1 x.records
    (words_from n x.next (drop 10 b) (places - length x.records))
unfolding words_from
step_taken n t b places e = simp e

pub step_refused : (n : ℕ) (t : Tracker) (b : List ℕ) (places : ℕ) {number : ℕ}
    → word_call t (take 10 b) places ≡ refused number
    → words_from (suc n) t b places ≡ stop t number
unfolding words_from
step_refused n t b places e = simp e

pub preceded_twice : (k j : ℕ) (xs ys : List Record) (r : Run)
    → preceded k xs (preceded j ys r) ≡ preceded (k + j) (xs ++ ys) r
preceded_twice k j xs ys r =
    λ i. record { tracker = r.tracker; words = sym (add_assoc k j r.words) i; records = sym (append_assoc xs ys r.records) i; refusal = r.refusal }

pub preceded_none : (r : Run) → preceded 0 [] r ≡ r
preceded_none r =
    λ i. record { tracker = r.tracker; words = zero-add r.words i; records = r.records; refusal = r.refusal }

-- A word that gives no record is taken, whatever room there is.
module _ (t : Tracker) (bytes : List ℕ) (ten : length bytes ≡ 10) (have : t.accepted ≡ true)
    (low : t.at.count < max_words)
    (quiet : silent (rows_of t (taken_as t (word_of bytes)) (word_of bytes)) ≡ true) where
  pub silent_call : (places : ℕ) → word_call t bytes places
      ≡ taken
      (record {
        next = next_tracker t (taken_as t (word_of bytes)) (word_of bytes);
        records = [];
        kind = (taken_as t (word_of bytes)).word;
        guessed = (taken_as t (word_of bytes)).guessed;
        frame =
            frame_told t.settings.frames (taken_as t (word_of bytes)).word (word_of bytes) (position_now t) t.frame;
        lanes = lanes_told (taken_as t (word_of bytes)).word (word_of bytes);
      })
  unfolding word_call taken_of records_of
  silent_call places =
      let none = unheard (position_now t) t.packets (rows_of t (taken_as t (word_of bytes)) (word_of bytes)) quiet in
      simp (eq-eqb _ _ ten, have, lt-leb _ _ low, none, le-ltb places 0 (omega arith))

pub silent_step : (n : ℕ) (t : Tracker) (b : List ℕ) (places : ℕ) → length (take 10 b) ≡ 10 → t.accepted ≡ true
    → t.at.count < max_words
    → silent (rows_of t (taken_as t (word_of (take 10 b))) (word_of (take 10 b))) ≡ true
    → words_from (suc n) t b places ≡ preceded 1 []
    (words_from n (next_tracker t (taken_as t (word_of (take 10 b))) (word_of (take 10 b))) (drop 10 b) places)
silent_step n t b places ten have low quiet =
    let w = word_of (take 10 b) in
    step_taken n t b places (silent_call t (take 10 b) ten have low quiet places)
    ∙ ap (λ (p : ℕ). preceded 1 [] (words_from n (next_tracker t (taken_as t w) w) (drop 10 b) p)) (sub-zero places)
