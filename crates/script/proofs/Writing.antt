-- The word of a line, by its kind.
-- Assumes nothing.
use Rattle.std.proofs.Common.{ℕ, zero, suc, ◌≤◌, ◌<◌, ◌≡◌, sym, ap, subst, Bool, true, false, ◌&&◌, List, [], ◌∷◌, take, get_or, arith}
use Rattle.std.specs.List.{list_all}
use borrow.Author.Tests.{leb-true}
use Rattle.words.proofs.Tests.{both}
use Rattle.data_ids.specs.DataIds.{is_data_id}
use Rattle.writer.specs.declared.WordKind.{WordKind}
use Rattle.writer.specs.declared.WordKind.TheVariants as W
use Rattle.writer.specs.Write.{WritePost, write_refusal}
use Rattle.script.specs.Asked.{nth, are_bytes, is_byte, asked_of}

-- What is written for the kind at hand.
pub asked : (n : List ℕ) {kind k : WordKind} {slice after : List ℕ} {r : ℕ} → kind ≡ k
    → WritePost (asked_of k n).fits (asked_of k n).bytes slice r after
    → WritePost (asked_of kind n).fits (asked_of kind n).bytes slice r after
asked n {slice = slice} {after} {r} e =
    subst (λ (k : WordKind). WritePost (asked_of k n).fits (asked_of k n).bytes slice r after) (sym e)

-- Nine numbers that are no bytes are no data word's.
pub no_bytes : (n slice : List ℕ) → are_bytes n ≡ false → WritePost (asked_of W.Data n).fits (asked_of W.Data n).bytes slice 8 slice
no_bytes n slice e =
    let fits : (are_bytes n && is_data_id (nth n 0)) ≡ false = ap (λ (b : Bool). b && is_data_id (nth n 0)) e in
    record { answer = sym (ap (λ (b : Bool). write_refusal b slice) fits); slice_is = simp fits }

pub bytes : (n slice after : List ℕ) (r : ℕ) → are_bytes n ≡ true → WritePost (is_data_id (nth n 0)) (asked_of W.Data n).bytes slice r after
    → WritePost (asked_of W.Data n).fits (asked_of W.Data n).bytes slice r after
bytes n slice after r e =
    subst (λ (b : Bool). WritePost b (asked_of W.Data n).bytes slice r after)
    (sym (ap (λ (b : Bool). b && is_data_id (nth n 0)) e))

-- Each of the nine is below 256.
pub record Nine (n : List ℕ) : Type 0 where
  pub b1 : nth n 1 ≤ 255
  pub b2 : nth n 2 ≤ 255
  pub b3 : nth n 3 ≤ 255
  pub b4 : nth n 4 ≤ 255
  pub b5 : nth n 5 ≤ 255
  pub b6 : nth n 6 ≤ 255
  pub b7 : nth n 7 ≤ 255
  pub b8 : nth n 8 ≤ 255
  pub b9 : nth n 9 ≤ 255

each_byte : (xs : List ℕ) (k i : ℕ) → list_all is_byte (take k xs) ≡ true → i < k → get_or xs i 0 ≤ 255
each_byte [] k i e h = omega arith
each_byte (x ∷ xs) zero i e h = absurd (omega (arith, h))
each_byte (x ∷ xs) (suc k) zero e h = leb-true x 255 (both (is_byte x) (list_all is_byte (take k xs)) e).0
each_byte (x ∷ xs) (suc k) (suc i) e h = each_byte xs k i (both (is_byte x) (list_all is_byte (take k xs)) e).1 (omega (arith, h))

pub nine : (n : List ℕ) → are_bytes n ≡ true → Nine n
nine [] e =
    record {
      b1 = omega arith;
      b2 = omega arith;
      b3 = omega arith;
      b4 = omega arith;
      b5 = omega arith;
      b6 = omega arith;
      b7 = omega arith;
      b8 = omega arith;
      b9 = omega arith;
    }
nine (x ∷ n) e =
    record {
      b1 = each_byte n 9 0 e (omega arith);
      b2 = each_byte n 9 1 e (omega arith);
      b3 = each_byte n 9 2 e (omega arith);
      b4 = each_byte n 9 3 e (omega arith);
      b5 = each_byte n 9 4 e (omega arith);
      b6 = each_byte n 9 5 e (omega arith);
      b7 = each_byte n 9 6 e (omega arith);
      b8 = each_byte n 9 7 e (omega arith);
      b9 = each_byte n 9 8 e (omega arith);
    }
