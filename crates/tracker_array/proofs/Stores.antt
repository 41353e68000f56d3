-- The numbers of an array one after the other: asked, stored, and stored at every place.
-- Assumes nothing.
use Prim.Native.Nat.{ℕ, zero, suc, ◌+◌, ◌-◌, ◌≤◌, ◌<◌}
use mathlib.Core.Path.{◌≡◌, refl, ap, sym, ◌∙◌}
use mathlib.Core.Bool.{Bool, true, ◌&&◌, and-true, and_assoc}
use mathlib.Core.List.{List, [], ◌∷◌, ◌++◌}
use native.Mathlib.Nat.{zero-add, add-zero, suc-add}
use native.Mathlib.Numerals.{add-one}
use native.Mathlib.Omega.{arith}
use lib.Dec.{eqb}
use lib.ListN.{length, get_or, set, replicate, drop, drop_of_length-le}
use lib.Seq.{sets, drop-cons}
use borrow.Author.Tests.{eqb-true, eq-eqb, ne_eqb}
use Rattle.words.proofs.Tests.{both}
use Rattle.cdp_running.specs.declared.Tracker.{Tracker}
use Rattle.tracker_array.specs.Array.{size, first_numbers, stored_numbers, encode_of, written_to}
use Rattle.tracker_array.specs.Place as P
use Rattle.tracker_array.specs.Read.{place, zeros_from}

-- Numbers of a list from a place on.
unfoldable pub numbers_from : ℕ → ℕ → List ℕ → List ℕ
numbers_from zero i a = []
numbers_from (suc n) i a = get_or a i 0 ∷ numbers_from n (suc i) a

pub spelled : (n i : ℕ) (a : List ℕ) → length a ≡ i + n → numbers_from n i a ≡ drop i a
unfolding numbers_from
spelled zero i a e = let past : length a ≤ i = omega arith in sym (drop_of_length-le a past)
spelled (suc n) i a e =
    sym (drop-cons a i 0 (omega arith) ∙ ap (λ (l : List ℕ). get_or a i 0 ∷ l) (sym (spelled n (suc i) a (omega arith))))

pub in_two : (n m i : ℕ) (a : List ℕ) → numbers_from (n + m) i a ≡ numbers_from n i a ++ numbers_from m (i + n) a
unfolding numbers_from
in_two zero m i a = λ j. numbers_from (zero-add m j) (sym (add-zero i) j) a
in_two (suc n) m i a =
    (λ j. numbers_from (suc-add n m j) i a)
    ∙ ap (λ (l : List ℕ). get_or a i 0 ∷ l) (in_two n m (suc i) a
    ∙ (λ j. numbers_from n (suc i) a ++ numbers_from m (one_on j) a))
  where
    one_on : suc i + n ≡ i + suc n
    one_on = omega arith

-- Numbers that are 0.
pub all_zero : (n i : ℕ) (a : List ℕ) → zeros_from n i a ≡ true → numbers_from n i a ≡ replicate n 0
unfolding numbers_from zeros_from
all_zero zero i a e = refl
all_zero (suc n) i a e =
    let (first, rest) = both (eqb (place a i) 0) (zeros_from n (suc i) a) e in
    λ j. eqb-true (place a i) 0 first j ∷ all_zero n (suc i) a rest j

-- One after the other: the first of them and the rest, up to none.
pub one_more : (all : Bool) (i to : ℕ) (a : List ℕ) → i < to
    → ((all && eqb (place a i) 0) && zeros_from (to - (i + 1)) (i + 1) a)
    ≡ (all && zeros_from (to - i) i a)
unfolding zeros_from
one_more all i to a h =
    let left : to - i ≡ suc (to - (i + 1)) = omega arith in
    and_assoc all (eqb (place a i) 0) (zeros_from (to - (i + 1)) (i + 1) a)
    ∙ (λ j. all && (eqb (place a i) 0 && zeros_from (to - (i + 1)) (add-one i j) a))
    ∙ ap (λ (n : ℕ). all && zeros_from n i a) (sym left)

pub no_more : (all : Bool) (i to : ℕ) (a : List ℕ) → to ≤ i → all ≡ (all && zeros_from (to - i) i a)
unfolding zeros_from
no_more all i to a h =
    let none : to - i ≡ 0 = omega arith in
    sym (and-true all) ∙ ap (λ (n : ℕ). all && zeros_from n i a) (sym none)

-- Zeros stored one after the other.
pub one_stored : (i to : ℕ) (a : List ℕ) → i < to
    → sets (set a i 0) (i + 1) (replicate (to - (i + 1)) 0) ≡ sets a i (replicate (to - i) 0)
one_stored i to a h =
    let left : to - i ≡ suc (to - (i + 1)) = omega arith in
    (λ j. sets (set a i 0) (add-one i j) (replicate (to - (i + 1)) 0))
    ∙ ap (λ (n : ℕ). sets a i (replicate n 0)) (sym left)

pub all_stored : (i to : ℕ) (a : List ℕ) → to ≤ i → a ≡ sets a i (replicate (to - i) 0)
all_stored i to a h = let none : to - i ≡ 0 = omega arith in ap (λ (n : ℕ). sets a i (replicate n 0)) (sym none)

-- A tracker's numbers stored at every place, whatever stood there.
pub stored_all : (a : List ℕ) (t : Tracker) → length a ≡ size
    → sets (sets (sets a P.unused (replicate (size - P.unused) 0)) P.mark
    (first_numbers t.settings t.accepted t.packets t.packet t.at)) P.stored (stored_numbers t.stored t.frame)
    ≡ encode_of t
unfolding numbers_from encode_of
stored_all a t long =
    ap (λ (l : List ℕ). sets (sets (sets l P.unused (replicate (size - P.unused) 0)) P.mark
    (first_numbers t.settings t.accepted t.packets t.packet t.at)) P.stored (stored_numbers t.stored t.frame))
    (sym (spelled size 0 a long))

-- A tracker written to an array of its length, and to another.
pub wrote : (a : List ℕ) (t : Tracker) → length a ≡ size → encode_of t ≡ written_to a t
wrote a t l = simp (eq-eqb _ _ l)

pub left : (a : List ℕ) (t : Tracker) → (length a ≡ size → ⊥) → a ≡ written_to a t
left a t h = simp (ne_eqb _ _ h)
