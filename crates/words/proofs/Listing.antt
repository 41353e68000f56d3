-- A list that is read element by element is the list.
-- Assumes nothing.
use Rattle.std.proofs.Common.{◌≡◌, ℕ, zero, suc, ◌+◌, ◌≤◌, List, [], ◌∷◌, length, get_or, take, drop, refl, sym, ap, ◌∙◌, arith, add-zero, add-suc, drop-cons}
use Rattle.std.proofs.Math.ListN.{drop_of_length-le}

module _ {A : Type 0} (d : A) where
  -- n elements, one after the other from a place on.
  abbrev pub reads : ℕ → ℕ → List A → List A
  reads zero i l = []
  reads (suc n) i l = get_or l i d ∷ reads n (suc i) l

  -- They are the rest of the list where so many are left.
  pub reads_all : (n i : ℕ) (l : List A) → i + n ≡ length l → reads n i l ≡ drop i l
  reads_all zero i l e = sym (drop_of_length-le l {i = i} (omega arith))
  reads_all (suc n) i l e =
      let more : suc i + n ≡ length l = omega arith in
      ap (λ (r : List A). get_or l i d ∷ r) (reads_all n (suc i) l more) ∙ sym (drop-cons l i d (omega arith))

  -- n elements from k places after a place on, as code indexes them; and that they are a part of the list.
  abbrev pub reads_at : ℕ → ℕ → ℕ → List A → List A
  reads_at zero at k l = []
  reads_at (suc n) at k l = get_or l (at + k) d ∷ reads_at n at (suc k) l

  from : (n at k : ℕ) (l : List A) → at + k + n ≤ length l → reads_at n at k l ≡ take n (drop (at + k) l)
  from zero at k l h = refl
  from (suc n) at k l h =
      let next : at + suc k ≡ suc (at + k) = add-suc at k in
      ap (λ (r : List A). get_or l (at + k) d ∷ r)
      (from n at (suc k) l (omega arith) ∙ ap (λ (j : ℕ). take n (drop j l)) next)
      ∙ ap (take (suc n)) (sym (drop-cons l (at + k) d (omega arith)))

  pub reads_part : (n at : ℕ) (l : List A) → at + n ≤ length l → reads_at n at 0 l ≡ take n (drop at l)
  reads_part n at l h = from n at 0 l (omega arith) ∙ ap (λ (j : ℕ). take n (drop j l)) (add-zero at)
