-- Laws of `each`: one more or none, and words of ten bytes as one row of bytes, which the code passes through.
-- Assumes nothing.
use Prim.Native.Nat.{ℕ, zero, suc, ◌+◌, ◌-◌, ◌*◌, ◌/◌, ◌%◌, ◌≤◌, ◌<◌}
use mathlib.Core.Path.{◌≡◌, refl, sym, ap, ◌∙◌}
use mathlib.Core.List.{List, [], ◌∷◌, ◌++◌, append_assoc}
use native.Mathlib.Numerals.{add-one}
use native.Mathlib.Omega.{arith}
use Rattle.comparison.specs.declared.Place.{Place}
use Rattle.comparison.specs.Compare.{each, each_one}

pub each_more : (n i : ℕ) (given : ℕ → List Place) → i < n
    → each (n - i) i given ≡ given i ++ each (n - (i + 1)) (i + 1) given
unfolding each
each_more n i given h =
    let e : n - i ≡ suc (n - (i + 1)) = omega arith in
    rw (e, add-one i)

pub each_none : (n i : ℕ) (given : ℕ → List Place) → n ≤ i → each (n - i) i given ≡ []
unfolding each
each_none n i given h =
    let e : n - i ≡ 0 = omega arith in
    rw e

-- What n + m numbers give is what n give and then m.
each_and : (n m i : ℕ) (given : ℕ → List Place) → each (n + m) i given ≡ each n i given ++ each m (i + n) given
unfolding each
each_and zero m i given =
    let e : zero + m ≡ m = omega arith in
    let e' : i + zero ≡ i = omega arith in
    rw (e, e')
each_and (suc n) m i given =
    let e : suc n + m ≡ suc (n + m) = omega arith in
    let e' : suc i + n ≡ i + suc n = omega arith in
    rw e
    (ap (λ (ps : List Place). given i ++ ps)
    (each_and n m (suc i) given ∙ ap (λ (k : ℕ). each n (suc i) given ++ each m k given) e')
    ∙ sym (append_assoc (given i) (each n (suc i) given) (each m (i + suc n) given)))

-- Numbers that give the same one by one give the same.
each_same : (n i j : ℕ) (given given' : ℕ → List Place) → ((k : ℕ) → k < n → given (i + k) ≡ given' (j + k))
    → each n i given ≡ each n j given'
unfolding each
each_same zero i j given given' h = refl
each_same (suc n) i j given given' h = λ t. first t ++ each_same n (suc i) (suc j) given given' rest t
  where
    first : given i ≡ given' j
    first =
        let e : i + 0 ≡ i = omega arith in
        let e' : j + 0 ≡ j = omega arith in
        ap given (sym e) ∙ h 0 (omega arith) ∙ ap given' e'

    rest : (k : ℕ) → k < n → given (suc i + k) ≡ given' (suc j + k)
    rest k l =
        let e : suc i + k ≡ i + suc k = omega arith in
        let e' : j + suc k ≡ suc j + k = omega arith in
        ap given e ∙ h (suc k) (omega arith) ∙ ap given' e'

module _ (given : ℕ → ℕ → Place) where
  abbrev word : ℕ → List Place
  word w = each_one 10 0 (given w)

  abbrev byte : ℕ → List Place
  byte j = given (j / 10) (j % 10) ∷ []

  row_from : (n w : ℕ) → each n w word ≡ each (10 * n) (10 * w) byte
  unfolding each
  row_from zero w = refl
  row_from (suc n) w =
      let e : 10 * suc n ≡ 10 + 10 * n = omega arith in
      let e' : 10 * suc w ≡ 10 * w + 10 = omega arith in
      rw e
      ((λ t. each_same 10 0 (10 * w) (λ (k : ℕ). given w k ∷ []) byte here t ++ (row_from n (suc w)
      ∙ ap (λ (i : ℕ). each (10 * n) i byte) e') t)
      ∙ sym (each_and 10 (10 * n) (10 * w) byte))
    where
      here : (k : ℕ) → k < 10 → given w (0 + k) ∷ [] ≡ byte (10 * w + k)
      here k h =
          let e : w ≡ (10 * w + k) / 10 = omega arith in
          let e' : 0 + k ≡ (10 * w + k) % 10 = omega arith in
          λ t. given (e t) (e' t) ∷ []

  -- Words of ten bytes are one row of bytes.
  pub row : (n : ℕ) → each n 0 word ≡ each (10 * n) 0 byte
  row n = row_from n 0
