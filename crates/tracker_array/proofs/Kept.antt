-- A number beside its flag: at most so much where the flag is on, 0 where it is off. The state beside the flags that it asks for.
-- Assumes nothing.
use Prim.Native.Nat.{ℕ, ◌+◌, ◌*◌, ◌≤◌}
use mathlib.Core.Path.{◌≡◌, refl, sym, ap, ◌∙◌}
use mathlib.Core.Bool.{Bool, true, false, cond, not, ◌&&◌, ◌||◌, and-true, and-false}
use native.Mathlib.Nat.{mul-one, mul-zero}
use native.Mathlib.Omega.{arith}
use lib.Dec.{leb, ltb, eqb}
use borrow.Author.Tests.{leb-true, ltb-true, eqb-true, eqb-false, le-leb, lt-leb, lt-ltb, eq-eqb}
use Rattle.words.proofs.Tests.{both, tests_agree}
use Rattle.cdp_running.specs.Tracker.{past_ihw, past_tdh}
use Rattle.tracker_array.specs.Array.{is_on}
use Rattle.tracker_array.specs.Read.{state_of}
use Rattle.tracker_array.proofs.State.{past_ihw_lem, past_tdh_lem}

-- A number times a flag is the number or 0.
pub scaled : (m f : ℕ) → f ≤ 1 → m * f ≡ cond (is_on f) m 0
scaled m f low = at (is_on f) refl
  where
    at : (b : Bool) → eqb f 1 ≡ b → m * f ≡ cond b m 0
    at true e = ap (λ (k : ℕ). m * k) (eqb-true f 1 e) ∙ mul-one m
    at false e =
        let none : f ≡ 0 = (let other = eqb-false f 1 e in omega arith) in ap (λ (k : ℕ). m * k) none ∙ mul-zero m

pub scaled_low : (m f : ℕ) → f ≤ 1 → m * f ≤ m
scaled_low m f low = rw (scaled m f low) (at (is_on f))
  where
    at : (b : Bool) → cond b m 0 ≤ m
    at true = omega arith
    at false = omega arith

pub below : (n m : ℕ) → leb n m ≡ ltb n (m + 1)
below n m =
    tests_agree _ _ (λ e. let l = leb-true n m e in
    lt-ltb n (m + 1) (omega arith)) (λ e. let l = ltb-true n (m + 1) e in le-leb n m (omega arith))

pub one_test : (n m f : ℕ) → f ≤ 1 → leb n (m * f) ≡ (ltb n (m + 1) && (is_on f || eqb n 0))
one_test n m f low = rw (scaled m f low) (at (is_on f))
  where
    at : (b : Bool) → leb n (cond b m 0) ≡ (ltb n (m + 1) && (b || eqb n 0))
    at true = rw and-true (below n m)
    at false =
        tests_agree _ _ (λ e. let l = leb-true n 0 e in simp (lt-ltb n (m + 1) (omega arith), eq-eqb n 0 (omega arith)))
        (λ e. let z = eqb-true n 0 (both (ltb n (m + 1)) (eqb n 0) e).1 in le-leb n 0 (omega arith))

-- Two and three numbers beside one flag.
pub two : (flag a b x y : Bool) → ((a && (flag || x)) && (b && (flag || y))) ≡ (a && (b && (flag || (x && y))))
two true a b x y = simp and-true
two false false b x y = refl
two false true false x y = simp and-false
two false true true x y = refl

pub three : (flag a b c x y z : Bool)
    → ((a && (flag || x)) && ((b && (flag || y)) && (c && (flag || z))))
    ≡ (a && (b && (c && (flag || (x && (y && z))))))
three true a b c x y z = simp and-true
three false false b c x y z = refl
three false true false c x y z = simp and-false
three false true true false x y z = simp and-false
three false true true true x y z = refl

-- One flag that is on only where another is.
pub only_where : (f g : ℕ) → f ≤ 1 → g ≤ 1 → leb f g ≡ (is_on g || not (is_on f))
only_where f g low high = at (is_on f) (is_on g) refl refl
  where
    at : (a b : Bool) → eqb f 1 ≡ a → eqb g 1 ≡ b → leb f g ≡ (b || not a)
    at a true p q = le-leb f g (let one = eqb-true g 1 q in omega arith)
    at false false p q = le-leb f g (let other = eqb-false f 1 p in omega arith)
    at true false p q = lt-leb f g (let one = eqb-true f 1 p in let other = eqb-false g 1 q in omega arith)

-- The state: one of the seven, 0 where there is no IHW, and 0 or 1 where there is no TDH.
by_flags : (seven first second i h : Bool)
    → ((seven && (i || first)) && cond h seven (first || second))
    ≡ (seven && ((not (not first) || i) && (not (not first && not second) || h)))
by_flags false first second i h = refl
by_flags true true second true true = refl
by_flags true true second true false = refl
by_flags true true second false true = refl
by_flags true true second false false = refl
by_flags true false true true true = refl
by_flags true false true true false = refl
by_flags true false true false h = refl
by_flags true false false true true = refl
by_flags true false false true false = refl
by_flags true false false false h = refl

two_states : (n : ℕ) → leb n 1 ≡ (eqb n 0 || eqb n 1)
two_states n =
    tests_agree _ _ (λ e. let l = leb-true n 1 e in at (eqb n 0) refl l) (λ e. le-leb n 1 (low (eqb n 0) refl e))
  where
    at : (b : Bool) → eqb n 0 ≡ b → n ≤ 1 → (b || eqb n 1) ≡ true
    at true p l = refl
    at false p l = let other = eqb-false n 0 p in eq-eqb n 1 (omega arith)

    low : (b : Bool) → eqb n 0 ≡ b → (b || eqb n 1) ≡ true → n ≤ 1
    low true p e = let none = eqb-true n 0 p in omega arith
    low false p e = let one = eqb-true n 1 e in omega arith

by_tdh : (n h : ℕ) → h ≤ 1 → leb n (1 + 5 * h) ≡ cond (is_on h) (leb n 6) (eqb n 0 || eqb n 1)
by_tdh n h low = at (is_on h) refl
  where
    at : (b : Bool) → eqb h 1 ≡ b → leb n (1 + 5 * h) ≡ cond b (leb n 6) (eqb n 0 || eqb n 1)
    at true e = ap (λ (k : ℕ). leb n (1 + 5 * k)) (eqb-true h 1 e)
    at false e =
        let none : h ≡ 0 = (let other = eqb-false h 1 e in omega arith) in
        ap (λ (k : ℕ). leb n (1 + 5 * k)) none ∙ two_states n

pub state_fits : (n i h : ℕ) → h ≤ 1
    → ((ltb n 7 && (is_on i || eqb n 0)) && leb n (1 + 5 * h))
    ≡ (leb n 6 && ((not (past_ihw (state_of n)) || is_on i) && (not (past_tdh (state_of n)) || is_on h)))
state_fits n i h low =
    (λ j. (sym (below n 6) j && (is_on i || eqb n 0)) && by_tdh n h low j)
    ∙ by_flags (leb n 6) (eqb n 0) (eqb n 1) (is_on i) (is_on h)
    ∙ (λ j. leb n 6 && ((not (past_ihw_lem n j) || is_on i) && (not (past_tdh_lem n j) || is_on h)))
