-- The fewest digits that hold a number, which the code spells, are its decimal digits as the definition gives them.
-- Assumes nothing.
use Prim.Native.Nat.{ℕ, zero, suc, ◌-◌, ◌/◌, ◌%◌, ◌^◌, ◌≤◌, ◌<◌}
use mathlib.Core.Path.{◌≡◌, refl, sym, subst}
use mathlib.Core.Bool.{Bool, true, false}
use native.Mathlib.Nat.{pow-suc, one-le-pow, pow-le-pow_right}
use native.Mathlib.Omega.{arith}
use borrow.Author.Tests.{lt-ltb, le-ltb, leb-true, leb-false}
use lib.Dec.{leb}
use Rattle.io.specs.Digits.{last_digits, IsDigitCount}
use Rattle.ascii.specs.Text.{decimal_in, decimal}

spelled : (k f n : ℕ) → n < f → IsDigitCount 10 1 n k → last_digits 10 k n ≡ decimal_in f n
unfolding decimal_in
spelled zero f n h w = absurd (omega arith)
spelled (suc zero) zero n h w = absurd (omega arith)
spelled (suc zero) (suc f) n h w =
    simp (lt-ltb n 10 w.1, lt-ltb (n % 10) 10 (omega arith))
spelled (suc (suc j)) zero n h w = absurd (omega arith)
spelled (suc (suc j)) (suc f) n h w =
    let one = one-le-pow j 10 (omega arith) in
    let low = pow-suc 10 j in
    let high = pow-suc 10 (suc j) in
    let less : suc (suc j) - 1 ≡ suc j = omega arith in
    let lesser : suc j - 1 ≡ j = omega arith in
    let least : 10 ^ suc j ≤ n = subst (λ (p : ℕ). 10 ^ p ≤ n) less (w.2 (omega arith)) in
    let rest : last_digits 10 (suc j) (n / 10) ≡ decimal_in f (n / 10) =
    spelled (suc j) f (n / 10) (omega arith)
    (omega arith, omega (arith, w.1), λ _. subst (λ (p : ℕ). 10 ^ p ≤ n / 10) (sym lesser) (omega arith)) in
    simp (le-ltb n 10 (omega arith), lt-ltb (n % 10) 10 (omega arith), rest)

pub spelled_decimal : (k n : ℕ) → IsDigitCount 10 1 n k → last_digits 10 k n ≡ decimal n
unfolding decimal
spelled_decimal k n w = spelled k (suc n) n (omega arith) w

-- A number of 64 bits has at most 20 digits.
pub few_digits : (k n : ℕ) → IsDigitCount 10 1 n k → n < 2 ^ 64 → k ≤ 20
few_digits k n w h = at (leb 21 k) refl
  where
    at : (b : Bool) → leb 21 k ≡ b → k ≤ 20
    at true e =
        let long = leb-true 21 k e in
        let least : 10 ^ (k - 1) ≤ n = w.2 (omega arith) in
        let most : 10 ^ 20 ≤ 10 ^ (k - 1) = pow-le-pow_right {n = 10} (omega arith) {i = 20} {j = k - 1}
        (omega arith) in
        absurd (omega arith)
    at false e = let short = leb-false 21 k e in omega arith
