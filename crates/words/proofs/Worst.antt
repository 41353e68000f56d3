-- The worst lane from the low and the high bits of all lanes at once, for any number of lanes.
-- Assumes nothing.
use Rattle.std.proofs.Common.{ℕ, zero, suc, min, max, ◌+◌, ◌-◌, ◌*◌, ◌/◌, ◌%◌, ◌^◌, ◌≤◌, ◌<◌, ◌≡◌, refl, sym, ap, ap₂, ◌∙◌, arith, bit_and, shr-shr}
use Rattle.std.proofs.Common.{lt-ltb}
use lib.Bits.{and_step, and_zero_r}
use Rattle.words.specs.declared.Word.{Word}
use Rattle.words.specs.Lanes.{lanes}
use Rattle.words.specs.LaneStatus.{lane_status, worst_below}
use Rattle.words.proofs.Bits.{low_half}

-- The low bit of each of n lanes.
abbrev pub mask : ℕ → ℕ
mask zero = 0
mask (suc n) = 4 * mask n + 1

-- The low bits of n lanes; their high bits, in the low ones' places; and the places of lanes that have both.
abbrev pub lows : ℕ → ℕ → ℕ
lows n x = bit_and x (mask n)

abbrev pub highs : ℕ → ℕ → ℕ
highs n x = lows n (x / 2)

abbrev pub boths : ℕ → ℕ → ℕ
boths n x = bit_and (lows n x) (highs n x)

-- What is common to two numbers: of their lowest lane's two bits, and of the lanes above it.
by_lane : (a b a' b' : ℕ) → a / 4 ≡ a' → b / 4 ≡ b'
    → bit_and a b ≡ 4 * bit_and a' b' + 2 * min (a / 2 % 2) (b / 2 % 2) + min (a % 2) (b % 2)
by_lane a b a' b' p q =
    let p' : a / 2 / 2 ≡ a / 4 = omega arith in
    let q' : b / 2 / 2 ≡ b / 4 = omega arith in
    omega (arith, and_step a b, and_step (a / 2) (b / 2), ap₂ bit_and (p' ∙ p) (q' ∙ q))

lows_by_lane : (n x : ℕ) → lows (suc n) x ≡ 4 * lows n (x / 4) + x % 2
lows_by_lane n x =
    let none : (4 * mask n + 1) / 2 % 2 ≡ 0 = omega arith in
    omega (arith, none, by_lane x (4 * mask n + 1) (x / 4) (mask n) refl (omega arith))

highs_by_lane : (n x : ℕ) → highs (suc n) x ≡ 4 * highs n (x / 4) + x / 2 % 2
highs_by_lane n x =
    let down : x / 2 / 4 ≡ x / 4 / 2 = omega arith in
    omega (arith, lows_by_lane n (x / 2), ap (lows n) down)

boths_by_lane : (n x : ℕ) → boths (suc n) x ≡ 4 * boths n (x / 4) + min (x % 2) (x / 2 % 2)
boths_by_lane n x =
    ap₂ bit_and (lows_by_lane n x) (highs_by_lane n x)
    ∙ apart (lows n (x / 4)) (highs n (x / 4)) (x % 2) (x / 2 % 2) (omega arith) (omega arith)
  where
    apart : (low high a b : ℕ) → a < 2 → b < 2 → bit_and (4 * low + a) (4 * high + b) ≡ 4 * bit_and low high + min a b
    apart low high a b p q = omega (arith, by_lane (4 * low + a) (4 * high + b) low high (omega arith) (omega arith))

-- What the three say of the worst lane: 3 where a lane has both bits, else 2 where one has the high bit, else 1 where one has the low bit, else 0.
abbrev any : ℕ → ℕ
any n = min n 1

abbrev worst_of : ℕ → ℕ → ℕ → ℕ
worst_of low high both = max (3 * both) (max (2 * high) low)

abbrev pub worst_by : ℕ → ℕ → ℕ → ℕ
worst_by low high both = worst_of (any low) (any high) (any both)

-- One lane more, with the bits a and b, counts in each of the three by itself.
counts : (n a : ℕ) → a < 2 → any (4 * n + a) ≡ max a (any n)
counts n a h = omega arith

two_bits : (a b : ℕ) → a < 2 → b < 2 → 2 * b + a ≡ worst_of a b (min a b)
two_bits a b p q = omega arith

-- So the larger of two such answers is the answer to what both have seen.
swap : (a b c d : ℕ) → max (max a b) (max c d) ≡ max (max a c) (max b d)
swap a b c d = omega arith

one_by_one : (l h b l' h' b' : ℕ) → max (worst_of l h b) (worst_of l' h' b') ≡ worst_of (max l l') (max h h') (max b b')
one_by_one l h b l' h' b' =
    let three : max (3 * b) (3 * b') ≡ 3 * max b b' = omega arith in
    let two : max (2 * h) (2 * h') ≡ 2 * max h h' = omega arith in
    swap (3 * b) (max (2 * h) l) (3 * b') (max (2 * h') l')
    ∙ ap₂ max three (swap (2 * h) l (2 * h') l' ∙ ap (λ (n : ℕ). max n (max l l')) two)

one_lane : (low high both a b : ℕ) → a < 2 → b < 2
    → max (2 * b + a) (worst_by low high both) ≡ worst_by (4 * low + a) (4 * high + b) (4 * both + min a b)
one_lane low high both a b p q =
    ap (λ (n : ℕ). max n (worst_by low high both)) (two_bits a b p q)
    ∙ one_by_one a b (min a b) (any low) (any high) (any both)
    ∙ (λ i. worst_of (sym (counts low a p) i) (sym (counts high b q) i) (sym (counts both (min a b) (omega arith)) i))

-- The worst of n lanes, the lowest first.
abbrev worst_from : ℕ → ℕ → ℕ
worst_from zero x = 0
worst_from (suc n) x = max (x % 4) (worst_from n (x / 4))

from_at_once : (n x : ℕ) → worst_from n x ≡ worst_by (lows n x) (highs n x) (boths n x)
from_at_once zero x =
    let none = and_zero_r (x / 2) in
    omega (arith, and_zero_r x, none, ap (bit_and (lows 0 x)) none ∙ and_zero_r (lows 0 x))
from_at_once (suc n) x =
    let two : x % 4 ≡ 2 * (x / 2 % 2) + x % 2 = omega arith in
    ap₂ max two (from_at_once n (x / 4))
    ∙ one_lane (lows n (x / 4)) (highs n (x / 4)) (boths n (x / 4)) (x % 2) (x / 2 % 2) (omega arith) (omega arith)
    ∙ (λ i. worst_by (sym (lows_by_lane n x) i) (sym (highs_by_lane n x) i) (sym (boths_by_lane n x) i))

-- The same with the highest lane last, as the definition has it.
last_lane : (n x : ℕ) → worst_from (suc n) x ≡ max (worst_from n x) (x / 2 ^ (2 * n) % 4)
last_lane zero x = omega arith
last_lane (suc n) x =
    let e : 2 + 2 * n ≡ 2 * suc n = omega arith in
    let down : x / 4 / 2 ^ (2 * n) ≡ x / 2 ^ (2 * suc n) = shr-shr x 2 (2 * n) ∙ ap (λ (k : ℕ). x / 2 ^ k) e in
    omega (arith, last_lane n (x / 4), ap (λ (y : ℕ). y % 4) down)

-- The lanes of a word stand in its lower half.
module _ (w : Word) (fits : w.lo < 2 ^ 64) where
  pub lane : (n : ℕ) → n < lanes → lane_status n w ≡ w.lo / 2 ^ (2 * n) % 4
  lane n h =
      let two : 2 * n + 1 + 1 - 2 * n ≡ 2 = omega arith in
      simp (lt-ltb n lanes h) (low_half (2 * n + 1) (2 * n) w fits (omega arith) (omega arith)
      ∙ ap (λ (k : ℕ). w.lo / 2 ^ (2 * n) % 2 ^ k) two)

  below : (n : ℕ) → n ≤ lanes → worst_below n w ≡ worst_from n w.lo
  unfolding worst_below
  below zero h = refl
  below (suc n) h = ap₂ max (below n (omega arith)) (lane n h) ∙ sym (last_lane n w.lo)

  -- The law: of any number of lanes, what their bits say at once is the worst of them.
  pub worst_at_once : (n : ℕ) → n ≤ lanes → worst_below n w ≡ worst_by (lows n w.lo) (highs n w.lo)
      (boths n w.lo)
  worst_at_once n h = below n h ∙ from_at_once n w.lo
