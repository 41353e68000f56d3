-- The ids of quiet data words as the bits of one number: each seven lanes take a byte, and the nine inner lanes stand above four bytes.
-- Assumes nothing.
use Prim.Native.Nat.{ℕ, zero, suc, ◌+◌, ◌-◌, ◌*◌, ◌/◌, ◌%◌, ◌<◌, ◌≤◌, ◌^◌}
use mathlib.Core.Path.{◌≡◌, refl, sym, ap, ◌∙◌}
use mathlib.Core.Bool.{Bool, true, false, cond, not, ◌&&◌, ◌||◌}
use native.Mathlib.Nat.{mod-lt, zero-mul, zero-add, zero-div}
use native.Mathlib.Omega.{arith}
use lib.Dec.{leb, ltb, eqb}
use lib.Pow.{split, shr-shr, pow_pos}
use borrow.Author.Tests.{eqb-true, eqb-false, ltb-true, ltb-false}
use Rattle.words.specs.Word.{slice}
use Rattle.words.proofs.Bits.{low_part, high_part}
use Rattle.data_ids.proofs.Table.{same_at_ids}
use Rattle.payload.specs.Quiet.{quiet_id, has_id, QuietIds}

-- One bit of a number.
abbrev bit : ℕ → ℕ → ℕ
bit k n = n / 2 ^ k % 2

one_bit : (k n : ℕ) → slice k k n ≡ bit k n
one_bit k n = let one : k + 1 - k ≡ 1 = omega arith in ap (λ (w : ℕ). n / 2 ^ k % 2 ^ w) one

-- Of two numbers joined at a bit.
below_seam : (seam hi lo k : ℕ) → lo < 2 ^ seam → k < seam → bit k (hi * 2 ^ seam + lo) ≡ bit k lo
below_seam seam hi lo k fits lt =
    sym (one_bit k (hi * 2 ^ seam + lo)) ∙ low_part seam hi lo fits k k (omega arith) lt ∙ one_bit k lo

above_seam : (seam hi lo k : ℕ) → lo < 2 ^ seam → seam ≤ k → bit k (hi * 2 ^ seam + lo) ≡ bit (k - seam) hi
above_seam seam hi lo k fits le =
    let one : k + 1 - k ≡ 1 = omega arith in
    sym (one_bit k (hi * 2 ^ seam + lo)) ∙ high_part seam hi lo fits k k le
    ∙ ap (λ (w : ℕ). hi / 2 ^ (k - seam) % 2 ^ w) one

-- Of the low bits of a number, and above them.
low_bit : (w n k : ℕ) → k < w → bit k (n % 2 ^ w) ≡ bit k n
low_bit w n k lt = sym (below_seam w (n / 2 ^ w) (n % 2 ^ w) k (mod-lt n (pow_pos w)) lt) ∙ ap (bit k) (split n w)

no_bit : (w n k : ℕ) → w ≤ k → bit k (n % 2 ^ w) ≡ 0
no_bit w n k le =
    let none : 0 * 2 ^ w + n % 2 ^ w ≡ n % 2 ^ w = ap (λ (x : ℕ). x + n % 2 ^ w) (zero-mul (2 ^ w))
    ∙ zero-add (n % 2 ^ w) in
    ap (bit k) (sym none) ∙ above_seam w 0 (n % 2 ^ w) k (mod-lt n (pow_pos w)) le ∙ zero_bit (k - w)
  where
    zero_bit : (j : ℕ) → bit j 0 ≡ 0
    zero_bit j = ap (λ (n : ℕ). n % 2) (zero-div (2 ^ j))

-- The lanes by sevens, a byte for each seven: n + 1 bytes.
abbrev pub spread : ℕ → ℕ → ℕ
spread zero lanes = lanes % 2 ^ 7
spread (suc n) lanes = spread n (lanes / 2 ^ 7) * 2 ^ 8 + lanes % 2 ^ 7

-- Bit k of them is the lane that stands there; each eighth bit is none's.
abbrev lane_bit : ℕ → ℕ → ℕ
lane_bit lanes k = cond (eqb (k % 8) 7) 0 (bit (k - k / 8) lanes)

first_byte : (lanes k : ℕ) → k < 8 → bit k (lanes % 2 ^ 7) ≡ lane_bit lanes k
first_byte lanes k lt = at (eqb (k % 8) 7) refl
  where
    at : (b : Bool) → eqb (k % 8) 7 ≡ b → bit k (lanes % 2 ^ 7) ≡ cond b 0 (bit (k - k / 8) lanes)
    at true e = let last = eqb-true (k % 8) 7 e in no_bit 7 lanes k (omega arith)
    at false e =
        let other = eqb-false (k % 8) 7 e in
        let same : k ≡ k - k / 8 = omega arith in
        low_bit 7 lanes k (omega arith) ∙ ap (λ (j : ℕ). bit j lanes) same

next_byte : (lanes k : ℕ) → 8 ≤ k → lane_bit (lanes / 2 ^ 7) (k - 8) ≡ lane_bit lanes k
next_byte lanes k le =
    let rest : (k - 8) % 8 ≡ k % 8 = omega arith in
    let lane : 7 + (k - 8 - (k - 8) / 8) ≡ k - k / 8 = omega arith in
    (λ i. cond (eqb (rest i) 7) 0 (bit (k - 8 - (k - 8) / 8) (lanes / 2 ^ 7)))
    ∙ ap (λ (n : ℕ). cond (eqb (k % 8) 7) 0 (n % 2))
    (shr-shr lanes 7 (k - 8 - (k - 8) / 8) ∙ ap (λ (j : ℕ). lanes / 2 ^ j) lane)

spread_bit : (n lanes k : ℕ) → k < 8 * suc n → bit k (spread n lanes) ≡ lane_bit lanes k
spread_bit zero lanes k lt = first_byte lanes k (omega arith)
spread_bit (suc n) lanes k lt = at (ltb k 8) refl (λ j h. spread_bit n (lanes / 2 ^ 7) j h)
  where
    low : lanes % 2 ^ 7 < 2 ^ 8
    low = omega arith

    at : (b : Bool) → ltb k 8 ≡ b → ((j : ℕ) → j < 8 * suc n
        → bit j (spread n (lanes / 2 ^ 7)) ≡ lane_bit (lanes / 2 ^ 7) j)
        → bit k (spread n (lanes / 2 ^ 7) * 2 ^ 8 + lanes % 2 ^ 7) ≡ lane_bit lanes k
    at true e more =
        let first = ltb-true k 8 e in
        below_seam 8 (spread n (lanes / 2 ^ 7)) (lanes % 2 ^ 7) k low first ∙ first_byte lanes k first
    at false e more =
        let later = ltb-false k 8 e in
        above_seam 8 (spread n (lanes / 2 ^ 7)) (lanes % 2 ^ 7) k low (omega arith)
        ∙ more (k - 8) (omega arith)
        ∙ next_byte lanes k (omega arith)

-- The number that the code makes, and its bits.
abbrev ids_of : ℕ → ℕ
ids_of lanes = lanes % 2 ^ 9 * 2 ^ 32 + spread 3 lanes

abbrev id_bit : ℕ → ℕ → ℕ
id_bit lanes k = cond (ltb k 32) (lane_bit lanes k) (cond (ltb k 41) (bit (k - 32) lanes) 0)

ids_bit : (lanes k : ℕ) → bit k (ids_of lanes) ≡ id_bit lanes k
ids_bit lanes k = at (ltb k 32) refl
  where
    low : spread 3 lanes < 2 ^ 32
    low = omega arith

    inner : (b : Bool) → ltb k 41 ≡ b → 32 ≤ k → bit (k - 32) (lanes % 2 ^ 9) ≡ cond b (bit (k - 32) lanes) 0
    inner true e le = let in-nine = ltb-true k 41 e in low_bit 9 lanes (k - 32) (omega arith)
    inner false e le = let past = ltb-false k 41 e in no_bit 9 lanes (k - 32) (omega arith)

    at : (b : Bool) → ltb k 32 ≡ b → bit k (ids_of lanes) ≡ cond b (lane_bit lanes k)
        (cond (ltb k 41) (bit (k - 32) lanes) 0)
    at true e =
        let outer = ltb-true k 32 e in
        below_seam 32 (lanes % 2 ^ 9) (spread 3 lanes) k low outer ∙ spread_bit 3 lanes k (omega arith)
    at false e =
        let le : 32 ≤ k = (let past = ltb-false k 32 e in omega arith) in
        above_seam 32 (lanes % 2 ^ 9) (spread 3 lanes) k low le ∙ inner (ltb k 41) refl le

-- They are the quiet ids, which antt computes at each of the 256.
pub quiet_ids : (lanes ids : ℕ) → ids ≡ ids_of lanes → QuietIds lanes ids
quiet_ids lanes ids e =
    record {
      each =
          λ id h. ap (λ (n : ℕ). has_id n id) e ∙ ap (λ (n : ℕ). not (ltb id 32 || leb 96 id) && eqb n 1)
          (ids_bit lanes (id % 64))
          ∙ same_at_ids (λ i. not (ltb i 32 || leb 96 i) && eqb (id_bit lanes (i % 64)) 1) (quiet_id lanes) refl id h;
    }

-- An id that is found among them is quiet, of the lanes that they were made of.
pub is_quiet : {lanes ids asked : ℕ} (id : ℕ) → QuietIds lanes ids → lanes ≡ asked → id < 256 → has_id ids id ≡ true
    → quiet_id asked id ≡ true
is_quiet id q e h t = ap (λ (l : ℕ). quiet_id l id) (sym e) ∙ sym (q.each id h) ∙ t
