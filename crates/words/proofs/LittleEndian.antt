-- Little-endian numbers: one of many bytes is made of two of fewer, one of a single byte is the byte, and bytes that are 0 at the end say nothing.
-- Assumes nothing.
use Rattle.std.proofs.Math.Nat.{mul_assoc, zero-add, suc-add, pow-succ'}
use Rattle.std.proofs.Common.{◌≡◌, ℕ, zero, suc, ◌+◌, ◌*◌, ◌^◌, ◌<◌, List, [], ◌∷◌, ◌++◌, get_or, take, drop, refl, ap, ◌∙◌, arith, drop-drop, pow-add}
use Rattle.std.proofs.Common.{pow_pos}
use lib.Seq.{take-nil}
use Rattle.words.specs.Word.{number}
use Rattle.words.specs.LittleEndian.{number_at}

pub byte : (bytes : List ℕ) (at : ℕ) → number_at bytes at 1 ≡ get_or bytes at 0
unfolding number_at number
byte [] zero = refl
byte [] (suc at) = refl
byte (x ∷ xs) zero = omega arith
byte (x ∷ xs) (suc at) = byte xs at

parts : (m n : ℕ) (l : List ℕ) → number (take (m + n) l) ≡ number (take m l) + 256 ^ m * number (take n (drop m l))
unfolding number
parts zero n l = rw (zero-add n) (omega arith)
parts (suc m) n [] = rw (suc-add, take-nil n) (omega arith)
parts (suc m) n (x ∷ xs) =
    let more = parts m n xs in
    rw (suc-add, pow-succ' 256 m, mul_assoc 256 (256 ^ m)) (omega arith)

pub two_parts : (m n : ℕ) (bytes : List ℕ) (at : ℕ)
    → number_at bytes at (m + n) ≡ number_at bytes at m + 256 ^ m * number_at bytes (at + m) n
unfolding number_at
two_parts m n bytes at =
    parts m n (drop at bytes) ∙ ap (λ (l : List ℕ). number (take m (drop at bytes)) + 256 ^ m * number (take n l))
    (drop-drop m at bytes)

-- Bytes behind others whose number is 0, as zeros are.
pub behind : (xs ys : List ℕ) → number ys ≡ 0 → number (xs ++ ys) ≡ number xs
unfolding number
behind [] ys h = h
behind (x ∷ xs) ys h = ap (λ (n : ℕ). x + 256 * n) (behind xs ys h)

pub still_0 : (n : ℕ) (l : List ℕ) → number l ≡ 0 → number (drop n l) ≡ 0
unfolding number
still_0 zero l h = h
still_0 (suc n) [] h = h
still_0 (suc n) (x ∷ xs) h = still_0 n xs (omega arith)

-- A number of n bytes is below 2 ^ (8 * n).
pub fits : (n : ℕ) (l : List ℕ) → ((i : ℕ) → get_or l i 0 < 256) → number (take n l) < 2 ^ (8 * n)
unfolding number
fits zero l small = omega arith
fits (suc n) [] small = pow_pos (8 * suc n)
fits (suc n) (x ∷ xs) small =
    let more = fits n xs (λ i. small (suc i)) in
    let first = small 0 in
    let places : 8 * suc n ≡ 8 * n + 8 = omega arith in
    let wider : 2 ^ (8 * suc n) ≡ 2 ^ (8 * n) * 256 = ap (λ (k : ℕ). 2 ^ k) places ∙ pow-add 2 (8 * n) 8 in
    omega arith
