-- Bytes and the number that they are, in both directions.
-- Assumes nothing.
use Rattle.std.proofs.Common.{
  ℕ,
  zero,
  suc,
  ◌+◌,
  ◌*◌,
  ◌/◌,
  ◌%◌,
  ◌^◌,
  ◌<◌,
  ◌≡◌,
  refl,
  sym,
  ap,
  ap₂,
  ◌∙◌,
  List,
  [],
  ◌∷◌,
  ◌++◌,
  mul_assoc,
  length,
  get_or,
  pow-add,
  arith,
}
use lib.Pow.{mod-pow-add}
use Rattle.words.specs.Word.{number}
use Rattle.writer.specs.Write.{bytes_of}

pub bytes_long : (k n : ℕ) → length (bytes_of k n) ≡ k
unfolding bytes_of
bytes_long zero n = refl
bytes_long (suc k) n = ap suc (bytes_long k (n / 256))

pub bytes_small : (k n i : ℕ) → get_or (bytes_of k n) i 0 < 256
unfolding bytes_of
bytes_small zero n i = omega arith
bytes_small (suc k) n zero = omega arith
bytes_small (suc k) n (suc i) = bytes_small k (n / 256) i

pub number_bytes : (k n : ℕ) → number (bytes_of k n) ≡ n % 2 ^ (8 * k)
unfolding bytes_of number
number_bytes zero n = omega arith
number_bytes (suc k) n =
    let e : 8 * k + 8 ≡ 8 * suc k = omega arith in
    let part : n % 2 ^ (8 * suc k) ≡ n / 256 % 2 ^ (8 * k) * 256 + n % 256 = ap (λ (j : ℕ). n % 2 ^ j) (sym e)
    ∙ mod-pow-add n (8 * k) 8 in
    omega (arith, number_bytes k (n / 256), part)

pub bytes_number : (b : List ℕ) → ((i : ℕ) → get_or b i 0 < 256) → bytes_of (length b) (number b) ≡ b
unfolding bytes_of number
bytes_number [] byte = refl
bytes_number (x ∷ xs) byte =
    let small = byte 0 in
    let first : (x + 256 * number xs) % 256 ≡ x = omega arith in
    let rest : (x + 256 * number xs) / 256 ≡ number xs = omega arith in
    ap₂ ◌∷◌ first (ap (bytes_of (length xs)) rest ∙ bytes_number xs (λ i. byte (suc i)))

-- A power of 256 more, under a factor.
shifted : (x k : ℕ) → x * 2 ^ (8 * suc k) ≡ x * 2 ^ (8 * k) * 256
shifted x k =
    let e : 8 * suc k ≡ 8 * k + 8 = omega arith in
    ap (λ (j : ℕ). x * 2 ^ j) e ∙ ap (λ (p : ℕ). x * p) (pow-add 2 (8 * k) 8) ∙ sym (mul_assoc x (2 ^ (8 * k)) 256)

-- One byte more, behind the others.
pub number_more : (k : ℕ) (b : List ℕ) (x : ℕ) → length b ≡ k → number (b ++ (x ∷ [])) ≡ number b + x * 2 ^ (8 * k)
unfolding number
number_more zero [] x e = omega arith
number_more (suc k) [] x e = absurd (omega arith)
number_more zero (y ∷ b) x e = absurd (omega arith)
number_more (suc k) (y ∷ b) x e =
    let rest = number_more k b x (omega arith) in
    omega (arith, rest, shifted x k)

pub number_below : (k : ℕ) (b : List ℕ) → length b ≡ k → ((i : ℕ) → get_or b i 0 < 256) → number b < 2 ^ (8 * k)
unfolding number
number_below zero [] e byte = omega arith
number_below (suc k) [] e byte = absurd (omega arith)
number_below zero (y ∷ b) e byte = absurd (omega arith)
number_below (suc k) (y ∷ b) e byte =
    let rest = number_below k b (omega arith) (λ i. byte (suc i)) in
    omega (arith, rest, byte 0, shifted 1 k)

-- Bytes with one more behind them are bytes.
pub more_bytes : (b : List ℕ) (x : ℕ) → ((i : ℕ) → get_or b i 0 < 256) → x < 256 → (i : ℕ)
    → get_or (b ++ (x ∷ [])) i 0 < 256
more_bytes [] x byte small zero = small
more_bytes [] x byte small (suc i) = omega arith
more_bytes (y ∷ b) x byte small zero = byte 0
more_bytes (y ∷ b) x byte small (suc i) = more_bytes b x (λ j. byte (suc j)) small i
