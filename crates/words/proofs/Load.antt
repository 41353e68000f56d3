-- A word as it is loaded: the number that ten bytes are, byte by byte.
-- Assumes nothing.
use Rattle.std.proofs.Common.{ℕ, zero, suc, ◌+◌, ◌*◌, ◌<◌, ◌≤◌, ◌^◌, ◌≡◌, refl, ap, ◌∙◌, List, [], ◌∷◌, le_of_eq, arith, lit<, length, get_or, take, drop}
use Rattle.std.proofs.Common.{length-drop, drop_of_length-le, length-take-le, get_or-take, get_or-drop, Ok, Err}
use borrow.Author.Tests.{eq-eqb, ne_eqb}
use Rattle.refusals.specs.declared.Refusal.TheVariants.{Size}
use Rattle.words.specs.declared.Word.{Word}
use Rattle.words.specs.Word.{number, word_of, value, id_of, bits, FromBufPost}

-- The number of the bytes from a place on is that byte and 256 times those after it.
peel : (b : List ℕ) (i : ℕ) → number (drop i b) ≡ get_or b i 0 + 256 * number (drop (suc i) b)
unfolding number
peel [] zero = refl
peel [] (suc i) = refl
peel (x ∷ xs) zero = refl
peel (x ∷ xs) (suc i) = peel xs i

-- The two halves that the code sums up, as numbers of ten bytes.
abbrev pub lower : List ℕ → ℕ
lower b =
    get_or b 0 0 + 0x100 * get_or b 1 0 + 0x1_0000 * get_or b 2 0 + 0x100_0000 * get_or b 3 0 + 0x1_0000_0000 * get_or b 4 0
    + 0x100_0000_0000 * get_or b 5 0
    + 0x1_0000_0000_0000 * get_or b 6 0
    + 0x100_0000_0000_0000 * get_or b 7 0

abbrev pub upper : List ℕ → ℕ
upper b = get_or b 8 0 + 0x100 * get_or b 9 0

pub number_ten : (b : List ℕ) → length b ≡ 10 → number b ≡ lower b + 2 ^ 64 * upper b
unfolding number
number_ten b e =
    let end : number (drop 10 b) ≡ 0 = ap number (drop_of_length-le b (le_of_eq e)) in
    omega (arith, peel b 0, peel b 1, peel b 2, peel b 3, peel b 4, peel b 5, peel b 6, peel b 7, peel b 8, peel b 9)

pub number_eight : (b : List ℕ) → length b ≡ 8 → number b ≡ lower b
unfolding number
number_eight b e =
    let end : number (drop 8 b) ≡ 0 = ap number (drop_of_length-le b (le_of_eq e)) in
    omega (arith, peel b 0, peel b 1, peel b 2, peel b 3, peel b 4, peel b 5, peel b 6, peel b 7)

-- What the code sums up is the word.
pub loaded : (b : List ℕ) → length b ≡ 10 → (r : Word) → r.lo ≡ lower b → r.hi ≡ upper b → lower b < 2 ^ 64
    → upper b < 2 ^ 16 → r ≡ word_of b
unfolding word_of
loaded b e r p q fits fits-too =
    let n = number_ten b e in
    let lo : r.lo ≡ (word_of b).lo = omega arith in
    let hi : r.hi ≡ (word_of b).hi = omega arith in
    λ i. record { lo = lo i; hi = hi i }

-- The number that a loaded word is, is that of its bytes: so `bits h l` of the word are bits h:l of the ten bytes.
pub whole : (b : List ℕ) → length b ≡ 10 → ((i : ℕ) → get_or b i 0 < 256) → value (word_of b) ≡ number b
unfolding word_of
whole b e byte =
    let n = number_ten b e in
    omega (arith, byte 0, byte 1, byte 2, byte 3, byte 4, byte 5, byte 6, byte 7, byte 8, byte 9)

-- The id of a loaded word is its byte 9.
pub id_byte : (b : List ℕ) → length b ≡ 10 → ((i : ℕ) → get_or b i 0 < 256) → id_of (word_of b) ≡ get_or b 9 0
unfolding bits
id_byte b e byte =
    let n = number_ten b e in
    let w = whole b e byte in
    omega (arith, byte 0, byte 1, byte 2, byte 3, byte 4, byte 5, byte 6, byte 7, byte 8, byte 9)

-- The id of the word at a place of bytes is the byte nine further on.
cut : (n : ℕ) (b : List ℕ) → ((i : ℕ) → get_or b i 0 < 256) → (i : ℕ) → get_or (take n b) i 0 < 256
cut zero b byte i = omega arith
cut (suc n) [] byte i = omega arith
cut (suc n) (x ∷ xs) byte zero = byte 0
cut (suc n) (x ∷ xs) byte (suc i) = cut n xs (λ j. byte (suc j)) i

pub id_at_lem : (b : List ℕ) (at : ℕ) → at + 10 ≤ length b → ((i : ℕ) → get_or b i 0 < 256)
    → id_of (word_of (take 10 (drop at b))) ≡ get_or b (at + 9) 0
id_at_lem b at h byte =
    let long : length (take 10 (drop at b)) ≡ 10 = length-take-le 10 (drop at b) (simp length-drop (omega arith)) in
    id_byte (take 10 (drop at b)) long (cut 10 (drop at b) (λ i. rw (get_or-drop at b i 0) (byte (at + i))))
    ∙ get_or-take 10 (drop at b) 9 0 (lit< tt)
    ∙ get_or-drop at b 9 0

-- What a buffer is read as: a word where it has ten bytes, else refusal 1.
pub read_ten : (b : List ℕ) {w : Word} → length b ≡ 10 → w ≡ word_of b → FromBufPost b (Ok w)
read_ten b e p =
    record { answer = simp (eq-eqb _ _ e) (ap Ok p); number = simp (eq-eqb _ _ e); value = simp (eq-eqb _ _ e) p }

pub read_none : (b : List ℕ) → (length b ≡ 10 → ⊥) → FromBufPost b (Err Size)
read_none b e = record { answer = simp (ne_eqb _ _ e); number = simp (ne_eqb _ _ e); value = simp (ne_eqb _ _ e) }
