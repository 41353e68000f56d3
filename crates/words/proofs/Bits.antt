-- Bits of a word and of its halves: one law for each half, and that a loaded word is the number that its bytes are.
-- Assumes nothing.
use Rattle.std.proofs.Common.{ℕ, ◌+◌, ◌-◌, ◌*◌, ◌/◌, ◌%◌, ◌^◌, ◌<◌, ◌≤◌, ◌≡◌, sym, ap, ◌∙◌, mod-lt, one-mul, arith, shr-shr, pow_pos, shl_exact}
use lib.Pow.{high, low, field, mod-mod-pow, mod-pow-add}
use Rattle.words.specs.declared.Word.{Word}
use Rattle.words.specs.Word.{slice, value, bits}

-- Bits h:l of a number are what its low h + 1 bits leave above l.
above : (h l n : ℕ) → l ≤ h → slice h l n ≡ n % 2 ^ (h + 1) / 2 ^ l
above h l n le =
    let e : h + 1 - l + l ≡ h + 1 = omega arith in
    sym (field n (h + 1 - l) l) ∙ ap (λ (k : ℕ). n % 2 ^ k / 2 ^ l) e

-- Two numbers joined at a bit: the bits below it are the lower number's, those from it on the upper's.
module _ (seam hi lo : ℕ) (fits : lo < 2 ^ seam) where
  abbrev joined : ℕ
  joined = hi * 2 ^ seam + lo

  pub low_part : (h l : ℕ) → l ≤ h → h < seam → slice h l joined ≡ slice h l lo
  low_part h l le lt =
      above h l joined le ∙ ap (λ (n : ℕ). n / 2 ^ l) same ∙ sym (above h l lo le)
    where
      apart : seam - 1 - h + (h + 1) ≡ seam
      apart = omega arith

      cut : joined % 2 ^ seam % 2 ^ (h + 1) ≡ joined % 2 ^ (h + 1)
      cut = ap (λ (k : ℕ). joined % 2 ^ k % 2 ^ (h + 1)) (sym apart) ∙ mod-mod-pow joined (seam - 1 - h) (h + 1)

      same : joined % 2 ^ (h + 1) ≡ lo % 2 ^ (h + 1)
      same = sym cut ∙ ap (λ (n : ℕ). n % 2 ^ (h + 1)) (low hi seam fits)

  pub high_part : (h l : ℕ) → seam ≤ l → slice h l joined ≡ (hi / 2 ^ (l - seam)) % 2 ^ (h + 1 - l)
  high_part h l le =
      ap (λ (n : ℕ). n % 2 ^ (h + 1 - l)) (ap (λ (k : ℕ). joined / 2 ^ k) (sym e) ∙ sym (shr-shr joined seam (l - seam))
      ∙ ap (λ (n : ℕ). n / 2 ^ (l - seam)) (high hi seam fits))
    where
      e : seam + (l - seam) ≡ l
      e = omega arith

-- Bits in the lower half are bits of that half.
pub low_half : (h l : ℕ) (w : Word) → w.lo < 2 ^ 64 → l ≤ h → h < 64 → bits h l w ≡ slice h l w.lo
unfolding bits
low_half h l w fits le lt = low_part 64 w.hi w.lo fits h l le lt

-- Bits in the upper half are bits of that half, counted from 64.
pub high_half : (h l : ℕ) (w : Word) → w.lo < 2 ^ 64 → 64 ≤ l → bits h l w ≡ (w.hi / 2 ^ (l - 64)) % 2 ^ (h + 1 - l)
unfolding bits
high_half h l w fits le = high_part 64 w.hi w.lo fits h l le

-- The code's remainder by `1 << k`, in a width that holds it, is that by 2 ^ k.
pub one_shl : (k w : ℕ) → k < w → (1 * 2 ^ k) % 2 ^ w ≡ 2 ^ k
one_shl k w h = shl_exact 1 k w (omega arith) (omega arith) ∙ one-mul (2 ^ k)

pub masked : (n k w x : ℕ) → k < w → x ≡ n % 2 ^ k → (n % ((1 * 2 ^ k) % 2 ^ w) ≡ x)
    × (n % ((1 * 2 ^ k) % 2 ^ w) < 2 ^ k)
masked n k w x h e = rw (one_shl k w h) (sym e, mod-lt n (pow_pos k))

pub shl_pos : (k w : ℕ) → k < w → 0 < (1 * 2 ^ k) % 2 ^ w
shl_pos k w h = rw (one_shl k w h) (pow_pos k)

-- A range that lies in both halves is put together of its parts.
pub both_halves : (h l : ℕ) (w : Word) → l ≤ 64 → 64 ≤ h → bits h l w ≡ bits h 64 w * 2 ^ (64 - l) + bits 63 l w
unfolding bits
both_halves h l w low high =
    let whole : h + 1 - l ≡ h + 1 - 64 + (64 - l) = omega arith in
    let seam : l + (64 - l) ≡ 64 = omega arith in
    let under : 63 + 1 - l ≡ 64 - l = omega arith in
    ap (λ (k : ℕ). (value w / 2 ^ l) % 2 ^ k) whole
    ∙ mod-pow-add (value w / 2 ^ l) (h + 1 - 64) (64 - l)
    ∙ ap (λ (n : ℕ). n % 2 ^ (h + 1 - 64) * 2 ^ (64 - l) + (value w / 2 ^ l) % 2 ^ (64 - l))
    (shr-shr (value w) l (64 - l) ∙ ap (λ (k : ℕ). value w / 2 ^ k) seam)
    ∙ ap (λ (k : ℕ). (value w / 2 ^ 64) % 2 ^ (h + 1 - 64) * 2 ^ (64 - l) + (value w / 2 ^ l) % 2 ^ k) (sym under)

-- A range of bits is below the power of two that its width gives.
pub bits_below : (h l : ℕ) (w : Word) → bits h l w < 2 ^ (h + 1 - l)
unfolding bits
bits_below h l w = mod-lt (value w / 2 ^ l) (pow_pos (h + 1 - l))
