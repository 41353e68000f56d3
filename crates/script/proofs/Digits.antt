-- Reading a number: one digit more, a byte that is none, and a number that has become too large stays so.
-- Assumes nothing.
use Rattle.std.proofs.Common.{ℕ, suc, ◌+◌, ◌-◌, ◌*◌, ◌/◌, ◌^◌, ◌≤◌, ◌<◌, ◌≡◌, refl, sym, ap, ap₂, ◌∙◌, subst, Bool, true, false, cond, ◌&&◌, leb, ltb}
use Rattle.std.proofs.Common.{List, [], ◌∷◌, length, take, drop, get_or, length-drop, drop_of_length-le, drop-cons, take_all, add-one, Option, None, Some}
use Rattle.std.proofs.Common.{arith}
use Rattle.std.specs.Char.{digit_value}
use mathlib.Core.Logic.{⊎_elim}
use borrow.Author.Tests.{lt-ltb, le-ltb, ltb-true, ltb-false, eq-eqb, ne_eqb}
use Rattle.script.specs.Numbers.{digit_of, read_as, IsBase, is_hexadecimal, number_of}

-- The library's digits are ours, to each of the bases.
digits_16 : (b : ℕ) → digit_value b < 16 → digit_value b ≡ digit_of b
digits_16 b = grind arith

no_decimal : (b : ℕ) → 16 ≤ digit_value b → (leb 48 b && leb b 57) ≡ false
no_decimal b = grind arith

no_capital : (b : ℕ) → 16 ≤ digit_value b → (leb 65 b && leb b 70) ≡ false
no_capital b = grind arith

no_small : (b : ℕ) → 16 ≤ digit_value b → (leb 97 b && leb b 102) ≡ false
no_small b = grind arith

no_digits_16 : (b : ℕ) → 16 ≤ digit_value b → digit_of b ≡ 16
no_digits_16 b h = simp (no_decimal b h, no_capital b h, no_small b h)

pub base_bounds : (base : ℕ) → IsBase base → (2 ≤ base) × (base ≤ 16)
base_bounds base is =
    ⊎_elim (λ (e : base ≡ 10). (omega arith, omega arith)) (λ (e : base ≡ 16). (omega arith, omega arith)) is

digit_is : (base b : ℕ) → IsBase base → digit_value b < base → digit_value b ≡ digit_of b
digit_is base b is low = digits_16 b (omega (arith, low, (base_bounds base is).1))

not_below : (a b : ℕ) → (a < b → ⊥) → b ≤ a
not_below a b h = by_test (ltb a b) refl
  where
    by_test : (t : Bool) → ltb a b ≡ t → b ≤ a
    by_test true e = absurd (h (ltb-true a b e))
    by_test false e = ltb-false a b e

no_digit_is : (base b : ℕ) → IsBase base → base ≤ digit_value b → base ≤ digit_of b
no_digit_is base b is high = by_16 (ltb (digit_value b) 16) refl
  where
    by_16 : (t : Bool) → ltb (digit_value b) 16 ≡ t → base ≤ digit_of b
    by_16 true e = omega (arith, high, digits_16 b (ltb-true (digit_value b) 16 e))
    by_16 false e = omega (arith, no_digits_16 b (ltb-false (digit_value b) 16 e), (base_bounds base is).1)

-- The digit at a place is read, as the test of it says.
digit_read : (base : ℕ) (text : List ℕ) (n i d : ℕ) {low : Bool} → d ≡ digit_of (get_or text i 0) → ltb d base ≡ low
    → read_as base n (get_or text i 0 ∷ drop (suc i) text)
    ≡ cond low (read_as base (n * base + digit_of (get_or text i 0)) (drop (suc i) text)) None
unfolding read_as
digit_read base text n i d e t =
    ap (λ (b : Bool). cond b (read_as base (n * base + digit_of (get_or text i 0)) (drop (suc i) text)) None) (ap (λ (k : ℕ). ltb k base) (sym e) ∙ t)

module _ (base : ℕ) (text : List ℕ) where
  -- What is read is to be read still, behind the number so far.
  pub record Reading (n i : ℕ) : Type 0 where
    pub within : i ≤ length text
    pub small : n < 2 ^ 64
    pub same : read_as base n (drop i text) ≡ read_as base 0 text

  next : (n i : ℕ) → i < length text → read_as base n (drop i text) ≡ read_as base n (get_or text i 0 ∷ drop (suc i) text)
  next n i h = ap (read_as base n) (drop-cons text i 0 h)

  pub begin : Reading 0 0
  begin = record { within = omega arith; small = omega arith; same = refl }

  pub turn : (n i d : ℕ) → i < length text → d ≡ digit_of (get_or text i 0) → d < base → n * base + d < 2 ^ 64 → Reading n i
      → Reading (n * base + d) (i + 1)
  turn n i d h e low small r =
      record {
        within = omega arith;
        small = small;
        same =
            ap (λ (k : ℕ). read_as base (n * base + d) (drop k text)) (add-one i)
            ∙ ap (λ (k : ℕ). read_as base (n * base + k) (drop (suc i) text)) e
            ∙ sym (digit_read base text n i d e (lt-ltb d base low))
            ∙ sym (next n i h)
            ∙ r.same;
      }

  pub no_digit : (n i d : ℕ) → i < length text → d ≡ digit_of (get_or text i 0) → base ≤ d → Reading n i → None ≡ read_as base 0 text
  no_digit n i d h e high r = sym (digit_read base text n i d e (le-ltb d base high)) ∙ sym (next n i h) ∙ r.same

  pub ended : (n i : ℕ) → length text ≤ i → Reading n i → Some n ≡ read_as base 0 text
  unfolding read_as
  ended n i h r =
      sym (ap (λ (b : Bool). cond b (Some n) None) (lt-ltb n (2 ^ 64) r.small))
      ∙ sym (ap (read_as base n) (drop_of_length-le text h))
      ∙ r.same

-- Too large once, too large for good: a number grows with each digit.
grows : (base : ℕ) → IsBase base → (m d : ℕ) → m ≤ m * base + d
grows base is m d =
    ⊎_elim (λ (e : base ≡ 10). subst (λ (b : ℕ). m ≤ m * b + d) (sym e) (omega arith))
    (λ (e : base ≡ 16). subst (λ (b : ℕ). m ≤ m * b + d) (sym e) (omega arith))
    is

over : (base : ℕ) → IsBase base → (l : List ℕ) (n : ℕ) → 2 ^ 64 ≤ n → read_as base n l ≡ None
unfolding read_as
over base is [] n h = ap (λ (b : Bool). cond b (Some n) None) (le-ltb n (2 ^ 64) h)
over base is (b ∷ bs) n h =
    either (ltb (digit_of b) base) (read_as base (n * base + digit_of b) bs)
    (over base is bs (n * base + digit_of b) (omega (arith, grows base is n (digit_of b))))
  where
    either : (t : Bool) (v : Option ℕ) → v ≡ None → cond t v None ≡ None
    either true v e = e
    either false v e = refl

pub too_large : (base : ℕ) (text : List ℕ) → IsBase base → (n i d : ℕ) → i < length text → d ≡ digit_of (get_or text i 0)
    → d < base
    → 2 ^ 64 ≤ n * base + d
    → Reading base text n i
    → None ≡ read_as base 0 text
unfolding read_as
too_large base text is n i d h e low large r =
    sym (over base is (drop (suc i) text) (n * base + d) large)
    ∙ ap (λ (k : ℕ). read_as base (n * base + k) (drop (suc i) text)) e
    ∙ sym (digit_read base text n i d e (lt-ltb d base low))
    ∙ sym (ap (read_as base n) (drop-cons text i 0 h))
    ∙ r.same

-- What is to be read from a place on, where a byte is no digit, and where a number passes the last one with it.
pub no_digit_at : (base n i : ℕ) (text : List ℕ) → i < length text → base ≤ digit_of (get_or text i 0) → read_as base n (drop i text) ≡ None
no_digit_at base n i text h high =
    ap (read_as base n) (drop-cons text i 0 h)
    ∙ digit_read base text n i (digit_of (get_or text i 0)) refl (le-ltb (digit_of (get_or text i 0)) base high)

pub too_large_at : (base n i : ℕ) (text : List ℕ) → IsBase base → i < length text → digit_of (get_or text i 0) < base
    → 2 ^ 64 ≤ n * base + digit_of (get_or text i 0)
    → read_as base n (drop i text) ≡ None
too_large_at base n i text is h low large =
    ap (read_as base n) (drop-cons text i 0 h)
    ∙ digit_read base text n i (digit_of (get_or text i 0)) refl (lt-ltb (digit_of (get_or text i 0)) base low)
    ∙ over base is (drop (suc i) text) (n * base + digit_of (get_or text i 0)) large

-- The same as the library tells it, of a byte, its digit, and the number with it.
module _ {base n i byte : ℕ} {text : List ℕ} (is : IsBase base) (h : i < length text) (at : byte ≡ get_or text i 0) (r : Reading base text n i) where
  pub no_digit_told : (digit_value byte < base → ⊥) → None ≡ read_as base 0 text
  no_digit_told high =
      no_digit base text n i (digit_of byte) h (ap digit_of at) (no_digit_is base byte is (not_below (digit_value byte) base high)) r

  module _ {d m : ℕ} (low : digit_value byte < base) (d-is : d ≡ digit_value byte) (m-is : m ≡ base) where
    d-same : d ≡ digit_of (get_or text i 0)
    d-same = d-is ∙ digit_is base byte is low ∙ ap digit_of at

    d-low : d < base
    d-low = omega (arith, low, d-is)

    pub product_told : (n * m < 2 ^ 64 → ⊥) → None ≡ read_as base 0 text
    product_told large =
        too_large base text is n i d h d-same d-low
        (omega (arith, not_below (n * m) (2 ^ 64) large, ap (λ (k : ℕ). n * k) m-is))
        r

    module _ {a e : ℕ} (a-is : a ≡ n * m) (e-is : e ≡ d) where
      sum-is : a + e ≡ n * base + d
      sum-is = ap₂ ◌+◌ (a-is ∙ ap (λ (k : ℕ). n * k) m-is) e-is

      pub sum_told : (a + e < 2 ^ 64 → ⊥) → None ≡ read_as base 0 text
      sum_told large =
          too_large base text is n i d h d-same d-low (omega (arith, not_below (a + e) (2 ^ 64) large, sum-is)) r

      pub turn_told : {x : ℕ} → a + e < 2 ^ 64 → x ≡ a + e → Reading base text x (i + 1)
      turn_told small x-is =
          subst (λ (k : ℕ). Reading base text k (i + 1)) (sym (x-is ∙ sum-is)) (turn base text n i d h d-same d-low (omega (arith, small, sum-is)) r)

  -- The same of the product and the sum, where both are made.
  module _ {p e : ℕ} (low : digit_value byte < base) (p-is : p ≡ n * base) (e-is : e ≡ digit_value byte) where
    pub sum_passed : (p + e < 2 ^ 64 → ⊥) → None ≡ read_as base 0 text
    sum_passed = sum_told low refl refl p-is e-is

  -- A digit more.
  pub one_more : {x : ℕ} → digit_value byte < base → x ≡ n * base + digit_value byte → x < 2 ^ 64 → Reading base text x (i + 1)
  one_more low x-is small =
      turn_told {d = digit_value byte} {m = base} low refl refl {a = n * base} {e = digit_value byte} refl refl (omega (arith, small, x-is)) x-is

-- The test before a digit is added tells whether the number passes the last one.
pub fits : (base n d : ℕ) → IsBase base → n ≤ (2 ^ 64 - 1 - d) / base → d < base → n * base + d < 2 ^ 64
fits base n d is h low =
    ⊎_elim
    (λ (e : base ≡ 10).
    subst (λ (b : ℕ). n ≤ (2 ^ 64 - 1 - d) / b → d < b → n * b + d < 2 ^ 64) (sym e) (λ h low. omega (arith, h, low)) h low)
    (λ (e : base ≡ 16).
    subst (λ (b : ℕ). n ≤ (2 ^ 64 - 1 - d) / b → d < b → n * b + d < 2 ^ 64) (sym e) (λ h low. omega (arith, h, low)) h low)
    is

pub passes : (base n d : ℕ) → IsBase base → (2 ^ 64 - 1 - d) / base < n → d < base → 2 ^ 64 ≤ n * base + d
passes base n d is h low =
    ⊎_elim
    (λ (e : base ≡ 10).
    subst (λ (b : ℕ). (2 ^ 64 - 1 - d) / b < n → d < b → 2 ^ 64 ≤ n * b + d) (sym e) (λ h low. omega (arith, h, low)) h low)
    (λ (e : base ≡ 16).
    subst (λ (b : ℕ). (2 ^ 64 - 1 - d) / b < n → d < b → 2 ^ 64 ≤ n * b + d) (sym e) (λ h low. omega (arith, h, low)) h low)
    is

-- A number by its first bytes.
pub hexadecimal : (t : List ℕ) → is_hexadecimal t ≡ true → read_as 16 0 (take (length t - 2) (drop 2 t)) ≡ number_of t
unfolding number_of
hexadecimal t e =
    ap (read_as 16 0) (take_all (length t - 2) (drop 2 t) (omega (arith, length-drop 2 t))) ∙ simp e

pub empty : (t : List ℕ) → is_hexadecimal t ≡ false → length t ≡ 0 → None ≡ number_of t
unfolding number_of
empty t e z = simp (e, eq-eqb (length t) 0 z)

pub decimal : (t : List ℕ) → is_hexadecimal t ≡ false → (length t ≡ 0 → ⊥) → read_as 10 0 t ≡ number_of t
unfolding number_of
decimal t e some = simp (e, ne_eqb (length t) 0 some)
