-- Issue 25, a number in a text: "Numbers decimal or 0x hexadecimal". It is read without bound, and tested at the end: nothing wraps.
-- Assumes nothing.
use Rattle.std.specs.Prelude.{ℕ, ◌+◌, ◌-◌, ◌*◌, ◌^◌, ◌≡◌, Bool, cond, ◌&&◌, ◌⊎◌, List, [], ◌∷◌, leb, ltb, eqb, length, drop, get_or, Option, None, Some}

-- '0' to '9', 'A' to 'F', 'a' to 'f'; 16 is no digit.
abbrev pub digit_of : ℕ → ℕ
digit_of b =
    cond (leb 48 b && leb b 57) (b - 48) (cond (leb 65 b && leb b 70) (b - 55) (cond (leb 97 b && leb b 102) (b - 87) 16))

-- The bases of numbers.
abbrev pub IsBase : ℕ → Type 0
IsBase base = (base ≡ 10) ⊎ (base ≡ 16)

-- The number of these digits behind a number, to a base; none where a byte is no digit, or from 2^64 on.
unfoldable pub read_as : ℕ → ℕ → List ℕ → Option ℕ
read_as base n [] = cond (ltb n (2 ^ 64)) (Some n) None
read_as base n (b ∷ bs) = cond (ltb (digit_of b) base) (read_as base (n * base + digit_of b) bs) None

-- "0x", and something behind it.
abbrev pub is_hexadecimal : List ℕ → Bool
is_hexadecimal t = ltb 2 (length t) && (eqb (get_or t 0 0) 48 && eqb (get_or t 1 0) 120)

unfoldable pub number_of : List ℕ → Option ℕ
number_of t = cond (is_hexadecimal t) (read_as 16 0 (drop 2 t)) (cond (eqb (length t) 0) None (read_as 10 0 t))
