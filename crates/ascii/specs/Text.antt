-- Texts in ASCII, byte by byte: numbers in decimal, lines of a name and numbers, and what stands in a buffer after a text was put at its front.
-- Assumes nothing.
use Rattle.std.specs.Prelude.{ℕ, zero, suc, ◌+◌, ◌*◌, ◌/◌, ◌%◌, ◌≡◌, cond, List, [], ◌∷◌, ◌++◌, ltb, length}
use Prim.Native.Char.{code}
use Prim.Native.String.{String, [] as ended, ◌∷◌ as ◌then◌}
use Rattle.words.specs.Lists.{over}

-- The bytes of a text.
abbrev pub ascii : String → List ℕ
ascii ended = []
ascii (c then s) = code c ∷ ascii s

abbrev pub space : ℕ
space = 0x20

abbrev pub newline : ℕ
newline = 0x0A

-- "decimal": the last digit of a number, and before it the digits of its tenth, where the number has more than one; in at most so many places.
unfoldable pub decimal_in : ℕ → ℕ → List ℕ
decimal_in zero n = []
decimal_in (suc places) n = cond (ltb n 10) [] (decimal_in places (n / 10)) ++ ((0x30 + n % 10) ∷ [])

-- No number n has more than n + 1 digits.
unfoldable pub decimal : ℕ → List ℕ
decimal n = decimal_in (suc n) n

-- A number and the byte after it.
abbrev pub numeral : ℕ → ℕ → List ℕ
numeral n byte = decimal n ++ (byte ∷ [])

-- The same behind a name.
abbrev pub named : List ℕ → ℕ → ℕ → List ℕ
named name n byte = name ++ numeral n byte

-- Numbers, each behind a space; and a line of a name and numbers.
unfoldable pub spaced : List ℕ → List ℕ
spaced [] = []
spaced (n ∷ ns) = (space ∷ decimal n) ++ spaced ns

abbrev pub line : List ℕ → List ℕ → List ℕ
line name numbers = name ++ spaced numbers ++ (newline ∷ [])

-- The room that is asked for, whatever the numbers are: one of 64 bits has at most 20 digits, and a byte stands beside it.
abbrev pub most_number : ℕ
most_number = 20 + 1

abbrev pub most_named : List ℕ → ℕ
most_named name = length name + most_number

abbrev pub most_line : List ℕ → List ℕ → ℕ
most_line name numbers = length name + most_number * length numbers + 1

-- A text for which so many bytes are asked, in a buffer of so many: all of it, or nothing.
abbrev pub in_room : ℕ → ℕ → List ℕ → List ℕ
in_room asked room text = cond (ltb room asked) [] text

-- A text was put at the front of a buffer, and so many bytes it has.
pub record Puts (text buffer : List ℕ) (n : ℕ) (after : List ℕ) : Type 0 where
  pub count : n ≡ length text
  pub buffer_is : after ≡ over text buffer
