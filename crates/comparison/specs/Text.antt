-- 02, ticket 5: what is printed of two files, byte by byte in ASCII: a line for each difference, "packet number, word number, byte in the word, all from 0,
-- both bytes, in that order, or the packet field by its place in the layout", and last how many they are.
-- Assumes nothing.
use Rattle.std.specs.Prelude.{ℕ, ◌+◌, ◌*◌, cond, List, [], ◌∷◌, ◌++◌, eqb, length}
use Rattle.ascii.specs.Text.{ascii, line, most_number}
use Rattle.comparison.specs.declared.Where.{Where}
use Rattle.comparison.specs.declared.Where.TheVariants as W
use Rattle.comparison.specs.declared.Place.{Place}
use Rattle.comparison.specs.Compare.{refusal_of, differences}

-- The line of a place: its name, its numbers, and the numbers of both files.
abbrev pub line_at : Where → List ℕ → List ℕ
line_at W.Packets both = line (ascii "packets") both
line_at W.Words both = line (ascii "words") both
line_at (W.Count packet) both = line (ascii "count") (packet ∷ both)
line_at (W.Field packet i) both = line (ascii "field") (packet ∷ (i ∷ both))
line_at (W.Byte packet word byte) both = line (ascii "byte") (packet ∷ (word ∷ (byte ∷ both)))

unfoldable pub line_of : Place → List ℕ
line_of p = line_at p.at (p.first ∷ (p.second ∷ []))

unfoldable pub lines : List Place → List ℕ
lines [] = []
lines (p ∷ ps) = line_of p ++ lines ps

unfoldable pub last_line : ℕ → List ℕ
last_line n = line (ascii "differences") (n ∷ [])

-- The number of the refusal, and the file: 0 for the first, 1 for the second.
unfoldable pub refused_line : ℕ → ℕ → List ℕ
refused_line n file = line (ascii "refused") (n ∷ (file ∷ []))

-- "Refusals: .. the first file's first". A refused file gives this line alone.
unfoldable pub text : List ℕ → List ℕ → List ℕ
text a b =
    cond (eqb (refusal_of a) 0)
    (cond (eqb (refusal_of b) 0)
    (lines (differences a b) ++ last_line (length (differences a b)))
    (refused_line (refusal_of b) 1))
    (refused_line (refusal_of a) 0)

-- The most bytes of a line: that of a byte, with its name, five numbers and LF.
abbrev pub most_printed : ℕ
most_printed = 4 + most_number * 5 + 1
