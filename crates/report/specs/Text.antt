-- 01, "Bench file": the lines of a report, byte by byte in ASCII: one line per record, "decimal with single spaces, and last `records N`"; "a
-- refused one gives only `refused N`". Every line ends in LF. 02, ticket 7: "prints the number as the first column, and its fixed line becomes `packet pos code
-- first second`".
-- Assumes nothing.
use Rattle.std.specs.Prelude.{ℕ, zero, suc, ◌+◌, ◌*◌, ◌/◌, List, [], ◌∷◌, ◌++◌, length, get_or, drop}
use Rattle.records.specs.Records.{Record, record_width, most_records}
use Rattle.ascii.specs.Text.{ascii, space, newline, numeral}

-- The count of packets, which stands last in the buffer, is the first column.
unfoldable pub line : Record → List ℕ
line r =
    numeral r.packet space ++ numeral r.position space ++ numeral r.code space ++ numeral r.first space
    ++ numeral r.second newline

unfoldable pub lines : List Record → List ℕ
lines [] = []
lines (r ∷ rs) = line r ++ lines rs

-- The fixed lines.
unfoldable pub heading : List ℕ
heading = ascii "packet pos code first second\n"

unfoldable pub records_line : ℕ → List ℕ
records_line n = ascii "records " ++ numeral n newline

unfoldable pub refused_line : ℕ → List ℕ
refused_line n = ascii "refused " ++ numeral n newline

-- The most bytes of a line: numbers of 64 bits have at most 20 digits each. The most of a word's lines.
abbrev pub most_line : ℕ
most_line = record_width * (20 + 1)

abbrev pub most_printed : ℕ
most_printed = most_records * most_line

-- The record at the front of numbers, and the first n.
abbrev pub first_record : List ℕ → Record
first_record d = record { position = get_or d 0 0; code = get_or d 1 0; first = get_or d 2 0; second = get_or d 3 0; packet = get_or d 4 0 }

unfoldable pub records_at : ℕ → List ℕ → List Record
records_at zero d = []
records_at (suc n) d = first_record d ∷ records_at n (drop record_width d)

-- All that there are.
abbrev pub all_records : List ℕ → List Record
all_records d = records_at (length d / record_width) d
