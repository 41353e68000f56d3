-- Two small files, from their bytes to the bytes that are printed, computed from the definitions: another word count, another BC, another id.
-- Assumes nothing.
use Prim.Native.Nat.{ℕ}
use mathlib.Core.Path.{◌≡◌, refl}
use mathlib.Core.List.{List, [], ◌∷◌, ◌++◌}
use lib.ListN.{replicate}
use Rattle.words.specs.Word.{number}
use Rattle.words.specs.LittleEndian.{number_at}
use Rattle.bench_file.specs.File.{words_before, misfit, first_refusal, check_of}
use Rattle.ascii.specs.Text.{ascii, decimal_in, decimal, spaced}
use Rattle.comparison.specs.Compare.{refusal_of, each, places, differing, differences}
use Rattle.comparison.specs.Text.{line_of, lines, last_line, refused_line, text}

-- A file of one packet: its words, its BC in two bytes, and their bytes.
abbrev pub one_file : ℕ → ℕ → ℕ → List ℕ → List ℕ
one_file count low high bytes =
    (0x01 ∷ 0x00 ∷ 0x00 ∷ 0x00 ∷ count ∷ 0x00 ∷ 0x00 ∷ 0x00 ∷ 0x10 ∷ 0x00 ∷ 0x00 ∷ 0x00 ∷ 0x28 ∷ 0x00 ∷ 0x00 ∷ 0x00
    ∷ [])
    ++ ((0x00 ∷ 0x00 ∷ 0x00 ∷ 0x00 ∷ 0x00 ∷ 0x00 ∷ 0x00 ∷ 0x00 ∷ 0x07 ∷ 0x00 ∷ 0x00 ∷ 0x00 ∷ 0x10 ∷ 0x00 ∷ 0x00 ∷ 0x00
    ∷ low ∷ high ∷ 0x00 ∷ 0x00 ∷ 0x00 ∷ 0x02 ∷ count ∷ 0x00 ∷ []) ++ bytes)

pub one : List ℕ
one = one_file 1 0xEC 0x0D (replicate 9 0x00 ++ (0xE0 ∷ []))

pub other : List ℕ
other = one_file 2 0x01 0x00 (replicate 9 0x00 ++ (0xE8 ∷ replicate 10 0x00))

pub other_text : text one other ≡ ascii "words 1 2\ncount 0 1 2\nfield 0 3 3564 1\nbyte 0 0 9 224 232\ndifferences 4\n"
unfolding one other number number_at words_before misfit first_refusal check_of decimal_in decimal spaced refusal_of each
    places differing differences line_of lines last_line refused_line text
other_text = refl

pub refused_text : text other [] ≡ ascii "refused 6 1\n"
unfolding one other number number_at words_before misfit first_refusal check_of decimal_in decimal spaced refusal_of each
    places differing differences line_of lines last_line refused_line text
refused_text = refl
