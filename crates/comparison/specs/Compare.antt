-- 02, ticket 5: the places where two bench files are compared, in order, and those where they differ.
-- Assumes nothing.
use Rattle.std.specs.Prelude.{ℕ, zero, suc, ◌+◌, min, Bool, cond, not, List, [], ◌∷◌, ◌++◌, ltb, eqb, length}
use Rattle.words.specs.Word.{word_bytes}
use Rattle.words.specs.LittleEndian.{number_at}
use Rattle.packet.specs.declared.Packet.{Packet}
use Rattle.bench_file.specs.File.{packets, words, packet_at, count_at, word_place, words_before, check_of}
use Rattle.comparison.specs.declared.Where.{Where}
use Rattle.comparison.specs.declared.Where.TheVariants as W
use Rattle.comparison.specs.declared.Place.{Place}

-- "Each file may have 28,000 bytes here. Refusals: 6, 7, 5, 3 as for one file, .. with 6 also for length above 28,000."
abbrev pub most_compared : ℕ
most_compared = 28000

unfoldable pub refusal_of : List ℕ → ℕ
refusal_of file = cond (ltb most_compared (length file)) 6 (check_of file)

-- "what both have at the same packet and word number": so many packets, and so many words of a packet.
abbrev pub common : List ℕ → List ℕ → ℕ
common a b = min (packets a) (packets b)

abbrev pub common_words : List ℕ → List ℕ → ℕ → ℕ
common_words a b packet = min (count_at a packet) (count_at b packet)

-- "the packet field by its place in the layout": of 01's "position 8 bytes, orbit 4, trigger 4, BC 2, page 2, stop 1, format 1, word count 2" the first
-- seven are fields 0 to 6; the word count is said before them.
abbrev pub fields : ℕ
fields = 7

abbrev pub field_of : Packet → ℕ → ℕ
field_of p i =
    cond (eqb i 0) p.position
    (cond (eqb i 1) p.orbit
    (cond (eqb i 2) p.trigger
    (cond (eqb i 3) p.bc
    (cond (eqb i 4) p.page
    (cond (eqb i 5) p.stop p.format)))))

-- "packet number, word number, byte in the word, all from 0"
abbrev pub byte_at : List ℕ → ℕ → ℕ → ℕ → ℕ
byte_at file packet word byte = number_at file (word_place file (words_before file packet + word) + byte) 1

-- A place: where it is, the first file's number there and the second's.
abbrev pub place : Where → ℕ → ℕ → Place
place at x y = record { at = at; first = x; second = y }

abbrev pub packets_place : List ℕ → List ℕ → Place
packets_place a b = place W.Packets (packets a) (packets b)

abbrev pub words_place : List ℕ → List ℕ → Place
words_place a b = place W.Words (words a) (words b)

abbrev pub count_place : List ℕ → List ℕ → ℕ → Place
count_place a b packet = place (W.Count packet) (count_at a packet) (count_at b packet)

abbrev pub field_place : List ℕ → List ℕ → ℕ → ℕ → Place
field_place a b packet i = place (W.Field packet i) (field_of (packet_at a packet) i) (field_of (packet_at b packet) i)

abbrev pub byte_place : List ℕ → List ℕ → ℕ → ℕ → ℕ → Place
byte_place a b packet word byte = place (W.Byte packet word byte) (byte_at a packet word byte) (byte_at b packet word byte)

-- What n numbers from i on give, one after the other; and where each gives one place.
unfoldable pub each : ℕ → ℕ → (ℕ → List Place) → List Place
each zero i given = []
each (suc n) i given = given i ++ each n (suc i) given

abbrev pub each_one : ℕ → ℕ → (ℕ → Place) → List Place
each_one n i given = each n i (λ j. given j ∷ [])

-- A word that both have: its bytes. A packet that both have: its fields, then the words that both have of it.
abbrev pub word_places : List ℕ → List ℕ → ℕ → ℕ → List Place
word_places a b packet word = each_one word_bytes 0 (byte_place a b packet word)

abbrev pub packet_places : List ℕ → List ℕ → ℕ → List Place
packet_places a b packet = each_one fields 0 (field_place a b packet) ++ each (common_words a b packet) 0 (word_places a b packet)

-- "If packet or word counts differ, or a packet's count does, it says so first and compares what both have at the same packet and word number."
unfoldable pub places : List ℕ → List ℕ → List Place
places a b =
    packets_place a b
    ∷ (words_place a b ∷ (each_one (common a b) 0 (count_place a b) ++ each (common a b) 0 (packet_places a b)))

-- "lists every place where they differ"
abbrev pub differs : Place → Bool
differs p = not (eqb p.first p.second)

unfoldable pub differing : List Place → List Place
differing [] = []
differing (p ∷ ps) = cond (differs p) (p ∷ []) [] ++ differing ps

unfoldable pub differences : List ℕ → List ℕ → List Place
differences a b = differing (places a b)
