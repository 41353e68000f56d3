-- 01, "Bench file": where each number of a file stands, and when a file is refused. Offsets and lengths are plain numbers.
-- Assumes nothing.
use Rattle.std.specs.Prelude.{ℕ, zero, suc, ◌+◌, ◌*◌, Bool, cond, not, ◌||◌, List, leb, ltb, eqb, length, take, drop}
use Rattle.words.specs.Word.{word_bytes}
use Rattle.words.specs.LittleEndian.{number_at}
use Rattle.packet.specs.declared.Packet.{Packet}
use Rattle.packet.specs.Packet.{in_range, max_words}

abbrev pub header_bytes : ℕ
header_bytes = 16

abbrev pub packet_bytes : ℕ
packet_bytes = 24

-- "over 60,000 bytes"
abbrev pub most_bytes : ℕ
most_bytes = 60000

-- "header: packet count, word count, packet offset 16, word offset 16 + 24 times packets, 32 bits each"
abbrev pub packets : List ℕ → ℕ
packets file = number_at file 0 4

abbrev pub words : List ℕ → ℕ
words file = number_at file 4 4

abbrev pub packet_offset : List ℕ → ℕ
packet_offset file = number_at file 8 4

abbrev pub word_offset : List ℕ → ℕ
word_offset file = number_at file 12 4

-- "A packet: position 8 bytes, orbit 4, trigger 4, BC 2, page 2, stop 1, format 1, word count 2."
abbrev pub packet_of : List ℕ → ℕ → Packet
packet_of file at =
    record {
      position = number_at file at 8;
      orbit = number_at file (at + 8) 4;
      trigger = number_at file (at + 12) 4;
      bc = number_at file (at + 16) 2;
      page = number_at file (at + 18) 2;
      stop = number_at file (at + 20) 1;
      format = number_at file (at + 21) 1;
    }

abbrev pub count_of : List ℕ → ℕ → ℕ
count_of file at = number_at file (at + 22) 2

-- Packet i, from 0, and its word count.
abbrev pub packet_place : ℕ → ℕ
packet_place i = header_bytes + packet_bytes * i

abbrev pub packet_at : List ℕ → ℕ → Packet
packet_at file i = packet_of file (packet_place i)

abbrev pub count_at : List ℕ → ℕ → ℕ
count_at file i = count_of file (packet_place i)

-- "Words follow, 10 bytes each, and end the file": where word n of the file, from 0, stands, and the bytes of a word at a place.
abbrev pub word_place : List ℕ → ℕ → ℕ
word_place file n = packet_place (packets file) + word_bytes * n

abbrev pub bytes_at : List ℕ → ℕ → List ℕ
bytes_at file at = take word_bytes (drop at file)

-- The words of the packets before packet i.
unfoldable pub words_before : List ℕ → ℕ → ℕ
words_before file zero = 0
words_before file (suc i) = words_before file i + count_at file i

-- 6, "file under 16 or over 60,000 bytes, packet or word offset other than stated below, or length not word offset + 10 times words"
unfoldable pub misfit : List ℕ → Bool
misfit file =
    ltb (length file) header_bytes
    || (ltb most_bytes (length file)
    || (not (eqb (packet_offset file) header_bytes)
    || (not (eqb (word_offset file) (packet_place (packets file)))
    || not (eqb (length file) (word_offset file + word_bytes * words file)))))

-- 5, "a packet field outside its stated range"; 3, "in a file, a packet's count above 4,096". "per packet 5, 3"
abbrev pub refusal_by : Bool → Bool → ℕ
refusal_by range few = cond range (cond few 0 3) 5

abbrev pub packet_refusal : List ℕ → ℕ → ℕ
packet_refusal file at = refusal_by (in_range (packet_of file at)) (leb (count_of file at) max_words)

-- Of n packets from packet i on, the first refusal, or 0.
unfoldable pub first_refusal : List ℕ → ℕ → ℕ → ℕ
first_refusal file zero i = 0
first_refusal file (suc n) i =
    cond (eqb (packet_refusal file (packet_place i)) 0)
    (first_refusal file n (suc i))
    (packet_refusal file (packet_place i))

-- 7, "packets' word counts don't sum to the header's". "File: 6, 7, then per packet 5, 3."
unfoldable pub check_of : List ℕ → ℕ
check_of file =
    cond (misfit file) 6 (cond (eqb (words_before file (packets file)) (words file)) (first_refusal file (packets file) 0) 7)
