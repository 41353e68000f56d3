-- Issue 25, and 01, "Bench file", the other way: the bytes of the file that has these packets and words, in this order.
-- Assumes nothing.
use Rattle.std.specs.Prelude.{ℕ, suc, ◌+◌, ◌*◌, ◌≤◌, ◌≡◌, true, List, [], ◌∷◌, ◌++◌, length}
use Rattle.words.specs.Word.{word_bytes}
use Rattle.writer.specs.Write.{bytes_of}
use Rattle.packet.specs.declared.Packet.{Packet}
use Rattle.packet.specs.Packet.{in_range, max_words}
use Rattle.bench_file.specs.File.{header_bytes, most_bytes, packet_place}
use Rattle.bench_file.specs.Items as I

-- What a file is made of: a packet, or a word as its ten bytes.
pub data Entry : Type 0 where
  packet : Packet → Entry
  word : List ℕ → Entry

unfoldable pub packets_in : List Entry → ℕ
packets_in [] = 0
packets_in (packet p ∷ es) = suc (packets_in es)
packets_in (word w ∷ es) = packets_in es

unfoldable pub words_in : List Entry → ℕ
words_in [] = 0
words_in (packet p ∷ es) = words_in es
words_in (word w ∷ es) = suc (words_in es)

-- The words before the next packet: what a packet counts of what follows it.
unfoldable pub leading : List Entry → ℕ
leading [] = 0
leading (packet p ∷ es) = 0
leading (word w ∷ es) = suc (leading es)

-- The words after the last packet, where n were before these entries.
unfoldable pub trailing : ℕ → List Entry → ℕ
trailing n [] = n
trailing n (packet p ∷ es) = trailing 0 es
trailing n (word w ∷ es) = trailing (suc n) es

-- "A packet: position 8 bytes, orbit 4, trigger 4, BC 2, page 2, stop 1, format 1, word count 2."
abbrev pub packet_front : Packet → List ℕ
packet_front p =
    bytes_of 8 p.position
    ++ (bytes_of 4 p.orbit
    ++ (bytes_of 4 p.trigger
    ++ (bytes_of 2 p.bc ++ (bytes_of 2 p.page ++ (bytes_of 1 p.stop ++ bytes_of 1 p.format)))))

abbrev pub packet_as : Packet → ℕ → List ℕ
packet_as p count = packet_front p ++ bytes_of 2 count

-- The packets, each with how many words follow it.
unfoldable pub table : List Entry → List ℕ
table [] = []
table (packet p ∷ es) = packet_as p (leading es) ++ table es
table (word w ∷ es) = table es

-- "Words follow, 10 bytes each, and end the file."
unfoldable pub bodies : List Entry → List ℕ
bodies [] = []
bodies (packet p ∷ es) = bodies es
bodies (word w ∷ es) = w ++ bodies es

-- "header: packet count, word count, packet offset 16, word offset 16 + 24 times packets, 32 bits each"
abbrev pub header : ℕ → ℕ → List ℕ
header packets words = bytes_of 4 packets ++ (bytes_of 4 words ++ (bytes_of 4 header_bytes ++ bytes_of 4 (packet_place packets)))

-- The file.
unfoldable pub file_of : List Entry → List ℕ
file_of es = header (packets_in es) (words_in es) ++ (table es ++ bodies es)

-- The bytes of a file with so many packets and words.
abbrev pub size_of : ℕ → ℕ → ℕ
size_of packets words = packet_place packets + word_bytes * words

-- Each packet's fields are in range and it has at most 4,096 words; each word has ten bytes.
abbrev pub EachFine : List Entry → Type 0
EachFine [] = Unit {0}
EachFine (packet p ∷ es) = (in_range p ≡ true) × ((leading es ≤ max_words) × EachFine es)
EachFine (word w ∷ es) = (length w ≡ word_bytes) × EachFine es

-- Entries that a file can have: and no word is before the first packet, and the file is not over 60,000 bytes.
pub record Fine (es : List Entry) : Type 0 where
  pub each : EachFine es
  pub packet_first : leading es ≡ 0
  pub short : size_of (packets_in es) (words_in es) ≤ most_bytes

-- An item of a file, without what the file adds to it: a packet's count and a word's place.
abbrev pub entry_of : I.Item → Entry
entry_of (I.packet p count) = packet p
entry_of (I.word at bytes) = word bytes
