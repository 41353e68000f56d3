-- 01, "Bench file": "a reader that holds the file's bytes and its place gives the next packet or word, each packet before its words, then the end".
-- Assumes nothing.
use Rattle.std.specs.Prelude.{ℕ, suc, ◌+◌, ◌≤◌, ◌<◌, ◌≡◌, Bool, true, cond, ◌&&◌, List, [], ◌∷◌, Option, Some, None, leb, ltb, eqb, length}
use Rattle.std.specs.Borrow.{Bor}
use Rattle.words.specs.Word.{word_bytes}
use Rattle.words.specs.LittleEndian.{number_at}
use Rattle.packet.specs.declared.Packet.{Packet}
use Rattle.packet.specs.Packet.{in_range, max_words}
use Rattle.bench_file.specs.declared.FileReader.{FileReader}
use Rattle.bench_file.specs.declared.Found.{Found}
use Rattle.bench_file.specs.declared.Found.TheVariants as F
use Rattle.bench_file.specs.File.{most_bytes, header_bytes, packet_bytes, packets, words, packet_place, packet_at, count_at, word_place, bytes_at, words_before}
use Rattle.bench_file.specs.Items.{Item, packet, word}

-- A reader at a place: the file's bytes, the next packet and the next word.
abbrev pub reader_at : Bor (List ℕ) → ℕ → ℕ → FileReader
reader_at bytes i n = record { bytes = bytes; packet = i; word = n }

-- A number of the header, for who asks it of any bytes: `packets` is at 0 and `words` at 4. In fewer bytes than a header has it is 0.
unfoldable pub header_number : List ℕ → ℕ → ℕ
header_number file at = cond (ltb (length file) header_bytes) 0 (number_at file at 4)

-- Whether there is a packet i, a word n: the header counts it, and its bytes lie in the file.
abbrev pub has_packet : List ℕ → ℕ → Bool
has_packet file i = ltb i (packets file) && leb (packet_place i + packet_bytes) (length file)

abbrev pub has_word : List ℕ → ℕ → Bool
has_word file n = ltb n (words file) && leb (word_place file n + word_bytes) (length file)

-- What is found there: the packet with its word count, the word as its place; where there is none, nothing.
unfoldable pub packet_found : List ℕ → ℕ → Option (Packet × ℕ)
packet_found file i = cond (has_packet file i) (Some (packet_at file i, count_at file i)) None

unfoldable pub word_found : List ℕ → ℕ → Option ℕ
word_found file n = cond (has_word file n) (Some (word_place file n)) None

-- The cursor past it: one on, and at the end it stays.
unfoldable pub past_packet : List ℕ → ℕ → ℕ
past_packet file i = cond (has_packet file i) (i + 1) i

unfoldable pub past_word : List ℕ → ℕ → ℕ
past_word file n = cond (has_word file n) (n + 1) n

-- What a reader gives next, and the reader past it.
abbrev pub next_packet : FileReader → Option (Packet × ℕ)
next_packet r = packet_found r.bytes.now r.packet

abbrev pub next_word : FileReader → Option ℕ
next_word r = word_found r.bytes.now r.word

abbrev pub after_packet : FileReader → FileReader
after_packet r = reader_at r.bytes (past_packet r.bytes.now r.packet) r.word

abbrev pub after_word : FileReader → FileReader
after_word r = reader_at r.bytes r.packet (past_word r.bytes.now r.word)

-- "gives the next packet or word, each packet before its words, then the end": all that a reader gives from its place on, where so many words of the
-- packet at hand are left. Each is given by the reader past the one before; a packet's words are asked for after it, as many as it says.
pub data Gives : FileReader → ℕ → List Item → Type 0 where
  end : {r : FileReader} → next_packet r ≡ None → Gives r 0 []
  packet_first : {r : FileReader} {p : Packet} {count : ℕ} {rest : List Item} → next_packet r ≡ Some (p, count) → Gives (after_packet r) count rest
      → Gives r 0 (packet p count ∷ rest)
  then_word : {r : FileReader} {left at : ℕ} {rest : List Item} → next_word r ≡ Some at → Gives (after_word r) left rest
      → Gives r (suc left) (word at (bytes_at r.bytes.now at) ∷ rest)

-- "Where an answer is an enum, a definition gives this paper's number and values for each of its cases": 0 the end, 1 a packet, 2 a word; and what is
-- given, a packet with its word count or a word with its place and its ten bytes.
pub record Given : Type 0 where
  pub number : ℕ
  pub items : List Item

abbrev pub given_of : List ℕ → Option Found → Given
given_of file None = record { number = 0; items = [] }
given_of file (Some (F.Packet p count)) = record { number = 1; items = packet p count ∷ [] }
given_of file (Some (F.Word at)) = record { number = 2; items = word at (bytes_at file at) ∷ [] }

-- A packet and a word as what is found of either kind.
abbrev pub as_packet : Option (Packet × ℕ) → Option Found
as_packet None = None
as_packet (Some found) = Some (F.Packet found.0 found.1)

abbrev pub as_word : Option ℕ → Option Found
as_word None = None
as_word (Some at) = Some (F.Word at)

-- What is to be given: packet i, word n, or nothing.
abbrev pub packet_here : List ℕ → ℕ → Given
packet_here file i =
    cond (has_packet file i) (record { number = 1; items = packet (packet_at file i) (count_at file i) ∷ [] })
    (record { number = 0; items = [] })

abbrev pub word_here : List ℕ → ℕ → Given
word_here file n =
    cond (has_word file n) (record { number = 2; items = word (word_place file n) (bytes_at file (word_place file n)) ∷ [] })
    (record { number = 0; items = [] })

pub record NextPacketPost (file : List ℕ) (i : ℕ) (r : Option (Packet × ℕ)) : Type 0 where
  pub answer : r ≡ packet_found file i
  pub given : given_of file (as_packet r) ≡ packet_here file i

pub record NextWordPost (file : List ℕ) (n : ℕ) (r : Option ℕ) : Type 0 where
  pub answer : r ≡ word_found file n
  pub given : given_of file (as_word r) ≡ word_here file n

-- From the next packet, the next word and how many words of the packet at hand are left: a word while any is left, then the next packet.
abbrev pub next_found : List ℕ → ℕ → ℕ → ℕ → Option Found
next_found file i n left = cond (eqb left 0) (as_packet (packet_found file i)) (as_word (word_found file n))

pub record NextPost (file : List ℕ) (i n left : ℕ) (r : Option Found) : Type 0 where
  pub answer : r ≡ next_found file i n left
  pub given : given_of file r ≡ cond (eqb left 0) (packet_here file i) (word_here file n)

-- What holds of a file that is not refused.
pub record Sound (file : List ℕ) : Type 0 where
  pub short : length file ≤ most_bytes
  pub whole : length file ≡ word_place file (words file)
  pub packets_few : packets file ≤ 2499
  pub words_few : words file ≤ 6000
  pub sum : words_before file (packets file) ≡ words file
  pub in_range_is : (i : ℕ) → i < packets file → in_range (packet_at file i) ≡ true
  pub count : (i : ℕ) → i < packets file → count_at file i ≤ max_words
  pub inside : (n : ℕ) → n < words file → word_place file n + word_bytes ≤ length file

-- A place that a reader comes to: no packet past the last, and the packet at hand has its words still to come.
pub record Place (file : List ℕ) (i n left : ℕ) : Type 0 where
  pub within : i ≤ packets file
  pub here : n + left ≡ words_before file i
