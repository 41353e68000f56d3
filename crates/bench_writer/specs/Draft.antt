-- Issue 25, a bench file that is being made in a lent buffer: behind room for the header stand the packets, each with its count, then the words. Which
-- packet and which word is refused, and what the buffer is after each call.
-- Assumes nothing.
use Rattle.std.specs.Prelude.{ℕ, ◌+◌, ◌-◌, ◌≤◌, ◌≡◌, cond, List, ◌++◌, Result, Ok, Err, leb, ltb, eqb, length, take, drop}
use Rattle.refusals.specs.declared.Refusal.{Refusal}
use Rattle.refusals.specs.Refusals.{number}
use Rattle.words.specs.Word.{word_bytes}
use Rattle.writer.specs.Write.{bytes_of}
use Rattle.packet.specs.declared.Packet.{Packet}
use Rattle.packet.specs.Packet.{in_range, max_words}
use Rattle.bench_file.specs.File.{header_bytes, packet_bytes, most_bytes, packet_place}
use Rattle.bench_writer.specs.declared.Draft.{Draft}
use Rattle.bench_writer.specs.Content.{Entry, packets_in, words_in, trailing, packet_as, table, bodies, header, size_of, Fine}

-- The counts of entries, and of none.
abbrev pub draft_of : List Entry → Draft
draft_of es = record { packets = packets_in es; words = words_in es; last = trailing 0 es }

abbrev pub no_draft : Draft
no_draft = record { packets = 0; words = 0; last = 0 }

-- The bytes of its file; where its next packet stands, before the words, and its next word, at the end.
abbrev pub size : Draft → ℕ
size d = size_of d.packets d.words

abbrev pub packet_end : Draft → ℕ
packet_end d = packet_place d.packets

-- The invariant of a buffer and its draft.
pub record GoodDraft (buffer : List ℕ) (d : Draft) : Type 0 where
  pub long : length buffer ≡ most_bytes
  pub short : size d ≤ most_bytes

-- Bytes over those that stand at a place.
abbrev pub put_at : ℕ → List ℕ → List ℕ → List ℕ
put_at at bytes buffer = take at buffer ++ (bytes ++ drop (at + length bytes) buffer)

-- "5 a packet's field, .. 6 a file that would be over 60,000 bytes"; "for a packet 5, 6"
abbrev pub packet_refusal : Draft → Packet → ℕ
packet_refusal d p = cond (in_range p) (cond (leb (size d + packet_bytes) most_bytes) 0 6) 5

-- A packet more: it stands before the words, which move on, and counts none.
abbrev pub with_packet : Draft → Draft
with_packet d = record { packets = d.packets + 1; words = d.words; last = 0 }

unfoldable pub packet_in : Draft → Packet → List ℕ → List ℕ
packet_in d p buffer =
    take (packet_end d) buffer
    ++ (packet_as p 0 ++ (take (size d - packet_end d) (drop (packet_end d) buffer) ++ drop (size d + packet_bytes) buffer))

-- "2 a word before any packet, 3 a packet's 4,097th word, 6 a file that would be over 60,000 bytes"; "for a word .. 2, 3, 6"
abbrev pub word_refusal : Draft → ℕ
word_refusal d = cond (eqb d.packets 0) 2 (cond (ltb d.last max_words) (cond (leb (size d + word_bytes) most_bytes) 0 6) 3)

-- A word more: it stands behind the others, and the last packet, whose count is its last two bytes, counts it.
abbrev pub with_word : Draft → Draft
with_word d = record { packets = d.packets; words = d.words + 1; last = d.last + 1 }

unfoldable pub word_in : Draft → List ℕ → List ℕ → List ℕ
word_in d w buffer = put_at (size d) w (put_at (packet_end d - 2) (bytes_of 2 (d.last + 1)) buffer)

-- The refusal of a call, or 0, and the draft after it: refused, that is as it was.
pub record Added : Type 0 where
  pub refusal : ℕ
  pub draft : Draft

abbrev pub told : Draft → Result Draft Refusal → Added
told d (Ok next) = record { refusal = 0; draft = next }
told d (Err r) = record { refusal = number r; draft = d }

-- What a call gives: the refusal, and the draft and the buffer with the entry; refused, both are as they were.
pub record AddPost (refusal : ℕ) (d next : Draft) (buffer added : List ℕ) (r : Added) (after : List ℕ) : Type 0 where
  pub answer : r.refusal ≡ refusal
  pub draft_is : r.draft ≡ cond (eqb refusal 0) next d
  pub buffer_is : after ≡ cond (eqb refusal 0) added buffer
  pub good : GoodDraft after r.draft

abbrev pub AddPacketPost : Draft → Packet → List ℕ → Result Draft Refusal → List ℕ → Type 0
AddPacketPost d p buffer r = AddPost (packet_refusal d p) d (with_packet d) buffer (packet_in d p buffer) (told d r)

abbrev pub AddWordPost : Draft → List ℕ → List ℕ → Result Draft Refusal → List ℕ → Type 0
AddWordPost d w buffer r = AddPost (word_refusal d) d (with_word d) buffer (word_in d w buffer) (told d r)

-- The header is put in its place; the file stands at the front of the buffer.
pub record FinishPost (d : Draft) (buffer : List ℕ) (n : ℕ) (after : List ℕ) : Type 0 where
  pub length_is : n ≡ size d
  pub buffer_is : after ≡ put_at 0 (header d.packets d.words) buffer

-- The buffer holds these entries: all of the file but its header (proofs/Holding.antt: what each call makes of it).
pub record Holds (buffer : List ℕ) (d : Draft) (es : List Entry) : Type 0 where
  pub fine : Fine es
  pub draft_is : d ≡ draft_of es
  pub long : length buffer ≡ most_bytes
  pub bytes : take (size d - header_bytes) (drop header_bytes buffer) ≡ table es ++ bodies es
