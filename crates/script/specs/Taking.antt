-- Issue 25, what a line does to the file that is being made: what it adds, and when it is refused.
-- Assumes nothing.
use Rattle.std.specs.Prelude.{ℕ, cond, List, [], ◌∷◌, Result}
use Rattle.refusals.specs.declared.Refusal.{Refusal}
use Rattle.writer.specs.Write.{refused_field}
use Rattle.bench_writer.specs.declared.Draft.{Draft}
use Rattle.packet.specs.declared.PacketFields.{PacketFields}
use Rattle.bench_writer.specs.Content.{Entry, packet, word}
use Rattle.packet.specs.Packet.{packet_from}
use Rattle.bench_writer.specs.Draft.{packet_refusal, with_packet, packet_in, word_refusal, with_word, word_in, told, AddPost}
use Rattle.script.specs.Line.{Kind, Nothing, Unreadable, Packet, Word, Line}
use Rattle.script.specs.Asked.{nth, asked_of}

-- "102 a line that can't be read"
abbrev pub refused_line : ℕ
refused_line = 102

-- "packet POSITION ORBIT TRIGGER BC PAGE STOP FORMAT"
abbrev pub packet_of : List ℕ → PacketFields
packet_of n =
    record {
      position = nth n 0;
      orbit = nth n 1;
      trigger = nth n 2;
      bc = nth n 3;
      page = nth n 4;
      stop = nth n 5;
      format = nth n 6;
    }

-- What a line is refused with, behind what is there, or 0: "on one line 102 comes first, then for a packet 5, 6, for a word 8, 2, 3, 6".
abbrev pub refusal_by : Kind → List ℕ → Draft → ℕ
refusal_by Nothing n d = 0
refusal_by Unreadable n d = refused_line
refusal_by Packet n d = packet_refusal d (packet_from (packet_of n))
refusal_by (Word k) n d = cond (asked_of k n).fits (word_refusal d) refused_field

-- What it adds: nothing, a packet or a word.
abbrev pub entries_by : Kind → List ℕ → List Entry
entries_by Nothing n = []
entries_by Unreadable n = []
entries_by Packet n = packet (packet_from (packet_of n)) ∷ []
entries_by (Word k) n = word (asked_of k n).bytes ∷ []

-- The same of the counts and of the buffer.
abbrev pub draft_by : Kind → Draft → Draft
draft_by Nothing d = d
draft_by Unreadable d = d
draft_by Packet d = with_packet d
draft_by (Word k) d = with_word d

abbrev pub buffer_by : Kind → List ℕ → Draft → List ℕ → List ℕ
buffer_by Nothing n d buffer = buffer
buffer_by Unreadable n d buffer = buffer
buffer_by Packet n d buffer = packet_in d (packet_from (packet_of n)) buffer
buffer_by (Word k) n d buffer = word_in d (asked_of k n).bytes buffer

-- What taking a line gives.
abbrev pub TakePost : Line → Draft → List ℕ → Result Draft Refusal → List ℕ → Type 0
TakePost l d buffer r = AddPost (refusal_by l.kind l.n d) d (draft_by l.kind d) buffer (buffer_by l.kind l.n d buffer) (told d r)
