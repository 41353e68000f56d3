-- 01, "Calls and settings": a packet, the ranges of its fields, how many words it takes and where they stand.
-- Assumes nothing.
use Rattle.std.specs.Prelude.{ℕ, ◌+◌, ◌*◌, ◌≤◌, ◌^◌, ◌≡◌, Bool, true, false, cond, ◌&&◌, ◌||◌, leb, ltb, eqb, Result, Ok, Err}
use Rattle.refusals.specs.declared.Refusal.{Refusal}
use Rattle.refusals.specs.declared.Refusal.TheVariants as R
use Rattle.packet.specs.declared.Packet.{Packet}
use Rattle.packet.specs.declared.PacketFields.{PacketFields}

-- "a presence flag beside fields": no packet yet, all zeros.
abbrev pub no_packet : Packet
no_packet = record { position = 0; orbit = 0; trigger = 0; bc = 0; page = 0; stop = 0; format = 0 }

-- "A packet: position (at most 2^62), orbit and trigger type (32 bits), BC (at most 4095), page (16 bits), stop (8 bits), format (0 or 2)."
abbrev pub max_position : ℕ
max_position = 2 ^ 62

abbrev pub in_range : Packet → Bool
in_range p =
    leb p.position max_position
    && (ltb p.orbit (2 ^ 32)
    && (ltb p.trigger (2 ^ 32)
    && (leb p.bc 4095
    && (ltb p.page (2 ^ 16) && (ltb p.stop (2 ^ 8) && (eqb p.format 0 || eqb p.format 2))))))

-- The packet of numbers as they are given.
abbrev pub packet_from : PacketFields → Packet
packet_from fields =
    record {
      position = fields.position;
      orbit = fields.orbit;
      trigger = fields.trigger;
      bc = fields.bc;
      page = fields.page;
      stop = fields.stop;
      format = fields.format;
    }

-- The fields of a packet: those that it is the packet of.
abbrev pub gives_fields : Packet → PacketFields → Type 0
gives_fields p fields = packet_from fields ≡ p

-- The packet of numbers in their ranges, and else refusal 5.
abbrev pub gives_packet : PacketFields → Result Packet Refusal → Type 0
gives_packet fields (Ok p) = (in_range (packet_from fields) ≡ true) × (p ≡ packet_from fields)
gives_packet fields (Err r) = (in_range (packet_from fields) ≡ false) × (r ≡ R.Packet)

-- "A packet takes 4,096 words."
abbrev pub max_words : ℕ
max_words = 4096

-- 02, ticket 7, "the count of packets accepted since the start .. It stops at 4,294,967,295": so many packets are accepted, and none after them.
abbrev pub most_packets : ℕ
most_packets = 4294967295

-- ".. times 16 in format 0, times 10 in format 2": from one word to the next.
abbrev pub stride : ℕ → ℕ
stride format = cond (eqb format 0) 16 10

-- "Word n, from 1, stands at position + 64 + (n - 1) times" that: the next word, after so many.
abbrev pub position_of : Packet → ℕ → ℕ
position_of p taken = p.position + 64 + taken * stride p.format

-- No position is above that of the last word of a packet at the last position.
abbrev pub most_position : ℕ
most_position = max_position + 64 + 16 * 4095

-- Where a word may be asked for: behind a packet at a position in range, after no more words than it takes.
pub record GoodPlace (p : Packet) (taken : ℕ) : Type 0 where
  pub position : p.position ≤ max_position
  pub count : taken ≤ max_words
