-- What the calls on the numbers of a tracker give: the answer of the call on the tracker that the numbers are, and the numbers of the tracker that it
-- gives. After each call the numbers are a tracker's again.
-- Assumes nothing.
use Rattle.std.specs.Prelude.{ℕ, ◌≡◌, List, length}
use Rattle.packet.specs.declared.Packet.{Packet}
use Rattle.words.specs.Lists.{over}
use Rattle.records.specs.Records.{flat, room}
use Rattle.cdp_running.specs.Told.{Told}
use Rattle.cdp_running.specs.Tracker.{reset_of, packet_call}
use Rattle.cdp_running.specs.Word.{word_call, word_answer, records_in}
use Rattle.payload.specs.Payload.{Run, payload_call}
use Rattle.tracker_array.specs.Array.{encode_of}
use Rattle.tracker_array.specs.Read.{tracker_in}
use Rattle.tracker_array.specs.Good.{GoodArray}
use Rattle.payload.specs.Answer.{PayloadTold}

pub record PacketInPlace (a : List ℕ) (p : Packet) (r : ℕ) (after : List ℕ) : Type 0 where
  pub answer : r ≡ (packet_call (tracker_in a) p).refusal
  pub numbers : after ≡ encode_of (packet_call (tracker_in a) p).tracker
  pub good : GoodArray after

pub record ResetInPlace (a after : List ℕ) : Type 0 where
  pub numbers : after ≡ encode_of (reset_of (tracker_in a))
  pub good : GoodArray after

pub record WordInPlace (a bytes buffer : List ℕ) (r : Told) (after buffer-after : List ℕ) : Type 0 where
  pub answer : r ≡ (word_answer (tracker_in a) (word_call (tracker_in a) bytes (room buffer))).told
  pub numbers : after ≡ encode_of (word_answer (tracker_in a) (word_call (tracker_in a) bytes (room buffer))).tracker
  pub buffer_is : buffer-after ≡ over (flat (records_in (word_call (tracker_in a) bytes (room buffer)))) buffer
  pub good : GoodArray after

-- What a payload call tells: words taken, records written, the refusal.
abbrev pub payload_told : Run → PayloadTold
payload_told r = record { words = r.words; records = length r.records; refusal = r.refusal }

pub record PayloadInPlace (a bytes buffer : List ℕ) (r : PayloadTold) (after buffer-after : List ℕ) : Type 0 where
  pub answer : r ≡ payload_told (payload_call (tracker_in a) bytes (room buffer))
  pub numbers : after ≡ encode_of (payload_call (tracker_in a) bytes (room buffer)).tracker
  pub buffer_is : buffer-after ≡ over (flat (payload_call (tracker_in a) bytes (room buffer)).records) buffer
  pub good : GoodArray after
