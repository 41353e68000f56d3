-- Quiet data words: they give no record, and their id alone tells it. It is a data id whose lane is active, or any data id without running checks.
-- Assumes nothing.
use Rattle.std.specs.Prelude.{ℕ, ◌+◌, ◌-◌, ◌*◌, ◌/◌, ◌%◌, ◌≤◌, ◌<◌, ◌^◌, ◌≡◌, leb, ltb, eqb}
use Rattle.std.specs.Prelude.{Bool, true, false, cond, not, ◌&&◌, ◌||◌, List, length, get_or}
use Rattle.words.specs.Word.{word_bytes}
use Rattle.words.specs.Lanes.{is_lane_active}
use Rattle.data_ids.specs.DataIds.{is_data_id, lane_of}
use Rattle.packet.specs.Packet.{max_words}
use Rattle.payload_fsm.specs.declared.ItsPayloadWord.TheVariants as K
use Rattle.payload_fsm.specs.Step.{among_data}
use Rattle.stored.specs.declared.FrameTold.TheVariants as F
use Rattle.cdp_running.specs.declared.Taken.{Taken}
use Rattle.cdp_running.specs.declared.Tracker.{Tracker}
use Rattle.tracker_memory.specs.Memory.{with_counted}

abbrev pub quiet_id : ℕ → ℕ → Bool
quiet_id lanes id = is_data_id id && is_lane_active (lane_of id) lanes

-- The lanes that need not be asked: all, without running checks.
abbrev pub checked_lanes : Bool → ℕ → ℕ
checked_lanes running lanes = cond running lanes (2 ^ 28 - 1)

-- Ids from 32 to 95 as the bits of one number: bit i stands for the id whose remainder by 64 is i.
abbrev pub has_id : ℕ → ℕ → Bool
has_id ids id = not (ltb id 32 || leb 96 id) && eqb (ids / 2 ^ (id % 64) % 2) 1

pub record QuietIds (lanes ids : ℕ) : Type 0 where
  pub each : (id : ℕ) → id < 256 → has_id ids id ≡ quiet_id lanes id

-- The id of word i from a place on.
abbrev pub id_at : List ℕ → ℕ → ℕ → ℕ
id_at bytes at i = get_or bytes (at + word_bytes * i + 9) 0

-- The words from one place to another have such ids.
pub record HaveIds (ids : ℕ) (bytes : List ℕ) (at end to : ℕ) : Type 0 where
  pub n : ℕ
  pub to_is : to ≡ at + word_bytes * n
  pub within : to ≤ end
  pub each : (i : ℕ) → i < n → has_id ids (id_at bytes at i) ≡ true

-- What is told of one.
abbrev pub quiet_told : Taken
quiet_told = record { kind = K.DataWord; guessed = false; records = 0; frame = F.Nothing; lanes = 0 }

-- n words from a place on are quiet data words, and the packet still takes them.
pub record QuietTo (t : Tracker) (bytes : List ℕ) (at to : ℕ) : Type 0 where
  pub n : ℕ
  pub to_is : to ≡ at + word_bytes * n
  pub within : to ≤ length bytes
  pub room : t.at.count + n ≤ max_words
  pub among : (n ≡ 0 → ⊥) → among_data t.at.fsm.state ≡ true
  pub each : (i : ℕ) → i < n → quiet_id (checked_lanes t.settings.running t.stored.ihw.lanes) (id_at bytes at i) ≡ true

-- They are taken: they are counted, and data is seen.
pub record Passed (t : Tracker) (bytes : List ℕ) (at to : ℕ) (after : Tracker) : Type 0 where
  pub quiet : QuietTo t bytes at to
  pub tracker : after ≡ cond (eqb quiet.n 0) t (with_counted t (t.at.count + quiet.n))
