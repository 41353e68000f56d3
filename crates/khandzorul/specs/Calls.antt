-- What each exported function answers and leaves in the arrays that it is lent, by the calls of cdp_running and payload: where the array holds the numbers
-- of a tracker, the call on that tracker is made, and the numbers of the tracker that it gives are written. Where it holds no tracker's, 100, and all stays.
-- Assumes nothing.
use Rattle.std.specs.Prelude.{ℕ, ◌≡◌, Bool, cond, not, ◌&&◌, ◌||◌, List, leb, eqb, length}
use Rattle.std.specs.Bool.{then_some}
use Rattle.packet.specs.declared.Settings.{Settings}
use Rattle.packet.specs.declared.Packet.{Packet}
use Rattle.words.specs.Lists.{over}
use Rattle.records.specs.Records.{flat, room}
use Rattle.cdp_running.specs.declared.Tracker.{Tracker}
use Rattle.cdp_running.specs.Told.{Refused}
use Rattle.cdp_running.specs.Tracker.{start_of, reset_of, packet_call}
use Rattle.cdp_running.specs.Word as Word
use Rattle.cdp_running.specs.Word.{word_call, records_in}
use Rattle.payload.specs.Payload as Payload
use Rattle.payload.specs.Payload.{payload_call}
use Rattle.tracker_array.specs.Array.{size, encode_of, written_to, is_on, is_flag, is_rule, rule_of, IsTracker, NoTracker}
use Rattle.khandzorul.specs.declared.WordNumbers.{WordNumbers}
use Rattle.khandzorul.specs.declared.PayloadNumbers.{PayloadNumbers}
use Rattle.khandzorul.specs.Answer.{no_tracker, no_settings, told_numbers, paid_numbers}

-- What a call gives on the tracker whose numbers an array holds, and what it gives where there is none.
pub record On {A : Type 0} (a : List ℕ) (x otherwise : A) (call : Tracker → A) : Type 0 where
  pub is : (t : Tracker) → IsTracker a t → x ≡ call t
  pub none : NoTracker a → x ≡ otherwise

-- What khz_start is asked for, as it comes in: five numbers.
pub record Asked : Type 0 where
  pub running : ℕ
  pub frames : ℕ
  pub periodic : ℕ
  pub period : ℕ
  pub rule : ℕ

-- "Settings, fixed at the start: running checks on or off, frames on or off, period absent or" up to its largest; 02, ticket 9: "periods up to
-- 4,294,967,295 under either rule".
abbrev pub max_period : ℕ
max_period = 4294967295

abbrev pub are_settings : Asked → Bool
are_settings s =
    is_flag s.running
    && (is_flag s.frames
    && (is_flag s.periodic && ((not (is_on s.periodic) || leb s.period max_period) && is_rule s.rule)))

abbrev pub settings_from : Asked → Settings
settings_from s =
    record {
      running = is_on s.running;
      frames = is_on s.frames;
      period = then_some (is_on s.periodic) s.period;
      rule = rule_of s.rule;
    }

-- khz_start: a tracker, whatever stood there. 100 comes first, then 101; either leaves the array.
pub record StartOn (a : List ℕ) (s : Asked) (r : ℕ) (after : List ℕ) : Type 0 where
  pub answer : r ≡ cond (eqb (length a) size) (cond (are_settings s) 0 no_settings) no_tracker
  pub tracker : after ≡ cond (are_settings s) (written_to a (start_of (settings_from s))) a

-- khz_packet
pub record PacketOn (a : List ℕ) (p : Packet) (r : ℕ) (after : List ℕ) : Type 0 where
  pub answer : On a r no_tracker (λ t. (packet_call t p).refusal)
  pub tracker : On a after a (λ t. encode_of (packet_call t p).tracker)

-- khz_reset
pub record ResetOn (a : List ℕ) (r : ℕ) (after : List ℕ) : Type 0 where
  pub answer : On a r no_tracker (λ t. 0)
  pub tracker : On a after a (λ t. encode_of (reset_of t))

-- khz_word
pub record WordOn (a bytes buffer : List ℕ) (r : WordNumbers) (after buffer-after : List ℕ) : Type 0 where
  pub answer : On a r (told_numbers (Refused no_tracker)) (λ t. told_numbers (Word.word_answer t (word_call t bytes (room buffer))).told)
  pub tracker : On a after a (λ t. encode_of (Word.word_answer t (word_call t bytes (room buffer))).tracker)
  pub buffer_is : On a buffer-after buffer (λ t. over (flat (records_in (word_call t bytes (room buffer)))) buffer)

-- khz_payload
pub record PayloadOn (a bytes buffer : List ℕ) (r : PayloadNumbers) (after buffer-after : List ℕ) : Type 0 where
  pub answer : On a r (record { refusal = no_tracker; words = 0; records = 0 })
      (λ t. paid_numbers (Payload.payload_answer (payload_call t bytes (room buffer))))
  pub tracker : On a after a (λ t. encode_of (payload_call t bytes (room buffer)).tracker)
  pub buffer_is : On a buffer-after buffer (λ t. over (flat (payload_call t bytes (room buffer)).records) buffer)
