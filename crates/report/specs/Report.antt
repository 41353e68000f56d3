-- A report of a file on the way: what each step prints.
-- Assumes nothing.
use Rattle.std.specs.Prelude.{ℕ, ◌+◌, ◌-◌, ◌*◌, ◌^◌, ◌≤◌, ◌≡◌, Bool, true, false, cond, List, [], Option, Some, None, eqb, length}
use Rattle.words.specs.Word.{word_bytes}
use Rattle.records.specs.Records.{most_records}
use Rattle.cdp_running.specs.Tracker.{Good, start_of}
use Rattle.bench_file.specs.declared.Found.{Found}
use Rattle.bench_file.specs.declared.Found.TheVariants as F
use Rattle.bench_file.specs.File.{bytes_at, check_of}
use Rattle.bench_file.specs.Items.{Item, packet, word, items_from}
use Rattle.bench_file.specs.Reader.{past_packet, past_word, next_found, Place}
use Rattle.report.specs.declared.Stage.{Stage}
use Rattle.report.specs.declared.Stage.TheVariants as S
use Rattle.report.specs.declared.Report.{Report}
use Rattle.ascii.specs.Steps.{Printed, nothing, Printer}
use Rattle.report.specs.Text.{heading, lines, records_line, refused_line, most_printed}
use Rattle.report.specs.File.{settings, tracker_after, records_after}

-- The start: the whole file was checked, and nothing is printed yet.
abbrev pub first_stage : ℕ → Stage
first_stage refusal = cond (eqb refusal 0) S.Heading (S.Refused refusal)

unfoldable pub start_report : List ℕ → Report
start_report file =
    record { stage = first_stage (check_of file); tracker = start_of settings; packet = 0; word = 0; left = 0; count = 0 }

-- The packets and words that are still to come.
abbrev pub to_come : List ℕ → Report → List Item
to_come file r = items_from file r.packet r.word r.left

abbrev pub at_stage : Stage → Report → Report
at_stage stage r =
    record { stage = stage; tracker = r.tracker; packet = r.packet; word = r.word; left = r.left; count = r.count }

-- The reader goes on past a packet or a word. A packet prints nothing. A word prints the lines of its records. At the end stands the number of all records.
abbrev pub item_step : List ℕ → Report → Option Found → Printed Report
item_step file r (Some (F.Packet p words)) =
    record {
      next =
          record {
            stage = S.Items;
            tracker = tracker_after r.tracker (packet p words);
            packet = past_packet file r.packet;
            word = r.word;
            left = words;
            count = r.count;
          };
      text = [];
    }
item_step file r (Some (F.Word at)) =
    let records = records_after r.tracker (word at (bytes_at file at)) in
    record {
      next =
          record {
            stage = S.Items;
            tracker = tracker_after r.tracker (word at (bytes_at file at));
            packet = r.packet;
            word = past_word file r.word;
            left = r.left - 1;
            count = r.count + length records;
          };
      text = lines records;
    }
item_step file r None = record { next = at_stage S.Done r; text = records_line r.count }

abbrev pub stage_step : List ℕ → Report → Stage → Printed Report
stage_step file r S.Heading = record { next = at_stage S.Items r; text = heading }
stage_step file r S.Items = item_step file r (next_found file r.packet r.word r.left)
stage_step file r (S.Refused n) = record { next = at_stage S.Done r; text = refused_line n }
stage_step file r S.Done = nothing r

unfoldable pub step_of : List ℕ → Report → Printed Report
step_of file r = stage_step file r r.stage

-- All is printed.
abbrev pub is_done : Stage → Bool
is_done S.Heading = false
is_done S.Items = false
is_done (S.Refused n) = false
is_done S.Done = true

-- At most so many steps are left.
abbrev pub steps_at : ℕ → Stage → ℕ
steps_at n S.Heading = n + 2
steps_at n S.Items = n + 1
steps_at n (S.Refused number) = 1
steps_at n S.Done = 0

unfoldable pub steps_left : List ℕ → Report → ℕ
steps_left file r = steps_at (length (to_come file r)) r.stage

-- Packets and words are still read.
abbrev pub reading : Stage → Bool
reading S.Heading = true
reading S.Items = true
reading (S.Refused n) = false
reading S.Done = false

-- The invariant of a report of a file, which the start and every step give: its tracker is a good one; and while packets and words are read, the file is
-- not refused, the place is one that its reader comes to, and no word gave more than six records.
pub record GoodReading (file : List ℕ) (r : Report) : Type 0 where
  pub checked : check_of file ≡ 0
  pub place : Place file r.packet r.word r.left
  pub count : r.count ≤ most_records * r.word

pub record GoodReport (file : List ℕ) (r : Report) : Type 0 where
  pub tracker : Good r.tracker
  pub going : reading r.stage ≡ true → GoodReading file r

-- A word that the reader gave, and what is to be counted on.
pub record GoodWord (file : List ℕ) (r : Report) (at : ℕ) : Type 0 where
  pub inside : at + word_bytes ≤ length file
  pub one_left : 1 ≤ r.left
  pub count_low : r.count ≤ 2 ^ 32

-- A report prints by steps.
abbrev pub printer : List ℕ → Printer Report
printer file = record { step_of = step_of file; most = most_printed; is_done = λ r. is_done r.stage; Good = GoodReport file }
