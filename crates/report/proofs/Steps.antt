-- One step of a report: what the code computed, in the definition's terms.
-- Assumes nothing.
use Prim.Native.Nat.{ℕ, ◌+◌, ◌-◌, ◌≤◌, ◌*◌}
use mathlib.Core.Path.{◌≡◌, refl, sym, ap, subst, ◌∙◌}
use Rattle.std.proofs.Common.{Option, Some}
use mathlib.Core.Bool.{Bool, true, false}
use mathlib.Core.List.{List}
use native.Mathlib.Omega.{arith}
use borrow.Author.Tests.{eqb-true}
use borrow.Rule.Slice.PartMut.{mid_of}
use lib.Dec.{eqb}
use lib.ListN.{length, take}
use Rattle.words.specs.Lists.{over}
use Rattle.records.specs.Records.{flat, room, most_records, record_width}
use Rattle.records.proofs.Given.{length_flat}
use Rattle.words.proofs.Buffer.{over_fits}
use Rattle.cdp_running.specs.declared.Tracker.{Tracker}
use Rattle.std.specs.Prelude.{Result, Ok, Err}
use Rattle.refusals.specs.declared.Refusal.{Refusal}
use Rattle.cdp_running.specs.declared.Taken.{Taken}
use Rattle.cdp_running.specs.Told.{WordAnswer, word_answered}
use Rattle.cdp_running.specs.Tracker.{start_of}
use Rattle.cdp_running.proofs.Good as Good
use Rattle.cdp_running.specs.Answer.{numbers_of, records_told}
use Rattle.cdp_running.specs.Word.{Outcome, taken, refused, word_call, word_answer, records_in, WordPost}
use Rattle.bench_file.specs.declared.Found.TheVariants as F
use Rattle.bench_file.specs.File.{check_of, bytes_at}
use Rattle.bench_file.specs.declared.Found.{Found}
use Rattle.bench_file.specs.Reader.{past_word, next_found}
use Rattle.bench_file.proofs.Reading.{at_start, sound, reached, word_given}
use Rattle.ascii.specs.Text.{Puts}
use Rattle.report.specs.declared.Stage.{Stage}
use Rattle.report.specs.declared.Stage.TheVariants as S
use Rattle.report.specs.declared.Report.{Report}
use Rattle.ascii.specs.Steps.{Prints}
use Rattle.report.specs.Text.{lines, all_records}
use Rattle.report.specs.File.{settings}
use Rattle.report.specs.Report.{first_stage, start_report, reading, item_step, stage_step, step_of, GoodReading, GoodWord, GoodReport}
use Rattle.report.proofs.Lines.{all_written}

-- The start.
not_refused : (n : ℕ) → reading (first_stage n) ≡ true → n ≡ 0
not_refused n e = at (eqb n 0) refl
  where
    at : (b : Bool) → eqb n 0 ≡ b → n ≡ 0
    at true q = eqb-true n 0 q
    at false q = cc (simp q at e)

pub good_start : (file : List ℕ) → GoodReport file (start_report file)
unfolding start_report
good_start file =
    record {
      tracker = Good.good_start settings;
      going = λ e. record { checked = not_refused (check_of file) e; place = at_start file; count = omega arith };
    }

abbrev new_report : Stage → Tracker → Report
new_report stage t = record { stage = stage; tracker = t; packet = 0; word = 0; left = 0; count = 0 }

pub started : (file : List ℕ) {n : ℕ} {stage : Stage} {t : Tracker} → n ≡ check_of file → stage ≡ first_stage n
    → t ≡ start_of settings
    → (new_report stage t ≡ start_report file) × GoodReport file (new_report stage t)
unfolding start_report
started file p q h = (rw (q, p, h), rw (q, p, h) (good_start file))

-- A word's records, as its call told them and left them in the buffer.
module _ (t : Tracker) (bytes : List ℕ) {zeros after : List ℕ} {a : WordAnswer} (w : WordPost t bytes zeros a after)
    (n : length zeros ≡ most_records * record_width) where
  places : room zeros ≡ most_records
  places = omega arith

  answered : a ≡ word_answer t (word_call t bytes most_records)
  answered = rw places at w.answer

  stand : after ≡ over (flat (records_in (word_call t bytes most_records))) zeros
  stand = rw places at w.buffer_is

  told : (o : Outcome) → (numbers_of (word_answer t o).told).records ≡ length (records_in o)
  told (taken x) = refl
  told (refused m) = refl

  told_is : (numbers_of a.told).records ≡ length (records_in (word_call t bytes most_records))
  told_is = rw answered (told (word_call t bytes most_records))

  pub told_few : length after ≡ length zeros → (numbers_of a.told).records ≤ most_records
  told_few same =
      let rs = records_in (word_call t bytes most_records) in
      let fits = over_fits (flat rs) zeros (sym (ap length stand) ∙ same) in
      omega (arith, told_is, length_flat rs)

  pub told_stand : all_records (take (record_width * (numbers_of a.told).records) after) ≡ records_in (word_call t bytes most_records)
  told_stand = rw (told_is, stand) (all_written (records_in (word_call t bytes most_records)) _)

-- A word: its lines are printed.
pub word_printed : (file : List ℕ) (r : Report) (at : ℕ) {zeros after d d' : List ℕ} {a : WordAnswer} {next : Tracker} {given n on : ℕ}
    → WordPost r.tracker (bytes_at file at) zeros a after
    → next ≡ a.tracker
    → length zeros ≡ most_records * record_width
    → on ≡ past_word file r.word
    → given ≡ (numbers_of a.told).records
    → Puts (lines (all_records (take (record_width * given) after))) d n d'
    → Prints (item_step file r (Some (F.Word at))) d
    (record { stage = S.Items; tracker = next; packet = r.packet; word = on; left = r.left - 1; count = r.count + given }) n d'
word_printed file r at {after = after} {given = given} w q z o g p =
    let t = r.tracker in
    let bytes = bytes_at file at in
    let stand : all_records (take (record_width * given) after) ≡ records_in (word_call t bytes most_records) = rw g (told_stand t bytes w z) in
    record {
      next_is = rw (q, o, g, told_is t bytes w z, answered t bytes w z);
      puts = rw stand at p;
    }

-- How many records were told.
pub as_told : (t : Tracker) (x : Result (Tracker × Taken) Refusal) {n : ℕ} → n ≡ records_told x → n ≡ (numbers_of (word_answered t x).told).records
as_told t (Ok next) e = e
as_told t (Err r) e = e

-- The part of a file that a word stands in.
pub as_word : {t : Tracker} (file : List ℕ) (at : ℕ) {zeros after : List ℕ} {a : WordAnswer}
    → WordPost t (mid_of at (at + 10 - at) file) zeros a after
    → WordPost t (bytes_at file at) zeros a after
as_word file at w =
    let ten : at + 10 - at ≡ 10 = omega arith in
    rw ten at w

-- What the reader found, and what is to be counted on there.
module _ {file : List ℕ} {r : Report} (g : GoodReading file r) where
  pub good_word_at : {x : Option Found} {at : ℕ} → x ≡ next_found file r.packet r.word r.left
      → x ≡ Some (F.Word at) → GoodWord file r at
  good_word_at {x} {at} p q =
      let s = sound file g.checked in
      let given = word_given s g.place (sym p ∙ q) in
      let low = reached s g.place in
      record {
        inside = given.inside;
        one_left = given.one_left;
        count_low = omega arith;
      }

pub found : (file : List ℕ) (r : Report) {d d' : List ℕ} {x y : Option Found} {next : Report} {n : ℕ}
    → x ≡ next_found file r.packet r.word r.left → x ≡ y
    → Prints (item_step file r y) d next n d'
    → Prints (item_step file r (next_found file r.packet r.word r.left)) d next n d'
found file r e q s = rw (← e, q) s

-- The step by the stage.
pub staged : (file : List ℕ) (r : Report) {next : Report} {d d' : List ℕ} {n : ℕ} {s : Stage} → r.stage ≡ s
    → Prints (stage_step file r s) d next n d'
    → Prints (step_of file r) d next n d'
unfolding step_of
staged file r {next} {d} {d'} {n} e p = subst (λ (z : Stage). Prints (stage_step file r z) d next n d') (sym e) p
