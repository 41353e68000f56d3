-- What the steps print, one after the other in buffers of any sizes that have room for a word's lines, is the text of the file, and they end.
-- Assumes nothing.
use Prim.Native.Nat.{ℕ, ◌+◌, ◌≤◌, ◌<◌}
use mathlib.Core.Path.{◌≡◌, refl, ap, ◌∙◌}
use mathlib.Core.Bool.{Bool, true, false}
use mathlib.Core.List.{List}
use native.Mathlib.Nat.{zero-add}
use native.Mathlib.Omega.{arith}
use lib.Dec.{eqb}
use lib.ListN.{length}
use Rattle.bench_file.specs.File.{check_of}
use Rattle.bench_file.specs.Items.{items}
use Rattle.bench_file.proofs.Reading.{all_to_come}
use Rattle.ascii.specs.Steps.{StepPost, Steps}
use Rattle.ascii.proofs.Steps.{Ends, onward, steps_print, ends}
pub use Rattle.ascii.proofs.Steps.{step_fits}
use Rattle.report.specs.declared.Report.{Report}
use Rattle.report.specs.Text.{most_printed}
use Rattle.report.specs.File.{file_records, text}
use Rattle.report.specs.Report.{start_report, is_done, steps_left, GoodReport, printer}
use Rattle.report.proofs.Steps.{good_start}
use Rattle.report.proofs.Keeping.{rest_of, laws}

-- For who calls `step`: with room for a word's lines fewer steps are left.
pub step_onward : {file : List ℕ} {r next : Report} {d d' : List ℕ} {n : ℕ} → StepPost (printer file) r d next n d'
    → GoodReport file r
    → is_done r.stage ≡ false
    → most_printed ≤ length d
    → steps_left file next < steps_left file r
step_onward {file} f g e h = onward (laws file) f g h e

-- At the start the whole text is to be printed, in at most as many steps as the file has packets, words and two.
abbrev AllLeft : List ℕ → Type 0
AllLeft file =
    (rest_of file (start_report file) ≡ text file) × (steps_left file (start_report file) ≤ length (items file) + 2)

start_left : (file : List ℕ) → AllLeft file
unfolding rest_of steps_left start_report text file_records
start_left file = at (eqb (check_of file) 0) refl
  where
    at : (b : Bool) → eqb (check_of file) 0 ≡ b → AllLeft file
    at true e = (simp (e, all_to_come file, zero-add), simp e (omega (arith, ap length (all_to_come file))))
    at false e = (simp e, simp e (omega arith))

-- What the steps print is the text of the file, whatever the sizes of the buffers; they are at most as many as the file has packets, words and two.
module _ (file : List ℕ) {n : ℕ} {out : List ℕ} (steps : Steps (printer file) (start_report file) n out) where
  pub prints_text : out ≡ text file
  prints_text = (steps_print (laws file) steps (good_start file)).0 ∙ (start_left file).0

  pub few_steps : n ≤ length (items file) + 2
  few_steps = omega (arith, (steps_print (laws file) steps (good_start file)).1, (start_left file).1)

-- With any buffer that has room for a word's lines they end.
pub steps_end : (file d : List ℕ) → most_printed ≤ length d → Ends (printer file) (start_report file)
steps_end file d room = ends (laws file) d room (start_report file) (good_start file)
