-- Each step leaves fewer steps.
-- Assumes nothing.
use Rattle.std.proofs.Common.{◌≡◌, length}
use Rattle.report.specs.Text.{most_printed}
use Rattle.report.specs.Report.{GoodReport, steps_left}
use Rattle.edges.proofs.show.Given as goal

abbrev pub invariant-loop-out : goal.invariant-loop-out
invariant-loop-out g l = GoodReport l.file l.report × (length l.out ≡ most_printed)

abbrev pub decreases-loop-out : goal.decreases-loop-out
decreases-loop-out g l = steps_left l.file l.report
