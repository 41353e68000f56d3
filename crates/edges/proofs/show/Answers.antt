-- A step in room enough leaves fewer steps.
-- Assumes nothing.
use Rattle.std.proofs.Common.{sym, arith}
use Rattle.report.proofs.Printing.{step_onward}
use Rattle.edges.proofs.show.Goals as goal

pub loop-out-smaller : goal.loop-out-smaller
loop-out-smaller g c =
    step_onward c.step-filled.ensures c.loop-out.invariant.0 (sym c.loop-out-test.ensures) (omega arith)
