-- What was written and what is gathered are what the steps so far print; and each step leaves fewer steps.
-- Assumes nothing.
use Rattle.std.specs.Io.KnownBytes.{Appends}
use Rattle.ascii.proofs.Gathering.{Gathered}
use Rattle.ascii.proofs.printing.print.Given as goal

abbrev pub invariant-loop-state : goal.invariant-loop-state
invariant-loop-state g l =
    Gathered (g.T.ByStep.printer l.it) l.initial.state (Appends (g.W.Write.contents l.initial.to) (g.W.Write.contents l.to)) l.state
    l.gathered l.used

abbrev pub decreases-loop-state : goal.decreases-loop-state
decreases-loop-state g l = g.T.ByStep.left l.it l.state
