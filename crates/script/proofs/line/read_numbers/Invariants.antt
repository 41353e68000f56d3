-- The numbers passed, and the parts to come.
-- Assumes nothing.
use Rattle.script.proofs.Counting.{Going}
use Rattle.script.proofs.line.read_numbers.Given as goal

abbrev pub invariant-loop-i : goal.invariant-loop-i
invariant-loop-i l = Going l.initial.rest l.n l.rest l.i
