use Rattle.std.proofs.Common.{length, ◌-◌}
use Rattle.payload.proofs.Loop.{Going}
use Rattle.payload.proofs.payload.Given as goal

abbrev pub invariant-loop-at : goal.invariant-loop-at
invariant-loop-at l = Going l.fn.t l.fn.bytes l.fn.out l.out l.cur l.at l.used

abbrev pub decreases-loop-at : goal.decreases-loop-at
decreases-loop-at l = length l.bytes - l.at
