-- The words passed have such ids.
use Rattle.std.proofs.Common.{◌-◌}
use Rattle.payload.specs.Quiet.{HaveIds}
use Rattle.payload.proofs.quiet.have_ids.Given as goal

abbrev pub invariant-loop-i : goal.invariant-loop-i
invariant-loop-i l = HaveIds l.ids l.bytes l.at l.end l.i

abbrev pub decreases-loop-i : goal.decreases-loop-i
decreases-loop-i l = l.end - l.i
