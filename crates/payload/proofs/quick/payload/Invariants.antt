use Rattle.std.proofs.Common.{length, ◌-◌}
use Rattle.payload.proofs.Loop.{Going}
use Rattle.payload.proofs.quick.payload.Given as goal

abbrev pub invariant-loop-at : goal.invariant-loop-at
invariant-loop-at g l =
    record {
      holds : g.T.TrackerMemory.holds l.t;
      going : Going (g.T.TrackerMemory.tracker l.fn.t) l.fn.bytes l.fn.out l.out (g.T.TrackerMemory.tracker l.t) l.at l.used;
    }

abbrev pub decreases-loop-at : goal.decreases-loop-at
decreases-loop-at g l = length l.bytes - l.at
