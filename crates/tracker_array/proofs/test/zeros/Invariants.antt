-- What was asked and what is still to be asked are the whole.
use Rattle.std.proofs.Common.{◌-◌, ◌≡◌, ◌&&◌, ◌≤◌}
use Rattle.tracker_array.specs.Read.{zeros_from}
use Rattle.tracker_array.proofs.test.zeros.Given as goal

abbrev pub invariant-loop-i : goal.invariant-loop-i
invariant-loop-i l =
    record {
      within : l.i ≤ l.to;
      whole : (l.all && zeros_from (l.to - l.i) l.i l.a) ≡ zeros_from (l.to - l.from) l.from l.a;
    }

abbrev pub decreases-loop-i : goal.decreases-loop-i
decreases-loop-i l = l.to - l.i
