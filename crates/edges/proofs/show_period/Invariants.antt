-- The tracker is good, and the counts are those of the distances passed.
-- Assumes nothing.
use Rattle.std.proofs.Common.{◌*◌, ◌≤◌, ◌<◌}
use Rattle.cdp_running.specs.Tracker.{Good}
use Rattle.edges.proofs.show_period.Given as goal

abbrev pub invariant-loop-k : goal.invariant-loop-k
invariant-loop-k g l =
    (l.k ≤ 3564) × ((l.bc < 3564) × ((l.differ ≤ l.k) × ((l.sum ≤ 3564 * l.k) × Good l.t)))
