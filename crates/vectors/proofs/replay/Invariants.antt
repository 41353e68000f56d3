-- The tracker is good, and no count has passed the number of calls.
-- Assumes nothing.
use Rattle.std.proofs.Common.{◌≤◌}
use Rattle.cdp_running.specs.Tracker.{Good}
use Rattle.vectors.proofs.replay.Given as goal

abbrev pub invariant-loop-n : goal.invariant-loop-n
invariant-loop-n g l =
    Good l.t × (l.n ≤ 65536) × (l.y.sequences ≤ l.n) × (l.y.words ≤ l.n) × (l.y.differ ≤ l.n) × (l.packets ≤ l.n)
