-- The tracker is good.
-- Assumes nothing.
use Rattle.std.proofs.Common.{◌≡◌, ◌*◌, ◌≤◌, length}
use Rattle.cdp_running.specs.Tracker.{Good}
use Rattle.records.specs.Records.{most_records, record_width}
use Rattle.edges.proofs.show_full.Given as goal

abbrev pub invariant-loop-n : goal.invariant-loop-n
invariant-loop-n g l = (l.n ≤ 5000) × (Good l.t × (length l.out ≡ most_records * record_width))
