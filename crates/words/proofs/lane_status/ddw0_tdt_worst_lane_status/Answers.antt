-- `lane_status::ddw0_tdt_worst_lane_status`: what the low and the high bits of all lanes say is the status of the worst lane.
-- Assumes nothing.
use Rattle.std.proofs.Common.{arith}
use Rattle.words.specs.Lanes.{lanes}
use Rattle.words.proofs.Worst.{worst_at_once}
use Rattle.words.proofs.lane_status.ddw0_tdt_worst_lane_status.Goals as goal

pub returns-then-low-high-ne0 : goal.returns-then-low-high-ne0
returns-then-low-high-ne0 c = omega (arith, worst_at_once c.args.word (omega arith) lanes (omega arith))

pub returns-then-high-ne0 : goal.returns-then-high-ne0
returns-then-high-ne0 c = omega (arith, worst_at_once c.args.word (omega arith) lanes (omega arith))

pub returns-then-low-ne0 : goal.returns-then-low-ne0
returns-then-low-ne0 c = omega (arith, worst_at_once c.args.word (omega arith) lanes (omega arith))

pub returns-else-low-ne0 : goal.returns-else-low-ne0
returns-else-low-ne0 c = omega (arith, worst_at_once c.args.word (omega arith) lanes (omega arith))
