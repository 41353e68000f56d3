-- Each number stands behind the one before it.
-- Assumes nothing.
use Rattle.std.proofs.Common.{arith}
use Rattle.ascii.specs.Text.{most_number}
use Rattle.ascii.proofs.Putting.{in_room_lem, behind}
use Rattle.report.proofs.text.put_three.Goals as goal

pub returns-clause-puts : goal.returns-clause-puts
returns-clause-puts c =
    let a = in_room_lem most_number _ (omega arith) c.put_number-a.ensures.puts in
    let b = in_room_lem most_number _ (omega arith) c.put_number.ensures.puts in
    let d = in_room_lem most_number _ (omega arith) c.put_number-2.ensures.puts in
    behind (behind a b) d
