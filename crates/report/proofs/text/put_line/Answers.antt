-- The last two numbers stand behind the first three.
-- Assumes nothing.
use Rattle.std.proofs.Common.{arith}
use Rattle.ascii.specs.Text.{most_number}
use Rattle.ascii.proofs.Putting.{in_room_lem, behind}
use Rattle.report.specs.Text.{line}
use Rattle.report.proofs.text.put_line.Goals as goal

pub returns-clause-puts : goal.returns-clause-puts
unfolding line
returns-clause-puts c =
    let b = in_room_lem most_number _ (omega arith) c.put_number.ensures.puts in
    let d = in_room_lem most_number _ (omega arith) c.put_number-2.ensures.puts in
    behind (behind c.put_three-a.ensures.puts b) d
