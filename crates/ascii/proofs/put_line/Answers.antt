-- With room for the longest line, the name, the numbers and the line's end stand each behind the other.
-- Assumes nothing.
use Rattle.std.proofs.Common.{length, arith}
use borrow.Author.Tests.{le-ltb}
use Rattle.ascii.specs.Text.{most_line}
use Rattle.ascii.proofs.Putting.{behind}
use Rattle.ascii.proofs.put_line.Goals as goal

pub returns : goal.returns
returns c =
    rw (le-ltb (length c.args.out.now) (most_line c.args.name.now c.args.numbers.now) (omega arith))
    (behind (behind c.copy-named.ensures c.put_numbers.ensures.puts) c.copy.ensures)
