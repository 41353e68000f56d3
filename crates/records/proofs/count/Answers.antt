-- `count`: one row more is one record more where the row is on.
-- Assumes nothing.
use Rattle.std.proofs.Common.{rules, arith, refl}
use Rattle.records.specs.Records.{none, count}
use Rattle.records.proofs.Given.{count_more}
use Rattle.records.proofs.count.Goals as goal
use Rattle.records.proofs.count.Goals.{then-row, else-row}

pub loop-row-init : goal.loop-row-init
unfolding count
loop-row-init c = record { low = omega arith; counted = refl }

pub loop-row-preserved : goal.loop-row-preserved
loop-row-preserved c =
    let more = count_more c.args.rows c.loop-row.row-index none (search rules) in
    elim c.if-row.branch [
      | then-row w ↦ let m = rw w.if-row.true at more in record { low = omega arith; counted = omega arith }
      | else-row w ↦ let m = rw w.if-row.false at more in record { low = omega arith; counted = omega arith }
    ]
