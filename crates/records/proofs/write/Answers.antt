-- `write`: the loop keeps what `Going` says. The refusal where there is no room is found from `counted`.
-- Assumes nothing.
use Rattle.std.proofs.Common.{rules, arith}
use Rattle.records.specs.Records.{record_width}
use Rattle.records.proofs.Given.{counted, count_low}
use Rattle.records.proofs.Writing.{begins, skip, has_room, more, tail_long, written}
use Rattle.records.proofs.write.Goals as goal
use Rattle.records.proofs.write.Goals.{then-row, else-row}

-- At most six records.
pub overflow_mul-n : goal.overflow_mul-n
overflow_mul-n c = omega (arith, c.count-n.ensures, count_low c.args.rows)

pub loop-row-init : goal.loop-row-init
loop-row-init c =
    begins c.args.position c.args.packet c.args.rows c.args.out.now
    (omega (arith, counted c.args.position c.args.packet c.args.rows, c.count-n.ensures))

pub put-requires : goal.put-requires
put-requires c =
    tail_long c.loop-row.used record_width c.loop-row.out (has_room c.loop-row.invariant (search rules) c.if-row.true)

pub loop-row-preserved : goal.loop-row-preserved
loop-row-preserved c =
    elim c.if-row.branch [
      | then-row w ↦ more c.loop-row.invariant (search rules) w.if-row.true w.put.ensures w.out-is w.used-is
      | else-row w ↦ skip c.loop-row.invariant (search rules) w.if-row.false w.out-is w.used-is
    ]

pub returns : goal.returns
returns c =
    written c.args.position c.args.packet c.args.rows c.args.out.now c.loop-row.out c.loop-row.used c.loop-row.row-index c.count-n.result
    c.loop-row.invariant (search rules) c.count-n.ensures
    (omega (arith, c.count-n.ensures, c.if-out-n.false))
