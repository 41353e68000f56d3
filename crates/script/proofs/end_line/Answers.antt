-- The end of a line.
-- Assumes nothing.
use Rattle.std.proofs.Common.{refl}
use Rattle.script.specs.Feeding.{state_of}
use Rattle.script.proofs.Fed.{line_stopped, line_ended}
use Rattle.script.proofs.end_line.Goals as goal

pub returns-in-Ok : goal.returns-in-Ok
returns-in-Ok c =
    let s = state_of c.args.buffer.now c.args.held.now c.args.r in
    line_ended s c.take.result c.requires c.if-r-ne0.false c.take.ensures c.in-Ok.is c.next_line.ensures refl

pub returns-in-Err : goal.returns-in-Err
returns-in-Err c =
    let s = state_of c.args.buffer.now c.args.held.now c.args.r in
    line_stopped s c.take.result c.requires c.if-r-ne0.false c.take.ensures c.in-Err.is (cc)
