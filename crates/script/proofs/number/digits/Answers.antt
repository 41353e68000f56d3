-- One digit more: the facts of the product and the sum are found, so that this names no step of the code.
-- Assumes nothing.
use Rattle.std.proofs.Common.{arith}
use Rattle.script.proofs.Digits.{one_more}
use Rattle.script.proofs.number.digits.Goals as goal

pub loop-byte-preserved : goal.loop-byte-preserved
loop-byte-preserved c = grind (arith, one_more)
