use Rattle.std.proofs.Common.{arith}
use Rattle.payload.proofs.Going.{some_from, none_from}
use Rattle.payload.proofs.quick.pass.Goals as goal

pub returns-then-to-at-clause-passed : goal.returns-then-to-at-clause-passed
returns-then-to-at-clause-passed g c =
    some_from c.quiet_to-to.ensures c.if-to-at.true (omega (arith, c.count.ensures)) c.store_counted.ensures.stored

pub returns-else-to-at-clause-passed : goal.returns-else-to-at-clause-passed
returns-else-to-at-clause-passed g c = none_from c.quiet_to-to.ensures c.if-to-at.false
