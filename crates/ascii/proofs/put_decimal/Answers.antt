-- The digits that `decimal` spelled are copied.
-- Assumes nothing.
use Rattle.ascii.proofs.Putting.{decimal_put}
use Rattle.ascii.proofs.put_decimal.Goals as goal

pub returns-clause-puts : goal.returns-clause-puts
returns-clause-puts c =
    decimal_put c.decimal-k.new.out c.args.n c.decimal-k.ensures.len c.decimal-k.ensures.digits c.copy.ensures
