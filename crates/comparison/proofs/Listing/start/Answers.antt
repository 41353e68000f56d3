-- The start by both refusals.
-- Assumes nothing.
use Rattle.comparison.proofs.Printing.{started}
use Rattle.comparison.proofs.Listing.start.Goals as goal

pub returns : goal.returns
returns c =
    rw c.begin.ensures
    (started c.args.a.now c.args.b.now c.check-first.ensures c.check-second.ensures c.first_stage.ensures)
