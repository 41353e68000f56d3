-- Numbers stored at every place are all that the array holds.
use Rattle.std.proofs.Common.{◌∙◌}
use Rattle.tracker_array.proofs.Stores.{stored_all, wrote}
use Rattle.tracker_array.proofs.encode.Goals as goal

pub returns : goal.returns
returns c =
    simp (c.stored.ensures, c.up_to_seen.ensures, c.unused.ensures)
    (stored_all c.args.a.now c.args.t c.if-a-ne-SIZE.false) ∙ wrote c.args.a.now c.args.t c.if-a-ne-SIZE.false
