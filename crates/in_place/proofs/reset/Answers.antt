use Rattle.in_place.proofs.Packets.{reset_done}
use Rattle.in_place.proofs.reset.Goals as goal

pub returns : goal.returns
returns c = reset_done c.args.a.now c.requires c.from.ensures
