use Rattle.in_place.proofs.Storing.{accepts}
use Rattle.in_place.proofs.stores.packet.Goals as goal

pub returns : goal.returns
returns c = accepts c.args.a.now _ c.requires
