use Rattle.std.proofs.Common.{refl}
use Rattle.payload.proofs.QuietIds.{quiet_ids}
use Rattle.payload.proofs.quiet.quiet_ids.Goals as goal

pub returns : goal.returns
returns c = quiet_ids c.args.lanes _ refl
