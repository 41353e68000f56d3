use Rattle.std.proofs.Common.{◌∙◌}
use Rattle.tracker_memory.proofs.Numbers as N
use Rattle.tracker_memory.proofs.array.ArrayU64SIZETrackerMemory.store_cdw.Goals as goal

pub returns-clause-holds : goal.returns-clause-holds
returns-clause-holds c =
    rw (c.from.ensures ∙ N.flag_number c.args.cdw.present)
    (N.cdw c.args.self.now c.requires c.args.cdw).holds

pub returns-clause-stored : goal.returns-clause-stored
returns-clause-stored c =
    rw (c.from.ensures ∙ N.flag_number c.args.cdw.present)
    (N.cdw c.args.self.now c.requires c.args.cdw).is
