use Rattle.std.proofs.Common.{arith, ◌∙◌}
use Rattle.tracker_memory.proofs.Numbers as N
use Rattle.tracker_memory.proofs.array.ArrayU64SIZETrackerMemory.store_ihw.Goals as goal

pub returns-clause-holds : goal.returns-clause-holds
returns-clause-holds c =
    rw (c.from.ensures ∙ N.flag_number c.args.ihw.present)
    (N.ihw c.args.self.now c.requires c.args.ihw (omega arith)).holds

pub returns-clause-stored : goal.returns-clause-stored
returns-clause-stored c =
    rw (c.from.ensures ∙ N.flag_number c.args.ihw.present)
    (N.ihw c.args.self.now c.requires c.args.ihw (omega arith)).is
