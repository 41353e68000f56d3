use Rattle.std.proofs.Common.{arith, ◌∙◌}
use Rattle.tracker_memory.proofs.Numbers as N
use Rattle.tracker_memory.proofs.array.ArrayU64SIZETrackerMemory.store_tdh.Goals as goal

pub returns-clause-holds : goal.returns-clause-holds
returns-clause-holds c =
    rw (c.from.ensures ∙ N.flag_number c.args.tdh.present)
    (N.tdh c.args.self.now c.requires c.args.tdh (omega arith) (omega arith) (omega arith)).holds

pub returns-clause-stored : goal.returns-clause-stored
returns-clause-stored c =
    rw (c.from.ensures ∙ N.flag_number c.args.tdh.present)
    (N.tdh c.args.self.now c.requires c.args.tdh (omega arith) (omega arith) (omega arith)).is
