use Rattle.std.proofs.Common.{arith}
use Rattle.tracker_memory.proofs.Numbers as N
use Rattle.tracker_memory.proofs.array.ArrayU64SIZETrackerMemory.store_counted.Goals as goal

pub returns-clause-holds : goal.returns-clause-holds
returns-clause-holds c = (N.counted c.args.self.now c.requires c.args.count (omega arith)).holds

pub returns-clause-stored : goal.returns-clause-stored
returns-clause-stored c = (N.counted c.args.self.now c.requires c.args.count (omega arith)).is
