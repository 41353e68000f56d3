use Rattle.tracker_memory.proofs.Numbers as N
use Rattle.tracker_memory.proofs.array.ArrayU64SIZETrackerMemory.store_seen.Goals as goal

pub returns-clause-holds : goal.returns-clause-holds
returns-clause-holds c = (N.seen c.args.self.now c.requires).holds

pub returns-clause-stored : goal.returns-clause-stored
returns-clause-stored c = (N.seen c.args.self.now c.requires).is
