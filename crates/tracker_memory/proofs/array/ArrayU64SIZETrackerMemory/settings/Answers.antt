use Rattle.std.proofs.Common.{arith}
use Rattle.tracker_memory.proofs.Numbers as N
use Rattle.tracker_memory.proofs.array.ArrayU64SIZETrackerMemory.settings.Goals as goal

pub overflow_cast-self : goal.overflow_cast-self
overflow_cast-self c = let low = N.period_low c.args.self.now c.requires in omega (arith, low)
