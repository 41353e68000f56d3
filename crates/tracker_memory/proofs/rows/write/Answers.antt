use Rattle.cdp_running.specs.Word.{rows_of}
use Rattle.tracker_memory.proofs.Steps.{quiet_wrote}
use Rattle.tracker_memory.proofs.rows.write.Goals as goal

pub returns-then-is_silent : goal.returns-then-is_silent
returns-then-is_silent g c =
    quiet_wrote c.args.here _ (rows_of (g.T.TrackerMemory.tracker c.args.t.now) c.args.taken c.args.word) c.args.out.now
    (c.is_silent.ensures c.if-is_silent.true)
