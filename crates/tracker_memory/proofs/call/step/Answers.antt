use Rattle.std.proofs.Common.{sym}
use Rattle.tracker_memory.proofs.Steps.{handed_on, of_written, step_full, step_done, wrote_as, next_as}
use Rattle.tracker_memory.proofs.call.step.Goals as goal

pub returns-in_err-records-clause-step : goal.returns-in_err-records-clause-step
returns-in_err-records-clause-step g c =
    let t = g.T.TrackerMemory.tracker c.args.t.now in
    of_written (sym (handed_on _ c.from_residual.ensures))
    (step_full t c.args.word (wrote_as t c.args.word c.taken_as-taken.ensures c.position-here.ensures c.write-written.ensures) c.in_err-records.was)

pub returns-clause-step : goal.returns-clause-step
returns-clause-step g c =
    let t = g.T.TrackerMemory.tracker c.args.t.now in
    let w = c.args.word in
    step_done t w (wrote_as t w c.taken_as-taken.ensures c.position-here.ensures c.write-written.ensures) c.in_ok-records.was
    (next_as t w c.taken_as-taken.ensures c.store.ensures.stored)
