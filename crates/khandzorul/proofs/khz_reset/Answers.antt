-- The call on the numbers, where they are a tracker.
use Rattle.khandzorul.proofs.Exports.{reset_none, is_good, reset_done}
use Rattle.khandzorul.proofs.khz_reset.Goals as goal

pub returns-then-not-is_tracker : goal.returns-then-not-is_tracker
returns-then-not-is_tracker c = reset_none c.args.tracker.now c.is_tracker.ensures c.if-not-is_tracker.true

pub reset-requires : goal.reset-requires
reset-requires c = is_good c.args.tracker.now c.is_tracker.ensures c.if-not-is_tracker.false

pub returns : goal.returns
returns c =
    reset_done c.args.tracker.now c.is_tracker.ensures c.if-not-is_tracker.false c.reset.ensures
