-- The call on the numbers, where they are a tracker.
use Rattle.khandzorul.proofs.Exports.{payload_none, is_good, payload_done}
use Rattle.khandzorul.proofs.khz_payload.Goals as goal

pub returns-then-not-is_tracker : goal.returns-then-not-is_tracker
returns-then-not-is_tracker c = payload_none c.args.tracker.now c.is_tracker.ensures c.if-not-is_tracker.true

pub payload-answer-requires : goal.payload-answer-requires
payload-answer-requires c = is_good c.args.tracker.now c.is_tracker.ensures c.if-not-is_tracker.false

pub returns : goal.returns
returns c =
    rw c.code_if.ensures (payload_done c.args.tracker.now c.is_tracker.ensures c.if-not-is_tracker.false c.payload-answer.ensures.payload)
