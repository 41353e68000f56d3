-- The call on the numbers, where they are a tracker.
use Rattle.khandzorul.proofs.Exports.{word_none, is_good, word_done}
use Rattle.khandzorul.proofs.khz_word.Goals as goal

pub returns-then-not-is_tracker : goal.returns-then-not-is_tracker
returns-then-not-is_tracker c = word_none c.args.tracker.now c.is_tracker.ensures c.if-not-is_tracker.true c.refused.ensures

pub word-requires : goal.word-requires
word-requires c = is_good c.args.tracker.now c.is_tracker.ensures c.if-not-is_tracker.false

pub returns : goal.returns
returns c =
    word_done c.args.tracker.now c.is_tracker.ensures c.if-not-is_tracker.false c.word.ensures.word c.told.ensures
