-- One byte more.
-- Assumes nothing.
use Rattle.script.proofs.Fed.{further, all_read}
use Rattle.script.proofs.feed.Goals as goal

pub loop-byte-preserved : goal.loop-byte-preserved
loop-byte-preserved c = further _ _ _ _ _ _ c.loop-byte-test.true c.loop-byte.invariant c.feed_byte-r.ensures

pub returns : goal.returns
returns c = all_read _ _ _ _ _ _ c.loop-byte-test.false c.loop-byte.invariant
