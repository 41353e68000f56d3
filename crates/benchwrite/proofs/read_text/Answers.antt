-- A piece more.
-- Assumes nothing.
use Rattle.std.proofs.Common.{refl, rules, length-take, arith}
use Rattle.benchwrite.proofs.Reading.{going, one_more, read}
use Rattle.benchwrite.proofs.read_text.Goals as goal

pub loop-reads-init : goal.loop-reads-init
loop-reads-init g c =
    let start = going c.args.buffer.now c.args.held.now c.requires.buffer_len c.requires.held_len c.start-reading.ensures in
    (start, (refl, omega arith))

pub returns-then-reading-ne0 : goal.returns-then-reading-ne0
returns-then-reading-ne0 g c =
    let piece = c.read.auto.buf in
    read (one_more _ c.loop-reads.invariant.0 (omega (arith, length-take c.in-Ok.n c.read.new.buf)) c.feed-reading.ensures)
    (omega (arith, c.loop-reads-test.true))

pub loop-reads-preserved : goal.loop-reads-preserved
loop-reads-preserved g c =
    let piece = c.read.auto.buf in (
      one_more _ c.loop-reads.invariant.0 (omega (arith, length-take c.in-Ok.n c.read.new.buf)) c.feed-reading.ensures,
      (search rules, omega (arith, c.loop-reads-test.true)),
    )
