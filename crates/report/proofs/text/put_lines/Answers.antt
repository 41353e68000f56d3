-- One line more.
-- Assumes nothing.
use Rattle.std.proofs.Common.{arith, length-take, length-drop, ◌∙◌}
use Rattle.report.proofs.Lines.{pass_none, pass_one, pass_all, line_room}
use Rattle.report.proofs.text.put_lines.Goals as goal

pub loop-record-init : goal.loop-record-init
loop-record-init c =
    rw (c.into_iter-record-iterator.ensures.into_iter_gives, c.chunks_exact-record-items.ensures.rest)
    (c.chunks_exact-record-items.ensures.size, pass_none c.requires)

pub put_line-used-requires : goal.put_line-used-requires
put_line-used-requires c =
    let s = c.in-Some.ensures.steps in
    let (size, p) = c.loop-record.invariant in
    let room = line_room c.in-Some.record.now _ p s.1.0 (s.1.1 ∙ size) in
    simp (length-take, length-drop) (omega arith)

pub loop-record-preserved : goal.loop-record-preserved
loop-record-preserved c =
    let s = c.in-Some.ensures.steps in
    let (size, p) = c.loop-record.invariant in (
      s.0 ∙ size,
      pass_one c.in-Some.record.now _ p s.1.0 (s.1.1 ∙ size) c.put_line-used.ensures.puts c.put_line-used.ensures.upper_bound c.put_line-used.auto.out,
    )

pub returns : goal.returns
returns c =
    let s = c.in-None.ensures.steps in
    let (size, p) = c.loop-record.invariant in
    pass_all p (omega (arith, size, s.1.0))
