-- `packing::tdt`.
-- Assumes nothing.
use Rattle.std.proofs.Common.{arith, sym, ◌∙◌}
use Rattle.words.proofs.Tests.{tests}
use Rattle.writer.specs.declared.Fields.TheVariants as F
use Rattle.writer.specs.Layout.{put}
use Rattle.writer.proofs.Writing.{is_fitted, not_fitted, tdt_fit}
use Rattle.writer.proofs.packing.tdt.Goals as goal

pub returns-then-violation-lt2 : goal.returns-then-violation-lt2
unfolding put
returns-then-violation-lt2 c =
    let a = c.args in
    is_fitted (F.Tdt a.lanes a.to_start a.start_stop a.idle a.violation a.transmission a.done) _
    (tdt_fit a.lanes a.to_start a.start_stop a.idle a.violation a.transmission a.done ∙ simp tests (
      c.if-lanes-lt72057594037927936.true,
      (
        c.if-idle-lt2.true,
        (
          c.if-start_stop-lt2.true,
          (
            c.if-to_start-lt2.true,
            (
              c.if-done-lt2.true,
              (
                c.if-transmission-lt2.true,
                c.if-violation-lt2.true,
              ),
            ),
          ),
        ),
      ),
    ))
    (omega arith)
    (omega arith)
    (omega arith)

pub returns-else-lanes-lt72057594037927936 : goal.returns-else-lanes-lt72057594037927936
returns-else-lanes-lt72057594037927936 c =
    let a = c.args in
    not_fitted (F.Tdt a.lanes a.to_start a.start_stop a.idle a.violation a.transmission a.done)
    (λ e. let (l, (i, (s, (t, (d, (x, v)))))) = simp tests at (sym (tdt_fit a.lanes a.to_start a.start_stop a.idle a.violation a.transmission a.done) ∙ e) in
    omega (arith, c.else-lanes-lt72057594037927936.either))
