-- `packing::ddw0`.
-- Assumes nothing.
use Rattle.std.proofs.Common.{arith, sym, ◌∙◌}
use Rattle.words.proofs.Tests.{tests}
use Rattle.writer.specs.declared.Fields.TheVariants as F
use Rattle.writer.specs.Layout.{put}
use Rattle.writer.proofs.Writing.{is_fitted, not_fitted, ddw0_fit}
use Rattle.writer.proofs.packing.ddw0.Goals as goal

pub returns-then-index-lt16 : goal.returns-then-index-lt16
unfolding put
returns-then-index-lt16 c =
    let a = c.args in
    is_fitted (F.Ddw0 a.lanes a.violation a.transmission a.index) _
    (ddw0_fit a.lanes a.violation a.transmission a.index ∙ simp tests (
      c.if-lanes-lt72057594037927936.true,
      (
        c.if-transmission-lt2.true,
        (
          c.if-violation-lt2.true,
          c.if-index-lt16.true,
        ),
      ),
    ))
    (omega arith)
    (omega arith)
    (omega arith)

pub returns-else-lanes-lt72057594037927936 : goal.returns-else-lanes-lt72057594037927936
returns-else-lanes-lt72057594037927936 c =
    let a = c.args in
    not_fitted (F.Ddw0 a.lanes a.violation a.transmission a.index)
    (λ e. let (l, (x, (v, j))) = simp tests at (sym (ddw0_fit a.lanes a.violation a.transmission a.index) ∙ e) in
    omega (arith, c.else-lanes-lt72057594037927936.either))
