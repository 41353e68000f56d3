-- `packing::cdw`.
-- Assumes nothing.
use Rattle.std.proofs.Common.{arith, sym, ◌∙◌}
use Rattle.words.proofs.Tests.{tests}
use Rattle.writer.specs.declared.Fields.TheVariants as F
use Rattle.writer.specs.Layout.{put}
use Rattle.writer.proofs.Writing.{is_fitted, not_fitted, cdw_fit}
use Rattle.writer.proofs.packing.cdw.Goals as goal

pub returns-then-index-lt16777216 : goal.returns-then-index-lt16777216
unfolding put
returns-then-index-lt16777216 c =
    let a = c.args in
    is_fitted (F.Cdw a.user a.index) _
    (cdw_fit a.user a.index ∙ simp tests (
      c.if-user-lt281474976710656.true,
      c.if-index-lt16777216.true,
    ))
    (omega arith)
    (omega arith)
    (omega arith)

pub returns-else-user-lt281474976710656 : goal.returns-else-user-lt281474976710656
returns-else-user-lt281474976710656 c =
    let a = c.args in
    not_fitted (F.Cdw a.user a.index)
    (λ e. let (u, j) = simp tests at (sym (cdw_fit a.user a.index) ∙ e) in
    omega (arith, c.else-user-lt281474976710656.either))
