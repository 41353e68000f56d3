-- `packing::ihw`.
-- Assumes nothing.
use Rattle.std.proofs.Common.{arith, sym, ◌∙◌}
use Rattle.words.proofs.Tests.{tests}
use Rattle.writer.specs.declared.Fields.TheVariants as F
use Rattle.writer.specs.Layout.{put}
use Rattle.writer.proofs.Writing.{is_fitted, not_fitted, ihw_fit}
use Rattle.writer.proofs.packing.ihw.Goals as goal

pub returns-then-active_lanes-lt268435456 : goal.returns-then-active_lanes-lt268435456
unfolding put
returns-then-active_lanes-lt268435456 c =
    let a = c.args in
    is_fitted (F.Ihw a.active_lanes) _
    (ihw_fit a.active_lanes ∙ simp tests
    c.if-active_lanes-lt268435456.true)
    (omega arith)
    (omega arith)
    (omega arith)

pub returns-else-active_lanes-lt268435456 : goal.returns-else-active_lanes-lt268435456
returns-else-active_lanes-lt268435456 c =
    let a = c.args in
    not_fitted (F.Ihw a.active_lanes)
    (λ e. let l = simp tests at (sym (ihw_fit a.active_lanes) ∙ e) in
    omega (arith, c.if-active_lanes-lt268435456.false))
