-- `packing::tdh`.
-- Assumes nothing.
use Rattle.std.proofs.Common.{arith, sym, ◌∙◌}
use Rattle.words.proofs.Tests.{tests}
use Rattle.writer.specs.declared.Fields.TheVariants as F
use Rattle.writer.specs.Layout.{put}
use Rattle.writer.proofs.Writing.{is_fitted, not_fitted, tdh_fit}
use Rattle.writer.proofs.packing.tdh.Goals as goal

pub returns-then-orbit-lt4294967296 : goal.returns-then-orbit-lt4294967296
unfolding put
returns-then-orbit-lt4294967296 c =
    let a = c.args in
    is_fitted (F.Tdh a.trigger_type a.internal a.no_data a.continuation a.bc a.orbit) _
    (tdh_fit a.trigger_type a.internal a.no_data a.continuation a.bc a.orbit ∙ simp tests (
      c.if-trigger_type-lt4096.true,
      (
        c.if-internal-lt2.true,
        (
          c.if-no_data-lt2.true,
          (
            c.if-continuation-lt2.true,
            (
              c.if-bc-lt4096.true,
              c.if-orbit-lt4294967296.true,
            ),
          ),
        ),
      ),
    ))
    (omega arith)
    (omega arith)
    (omega arith)

pub returns-else-trigger_type-lt4096 : goal.returns-else-trigger_type-lt4096
returns-else-trigger_type-lt4096 c =
    let a = c.args in
    not_fitted (F.Tdh a.trigger_type a.internal a.no_data a.continuation a.bc a.orbit)
    (λ e. let (t, (i, (n, (k, (b, o))))) = simp tests at (sym (tdh_fit a.trigger_type a.internal a.no_data a.continuation a.bc a.orbit) ∙ e) in
    omega (arith, c.else-trigger_type-lt4096.either))
