-- `silent`: one row more is asked besides those passed.
-- Assumes nothing.
use Rattle.std.proofs.Common.{rules, refl, sym, ap, ◌∙◌, Bool, ◌||◌, get_or}
use Rattle.records.specs.Records.{none, any_on}
use Rattle.records.proofs.Given.{any_more}
use Rattle.records.proofs.silent.Goals as goal

pub loop-row-init : goal.loop-row-init
unfolding any_on
loop-row-init c = refl

pub loop-row-preserved : goal.loop-row-preserved
loop-row-preserved c =
    ap (λ (b : Bool). b || (get_or c.args.rows c.loop-row.row-index none).on) c.loop-row.invariant
    ∙ sym (any_more c.args.rows c.loop-row.row-index none (search rules))
