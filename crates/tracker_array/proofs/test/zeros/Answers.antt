use Rattle.std.proofs.Common.{◌∙◌, arith}
use Rattle.tracker_array.proofs.Stores.{one_more, no_more}
use Rattle.tracker_array.proofs.test.zeros.Goals as goal

pub loop-i-preserved : goal.loop-i-preserved
loop-i-preserved c =
    record {
      within = omega arith;
      whole = one_more c.loop-i.all _ _ c.args.a.now c.loop-i-test.true ∙ c.loop-i.invariant.whole;
    }

pub returns : goal.returns
returns c = no_more _ _ _ _ c.loop-i-test.false ∙ c.loop-i.invariant.whole
