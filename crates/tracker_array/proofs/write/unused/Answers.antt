use Rattle.std.proofs.Common.{◌∙◌}
use Rattle.std.proofs.Math.ListN.{length-set}
use Rattle.tracker_array.proofs.Stores.{one_stored}
use Rattle.tracker_array.proofs.write.unused.Goals as goal

pub loop-i-preserved : goal.loop-i-preserved
loop-i-preserved c =
    record {
      long = simp length-set c.loop-i.invariant.long;
      whole = one_stored _ _ _ c.loop-i-test.true ∙ c.loop-i.invariant.whole;
    }
