-- The next number stands behind those before it.
-- Assumes nothing.
use Rattle.std.proofs.Common.{refl, rules, arith}
use Rattle.ascii.proofs.Putting.{none_spaced, spaced_behind}
use Rattle.ascii.proofs.put_numbers.Goals as goal

pub loop-n-init : goal.loop-n-init
loop-n-init c = (omega arith, (refl, none_spaced c.args.numbers.now c.args.out.now))

pub loop-n-preserved : goal.loop-n-preserved
loop-n-preserved c = (
  omega arith,
  (
    search rules,
    spaced_behind c.args.numbers.now c.loop-n.n-index (omega arith) c.loop-n.invariant.1.1 c.put_spaced-used.ensures.puts,
  ),
)
