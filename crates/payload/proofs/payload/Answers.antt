-- The loop keeps what `Going` says. The two refusals before it are found from `uneven_is` and `no_packet_is`.
use Rattle.std.proofs.Common.{refl, arith}
use borrow.Author.Tests.{not-false}
use Rattle.payload.proofs.Loop.{answered, begins, used_low, ended, next, stopped}
use Rattle.payload.proofs.payload.Goals as goal

pub loop-at-init : goal.loop-at-init
loop-at-init c =
    begins (record {
      good = c.requires;
      accepted = not-false _ c.if-not-t.false;
      whole = omega arith;
      within = omega arith;
      between = refl;
    })

pub loop-at-preserved : goal.loop-at-preserved
loop-at-preserved c =
    next c.loop-at.invariant c.loop-at-test.true (answered c.in-Ok.is c.first_word.ensures) c.first_word.auto.out refl

pub overflow_mul-used : goal.overflow_mul-used
overflow_mul-used c =
    let k = loop-at-preserved c in
    omega (arith, used_low k, k.same)

pub overflow_add-used : goal.overflow_add-used
overflow_add-used c =
    let k = loop-at-preserved c in
    omega (arith, used_low k, k.same)

pub returns-in-Err : goal.returns-in-Err
returns-in-Err c = stopped c.loop-at.invariant c.loop-at-test.true (answered c.in-Err.is c.first_word.ensures) refl

pub returns : goal.returns
returns c = ended c.loop-at.invariant c.loop-at-test.false
