use Rattle.std.proofs.Common.{refl, arith, sym, ◌∙◌}
use Rattle.payload.proofs.Loop.{refused_1, refused_2, begins, ended}
use Rattle.tracker_memory.proofs.Steps.{of_written, at_load}
use Rattle.payload.proofs.Going.{told_it, passed, full_3, stepped, no_room_4}
use Rattle.payload.proofs.quick.payload.Goals as goal

pub returns-then-bytes-ne0-clause-payload : goal.returns-then-bytes-ne0-clause-payload
returns-then-bytes-ne0-clause-payload g c = told_it c.told.ensures (refused_1 c.requires.good c.if-bytes-ne0.true)

pub returns-then-not-accepted-clause-payload : goal.returns-then-not-accepted-clause-payload
returns-then-not-accepted-clause-payload g c =
    told_it c.told-then-not-accepted.ensures
    (refused_2 c.requires.good c.if-bytes-ne0.false (sym c.accepted.ensures ∙ c.if-not-accepted.true))

pub loop-at-init : goal.loop-at-init
loop-at-init g c =
    record {
      holds = c.requires.holds;
      going =
          begins (record {
            good = c.requires.good;
            accepted = sym c.accepted.ensures ∙ c.if-not-accepted.false;
            whole = c.if-bytes-ne0.false;
            within = omega arith;
            between = refl;
          });
    }

pub returns-then-count-ge-MAX_WORDS-clause-payload :
    goal.returns-then-count-ge-MAX_WORDS-clause-payload
returns-then-count-ge-MAX_WORDS-clause-payload g c =
    told_it c.told-then-count-ge-MAX_WORDS.ensures
    (full_3 (passed c.loop-at.invariant.going (λ i. (c.type_inv.bytes i).fits) c.pass-at.ensures.passed) c.if-at-bytes.true
    (omega (arith, c.count.ensures, c.if-count-ge-MAX_WORDS.true)))

pub step-requires-clause-good : goal.step-requires-clause-good
step-requires-clause-good g c =
    (passed c.loop-at.invariant.going (λ i. (c.type_inv.bytes i).fits) c.pass-at.ensures.passed).ready.good

pub returns-in-Err-clause-payload : goal.returns-in-Err-clause-payload
returns-in-Err-clause-payload g c =
    told_it c.told-in-Err.ensures
    (no_room_4 (passed c.loop-at.invariant.going (λ i. (c.type_inv.bytes i).fits) c.pass-at.ensures.passed) c.if-at-bytes.true
    (omega (arith, c.count.ensures, c.if-count-ge-MAX_WORDS.false)) (at_load c.load_at.ensures (of_written c.in-Err.is c.step.ensures.step)))

pub loop-at-preserved-in-Ok : goal.loop-at-preserved-in-Ok
loop-at-preserved-in-Ok g c =
    record {
      holds = c.step.ensures.holds;
      going =
          stepped (passed c.loop-at.invariant.going (λ i. (c.type_inv.bytes i).fits) c.pass-at.ensures.passed) c.if-at-bytes.true
          (omega (arith, c.count.ensures, c.if-count-ge-MAX_WORDS.false)) (at_load c.load_at.ensures (of_written c.in-Ok.is c.step.ensures.step))
          c.step.auto.out;
    }

pub loop-at-preserved : goal.loop-at-preserved
loop-at-preserved g c =
    record {
      holds = c.pass-at.ensures.holds;
      going = passed c.loop-at.invariant.going (λ i. (c.type_inv.bytes i).fits) c.pass-at.ensures.passed;
    }

pub returns-clause-payload : goal.returns-clause-payload
returns-clause-payload g c = told_it c.told-2.ensures (ended c.loop-at.invariant.going c.loop-at-test.false)
