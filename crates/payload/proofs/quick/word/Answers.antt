-- A quiet word is passed, and any other handed to the word call.
use Rattle.std.proofs.Common.{arith, refl}
use borrow.Author.Tests.{ne_eqb}
use Rattle.cdp_running.proofs.Calls.{word_1}
use Rattle.payload.proofs.Going.{word_quiet, same_before}
use Rattle.payload.proofs.quick.word.Goals as goal

pub returns-then-bytes-ne-SIZE-clause-word : goal.returns-then-bytes-ne-SIZE-clause-word
returns-then-bytes-ne-SIZE-clause-word g c =
    word_1 (g.T.TrackerMemory.tracker c.args.t.now) c.args.bytes.now c.args.out.now c.requires.good (ne_eqb _ _ c.if-bytes-ne-SIZE.true) refl

pub returns-then-pass-ne0-clause-word : goal.returns-then-pass-ne0-clause-word
returns-then-pass-ne0-clause-word g c =
    word_quiet c.requires.good (omega arith) c.pass.ensures.passed (λ i. (c.type_inv.bytes i).fits) c.if-pass-ne0.true c.quiet_told.ensures

pub returns-clause-word : goal.returns-clause-word
returns-clause-word g c =
    same_before c.requires.good (omega arith) c.pass.ensures.passed c.if-pass-ne0.false c.word.ensures.word
