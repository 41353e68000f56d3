-- The tests that led to a return say which case of the definition holds.
use Rattle.std.proofs.Common.{arith, refl, sym, ◌∙◌}
use Rattle.cdp_running.proofs.Calls.{ten, word_2, word_3}
use Rattle.tracker_memory.proofs.Steps.{handed_on, told_with, word_denied, word_done, word_short}
use Rattle.tracker_memory.proofs.call.word.Goals as goal

pub returns-in_err-word-clause-word : goal.returns-in_err-word-clause-word
returns-in_err-word-clause-word g c =
    word_short (g.T.TrackerMemory.tracker c.args.t.now) c.args.bytes.now c.requires.good c.from_buf.ensures.answer c.in_err-word.was
    (handed_on _ c.from_residual.ensures)

pub returns-then-not-accepted-clause-word : goal.returns-then-not-accepted-clause-word
returns-then-not-accepted-clause-word g c =
    let read = ten c.args.bytes.now c.from_buf.ensures.answer c.in_ok-word.was in
    word_2 (g.T.TrackerMemory.tracker c.args.t.now) c.args.bytes.now c.args.out.now c.requires.good read.0
    (sym c.accepted.ensures ∙ c.if-not-accepted.true) refl

pub returns-then-count-ge-MAX_WORDS-clause-word : goal.returns-then-count-ge-MAX_WORDS-clause-word
returns-then-count-ge-MAX_WORDS-clause-word g c =
    let read = ten c.args.bytes.now c.from_buf.ensures.answer c.in_ok-word.was in
    word_3 (g.T.TrackerMemory.tracker c.args.t.now) c.args.bytes.now c.args.out.now c.requires.good read.0
    (sym c.accepted.ensures ∙ c.if-not-accepted.false) (omega (arith, c.count.ensures, c.if-count-ge-MAX_WORDS.true)) refl

pub returns-in_err-taken-clause-word : goal.returns-in_err-taken-clause-word
returns-in_err-taken-clause-word g c =
    let b = c.args.bytes.now in
    let read = ten b c.from_buf.ensures.answer c.in_ok-word.was in
    told_with (sym (handed_on _ c.from_residual-in_err-taken.ensures))
    (word_denied (g.T.TrackerMemory.tracker c.args.t.now) b c.requires.good read.0 (sym c.accepted.ensures ∙ c.if-not-accepted.false)
    (omega (arith, c.count.ensures, c.if-count-ge-MAX_WORDS.false)) read.1 c.step.ensures.step c.in_err-taken.was)

pub returns-clause-word : goal.returns-clause-word
returns-clause-word g c =
    let b = c.args.bytes.now in
    let read = ten b c.from_buf.ensures.answer c.in_ok-word.was in
    word_done (g.T.TrackerMemory.tracker c.args.t.now) b c.requires.good read.0 (sym c.accepted.ensures ∙ c.if-not-accepted.false)
    (omega (arith, c.count.ensures, c.if-count-ge-MAX_WORDS.false)) read.1 c.step.ensures.step c.in_ok-taken.was c.told-taken.ensures
