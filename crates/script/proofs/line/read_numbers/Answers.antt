-- One number more, a part that is none, and parts that are too few or too many.
-- Assumes nothing.
use Rattle.std.proofs.Common.{sym, ◌∙◌, arith}
use Rattle.script.proofs.Counting.{one_more, no_number, too_few, too_many, so_many}
use Rattle.script.proofs.line.read_numbers.Goals as goal

pub returns-in_default : goal.returns-in_default
returns-in_default c = too_few c.args.count c.loop-i.invariant c.in_default.ensures c.loop-i-test.true

pub returns-in_err-n : goal.returns-in_err-n
returns-in_err-n c =
    let few = c.loop-i-test.true in
    let most = c.requires in
    c.from_residual.ensures
    ∙ no_number c.args.count c.loop-i.invariant c.in-Some.ensures (sym c.number.ensures ∙ c.in_err-n.was) (omega (arith, few, most))

pub loop-i-preserved : goal.loop-i-preserved
loop-i-preserved c =
    let few = c.loop-i-test.true in
    let most = c.requires in
    one_more _ c.in-Some.ensures (sym c.number.ensures ∙ c.in_ok-n.was) (omega (arith, few, most)) c.loop-i.invariant

pub returns-in-Some-first_part : goal.returns-in-Some-first_part
returns-in-Some-first_part c =
    let past = c.loop-i-test.false in
    let end = c.loop-i.auto.i-end in
    let none = too_many c.args.count c.loop-i.invariant c.in-Some-first_part.ensures (omega (arith, past, end)) in
    grind (arith, none)

pub returns-in-None : goal.returns-in-None
returns-in-None c =
    let past = c.loop-i-test.false in
    let end = c.loop-i.auto.i-end in
    so_many c.args.count c.loop-i.invariant c.in-None.ensures (omega (arith, past, end))
