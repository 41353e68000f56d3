-- The tests are those of the definition.
use Rattle.std.proofs.Common.{refl, sym, ◌∙◌}
use Rattle.tracker_array.proofs.Laws.{tested, of_length, in_form_lem}
use Rattle.tracker_array.proofs.is_tracker.Goals as goal

pub returns-then-a-ne-SIZE : goal.returns-then-a-ne-SIZE
returns-then-a-ne-SIZE c = sym (of_length c.args.a.now c.if-a-ne-SIZE.true)

pub returns-then-not-in_form : goal.returns-then-not-in_form
returns-then-not-in_form c =
    sym (tested c.args.a.now c.if-a-ne-SIZE.false
    (sym c.if-not-in_form.true ∙ c.in_form.ensures) refl)

pub is_good-requires : goal.is_good-requires
is_good-requires c =
    in_form_lem c.args.a.now c.if-a-ne-SIZE.false
    (sym c.in_form.ensures ∙ c.if-not-in_form.false)

pub returns : goal.returns
returns c =
    sym (tested c.args.a.now c.if-a-ne-SIZE.false
    (sym c.if-not-in_form.false ∙ c.in_form.ensures)
    c.is_good.ensures)
