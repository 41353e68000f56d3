-- Where the first part begins and ends.
-- Assumes nothing.
use Rattle.std.proofs.Common.{sym, ◌∙◌}
use Rattle.script.proofs.Tokens.{no_part, end_inside, a_part}
use Rattle.script.proofs.line.first_part.Goals as goal

pub returns-in_err-begin : goal.returns-in_err-begin
returns-in_err-begin c = let e = c.from_residual.ensures in rw e (no_part c.args.text.now (sym c.begin_of.ensures ∙ c.in_err-begin.was))

pub split_at-requires : goal.split_at-requires
split_at-requires c = let e = c.end_of.ensures in rw e (end_inside _)

pub returns : goal.returns
returns c =
    a_part c.args.text.now _ _ (sym c.begin_of.ensures ∙ c.in_ok-begin.was) c.end_of.ensures c.split_at.ensures.front c.split_at.ensures.back
