-- `write`.
-- Assumes nothing.
use Rattle.std.proofs.Common.{rules}
use Rattle.writer.proofs.Writing.{passed_on, refused_fields, wrote}
use Rattle.writer.proofs.write.Goals as goal

pub returns-in_err-word : goal.returns-in_err-word
returns-in_err-word c =
    passed_on c.args.fields _ (search rules) (refused_fields c.args.fields _ c.args.out.now c.pack.ensures c.in_err-word.was)

pub returns : goal.returns
returns c = wrote c.args.fields _ c.args.out.now c.pack.ensures c.in_ok-word.was c.if-out-ne-SIZE.false c.store.ensures
