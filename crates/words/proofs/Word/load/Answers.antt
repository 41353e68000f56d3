-- `Word::load`: what it sums up is the number that the bytes are.
-- Assumes nothing.
use Rattle.std.proofs.Common.{arith, rules}
use Rattle.words.proofs.Load.{loaded}
use Rattle.words.proofs.Word.load.Goals as goal

pub returns : goal.returns
returns c = loaded c.args.bytes (search rules) _ (omega arith) (omega arith) (omega arith) (omega arith)
