-- The answer is that of the pieces read.
-- Assumes nothing.
use Rattle.script.proofs.Answered.{is_answer}
use Rattle.benchwrite.proofs.make.Goals as goal

pub returns-clause-answer : goal.returns-clause-answer
returns-clause-answer g c = is_answer c.requires.buffer_len c.requires.held_len c.in-Ok.ensures c.finish.ensures
