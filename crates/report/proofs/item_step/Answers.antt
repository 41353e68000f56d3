-- What the reader found is the step's item.
-- Assumes nothing.
use Rattle.std.proofs.Common.{◌+◌, ◌∙◌, ap, Some, arith}
use Rattle.ascii.specs.Text.{most_number}
use Rattle.ascii.proofs.Putting.{in_room_lem}
use Rattle.report.specs.Text.{records_line}
use Rattle.report.proofs.Steps.{good_word_at, found}
use Rattle.report.proofs.item_step.Goals as goal

pub word_step-requires-clause-good_word : goal.word_step-requires-clause-good_word
word_step-requires-clause-good_word c = good_word_at c.requires.good_reading c.next.ensures.answer (c.in-Some-Word.is ∙ ap Some c.in-Some-Word.field-0-is)

pub returns-in-None : goal.returns-in-None
unfolding records_line
returns-in-None c =
    found c.args.file.now c.args.r c.next.ensures.answer c.in-None.is
    (record {
      next_is = c.at_stage.ensures;
      puts = in_room_lem (8 + most_number) _ (omega arith) c.put_named.ensures.puts;
    })
