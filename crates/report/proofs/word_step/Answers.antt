-- A word has no more records than there is room for, and their lines are those that the buffer holds.
-- Assumes nothing.
use Rattle.std.proofs.Common.{◌*◌, length-take, refl, rules, arith}
use Rattle.report.proofs.Steps.{as_word, told_few, word_printed}
use Rattle.report.proofs.word_step.Goals as goal

pub overflow_mul-numbers : goal.overflow_mul-numbers
overflow_mul-numbers c =
    omega (
      arith,
      told_few c.args.r.tracker _ c.word-answer.ensures.word (search rules) c.word-answer.auto.out,
      c.records_given-given.ensures,
    )

pub slice_bounds-numbers-end : goal.slice_bounds-numbers-end
slice_bounds-numbers-end c =
    omega (
      arith,
      told_few c.args.r.tracker _ c.word-answer.ensures.word (search rules) c.word-answer.auto.out,
      c.records_given-given.ensures,
    )

pub slice_bounds-put_lines-end : goal.slice_bounds-put_lines-end
slice_bounds-put_lines-end c =
    omega (
      arith,
      length-take (5 * c.records_given-given.result) c.word-answer.new.out,
      told_few c.args.r.tracker _ c.word-answer.ensures.word (search rules) c.word-answer.auto.out,
      c.records_given-given.ensures,
    )

pub overflow_add-result : goal.overflow_add-result
overflow_add-result c =
    omega (
      arith,
      told_few c.args.r.tracker _ c.word-answer.ensures.word (search rules) c.word-answer.auto.out,
      c.records_given-given.ensures,
    )

pub returns : goal.returns
returns c =
    word_printed c.args.file.now c.args.r c.args.at (as_word c.args.file.now c.args.at c.word-answer.ensures.word)
    refl (search rules) c.word_after.ensures c.records_given-given.ensures c.put_lines.ensures
