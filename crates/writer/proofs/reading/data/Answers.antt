-- `reading::data`.
-- Assumes nothing.
use Rattle.std.proofs.Common.{arith}
use Rattle.writer.proofs.Writing.{data_low, data_high}
use Rattle.writer.proofs.reading.data.Goals as goal

pub returns : goal.returns
returns c = let w = c.args.word in cc (data_low w (omega arith), data_high w (omega arith))
