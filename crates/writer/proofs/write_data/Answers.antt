-- `write_data`: what is written are the nine bytes and the id.
-- Assumes nothing.
use Rattle.std.proofs.Common.{rules}
use Rattle.writer.proofs.Writing.{data_wrote}
use Rattle.writer.proofs.write_data.Goals as goal

pub returns : goal.returns
returns c =
    data_wrote c.args.id c.args.bytes.now c.if-bytes-ne-DATA_BYTES.false (search rules) c.nine-word.result
    c.nine-word.ensures c.write.ensures
