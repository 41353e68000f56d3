-- A word that fits stands behind the others, and the last packet counts it.
-- Assumes nothing.
use Rattle.std.proofs.Common.{◌+◌, ◌-◌, ◌∙◌, ap, rules, arith}
use Rattle.bench_writer.specs.Draft.{size, packet_end, put_at, word_in}
use Rattle.bench_writer.proofs.Putting.{number_put}
use Rattle.bench_writer.proofs.Adding.{word_taken, taken}
use Rattle.bench_writer.proofs.add_word.Goals as goal

pub returns : goal.returns
unfolding word_in
returns c =
    let d = c.args.draft in
    let counted = number_put 2 (d.last + 1) (packet_end d - 2) c.args.buffer.now c.to_le_bytes.ensures c.put.ensures in
    taken d c.args.buffer.now (word_taken d c.if-draft-eq0.false (omega arith) (omega arith))
    (c.put-2.ensures ∙ ap (put_at (size d) c.args.word) counted)
    (record { long = search rules; short = omega arith })
