-- A packet without a refusal leaves it to those after it.
-- Assumes nothing.
use Rattle.std.proofs.Common.{sym, ◌∙◌, arith}
use Rattle.std.proofs.lemmas.Grind.{common_steps}
use Rattle.bench_file.proofs.Checking.{passed, stopped, all_passed}
use Rattle.bench_file.proofs.check_packets.Goals as goal

pub loop-i-preserved : goal.loop-i-preserved
loop-i-preserved c = grind (arith, common_steps, passed c.args.file.now c.args.packets c.loop-i.i)

pub returns-in_err-check_packet : goal.returns-in_err-check_packet
returns-in_err-check_packet c = grind (arith, common_steps, stopped c.args.file.now c.args.packets c.loop-i.i)

pub returns : goal.returns
returns c = sym (c.loop-i.invariant ∙ all_passed c.args.file.now c.args.packets c.loop-i.i (omega arith))
