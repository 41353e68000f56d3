-- The packets passed have no refusal, so that the first one is that of those to come.
-- Assumes nothing.
use Rattle.std.proofs.Common.{◌≡◌, ◌-◌}
use Rattle.bench_file.specs.File.{first_refusal}
use Rattle.bench_file.proofs.check_packets.Given as goal

abbrev pub invariant-loop-i : goal.invariant-loop-i
invariant-loop-i l = first_refusal l.file l.packets 0 ≡ first_refusal l.file (l.packets - l.i) l.i
