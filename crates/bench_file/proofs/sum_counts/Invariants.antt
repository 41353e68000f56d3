-- The sum so far.
-- Assumes nothing.
use Rattle.std.proofs.Common.{◌≡◌, ◌*◌, ◌≤◌}
use Rattle.bench_file.specs.File.{words_before}
use Rattle.bench_file.proofs.sum_counts.Given as goal

abbrev pub invariant-loop-packet : goal.invariant-loop-packet
invariant-loop-packet l = (l.sum ≡ words_before l.file l.packet) × (l.sum ≤ 65535 * l.packet)
