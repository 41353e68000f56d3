-- What the pieces read come to, after so many reads.
-- Assumes nothing.
use Rattle.std.proofs.Common.{◌≡◌, ◌-◌, ◌≤◌, length}
use Rattle.benchwrite.proofs.Reading.{Going, most_reads}
use Rattle.benchwrite.proofs.read_text.Given as goal

abbrev pub invariant-loop-reads : goal.invariant-loop-reads
invariant-loop-reads g l =
    Going l.initial.buffer l.initial.held l.buffer l.held l.reading l.reads
    × ((length l.piece ≡ length l.initial.piece) × (l.reads ≤ most_reads))

abbrev pub decreases-loop-reads : goal.decreases-loop-reads
decreases-loop-reads g l = most_reads - l.reads
