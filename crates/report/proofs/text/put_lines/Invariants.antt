-- The lines of the records passed stand at the front, and there is room for those of the rest.
-- Assumes nothing.
use Rattle.std.proofs.Common.{◌≡◌}
use Rattle.std.specs.Slice.Iter.{chunks_exact_rest, chunks_exact_size}
use Rattle.records.specs.Records.{record_width}
use Rattle.report.proofs.Lines.{Passing}
use Rattle.report.proofs.text.put_lines.Given as goal

abbrev pub invariant-loop-record : goal.invariant-loop-record
invariant-loop-record l =
    (chunks_exact_size l.record-iterator ≡ record_width)
    × Passing l.records l.initial.out l.out l.used (chunks_exact_rest l.record-iterator)
