-- `silent`'s loop: whether any of the rows passed is given.
-- Assumes nothing.
use Rattle.std.proofs.Common.{◌≡◌, take}
use Rattle.records.specs.Records.{any_on}
use Rattle.records.proofs.silent.Given as goal

abbrev pub invariant-loop-row : goal.invariant-loop-row
invariant-loop-row l = l.any ≡ any_on (take l.row-index l.fn.rows)
