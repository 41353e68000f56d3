-- `count`'s loop: how many of the rows passed are given.
-- Assumes nothing.
use Rattle.std.proofs.Common.{◌≡◌, ◌≤◌, take}
use Rattle.records.specs.Records.{count}
use Rattle.records.proofs.count.Given as goal

abbrev pub invariant-loop-row : goal.invariant-loop-row
invariant-loop-row l = record { low : l.n ≤ l.row-index; counted : l.n ≡ count (take l.row-index l.fn.rows) }
