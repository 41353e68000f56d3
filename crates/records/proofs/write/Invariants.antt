-- `write`'s loop keeps what `Going` says.
-- Assumes nothing.
use Rattle.records.proofs.Writing.{Going}
use Rattle.records.proofs.write.Given as goal

abbrev pub invariant-loop-row : goal.invariant-loop-row
invariant-loop-row l = Going l.position l.packet l.fn.rows l.initial.out l.out l.used l.row-index
