-- What the bytes passed come to.
-- Assumes nothing.
use Rattle.script.specs.Feeding.{state_of}
use Rattle.script.proofs.Fed.{Going}
use Rattle.script.proofs.feed.Given as goal

abbrev pub invariant-loop-byte : goal.invariant-loop-byte
invariant-loop-byte l =
    Going (state_of l.initial.buffer l.initial.held l.initial.r) l.piece l.buffer l.held l.r l.byte-index
