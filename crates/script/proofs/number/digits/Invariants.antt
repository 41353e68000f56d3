-- The number of the digits passed.
-- Assumes nothing.
use Rattle.script.proofs.Digits.{Reading}
use Rattle.script.proofs.number.digits.Given as goal

abbrev pub invariant-loop-byte : goal.invariant-loop-byte
invariant-loop-byte l = Reading l.base l.text l.n l.byte-index
