-- Uniqueness: two answers that meet the contract of `advance` are equal.
-- Assumes nothing.
use Rattle.std.proofs.Common.{◌≡◌}
use Rattle.words.specs.declared.Word.{Word}
use Rattle.words.proofs.Unique.{unique}
use Rattle.payload_fsm.specs.declared.State.{State}
use Rattle.payload_fsm.specs.declared.Advanced.{Advanced}
use Rattle.payload_fsm.specs.Step.{advance_of}

pub advance_unique : (state : State) (w : Word) {first second : Advanced} → first ≡ advance_of state w
    → second ≡ advance_of state w → first ≡ second
advance_unique state w = unique
