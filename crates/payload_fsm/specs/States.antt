-- The numbers of the seven states, by which a tracker's memory has them.
-- Assumes nothing.
use Rattle.std.specs.Prelude.{ℕ, ◌≡◌, ◌<◌, Result, Ok, Err}
use Rattle.payload_fsm.specs.declared.State.{State}
use Rattle.payload_fsm.specs.declared.State.TheVariants as S
use Rattle.payload_fsm.specs.declared.UnknownState.{UnknownState}

abbrev pub state_number : State → ℕ
state_number S.Ihw = 0
state_number S.Tdh = 1
state_number S.Data = 2
state_number S.CData = 3
state_number S.Three = 4
state_number S.CIhw = 5
state_number S.CTdh = 6

-- What a conversion to a number gives.
abbrev pub gives_state_number : State → ℕ → Type 0
gives_state_number state n = n ≡ state_number state

-- What a conversion from a number gives: the state that has it, or the number where no state has it.
abbrev pub gives_state : ℕ → Result State UnknownState → Type 0
gives_state n (Ok state) = state_number state ≡ n
gives_state n (Err unknown) = (6 < n) × (unknown.0 ≡ n)
