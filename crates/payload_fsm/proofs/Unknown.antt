-- "E990 can't be given": of our step, in every state and for every word. What an unknown id is given is 991 or 992.
-- Assumes nothing.
use Rattle.std.proofs.Common.{ℕ, ◌≡◌, refl, arith}
use Rattle.words.specs.declared.Word.{Word}
use Rattle.payload_fsm.specs.declared.State.{State}
use Rattle.payload_fsm.specs.declared.State.TheVariants as S
use Rattle.payload_fsm.specs.declared.Advanced.{Advanced}
use Rattle.payload_fsm.specs.Step.{advance_of, unknown_id}
use Rattle.payload_fsm.proofs.Rows.{data_rows_lem, three_rows}

-- What a word is given for its id: nothing, 991 or 992.
pub data Given (code : ℕ) : Type 0 where
  known : code ≡ 0 → Given code
  as_data_word : code ≡ 991 → Given code
  as_ddw0 : code ≡ 992 → Given code

abbrev Of : Advanced → Type 0
Of a = Given (unknown_id a)

pub given : (state : State) (w : Word) → Given (unknown_id (advance_of state w))
given S.Ihw w = known refl
given S.Tdh w = known refl
given S.Data w = data_rows_lem Of w S.Data (known refl) (known refl) (known refl) (known refl) (as_data_word refl)
given S.CData w = data_rows_lem Of w S.CData (known refl) (known refl) (known refl) (known refl) (as_data_word refl)
given S.Three w = three_rows Of w (known refl) (known refl) (known refl) (as_ddw0 refl)
given S.CIhw w = known refl
given S.CTdh w = known refl

not_990 : {code : ℕ} → Given code → code ≡ 990 → ⊥
not_990 (known e) q = omega arith
not_990 (as_data_word e) q = omega arith
not_990 (as_ddw0 e) q = omega arith

pub never_990 : (state : State) (w : Word) → unknown_id (advance_of state w) ≡ 990 → ⊥
never_990 state w = not_990 (given state w)
