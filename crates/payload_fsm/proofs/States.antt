-- The states in which a word is taken as kind IHW: the start state and the three-way state. The two in which words are taken as data.
-- Assumes nothing.
use Rattle.std.proofs.Common.{◌≡◌, refl, sym, ap, ◌∙◌, Bool, true, false, true≢false}
use Rattle.words.specs.declared.Word.{Word}
use Rattle.payload_fsm.specs.declared.State.{State}
use Rattle.payload_fsm.specs.declared.State.TheVariants as S
use Rattle.payload_fsm.specs.declared.ItsPayloadWord.{ItsPayloadWord}
use Rattle.payload_fsm.specs.declared.ItsPayloadWord.TheVariants as K
use Rattle.payload_fsm.specs.declared.Advanced.{Advanced}
use Rattle.payload_fsm.specs.Step.{is_three, among_data, in_data, advance_of}
use Rattle.payload_fsm.proofs.Rows.{data_rows_lem}

pub three_is : (state : State) → is_three state ≡ true → state ≡ S.Three
three_is S.Ihw e = absurd (true≢false (sym e))
three_is S.Tdh e = absurd (true≢false (sym e))
three_is S.Data e = absurd (true≢false (sym e))
three_is S.CData e = absurd (true≢false (sym e))
three_is S.Three e = refl
three_is S.CIhw e = absurd (true≢false (sym e))
three_is S.CTdh e = absurd (true≢false (sym e))

-- Kind IHW, and not its continuation.
abbrev pub is_initial : ItsPayloadWord → Bool
is_initial K.Ihw = true
is_initial K.IhwContinuation = false
is_initial K.Tdh = false
is_initial K.TdhAfterPacketDone = false
is_initial K.TdhContinuation = false
is_initial K.DataWord = false
is_initial K.Cdw = false
is_initial K.Tdt = false
is_initial K.Ddw0 = false

abbrev Else : Advanced → Type 0
Else a = is_initial a.word ≡ false

-- A word is taken as kind IHW in the three-way state, or else in the start state.
pub start_or_three : (state : State) (w : Word) → (advance_of state w).word ≡ K.Ihw → is_three state ≡ false
    → state ≡ S.Ihw
start_or_three S.Ihw w e n = refl
start_or_three S.Tdh w e n = absurd (true≢false (sym (ap is_initial e)))
start_or_three S.Data w e n =
    absurd (true≢false (sym (ap is_initial e) ∙ data_rows_lem Else w S.Data refl refl refl refl refl))
start_or_three S.CData w e n =
    absurd (true≢false (sym (ap is_initial e) ∙ data_rows_lem Else w S.CData refl refl refl refl refl))
start_or_three S.Three w e n = absurd (true≢false n)
start_or_three S.CIhw w e n = absurd (true≢false (sym (ap is_initial e)))
start_or_three S.CTdh w e n = absurd (true≢false (sym (ap is_initial e)))

-- DATA_ and c_DATA_ have the same rows.
pub in_data_lem : (state : State) (w : Word) → among_data state ≡ true → advance_of state w ≡ in_data state w
in_data_lem S.Ihw w e = absurd (true≢false (sym e))
in_data_lem S.Tdh w e = absurd (true≢false (sym e))
in_data_lem S.Data w e = refl
in_data_lem S.CData w e = refl
in_data_lem S.Three w e = absurd (true≢false (sym e))
in_data_lem S.CIhw w e = absurd (true≢false (sym e))
in_data_lem S.CTdh w e = absurd (true≢false (sym e))
