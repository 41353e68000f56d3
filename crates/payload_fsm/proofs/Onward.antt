-- Where a data word and a TDH with bit 13 clear lead from each state, and what it is to lead among data.
-- Assumes nothing.
use Rattle.std.proofs.Common.{ℕ, ◌≡◌, refl, sym, ap, ◌∙◌, false, true≢false, List, [], ◌∷◌, ◌++◌, ◌⊎◌, eqb, eq-eqb, ne_eqb}
use Rattle.words.specs.declared.Word.{Word}
use Rattle.words.specs.Word.{id_of}
use Rattle.words.specs.Tdh.{tdh_id, no_data}
use Rattle.words.specs.Tdt.{tdt_id}
use Rattle.words.specs.Ihw.{ihw_id}
use Rattle.words.specs.Ddw.{ddw0_id}
use Rattle.words.specs.Cdw.{cdw_id}
use Rattle.data_ids.specs.DataIds.{is_data_id}
use Rattle.payload_fsm.specs.declared.State.{State}
use Rattle.payload_fsm.specs.declared.State.TheVariants as S
use Rattle.payload_fsm.specs.declared.ItsPayloadWord.TheVariants as K
use Rattle.payload_fsm.specs.declared.Advanced.{Advanced}
use Rattle.payload_fsm.specs.Step.{taken, guess, in_data, in_three, next_state}
use Rattle.payload_fsm.specs.Settle.{DataClear, TdtDone, TdhClear, state_after}
use Rattle.payload_fsm.proofs.Rows.{choice}

-- The state of a row.
abbrev pub state_of : Advanced → State
state_of a = a.fsm.state

-- Among data a word that is no TDT is a CDW, a data word or a guessed one: the state stays.
pub stays : (w : Word) → eqb (id_of w) tdt_id ≡ false → (state : State) → state_of (in_data state w) ≡ state
stays w no_tdt state =
    let Stays : Advanced → Type 0 = λ a. state_of a ≡ state in
    rw no_tdt (choice Stays (eqb (id_of w) cdw_id) refl (choice Stays (is_data_id (id_of w)) refl refl))

-- Where a word with bit 13 clear leads that is no TDT. Only the three-way state asks which word it is; `onto` is where that one leads.
abbrev pub onward : State → State → State
onward onto S.Ihw = S.Tdh
onward onto S.Tdh = S.Data
onward onto S.Data = S.Data
onward onto S.CData = S.CData
onward onto S.Three = onto
onward onto S.CIhw = S.CTdh
onward onto S.CTdh = S.CData

module _ (w : Word) (row : Advanced) (clear : no_data w ≡ 0) (no_tdt : eqb (id_of w) tdt_id ≡ false)
    (in_three : in_three w ≡ row) where
  goes : (state : State) → next_state state w ≡ onward (state_of row) state
  goes S.Ihw = refl
  goes S.Tdh = simp (eq-eqb _ _ clear)
  goes S.Data = stays w no_tdt S.Data
  goes S.CData = stays w no_tdt S.CData
  goes S.Three = ap state_of in_three
  goes S.CIhw = refl
  goes S.CTdh = refl

-- A data word leads from the three-way state to IHW_, taken as a guessed DDW0; a TDH leads to DATA_.
pub data_goes : (w : Word) → DataClear w → (state : State) → next_state state w ≡ onward S.Ihw state
data_goes w d = goes w (guess K.Ddw0 S.Ihw) d.clear (other tdt_id refl)
    (simp (other tdh_id refl, other ddw0_id refl, other ihw_id refl))
  where
    other : (id : ℕ) → is_data_id id ≡ false → eqb (id_of w) id ≡ false
    other id e = ne_eqb (id_of w) id (λ q. true≢false (sym d.data_id ∙ ap is_data_id q ∙ e))

pub tdh_goes : (w : Word) → TdhClear w → (state : State) → next_state state w ≡ onward S.Data state
tdh_goes w t =
    let no_tdt = ap (λ (id : ℕ). eqb id tdt_id) t.tdh_id_is in
    goes w (taken K.TdhAfterPacketDone S.Data) t.clear no_tdt (simp (eq-eqb _ _ t.tdh_id_is, eq-eqb _ _ t.clear))

-- Among data: DATA_ or c_DATA_.
abbrev pub AmongData : State → Type 0
AmongData state = (state ≡ S.Data) ⊎ (state ≡ S.CData)

-- A marker without its TDT leads there; the TDT is its last word.
pub record Closes (words : List Word) : Type 0 where
  pub front : List Word
  pub last : Word
  pub is : words ≡ front ++ (last ∷ [])
  pub among : (state : State) → AmongData (state_after state front)
  pub done : TdtDone last
