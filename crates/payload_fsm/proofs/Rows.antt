-- What holds of every row of a state's part of the table holds of what a word is taken as there.
-- Assumes nothing.
use Rattle.std.proofs.Common.{Bool, true, false, cond, eqb}
use Rattle.words.specs.declared.Word.{Word}
use Rattle.words.specs.Word.{id_of}
use Rattle.words.specs.Tdh.{tdh_id}
use Rattle.words.specs.Tdt.{tdt_id, packet_done}
use Rattle.words.specs.Ihw.{ihw_id}
use Rattle.words.specs.Ddw.{ddw0_id}
use Rattle.words.specs.Cdw.{cdw_id}
use Rattle.data_ids.specs.DataIds.{is_data_id}
use Rattle.payload_fsm.specs.declared.State.{State}
use Rattle.payload_fsm.specs.declared.State.TheVariants as S
use Rattle.payload_fsm.specs.declared.ItsPayloadWord.TheVariants as K
use Rattle.payload_fsm.specs.declared.Advanced.{Advanced}
use Rattle.payload_fsm.specs.Step.{taken, guess, after_tdh, in_data, in_three}

pub choice : {A : Type 0} (P : A → Type 0) (b : Bool) {x y : A} → P x → P y → P (cond b x y)
choice P true p q = p
choice P false p q = q

module _ (P : Advanced → Type 0) (w : Word) where
  pub data_rows_lem : (state : State) → P (taken K.Tdt S.Three) → P (taken K.Tdt S.CIhw) → P (taken K.Cdw state)
      → P (taken K.DataWord state) → P (guess K.DataWord state) → P (in_data state w)
  data_rows_lem state tdt split cdw known other =
      choice P (eqb (id_of w) tdt_id) (choice (λ (s : State). P (taken K.Tdt s)) (packet_done w) tdt split)
      (choice P (eqb (id_of w) cdw_id) cdw (choice P (is_data_id (id_of w)) known other))

  pub three_rows : P (taken K.TdhAfterPacketDone (after_tdh w)) → P (taken K.Ddw0 S.Ihw) → P (taken K.Ihw S.Tdh)
      → P (guess K.Ddw0 S.Ihw) → P (in_three w)
  three_rows tdh ddw0 ihw other =
      choice P (eqb (id_of w) tdh_id) tdh (choice P (eqb (id_of w) ddw0_id) ddw0 (choice P (eqb (id_of w) ihw_id) ihw other))
