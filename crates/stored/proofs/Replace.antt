-- What a word stores does not depend on what was stored: a stored thing is the same from the word on that stores it, whatever it was before.
-- Assumes nothing.
use Prim.Native.Nat.{ℕ}
use mathlib.Core.Path.{◌≡◌, refl}
use mathlib.Core.Bool.{Bool, true, false, cond, ◌&&◌, ◌||◌}
use lib.Dec.{eqb}
use Rattle.words.specs.declared.Word.{Word}
use Rattle.words.specs.Tdh.{internal_trigger}
use Rattle.words.specs.Tdt.{packet_done}
use Rattle.payload_fsm.specs.declared.ItsPayloadWord.{ItsPayloadWord}
use Rattle.payload_fsm.specs.declared.ItsPayloadWord.TheVariants as K
use Rattle.payload_fsm.specs.Kinds.{is_ihw, is_tdh, is_data}
use Rattle.stored.specs.declared.StoredTdh.{StoredTdh}
use Rattle.stored.specs.declared.InternalTdh.{InternalTdh}
use Rattle.stored.specs.declared.StoredCdw.{StoredCdw}
use Rattle.stored.specs.Stored.{first_cdw, next_ihw, next_tdh, next_internal, next_cdw, next_frame}
use Rattle.stored.specs.declared.StoredIhw.{StoredIhw}
use Rattle.stored.specs.declared.Frame.{Frame}
use Rattle.stored.specs.Kept.{no_frame}

-- Two that were the same once something was met, and are set by it alike.
replaced : {A : Type 0} (met now : Bool) (set old old' : A) → (met ≡ true → old ≡ old') → (met || now) ≡ true
    → cond now set old ≡ cond now set old'
replaced true true set old old' same e = refl
replaced true false set old old' same e = same refl
replaced false true set old old' same e = refl
replaced false false set old old' same e = same e

module _ (met : Bool) (kind : ItsPayloadWord) (w : Word) where
  pub ihw_replaced : (old old' : StoredIhw) → (met ≡ true → old ≡ old') → (met || is_ihw kind) ≡ true
      → next_ihw kind w old ≡ next_ihw kind w old'
  ihw_replaced old old' = replaced met (is_ihw kind) _ old old'

  pub internal_replaced : (old old' : InternalTdh) → (met ≡ true → old ≡ old')
      → (met || (is_tdh kind && eqb (internal_trigger w) 1)) ≡ true
      → next_internal kind w old ≡ next_internal kind w old'
  internal_replaced old old' = replaced met (is_tdh kind && eqb (internal_trigger w) 1) _ old old'

  pub cdw_replaced : (seen : Bool) (old old' : StoredCdw) → (met ≡ true → old ≡ old')
      → (met || (is_data kind && first_cdw seen w)) ≡ true
      → next_cdw kind seen w old ≡ next_cdw kind seen w old'
  cdw_replaced seen old old' = replaced met (is_data kind && first_cdw seen w) _ old old'

  -- An internal TDH is a TDH, so with one met the last TDH is the same too.
  pub tdh_replaced : (old old' : StoredTdh) → (met ≡ true → old ≡ old')
      → (met || (is_tdh kind && eqb (internal_trigger w) 1)) ≡ true
      → next_tdh kind w old ≡ next_tdh kind w old'
  tdh_replaced old old' same e =
      replaced met (is_tdh kind) _ old old' same (less met (is_tdh kind) (eqb (internal_trigger w) 1) e)
    where
      less : (a b c : Bool) → (a || (b && c)) ≡ true → (a || b) ≡ true
      less true b c e = refl
      less false true c e = refl
      less false false c e = e

-- A TDT with packet done leaves no frame open.
pub frame_closed : (w : Word) (position : ℕ) (f : Frame) → packet_done w ≡ true
    → next_frame true K.Tdt w position f ≡ no_frame
frame_closed w position f done = simp done
