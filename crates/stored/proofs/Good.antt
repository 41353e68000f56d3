-- What is kept stays good from word to word, and what was stored stays stored.
-- Assumes nothing.
use Prim.Native.Nat.{ℕ, ◌≤◌}
use mathlib.Core.Path.{◌≡◌, refl}
use mathlib.Core.Bool.{Bool, true, false, cond, ◌&&◌, ◌||◌, and-false, true≢false}
use native.Mathlib.Omega.{arith}
use lib.Dec.{eqb}
use Rattle.words.specs.declared.Word.{Word}
use Rattle.words.specs.Tdh.{trigger_type, internal_trigger, trigger_bc, trigger_orbit}
use Rattle.words.specs.Ihw.{active_lanes}
use Rattle.words.proofs.Bits.{bits_below}
use Rattle.packet.specs.Packet.{most_position}
use Rattle.payload_fsm.specs.declared.ItsPayloadWord.{ItsPayloadWord}
use Rattle.payload_fsm.specs.Kinds.{is_ihw, is_tdh, is_data}
use Rattle.payload_fsm.proofs.Rows.{choice}
use Rattle.stored.specs.declared.StoredIhw.{StoredIhw}
use Rattle.stored.specs.declared.StoredTdh.{StoredTdh}
use Rattle.stored.specs.declared.InternalTdh.{InternalTdh}
use Rattle.stored.specs.declared.StoredCdw.{StoredCdw}
use Rattle.stored.specs.declared.Stored.{Stored}
use Rattle.stored.specs.declared.Frame.{Frame}
use Rattle.stored.specs.Kept.{no_stored, GoodIhw, GoodTdh, GoodInternal, GoodCdw, GoodStored, GoodFrame}
use Rattle.stored.specs.Stored.{next_ihw, next_tdh, next_internal, first_cdw, next_cdw, next_stored, opens, closes, next_frame}

clash : {A : Type 0} → true ≡ false → A
clash e = absurd (true≢false e)

-- Each stored thing after a word.
good_ihw : (kind : ItsPayloadWord) (w : Word) (old : StoredIhw) → GoodIhw old → GoodIhw (next_ihw kind w old)
good_ihw kind w old g = choice GoodIhw (is_ihw kind) (record { lanes = bits_below 27 0 w; absent = λ e. clash e }) g

good_tdh : (kind : ItsPayloadWord) (w : Word) (old : StoredTdh) → GoodTdh old → GoodTdh (next_tdh kind w old)
good_tdh kind w old g =
    choice GoodTdh (is_tdh kind) (record { trigger = bits_below 11 0 w; bc = bits_below 27 16 w; absent = λ e. clash e })
    g

good_internal : (kind : ItsPayloadWord) (w : Word) (old : InternalTdh) → GoodInternal old
    → GoodInternal (next_internal kind w old)
good_internal kind w old g =
    choice GoodInternal (is_tdh kind && eqb (internal_trigger w) 1)
    (record { bc = bits_below 27 16 w; absent = λ e. clash e }) g

good_cdw : (kind : ItsPayloadWord) (seen : Bool) (w : Word) (old : StoredCdw) → GoodCdw old
    → GoodCdw (next_cdw kind seen w old)
good_cdw kind seen w old g =
    choice GoodCdw (is_data kind && first_cdw seen w) (record { user = bits_below 47 0 w; absent = λ e. clash e }) g

-- All of it, at the start and after a word.
pub good_none : GoodStored no_stored
good_none =
    record {
      ihw = record { lanes = omega arith; absent = λ _. refl };
      tdh = record { trigger = omega arith; bc = omega arith; absent = λ _. refl };
      internal = record { bc = omega arith; absent = λ _. refl };
      cdw = record { user = omega arith; absent = λ _. refl };
    }

pub good_stored : (kind : ItsPayloadWord) (seen : Bool) (w : Word) (old : Stored) → GoodStored old
    → GoodStored (next_stored kind seen w old)
good_stored kind seen w old g =
    record {
      ihw = good_ihw kind w old.ihw g.ihw;
      tdh = good_tdh kind w old.tdh g.tdh;
      internal = good_internal kind w old.internal g.internal;
      cdw = good_cdw kind seen w old.cdw g.cdw;
    }

-- A frame opens with frames on alone.
pub good_frame : (frames : Bool) (kind : ItsPayloadWord) (w : Word) (position : ℕ) (old : Frame)
    → position ≤ most_position → GoodFrame frames old
    → GoodFrame frames (next_frame frames kind w position old)
good_frame true kind w position old h g =
    choice (GoodFrame true) (opens true kind w old) (record { start = h; absent = λ e. clash e; off = λ e. clash e })
    (choice (GoodFrame true) (closes true kind w)
    (record { start = omega arith; absent = λ _. refl; off = λ _. refl }) g)
good_frame false kind w position old h g = simp and-false g

-- What was taken is stored, and what was stored stays.
pub kept_ihw : (kind : ItsPayloadWord) (w : Word) (old : StoredIhw) (after : Bool) → (after ≡ true → old.present ≡ true)
    → (is_ihw kind || after) ≡ true → (next_ihw kind w old).present ≡ true
kept_ihw kind w old after h e = at (is_ihw kind) e
  where
    at : (b : Bool) → (b || after) ≡ true → (cond b (record { present = true; lanes = active_lanes w }) old).present ≡ true
    at true e = refl
    at false e = h e

pub kept_tdh : (kind : ItsPayloadWord) (w : Word) (old : StoredTdh) (after : Bool) → (after ≡ true → old.present ≡ true)
    → (is_tdh kind || after) ≡ true → (next_tdh kind w old).present ≡ true
kept_tdh kind w old after h e = at (is_tdh kind) e
  where
    at : (b : Bool) → (b || after) ≡ true
        → (cond b (record { present = true; trigger = trigger_type w; bc = trigger_bc w; orbit = trigger_orbit w })
        old).present ≡ true
    at true e = refl
    at false e = h e
