-- A part stored among a tracker's numbers: they are then the numbers of the tracker with that part.
-- Assumes nothing.
use Prim.Native.Nat.{ℕ, ◌<◌, ◌^◌}
use mathlib.Core.Path.{◌≡◌, refl, sym, ap, subst, ◌∙◌}
use mathlib.Core.Bool.{Bool, true, false, cond, ◌||◌}
use mathlib.Core.List.{List, [], ◌∷◌}
use lib.Dec.{eqb}
use lib.ListN.{length}
use borrow.Author.Tests.{eqb-true}
use mir.Val.{bool_byte}
use native.Mathlib.Omega.{arith}
use Rattle.tracker_array.specs.Good.{GoodArray}
use Rattle.std.proofs.lemmas.List.Edits.{sets}
use Rattle.payload_fsm.specs.declared.State.{State}
use Rattle.payload_fsm.specs.declared.State.TheVariants as S
use Rattle.payload_fsm.specs.Step.{among_data}
use Rattle.stored.specs.declared.StoredIhw.{StoredIhw}
use Rattle.stored.specs.declared.StoredTdh.{StoredTdh}
use Rattle.stored.specs.declared.InternalTdh.{InternalTdh}
use Rattle.stored.specs.declared.StoredCdw.{StoredCdw}
use Rattle.stored.specs.declared.Frame.{Frame}
use Rattle.cdp_running.specs.declared.Tracker.{Tracker}
use Rattle.tracker_array.specs.Array.{size, flag, state_number, encode_of, ihw_numbers, tdh_numbers, internal_numbers, cdw_numbers, frame_numbers}
use Rattle.tracker_array.specs.Place as P
use Rattle.tracker_array.specs.Read.{place, state_of, tracker_in}
use Rattle.tracker_array.proofs.Laws.{reads_back}
use Rattle.tracker_memory.specs.Holds.{Widths, Holds}
use Rattle.tracker_memory.specs.Memory.{with_at, with_counted, with_seen, with_ihw, with_tdh, with_internal, with_cdw, with_frame}

-- A flag as a number.
pub flag_number : (b : Bool) → bool_byte b ≡ flag b
flag_number true = refl
flag_number false = refl

-- DATA_ and c_DATA_ are the states 2 and 3.
pub among_data_lem : (n : ℕ) → (eqb n 2 || eqb n 3) ≡ among_data (state_of n)
among_data_lem n = at (eqb n 0) (eqb n 1) (eqb n 2) (eqb n 3) (eqb n 4) (eqb n 5) refl refl refl refl
  where
    neither : {c d : Bool} (k : ℕ) → n ≡ k → eqb n 2 ≡ c → eqb n 3 ≡ d → eqb k 2 ≡ false → eqb k 3 ≡ false
        → (c || d) ≡ false
    neither k e r s two three =
        simp (sym r ∙ ap (λ (j : ℕ). eqb j 2) e ∙ two, sym s ∙ ap (λ (j : ℕ). eqb j 3) e ∙ three)

    at : (a b c d e f : Bool) → eqb n 0 ≡ a → eqb n 1 ≡ b → eqb n 2 ≡ c → eqb n 3 ≡ d
        → (c || d) ≡ among_data (cond a S.Ihw (cond b S.Tdh
        (cond c S.Data (cond d S.CData (cond e S.Three (cond f S.CIhw S.CTdh))))))
    at true b c d e f p q r s = neither 0 (eqb-true n 0 p) r s refl refl
    at false true c d e f p q r s = neither 1 (eqb-true n 1 q) r s refl refl
    at false false true d e f p q r s = refl
    at false false false true e f p q r s = refl
    at false false false false true f p q r s = refl
    at false false false false false true p q r s = refl
    at false false false false false false p q r s = refl

long : (t : Tracker) → length (encode_of t) ≡ size
unfolding encode_of
long t = refl

-- Numbers that stand for a tracker.
pub record Stand (b : List ℕ) (t : Tracker) : Type 0 where
  pub holds : Holds b
  pub is : tracker_in b ≡ t

pub stand : {b : List ℕ} {t : Tracker} → b ≡ encode_of t → Widths t → Stand b t
stand {b} {t} e w =
    let is : tracker_in b ≡ t = ap tracker_in e ∙ reads_back t in
    record {
      holds = record { long = ap length e ∙ long t; numbers = e ∙ ap encode_of (sym is); widths = subst Widths (sym is) w };
      is = is;
    }

module _ (a : List ℕ) (h : Holds a) where
  pub reached : (s : State) (count : ℕ) → count < 2 ^ 16 → Stand (sets a P.reached (state_number s ∷ count ∷ [])) (with_at (tracker_in a) s count)
  unfolding encode_of
  reached s count c =
      stand (ap (λ (x : List ℕ). sets x P.reached (state_number s ∷ count ∷ [])) h.numbers)
      (let w = h.widths in record {
        period = w.period;
        packets = w.packets;
        orbit = w.orbit;
        trigger = w.trigger;
        bc = w.bc;
        page = w.page;
        stop = w.stop;
        format = w.format;
        count = c;
        lanes = w.lanes;
        tdh_trigger = w.tdh_trigger;
        tdh_bc = w.tdh_bc;
        tdh_orbit = w.tdh_orbit;
        internal_bc = w.internal_bc;
        internal_orbit = w.internal_orbit;
      })

  pub counted : (count : ℕ) → count < 2 ^ 16 → Stand (sets a P.count (count ∷ 1 ∷ [])) (with_counted (tracker_in a) count)
  unfolding encode_of
  counted count c =
      stand (ap (λ (x : List ℕ). sets x P.count (count ∷ 1 ∷ [])) h.numbers)
      (let w = h.widths in record {
        period = w.period;
        packets = w.packets;
        orbit = w.orbit;
        trigger = w.trigger;
        bc = w.bc;
        page = w.page;
        stop = w.stop;
        format = w.format;
        count = c;
        lanes = w.lanes;
        tdh_trigger = w.tdh_trigger;
        tdh_bc = w.tdh_bc;
        tdh_orbit = w.tdh_orbit;
        internal_bc = w.internal_bc;
        internal_orbit = w.internal_orbit;
      })

  pub seen : Stand (sets a P.seen (1 ∷ [])) (with_seen (tracker_in a))
  unfolding encode_of
  seen =
      stand (ap (λ (x : List ℕ). sets x P.seen (1 ∷ [])) h.numbers)
      (let w = h.widths in record {
        period = w.period;
        packets = w.packets;
        orbit = w.orbit;
        trigger = w.trigger;
        bc = w.bc;
        page = w.page;
        stop = w.stop;
        format = w.format;
        count = w.count;
        lanes = w.lanes;
        tdh_trigger = w.tdh_trigger;
        tdh_bc = w.tdh_bc;
        tdh_orbit = w.tdh_orbit;
        internal_bc = w.internal_bc;
        internal_orbit = w.internal_orbit;
      })

  pub ihw : (i : StoredIhw) → i.lanes < 2 ^ 32 → Stand (sets a P.ihw (ihw_numbers i)) (with_ihw (tracker_in a) i)
  unfolding encode_of
  ihw i c =
      stand (ap (λ (x : List ℕ). sets x P.ihw (ihw_numbers i)) h.numbers)
      (let w = h.widths in record {
        period = w.period;
        packets = w.packets;
        orbit = w.orbit;
        trigger = w.trigger;
        bc = w.bc;
        page = w.page;
        stop = w.stop;
        format = w.format;
        count = w.count;
        lanes = c;
        tdh_trigger = w.tdh_trigger;
        tdh_bc = w.tdh_bc;
        tdh_orbit = w.tdh_orbit;
        internal_bc = w.internal_bc;
        internal_orbit = w.internal_orbit;
      })

  pub tdh : (i : StoredTdh) → i.trigger < 2 ^ 16 → i.bc < 2 ^ 16 → i.orbit < 2 ^ 32
      → Stand (sets a P.tdh (tdh_numbers i)) (with_tdh (tracker_in a) i)
  unfolding encode_of
  tdh i c d e =
      stand (ap (λ (x : List ℕ). sets x P.tdh (tdh_numbers i)) h.numbers)
      (let w = h.widths in record {
        period = w.period;
        packets = w.packets;
        orbit = w.orbit;
        trigger = w.trigger;
        bc = w.bc;
        page = w.page;
        stop = w.stop;
        format = w.format;
        count = w.count;
        lanes = w.lanes;
        tdh_trigger = c;
        tdh_bc = d;
        tdh_orbit = e;
        internal_bc = w.internal_bc;
        internal_orbit = w.internal_orbit;
      })

  pub internal : (i : InternalTdh) → i.bc < 2 ^ 16 → i.orbit < 2 ^ 32
      → Stand (sets a P.internal (internal_numbers i)) (with_internal (tracker_in a) i)
  unfolding encode_of
  internal i c d =
      stand (ap (λ (x : List ℕ). sets x P.internal (internal_numbers i)) h.numbers)
      (let w = h.widths in record {
        period = w.period;
        packets = w.packets;
        orbit = w.orbit;
        trigger = w.trigger;
        bc = w.bc;
        page = w.page;
        stop = w.stop;
        format = w.format;
        count = w.count;
        lanes = w.lanes;
        tdh_trigger = w.tdh_trigger;
        tdh_bc = w.tdh_bc;
        tdh_orbit = w.tdh_orbit;
        internal_bc = c;
        internal_orbit = d;
      })

  pub cdw : (i : StoredCdw) → Stand (sets a P.cdw (cdw_numbers i)) (with_cdw (tracker_in a) i)
  unfolding encode_of
  cdw i =
      stand (ap (λ (x : List ℕ). sets x P.cdw (cdw_numbers i)) h.numbers)
      (let w = h.widths in record {
        period = w.period;
        packets = w.packets;
        orbit = w.orbit;
        trigger = w.trigger;
        bc = w.bc;
        page = w.page;
        stop = w.stop;
        format = w.format;
        count = w.count;
        lanes = w.lanes;
        tdh_trigger = w.tdh_trigger;
        tdh_bc = w.tdh_bc;
        tdh_orbit = w.tdh_orbit;
        internal_bc = w.internal_bc;
        internal_orbit = w.internal_orbit;
      })

  pub frame : (i : Frame) → Stand (sets a P.frame (frame_numbers i)) (with_frame (tracker_in a) i)
  unfolding encode_of
  frame i =
      stand (ap (λ (x : List ℕ). sets x P.frame (frame_numbers i)) h.numbers)
      (let w = h.widths in record {
        period = w.period;
        packets = w.packets;
        orbit = w.orbit;
        trigger = w.trigger;
        bc = w.bc;
        page = w.page;
        stop = w.stop;
        format = w.format;
        count = w.count;
        lanes = w.lanes;
        tdh_trigger = w.tdh_trigger;
        tdh_bc = w.tdh_bc;
        tdh_orbit = w.tdh_orbit;
        internal_bc = w.internal_bc;
        internal_orbit = w.internal_orbit;
      })

-- The number of a period fits, also where there is none: it is 0 then.
pub period_low : (a : List ℕ) → Holds a → place a P.period < 2 ^ 32
unfolding encode_of
period_low a h = rw (ap (λ (l : List ℕ). place l P.period) h.numbers) h.widths.period

-- The numbers of a tracker that meets the invariant.
pub good_holds : (a : List ℕ) → GoodArray a → Holds a
good_holds a h =
    let f = h.fits in
    let few = h.is.good.few in
    record {
      long = f.long;
      numbers = h.is.numbers;
      widths = record {
        period = h.is.sized.period;
        packets = omega arith;
        orbit = f.orbit;
        trigger = f.trigger;
        bc = f.bc;
        page = f.page;
        stop = f.stop;
        format = f.format;
        count = f.count;
        lanes = f.lanes;
        tdh_trigger = f.tdh_trigger;
        tdh_bc = f.tdh_bc;
        tdh_orbit = f.tdh_orbit;
        internal_bc = f.internal_bc;
        internal_orbit = f.internal_orbit;
      };
    }
