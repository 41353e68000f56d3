-- What a word or a packet stores among a tracker's numbers makes them those of the tracker after it.
-- Assumes nothing.
use Prim.Native.Nat.{ℕ, ◌+◌}
use mathlib.Core.Path.{◌≡◌, refl, ap, sym, ◌∙◌}
use mathlib.Core.Bool.{Bool, true, false, cond, not, ◌&&◌}
use mathlib.Core.List.{List, [], ◌∷◌}
use lib.Dec.{eqb}
use lib.ListN.{set}
use lib.Seq.{sets}
use Rattle.words.specs.declared.Word.{Word}
use Rattle.words.specs.Tdh.{trigger_type, trigger_bc, trigger_orbit, internal_trigger, continuation}
use Rattle.words.specs.Cdw.{user_fields}
use Rattle.words.specs.Tdt.{packet_done}
use Rattle.packet.specs.declared.Packet.{Packet}
use Rattle.payload_fsm.specs.declared.Advanced.{Advanced}
use Rattle.payload_fsm.specs.declared.State.{State}
use Rattle.payload_fsm.specs.declared.ItsPayloadWord.{ItsPayloadWord}
use Rattle.payload_fsm.specs.declared.ItsPayloadWord.TheVariants as K
use Rattle.stored.specs.declared.Stored.{Stored}
use Rattle.stored.specs.Stored.{first_cdw}
use Rattle.stored.specs.declared.Frame.{Frame}
use Rattle.stored.specs.Kept.{no_frame}
use Rattle.cdp_running.specs.declared.Tracker.{Tracker}
use Rattle.cdp_running.specs.Tracker.{accept_of, reset_of}
use Rattle.cdp_running.specs.Next.{next_tracker}
use Rattle.cdp_running.specs.Word.{position_now}
use Rattle.tracker_array.specs.Array.{packet_numbers, state_number, encode_of}
use Rattle.tracker_array.specs.Place as P
use Rattle.tracker_array.specs.Read.{place, tracker_in}
use Rattle.tracker_array.specs.Good.{GoodArray}
use Rattle.tracker_array.proofs.Laws.{flag_back}
use Rattle.in_place.specs.Storing.{stores_of, put_if, word_stores}

module _ (t : Tracker) (s : State) (w : Word) where
  -- State and count.
  abbrev counted : List ℕ
  counted = sets (encode_of t) P.reached (state_number s ∷ (t.at.count + 1) ∷ [])

  -- Some of what is stored, all else as it was.
  abbrev with : Bool → Stored → Frame → List ℕ
  with seen stored frame =
      encode_of (record {
        settings = t.settings;
        accepted = t.accepted;
        packets = t.packets;
        packet = t.packet;
        at = record { fsm = record { state = s }; count = t.at.count + 1; seen = seen };
        stored = stored;
        frame = frame;
      })

  -- What is stored under a condition is stored, or stays.
  tdh_if : (internal opens : Bool) (here : ℕ)
      → put_if opens P.frame (1 ∷ here ∷ []) (put_if internal P.internal (1 ∷ trigger_bc w ∷ trigger_orbit w ∷ [])
      (sets counted P.tdh (1 ∷ trigger_type w ∷ trigger_bc w ∷ trigger_orbit w ∷ [])))
      ≡ with t.at.seen
      (record {
        ihw = t.stored.ihw;
        tdh = record {
          present = true;
          trigger = trigger_type w;
          bc = trigger_bc w;
          orbit = trigger_orbit w;
        };
        internal = cond internal
            (record { present = true; bc = trigger_bc w; orbit = trigger_orbit w }) t.stored.internal;
        cdw = t.stored.cdw;
      })
      (cond opens (record { opened = true; start = here }) t.frame)
  unfolding encode_of
  tdh_if true true here = refl
  tdh_if true false here = refl
  tdh_if false true here = refl
  tdh_if false false here = refl

  data_if : (first : Bool) → sets (put_if first P.cdw (1 ∷ user_fields w ∷ []) counted) P.seen (1 ∷ [])
      ≡ with true (record {
        ihw = t.stored.ihw;
        tdh = t.stored.tdh;
        internal = t.stored.internal;
        cdw = cond first (record { present = true; user = user_fields w }) t.stored.cdw;
      }) t.frame
  unfolding encode_of
  data_if true = refl
  data_if false = refl

  tdt_if : (closes : Bool) → put_if closes P.frame (0 ∷ 0 ∷ []) counted ≡ with t.at.seen t.stored
      (cond closes no_frame t.frame)
  unfolding encode_of
  tdt_if true = refl
  tdt_if false = refl

  tdh_is : (kind : ItsPayloadWord) → ((l : List ℕ)
      → stores_of kind w (position_now t) l ≡ stores_of K.Tdh w (position_now t) l)
      → (g : Bool) → encode_of (next_tracker t (record { word = kind; guessed = g; fsm = record { state = s } }) w)
      ≡ encode_of (next_tracker t (record { word = K.Tdh; guessed = g; fsm = record { state = s } }) w)
      → stores_of kind w (position_now t) counted
      ≡ encode_of (next_tracker t (record { word = kind; guessed = g; fsm = record { state = s } }) w)
  unfolding encode_of
  tdh_is kind p g q =
      p counted ∙ simp flag_back (tdh_if (eqb (internal_trigger w) 1)
      (t.settings.frames && (not t.frame.opened && eqb (continuation w) 0)) (position_now t)) ∙ sym q

  by_kind : (kind : ItsPayloadWord) (g : Bool) → stores_of kind w (position_now t) counted
      ≡ encode_of (next_tracker t (record { word = kind; guessed = g; fsm = record { state = s } }) w)
  unfolding encode_of
  by_kind K.Ihw g = refl
  by_kind K.IhwContinuation g = refl
  by_kind K.Tdh g = tdh_is K.Tdh (λ l. refl) g refl
  by_kind K.TdhAfterPacketDone g = tdh_is K.TdhAfterPacketDone (λ l. refl) g refl
  by_kind K.TdhContinuation g = tdh_is K.TdhContinuation (λ l. refl) g refl
  by_kind K.DataWord g = simp flag_back (data_if (first_cdw t.at.seen w))
  by_kind K.Cdw g = simp flag_back (data_if (first_cdw t.at.seen w))
  by_kind K.Tdt g = simp flag_back (tdt_if (t.settings.frames && packet_done w))
  by_kind K.Ddw0 g = refl

-- One law for all kinds.
pub stores_next : (t : Tracker) (a : Advanced) (w : Word)
    → stores_of a.word w (position_now t) (sets (encode_of t) P.reached
    (state_number a.fsm.state ∷ (t.at.count + 1) ∷ [])) ≡ encode_of (next_tracker t a w)
stores_next t a w = by_kind t a.fsm.state w a.word a.guessed

-- The same on numbers that are a tracker's.
pub good_next : (l : List ℕ) (a : Advanced) (w : Word) → GoodArray l
    → word_stores a w l ≡ encode_of (next_tracker (tracker_in l) a w)
good_next l a w h =
    ap (λ (x : List ℕ). stores_of a.word w (position_now (tracker_in l))
    (sets x P.reached (state_number a.fsm.state ∷ (place l P.count + 1) ∷ []))) h.is.numbers
    ∙ stores_next (tracker_in l) a w

-- A packet that is accepted, and a reset.
pub accepts : (l : List ℕ) (p : Packet) → GoodArray l
    → set (set (sets (set (set l P.packets (place l P.packets + 1)) P.accepted 1) P.packet (packet_numbers p)) P.count 0) P.seen 0
    ≡ encode_of (accept_of (tracker_in l) p)
unfolding encode_of
accepts l p h =
    ap (λ (x : List ℕ). set (set (sets (set (set x P.packets (place l P.packets + 1)) P.accepted 1) P.packet (packet_numbers p)) P.count 0) P.seen 0)
    h.is.numbers

pub resets : (l : List ℕ) → GoodArray l → set l P.state 0 ≡ encode_of (reset_of (tracker_in l))
unfolding encode_of
resets l h = ap (λ (x : List ℕ). set x P.state 0) h.is.numbers
