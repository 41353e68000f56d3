-- The packet call and the reset on the numbers of a tracker.
-- Assumes nothing.
use Rattle.std.proofs.Common.{◌≡◌, ap, ◌∙◌, true, false, List, ℕ, ◌≤◌, ◌<◌, set, lt-ltb, le-ltb, Result, Ok, Err, IsErr, IsErrAnd}
use Rattle.refusals.specs.declared.Refusal.{Refusal}
use Rattle.refusals.specs.declared.Refusal.TheVariants as R
use Rattle.refusals.specs.Refusals.{code}
use Rattle.packet.specs.declared.Packet.{Packet}
use Rattle.packet.specs.Packet.{in_range, most_packets}
use Rattle.cdp_running.specs.Tracker.{accept_of, packet_call}
use Rattle.tracker_array.specs.Array.{encode_of}
use Rattle.tracker_array.specs.Place as P
use Rattle.tracker_array.specs.Read.{place, tracker_in}
use Rattle.tracker_array.specs.Good.{GoodArray}
use Rattle.in_place.specs.Calls.{PacketInPlace, ResetInPlace}
use Rattle.in_place.proofs.Storing.{resets}
use Rattle.in_place.proofs.Kept.{kept_packet, kept_reset, good_after}

module _ (a : List ℕ) (h : GoodArray a) where
  module _ (p : Packet) where
    -- x is the refusal of the ranges, and r what is answered with it.
    pub packet_5 : {x : Refusal} (r : Result Unit Refusal) → IsErr r × IsErrAnd r (λ y. y ≡ x) → (in_range p ≡ false) × (x ≡ R.Packet)
        → PacketInPlace a p (code r) a
    unfolding packet_call
    packet_5 (Ok u) (_, none) _ = absurd none
    packet_5 (Err y) (_, same) (out, e) =
        rw (same ∙ e) (record { answer = simp out; numbers = simp out h.is.numbers; good = h })

    pub packet_10 : in_range p ≡ true → most_packets ≤ place a P.packets → PacketInPlace a p 10 a
    unfolding packet_call
    packet_10 within most =
        let last = le-ltb (place a P.packets) most_packets most in
        record { answer = simp (within, last); numbers = simp (within, last) h.is.numbers; good = h }

    pub packet_done : {q : Packet} {after : List ℕ} → (in_range p ≡ true) × (q ≡ p) → place a P.packets < most_packets
        → after ≡ encode_of (accept_of (tracker_in a) q)
        → PacketInPlace a p 0 after
    unfolding packet_call
    packet_done {after = after} (within, same) low e =
        let few = lt-ltb (place a P.packets) most_packets low in
        let stored = e ∙ ap (λ (x : Packet). encode_of (accept_of (tracker_in a) x)) same in
        let numbers : after ≡ encode_of (packet_call (tracker_in a) p).tracker = simp (within, few) stored in
        record {
          answer = simp (within, few);
          numbers = numbers;
          good = good_after numbers (kept_packet (tracker_in a) (h.is.good, h.is.sized) p);
        }

  pub reset_done : {n : ℕ} → n ≡ 0 → ResetInPlace a (set a P.state n)
  reset_done e =
      let numbers = ap (λ (k : ℕ). set a P.state k) e ∙ resets a h in
      record { numbers = numbers; good = good_after numbers (kept_reset (tracker_in a) (h.is.good, h.is.sized)) }
