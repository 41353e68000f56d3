-- When a packet is accepted and when a word is taken, and what they then come to.
-- Assumes nothing.
use Prim.Native.Nat.{ℕ, ◌<◌}
use mathlib.Core.Path.{◌≡◌, refl, sym, ap, ◌∙◌}
use mathlib.Core.Bool.{Bool, true, false, cond}
use mathlib.Core.List.{List}
use native.Mathlib.Omega.{arith}
use lib.Dec.{leb, ltb, eqb}
use lib.ListN.{length}
use borrow.Author.Tests.{eqb-true, leb-false, ltb-true, eq-eqb, lt-leb, lt-ltb}
use Rattle.words.specs.Word.{word_of}
use Rattle.packet.specs.declared.Packet.{Packet}
use Rattle.packet.specs.Packet.{in_range, max_words, most_packets}
use Rattle.records.specs.Records.{exceed}
use Rattle.cdp_running.specs.declared.Tracker.{Tracker}
use Rattle.cdp_running.specs.Told.{PacketAnswer}
use Rattle.cdp_running.specs.Tracker.{accept_of, packet_call}
use Rattle.cdp_running.specs.Next.{next_tracker}
use Rattle.cdp_running.specs.Word.{taken_as, records_of, TakenWord, taken, refused, taken_of, word_call}

-- What holds of each of the three answers to a packet, where that is given, holds of its answer.
pub packet_cases : (P : PacketAnswer → Type 0) (t : Tracker) (p : Packet)
    → (in_range p ≡ true → t.packets < most_packets → P (record { tracker = accept_of t p; refusal = 0 }))
    → P (record { tracker = t; refusal = 10 })
    → P (record { tracker = t; refusal = 5 })
    → P (packet_call t p)
unfolding packet_call
packet_cases P t p accepted ten five = at (in_range p) (ltb t.packets most_packets) refl refl
  where
    at : (range few : Bool) → in_range p ≡ range → ltb t.packets most_packets ≡ few
        → P (cond range (cond few (record { tracker = accept_of t p; refusal = 0 }) (record { tracker = t; refusal = 10 }))
        (record { tracker = t; refusal = 5 }))
    at true true e h = accepted e (ltb-true _ _ h)
    at true false e h = ten
    at false few e h = five

-- Where 10 is not met, its ranges alone decide.
abbrev pub by_range : Bool → Tracker → Packet → PacketAnswer
by_range range t p = cond range (record { tracker = accept_of t p; refusal = 0 }) (record { tracker = t; refusal = 5 })

pub packet_not_ten : (t : Tracker) (p : Packet) → ((packet_call t p).refusal ≡ 10 → ⊥) → packet_call t p ≡ by_range (in_range p) t p
unfolding packet_call
packet_not_ten t p = at (in_range p) (ltb t.packets most_packets)
  where
    answer : Bool → Bool → PacketAnswer
    answer range few =
        cond range (cond few (record { tracker = accept_of t p; refusal = 0 }) (record { tracker = t; refusal = 10 }))
        (record { tracker = t; refusal = 5 })

    at : (range few : Bool) → ((answer range few).refusal ≡ 10 → ⊥) → answer range few ≡ by_range range t p
    at true true n = refl
    at true false n = absurd (n refl)
    at false few n = refl

-- A packet that is refused leaves the tracker.
pub packet_stays : (t : Tracker) (p : Packet) → ((packet_call t p).refusal ≡ 0 → ⊥) → (packet_call t p).tracker ≡ t
packet_stays t p =
    packet_cases (λ (r : PacketAnswer). (r.refusal ≡ 0 → ⊥) → r.tracker ≡ t) t p (λ e h n. absurd (n refl))
    (λ n. refl) (λ n. refl)

-- A packet that is not refused.
pub record AcceptedPacket (t : Tracker) (p : Packet) : Type 0 where
  pub in_range_is : in_range p ≡ true
  pub few : t.packets < most_packets
  pub is : packet_call t p ≡ record { tracker = accept_of t p; refusal = 0 }

pub packet_admitted : (t : Tracker) (p : Packet) → in_range p ≡ true → t.packets < most_packets → AcceptedPacket t p
unfolding packet_call
packet_admitted t p e h = record { in_range_is = e; few = h; is = simp (e, lt-ltb _ _ h) }

pub accepted_admitted : (t : Tracker) (p : Packet) → (packet_call t p).refusal ≡ 0 → AcceptedPacket t p
accepted_admitted t p =
    packet_cases (λ (r : PacketAnswer). r.refusal ≡ 0 → AcceptedPacket t p) t p (λ e h _. packet_admitted t p e h)
    (λ e. absurd (omega arith)) (λ e. absurd (omega arith))

same : {x y : TakenWord} → taken x ≡ taken y → x ≡ y
same e = cc

-- None of the four refusals holds.
pub record Admitted (t : Tracker) (bytes : List ℕ) (places : ℕ) : Type 0 where
  pub ten : length bytes ≡ 10
  pub accepted : t.accepted ≡ true
  pub low : t.at.count < max_words
  pub fits : exceed (records_of t (word_of bytes)) places ≡ false

pub admitted_taken : (t : Tracker) (bytes : List ℕ) (places : ℕ) → Admitted t bytes places
    → word_call t bytes places ≡ taken_of t (word_of bytes)
unfolding word_call
admitted_taken t bytes places a = simp (eq-eqb _ _ a.ten, a.accepted, lt-leb _ _ a.low, a.fits)

module _ (t : Tracker) (bytes : List ℕ) (places : ℕ) {x : TakenWord} (e : word_call t bytes places ≡ taken x) where
  pub taken_admitted : Admitted t bytes places
  unfolding word_call
  taken_admitted =
      let a = at (eqb (length bytes) 10) t.accepted (leb max_words t.at.count)
      (exceed (records_of t (word_of bytes)) places) e in
      record { ten = eqb-true _ _ a.0; accepted = a.1.0; low = leb-false _ _ a.1.1.0; fits = a.1.1.1 }
    where
      at : (a b c d : Bool)
          → cond a (cond b (cond c (refused 3) (cond d (refused 4) (taken_of t (word_of bytes)))) (refused 2))
          (refused 1) ≡ taken x
          → (a ≡ true) × ((b ≡ true) × ((c ≡ false) × (d ≡ false)))
      at true true false false q = (refl, (refl, (refl, refl)))
      at true true false true q = (cc, (cc, (cc, cc)))
      at true true true d q = (cc, (cc, (cc, cc)))
      at true false c d q = (cc, (cc, (cc, cc)))
      at false b c d q = (cc, (cc, (cc, cc)))

  pub taken_is : taken_of t (word_of bytes) ≡ taken x
  taken_is = sym (admitted_taken t bytes places taken_admitted) ∙ e

  -- The tracker after it, and its records.
  pub next_is : x.next ≡ next_tracker t (taken_as t (word_of bytes)) (word_of bytes)
  unfolding taken_of
  next_is = ap (λ (y : TakenWord). y.next) (sym (same taken_is))

  pub records_are : x.records ≡ records_of t (word_of bytes)
  unfolding taken_of
  records_are = ap (λ (y : TakenWord). y.records) (sym (same taken_is))
