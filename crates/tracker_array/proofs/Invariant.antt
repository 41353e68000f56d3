-- The tests of a tracker are the invariant of cdp_running and the widths, no more and no less.
-- Assumes nothing.
use Prim.Native.Nat.{ℕ, ◌≤◌, ◌<◌, ◌^◌}
use mathlib.Core.Path.{◌≡◌, sym, ap, ◌∙◌}
use mathlib.Core.Bool.{Bool, true, false, ◌&&◌}
use mathlib.Core.Logic.{◌↔◌}
use native.Mathlib.Omega.{arith}
use lib.Dec.{ltb}
use borrow.Author.Tests.{ltb-true, ltb-false, lt-ltb, le-ltb}
use Rattle.words.proofs.Tests.{both, and_is, tests}
use Rattle.packet.specs.declared.Packet.{Packet}
use Rattle.packet.specs.Settings.{period_of}
use Rattle.packet.specs.Packet.{no_packet, most_packets}
use Rattle.payload_fsm.specs.declared.State.{State}
use Rattle.payload_fsm.specs.declared.State.TheVariants as S
use Rattle.stored.specs.declared.StoredTdh.{StoredTdh}
use Rattle.stored.specs.declared.InternalTdh.{InternalTdh}
use Rattle.stored.specs.declared.StoredCdw.{StoredCdw}
use Rattle.stored.specs.declared.StoredIhw.{StoredIhw}
use Rattle.stored.specs.declared.Frame.{Frame}
use Rattle.stored.specs.Kept.{GoodIhw, GoodTdh, GoodInternal, GoodCdw, GoodFrame}
use Rattle.cdp_running.specs.declared.Tracker.{Tracker}
use Rattle.cdp_running.specs.Tracker.{Good}
use Rattle.tracker_array.specs.Array.{Sized}
use Rattle.tracker_array.specs.Read.{ihw_good, tdh_good, internal_good, cdw_good, frame_good}
use Rattle.tracker_array.specs.Read.{packets_good, packet_blank, in_start, blank, kept_good, is_good}
use Rattle.tracker_array.proofs.State.{starts}

-- Each part: its test, and what holds of it.
start_is : (s : State) → (in_start s ≡ true) ↔ (s ≡ S.Ihw)
start_is s = (starts s, ap in_start)

ihw_is : (i : StoredIhw) → (ihw_good i ≡ true) ↔ GoodIhw i
ihw_is i =
    simp tests (λ (low, zero). record { lanes = low; absent = λ o j. record { present = o j; lanes = zero o j } }, λ g. (g.lanes, λ o. cc (g.absent o)))

tdh_is : (h : StoredTdh) → (tdh_good h ≡ true) ↔ ((h.orbit < 2 ^ 32) × GoodTdh h)
tdh_is h =
    simp tests (
      λ (trigger, (bc, (orbit, zero))). (
        orbit,
        record {
          trigger = trigger;
          bc = bc;
          absent = λ o j. record { present = o j; trigger = (zero o).0 j; bc = (zero o).1.0 j; orbit = (zero o).1.1 j };
        },
      ),
      λ (orbit, g). (g.trigger, (g.bc, (orbit, λ o. let e = g.absent o in (cc, (cc, cc))))),
    )

internal_is : (i : InternalTdh) → (internal_good i ≡ true) ↔ ((i.orbit < 2 ^ 32) × GoodInternal i)
internal_is i =
    simp tests (
      λ (bc, (orbit, zero)). (orbit, record { bc = bc; absent = λ o j. record { present = o j; bc = (zero o).0 j; orbit = (zero o).1 j } }),
      λ (orbit, g). (g.bc, (orbit, λ o. let e = g.absent o in (cc, cc))),
    )

cdw_is : (c : StoredCdw) → (cdw_good c ≡ true) ↔ GoodCdw c
cdw_is c =
    simp tests (λ (low, zero). record { user = low; absent = λ o j. record { present = o j; user = zero o j } }, λ g. (g.user, λ o. cc (g.absent o)))

frame_is : (frames : Bool) (f : Frame) → (frame_good frames f ≡ true) ↔ GoodFrame frames f
frame_is frames f =
    simp tests (
      λ (low, (zero, off)). record { start = low; absent = λ o j. record { opened = o j; start = zero o j }; off = off },
      λ g. (
        g.start,
        (λ o. cc (g.absent o), g.off),
      ),
    )

packets_is : (accepted : Bool) (packets : ℕ)
    → (packets_good accepted packets ≡ true) ↔ ((accepted ≡ ltb 0 packets) × (packets ≤ most_packets))
packets_is true packets =
    simp tests (λ (some, few). (sym (lt-ltb 0 packets some), few), λ (e, few). (ltb-true 0 packets (sym e), few))
packets_is false packets =
    simp tests (
      λ (none, few). (sym (le-ltb 0 packets (omega arith)), few),
      λ (e, few). (let none = ltb-false 0 packets (sym e) in omega arith, few),
    )

packet_is : (p : Packet) → (packet_blank p ≡ true) ↔ (p ≡ no_packet)
packet_is p = (none, ap packet_blank)
  where
    none : packet_blank p ≡ true → p ≡ no_packet
    none e =
        let (position, (orbit, (trigger, (bc, (page, (stop, format)))))) = simp tests at e in
        λ j. record { position = position j; orbit = orbit j; trigger = trigger j; bc = bc j; page = page j; stop = stop j; format = format j }

ruleset parts = (start_is, ihw_is, tdh_is, internal_is, cdw_is, frame_is, packets_is, packet_is, tests)

-- No packet, and the rest as the start gave it.
abbrev bare : Tracker → Bool
bare t = packet_blank t.packet && blank t

pub kept_tests : (t : Tracker) → period_of t.settings < 2 ^ 32 → kept_good t ≡ true → Good t × Sized t
kept_tests t period e =
    let ((counted, few), (packet, (count, ((ihw, (tdh, (internal, (cdw, frame)))), (present, fresh))))) = simp parts at e in
    let none : t.accepted ≡ false → t.packets ≡ 0 =
    λ o. let low = ltb-false 0 t.packets (sym counted ∙ o) in omega arith in (
      record {
        packet = simp tests packet;
        count = count;
        stored = record { ihw = ihw; tdh = tdh.1; internal = internal.1; cdw = cdw };
        frame = frame;
        ihw_present = present.0;
        tdh_present = present.1;
        fresh =
            λ o.
            let (packet, (state, (count, (seen, (no_ihw, (no-tdh, (no_internal, (no_cdw, no-frame)))))))) = fresh o in
            λ j.
            record {
              settings = t.settings;
              accepted = o j;
              packets = none o j;
              packet = packet j;
              at = record { fsm = record { state = state j }; count = count j; seen = seen j };
              stored =
                  record {
                    ihw = ihw.absent no_ihw j;
                    tdh = tdh.1.absent no-tdh j;
                    internal = internal.1.absent no_internal j;
                    cdw = cdw.absent no_cdw j;
                  };
              frame = frame.absent no-frame j;
            };
        counted = counted;
        few = few;
      },
      record { period = period; orbit = tdh.0; internal_orbit = internal.0 },
    )

pub tests_kept : (t : Tracker) → Good t → Sized t → kept_good t ≡ true
tests_kept t g s =
    let range = simp tests at g.packet in
    let fresh : t.accepted ≡ false → bare t ≡ true = λ o. ap bare (g.fresh o) in
    simp parts (
      (g.counted, g.few),
      (
        range,
        (
          g.count,
          (
            (
              g.stored.ihw,
              (
                (s.orbit, g.stored.tdh),
                ((s.internal_orbit, g.stored.internal), (g.stored.cdw, g.frame)),
              ),
            ),
            ((g.ihw_present, g.tdh_present), simp parts at fresh),
          ),
        ),
      ),
    )

pub tests_good : (t : Tracker) → is_good t ≡ true → Good t × Sized t
tests_good t e = let (period, good) = both (ltb (period_of t.settings) (2 ^ 32)) _ e in kept_tests t (ltb-true _ _ period) good

pub good_tests : (t : Tracker) → Good t → Sized t → is_good t ≡ true
good_tests t g s = (and_is _ _).1 (lt-ltb _ _ s.period, tests_kept t g s)
