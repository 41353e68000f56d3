-- The invariant holds after the start and after every call.
-- Assumes nothing.
use Prim.Native.Nat.{◌+◌, ◌<◌}
use mathlib.Core.Path.{◌≡◌, refl, sym, ap, ◌∙◌}
use mathlib.Core.Bool.{true, false, true≢false}
use native.Mathlib.Omega.{arith}
use borrow.Author.Tests.{lt-ltb}
use Rattle.words.specs.declared.Word.{Word}
use Rattle.packet.specs.declared.Settings.{Settings}
use Rattle.packet.specs.declared.Packet.{Packet}
use Rattle.packet.specs.Packet.{in_range, max_words, most_packets}
use Rattle.packet.proofs.Places.{position_most}
use Rattle.payload_fsm.specs.Step.{start}
use Rattle.stored.proofs.Good.{good_none, good_stored, good_frame, kept_ihw, kept_tdh}
use Rattle.cdp_running.specs.declared.Tracker.{Tracker}
use Rattle.cdp_running.specs.Tracker.{Good, start_of, reset_of, accept_of, past_ihw, past_tdh}
use Rattle.cdp_running.specs.Next.{next_tracker}
use Rattle.cdp_running.specs.Word.{taken_as, position_now}
use Rattle.cdp_running.proofs.Presence.{comes}

clash : {A : Type 0} → true ≡ false → A
clash e = absurd (true≢false e)

pub good_start : (s : Settings) → Good (start_of s)
good_start s =
    record {
      packet = refl;
      count = omega arith;
      stored = good_none;
      frame = record { start = omega arith; absent = λ _. refl; off = λ _. refl };
      ihw_present = λ e. clash (sym e);
      tdh_present = λ e. clash (sym e);
      fresh = λ _. refl;
      counted = refl;
      few = omega arith;
    }

pub good_reset : (t : Tracker) → Good t → Good (reset_of t)
good_reset t g =
    record {
      packet = g.packet;
      count = g.count;
      stored = g.stored;
      frame = g.frame;
      ihw_present = λ e. clash (sym e);
      tdh_present = λ e. clash (sym e);
      fresh = λ e. ap reset_of (g.fresh e);
      counted = g.counted;
      few = g.few;
    }

pub good_accept : (t : Tracker) (p : Packet) → Good t → in_range p ≡ true → t.packets < most_packets
    → Good (accept_of t p)
good_accept t p g e h =
    record {
      packet = e;
      count = omega arith;
      stored = g.stored;
      frame = g.frame;
      ihw_present = g.ihw_present;
      tdh_present = g.tdh_present;
      fresh = λ f. clash f;
      counted = sym (lt-ltb 0 (t.packets + 1) (omega arith));
      few = omega arith;
    }

pub good_next : (t : Tracker) (w : Word) → Good t → t.accepted ≡ true → t.at.count < max_words
    → Good (next_tracker t (taken_as t w) w)
good_next t w g have h =
    let a = taken_as t w in
    let c = comes t.at.fsm.state w in
    record {
      packet = g.packet;
      count = omega arith;
      stored = good_stored a.word t.at.seen w t.stored g.stored;
      frame =
          good_frame t.settings.frames a.word w (position_now t) t.frame
          (position_most t.packet t.at.count g.packet h) g.frame;
      ihw_present =
          λ e. kept_ihw a.word w t.stored.ihw (past_ihw t.at.fsm.state) g.ihw_present (c.ihw e);
      tdh_present =
          λ e. kept_tdh a.word w t.stored.tdh (past_tdh t.at.fsm.state) g.tdh_present (c.tdh e);
      fresh = λ e. clash (sym have ∙ e);
      counted = g.counted;
      few = g.few;
    }
