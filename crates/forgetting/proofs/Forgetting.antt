-- Promise 3: the past is forgotten in time.
-- Assumes nothing.
use Prim.Native.Nat.{ℕ, ◌+◌}
use mathlib.Core.Path.{◌≡◌, sym, ap, ◌∙◌}
use mathlib.Core.Bool.{true, false, ◌||◌, or_assoc, or-false, true≢false}
use mathlib.Core.List.{List, [], ◌∷◌, ◌++◌}
use Rattle.packet.specs.declared.Settings.{Settings}
use Rattle.packet.specs.declared.Packet.{Packet}
use Rattle.words.specs.Lists.{Each}
use Rattle.stored.specs.declared.Stored.{Stored}
use Rattle.cdp_running.specs.declared.Tracker.{Tracker}
use Rattle.cdp_running.specs.Told.{PacketAnswer}
use Rattle.cdp_running.specs.Tracker.{Good, start_of, accept_of, packet_call}
use Rattle.cdp_running.proofs.Good.{good_start}
use Rattle.cdp_running.proofs.Outcome.{accepted_admitted}
use Rattle.forgetting.specs.Calls.{Call, packet, word, payload, reset, after, run, answers, refusal, Took, took_in, took_of, took}
use Rattle.forgetting.specs.Forget.{AcceptedMarker, Roomy, Begins, NeverTen, Continues, as_ihw, as_internal_tdh, as_first_cdw, some, HasMet}
use Rattle.forgetting.specs.Forget.{Forgotten}
use Rattle.forgetting.proofs.Walk.{walk_settings, run_walk, good_run, run_settings}
use Rattle.forgetting.proofs.Marker.{Settled, marked}
use Rattle.forgetting.proofs.Same.{Met, nothing, meets, meets_all, counting, SameStored, Same, carried, all_same}
use Rattle.forgetting.proofs.Alike.{Agrees, Agree, agree_more, calls_agree}
use Rattle.forgetting.proofs.Counts.{equally}
use Rattle.forgetting.proofs.Bare.{calls_bare}

-- What was met is what some word was taken as.
ihw_met : (m : Met) (xs : List Took) → (meets_all m xs).ihw ≡ (m.ihw || some as_ihw xs)
unfolding meets_all some
ihw_met m [] = sym (or-false m.ihw)
ihw_met m (x ∷ xs) = ihw_met (meets m x) xs ∙ or_assoc m.ihw (as_ihw x) (some as_ihw xs)

internal_met : (m : Met) (xs : List Took) → (meets_all m xs).internal ≡ (m.internal || some as_internal_tdh xs)
unfolding meets_all some
internal_met m [] = sym (or-false m.internal)
internal_met m (x ∷ xs) = internal_met (meets m x) xs ∙ or_assoc m.internal (as_internal_tdh x) (some as_internal_tdh xs)

cdw_met : (m : Met) (xs : List Took) → (meets_all m xs).cdw ≡ (m.cdw || some as_first_cdw xs)
unfolding meets_all some
cdw_met m [] = sym (or-false m.cdw)
cdw_met m (x ∷ xs) = cdw_met (meets m x) xs ∙ or_assoc m.cdw (as_first_cdw x) (some as_first_cdw xs)

-- With nothing met, nothing need be the same.
none_same : {x y : Stored} → SameStored nothing x y
unfolding nothing
none_same =
    record {
      ihw = λ q. absurd (true≢false (sym q));
      tdh = λ q. absurd (true≢false (sym q));
      internal = λ q. absurd (true≢false (sym q));
      cdw = λ q. absurd (true≢false (sym q));
    }

-- An accepted packet on two trackers that have settled, with equal settings.
packet_same : (t u : Tracker) (p : Packet) → t.settings ≡ u.settings → Settled t → Settled u
    → Same nothing (accept_of t p) (accept_of u p)
packet_same t u p e s r =
    let state : t.at.fsm.state ≡ u.at.fsm.state = s.state ∙ sym r.state in
    let frame : t.frame ≡ u.frame = s.frame ∙ sym r.frame in
    record {
      packets = u.packets + 1;
      stored = u.stored;
      is =
          λ i.
          record {
            settings = e i;
            accepted = true;
            packets = u.packets + 1;
            packet = p;
            at = record { fsm = record { state = state i }; count = 0; seen = false };
            stored = u.stored;
            frame = frame i;
          };
      same = none_same;
    }

abbrev tracker : PacketAnswer → Tracker
tracker r = r.tracker

module _ (t u : Tracker) (e : t.settings ≡ u.settings) (st : Settled t) (su : Settled u) where
  -- The first call.
  packet_agrees : (p : Packet) → (packet_call t p).refusal ≡ 0 → (packet_call u p).refusal ≡ 0 → Agrees nothing t u (packet p)
  unfolding took_in meets_all
  packet_agrees p r r' =
      record {
        kinds_agree = ap (λ (n : ℕ). refusal n ∷ []) (r ∙ sym r');
        same =
            carried (ap tracker (accepted_admitted t p r).is) (ap tracker (accepted_admitted u p r').is)
            (packet_same t u p e st su);
      }

  -- And those after it.
  from_settled : (calls : List Call) → Continues t calls → Continues u calls → Each Roomy calls → Agree nothing t u calls
  unfolding answers
  from_settled [] b b' h = absurd b.begins
  from_settled (packet p ∷ calls) b b' h =
      let one = packet_agrees p b.begins b'.begins in
      agree_more nothing t u (packet p) calls one
      (calls_agree (meets_all nothing (took_of t (packet p))) (after t (packet p)) (after u (packet p)) calls one.same
      h.1 b.never_ten.1 b'.never_ten.1)
  from_settled (word bytes buffer ∷ calls) b b' h = absurd b.begins
  from_settled (payload bytes buffer ∷ calls) b b' h = absurd b.begins
  from_settled (reset ∷ calls) b b' h = absurd b.begins

  -- With all met, the trackers are the same but for the count.
  met_same : (calls : List Call) → Continues t calls → Continues u calls → Each Roomy calls → HasMet (took t calls)
      → counting (run t calls) (run u calls).packets ≡ run u calls
  unfolding nothing
  met_same calls b b' h met =
      let xs = took t calls in
      all_same (from_settled calls b b' h).same (ihw_met nothing xs ∙ met.ihw)
      (internal_met nothing xs ∙ met.internal_tdh) (cdw_met nothing xs ∙ met.first_cdw_is)

-- Calls that have met something are some calls: they begin as all of them do.
front : (t x : Tracker) (calls later : List Call) → Begins t (calls ++ later) → HasMet (took x calls) → Begins t calls
unfolding took some
front t x [] later b met = absurd (true≢false (sym met.ihw))
front t x (packet p ∷ calls) later b met = b
front t x (word bytes buffer ∷ calls) later b met = b
front t x (payload bytes buffer ∷ calls) later b met = b
front t x (reset ∷ calls) later b met = b

each_front : (calls later : List Call) → Each Roomy (calls ++ later) → Each Roomy calls
each_front [] later h = tt
each_front (c ∷ calls) later h = (h.0, each_front calls later h.1)

-- None of the first calls, and none of the later ones, is refused with 10.
never_front : (t : Tracker) (calls later : List Call) → NeverTen t (calls ++ later)
    → NeverTen t calls × NeverTen (run t calls) later
unfolding answers run
never_front t [] later n = (tt, n)
never_front t (c ∷ calls) later n = let more = never_front (after t c) calls later n.1 in ((n.0, more.0), more.1)

-- Two trackers that meet the invariant, with equal settings; each accepts the marker; then come equal calls, with room, that begin with a packet that
-- both accept, and of which neither refuses one with 10.
pub forgetting : (t u : Tracker) (past past' calls later : List Call) → Good t → Good u → t.settings ≡ u.settings
    → AcceptedMarker t past
    → AcceptedMarker u past'
    → Continues (run t past) (calls ++ later) → Continues (run u past') (calls ++ later) → Each Roomy (calls ++ later)
    → Forgotten (run t past) (run u past') calls later
forgetting t u past past' calls later gt gu e mt mu b b' h =
    let x = run t past in
    let y = run u past' in
    let set = walk_settings (run_walk t past mt.no_reset) ∙ e
    ∙ sym (walk_settings (run_walk u past' mu.no_reset)) in
    let st = marked t past gt mt in
    let su = marked u past' gu mu in
    let n = never_front x calls later b.never_ten in
    let n' = never_front y calls later b'.never_ten in
    let same : HasMet (took x calls) → counting (run x calls) (run y calls).packets ≡ run y calls =
    λ met. met_same x y set st su calls
    (record { begins = front x x calls later b.begins met; never_ten = n.0 })
    (record { begins = front y x calls later b'.begins met; never_ten = n'.0 })
    (each_front calls later h) met in
    let equal : HasMet (took x calls) → x.packets ≡ y.packets → run x calls ≡ run y calls =
    λ met even. ap (counting (run x calls)) (equally x y calls n.0 n'.0 even) ∙ same met in
    record {
      kinds_agree = (from_settled x y set st su (calls ++ later) b b' h).kinds_agree;
      trackers_agree = equal;
      answers_agree = λ met even. ap (λ (z : Tracker). answers z later) (equal met even);
      bare_agree = λ met. calls_bare (run x calls) (run y calls) later (same met) n.1 n'.1;
    }

-- Of trackers that the start and any calls gave.
pub forgetting_from_start : (s : Settings) (before before' past past' calls later : List Call)
    → AcceptedMarker (run (start_of s) before) past → AcceptedMarker (run (start_of s) before') past'
    → Continues (run (run (start_of s) before) past) (calls ++ later)
    → Continues (run (run (start_of s) before') past') (calls ++ later) → Each Roomy (calls ++ later)
    → Forgotten (run (run (start_of s) before) past) (run (run (start_of s) before') past') calls later
forgetting_from_start s before before' past past' calls later =
    forgetting (run (start_of s) before) (run (start_of s) before') past past' calls later
    (good_run (start_of s) before (good_start s)) (good_run (start_of s) before' (good_start s))
    (run_settings (start_of s) before ∙ sym (run_settings (start_of s) before'))
