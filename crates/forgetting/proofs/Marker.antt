-- After a marker: the three-way state, and no open frame.
-- Assumes nothing.
use mathlib.Core.Path.{◌≡◌, refl, sym, ap, ◌∙◌}
use mathlib.Core.Bool.{Bool, true, false}
use mathlib.Core.List.{List, [], ◌∷◌, ◌++◌, append_assoc, nil≢cons, cons≢nil}
use Rattle.words.specs.declared.Word.{Word}
use Rattle.payload_fsm.specs.declared.State.TheVariants as S
use Rattle.payload_fsm.specs.declared.ItsPayloadWord.TheVariants as K
use Rattle.payload_fsm.specs.declared.Advanced.{Advanced}
use Rattle.payload_fsm.specs.Step.{taken}
use Rattle.payload_fsm.specs.Settle.{TdtDone, state_after}
use Rattle.payload_fsm.proofs.Settle.{AmongData, marker_closes, closes, after_append}
use Rattle.stored.specs.Kept.{no_frame}
use Rattle.stored.proofs.Replace.{frame_closed}
use Rattle.cdp_running.specs.declared.Tracker.{Tracker}
use Rattle.cdp_running.specs.Tracker.{Good}
use Rattle.cdp_running.specs.Next.{next_tracker}
use Rattle.cdp_running.specs.Word.{taken_as, position_now}
use Rattle.cdp_running.proofs.Good.{good_accept, good_next}
use Rattle.forgetting.specs.Calls.{Call, run}
use Rattle.forgetting.specs.Forget.{AcceptedMarker}
use Rattle.forgetting.proofs.Walk.{Walk, here, accepts, takes, run_walk}

pub record Settled (t : Tracker) : Type 0 where
  pub state : t.at.fsm.state ≡ S.Three
  pub frame : t.frame ≡ no_frame

-- Packets leave it so.
rests : {t u : Tracker} {ws : List Word} → Walk t ws u → ws ≡ [] → Settled t → Settled u
rests here e s = s
rests (accepts p r few rest) e s = rests rest e (record { state = s.state; frame = s.frame })
rests (takes w have low rest) e s = absurd (cons≢nil e)

-- A TDT with packet done, where data is expected.
settles : (t : Tracker) (d : Word) → Good (next_tracker t (taken_as t d) d) → AmongData t.at.fsm.state → TdtDone d
    → Settled (next_tracker t (taken_as t d) d)
settles t d g data-state done =
    let is : taken_as t d ≡ taken K.Tdt S.Three = closes t.at.fsm.state d data-state done in
    record {
      state = ap (λ (a : Advanced). a.fsm.state) is;
      frame = at t.settings.frames refl is;
    }
  where
    at : (frames : Bool) → t.settings.frames ≡ frames → taken_as t d ≡ taken K.Tdt S.Three
        → (next_tracker t (taken_as t d) d).frame ≡ no_frame
    at true on is = rw (on, is) (frame_closed d (position_now t) t.frame done.done)
    at false off is = g.frame.absent (g.frame.off off)

-- Words, and then such a TDT as the last.
closing : {t u : Tracker} {zs : List Word} (ws : List Word) (d : Word) → Walk t zs u → zs ≡ ws ++ (d ∷ []) → Good t
    → AmongData (state_after t.at.fsm.state ws)
    → TdtDone d → Settled u
unfolding state_after
closing [] d here e g s done = absurd (nil≢cons e)
closing (w ∷ ws) d here e g s done = absurd (nil≢cons e)
closing ws d (accepts {t = t} p r few rest) e g s done = closing ws d rest e (good_accept t p g r few) s done
closing [] d (takes {t = t} {ws = zs} w have low rest) e g s done =
    let next = good_next t w g have low in
    let same : w ≡ d = cc in
    let none : zs ≡ [] = cc in
    rests rest none (settles t w next s (rw same done))
closing (x ∷ ws) d (takes {t = t} {ws = zs} w have low rest) e g s done =
    let same : x ≡ w = cc in
    let others : zs ≡ ws ++ (d ∷ []) = cc in
    closing ws d rest others (good_next t w g have low) (rw (sym same) s) done

pub marked : (t : Tracker) (calls : List Call) → Good t → AcceptedMarker t calls → Settled (run t calls)
marked t calls g m =
    let c = marker_closes m.is_marker in
    let front = m.earlier ++ c.front in
    let words = m.words ∙ ap (λ (ws : List Word). m.earlier ++ ws) c.is
    ∙ sym (append_assoc m.earlier c.front (c.last ∷ [])) in
    closing front c.last (run_walk t calls m.no_reset) words g
    (rw (after_append t.at.fsm.state m.earlier c.front)
    (c.among (state_after t.at.fsm.state m.earlier)))
    c.done
