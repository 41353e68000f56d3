-- What a word stores is the tracker after it.
use Prim.Native.Nat.{◌+◌}
use mathlib.Core.Path.{◌≡◌, refl}
use mathlib.Core.Bool.{Bool}
use Rattle.words.specs.declared.Word.{Word}
use Rattle.payload_fsm.specs.declared.ItsPayloadWord.{ItsPayloadWord}
use Rattle.payload_fsm.specs.declared.ItsPayloadWord.TheVariants as K
use Rattle.payload_fsm.specs.declared.State.{State}
use Rattle.payload_fsm.specs.declared.Advanced.{Advanced}
use Rattle.cdp_running.specs.declared.Tracker.{Tracker}
use Rattle.cdp_running.specs.Next.{next_tracker}
use Rattle.cdp_running.specs.Word.{position_now}
use Rattle.tracker_memory.specs.Memory.{with_at, stores_of}

by_kind : (t : Tracker) (w : Word) (kind : ItsPayloadWord) (g : Bool) (s : State)
    → stores_of kind w (position_now t) (with_at t s (t.at.count + 1)) ≡ next_tracker t (record { word = kind; guessed = g; fsm = record { state = s } }) w
by_kind t w K.Ihw g s = refl
by_kind t w K.IhwContinuation g s = refl
by_kind t w K.Tdh g s = refl
by_kind t w K.TdhAfterPacketDone g s = refl
by_kind t w K.TdhContinuation g s = refl
by_kind t w K.DataWord g s = refl
by_kind t w K.Cdw g s = refl
by_kind t w K.Tdt g s = refl
by_kind t w K.Ddw0 g s = refl

pub stores_next : (t : Tracker) (a : Advanced) (w : Word)
    → stores_of a.word w (position_now t) (with_at t a.fsm.state (t.at.count + 1)) ≡ next_tracker t a w
stores_next t a w = by_kind t w a.word a.guessed a.fsm.state
