-- What is read is stored: outside the start state an IHW was taken, and after TDH_ a TDH was. So no `unwrap` of the Rust meets a missing word.
-- Assumes nothing.
use mathlib.Core.Path.{◌≡◌, refl, sym}
use mathlib.Core.Bool.{true, ◌||◌, or-true, true≢false}
use Rattle.words.specs.declared.Word.{Word}
use Rattle.payload_fsm.specs.declared.State.{State}
use Rattle.payload_fsm.specs.declared.State.TheVariants as S
use Rattle.payload_fsm.specs.declared.ItsPayloadWord.TheVariants as K
use Rattle.payload_fsm.specs.declared.Advanced.{Advanced}
use Rattle.payload_fsm.specs.Kinds.{is_ihw, is_tdh, is_data}
use Rattle.payload_fsm.specs.Step.{advance_of}
use Rattle.cdp_running.specs.declared.Tracker.{Tracker}
use Rattle.cdp_running.specs.Tracker.{Good, past_ihw, past_tdh}
use Rattle.cdp_running.specs.Word.{taken_as}

-- A step out of the start state takes an IHW, and a step out of IHW_ and TDH_ a TDH.
pub record Comes (state : State) (a : Advanced) : Type 0 where
  pub ihw : past_ihw a.fsm.state ≡ true → (is_ihw a.word || past_ihw state) ≡ true
  pub tdh : past_tdh a.fsm.state ≡ true → (is_tdh a.word || past_tdh state) ≡ true

-- Where the state is after both already.
both : {state : State} {a : Advanced} → past_ihw state ≡ true → past_tdh state ≡ true → Comes state a
both {a = a} i h = record { ihw = λ _. rw i (or-true (is_ihw a.word)); tdh = λ _. rw h (or-true (is_tdh a.word)) }

pub comes : (state : State) (w : Word) → Comes state (advance_of state w)
comes S.Ihw w = record { ihw = λ _. refl; tdh = λ e. absurd (true≢false (sym e)) }
comes S.Tdh w = record { ihw = λ _. refl; tdh = λ _. refl }
comes S.Data w = both refl refl
comes S.CData w = both refl refl
comes S.Three w = both refl refl
comes S.CIhw w = both refl refl
comes S.CTdh w = both refl refl

-- A data word is taken after an IHW, and a TDH that is compared with the previous one after a TDH.
pub record Reads (state : State) (a : Advanced) : Type 0 where
  pub data_word : is_data a.word ≡ true → past_ihw state ≡ true
  pub after_packet_done : a.word ≡ K.TdhAfterPacketDone → past_tdh state ≡ true
  pub continuation : a.word ≡ K.TdhContinuation → past_tdh state ≡ true

all_after : {state : State} {a : Advanced} → past_ihw state ≡ true → past_tdh state ≡ true → Reads state a
all_after i h = record { data_word = λ _. i; after_packet_done = λ _. h; continuation = λ _. h }

pub read : (state : State) (w : Word) → Reads state (advance_of state w)
read S.Ihw w =
    record { data_word = λ e. absurd (true≢false (sym e)); after_packet_done = λ e. cc; continuation = λ e. cc }
read S.Tdh w =
    record { data_word = λ e. absurd (true≢false (sym e)); after_packet_done = λ e. cc; continuation = λ e. cc }
read S.Data w = all_after refl refl
read S.CData w = all_after refl refl
read S.Three w = all_after refl refl
read S.CIhw w = all_after refl refl
read S.CTdh w = all_after refl refl

-- The Rust's unwraps: `status_words.ihw().unwrap()` at a data word, `status_words.prv_tdh()` at a TDH that is compared with the previous one.
pub record Unwraps (t : Tracker) (w : Word) : Type 0 where
  pub ihw : is_data (taken_as t w).word ≡ true → t.stored.ihw.present ≡ true
  pub previous_after_packet_done : (taken_as t w).word ≡ K.TdhAfterPacketDone → t.stored.tdh.present ≡ true
  pub previous_continuation : (taken_as t w).word ≡ K.TdhContinuation → t.stored.tdh.present ≡ true

pub unwraps : (t : Tracker) → Good t → (w : Word) → Unwraps t w
unwraps t g w =
    let r = read t.at.fsm.state w in
    record {
      ihw = λ e. g.ihw_present (r.data_word e);
      previous_after_packet_done = λ e. g.tdh_present (r.after_packet_done e);
      previous_continuation = λ e. g.tdh_present (r.continuation e);
    }
