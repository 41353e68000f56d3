-- Every call on a tracker that numbers can stand for gives such a tracker again, so that its numbers are a tracker's.
-- Assumes nothing.
use Prim.Native.Nat.{ℕ, zero, suc, ◌/◌, ◌%◌, ◌<◌, ◌^◌}
use mathlib.Core.Path.{◌≡◌, refl, sym, subst}
use mathlib.Core.Bool.{◌&&◌}
use mathlib.Core.List.{List}
use native.Mathlib.Omega.{arith}
use lib.Dec.{eqb}
use lib.ListN.{length, take}
use Rattle.words.specs.declared.Word.{Word}
use Rattle.words.specs.Word.{word_of}
use Rattle.words.specs.Tdh.{internal_trigger}
use Rattle.words.proofs.Bits.{bits_below}
use Rattle.packet.specs.declared.Settings.{Settings}
use Rattle.packet.specs.declared.Packet.{Packet}
use Rattle.packet.specs.Settings.{period_of}
use Rattle.payload_fsm.specs.Kinds.{is_tdh}
use Rattle.payload_fsm.proofs.Rows.{choice}
use Rattle.stored.specs.declared.StoredTdh.{StoredTdh}
use Rattle.stored.specs.declared.InternalTdh.{InternalTdh}
use Rattle.cdp_running.specs.declared.Tracker.{Tracker}
use Rattle.cdp_running.specs.Told.{PacketAnswer}
use Rattle.cdp_running.specs.Tracker.{Good, start_of, reset_of, packet_call}
use Rattle.cdp_running.specs.Word as Word
use Rattle.cdp_running.specs.Word.{Outcome, taken, refused, taken_as, word_call}
use Rattle.cdp_running.specs.Next.{next_tracker}
use Rattle.cdp_running.proofs.Good.{good_start, good_reset, good_accept, good_next}
use Rattle.cdp_running.proofs.Outcome.{packet_cases, taken_admitted, next_is}
use Rattle.payload.specs.Payload.{Run, words_from, payload_call}
use Rattle.payload.proofs.Run.{step_taken, step_refused}
use Rattle.tracker_array.specs.Array.{encode_of, Sized}
use Rattle.tracker_array.specs.Good.{GoodArray}
use Rattle.tracker_array.proofs.Laws.{good_again}

abbrev pub Kept : Tracker → Type 0
Kept t = Good t × Sized t

pub kept_start : (s : Settings) → period_of s < 2 ^ 32 → Kept (start_of s)
kept_start s h = (good_start s, record { period = h; orbit = omega arith; internal_orbit = omega arith })

-- The orbit of a TDH has 32 bits.
pub sized_next : (t : Tracker) (w : Word) → Sized t → Sized (next_tracker t (taken_as t w) w)
sized_next t w s =
    let tdh = is_tdh (taken_as t w).word in
    record {
      period = s.period;
      orbit = choice (λ (h : StoredTdh). h.orbit < 2 ^ 32) tdh (bits_below 63 32 w) s.orbit;
      internal_orbit =
          choice (λ (i : InternalTdh). i.orbit < 2 ^ 32) (tdh && eqb (internal_trigger w) 1) (bits_below 63 32 w)
          s.internal_orbit;
    }

module _ (t : Tracker) (k : Kept t) where
  pub kept_reset : Kept (reset_of t)
  kept_reset =
      (good_reset t k.0, record { period = k.1.period; orbit = k.1.orbit; internal_orbit = k.1.internal_orbit })

  pub kept_packet : (p : Packet) → Kept (packet_call t p).tracker
  kept_packet p =
      packet_cases (λ (r : PacketAnswer). Kept r.tracker) t p
      (λ e h. (
        good_accept t p k.0 e h,
        record { period = k.1.period; orbit = k.1.orbit; internal_orbit = k.1.internal_orbit },
      ))
      k k

  pub kept_taken : (bytes : List ℕ) (places : ℕ) (o : Outcome) → word_call t bytes places ≡ o
      → Kept (Word.word_answer t o).tracker
  kept_taken bytes places (taken x) e =
      let w = word_of bytes in
      let a = taken_admitted t bytes places e in
      subst Kept (sym (next_is t bytes places e)) (good_next t w k.0 a.accepted a.low, sized_next t w k.1)
  kept_taken bytes places (refused n) e = k

  pub kept_word : (bytes : List ℕ) (places : ℕ) → Kept (Word.word_answer t (word_call t bytes places)).tracker
  kept_word bytes places = kept_taken bytes places (word_call t bytes places) refl

kept_words : (n : ℕ) (t : Tracker) (bytes : List ℕ) (places : ℕ) → Kept t → Kept (words_from n t bytes places).tracker
unfolding words_from
kept_words zero t bytes places k = k
kept_words (suc n) t bytes places k = at (word_call t (take 10 bytes) places) refl (kept_words n)
  where
    at : (o : Outcome) → word_call t (take 10 bytes) places ≡ o
        → ((u : Tracker) (b : List ℕ) (p : ℕ) → Kept u → Kept (words_from n u b p).tracker)
        → Kept (words_from (suc n) t bytes places).tracker
    at (taken x) e more =
        subst (λ (r : Run). Kept r.tracker) (sym (step_taken n t bytes places e))
        (more x.next _ _ (kept_taken t k (take 10 bytes) places _ e))
    at (refused number) e more = subst (λ (r : Run). Kept r.tracker) (sym (step_refused n t bytes places e)) k

pub kept_payload : (t : Tracker) (bytes : List ℕ) (places : ℕ) → Kept t → Kept (payload_call t bytes places).tracker
unfolding payload_call
kept_payload t bytes places k =
    choice (λ (r : Run). Kept r.tracker) (eqb (length bytes % 10) 0)
    (choice (λ (r : Run). Kept r.tracker) t.accepted (kept_words (length bytes / 10) t bytes places k) k)
    k

-- Its numbers meet the invariant of an array.
pub good_after : {t : Tracker} {after : List ℕ} → after ≡ encode_of t → Kept t → GoodArray after
good_after {t} e k = subst GoodArray (sym e) (good_again t k.0 k.1)
