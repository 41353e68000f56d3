-- Runs of quiet data words: what they do to the run of the words after them.
-- Assumes nothing.
use Prim.Native.Nat.{ℕ, zero, suc, ◌+◌, ◌-◌, ◌*◌, ◌/◌, ◌<◌, ◌≤◌}
use mathlib.Core.Path.{◌≡◌, sym, ap, ◌∙◌}
use mathlib.Core.Bool.{true, true≢false}
use mathlib.Core.List.{List, []}
use native.Mathlib.Nat.{zero-add, add-zero, suc-add}
use native.Mathlib.Numerals.{one-add}
use native.Mathlib.Omega.{arith}
use lib.ListN.{length, get_or, take, drop, length-drop}
use lib.Seq.{length-take-le, drop-drop}
use Rattle.words.specs.Word.{id_of, word_of}
use Rattle.words.proofs.Load.{id_at_lem}
use Rattle.packet.specs.Packet.{max_words}
use Rattle.payload_fsm.specs.Step.{among_data}
use Rattle.cdp_running.specs.declared.Tracker.{Tracker}
use Rattle.cdp_running.specs.Tracker.{Good}
use Rattle.payload.specs.Payload.{preceded, words_from}
use Rattle.payload.proofs.Run.{preceded_twice, silent_step}
use Rattle.payload.specs.Quiet.{quiet_id, checked_lanes, id_at}
use Rattle.payload.proofs.QuietId.{quiet_next, quiet_silent, quiet_next_lem}

-- The invariant after quiet data words.
pub good_quiet : (t : Tracker) (n : ℕ) → Good t → t.accepted ≡ true → t.at.count + n ≤ max_words
    → Good (quiet_next t n)
good_quiet t n g have h =
    record {
      packet = g.packet;
      count = h;
      stored = g.stored;
      frame = g.frame;
      ihw_present = g.ihw_present;
      tdh_present = g.tdh_present;
      fresh = λ e. absurd (true≢false (sym have ∙ e));
      counted = g.counted;
      few = g.few;
    }

-- The lanes whose data words are quiet.
abbrev asked : Tracker → ℕ
asked t = checked_lanes t.settings.running t.stored.ihw.lanes

module _ (b : List ℕ) (byte : (i : ℕ) → get_or b i 0 < 256) where
  -- The word at a place.
  whole_word : (at : ℕ) → at + 10 ≤ length b → length (take 10 (drop at b)) ≡ 10
  whole_word at h = length-take-le 10 (drop at b) (simp length-drop (omega arith))

  -- One quiet data word.
  data_step : (n at : ℕ) (t : Tracker) (places : ℕ) → at + 10 ≤ length b → t.accepted ≡ true → t.at.count < max_words
      → among_data t.at.fsm.state ≡ true
      → quiet_id (asked t) (get_or b (at + 9) 0) ≡ true
      → words_from (suc n) t (drop at b) places ≡ preceded 1 [] (words_from n (quiet_next t 1) (drop (at + 10) b) places)
  data_step n at t places fits have low among quiet =
      let w = word_of (take 10 (drop at b)) in
      let q : quiet_id (asked t) (id_of w) ≡ true =
      ap (quiet_id (asked t)) (id_at_lem b at fits byte) ∙ quiet in
      silent_step n t (drop at b) places (whole_word at fits) have low (quiet_silent t w among q)
      ∙ (λ i. preceded 1 [] (words_from n (quiet_next_lem t w among q i) (drop-drop 10 at b i) places))

  -- One more than n of them.
  data_steps : (n m at : ℕ) (t : Tracker) (places : ℕ) → at + 10 * suc n ≤ length b → t.accepted ≡ true
      → t.at.count + suc n ≤ max_words
      → among_data t.at.fsm.state ≡ true
      → ((i : ℕ) → i < suc n → quiet_id (asked t) (id_at b at i) ≡ true)
      → words_from (suc (n + m)) t (drop at b) places ≡ preceded (suc n) []
      (words_from m (quiet_next t (suc n)) (drop (at + 10 * suc n) b) places)
  data_steps zero m at t places fits have low among each =
      data_step (0 + m) at t places (omega arith) have (omega arith) among
      (ap (λ (j : ℕ). quiet_id (asked t) (get_or b (j + 9) 0)) (sym (add-zero at)) ∙ each 0 (omega arith))
      ∙ ap (λ (j : ℕ). preceded 1 [] (words_from j (quiet_next t 1) (drop (at + 10) b) places)) (zero-add m)
  data_steps (suc n) m at t places fits have low among each =
      let u = quiet_next t 1 in
      let more : suc n + m ≡ suc (n + m) = suc-add n m in
      let place : at + 10 + 10 * suc n ≡ at + 10 * suc (suc n) = omega arith in
      let many : t.at.count + 1 + suc n ≡ t.at.count + suc (suc n) = omega arith in
      data_step (suc n + m) at t places (omega arith) have (omega arith) among
      (ap (λ (j : ℕ). quiet_id (asked t) (get_or b (j + 9) 0)) (sym (add-zero at)) ∙ each 0 (omega arith))
      ∙ ap (λ (j : ℕ). preceded 1 [] (words_from j u (drop (at + 10) b) places)) more
      ∙ ap (preceded 1 []) (data_steps n m (at + 10) u places (omega arith) have (omega arith) among
      (λ i h. further i ∙ each (suc i) (omega arith)))
      ∙ preceded_twice 1 (suc n) [] [] (words_from m (quiet_next u (suc n)) (drop (at + 10 + 10 * suc n) b) places)
      ∙ (λ i. preceded (1 + suc n) [] (words_from m (record {
        settings = t.settings;
        accepted = t.accepted;
        packets = t.packets;
        packet = t.packet;
        at = record { fsm = t.at.fsm; count = many i; seen = true };
        stored = t.stored;
        frame = t.frame;
      }) (drop (place i) b) places))
      ∙ ap (λ (k : ℕ). preceded k [] (words_from m (quiet_next t (suc (suc n))) (drop (at + 10 * suc (suc n)) b) places))
      (one-add (suc n))
    where
      further : (i : ℕ) → quiet_id (asked t) (id_at b (at + 10) i) ≡ quiet_id (asked t) (id_at b at (suc i))
      further i =
          let same : at + 10 + 10 * i + 9 ≡ at + 10 * suc i + 9 = omega arith in
          ap (λ (j : ℕ). quiet_id (asked t) (get_or b j 0)) same

  -- A run of quiet data words: what it does to the run of the words after it, whatever room there is.
  pub quiet_runs : (t : Tracker) (at n : ℕ) → t.accepted ≡ true → at + 10 * suc n ≤ length b
      → t.at.count + suc n ≤ max_words
      → among_data t.at.fsm.state ≡ true
      → ((i : ℕ) → i < suc n → quiet_id (asked t) (id_at b at i) ≡ true) → (places : ℕ)
      → words_from ((length b - at) / 10) t (drop at b) places
      ≡ preceded (suc n) [] (words_from ((length b - (at + 10 * suc n)) / 10) (quiet_next t (suc n))
      (drop (at + 10 * suc n) b) places)
  quiet_runs t at n have fits room among each places =
      let left : (length b - at) / 10 ≡ suc (n + (length b - (at + 10 * suc n)) / 10) = omega arith in
      ap (λ (k : ℕ). words_from k t (drop at b) places) left
      ∙ data_steps n ((length b - (at + 10 * suc n)) / 10) at t places fits have room among each
