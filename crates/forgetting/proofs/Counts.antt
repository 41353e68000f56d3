-- The count of packets after calls: what it was before, and one for each packet that the calls accepted.
-- Assumes nothing.
use Prim.Native.Nat.{ℕ, zero, suc, ◌+◌, ◌/◌, ◌%◌}
use mathlib.Core.Path.{◌≡◌, refl, sym, ap, ◌∙◌}
use mathlib.Core.Bool.{Bool, true, false, cond}
use mathlib.Core.List.{List, [], ◌∷◌}
use native.Mathlib.Nat.{zero-add, add-zero, add_assoc}
use lib.Dec.{eqb}
use lib.ListN.{length, take}
use Rattle.packet.specs.declared.Settings.{Settings}
use Rattle.packet.specs.declared.Packet.{Packet}
use Rattle.packet.specs.Packet.{in_range}
use Rattle.payload_fsm.proofs.Rows.{choice}
use Rattle.records.specs.Records.{room}
use Rattle.cdp_running.specs.declared.Tracker.{Tracker}
use Rattle.cdp_running.specs.Told.{PacketAnswer}
use Rattle.cdp_running.specs.Tracker.{start_of, packet_call}
use Rattle.cdp_running.specs.Word as Word
use Rattle.cdp_running.specs.Word.{Outcome, taken, refused, word_call}
use Rattle.cdp_running.proofs.Outcome.{packet_cases, by_range, packet_not_ten, next_is}
use Rattle.payload.specs.Payload.{Run, words_from, payload_call}
use Rattle.payload.proofs.Run.{step_taken, step_refused}
use Rattle.forgetting.specs.Calls.{Call, packet, word, payload, reset, after, run, answers, accepted_in}
use Rattle.forgetting.specs.Forget.{NeverTen}

-- Words leave the count.
word_count : (t : Tracker) (b : List ℕ) (places : ℕ) (o : Outcome) → word_call t b places ≡ o
    → (Word.word_answer t o).tracker.packets ≡ t.packets
word_count t b places (taken x) e = ap (λ (y : Tracker). y.packets) (next_is t b places e)
word_count t b places (refused n) e = refl

words_count : (n : ℕ) (t : Tracker) (b : List ℕ) (places : ℕ) → (words_from n t b places).tracker.packets ≡ t.packets
unfolding words_from
words_count zero t b places = refl
words_count (suc n) t b places = at (word_call t (take 10 b) places) refl (words_count n)
  where
    at : (o : Outcome) → word_call t (take 10 b) places ≡ o
        → ((next : Tracker) (l : List ℕ) (p : ℕ) → (words_from n next l p).tracker.packets ≡ next.packets)
        → (words_from (suc n) t b places).tracker.packets ≡ t.packets
    at (taken x) e more =
        ap (λ (r : Run). r.tracker.packets) (step_taken n t b places e) ∙ more x.next _ _
        ∙ word_count t (take 10 b) places (taken x) e
    at (refused number) e more = ap (λ (r : Run). r.tracker.packets) (step_refused n t b places e)

payload_count : (t : Tracker) (b : List ℕ) (places : ℕ) → (payload_call t b places).tracker.packets ≡ t.packets
unfolding payload_call
payload_count t b places =
    let Stays : Run → Type 0 = λ r. r.tracker.packets ≡ t.packets in
    choice Stays (eqb (length b % 10) 0) (choice Stays t.accepted (words_count (length b / 10) t b places) refl) refl

packet_count : (t : Tracker) (p : Packet)
    → (packet_call t p).tracker.packets ≡ t.packets + cond (eqb (packet_call t p).refusal 0) 1 0
packet_count t p =
    packet_cases (λ (r : PacketAnswer). r.tracker.packets ≡ t.packets + cond (eqb r.refusal 0) 1 0) t p
    (λ e h. refl) (sym (add-zero t.packets)) (sym (add-zero t.packets))

-- After any calls.
pub packets_counted : (t : Tracker) (calls : List Call) → (run t calls).packets ≡ t.packets + accepted_in (answers t calls)
unfolding run answers accepted_in
packets_counted t [] = sym (add-zero t.packets)
packets_counted t (packet p ∷ calls) =
    let u = (packet_call t p).tracker in
    packets_counted u calls ∙ ap (λ (n : ℕ). n + accepted_in (answers u calls)) (packet_count t p)
    ∙ add_assoc t.packets (cond (eqb (packet_call t p).refusal 0) 1 0) (accepted_in (answers u calls))
packets_counted t (word b buffer ∷ calls) =
    let o = word_call t b (room buffer) in
    let u = (Word.word_answer t o).tracker in
    packets_counted u calls ∙ ap (λ (n : ℕ). n + accepted_in (answers u calls)) (word_count t b (room buffer) o refl)
packets_counted t (payload b buffer ∷ calls) =
    let u = (payload_call t b (room buffer)).tracker in
    packets_counted u calls ∙ ap (λ (n : ℕ). n + accepted_in (answers u calls)) (payload_count t b (room buffer))
packets_counted t (reset ∷ calls) = packets_counted (after t reset) calls

-- 02, ticket 7: "the count of packets accepted since the start".
pub count_from_start : (s : Settings) (calls : List Call) → (run (start_of s) calls).packets ≡ accepted_in (answers (start_of s) calls)
count_from_start s calls = packets_counted (start_of s) calls ∙ zero-add (accepted_in (answers (start_of s) calls))

-- Where neither meets 10, two trackers accept the same of equal packets.
accepted_alike : (t u : Tracker) (calls : List Call) → NeverTen t calls → NeverTen u calls
    → accepted_in (answers t calls) ≡ accepted_in (answers u calls)
unfolding answers accepted_in
accepted_alike t u [] n n' = refl
accepted_alike t u (packet p ∷ calls) (ten, n) (ten', n') =
    let one : (packet_call t p).refusal ≡ (packet_call u p).refusal = by_range_lem t ten ∙ sym (by_range_lem u ten') in
    let more = accepted_alike (after t (packet p)) (after u (packet p)) calls n n' in
    λ i. cond (eqb (one i) 0) 1 0 + more i
  where
    by_range_lem : (x : Tracker) → ((packet_call x p).refusal ≡ 10 → ⊥) → (packet_call x p).refusal ≡ cond (in_range p) 0 5
    by_range_lem x never = ap (λ (r : PacketAnswer). r.refusal) (packet_not_ten x p never) ∙ at (in_range p)
      where
        at : (ok : Bool) → (by_range ok x p).refusal ≡ cond ok 0 5
        at true = refl
        at false = refl
accepted_alike t u (word b buffer ∷ calls) n n' = accepted_alike (after t (word b buffer)) (after u (word b buffer)) calls n.1 n'.1
accepted_alike t u (payload b buffer ∷ calls) n n' =
    accepted_alike (after t (payload b buffer)) (after u (payload b buffer)) calls n.1 n'.1
accepted_alike t u (reset ∷ calls) n n' = accepted_alike (after t reset) (after u reset) calls n.1 n'.1

-- So equal counts stay equal.
pub equally : (t u : Tracker) (calls : List Call) → NeverTen t calls → NeverTen u calls → t.packets ≡ u.packets
    → (run t calls).packets ≡ (run u calls).packets
equally t u calls n n' even =
    let alike = accepted_alike t u calls n n' in
    packets_counted t calls ∙ (λ i. even i + alike i) ∙ sym (packets_counted u calls)
