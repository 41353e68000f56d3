-- Laws of the exported functions: a tracker stays one, and a refusal writes nothing.
-- Assumes nothing.
use Prim.Native.Nat.{ℕ, zero, suc, ◌/◌, ◌%◌}
use mathlib.Core.Path.{◌≡◌, refl, sym, ap, subst, ◌∙◌}
use mathlib.Core.Bool.{Bool, true, false, cond}
use mathlib.Core.List.{List, []}
use native.Mathlib.Omega.{arith}
use lib.Dec.{eqb}
use lib.ListN.{length, take}
use borrow.Author.Tests.{eq-eqb}
use Rattle.packet.specs.declared.Packet.{Packet}
use Rattle.words.specs.Lists.{over}
use Rattle.records.specs.Records.{Record, flat, room}
use Rattle.cdp_running.specs.declared.Tracker.{Tracker}
use Rattle.cdp_running.specs.Told.{Refused}
use Rattle.cdp_running.specs.Tracker.{start_of, reset_of, packet_call}
use Rattle.cdp_running.specs.Word as Word
use Rattle.cdp_running.specs.Word.{Outcome, taken, refused, word_call}
use Rattle.cdp_running.proofs.Outcome.{packet_stays}
use Rattle.payload.specs.Payload.{Run, stop, words_from, payload_call}
use Rattle.payload.proofs.Run.{step_taken, step_refused}
use Rattle.tracker_array.specs.Array.{size, encode_of, IsTracker}
use Rattle.tracker_array.proofs.Laws.{Decided, is, none, decide}
use Rattle.in_place.proofs.Kept.{Kept, kept_start, kept_reset, kept_packet, kept_word, kept_payload}
use Rattle.khandzorul.specs.declared.WordNumbers.{WordNumbers}
use Rattle.khandzorul.specs.declared.PayloadNumbers.{PayloadNumbers}
use Rattle.khandzorul.specs.Answer.{no_tracker, no_settings, told_numbers}
use Rattle.khandzorul.specs.Calls.{Asked, are_settings, settings_from, StartOn, PacketOn, ResetOn, WordOn, PayloadOn}
use Rattle.khandzorul.proofs.Exports.{settings_fit}

-- The numbers of a tracker are that tracker.
again : {t : Tracker} {after : List ℕ} → after ≡ encode_of t → Kept t → IsTracker after t
again p k = record { numbers = p; good = k.0; sized = k.1 }

pub start_holds : (a : List ℕ) (s : Asked) {r : ℕ} {after : List ℕ} → StartOn a s r after → are_settings s ≡ true
    → length a ≡ size
    → IsTracker after (start_of (settings_from s))
start_holds a s w h l =
    again (simp (h, eq-eqb _ _ l) at w.tracker) (kept_start (settings_from s) (settings_fit s h))

module _ (a : List ℕ) (t : Tracker) (i : IsTracker a t) where
  kept : Kept t
  kept = (i.good, i.sized)

  pub packet_holds : (p : Packet) {r : ℕ} {after : List ℕ} → PacketOn a p r after
      → IsTracker after (packet_call t p).tracker
  packet_holds p w = again (w.tracker.is t i) (kept_packet t kept p)

  pub reset_holds : {r : ℕ} {after : List ℕ} → ResetOn a r after → IsTracker after (reset_of t)
  reset_holds w = again (w.tracker.is t i) (kept_reset t kept)

  pub word_holds : (bytes buffer : List ℕ) {r : WordNumbers} {after buffer-after : List ℕ}
      → WordOn a bytes buffer r after buffer-after
      → IsTracker after (Word.word_answer t (word_call t bytes (room buffer))).tracker
  word_holds bytes buffer w = again (w.tracker.is t i) (kept_word t kept bytes (room buffer))

  pub payload_holds : (bytes buffer : List ℕ) {r : PayloadNumbers} {after buffer-after : List ℕ}
      → PayloadOn a bytes buffer r after buffer-after
      → IsTracker after (payload_call t bytes (room buffer)).tracker
  payload_holds bytes buffer w = again (w.tracker.is t i) (kept_payload t bytes (room buffer) kept)

-- A refused start, packet or reset leaves the numbers as they were.
pub start_refused : (a : List ℕ) (s : Asked) {r : ℕ} {after : List ℕ} → StartOn a s r after → (r ≡ 0 → ⊥) → after ≡ a
start_refused a s {r} {after} w h = at (eqb (length a) size) (are_settings s) w.answer w.tracker
  where
    at : (long are : Bool) → r ≡ cond long (cond are 0 no_settings) no_tracker
        → after ≡ cond are (cond long (encode_of (start_of (settings_from s))) a) a
        → after ≡ a
    at true true p q = absurd (h p)
    at true false p q = q
    at false true p q = q
    at false false p q = q

pub packet_refused : (a : List ℕ) (p : Packet) {r : ℕ} {after : List ℕ} → PacketOn a p r after → (r ≡ 0 → ⊥) → after ≡ a
packet_refused a p {r} {after} w h = at (decide a)
  where
    at : Decided a → after ≡ a
    at (is t i) =
        w.tracker.is t i ∙ ap encode_of (packet_stays t p (λ e. h (w.answer.is t i ∙ e))) ∙ sym i.numbers
    at (none other) = w.tracker.none other

pub reset_refused : (a : List ℕ) {r : ℕ} {after : List ℕ} → ResetOn a r after → (r ≡ 0 → ⊥) → after ≡ a
reset_refused a {r} {after} w h = at (decide a)
  where
    at : Decided a → after ≡ a
    at (is t i) = absurd (h (w.answer.is t i))
    at (none other) = w.tracker.none other

-- A refused word leaves both arrays, and all other numbers of its answer are 0.
pub word_refused : (a bytes buffer : List ℕ) {r : WordNumbers} {after buffer-after : List ℕ}
    → WordOn a bytes buffer r after buffer-after → (r.refusal ≡ 0 → ⊥)
    → (after ≡ a) × ((buffer-after ≡ buffer) × (r ≡ told_numbers (Refused r.refusal)))
unfolding flat
word_refused a bytes buffer {r} {after} {buffer-after} w h = at (decide a)
  where
    numbers : (n : ℕ) → r ≡ told_numbers (Refused n) → r ≡ told_numbers (Refused r.refusal)
    numbers n p = p ∙ ap (λ (k : ℕ). told_numbers (Refused k)) (sym (ap (λ (x : WordNumbers). x.refusal) p))

    by : (t : Tracker) → IsTracker a t → (o : Outcome) → word_call t bytes (room buffer) ≡ o
        → (after ≡ a) × ((buffer-after ≡ buffer) × (r ≡ told_numbers (Refused r.refusal)))
    by t i (taken x) c = absurd (h (ap (λ (n : WordNumbers). n.refusal) (simp c at (w.answer.is t i))))
    by t i (refused n) c =
        ((simp c at (w.tracker.is t i)) ∙ sym i.numbers, (simp c at (w.buffer_is.is t i), numbers n (simp c at (w.answer.is t i))))

    at : Decided a → (after ≡ a) × ((buffer-after ≡ buffer) × (r ≡ told_numbers (Refused r.refusal)))
    at (is t i) = by t i (word_call t bytes (room buffer)) refl
    at (none other) = (w.tracker.none other, (w.buffer_is.none other, numbers no_tracker (w.answer.none other)))

-- Words of which none was taken leave the tracker and give no records.
Stays : Tracker → Run → Type 0
Stays t r = (r.tracker ≡ t) × (r.records ≡ [])

stopped : (t : Tracker) (n : ℕ) → Stays t (stop t n)
unfolding Stays
stopped t n = (refl, refl)

none_taken : (n : ℕ) (t : Tracker) (bytes : List ℕ) (places : ℕ) → (words_from n t bytes places).words ≡ 0
    → Stays t (words_from n t bytes places)
unfolding words_from
none_taken zero t bytes places z = stopped t 0
none_taken (suc n) t bytes places z = at (word_call t (take 10 bytes) places) refl
  where
    at : (o : Outcome) → word_call t (take 10 bytes) places ≡ o → Stays t (words_from (suc n) t bytes places)
    at (taken x) e =
        let some = ap (λ (r : Run). r.words) (step_taken n t bytes places e) in absurd (omega (arith, some, z))
    at (refused number) e = subst (Stays t) (sym (step_refused n t bytes places e)) (stopped t number)

none_paid : (t : Tracker) (bytes : List ℕ) (places : ℕ) → (payload_call t bytes places).words ≡ 0
    → Stays t (payload_call t bytes places)
unfolding payload_call
none_paid t bytes places = at (eqb (length bytes % 10) 0) t.accepted
  where
    at : (whole have : Bool) → (cond {A = Run} whole
        (cond have (words_from (length bytes / 10) t bytes places) (stop t 2)) (stop t 1)).words ≡ 0
        → Stays t (cond {A = Run} whole (cond have (words_from (length bytes / 10) t bytes places) (stop t 2))
        (stop t 1))
    at true true z = none_taken (length bytes / 10) t bytes places z
    at true false z = stopped t 2
    at false have z = stopped t 1

-- A payload that took no word leaves both arrays.
pub payload_refused : (a bytes buffer : List ℕ) {r : PayloadNumbers} {after buffer-after : List ℕ}
    → PayloadOn a bytes buffer r after buffer-after
    → r.words ≡ 0
    → (after ≡ a) × (buffer-after ≡ buffer)
unfolding flat Stays
payload_refused a bytes buffer {r} {after} {buffer-after} w z = at (decide a)
  where
    at : Decided a → (after ≡ a) × (buffer-after ≡ buffer)
    at (is t i) =
        let run = payload_call t bytes (room buffer) in
        let words = ap (λ (x : PayloadNumbers). x.words) (w.answer.is t i) in
        let stays = none_paid t bytes (room buffer) (sym words ∙ z) in
        (w.tracker.is t i ∙ ap encode_of stays.0 ∙ sym i.numbers, w.buffer_is.is t i ∙ ap (λ (l : List Record). over (flat l) buffer) stays.1)
    at (none other) = (w.tracker.none other, w.buffer_is.none other)
