-- Uniqueness: the contracts determine the answer and the final buffer, of refused calls too; and what a call gives is known by what it says in numbers.
-- Assumes nothing.
use Rattle.std.proofs.Common.{ℕ, ◌≡◌, sym, ap, List, Result, Ok, Err}
use Rattle.refusals.specs.declared.Refusal.{Refusal}
use Rattle.refusals.proofs.Numbers.{same_number, no_none}
use Rattle.words.proofs.Unique.{unique}
use Rattle.packet.specs.declared.Packet.{Packet}
use Rattle.packet.specs.declared.Settings.{Settings}
use Rattle.cdp_running.specs.declared.Tracker.{Tracker}
use Rattle.cdp_running.specs.declared.Taken as D
use Rattle.cdp_running.specs.Told.{Told, Taken, Refused, WordAnswer, PacketAnswer, told_by, word_answered, packet_answered}
use Rattle.cdp_running.specs.Tracker.{Good, start_of, reset_of, PacketPost}
use Rattle.cdp_running.specs.Word.{WordPost}

pub start_unique : (s : Settings) {first second : Tracker} → (first ≡ start_of s) × Good first → (second ≡ start_of s)
    × Good second → first ≡ second
start_unique s a b = unique a.0 b.0

pub reset_unique : (t : Tracker) {first second : Tracker} → (first ≡ reset_of t) × Good first → (second ≡ reset_of t)
    × Good second → first ≡ second
reset_unique t a b = unique a.0 b.0

pub packet_unique : {t : Tracker} {p : Packet} {first second : PacketAnswer} → PacketPost t p first
    → PacketPost t p second → first ≡ second
packet_unique a b = unique a.answer b.answer

pub word_unique : {t : Tracker} {bytes buffer after after' : List ℕ} {first second : WordAnswer}
    → WordPost t bytes buffer first after
    → WordPost t bytes buffer second after'
    → (first ≡ second) × (after ≡ after')
word_unique a b = (unique a.answer b.answer, unique a.buffer_is b.buffer_is)

-- The refusal that is told, and the word that was taken.
abbrev refusal_in : Told → ℕ
refusal_in (Taken x) = 0
refusal_in (Refused n) = n

abbrev taken_in : D.Taken → Told → D.Taken
taken_in d (Taken x) = x
taken_in d (Refused n) = d

pub same_told : (a b : Result D.Taken Refusal) → told_by a ≡ told_by b → a ≡ b
same_told (Ok x) (Ok y) h = ap (λ (s : Told). Ok (taken_in x s)) h
same_told (Ok x) (Err s) h = absurd (no_none s (ap refusal_in h))
same_told (Err r) (Ok y) h = absurd (no_none r (sym (ap refusal_in h)))
same_told (Err r) (Err s) h = ap Err (same_number r s (ap refusal_in h))

pub same_word : (t : Tracker) (a b : Result (Tracker × D.Taken) Refusal) → word_answered t a ≡ word_answered t b → a ≡ b
same_word t (Ok x) (Ok y) h = ap (λ (r : WordAnswer). Ok (r.tracker, taken_in x.1 r.told)) h
same_word t (Ok x) (Err s) h = absurd (no_none s (ap (λ (r : WordAnswer). refusal_in r.told) h))
same_word t (Err r) (Ok y) h = absurd (no_none r (sym (ap (λ (r : WordAnswer). refusal_in r.told) h)))
same_word t (Err r) (Err s) h = ap Err (same_number r s (ap (λ (r : WordAnswer). refusal_in r.told) h))

pub same_packet : (t : Tracker) (a b : Result Tracker Refusal) → packet_answered t a ≡ packet_answered t b → a ≡ b
same_packet t (Ok x) (Ok y) h = ap (λ (r : PacketAnswer). Ok r.tracker) h
same_packet t (Ok x) (Err s) h = absurd (no_none s (ap (λ (r : PacketAnswer). r.refusal) h))
same_packet t (Err r) (Ok y) h = absurd (no_none r (sym (ap (λ (r : PacketAnswer). r.refusal) h)))
same_packet t (Err r) (Err s) h = ap Err (same_number r s (ap (λ (r : PacketAnswer). r.refusal) h))
