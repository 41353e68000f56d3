-- Uniqueness: the contracts of the calls determine the answer and the buffer.
-- Assumes nothing.
use Rattle.std.proofs.Common.{ℕ, ◌≡◌, sym, ap, List, Result, Ok, Err}
use Rattle.refusals.specs.declared.Refusal.{Refusal}
use Rattle.refusals.proofs.Numbers.{same_number, no_none}
use Rattle.words.proofs.Unique.{unique}
use Rattle.packet.specs.declared.Packet.{Packet}
use Rattle.bench_writer.specs.declared.Draft.{Draft}
use Rattle.bench_writer.specs.Draft.{Added, told, AddPost, AddPacketPost, AddWordPost, FinishPost}

-- A call's answer is known by the refusal and the draft that it tells.
pub same_told : (d : Draft) (r r' : Result Draft Refusal) → told d r ≡ told d r' → r ≡ r'
same_told d (Ok x) (Ok y) h = ap (λ (a : Added). Ok a.draft) h
same_told d (Ok x) (Err s) h = absurd (no_none s (ap (λ (a : Added). a.refusal) h))
same_told d (Err s) (Ok y) h = absurd (no_none s (sym (ap (λ (a : Added). a.refusal) h)))
same_told d (Err s) (Err s') h = ap Err (same_number s s' (ap (λ (a : Added). a.refusal) h))

pub added_unique : {refusal : ℕ} {d next : Draft} {buffer added : List ℕ} {r r' : Added} {after after' : List ℕ}
    → AddPost refusal d next buffer added r after
    → AddPost refusal d next buffer added r' after'
    → (r ≡ r') × (after ≡ after')
added_unique a b =
    let refusals = unique a.answer b.answer in
    let drafts = unique a.draft_is b.draft_is in
    (λ i. record { refusal = refusals i; draft = drafts i }, unique a.buffer_is b.buffer_is)

pub add_packet_unique : (d : Draft) (p : Packet) (buffer : List ℕ) {r r' : Result Draft Refusal} {after after' : List ℕ}
    → AddPacketPost d p buffer r after
    → AddPacketPost d p buffer r' after'
    → (r ≡ r') × (after ≡ after')
add_packet_unique d p buffer {r} {r'} a b = let both = added_unique a b in (same_told d r r' both.0, both.1)

pub add_word_unique : (d : Draft) (w buffer : List ℕ) {r r' : Result Draft Refusal} {after after' : List ℕ} → AddWordPost d w buffer r after
    → AddWordPost d w buffer r' after'
    → (r ≡ r') × (after ≡ after')
add_word_unique d w buffer {r} {r'} a b = let both = added_unique a b in (same_told d r r' both.0, both.1)

pub finish_unique : {d : Draft} {buffer : List ℕ} {n n' : ℕ} {after after' : List ℕ} → FinishPost d buffer n after
    → FinishPost d buffer n' after'
    → (n ≡ n') × (after ≡ after')
finish_unique a b = (unique a.length_is b.length_is, unique a.buffer_is b.buffer_is)
