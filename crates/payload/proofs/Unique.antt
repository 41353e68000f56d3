-- Uniqueness: the contract of `payload`, by value and in any memory, determines the answer, the tracker and the final buffer, of refused calls too.
-- Assumes nothing.
use Rattle.std.proofs.Common.{ℕ, ◌≡◌, sym, ap, List, Option, None, Some, refl}
use Rattle.refusals.specs.declared.Refusal.{Refusal}
use Rattle.refusals.specs.Refusals.{code_if}
use Rattle.refusals.proofs.Numbers.{same_number, no_none}
use Rattle.words.proofs.Unique.{unique}
use Rattle.cdp_running.specs.declared.Tracker.{Tracker}
use Rattle.payload.specs.declared.PayloadAnswer as A
use Rattle.payload.specs.declared.PayloadTold as D
use Rattle.payload.specs.Answer.{PayloadAnswer, PayloadTold, payload_answered, payload_told_by}
use Rattle.payload.specs.Payload.{PayloadPost}

pub payload_unique : {t : Tracker} {bytes buffer after after' : List ℕ} {first second : PayloadAnswer}
    → PayloadPost t bytes buffer first after
    → PayloadPost t bytes buffer second after'
    → (first ≡ second) × (after ≡ after')
payload_unique a b = (unique a.answer b.answer, unique a.buffer_is b.buffer_is)

pub told_unique : {t u v : Tracker} {bytes buffer after after' : List ℕ} {first second : PayloadTold}
    → PayloadPost t bytes buffer (record { tracker = u; words = first.words; records = first.records; refusal = first.refusal }) after
    → PayloadPost t bytes buffer (record { tracker = v; words = second.words; records = second.records; refusal = second.refusal }) after'
    → (first ≡ second) × ((u ≡ v) × (after ≡ after'))
told_unique a b =
    let same = unique a.answer b.answer in (
      ap (λ (r : PayloadAnswer). record { words = r.words; records = r.records; refusal = r.refusal }) same,
      (ap (λ (r : PayloadAnswer). r.tracker) same, unique a.buffer_is b.buffer_is),
    )

-- What a payload call gives is known by what it says in numbers.
same_refusal : (a b : Option Refusal) → code_if a ≡ code_if b → a ≡ b
same_refusal None None h = refl
same_refusal None (Some s) h = absurd (no_none s h)
same_refusal (Some r) None h = absurd (no_none r (sym h))
same_refusal (Some r) (Some s) h = ap Some (same_number r s h)

pub same_answer : (a b : A.PayloadAnswer) → payload_answered a ≡ payload_answered b → a ≡ b
same_answer a b h =
    let refusals = same_refusal a.refusal b.refusal (ap (λ (r : PayloadAnswer). r.refusal) h) in
    λ i. record { tracker = (h i).tracker; words = (h i).words; records = (h i).records; refusal = refusals i }

pub same_paid : (a b : D.PayloadTold) → payload_told_by a ≡ payload_told_by b → a ≡ b
same_paid a b h =
    let refusals = same_refusal a.refusal b.refusal (ap (λ (r : PayloadTold). r.refusal) h) in
    λ i. record { words = (h i).words; records = (h i).records; refusal = refusals i }
