-- Uniqueness: a check of a word says which rows it gives (the contract of every check in validators and tdh_validator), and the contract of `write`
-- determines the answer and the final buffer, also where nothing is written.
-- Assumes nothing.
use Rattle.std.proofs.Common.{ℕ, ◌≡◌, List, Result}
use Rattle.refusals.specs.declared.Refusal.{Refusal}
use Rattle.words.proofs.Unique.{unique}
use Rattle.records.specs.declared.Row.{Row}
use Rattle.records.specs.Records.{padded, WritePost}

pub rows_unique : (rows : List Row) {first second : List Row} → first ≡ padded rows → second ≡ padded rows
    → first ≡ second
rows_unique rows = unique

pub write_unique : {position packet : ℕ} {rows : List Row} {buffer after after' : List ℕ} {first second : Result ℕ Refusal}
    → WritePost position packet rows buffer first after → WritePost position packet rows buffer second after'
    → (first ≡ second) × (after ≡ after')
write_unique a b = (unique a.answer b.answer, unique a.buffer_is b.buffer_is)
