-- Uniqueness: the contracts of the writer determine the answer and the slice.
-- Assumes nothing.
use Rattle.std.proofs.Common.{ℕ, ◌≡◌, Bool, List, Result}
use Rattle.refusals.specs.declared.Refusal.{Refusal}
use Rattle.words.specs.declared.Word.{Word}
use Rattle.words.proofs.Unique.{unique}
use Rattle.writer.specs.declared.Fields.{Fields}
use Rattle.writer.specs.Write.{PackPost, WritePost, Writes, WritesData}

pub pack_unique : {f : Fields} {first second : Result Word Refusal} → PackPost f first → PackPost f second → first ≡ second
pack_unique a b = unique a.answer b.answer

pub written_unique : {fits : Bool} {bytes slice after after' : List ℕ} {r r' : ℕ} → WritePost fits bytes slice r after
    → WritePost fits bytes slice r' after'
    → (r ≡ r') × (after ≡ after')
written_unique a b = (unique a.answer b.answer, unique a.slice_is b.slice_is)

pub write_unique : (f : Fields) {slice after after' : List ℕ} {r r' : ℕ} → Writes f slice r after
    → Writes f slice r' after' → (r ≡ r') × (after ≡ after')
write_unique f a b = written_unique a b

pub write_data_unique : (id : ℕ) (bytes : List ℕ) {slice after after' : List ℕ} {r r' : ℕ}
    → WritesData id bytes slice r after
    → WritesData id bytes slice r' after'
    → (r ≡ r') × (after ≡ after')
write_data_unique id bytes a b = written_unique a b
