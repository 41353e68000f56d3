-- Uniqueness: two results that meet a contract are equal, where it says what the result is, and of `Word::from_buf`.
-- Assumes nothing.
use Rattle.std.proofs.Common.{◌≡◌, ℕ, List, Result, sym, ◌∙◌}
use Rattle.words.specs.declared.Word.{Word}
use Rattle.refusals.specs.declared.Refusal.{Refusal}
use Rattle.words.specs.Word.{FromBufPost}

pub unique : {A : Type 0} {defined first second : A} → first ≡ defined → second ≡ defined → first ≡ second
unique first second = first ∙ sym second

pub from_buf_unique : {bytes : List ℕ} {first second : Result Word Refusal} → FromBufPost bytes first → FromBufPost bytes second
    → first ≡ second
from_buf_unique a b = unique a.answer b.answer
