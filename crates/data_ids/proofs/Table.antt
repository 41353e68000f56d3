-- A table that is a rule's values, one after the other, has the rule at each entry. That a table of the source is such a list, antt computes. So it does
-- that two tests of an id are the same.
-- Assumes nothing.
use Rattle.std.proofs.Common.{◌≡◌, refl, ap, sym, ◌∙◌, Bool, true, false, cond, List, [], ◌∷◌, ℕ, zero, suc, ◌+◌, ◌<◌, add-zero, zero-add, add-suc}
use Rattle.std.proofs.Common.{suc-add, le_of_suc-le-suc, not-suc-le-zero, eqb, get_or}

-- The rule's values at n numbers from i on.
abbrev pub values : (ℕ → ℕ) → ℕ → ℕ → List ℕ
values rule zero i = []
values rule (suc n) i = rule i ∷ values rule n (suc i)

from : (rule : ℕ → ℕ) (n i k : ℕ) → k < n → get_or (values rule n i) k 0 ≡ rule (i + k)
from rule zero i k h = absurd (not-suc-le-zero h)
from rule (suc n) i zero h = ap rule (sym (add-zero i))
from rule (suc n) i (suc k) h = from rule n (suc i) k (le_of_suc-le-suc h) ∙ ap rule (suc-add i k ∙ sym (add-suc i k))

pub entry : (rule : ℕ → ℕ) (n k : ℕ) → k < n → get_or (values rule n 0) k 0 ≡ rule k
entry rule n k h = from rule n 0 k h ∙ ap rule (zero-add k)

-- Two rules whose values antt computes to the same list agree there.
pub agree : (one other : ℕ → ℕ) (n : ℕ) → values one n 0 ≡ values other n 0 → (k : ℕ) → k < n → one k ≡ other k
agree one other n e k h = sym (entry one n k h) ∙ ap (λ (l : List ℕ). get_or l k 0) e ∙ entry other n k h

-- A test as a number, and back.
abbrev digit : Bool → ℕ
digit b = cond b 1 0

from_digit : (b : Bool) → eqb (digit b) 1 ≡ b
from_digit true = refl
from_digit false = refl

-- Two tests that antt computes to agree at each of the 256 ids agree at an id.
pub same_at_ids : (one other : ℕ → Bool) → values (λ i. digit (one i)) 256 0 ≡ values (λ i. digit (other i)) 256 0
    → (id : ℕ) → id < 256 → one id ≡ other id
same_at_ids one other e id h =
    sym (from_digit (one id)) ∙ ap (λ (n : ℕ). eqb n 1) (agree (λ i. digit (one i)) (λ i. digit (other i)) 256 e id h)
    ∙ from_digit (other id)
