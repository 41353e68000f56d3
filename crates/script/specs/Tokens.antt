-- Issue 25, the parts of a line, "separated by blanks".
-- Assumes nothing.
use Rattle.std.specs.Prelude.{ℕ, ◌-◌, ◌≤◌, ◌<◌, ◌≡◌, Bool, false, cond, not, ◌||◌, List, [], ◌∷◌, eqb, length, take, drop, get_or}
use Rattle.words.specs.Lists.{Each}

-- A blank, a tab, and "CR counts as a blank".
abbrev pub is_blank : ℕ → Bool
is_blank b = eqb b 32 || (eqb b 9 || eqb b 13)

-- A byte before the parts of what follows it: it is a part of its own, or begins the part that follows at once.
abbrev pub before : ℕ → List ℕ → List (List ℕ) → List (List ℕ)
before b [] ts = (b ∷ []) ∷ ts
before b (c ∷ cs) [] = (b ∷ []) ∷ []
before b (c ∷ cs) (t ∷ ts) = cond (is_blank c) ((b ∷ []) ∷ t ∷ ts) ((b ∷ t) ∷ ts)

unfoldable pub tokens : List ℕ → List (List ℕ)
tokens [] = []
tokens (b ∷ bs) = cond (is_blank b) (tokens bs) (before b bs (tokens bs))

-- From a place on all are blanks, or none is, up to the place r, where that ends.
pub record Skips (blanks : Bool) (text : List ℕ) (from r : ℕ) : Type 0 where
  pub after : from ≤ r
  pub within : r ≤ length text
  pub run : Each (λ b. is_blank b ≡ blanks) (take (r - from) (drop from text))
  pub stop : r < length text → is_blank (get_or text r 0) ≡ not blanks

-- From a place on the parts begin at r ..
pub record Begins (text : List ℕ) (from r : ℕ) : Type 0 where
  pub after : from ≤ r
  pub within : r ≤ length text
  pub same : tokens (drop from text) ≡ tokens (drop r text)
  pub solid : r < length text → is_blank (get_or text r 0) ≡ false

-- .. and the part that stands there ends at r: it is the first of them, and the others follow.
pub record Ends (text : List ℕ) (from r : ℕ) : Type 0 where
  pub after : from ≤ r
  pub within : r ≤ length text
  pub moves : from < length text → is_blank (get_or text from 0) ≡ false → from < r
  pub word : from < r → tokens (drop from text) ≡ take (r - from) (drop from text) ∷ tokens (drop r text)

-- The first part of a text, and what follows it.
pub record FirstPart (text part rest : List ℕ) : Type 0 where
  pub begin : ℕ
  pub end : ℕ
  pub begins : Begins text 0 begin
  pub inside : begin < length text
  pub ends : Ends text begin end
  pub part_is : part ≡ take (end - begin) (drop begin text)
  pub rest_is : rest ≡ drop end text
