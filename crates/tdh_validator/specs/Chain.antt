-- 02, ticket 10, "intervals must add up": a chain of crossings and its intervals, each the found period.
-- Assumes nothing.
use Rattle.std.specs.Prelude.{ℕ, ◌+◌, ◌≤◌, List, [], ◌∷◌, length}
use Rattle.words.specs.Lists.{Each}
use Rattle.tdh_validator.specs.Tdh.{Legal, period}

-- "any chain of 1 to 4,096 BCs", legal ones: its first, and the rest after it.
abbrev pub longest_chain : ℕ
longest_chain = 4096

pub record Chain (first : ℕ) (rest : List ℕ) : Type 0 where
  pub legal : Each Legal (first ∷ rest)
  pub most : length (first ∷ rest) ≤ longest_chain

-- "its intervals add up": their sum, each from a crossing of the chain to the next. A chain of one has none.
unfoldable pub intervals : ℕ → List ℕ → ℕ
intervals first [] = 0
intervals first (bc ∷ rest) = period first bc + intervals bc rest

-- "to the one from its first to its last": the last.
unfoldable pub last_of : ℕ → List ℕ → ℕ
last_of first [] = first
last_of first (bc ∷ rest) = last_of bc rest
