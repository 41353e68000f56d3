-- "Unless noted, the first number is the detail and the second 0. R: only with running checks."
-- Assumes nothing.
use Rattle.std.specs.Prelude.{ℕ, Bool, not, eqb}
use Rattle.records.specs.declared.Row.{Row}
use Rattle.records.specs.Records.{when}

-- A code with a detail is given where there is one.
abbrev pub detailed : ℕ → ℕ → Row
detailed code detail = when (not (eqb detail 0)) code detail 0

-- Two numbers differ.
abbrev pub differ : ℕ → ℕ → Bool
differ a b = not (eqb a b)
