-- What is said of lists in many places: what a lent buffer holds, and what holds of each.
-- Assumes nothing.
use Rattle.std.specs.Prelude.{ℕ, List, [], ◌∷◌, ◌++◌, length, drop}

-- What stands in a buffer after numbers were written at its front. 01, "Calls and settings": "the rest of the buffer stays".
abbrev pub over : List ℕ → List ℕ → List ℕ
over written buffer = written ++ drop (length written) buffer

-- Something that holds of each of a list.
abbrev pub Each : {A : Type 0} → (A → Type 0) → List A → Type 0
Each P [] = Unit
Each P (x ∷ xs) = P x × Each P xs
