-- What the readers of lane status answer to C: "A refusal returns its number and zeros", refusal 1 for a "word not 10 bytes".
-- Assumes nothing.
use Rattle.std.specs.Prelude.{ℕ, cond, List, eqb, length}
use Rattle.words.specs.declared.Word.{Word}
use Rattle.words.specs.Word.{word_bytes, word_of}
use Rattle.khandzorul.specs.declared.status.StatusNumbers.{StatusNumbers}

-- A status of the word that bytes are: of its worst lane, or of one lane.
abbrev pub status_of : (Word → ℕ) → List ℕ → StatusNumbers
status_of status bytes =
    cond (eqb (length bytes) word_bytes) (record { refusal = 0; status = status (word_of bytes) }) (record { refusal = 1; status = 0 })
