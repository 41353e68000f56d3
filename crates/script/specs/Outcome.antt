-- Issue 25, what a whole text comes to: the file of its lines' packets and words, or the first bad line's refusal and number.
-- Assumes nothing.
use Rattle.std.specs.Prelude.{ℕ, suc, ◌≡◌, cond, List, [], ◌∷◌, ◌++◌, ltb, eqb, length}
use Rattle.ascii.specs.Text.{ascii, space, newline, numeral}
use Rattle.bench_writer.specs.Content.{Entry, file_of}
use Rattle.bench_writer.specs.Draft.{draft_of}
use Rattle.script.specs.Line.{Unreadable, Line, line_with, line_of}
use Rattle.script.specs.Taking.{refusal_by, entries_by}

-- A byte before the lines of what follows it.
abbrev pub in_first : ℕ → List (List ℕ) → List (List ℕ)
in_first b [] = (b ∷ []) ∷ []
in_first b (l ∷ ls) = (b ∷ l) ∷ ls

-- The lines of a text. What stands behind the last newline is a line too: it may be empty, and says nothing then.
unfoldable pub lines_of : List ℕ → List (List ℕ)
lines_of [] = [] ∷ []
lines_of (b ∷ bs) = cond (eqb b newline) ([] ∷ lines_of bs) (in_first b (lines_of bs))

-- "`#` begins a comment"
abbrev pub hash : ℕ
hash = 0x23

unfoldable pub uncommented : List ℕ → List ℕ
uncommented [] = []
uncommented (b ∷ bs) = cond (eqb b hash) [] (b ∷ uncommented bs)

-- "what stands before `#` and is longer than the held line (512 bytes) is 102"
abbrev pub most_line : ℕ
most_line = 512

abbrev pub line_in : List ℕ → Line
line_in text = cond (ltb most_line (length text)) (line_with Unreadable []) (line_of text)

abbrev pub said_by : List ℕ → Line
said_by line = line_in (uncommented line)

-- What a line is refused with behind these entries, or 0; and what it adds to them.
abbrev pub refusal_in : List Entry → List ℕ → ℕ
refusal_in es line = refusal_by (said_by line).kind (said_by line).n (draft_of es)

abbrev pub entries_in : List ℕ → List Entry
entries_in line = entries_by (said_by line).kind (said_by line).n

pub data Outcome : Type 0 where
  made : List Entry → Outcome
  refused : (refusal line : ℕ) → Outcome

-- Of lines from line n on, behind these entries: "the first bad line counts".
unfoldable pub outcome_from : ℕ → List Entry → List (List ℕ) → Outcome
outcome_from n es [] = made es
outcome_from n es (l ∷ ls) =
    cond (eqb (refusal_in es l) 0) (outcome_from (suc n) (es ++ entries_in l) ls) (refused (refusal_in es l) n)

-- "(from 1)"
unfoldable pub outcome_of : List ℕ → Outcome
outcome_of text = outcome_from 1 [] (lines_of text)

-- "Standard output is the file, or one line `refused N at line L`"
abbrev pub refused_text : ℕ → ℕ → List ℕ
refused_text refusal line = ascii "refused " ++ (numeral refusal space ++ (ascii "at line " ++ numeral line newline))

abbrev pub answer_bytes : Outcome → List ℕ
answer_bytes (made es) = file_of es
answer_bytes (refused refusal line) = refused_text refusal line

-- The refusal, or 0.
abbrev pub outcome_refusal : Outcome → ℕ
outcome_refusal (made es) = 0
outcome_refusal (refused refusal line) = refusal

unfoldable pub answer_of : List ℕ → List ℕ
answer_of text = answer_bytes (outcome_of text)

-- What lines add, one after the other; and that none of them is refused, behind these entries.
unfoldable pub added_by : List (List ℕ) → List Entry
added_by [] = []
added_by (l ∷ ls) = entries_in l ++ added_by ls

abbrev pub AllTaken : List Entry → List (List ℕ) → Type 0
AllTaken es [] = Unit {0}
AllTaken es (l ∷ ls) = (refusal_in es l ≡ 0) × AllTaken (es ++ entries_in l) ls

-- Bytes that are the answer of a text, and of which.
pub record IsAnswer (bytes : List ℕ) : Type 0 where
  pub text : List ℕ
  pub is : bytes ≡ answer_of text
