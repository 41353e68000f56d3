-- What is said of a text in two sentences: where no line is refused, its answer is the file of what its lines add; else the first bad line's refusal and
-- number. And such a file is a bench file, whose packets and words are these, in order.
-- Assumes nothing.
use Prim.Native.Nat.{ℕ, suc, ◌+◌, ◌<◌}
use mathlib.Core.Path.{◌≡◌, sym, ap, ap₂, ◌∙◌, subst}
use mathlib.Core.Bool.{Bool, cond}
use mathlib.Core.List.{List, [], ◌∷◌, ◌++◌, append_assoc, append-nil, map}
use native.Mathlib.Omega.{arith}
use borrow.Author.Tests.{eq-eqb, ne_eqb, eqb-false}
use lib.ListN.{length}
use Rattle.bench_file.specs.File.{check_of}
use Rattle.bench_file.specs.Items.{items}
use Rattle.bench_writer.specs.Content.{Entry, file_of, Fine, entry_of}
use Rattle.bench_writer.proofs.Filed.{file_checks, file_items}
use Rattle.script.specs.Outcome.{lines_of, refusal_in, entries_in, refused_text, answer_bytes, answer_of, added_by, AllTaken}
use Rattle.script.specs.Outcome.{Outcome, made, refused, outcome_from, outcome_of, outcome_refusal}
use Rattle.script.specs.Feeding.{last_line}
use Rattle.script.proofs.Answered.{IsFine, fine}

-- Lines that are not refused, from line n on and behind these entries; and what follows them.
taken : (n : ℕ) (es : List Entry) (ls rest : List (List ℕ)) → AllTaken es ls
    → outcome_from n es (ls ++ rest) ≡ outcome_from (length ls + n) (es ++ added_by ls) rest
unfolding outcome_from added_by
taken n es [] rest all = ap₂ (λ (k : ℕ) (l : List Entry). outcome_from k l rest) (omega arith) (sym (append-nil es))
taken n es (l ∷ ls) rest all =
    ap (λ (t : Bool). cond t (outcome_from (suc n) (es ++ entries_in l) (ls ++ rest)) (refused (refusal_in es l) n)) (eq-eqb (refusal_in es l) 0 all.0)
    ∙ taken (suc n) (es ++ entries_in l) ls rest all.1
    ∙ ap₂ (λ (k : ℕ) (x : List Entry). outcome_from k x rest) (omega arith) (append_assoc es (entries_in l) (added_by ls))

-- "for a text none of whose lines is refused the bytes written are `file_of` of the lines' entries"
outcome : (text : List ℕ) → AllTaken [] (lines_of text) → outcome_of text ≡ made (added_by (lines_of text))
unfolding outcome_of outcome_from
outcome text all = ap (outcome_from 1 []) (sym (append-nil (lines_of text))) ∙ taken 1 [] (lines_of text) [] all

pub all_taken : (text : List ℕ) → AllTaken [] (lines_of text) → answer_of text ≡ file_of (added_by (lines_of text))
unfolding answer_of
all_taken text all = ap answer_bytes (outcome text all)

-- "for any other text the answer is the first bad line's number and refusal"
pub first_bad : (text : List ℕ) (before : List (List ℕ)) (bad : List ℕ) (rest : List (List ℕ)) → lines_of text ≡ before ++ (bad ∷ rest)
    → AllTaken [] before
    → (refusal_in (added_by before) bad ≡ 0 → ⊥)
    → answer_of text ≡ refused_text (refusal_in (added_by before) bad) (length before + 1)
unfolding answer_of outcome_of outcome_from
first_bad text before bad rest is all some =
    ap answer_bytes
    (ap (outcome_from 1 []) is ∙ taken 1 [] before (bad ∷ rest) all
    ∙ ap
    (λ (t : Bool).
    cond t (outcome_from (suc (length before + 1)) (added_by before ++ entries_in bad) rest) (refused (refusal_in (added_by before) bad) (length before + 1)))
    (ne_eqb (refusal_in (added_by before) bad) 0 some))

-- What is made is a bench file, and it has just what the lines say.
pub made_file : (text : List ℕ) → suc (length text) < last_line → AllTaken [] (lines_of text)
    → (check_of (answer_of text) ≡ 0) × (map entry_of (items (answer_of text)) ≡ added_by (lines_of text))
made_file text short all =
    let es = added_by (lines_of text) in
    let is : outcome_of text ≡ made es = outcome text all in
    let f : Fine es = subst IsFine is (fine text short) in
    let file : answer_of text ≡ file_of es = all_taken text all in
    (ap check_of file ∙ file_checks es f, ap (λ (l : List ℕ). map entry_of (items l)) file ∙ file_items es f)

-- What stands behind a refusal of 0 is a file that is not refused: where `benchwrite` checks it, the check does not fail.
pub always_checks : (text : List ℕ) → suc (length text) < last_line → outcome_refusal (outcome_of text) ≡ 0 → check_of (answer_of text) ≡ 0
unfolding answer_of
always_checks text short = by_outcome (outcome_of text) (fine text short)
  where
    by_outcome : (o : Outcome) → IsFine o → outcome_refusal o ≡ 0 → check_of (answer_bytes o) ≡ 0
    by_outcome (made es) f zero = file_checks es f
    by_outcome (refused n l) some zero = absurd (eqb-false n 0 some zero)
