-- What the readers of lane status answer, from what a buffer is read as.
-- Assumes nothing.
use Prim.Native.Nat.{ℕ}
use mathlib.Core.Path.{◌≡◌, refl, sym, ◌∙◌}
use mathlib.Core.Bool.{Bool, true, false}
use mathlib.Core.List.{List}
use Rattle.std.specs.Prelude.{Result, Ok, Err}
use lib.Dec.{eqb}
use lib.ListN.{length}
use Rattle.words.specs.declared.Word.{Word}
use Rattle.refusals.specs.declared.Refusal.{Refusal}
use Rattle.refusals.specs.declared.Refusal.TheVariants as R
use Rattle.refusals.specs.Refusals.{number}
use Rattle.words.specs.Word.{word_bytes, word_of, FromBufPost}
use Rattle.khandzorul.specs.declared.status.StatusNumbers.{StatusNumbers}
use Rattle.khandzorul.specs.Status.{status_of}

pub answered : {n m : ℕ} → n ≡ m → ◌≡◌ {A = StatusNumbers} (record { refusal = 0; status = n })
    (record { refusal = 0; status = m })
answered e = λ i. record { refusal = 0; status = e i }

module _ (status : Word → ℕ) (b : List ℕ) {r : Result Word Refusal} (p : FromBufPost b r) where
  pub status_is : (w : Word) → r ≡ Ok w → record { refusal = 0; status = status w } ≡ status_of status b
  status_is w is = at (eqb (length b) word_bytes) refl
    where
      at : (x : Bool) → eqb (length b) word_bytes ≡ x → record { refusal = 0; status = status w } ≡ status_of status b
      at true e =
          let same : Ok w ≡ Ok (word_of b) = sym is ∙ p.answer ∙ simp e in
          let word : w ≡ word_of b = cc in
          simp (e, word)
      at false e =
          let apart : Ok w ≡ Err R.Size = sym is ∙ p.answer ∙ simp e in
          cc

  pub status_refused : (n : Refusal) → r ≡ Err n → record { refusal = number n; status = 0 } ≡ status_of status b
  status_refused n is = at (eqb (length b) word_bytes) refl
    where
      at : (x : Bool) → eqb (length b) word_bytes ≡ x → record { refusal = number n; status = 0 } ≡ status_of status b
      at true e =
          let apart : Err n ≡ Ok (word_of b) = sym is ∙ p.answer ∙ simp e in
          cc
      at false e =
          let same : Err n ≡ Err R.Size = sym is ∙ p.answer ∙ simp e in
          let one : n ≡ R.Size = cc in
          simp (e, one)
