-- What the steps print, one after the other in buffers of any sizes that have room for a line, is the text of the two files, and they end.
-- Assumes nothing.
use Prim.Native.Nat.{ℕ, ◌^◌, ◌≤◌, ◌<◌}
use mathlib.Core.Path.{◌≡◌, refl, sym, subst, ◌∙◌}
use mathlib.Core.Bool.{Bool, true, false, cond}
use mathlib.Core.List.{List}
use native.Mathlib.Nat.{zero-add}
use native.Mathlib.Omega.{arith}
use borrow.Author.Tests.{eqb-true, ltb-false}
use lib.Dec.{ltb, eqb}
use lib.ListN.{length}
use Rattle.bench_file.specs.File.{check_of}
use Rattle.bench_file.proofs.Reading.{sound}
use Rattle.ascii.specs.Steps.{Prints, StepPost, Steps}
use Rattle.ascii.proofs.Steps.{Ends, onward, steps_print, ends}
pub use Rattle.ascii.proofs.Steps.{step_fits}
use Rattle.comparison.specs.declared.Stage.{Stage}
use Rattle.comparison.specs.declared.Stage.TheVariants as S
use Rattle.comparison.specs.declared.Listing.{Listing}
use Rattle.comparison.specs.Compare.{most_compared, refusal_of, differences}
use Rattle.comparison.specs.Text.{text, most_printed}
use Rattle.comparison.specs.Listing.{standing, first_stage, start_listing, stage_step, step_of, is_done, most_left, GoodAt, Good, printer}
use Rattle.comparison.proofs.Keeping.{rest_of, laws}

-- A file that is not refused here is not refused alone, and is short.
pub not_refused : (file : List ℕ) → refusal_of file ≡ 0 → (check_of file ≡ 0) × (length file ≤ most_compared)
unfolding refusal_of
not_refused file e = at (ltb most_compared (length file)) refl
  where
    at : (t : Bool) → ltb most_compared (length file) ≡ t → (check_of file ≡ 0) × (length file ≤ most_compared)
    at true t = absurd (omega (arith, simp t at e))
    at false t = (simp t at e, ltb-false _ _ t)

-- The start.
module _ (a b : List ℕ) where
  abbrev start_at : Stage → Listing
  start_at s = standing s 0 0 0 0 0

  start_good : (x y : Bool) → eqb (refusal_of a) 0 ≡ x → eqb (refusal_of b) 0 ≡ y
      → Good a b (start_at (cond x (cond y S.Packets (S.Refused (refusal_of b) 1)) (S.Refused (refusal_of a) 0)))
  unfolding most_left
  start_good true true p q =
      let one = (not_refused a (eqb-true _ _ p)).0 in
      let two = (not_refused b (eqb-true _ _ q)).0 in
      record { at = record { one = one; two = two }; low = omega (arith, (sound a one).packets_few) }
  start_good true false p q = record { at = tt; low = omega arith }
  start_good false y p q = record { at = tt; low = omega arith }

  pub good_start : Good a b (start_listing a b)
  unfolding start_listing
  good_start = start_good (eqb (refusal_of a) 0) (eqb (refusal_of b) 0) refl refl

  pub started : {first second : ℕ} {stage : Stage} → first ≡ refusal_of a → second ≡ refusal_of b
      → stage ≡ first_stage first second
      → (start_at stage ≡ start_listing a b) × Good a b (start_at stage)
  unfolding start_listing
  started p q r = (rw (r, p, q), rw (r, p, q) good_start)

  -- At the start the whole text is to be printed.
  start_rest : rest_of a b (start_listing a b) ≡ text a b
  unfolding rest_of start_listing text differences
  start_rest = at (eqb (refusal_of a) 0) (eqb (refusal_of b) 0) refl refl
    where
      at : (x y : Bool) → eqb (refusal_of a) 0 ≡ x → eqb (refusal_of b) 0 ≡ y → rest_of a b (start_listing a b) ≡ text a b
      at true true p q = simp (p, q, zero-add)
      at true false p q = simp (p, q)
      at false y p q = simp p

-- For the code: a step that was taken at a stage, and what is asked there.
module _ {a b : List ℕ} {l : Listing} (g : Good a b l) {s : Stage} (e : l.stage ≡ s) where
  pub here : GoodAt a b l s
  here = subst (GoodAt a b l) e g.at

  pub staged : {next : Listing} {d d' : List ℕ} {n : ℕ} → Prints (stage_step a b l s) d next n d'
      → Prints (step_of a b l) d next n d'
  unfolding step_of
  staged {next} {d} {d'} {n} p = subst (λ (z : Stage). Prints (stage_step a b l z) d next n d') (sym e) p

-- For who calls `step`: with room for a line fewer steps are left.
pub step_onward : {a b : List ℕ} {l next : Listing} {d d' : List ℕ} {n : ℕ} → StepPost (printer a b) l d next n d'
    → Good a b l → is_done l.stage ≡ false
    → most_printed ≤ length d
    → most_left a b next < most_left a b l
step_onward {a} {b} f g e h = onward (laws a b) f g h e

-- What the steps print is the text of the two files, whatever the sizes of the buffers.
module _ (a b : List ℕ) {n : ℕ} {out : List ℕ} (steps : Steps (printer a b) (start_listing a b) n out) where
  pub prints_text : out ≡ text a b
  prints_text = (steps_print (laws a b) steps (good_start a b)).0 ∙ start_rest a b

  pub few_steps : n ≤ 2 ^ 32
  few_steps = omega (arith, (steps_print (laws a b) steps (good_start a b)).1, (good_start a b).low)

-- With any buffer that has room for a line they end.
pub steps_end : (a b d : List ℕ) → most_printed ≤ length d → Ends (printer a b) (start_listing a b)
steps_end a b d room = ends (laws a b) d room (start_listing a b) (good_start a b)
