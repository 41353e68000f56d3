-- What a test says, once for both directions: `simp tests` makes of a test that holds the facts that it stands for, and asks for these where the test is
-- the goal.
-- Assumes nothing.
use Rattle.std.proofs.Common.{ℕ, ◌≤◌, ◌<◌, ◌≡◌, refl, sym, ap, ◌∙◌, Bool, true, false, not, ◌&&◌, ◌||◌, true≢false, ◌↔◌, leb, ltb, eqb, ltb-true, leb-true}
use Rattle.std.proofs.Common.{eqb-true, lt-ltb, le-leb, eq-eqb}
use borrow.Author.Tests.{not-true, not-false}

pub both : (a b : Bool) → (a && b) ≡ true → (a ≡ true) × (b ≡ true)
both true b e = (refl, e)
both false b e = absurd (true≢false (sym e))

pub and_is : (a b : Bool) → ((a && b) ≡ true) ↔ ((a ≡ true) × (b ≡ true))
and_is a b = (both a b, λ p. simp (p.0, p.1))

pub or_is : (a b : Bool) → ((a || b) ≡ true) ↔ (a ≡ false → b ≡ true)
or_is true b = (λ e p. absurd (true≢false p), λ h. refl)
or_is false b = (λ e p. e, λ h. h refl)

pub not_is : (a : Bool) → (not a ≡ true) ↔ (a ≡ false)
not_is a = (not-true a, ap not)

pub not_not : (a : Bool) → (not a ≡ false) ↔ (a ≡ true)
not_not a = (not-false a, ap not)

pub lt_is : (n m : ℕ) → (ltb n m ≡ true) ↔ (n < m)
lt_is n m = (ltb-true n m, lt-ltb n m)

pub le_is : (n m : ℕ) → (leb n m ≡ true) ↔ (n ≤ m)
le_is n m = (leb-true n m, le-leb n m)

pub eq_is : (n m : ℕ) → (eqb n m ≡ true) ↔ (n ≡ m)
eq_is n m = (eqb-true n m, eq-eqb n m)

pub ruleset tests = (and_is, or_is, not_is, not_not, lt_is, le_is, eq_is)

-- Two tests are one where each follows from the other.
pub tests_agree : (a b : Bool) → (a ≡ true → b ≡ true) → (b ≡ true → a ≡ true) → a ≡ b
tests_agree true b f g = sym (f refl)
tests_agree false true f g = g refl
tests_agree false false f g = refl

-- Tests that are asked one after the other: the first that fails ends them, and behind one that holds the rest is left.
pub fails : {r a : Bool} (rest : Bool) → r ≡ a → not r ≡ true → false ≡ (a && rest)
fails {r} rest e h = simp (sym e ∙ not-true r h)

pub holds : {r a s rest : Bool} → r ≡ a → not r ≡ false → s ≡ rest → s ≡ (a && rest)
holds {r} e h l = simp (sym e ∙ not-false r h) l
