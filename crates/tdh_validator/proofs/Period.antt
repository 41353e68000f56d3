-- The found period: it is one, and no other number is. A period of 3564 is never found. What a record tells of it.
-- Assumes nothing.
use Rattle.std.proofs.Common.{◌≡◌, ℕ, true, false, ◌&&◌, ◌∙◌, arith, le-ltb}
use Rattle.words.specs.declared.Word.{Word}
use Rattle.words.specs.Tdh.{max_bc, trigger_bc, trigger_orbit}
use Rattle.packet.specs.declared.Rule.{Rule}
use Rattle.packet.specs.declared.Rule.TheVariants as R
use Rattle.packet.specs.declared.Settings.{Settings}
use Rattle.packet.specs.Settings.{counts_orbits, period_of}
use Rattle.records.specs.Records.{when}
use Rattle.records.specs.Detail.{differ}
use Rattle.stored.specs.declared.InternalTdh.{InternalTdh}
use Rattle.tdh_validator.specs.Tdh.{Legal, IsPeriod, period, orbit_difference, ran_back, found_by, asked, interval}

module _ (previous current : ℕ) (legal : Legal previous) (legal' : Legal current) where
  pub period_is : IsPeriod previous current (period previous current)
  period_is = record { below = omega arith; meets = omega arith }

  pub period_only : (n : ℕ) → IsPeriod previous current n → n ≡ period previous current
  period_only n p = omega (arith, p.below, p.meets)

  -- "For legal BCs a set period of 3564 always differs."
  pub never_3564 : period previous current ≡ 3564 → ⊥
  never_3564 e = omega (arith, period_is.below)

-- What a record tells of an interval that is looked at, between legal crossings and, by rule 2, where time did not run back: 45 gives it as its first
-- number; without 45 it is the set period.
pub found_told : (s : Settings) (earlier : InternalTdh) (w : Word) → Legal earlier.bc → Legal (trigger_bc w)
    → asked s earlier w ≡ true
    → (counts_orbits s.rule && ran_back (orbit_difference earlier.orbit (trigger_orbit w)) earlier.bc
    (trigger_bc w)) ≡ false
    → let found = found_by s.rule (orbit_difference earlier.orbit (trigger_orbit w)) earlier.bc (trigger_bc w) in
    interval s earlier w ≡ when (differ found (period_of s)) 45 found (period_of s)
found_told s earlier w legal legal' looked onward =
    simp (le-ltb max_bc earlier.bc legal, le-ltb max_bc (trigger_bc w) legal', looked, onward)

-- By rule 1 that is the found period, whatever the orbits.
pub period_told : (s : Settings) (earlier : InternalTdh) (w : Word) → s.rule ≡ R.One → Legal earlier.bc
    → Legal (trigger_bc w) → asked s earlier w ≡ true
    → interval s earlier w ≡ when (differ (period earlier.bc (trigger_bc w)) (period_of s)) 45
    (period earlier.bc (trigger_bc w)) (period_of s)
period_told s earlier w one legal legal' looked =
    let found : Rule → ℕ = λ r. found_by r (orbit_difference earlier.orbit (trigger_orbit w)) earlier.bc
    (trigger_bc w) in
    found_told s earlier w legal legal' looked (simp one)
    ∙ (λ i. when (differ (found (one i)) (period_of s)) 45 (found (one i)) (period_of s))
