-- How the code finds a period: one formula serves both rules. Rule 1's period is rule 2's over one orbit where the crossing is smaller, and over none
-- else; and so counted, time never runs back.
-- Assumes nothing.
use Rattle.std.proofs.Common.{◌≡◌, ℕ, Bool, true, false, cond, ◌&&◌, ◌||◌, ltb, refl, ◌∙◌, true≢false, arith, ltb-false, ltb-true}
use Rattle.words.specs.Tdh.{max_bc}
use Rattle.packet.specs.declared.Rule.{Rule}
use Rattle.packet.specs.declared.Rule.TheVariants as R
use Rattle.packet.specs.Settings.{counts_orbits}
use Rattle.records.specs.declared.Row.{Row}
use Rattle.records.specs.Records.{when}
use Rattle.records.specs.Detail.{differ}
use Rattle.tdh_validator.specs.Tdh.{Legal, period, illegal, ran_back, long_period, found_by, interval_row}

legal_both : (previous current : ℕ) → illegal previous current ≡ false → Legal previous × Legal current
legal_both p c e = at (ltb max_bc p) (ltb max_bc c) refl refl e
  where
    at : (a b : Bool) → ltb max_bc p ≡ a → ltb max_bc c ≡ b → (a || b) ≡ false → Legal p × Legal c
    at false false q r e = (ltb-false max_bc p q, ltb-false max_bc c r)
    at true b q r e = absurd (true≢false e)
    at false true q r e = absurd (true≢false e)

-- A row by what was worked out for it.
abbrev row_of : Bool → Bool → Bool → ℕ → ℕ → ℕ → ℕ → Row
row_of looked past back found previous current set =
    when (looked && ((past || back) || differ found set)) (cond past 1045 (cond back 1046 45))
    (cond (past || back) previous found) (cond (past || back) current set)

module _ (rule : Rule) (difference previous current : ℕ) where
  abbrev counted : Rule → ℕ
  counted r = cond (counts_orbits r) difference (cond (ltb current previous) 1 0)

  back_counted : (r : Rule) → ran_back (counted r) previous
      current ≡ (counts_orbits r && ran_back difference previous current)
  back_counted R.One = over (ltb current previous) refl
    where
      over : (b : Bool) → ltb current previous ≡ b → ran_back (cond b 1 0) previous current ≡ false
      over true e = refl
      over false e = e
  back_counted R.Two = refl

  period_counted : Legal previous → Legal current → (r : Rule)
      → long_period (counted r) previous current ≡ found_by r difference previous current
  period_counted legal legal' R.One = over (ltb current previous) refl
    where
      over : (b : Bool) → ltb current previous ≡ b → long_period (cond b 1 0) previous current ≡ period previous current
      over true e = let h = ltb-true current previous e in omega (arith, h)
      over false e = let h = ltb-false current previous e in omega (arith, h)
  period_counted legal legal' R.Two = refl

  -- What the code works out is the row.
  pub row_counted : (looked : Bool) (set : ℕ) {orbits found : ℕ} {back : Bool} {row : Row} → orbits ≡ counted rule
      → back ≡ ran_back orbits previous current
      → found ≡ long_period orbits previous current
      → row ≡ row_of looked (illegal previous current) back found previous current set
      → row ≡ interval_row looked rule difference previous current set
  row_counted looked set {orbits} {found} {back} e b f r = r ∙ at (illegal previous current) refl
    where
      back_is : back ≡ (counts_orbits rule && ran_back difference previous current)
      back_is = b ∙ (λ i. ran_back (e i) previous current) ∙ back_counted rule

      at : (past : Bool) → illegal previous current ≡ past
          → row_of looked past back found previous current set
          ≡ row_of looked past (counts_orbits rule && ran_back difference previous current)
          (found_by rule difference previous current) previous current set
      at true q = refl
      at false q =
          let (legal, legal') = legal_both previous current q in
          let found-is : found ≡ found_by rule difference previous current = f ∙ (λ i. long_period (e i) previous current)
          ∙ period_counted legal legal' rule in
          λ i. row_of looked false (back_is i) (found-is i) previous current set
