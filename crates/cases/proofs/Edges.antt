-- Every row of the table of 01's edges holds.
-- Assumes nothing.
use Prim.Native.Nat.{ℕ}
use mathlib.Core.Path.{◌≡◌, refl, ap}
use mathlib.Core.Bool.{true, false}
use mathlib.Core.List.{[], ◌∷◌}
use native.Mathlib.Omega.{arith}
use Rattle.words.specs.Word.{bits}
use Rattle.words.specs.LaneStatus.{worst_below}
use Rattle.payload_fsm.specs.Step.{is_three}
use Rattle.payload_fsm.specs.Settle.{three_data}
use Rattle.payload_fsm.specs.declared.State.TheVariants as S
use Rattle.payload_fsm.proofs.Settle.{marker_settles, two_are_few}
use Rattle.words.specs.Lists.{Each}
use Rattle.tdh_validator.specs.Tdh.{illegal}
use Rattle.cases.specs.Edges.{Holds, no_period, from_three, table}

two : Holds (from_three 2 false)
two (a ∷ b ∷ []) d e (ha, (hb, _)) t clear = ap is_three (two_are_few a b d ha hb t clear)
two [] d e h t clear = absurd (omega arith)
two (a ∷ []) d e h t clear = absurd (omega arith)
two (a ∷ b ∷ c ∷ ws) d e h t clear = absurd (omega arith)

three : Holds (from_three 3 true)
three (a ∷ b ∷ c ∷ []) d e (ha, (hb, (hc, _))) t clear =
    ap is_three (marker_settles (a ∷ b ∷ c ∷ d ∷ []) (three_data ha hb hc t) S.Three)
three [] d e h t clear = absurd (omega arith)
three (a ∷ []) d e h t clear = absurd (omega arith)
three (a ∷ b ∷ []) d e h t clear = absurd (omega arith)
three (a ∷ b ∷ c ∷ x ∷ ws) d e h t clear = absurd (omega arith)

-- Either crossing is past the last.
past : (previous current : ℕ) → illegal previous current ≡ true → Holds (no_period previous current)
past previous current e rule set orbit w i c = simp (i, c, e)

pub edges : Each Holds table
unfolding bits worst_below
edges = (
  refl,
  (
    refl,
    (
      refl,
      (
        refl,
        (
          past 3564 198 refl,
          (
            past 3366 3564 refl,
            (
              refl,
              (
                refl,
                (
                  refl,
                  (
                    refl,
                    (
                      refl,
                      ((refl, (refl, refl)), ((refl, (refl, refl)), (two, (three, tt)))),
                    ),
                  ),
                ),
              ),
            ),
          ),
        ),
      ),
    ),
  ),
)
