-- 01, "Calls and settings": the settings, "fixed at the start"; 02, ticket 9: the two rules by which the period between two internal triggers is found.
-- Assumes nothing.
use Rattle.std.specs.Prelude.{ℕ, ◌≡◌, ◌≢◌, Bool, true, false, Result, Ok, Err, unwrap_or}
use Rattle.packet.specs.declared.Rule.{Rule}
use Rattle.packet.specs.declared.Rule.TheVariants as R
use Rattle.packet.specs.declared.UnknownRule.{UnknownRule}
use Rattle.packet.specs.declared.Settings.{Settings}

-- "Today's rule sees only the place in the orbit .. Keep it as rule 1 .. and add rule 2, chosen in the settings".
abbrev pub counts_orbits : Rule → Bool
counts_orbits R.One = false
counts_orbits R.Two = true

-- The numbers of the rules.
abbrev pub rule_number : Rule → ℕ
rule_number R.One = 1
rule_number R.Two = 2

-- What a conversion to a number gives.
abbrev pub gives_rule_number : Rule → ℕ → Type 0
gives_rule_number rule n = n ≡ rule_number rule

-- What a conversion from a number gives: the rule that has it, or the number where none has it.
abbrev pub gives_rule : ℕ → Result Rule UnknownRule → Type 0
gives_rule n (Ok rule) = rule_number rule ≡ n
gives_rule n (Err unknown) = ((n ≢ 1) × (n ≢ 2)) × (unknown.0 ≡ n)

-- "period absent or 0 to 65,535", and since 02, ticket 9, "up to 4,294,967,295": the number of a period, 0 where it is absent.
abbrev pub period_of : Settings → ℕ
period_of s = unwrap_or s.period 0
