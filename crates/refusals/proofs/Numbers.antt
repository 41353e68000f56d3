-- A refusal is known by its number: no two have the same, and none has 0.
use Rattle.std.proofs.Common.{◌≡◌, true, false, refl, eqb, eq-eqb, Result, Ok, Err, ap, ◌∙◌, sym}
use Rattle.refusals.specs.declared.Refusal.{Refusal}
use Rattle.refusals.specs.declared.Refusal.TheVariants as R
use Rattle.refusals.specs.Refusals.{number, of_number, code}

-- The refusal of its number is itself.
pub back : (r : Refusal) → of_number (number r) ≡ r
unfolding of_number
back R.Size = refl
back R.NoPacket = refl
back R.Full = refl
back R.Room = refl
back R.Packet = refl
back R.File = refl
back R.Counts = refl
back R.Field = refl
back R.LastPacket = refl
back R.NoTracker = refl
back R.NoSettings = refl
back R.Line = refl

pub same_number : (r s : Refusal) → number r ≡ number s → r ≡ s
same_number r s h = sym (back r) ∙ ap of_number h ∙ back s

-- No refusal has the number of none.
pub refused : (r : Refusal) → eqb (number r) 0 ≡ false
refused R.Size = refl
refused R.NoPacket = refl
refused R.Full = refl
refused R.Room = refl
refused R.Packet = refl
refused R.File = refl
refused R.Counts = refl
refused R.Field = refl
refused R.LastPacket = refl
refused R.NoTracker = refl
refused R.NoSettings = refl
refused R.Line = refl

pub no_none : (r : Refusal) → 0 ≡ number r → ⊥
no_none r h = let z : eqb (number r) 0 ≡ true = eq-eqb (number r) 0 (sym h) in cc (refused r)

-- The answer of a call that gives nothing but its refusal is known by the number.
pub same_code : (a b : Result (Unit {0}) Refusal) → code a ≡ code b → a ≡ b
same_code (Ok x) (Ok y) h = refl
same_code (Ok x) (Err s) h = absurd (no_none s h)
same_code (Err r) (Ok y) h = absurd (no_none r (sym h))
same_code (Err r) (Err s) h = ap Err (same_number r s h)
