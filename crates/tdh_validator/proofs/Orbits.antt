-- 02, ticket 9: the orbit difference is one, and no other number is. Where rule 2 gives a period, its remainder by 3564 is rule 1's; and where fewer than
-- 2^31 orbits lie between two triggers, it is the number of crossings from the one to the other.
-- Assumes nothing.
use Rattle.std.proofs.Common.{◌≡◌, ℕ, ◌+◌, ◌-◌, ◌*◌, ◌%◌, ◌^◌, ◌<◌, ◌≤◌, Bool, true, false, ◌&&◌, ◌||◌, eqb, ltb, leb}
use Rattle.std.proofs.Common.{refl, true≢false, arith, ltb-false, le-ltb, eqb-true}
use borrow.Author.Tests.{eqb-false, lt-leb}
use Rattle.tdh_validator.specs.Tdh.{Legal, crossings, period, IsOrbitDifference, orbit_difference, ran_back, long_period}

module _ (previous current : ℕ) (fits : previous < 2 ^ 32) (fits' : current < 2 ^ 32) where
  pub difference_is : IsOrbitDifference previous current (orbit_difference previous current)
  difference_is = record { below = omega arith; meets = omega arith }

  pub difference_only : (n : ℕ) → IsOrbitDifference previous current n → n ≡ orbit_difference previous current
  difference_only n p = omega (arith, p.below, p.meets)

-- Where time did not run back, the earlier crossing is not beyond the later one.
pub onward : (difference previous current : ℕ) → Legal previous → ran_back difference previous current ≡ false
    → previous ≤ difference * crossings + current
onward d p c legal e = at (leb (2 ^ 31) d) (eqb d 0) (ltb c p) refl refl e
  where
    at : (far same less : Bool) → eqb d 0 ≡ same → ltb c p ≡ less → (far || (same && less)) ≡ false
        → p ≤ d * crossings + c
    at far true false q r e = let h = ltb-false c p r in omega (arith, h)
    at far false less q r e = let h = eqb-false d 0 q in omega (arith, h)
    at true true true q r e = absurd (true≢false e)
    at false true true q r e = absurd (true≢false e)

-- "where rule 2 gives a period, its remainder by 3,564 is rule 1's": between legal crossings, where time did not run back.
pub remainder : (difference previous current : ℕ) → Legal previous → Legal current
    → ran_back difference previous current ≡ false
    → long_period difference previous current % crossings ≡ period previous current
remainder d p c legal legal' e = let h = onward d p c legal e in omega (arith, h)

-- Orbits counted without a bound, of which a TDH has the remainder by 2^32: of the later of two triggers, with fewer than 2^31 orbits from the one to the
-- other, rule 2 finds the crossings from the first to the second, also where the orbit number turns over between them.
module _ (o o' p c : ℕ) (legal : Legal p) (legal' : Legal c) (later : o * crossings + p ≤ o' * crossings + c)
    (near : o' < o + 2 ^ 31) where
  orbits_on : orbit_difference (o % 2 ^ 32) (o' % 2 ^ 32) ≡ o' - o
  orbits_on = omega arith

  pub not_back : ran_back (orbit_difference (o % 2 ^ 32) (o' % 2 ^ 32)) p c ≡ false
  not_back = rw orbits_on (simp (lt-leb (2 ^ 31) (o' - o) (omega arith)) (same (eqb (o' - o) 0) refl))
    where
      same : (b : Bool) → eqb (o' - o) 0 ≡ b → (b && ltb c p) ≡ false
      same true e = let z = eqb-true (o' - o) 0 e in le-ltb c p (omega (arith, z))
      same false e = refl

  pub counts_crossings : long_period (orbit_difference (o % 2 ^ 32) (o' % 2 ^ 32)) p
      c ≡ (o' * crossings + c) - (o * crossings + p)
  counts_crossings = rw orbits_on (omega arith)

-- Every third orbit; over the turn of the orbit number; the same crossing of the same orbit.
pub every_third_orbit : long_period (orbit_difference 5 8) 7 7 ≡ 10692
every_third_orbit = refl

pub over_the_turn : long_period (orbit_difference 4294967295 0) 3563 0 ≡ 1
over_the_turn = refl

pub the_same : long_period (orbit_difference 7 7) 5 5 ≡ 0
the_same = refl

-- Time ran back: a smaller crossing in the same orbit; an orbit back, though the crossing is larger; 2^31 orbits on, and not yet at one less.
pub back_in_the_orbit : ran_back (orbit_difference 7 7) 5 4 ≡ true
back_in_the_orbit = refl

pub back_an_orbit : ran_back (orbit_difference 0 4294967295) 0 3563 ≡ true
back_an_orbit = refl

pub half_a_turn : ran_back (orbit_difference 0 (2 ^ 31)) 0 0 ≡ true
half_a_turn = refl

pub just_below : ran_back (orbit_difference 1 (2 ^ 31)) 0 0 ≡ false
just_below = refl
