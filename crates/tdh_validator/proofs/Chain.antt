-- Intervals add up modulo 3564: two of them, and those of a chain. 0 exactly for equal crossings; there and back 0 or 3564.
-- The laws go by what 01 calls a period (`IsPeriod`, `period_is`, `period_only`) and not by its formula; the examples alone compute it.
-- Assumes nothing.
use Rattle.std.proofs.Common.{◌≡◌, ℕ, ◌+◌, ◌%◌, ◌<◌, ◌≤◌, Bool, true, false, eqb, ◌⊎◌, List, [], ◌∷◌, sym, refl, ◌∙◌, subst, inl, inr, arith, eqb-true}
use borrow.Author.Tests.{eqb-false}
use Rattle.words.specs.Lists.{Each}
use Rattle.tdh_validator.specs.Tdh.{Legal, crossings, IsPeriod, period}
use Rattle.tdh_validator.specs.Chain.{Chain, intervals, last_of}
use Rattle.tdh_validator.proofs.Period.{period_is, period_only}

-- Two intervals of 198 over a turn of the orbit. With 3564 in place of 0 it is no chain.
pub a_turn : intervals 3366 (0 ∷ 198 ∷ []) ≡ 198 + 198
unfolding intervals
a_turn = refl

pub no_chain : Chain 3366 (3564 ∷ 198 ∷ []) → ⊥
no_chain chain = let past = chain.legal.1.0 in omega (arith, past)

-- "An interval is 0 exactly for equal BCs"
pub zero_equal : (a b : ℕ) → Legal a → Legal b → period a b ≡ 0 → a ≡ b
zero_equal a b la lb e = met (subst (IsPeriod a b) e (period_is a b la lb))
  where
    met : IsPeriod a b 0 → a ≡ b
    met p = let reached = p.meets in omega (arith, reached)

pub equal_zero : (a b : ℕ) → Legal a → Legal b → a ≡ b → period a b ≡ 0
equal_zero a b la lb e = sym (period_only a b la lb 0 (record { below = omega arith; meets = omega arith }))

-- An interval and the next one, added modulo 3564, are an interval.
inside : (x k : ℕ) → (x + k % crossings) % crossings ≡ (x + k) % crossings
inside x k = omega arith

further : (a b c x y : ℕ) → (a + x) % crossings ≡ b → (b + y) % crossings ≡ c → (a + (x + y)) % crossings ≡ c
further a b c x y e f = omega arith

joined : (a b c x y : ℕ) → IsPeriod a b x → IsPeriod b c y → IsPeriod a c ((x + y) % crossings)
joined a b c x y p q =
    record { below = omega arith; meets = inside a (x + y) ∙ further a b c x y p.meets q.meets }

-- "For three legal BCs, the interval from the first to the second plus the second to the third is, modulo 3,564, the interval from the first to
-- the third."
pub adds_up : (a b c : ℕ) → Legal a → Legal b → Legal c → (period a b + period b c) % crossings ≡ period a c
adds_up a b c la lb lc = period_only a c la lc _ (joined a b c _ _ (period_is a b la lb) (period_is b c lb lc))

-- "there and back add to 0 or to 3,564"
zero_or_once : (n : ℕ) → n % crossings ≡ 0 → n < crossings + crossings → (n ≡ 0) ⊎ (n ≡ crossings)
zero_or_once n e h = at (eqb n 0) refl
  where
    at : (b : Bool) → eqb n 0 ≡ b → (n ≡ 0) ⊎ (n ≡ crossings)
    at true q = inl (eqb-true n 0 q)
    at false q = inr (let some : n ≡ 0 → ⊥ = eqb-false n 0 q in omega (arith, some))

pub there_and_back : (a b : ℕ) → Legal a → Legal b → (period a b + period b a ≡ 0)
    ⊎ (period a b + period b a ≡ crossings)
there_and_back a b la lb =
    zero_or_once (period a b + period b a) (adds_up a b a la lb la ∙ equal_zero a a la la refl)
    (below (period a b) (period b a) (period_is a b la lb).below (period_is b a lb la).below)
  where
    below : (x y : ℕ) → x < crossings → y < crossings → x + y < crossings + crossings
    below x y p q = omega arith

-- Legal crossings, however many: the sum of their intervals, modulo 3564, is what 01 calls the period from the first to the last.
pub sum_is : (first : ℕ) (rest : List ℕ) → Each Legal (first ∷ rest)
    → IsPeriod first (last_of first rest) (intervals first rest % crossings)
unfolding intervals last_of
sum_is first [] (l, _) = record { below = omega arith; meets = omega arith }
sum_is first (bc ∷ rest) (l, ls) =
    subst (IsPeriod first (last_of bc rest)) (inside (period first bc) (intervals bc rest))
    (joined first bc (last_of bc rest) (period first bc) (intervals bc rest % crossings) (period_is first bc l ls.0)
    (sum_is bc rest ls))

last_legal : (first : ℕ) (rest : List ℕ) → Each Legal (first ∷ rest) → Legal (last_of first rest)
unfolding last_of
last_legal first [] (l, _) = l
last_legal first (bc ∷ rest) (_, ls) = last_legal bc rest ls

-- "for any chain of 1 to 4,096 BCs that its intervals add up, modulo 3,564, to the one from its first to its last, a chain of one to 0": as 01 words
-- a period, and as the number that is found. How many they are is not used.
pub chain_is : (first : ℕ) (rest : List ℕ) → Chain first rest
    → IsPeriod first (last_of first rest) (intervals first rest % crossings)
chain_is first rest chain = sum_is first rest chain.legal

pub chain_adds_up : (first : ℕ) (rest : List ℕ) → Chain first rest
    → intervals first rest % crossings ≡ period first (last_of first rest)
chain_adds_up first rest chain =
    period_only first (last_of first rest) chain.legal.0 (last_legal first rest chain.legal) _
    (chain_is first rest chain)

pub chain_of_one : (first : ℕ) → intervals first [] ≡ 0
unfolding intervals
chain_of_one first = refl

-- With one crossing more it is false: no number is an interval to 3564, so the sum of 3366, 3564 is none.
abbrev OneFurther : ℕ → Type 0
OneFurther bc = bc ≤ 3564

pub none_to_3564 : (first n : ℕ) → IsPeriod first 3564 n → ⊥
none_to_3564 first n p = let reached = p.meets in omega (arith, reached)

pub chain_false :
    ((first : ℕ) (rest : List ℕ) → Each OneFurther (first ∷ rest)
    → IsPeriod first (last_of first rest) (intervals first rest % crossings)) → ⊥
unfolding intervals last_of
chain_false law = none_to_3564 3366 _ (law 3366 (3564 ∷ []) (omega arith, (omega arith, tt)))

-- Nor is an interval 0 for equal crossings alone: the formula gives 0 from 0 to 3564.
pub zero_false : ((a b : ℕ) → OneFurther a → OneFurther b → period a b ≡ 0 → a ≡ b) → ⊥
zero_false law = let same = law 0 3564 (omega arith) (omega arith) refl in omega (arith, same)

-- In the middle 3564 goes unnoticed: 3366, 3564, 198 is no chain, and still its numbers add up. It is 1045 that tells of it, and not the sum.
pub unnoticed : intervals 3366 (3564 ∷ 198 ∷ []) % crossings ≡ period 3366 198
unfolding intervals
unnoticed = refl
