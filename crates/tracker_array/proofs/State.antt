-- States and their numbers.
-- Assumes nothing.
use Rattle.std.proofs.Common.{ℕ, ◌≤◌, ◌≡◌, refl, sym, ◌∙◌, Bool, true, false, cond, not, ◌&&◌, true≢false, arith, eqb, eqb-true}
use borrow.Author.Tests.{eqb-false}
use Rattle.payload_fsm.specs.declared.State.{State}
use Rattle.payload_fsm.specs.declared.State.TheVariants as S
use Rattle.cdp_running.specs.Tracker.{past_ihw, past_tdh}
use Rattle.tracker_array.specs.Array.{state_number}
use Rattle.tracker_array.specs.Read.{state_of, in_start}

-- The state by six tests, one after the other.
abbrev by_tests : Bool → Bool → Bool → Bool → Bool → Bool → State
by_tests a b c d e f =
    cond a S.Ihw (cond b S.Tdh (cond c S.Data (cond d S.CData (cond e S.Three (cond f S.CIhw S.CTdh)))))

-- What holds of a state by its tests: of IHW_, of TDH_, and of those after both.
by_tests_lem : (P : State → Bool) (a b c d e f later : Bool) → P S.Data ≡ later → P S.CData ≡ later → P S.Three ≡ later
    → P S.CIhw ≡ later → P S.CTdh ≡ later
    → P (by_tests a b c d e f) ≡ cond a (P S.Ihw) (cond b (P S.Tdh) later)
by_tests_lem P true b c d e f l p q r s t = refl
by_tests_lem P false true c d e f l p q r s t = refl
by_tests_lem P false false true d e f l p q r s t = p
by_tests_lem P false false false true e f l p q r s t = q
by_tests_lem P false false false false true f l p q r s t = r
by_tests_lem P false false false false false true l p q r s t = s
by_tests_lem P false false false false false false l p q r s t = t

module _ (n : ℕ) where
  split : (P : State → Bool) (later : Bool) → P S.Data ≡ later → P S.CData ≡ later → P S.Three ≡ later
      → P S.CIhw ≡ later → P S.CTdh ≡ later
      → P (state_of n) ≡ cond (eqb n 0) (P S.Ihw) (cond (eqb n 1) (P S.Tdh) later)
  split P = by_tests_lem P (eqb n 0) (eqb n 1) (eqb n 2) (eqb n 3) (eqb n 4) (eqb n 5)

  pub past_ihw_lem : not (eqb n 0) ≡ past_ihw (state_of n)
  past_ihw_lem = at (eqb n 0) (eqb n 1) ∙ sym (split past_ihw true refl refl refl refl refl)
    where
      at : (a b : Bool) → not a ≡ cond a false (cond b true true)
      at true b = refl
      at false true = refl
      at false false = refl

  pub past_tdh_lem : (not (eqb n 0) && not (eqb n 1)) ≡ past_tdh (state_of n)
  past_tdh_lem = at (eqb n 0) (eqb n 1) ∙ sym (split past_tdh true refl refl refl refl refl)
    where
      at : (a b : Bool) → (not a && not b) ≡ cond a false (cond b false true)
      at true b = refl
      at false true = refl
      at false false = refl

-- A state's number says which it is, and each number up to 6 is one's.
pub state_back : (s : State) → state_of (state_number s) ≡ s
state_back S.Ihw = refl
state_back S.Tdh = refl
state_back S.Data = refl
state_back S.CData = refl
state_back S.Three = refl
state_back S.CIhw = refl
state_back S.CTdh = refl

pub state_low : (s : State) → state_number s ≤ 6
state_low S.Ihw = omega arith
state_low S.Tdh = omega arith
state_low S.Data = omega arith
state_low S.CData = omega arith
state_low S.Three = omega arith
state_low S.CIhw = omega arith
state_low S.CTdh = omega arith

pub number_back : (n : ℕ) → n ≤ 6 → state_number (state_of n) ≡ n
number_back n h = at (eqb n 0) (eqb n 1) (eqb n 2) (eqb n 3) (eqb n 4) (eqb n 5) refl refl refl refl refl refl
  where
    at : (a b c d e f : Bool) → eqb n 0 ≡ a → eqb n 1 ≡ b → eqb n 2 ≡ c → eqb n 3 ≡ d → eqb n 4 ≡ e → eqb n 5 ≡ f
        → state_number (by_tests a b c d e f) ≡ n
    at true b c d e f p q r s t u = sym (eqb-true n 0 p)
    at false true c d e f p q r s t u = sym (eqb-true n 1 q)
    at false false true d e f p q r s t u = sym (eqb-true n 2 r)
    at false false false true e f p q r s t u = sym (eqb-true n 3 s)
    at false false false false true f p q r s t u = sym (eqb-true n 4 t)
    at false false false false false true p q r s t u = sym (eqb-true n 5 u)
    at false false false false false false p q r s t u =
        let n0 = eqb-false n 0 p in
        let n1 = eqb-false n 1 q in
        let n2 = eqb-false n 2 r in
        let n3 = eqb-false n 3 s in
        let n4 = eqb-false n 4 t in
        let n5 = eqb-false n 5 u in
        omega arith

pub starts : (s : State) → in_start s ≡ true → s ≡ S.Ihw
starts S.Ihw e = refl
starts S.Tdh e = absurd (true≢false (sym e))
starts S.Data e = absurd (true≢false (sym e))
starts S.CData e = absurd (true≢false (sym e))
starts S.Three e = absurd (true≢false (sym e))
starts S.CIhw e = absurd (true≢false (sym e))
starts S.CTdh e = absurd (true≢false (sym e))
