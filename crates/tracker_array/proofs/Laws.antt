-- Laws of the numbers: a tracker is read back from its numbers, and whatever is read is a tracker with just these numbers.
-- Assumes nothing.
use Prim.Native.Nat.{ℕ, ◌-◌, ◌≤◌, ◌<◌, ◌^◌}
use mathlib.Core.Path.{◌≡◌, refl, sym, ap, ◌∙◌}
use mathlib.Core.Bool.{Bool, true, false, ◌&&◌, ◌||◌, or-true, true≢false}
use mathlib.Core.List.{List, ◌++◌}
use mathlib.Core.Logic.{◌↔◌}
use native.Mathlib.Omega.{arith}
use lib.Dec.{leb, ltb, eqb}
use lib.ListN.{length, replicate}
use borrow.Author.Tests.{leb-true, eqb-true, eqb-false, le-leb, lt-ltb, eq-eqb, ne_eqb}
use Rattle.words.proofs.Tests.{both, and_is, tests_agree, tests}
use Rattle.std.specs.Prelude.{Option, None, Some, is_some, unwrap_or}
use Rattle.std.specs.Bool.{then_some}
use Rattle.packet.specs.declared.Rule.{Rule}
use Rattle.packet.specs.Settings.{period_of}
use Rattle.packet.specs.declared.Rule.TheVariants as R
use Rattle.cdp_running.specs.declared.Tracker.{Tracker}
use Rattle.cdp_running.specs.Tracker.{Good}
use Rattle.tracker_array.specs.Array.{size, flag, rule_number, encode_of, is_on, is_flag, is_rule, rule_of, Sized, IsTracker, NoTracker}
use Rattle.tracker_array.specs.Place as P
use Rattle.tracker_array.specs.Read.{place, settings_in, tracker_in, zeros_from, in_form, settings_good, kept_good, is_good, is_tracker}
use Rattle.tracker_array.specs.Good.{InForm, Fits, GoodArray}
use Rattle.tracker_array.proofs.State.{state_back, state_low, number_back}
use Rattle.tracker_array.proofs.Stores.{numbers_from, spelled, in_two, all_zero}
use Rattle.tracker_array.proofs.Invariant.{tests_good, good_tests}

flag_low : (b : Bool) → is_flag (flag b) ≡ true
flag_low true = refl
flag_low false = refl

pub flag_back : (b : Bool) → is_on (flag b) ≡ b
flag_back true = refl
flag_back false = refl

number_flag : (n : ℕ) → n ≤ 1 → flag (is_on n) ≡ n
number_flag n low = at (is_on n) refl
  where
    at : (b : Bool) → eqb n 1 ≡ b → flag b ≡ n
    at true p = sym (eqb-true n 1 p)
    at false p = let not-one = eqb-false n 1 p in omega arith

rule_back : (r : Rule) → rule_of (rule_number r) ≡ r
rule_back R.One = refl
rule_back R.Two = refl

rule_low : (r : Rule) → is_rule (rule_number r) ≡ true
rule_low R.One = refl
rule_low R.Two = refl

number_rule : (n : ℕ) → (eqb n 1 ≡ false → n ≡ 2) → rule_number (rule_of n) ≡ n
number_rule n two = at (eqb n 1) refl
  where
    at : (b : Bool) → eqb n 1 ≡ b → rule_number (rule_of n) ≡ n
    at true p = let one = eqb-true n 1 p in rw one refl
    at false p = rw (two p) refl

-- A period, and the two numbers that it is.
period_back : (o : Option ℕ) → then_some (is_some o) (unwrap_or o 0) ≡ o
period_back None = refl
period_back (Some n) = refl

there_back : (on : Bool) (n : ℕ) → is_some (then_some on n) ≡ on
there_back true n = refl
there_back false n = refl

number_period : (on : Bool) (n : ℕ) → (on ≡ false → n ≡ 0) → unwrap_or (then_some on n) 0 ≡ n
number_period true n zero = refl
number_period false n zero = sym (zero refl)

period_good : (o : Option ℕ) → unwrap_or o 0 < 2 ^ 32
    → (ltb (unwrap_or o 0) (2 ^ 32) && (is_on (flag (is_some o)) || eqb (unwrap_or o 0) 0)) ≡ true
period_good None low = refl
period_good (Some n) low = simp (lt-ltb _ _ low)

settings_low : (a : List ℕ) → settings_good a ≡ true → period_of (settings_in a) < 2 ^ 32
settings_low a e =
    let (low, zero) = simp tests at e in
    rw (number_period (is_on (place a P.periodic)) (place a P.period) zero) low

-- Where the numbers of the settings are good, the width of the period asks nothing more.
pub width_asked : (a : List ℕ) → (settings_good a && (leb (place a P.state) 6 && kept_good (tracker_in a)))
    ≡ (settings_good a && (leb (place a P.state) 6 && is_good (tracker_in a)))
width_asked a = at (settings_good a) refl
  where
    at : (b : Bool) → settings_good a ≡ b → (b && (leb (place a P.state) 6 && kept_good (tracker_in a)))
        ≡ (b && (leb (place a P.state) 6 && is_good (tracker_in a)))
    at true e = let low = lt-ltb _ _ (settings_low a e) in simp low
    at false e = refl

-- A tracker's numbers pass five tests.
tracker_is : (a : List ℕ) → (is_tracker a ≡ true)
    ↔ ((length a ≡ size) × ((in_form a ≡ true) × ((settings_good a ≡ true) × ((place a P.state ≤ 6) × (is_good (tracker_in a) ≡ true)))))
unfolding is_tracker
tracker_is a = (
  λ e.
      let (l, rest) = both (eqb (length a) size) _ e in
      let (form, more) = both (in_form a) _ rest in
      let (settings, last) = both (settings_good a) _ more in
      let (low, good) = both (leb (place a P.state) 6) _ last in
      (eqb-true _ _ l, (form, (settings, (leb-true _ _ low, good)))),
  λ (l, (form, (settings, (low, good)))).
      (and_is _ _).1 (eq-eqb _ _ l, (and_is _ _).1 (form, (and_is _ _).1 (settings, (and_is _ _).1 (le-leb _ _ low, good)))),
)

module _ (t : Tracker) where
  abbrev with_period : Option ℕ → Tracker
  with_period o =
      record {
        settings = record { running = t.settings.running; frames = t.settings.frames; period = o; rule = t.settings.rule };
        accepted = t.accepted;
        packets = t.packets;
        packet = t.packet;
        at = t.at;
        stored = t.stored;
        frame = t.frame;
      }

  pub reads_back : tracker_in (encode_of t) ≡ t
  unfolding encode_of
  reads_back = simp (flag_back, rule_back, state_back) (ap with_period (period_back t.settings.period))

  zeros_back : zeros_from (size - P.unused) P.unused (encode_of t) ≡ true
  unfolding encode_of zeros_from
  zeros_back = refl

  form_back : in_form (encode_of t) ≡ true
  unfolding encode_of
  form_back = simp (flag_low, rule_low, zeros_back)

  state_back_low : place (encode_of t) P.state ≤ 6
  unfolding encode_of
  state_back_low = state_low t.at.fsm.state

  settings_back : Sized t → settings_good (encode_of t) ≡ true
  unfolding encode_of
  settings_back s = period_good t.settings.period s.period

  long_back : length (encode_of t) ≡ size
  unfolding encode_of
  long_back = refl

  pub tracker_back : Good t → Sized t → is_tracker (encode_of t) ≡ true
  tracker_back g s =
      (tracker_is (encode_of t)).1 (long_back, (form_back, (settings_back s, (state_back_low, ap is_good reads_back ∙ good_tests t g s))))

-- No two trackers have the same numbers.
pub encode_apart : (t u : Tracker) → encode_of t ≡ encode_of u → t ≡ u
encode_apart t u e = sym (reads_back t) ∙ ap tracker_in e ∙ reads_back u

-- A tracker's numbers are those of what they are read as: flags and the state are read back, and the mark and the unused places are known.
pub written : (a : List ℕ) → is_tracker a ≡ true → a ≡ encode_of (tracker_in a)
unfolding numbers_from encode_of
written a e =
    let (long, (form, (settings, (low, good)))) = (tracker_is a).0 e in
    let (_, none) = simp tests at settings in
    let (m, ((running, (frames, (periodic, (accepted, (seen, (ihw, (tdh, (internal, (cdw, opened))))))))), (two, zeros))) = simp tests at form in
    sym (spelled size 0 a long)
    ∙ in_two P.unused (size - P.unused) 0 a
    ∙ ap (λ (l : List ℕ). numbers_from P.unused 0 a ++ l) (all_zero (size - P.unused) P.unused a zeros)
    ∙ simp (m, there_back, number_period (is_on (place a P.periodic)) (place a P.period) none, number_flag, number_rule (place a P.rule) two, number_back)

-- What they are read as is a tracker that the start or a call can have given.
pub tracker_good : (a : List ℕ) → is_tracker a ≡ true → Good (tracker_in a) × Sized (tracker_in a)
tracker_good a e =
    let (long, (form, (settings, (low, tested)))) = (tracker_is a).0 e in
    tests_good (tracker_in a) tested

-- They fit the widths that they are read with.
pub tracker_fits : (a : List ℕ) → is_tracker a ≡ true → Fits a
tracker_fits a e =
    let (long, (form, (settings, (low, tested)))) = (tracker_is a).0 e in
    let (good, sized) = tests_good (tracker_in a) tested in
    let (period, none) = simp tests at settings in
    let (position, (orbit, (trigger, (bc, (page, (stop, two)))))) = simp tests at good.packet in
    let format = at (eqb (place a P.format) 0) refl two in
    omega arith
  where
    at : (b : Bool) → eqb (place a P.format) 0 ≡ b → (b ≡ false → place a P.format ≡ 2) → place a P.format < 2 ^ 8
    at true none two = omega (arith, eqb-true (place a P.format) 0 none)
    at false some two = omega (arith, two refl)

-- The tests decide which numbers are a tracker's: those that pass them are those of the tracker that they are read as, and no others are a tracker's.
pub tests_decide : (a : List ℕ) → (is_tracker a ≡ true) ↔ IsTracker a (tracker_in a)
tests_decide a = (
  λ e. let (good, sized) = tracker_good a e in record { numbers = written a e; good = good; sized = sized },
  λ i. ap is_tracker i.numbers ∙ tracker_back (tracker_in a) i.good i.sized,
)

-- The invariant of an array is the test, in both directions; a tracker's own numbers meet it.
pub good_array : (a : List ℕ) → is_tracker a ≡ true → GoodArray a
good_array a e = record { is = (tests_decide a).0 e; fits = tracker_fits a e }

pub good_again : (t : Tracker) → Good t → Sized t → GoodArray (encode_of t)
good_again t g s = good_array (encode_of t) (tracker_back t g s)

pub array_good : (a : List ℕ) → GoodArray a → is_tracker a ≡ true
array_good a h = (tests_decide a).1 h.is

-- Numbers that passed the test of form.
pub in_form_lem : (a : List ℕ) → length a ≡ size → in_form a ≡ true → InForm a
in_form_lem a long e =
    let (m, ((running, (frames, (periodic, (accepted, (seen, (ihw, (tdh, (internal, (cdw, opened))))))))), (two, zeros))) = simp tests at e in
    record { long = long; form = e; frames = frames; periodic = periodic; ihw = ihw; tdh = tdh; internal = internal; cdw = cdw; opened = opened }

-- Where no packet was accepted, a tracker is one that the start gave: nothing stands in it but the settings.
pub bare_good : (a : List ℕ) → InForm a → is_on (place a P.accepted) ≡ false
    → (settings_good a && zeros_from (P.unused - P.packets) P.packets a) ≡ (settings_good a
    && (leb (place a P.state) 6 && is_good (tracker_in a)))
unfolding numbers_from encode_of zeros_from
bare_good a f off = tests_agree _ _ there back
  where
    there : (settings_good a && zeros_from (P.unused - P.packets) P.packets a) ≡ true
        → (settings_good a && (leb (place a P.state) 6 && is_good (tracker_in a))) ≡ true
    there e =
        let (set, zeros) = both (settings_good a) _ e in
        let same : a ≡ numbers_from P.packets 0 a ++ (replicate (P.unused - P.packets) 0
        ++ numbers_from (size - P.unused) P.unused a) =
        sym (spelled size 0 a f.long) ∙ in_two P.packets (size - P.packets) 0 a
        ∙ ap (λ (l : List ℕ). numbers_from P.packets 0 a ++ l)
        (in_two (P.unused - P.packets) (size - P.unused) P.packets a
        ∙ ap (λ (l : List ℕ). l ++ numbers_from (size - P.unused) P.unused a)
        (all_zero (P.unused - P.packets) P.packets a zeros)) in
        sym (width_asked a)
        ∙ (and_is _ _).1 (set, ap (λ (l : List ℕ). leb (place l P.state) 6 && kept_good (tracker_in l)) same ∙ simp (off, or-true))

    back : (settings_good a && (leb (place a P.state) 6 && is_good (tracker_in a))) ≡ true
        → (settings_good a && zeros_from (P.unused - P.packets) P.packets a) ≡ true
    back e =
        let (set, rest) = both (settings_good a) _ e in
        let (low, good) = both (leb (place a P.state) 6) _ rest in
        let own = written a ((tracker_is a).1 (f.long, (f.form, (set, (leb-true _ _ low, good))))) in
        let bare = (tests_good (tracker_in a) good).0.fresh off in
        (and_is _ _).1 (set, ap (zeros_from (P.unused - P.packets) P.packets) (own ∙ ap encode_of bare))

pub read_as : (a : List ℕ) (t : Tracker) → IsTracker a t → tracker_in a ≡ t
read_as a t i = ap tracker_in i.numbers ∙ reads_back t

-- No numbers are those of two trackers.
pub one_tracker : (a : List ℕ) (t u : Tracker) → IsTracker a t → IsTracker a u → t ≡ u
one_tracker a t u i k = encode_apart t u (sym i.numbers ∙ k.numbers)

pub no_tracker_lem : (a : List ℕ) → is_tracker a ≡ false → NoTracker a
no_tracker_lem a e t i = true≢false (sym (ap is_tracker i.numbers ∙ tracker_back t i.good i.sized) ∙ e)

-- Numbers are a tracker's, or no tracker's.
pub data Decided (a : List ℕ) : Type 0 where
  is : (t : Tracker) → IsTracker a t → Decided a
  none : NoTracker a → Decided a

pub decide : (a : List ℕ) → Decided a
decide a = at (is_tracker a) refl
  where
    at : (b : Bool) → is_tracker a ≡ b → Decided a
    at true e = is (tracker_in a) ((tests_decide a).0 e)
    at false e = none (no_tracker_lem a e)

-- Zeros are no tracker, and neither is an array of another length.
pub zeros_none : NoTracker (replicate size 0)
unfolding is_tracker
zeros_none = no_tracker_lem (replicate size 0) refl

pub another_length : (a : List ℕ) → (length a ≡ size → ⊥) → NoTracker a
unfolding is_tracker
another_length a h = no_tracker_lem a (simp (ne_eqb _ _ h))

-- What the code tests, one half after the other.
module _ (a : List ℕ) where
  pub tested : {f g : Bool} → length a ≡ size → f ≡ in_form a → g ≡ (settings_good a && (leb (place a P.state) 6 && is_good (tracker_in a)))
      → is_tracker a ≡ (f && g)
  unfolding is_tracker
  tested l p q = simp (eq-eqb _ _ l, p, q)

  pub of_length : (length a ≡ size → ⊥) → is_tracker a ≡ false
  unfolding is_tracker
  of_length h = simp (ne_eqb _ _ h)
