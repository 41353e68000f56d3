-- The codes that a word can give, by what it was taken as, and a law on what is said of some of them. No word gives 990.
-- Assumes nothing.
use Prim.Native.Nat.{ℕ}
use mathlib.Core.Path.{◌≡◌, refl, sym, ap, ◌∙◌}
use mathlib.Core.Bool.{Bool, true, false, not, ◌&&◌, ◌||◌, true≢false}
use mathlib.Core.List.{List, [], ◌∷◌}
use lib.Dec.{eqb}
use borrow.Author.Tests.{not-true, ne_eqb}
use Rattle.words.specs.declared.Word.{Word}
use Rattle.words.specs.Word.{id_of}
use Rattle.words.specs.Tdh.{trigger_bc, trigger_orbit}
use Rattle.words.specs.Lanes.{lane_answer, is_missing}
use Rattle.words.proofs.Tests.{both}
use Rattle.data_ids.specs.DataIds.{inner_lane, outer_lane}
use Rattle.packet.specs.Settings.{counts_orbits}
use Rattle.payload_fsm.specs.declared.ItsPayloadWord.{ItsPayloadWord}
use Rattle.payload_fsm.specs.declared.ItsPayloadWord.TheVariants as K
use Rattle.payload_fsm.proofs.Rows.{choice}
use Rattle.words.specs.Lists.{Each}
use Rattle.records.specs.declared.Row.{Row}
use Rattle.records.proofs.Given.{given_each, each_so}
use Rattle.tdh_validator.specs.Tdh.{illegal, orbit_difference, ran_back, interval}
use Rattle.cdp_running.specs.declared.Tracker.{Tracker}
use Rattle.cdp_running.specs.Word.{rows_as, rows_of, taken_as, position_now, records_of}

abbrev pub among : ℕ → List ℕ → Bool
among code [] = false
among code (c ∷ cs) = eqb code c || among code cs

abbrev pub codes_as : ItsPayloadWord → List ℕ
codes_as K.Ihw = 30 ∷ 1120 ∷ 1121 ∷ 1122 ∷ []
codes_as K.IhwContinuation = 30 ∷ []
codes_as K.Tdh = 40 ∷ 42 ∷ 444 ∷ 445 ∷ 44 ∷ 1045 ∷ 1046 ∷ 45 ∷ []
codes_as K.TdhAfterPacketDone = 40 ∷ 440 ∷ 1045 ∷ 1046 ∷ 45 ∷ []
codes_as K.TdhContinuation = 40 ∷ 41 ∷ 441 ∷ 442 ∷ 443 ∷ []
codes_as K.DataWord = 991 ∷ 81 ∷ 70 ∷ 1072 ∷ 1071 ∷ 1074 ∷ 1073 ∷ []
codes_as K.Cdw = 991 ∷ 81 ∷ 70 ∷ 1072 ∷ 1071 ∷ 1074 ∷ 1073 ∷ []
codes_as K.Tdt = 50 ∷ 59 ∷ []
codes_as K.Ddw0 = 992 ∷ 60 ∷ 1110 ∷ 1111 ∷ []

abbrev pub In : ItsPayloadWord → ℕ → Type 0
In kind code = among code (codes_as kind) ≡ true

-- A code that is not in a list is none that is.
pub other_code : (codes : List ℕ) {code c : ℕ} → among code codes ≡ false → among c codes ≡ true → code ≡ c → ⊥
other_code codes e p q = true≢false (sym p ∙ ap (λ (n : ℕ). among n codes) (sym q) ∙ e)

-- Whether a kind gives none of some codes.
abbrev pub without : List ℕ → ItsPayloadWord → Bool
without [] kind = true
without (c ∷ cs) kind = not (among c (codes_as kind)) && without cs kind

none_of : (codes : List ℕ) (kind : ItsPayloadWord) → without codes kind ≡ true → (code : ℕ) → In kind code
    → among code codes ≡ false
none_of [] kind e code i = refl
none_of (c ∷ cs) kind e code i =
    let (off, rest) = both (not (among c (codes_as kind))) (without cs kind) e in
    let apart = other_code (codes_as kind) (not-true _ off) i in
    rw (ne_eqb code c (λ q. apart (sym q))) (none_of cs kind rest code i)

-- The interval has one of three codes, in either kind.
interval_in : (kind : ItsPayloadWord) → In kind 1045 → In kind 1046 → In kind 45 → (t : Tracker) (w : Word)
    → In kind (interval t.settings t.stored.internal w).code
interval_in kind past back period t w =
    let previous = t.stored.internal.bc in
    let difference = orbit_difference t.stored.internal.orbit (trigger_orbit w) in
    choice (In kind) (illegal previous (trigger_bc w)) past
    (choice (In kind) (counts_orbits t.settings.rule && ran_back difference previous (trigger_bc w)) back period)

-- A data word and a CDW have the same rows. Those on a lane have 1074 where there is no such lane.
data_in : (guessed : Bool) (t : Tracker) (w : Word)
    → Each (λ row. In K.DataWord row.code) (rows_as K.DataWord guessed t w)
data_in guessed t w =
    let lane : Bool → ℕ → Bool = λ inner n. is_missing (lane_answer inner n t.stored.ihw.lanes) in
    let inner = choice (In K.DataWord) (lane true (inner_lane (id_of w))) refl refl in
    let outer = choice (In K.DataWord) (lane false (outer_lane (id_of w))) refl refl in
    (refl, (refl, (refl, (inner, (outer, (refl, tt))))))

pub rows_in : (kind : ItsPayloadWord) (guessed : Bool) (t : Tracker) (w : Word)
    → Each (λ row. In kind row.code) (rows_as kind guessed t w)
rows_in K.Ihw guessed t w = (refl, (refl, (refl, (refl, tt))))
rows_in K.IhwContinuation guessed t w = (refl, tt)
rows_in K.Tdh guessed t w =
    (refl, (refl, (refl, (refl, (refl, (interval_in K.Tdh refl refl refl t w, tt))))))
rows_in K.TdhAfterPacketDone guessed t w = (refl, (refl, (interval_in K.TdhAfterPacketDone refl refl refl t w, tt)))
rows_in K.TdhContinuation guessed t w = (refl, (refl, (refl, (refl, (refl, tt)))))
rows_in K.DataWord guessed t w = data_in guessed t w
rows_in K.Cdw guessed t w = data_in guessed t w
rows_in K.Tdt guessed t w = (refl, (refl, tt))
rows_in K.Ddw0 guessed t w = (refl, (refl, (refl, (refl, tt))))

no_990 : (kind : ItsPayloadWord) → without (990 ∷ []) kind ≡ true
no_990 K.Ihw = refl
no_990 K.IhwContinuation = refl
no_990 K.Tdh = refl
no_990 K.TdhAfterPacketDone = refl
no_990 K.TdhContinuation = refl
no_990 K.DataWord = refl
no_990 K.Cdw = refl
no_990 K.Tdt = refl
no_990 K.Ddw0 = refl

-- What holds of a row's code and first number where its condition holds.
abbrev pub Told : (ℕ → ℕ → Type 0) → Row → Type 0
Told P row = row.on ≡ true → P row.code row.first

module _ (t : Tracker) (w : Word) where
  -- A word gives no code but those of what it was taken as.
  pub codes_by_kind : Each (λ r. In (taken_as t w).word r.code) (records_of t w)
  unfolding records_of
  codes_by_kind =
      let a = taken_as t w in
      given_each (λ r. In a.word r.code) (position_now t) t.packets (rows_of t a w)
      (each_so (λ row p _. p) (rows_of t a w) (rows_in a.word a.guessed t w))

  -- What is said of records with some codes has to be shown of the rows of those kinds alone that give one of them.
  module _ (P : ℕ → ℕ → Type 0) (codes : List ℕ) (aside : (code first : ℕ) → among code codes ≡ false → P code first) where
    pub by_codes : ((kind : ItsPayloadWord) (guessed : Bool) → without codes kind ≡ false → (taken_as t w).word ≡ kind
        → Each (Told P) (rows_as kind guessed t w)) → Each (λ r. P r.code r.first) (records_of t w)
    unfolding records_of
    by_codes there =
        let a = taken_as t w in
        given_each (λ r. P r.code r.first) (position_now t) t.packets (rows_of t a w)
        (at a.word a.guessed refl (without codes a.word) refl)
      where
        at : (kind : ItsPayloadWord) (guessed : Bool) → (taken_as t w).word ≡ kind → (b : Bool) → without codes kind ≡ b
            → Each (Told P) (rows_as kind guessed t w)
        at kind guessed e true n =
            each_so (λ row i _. aside row.code row.first (none_of codes kind n row.code i))
            (rows_as kind guessed t w) (rows_in kind guessed t w)
        at kind guessed e false n = there kind guessed n e

  -- No record has code 990.
  pub none_990 : Each (λ r. r.code ≡ 990 → ⊥) (records_of t w)
  none_990 =
      let kind = (taken_as t w).word in
      each_so (λ r i. other_code (990 ∷ []) (none_of (990 ∷ []) kind (no_990 kind) r.code i) refl)
      (records_of t w) codes_by_kind
