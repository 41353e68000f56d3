-- The page at an IHW (02, ticket 3): 1121 comes from the start state only and 1122 from the three-way state only, so no word gives both. A clean IHW
-- on the page that its state asks for gives no record.
-- Assumes nothing.
use Prim.Native.Nat.{ℕ, ◌<◌}
use mathlib.Core.Path.{◌≡◌, refl, sym, ap, ◌∙◌}
use mathlib.Core.Bool.{Bool, true, false, not, ◌&&◌, and-false, true≢false}
use mathlib.Core.List.{List, [], ◌∷◌}
use native.Mathlib.Omega.{arith}
use lib.Dec.{eqb}
use borrow.Author.Tests.{not-true, ne_eqb}
use Rattle.words.specs.declared.Word.{Word}
use Rattle.words.specs.Word.{id_of}
use Rattle.words.specs.Ihw.{ihw_id, is_reserved0}
use Rattle.words.proofs.Tests.{both}
use Rattle.payload_fsm.specs.declared.State.TheVariants as S
use Rattle.payload_fsm.specs.declared.ItsPayloadWord.{ItsPayloadWord}
use Rattle.payload_fsm.specs.declared.ItsPayloadWord.TheVariants as K
use Rattle.payload_fsm.specs.Step.{is_three}
use Rattle.payload_fsm.proofs.States.{three_is, start_or_three}
use Rattle.words.specs.Lists.{Each}
use Rattle.records.specs.Records.{given}
use Rattle.records.proofs.Given.{each_so}
use Rattle.records.specs.Detail.{differ}
use Rattle.cdp_running.specs.declared.Tracker.{Tracker}
use Rattle.cdp_running.specs.Word.{rows_as, taken_as, records_of}
use Rattle.cdp_running.proofs.Codes.{among, other_code, without, Told, by_codes}

module _ (t : Tracker) (w : Word) where
  abbrev From : ℕ → ℕ → Type 0
  From code first = (code ≡ 1121 → t.at.fsm.state ≡ S.Ihw) × (code ≡ 1122 → t.at.fsm.state ≡ S.Three)

  abbrev page_codes : List ℕ
  page_codes = 1121 ∷ 1122 ∷ []

  aside : (code first : ℕ) → among code page_codes ≡ false → From code first
  aside code first e = (λ q. absurd (other_code page_codes e refl q), λ q. absurd (other_code page_codes e refl q))

  -- What a row asks of the state holds where its condition does.
  asked : (there page : Bool) → (t.settings.running && (there && page)) ≡ true → there ≡ true
  asked there page on = (both there page (both t.settings.running (there && page) on).1).0

  of_ihw : (taken_as t w).word ≡ K.Ihw → (guessed : Bool) → Each (Told From) (rows_as K.Ihw guessed t w)
  of_ihw e guessed =
      let three = is_three t.at.fsm.state in
      let page = t.packet.page in
      let first : t.settings.running && (not three && differ page 0) ≡ true → From 1121 page =
      λ on. (
        λ _. start_or_three t.at.fsm.state w e (not-true three (asked (not three) (differ page 0) on)),
        λ q. absurd (omega arith),
      ) in
      let later : t.settings.running && (three && eqb page 0) ≡ true → From 1122 0 =
      λ on. (λ q. absurd (omega arith), λ _. three_is t.at.fsm.state (asked three (eqb page 0) on)) in
      (λ _. aside 30 0 refl, (λ _. aside 1120 0 refl, (first, (later, tt))))

  by_kind : (kind : ItsPayloadWord) (guessed : Bool) → without page_codes kind ≡ false → (taken_as t w).word ≡ kind
      → Each (Told From) (rows_as kind guessed t w)
  by_kind K.Ihw guessed n e = of_ihw e guessed
  by_kind K.IhwContinuation guessed n e = absurd (true≢false n)
  by_kind K.Tdh guessed n e = absurd (true≢false n)
  by_kind K.TdhAfterPacketDone guessed n e = absurd (true≢false n)
  by_kind K.TdhContinuation guessed n e = absurd (true≢false n)
  by_kind K.DataWord guessed n e = absurd (true≢false n)
  by_kind K.Cdw guessed n e = absurd (true≢false n)
  by_kind K.Tdt guessed n e = absurd (true≢false n)
  by_kind K.Ddw0 guessed n e = absurd (true≢false n)

  -- 1121 from the start state only, 1122 from the three-way state only.
  pub only_there : Each (λ r. (r.code ≡ 1121 → t.at.fsm.state ≡ S.Ihw)
      × (r.code ≡ 1122 → t.at.fsm.state ≡ S.Three)) (records_of t w)
  only_there = by_codes t w From page_codes aside by_kind

  -- No word gives both.
  pub never_both : Each (λ r. Each (λ s. r.code ≡ 1121 → s.code ≡ 1122 → ⊥) (records_of t w)) (records_of t w)
  never_both =
      each_so (λ r p. each_so (λ s q e f. true≢false (sym (ap is_three (sym (p.0 e) ∙ q.1 f))))
      (records_of t w) only_there)
      (records_of t w) only_there

  -- A clean IHW, with stop 0, gives no record on page 0 in the start state, and none on any later page in the three-way state.
  module _ (id : id_of w ≡ ihw_id) (clear : is_reserved0 w ≡ true) (stop : t.packet.stop ≡ 0) where
    pub clean_first_page : t.at.fsm.state ≡ S.Ihw → t.packet.page ≡ 0 → records_of t w ≡ []
    unfolding records_of given
    clean_first_page s page = simp (s, id, clear, stop, page, and-false)

    pub clean_later_page : t.at.fsm.state ≡ S.Three → 0 < t.packet.page → records_of t w ≡ []
    unfolding records_of given
    clean_later_page s page =
        let above : eqb t.packet.page 0 ≡ false = ne_eqb t.packet.page 0 (λ e. omega arith) in
        simp (s, id, clear, stop, above, and-false)
