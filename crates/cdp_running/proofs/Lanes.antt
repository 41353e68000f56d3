-- A lane that can't be (02, ticket 4), of the records of a word: a 1072 or 1071 names a lane that there is, and a 1074 comes of an id that is no data id. With
-- running checks each id of a barrel that is no data id gets it.
-- Assumes nothing.
use Prim.Native.Nat.{ℕ, ◌/◌, ◌<◌}
use mathlib.Core.Path.{◌≡◌, refl, ◌∙◌}
use mathlib.Core.Bool.{Bool, true, false, true≢false}
use mathlib.Core.List.{List, [], ◌∷◌}
use native.Mathlib.Omega.{arith}
use lib.Dec.{eqb}
use borrow.Author.Tests.{eqb-true, ne_eqb}
use Rattle.words.specs.declared.Word.{Word}
use Rattle.words.specs.Word.{id_of}
use Rattle.data_ids.specs.DataIds.{is_data_id, inner_lane, outer_lane}
use Rattle.payload_fsm.specs.declared.ItsPayloadWord.{ItsPayloadWord}
use Rattle.payload_fsm.specs.declared.ItsPayloadWord.TheVariants as K
use Rattle.payload_fsm.specs.Step.{among_data, guess}
use Rattle.payload_fsm.proofs.States.{in_data_lem}
use Rattle.words.specs.Lists.{Each}
use Rattle.records.specs.Records.{Record, record_at, when}
use Rattle.validators.specs.DataWords.{inner, outer}
use Rattle.validators.proofs.Lanes.{Cable, lanes_told, inner_missing, outer_missing}
use Rattle.cdp_running.specs.declared.Tracker.{Tracker}
use Rattle.cdp_running.specs.Word.{rows_as, taken_as, position_now, records_of}
use Rattle.cdp_running.proofs.Codes.{among, other_code, without, Told, by_codes}

module _ (t : Tracker) (w : Word) where
  abbrev lane_codes : List ℕ
  lane_codes = 1072 ∷ 1071 ∷ 1074 ∷ []

  aside : (code first : ℕ) → among code lane_codes ≡ false → Cable (id_of w) code first
  aside code first e =
      record {
        inner_lane_is = λ q. absurd (other_code lane_codes e refl q);
        outer_lane_is = λ q. absurd (other_code lane_codes e refl q);
        no_lane = λ q. absurd (other_code lane_codes e refl q);
      }

  -- The three codes are of a data word or CDW alone, which have the same rows.
  of_data : (guessed : Bool) → Each (Told (Cable (id_of w))) (rows_as K.DataWord guessed t w)
  of_data guessed = lanes_told t.settings t.at.seen t.stored.ihw.lanes t.stored.cdw guessed w

  by_kind : (kind : ItsPayloadWord) (guessed : Bool) → without lane_codes kind ≡ false → (taken_as t w).word ≡ kind
      → Each (Told (Cable (id_of w))) (rows_as kind guessed t w)
  by_kind K.Ihw guessed n e = absurd (true≢false n)
  by_kind K.IhwContinuation guessed n e = absurd (true≢false n)
  by_kind K.Tdh guessed n e = absurd (true≢false n)
  by_kind K.TdhAfterPacketDone guessed n e = absurd (true≢false n)
  by_kind K.TdhContinuation guessed n e = absurd (true≢false n)
  by_kind K.DataWord guessed n e = of_data guessed
  by_kind K.Cdw guessed n e = of_data guessed
  by_kind K.Tdt guessed n e = absurd (true≢false n)
  by_kind K.Ddw0 guessed n e = absurd (true≢false n)

  pub cables : Each (λ r. Cable (id_of w) r.code r.first) (records_of t w)
  cables = by_codes t w (Cable (id_of w)) lane_codes aside by_kind

  -- With running checks, in DATA_ and c_DATA_: the records of a word whose id is of a barrel and no data id, whatever came before.
  module _ (state : among_data t.at.fsm.state ≡ true) (running : t.settings.running ≡ true)
      (other : is_data_id (id_of w) ≡ false) where
    abbrev say : ℕ → ℕ → ℕ → Record
    say code first second = record_at (position_now t) t.packets (when true code first second)

    -- Neither a TDT nor a CDW.
    guessed : {top : ℕ} → id_of w / 32 ≡ top → top < 7 → taken_as t w ≡ guess K.DataWord t.at.fsm.state
    guessed e lt =
        let no_tdt : eqb (id_of w) 0xF0 ≡ false = ne_eqb (id_of w) 0xF0 (λ q. omega arith) in
        let no_cdw : eqb (id_of w) 0xF8 ≡ false = ne_eqb (id_of w) 0xF8 (λ q. omega arith) in
        in_data_lem t.at.fsm.state w state ∙ simp (no_tdt, no_cdw, other)

    pub inner_1074 : inner w ≡ true → records_of t w ≡ say 991 (id_of w) 0 ∷ say 70 (id_of w) 0 ∷ say 1074
        (inner_lane (id_of w)) t.stored.ihw.lanes ∷ []
    unfolding records_of
    inner_1074 barrel =
        rw (guessed (eqb-true (id_of w / 32) 1 barrel) (omega arith))
        (inner_missing t.settings running t.at.seen t.stored.ihw.lanes t.stored.cdw w other
        (position_now t) t.packets barrel)

    pub outer_1074 : outer w ≡ true
        → records_of t w ≡ say 991 (id_of w) 0 ∷ say 70 (id_of w) 0 ∷ say 1074 (outer_lane (id_of w))
        t.stored.ihw.lanes ∷ say 1073 7 0 ∷ []
    unfolding records_of
    outer_1074 barrel =
        rw (guessed (eqb-true (id_of w / 32) 2 barrel) (omega arith))
        (outer_missing t.settings running t.at.seen t.stored.ihw.lanes t.stored.cdw w other
        (position_now t) t.packets barrel)
