-- Lanes that can't be (02, ticket 4): no data id has one, and each other id of a barrel has one. So a 1071 or 1072 names a lane that there is, and a word
-- with one of these other ids gets 1074 whichever lanes are active.
-- Assumes nothing.
use Rattle.std.proofs.Common.{ℕ, ◌/◌, ◌≤◌, ◌<◌, ◌≡◌, refl, sym, ap, ◌∙◌, Bool, true, false, cond, not, ◌&&◌, true≢false, [], ◌∷◌, arith, ltb, eqb}
use Rattle.std.proofs.Common.{ltb-true, ltb-false, eqb-true, ne_eqb, lt-ltb, le-ltb}
use mathlib.Core.Bool.{and-false}
use borrow.Author.Tests.{eqb-false, not-false}
use Rattle.words.specs.declared.Word.{Word}
use Rattle.words.specs.declared.lanes.LaneAnswer.TheVariants as L
use Rattle.words.specs.Word.{id_of}
use Rattle.words.specs.Lanes.{is_lane_active, last_lane, is_active}
use Rattle.words.proofs.Bits.{bits_below}
use Rattle.words.proofs.Tests.{both}
use Rattle.data_ids.specs.DataIds.{is_data_id, inner_lane, outer_lane, input_number, lane_number, is_inner, lane_of}
use Rattle.data_ids.proofs.Table.{same_at_ids}
use Rattle.packet.specs.declared.Settings.{Settings}
use Rattle.words.specs.Lists.{Each}
use Rattle.records.specs.Records.{Record, given, record_at, when}
use Rattle.stored.specs.declared.StoredCdw.{StoredCdw}
use Rattle.stored.specs.Stored.{first_cdw}
use Rattle.validators.specs.DataWords.{inner, outer, lane_code, lane_row, data_rows}

-- The ids of a barrel, by their top bits.
abbrev in_barrel : Bool → ℕ → Bool
in_barrel ofInner id = eqb (id / 32) (cond ofInner 0b001 0b010)

-- Of these, those whose lane is above the barrel's last are those that are no data ids. Computed over the 256 ids.
past_last : (ofInner : Bool) (id : ℕ) → id < 256
    → (in_barrel ofInner id && ltb (last_lane ofInner) (lane_number id ofInner)) ≡ (in_barrel ofInner id
    && not (is_data_id id))
past_last true = same_at_ids _ _ refl
past_last false = same_at_ids _ _ refl

-- No data id has a lane that can't be.
no_data_id : (id : ℕ) → id < 256 → (is_data_id id && ltb (last_lane (is_inner id)) (lane_of id)) ≡ false
no_data_id = same_at_ids _ (λ i. false) refl

pub data_lane : (id : ℕ) → id < 256 → is_data_id id ≡ true → lane_of id ≤ last_lane (is_inner id)
data_lane id h e = ltb-false (last_lane (is_inner id)) (lane_of id) (simp e at (no_data_id id h))

-- What a record says of the lane in its first number: with 1072 and 1071 that there is such a lane, with 1074 that there is none and that the id is no data id.
pub record Cable (id code first : ℕ) : Type 0 where
  pub inner_lane_is : code ≡ 1072 → first ≤ last_lane true
  pub outer_lane_is : code ≡ 1071 → first ≤ last_lane false
  pub no_lane : code ≡ 1074 → (last_lane (is_inner id) < first) × (is_data_id id ≡ false)

far : {id first : ℕ} {on : Bool} (code : ℕ) → eqb code 1072 ≡ false → eqb code 1071 ≡ false → eqb code 1074 ≡ false
    → on ≡ true → Cable id code first
far code e f g _ =
    record {
      inner_lane_is = λ q. absurd (eqb-false code 1072 e q);
      outer_lane_is = λ q. absurd (eqb-false code 1071 f q);
      no_lane = λ q. absurd (eqb-false code 1074 g q);
    }

module _ (id : ℕ) (bound : id < 256) where
  there : (ofInner : Bool) (lane : ℕ) → lane ≤ last_lane ofInner → Cable id (cond ofInner 1072 1071) lane
  there true lane le =
      record { inner_lane_is = λ _. le; outer_lane_is = λ q. absurd (omega arith); no_lane = λ q. absurd (omega arith) }
  there false lane le =
      record { inner_lane_is = λ q. absurd (omega arith); outer_lane_is = λ _. le; no_lane = λ q. absurd (omega arith) }

  its_barrel : (ofInner : Bool) → in_barrel ofInner id ≡ true → is_inner id ≡ ofInner
  its_barrel true e = let top = eqb-true (id / 32) 1 e in lt-ltb id 0x40 (omega arith)
  its_barrel false e = let top = eqb-true (id / 32) 2 e in le-ltb id 0x40 (omega arith)

  no_data : (known none : Bool) → none ≡ not known → none ≡ true → known ≡ false
  no_data true none e p = absurd (true≢false (sym p ∙ e))
  no_data false none e p = refl

  missing : (ofInner : Bool) → in_barrel ofInner id ≡ true → ltb (last_lane ofInner) (lane_number id ofInner) ≡ true
      → Cable id 1074 (lane_number id ofInner)
  missing ofInner barrel none =
      record {
        inner_lane_is = λ q. absurd (omega arith);
        outer_lane_is = λ q. absurd (omega arith);
        no_lane = λ _. (
          rw (its_barrel ofInner barrel) (ltb-true (last_lane ofInner) (lane_number id ofInner) none),
          no_data (is_data_id id) (ltb (last_lane ofInner) (lane_number id ofInner))
              (simp barrel at (past_last ofInner id bound)) none,
        );
      }

  -- The row on a lane, by the answer.
  lane_told : (active : ℕ) (ofInner laned : Bool) (lane : ℕ) → lane ≡ lane_number id ofInner
      → (lane_row (laned && in_barrel ofInner id) (cond ofInner 1072 1071) ofInner lane active).on ≡ true
      → Cable id (lane_row (laned && in_barrel ofInner id) (cond ofInner 1072 1071) ofInner lane active).code lane
  lane_told active ofInner laned lane is = at (ltb (last_lane ofInner) lane) (is_lane_active lane active) refl
    where
      at : (none on : Bool) → ltb (last_lane ofInner) lane ≡ none
          → ((laned && in_barrel ofInner id) && not (is_active (cond none L.NoSuchLane (cond on L.Active L.NotActive))))
          ≡ true
          → Cable id (lane_code (cond ofInner 1072 1071) (cond none L.NoSuchLane (cond on L.Active L.NotActive))) lane
      at true on e asked =
          rw is (missing ofInner (both laned (in_barrel ofInner id)
          (both (laned && in_barrel ofInner id) true asked).0).1 (rw is at e))
      at false true e asked = there ofInner lane (ltb-false (last_lane ofInner) lane e)
      at false false e asked = there ofInner lane (ltb-false (last_lane ofInner) lane e)

-- A 1072 or 1071 names a lane that there is; a 1074 comes of an id that is no data id.
pub lanes_told : (s : Settings) (seen : Bool) (lanes : ℕ) (stored : StoredCdw) (guessed : Bool) (w : Word)
    → Each (λ row. row.on ≡ true → Cable (id_of w) row.code row.first) (data_rows s seen lanes stored guessed w)
lanes_told s seen lanes stored guessed w =
    let id = id_of w in
    let bound = bits_below 79 72 w in
    let laned = s.running && not (first_cdw seen w) in (
      far 991 refl refl refl,
      (
        far 81 refl refl refl,
        (
          far 70 refl refl refl,
          (
            lane_told id bound lanes true laned (inner_lane id) refl,
            (lane_told id bound lanes false laned (outer_lane id) refl, (far 1073 refl refl refl, tt)),
          ),
        ),
      ),
    )

-- An outer id that is no data id has the input number 7.
input_7 : (id : ℕ) → id < 256 → (in_barrel false id && (not (is_data_id id) && not (eqb (input_number id) 7))) ≡ false
input_7 = same_at_ids _ (λ i. false) refl

-- The records of a word with such an id, with running checks: these and no others, whichever lanes are active.
module _ (s : Settings) (running : s.running ≡ true) (seen : Bool) (lanes : ℕ) (stored : StoredCdw) (w : Word)
    (other : is_data_id (id_of w) ≡ false) (position packet : ℕ) where
  abbrev say : ℕ → ℕ → ℕ → Record
  say code first second = record_at position packet (when true code first second)

  bound : id_of w < 256
  bound = bits_below 79 72 w

  no_cdw : {top : ℕ} → id_of w / 32 ≡ top → top < 7 → eqb (id_of w) 0xF8 ≡ false
  no_cdw e lt = ne_eqb (id_of w) 0xF8 (λ q. omega arith)

  pub inner_missing : inner w ≡ true
      → given position packet (data_rows s seen lanes stored true w) ≡ say 991 (id_of w) 0 ∷ say 70 (id_of w) 0 ∷ say 1074
      (inner_lane (id_of w)) lanes ∷ []
  unfolding given
  inner_missing barrel =
      let top = eqb-true (id_of w / 32) 1 barrel in
      let none = simp (barrel, other) at (past_last true (id_of w) bound) in
      let no_outer : outer w ≡ false = ap (λ (n : ℕ). eqb n 2) top in
      simp (running, no_cdw top (omega arith), and-false, other, barrel, none, no_outer)

  pub outer_missing : outer w ≡ true
      → given position packet (data_rows s seen lanes stored true w)
      ≡ say 991 (id_of w) 0 ∷ say 70 (id_of w) 0 ∷ say 1074 (outer_lane (id_of w)) lanes ∷ say 1073 7 0 ∷ []
  unfolding given
  outer_missing barrel =
      let top = eqb-true (id_of w / 32) 2 barrel in
      let none = simp (barrel, other) at (past_last false (id_of w) bound) in
      let no_inner : inner w ≡ false = ap (λ (n : ℕ). eqb n 1) top in
      let seven = eqb-true (input_number (id_of w)) 7 (not-false _ (simp (barrel, other) at (input_7 (id_of w) bound))) in
      simp (running, no_cdw top (omega arith), and-false, other, barrel, none, no_inner, seven)
