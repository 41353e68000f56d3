-- 01, "Records": "Data word or CDW kind: with no data seen yet in this packet and id 0xF8: R, 81 if a CDW was stored before, user fields differ and index
-- is not 0 (index); then it is stored. Else 70 if not a data id (id); then R, top bits 001: 1072 lane not active (lane, active); top bits 010: 1071
-- likewise, then 1073 input above 6 (input). Data is then seen." Before these, where the id was unknown, 991, "first the id". 02, ticket 4, corrects it: for
-- a lane that can't be, 1074.
-- Assumes nothing.
use Rattle.std.specs.Prelude.{ℕ, ◌/◌, Bool, true, false, cond, not, ◌&&◌, List, [], ◌∷◌, ltb, eqb}
use Rattle.words.specs.declared.Word.{Word}
use Rattle.words.specs.Word.{id_of}
use Rattle.words.specs.Cdw.{user_fields, word_index}
use Rattle.words.specs.declared.lanes.LaneAnswer.{LaneAnswer}
use Rattle.words.specs.Lanes.{lane_answer, is_active, is_missing}
use Rattle.data_ids.specs.DataIds.{is_data_id, inner_lane, outer_lane, input_number}
use Rattle.packet.specs.declared.Settings.{Settings}
use Rattle.payload_fsm.specs.declared.ItsPayloadWord.TheVariants as K
use Rattle.payload_fsm.specs.Step.{guess_code}
use Rattle.records.specs.declared.Row.{Row}
use Rattle.records.specs.Records.{when}
use Rattle.records.specs.Detail.{differ}
use Rattle.stored.specs.declared.StoredCdw.{StoredCdw}
use Rattle.stored.specs.Stored.{first_cdw}

-- "top bits": bits 7:5 of the id.
abbrev pub top_bits : Word → ℕ
top_bits w = id_of w / 32

abbrev pub inner : Word → Bool
inner w = eqb (top_bits w) 0b001

abbrev pub outer : Word → Bool
outer w = eqb (top_bits w) 0b010

-- 02, ticket 4: "Its callers give 1074 (lane, active) in place of 1071 or 1072 in the third case".
abbrev pub lane_code : ℕ → LaneAnswer → ℕ
lane_code code a = cond (is_missing a) 1074 code

-- The row on a lane, where it is asked: none if the lane is active.
abbrev pub lane_row : Bool → ℕ → Bool → ℕ → ℕ → Row
lane_row asked code ofInner lane active =
    let a = lane_answer ofInner lane active in
    when (asked && not (is_active a)) (lane_code code a) lane active

abbrev pub data_rows : Settings → Bool → ℕ → StoredCdw → Bool → Word → List Row
data_rows s seen lanes last guessed w =
    let id = id_of w in
    let first = first_cdw seen w in
    let laned = s.running && not first in
    when guessed (guess_code K.DataWord) id 0
    ∷ when (s.running && (first && (last.present && (differ last.user (user_fields w) && differ (word_index w) 0)))) 81 (word_index w) 0
    ∷ when (not first && not (is_data_id id)) 70 id 0
    ∷ lane_row (laned && inner w) 1072 true (inner_lane id) lanes
    ∷ lane_row (laned && outer w) 1071 false (outer_lane id) lanes
    ∷ when (laned && (outer w && ltb 6 (input_number id))) 1073 (input_number id) 0
    ∷ []
