-- Active lanes. 01, "Words": "28 lanes"; "Easy to get wrong": "Lanes above 27 are never active." 02, ticket 4: "a lane that can't be".
-- Assumes nothing.
use Rattle.std.specs.Prelude.{ℕ, ◌≡◌, ◌/◌, ◌%◌, ◌^◌, Bool, true, false, cond, ◌&&◌, ltb, eqb}
use Rattle.words.specs.declared.lanes.LaneAnswer.{LaneAnswer}
use Rattle.words.specs.declared.lanes.LaneAnswer.TheVariants as L

abbrev pub lanes : ℕ
lanes = 28

-- Whether a lane is among the active lanes, at any lane number.
abbrev pub is_lane_active : ℕ → ℕ → Bool
is_lane_active lane active = ltb lane lanes && eqb (active / 2 ^ lane % 2) 1

-- 02, ticket 4: "The lane question should answer three ways: active, not active, no such lane (above 27 for outer words, above 8 for inner)."
abbrev pub last_lane : Bool → ℕ
last_lane inner = cond inner 8 27

abbrev pub lane_answer : Bool → ℕ → ℕ → LaneAnswer
lane_answer inner lane active = cond (ltb (last_lane inner) lane) L.NoSuchLane (cond (is_lane_active lane active) L.Active L.NotActive)

-- The numbers of the answers, and what is asked of one.
abbrev pub lane_answer_number : LaneAnswer → ℕ
lane_answer_number L.Active = 0
lane_answer_number L.NotActive = 1
lane_answer_number L.NoSuchLane = 2

-- What a conversion to a number gives.
abbrev pub gives_number : LaneAnswer → ℕ → Type 0
gives_number a n = n ≡ lane_answer_number a

abbrev pub is_active : LaneAnswer → Bool
is_active L.Active = true
is_active L.NotActive = false
is_active L.NoSuchLane = false

abbrev pub is_missing : LaneAnswer → Bool
is_missing L.Active = false
is_missing L.NotActive = false
is_missing L.NoSuchLane = true
