-- 01, "At the edges": the rows marked P, as one table.
-- Assumes nothing.
use Rattle.std.specs.Prelude.{ℕ, ◌≡◌, Bool, true, false, Some, List, [], ◌∷◌, ◌++◌, length}
use Rattle.words.specs.declared.Word.{Word}
use Rattle.words.specs.Tdh.{no_data, trigger_bc, internal_trigger}
use Rattle.words.specs.LaneStatus.{lane_status, worst_lane}
use Rattle.data_ids.specs.DataIds.{outer_lane}
use Rattle.packet.specs.declared.Settings.{Settings}
use Rattle.packet.specs.declared.Rule.{Rule}
use Rattle.payload_fsm.specs.declared.State.TheVariants as S
use Rattle.payload_fsm.specs.Step.{is_three}
use Rattle.payload_fsm.specs.Settle.{DataClear, TdtDone, state_after}
use Rattle.words.specs.Lists.{Each}
use Rattle.records.specs.Records.{when}
use Rattle.stored.specs.declared.InternalTdh.{InternalTdh}
use Rattle.tdh_validator.specs.Tdh.{period, interval}

-- A row: a period found, a pair that has none, an outer lane, the lane status of a word with one byte set, what three-way words lead to.
pub data Edge : Type 0 where
  found : (previous current period : ℕ) → Edge
  no_period : (previous current : ℕ) → Edge
  outer_lane_is : (id lane : ℕ) → Edge
  status : (byte lane0 lane1 worst : ℕ) → Edge
  from_three : (data-words : ℕ) (leads-there : Bool) → Edge

-- Running checks on with a period, by either rule, and an earlier internal TDH.
abbrev pub periodic : Rule → ℕ → Settings
periodic rule n = record { running = true; frames = true; period = Some n; rule = rule }

abbrev pub earlier : ℕ → ℕ → InternalTdh
earlier bc orbit = record { present = true; bc = bc; orbit = orbit }

-- What a row says of the definitions.
abbrev pub Holds : Edge → Type 0
Holds (found previous current n) = period previous current ≡ n
Holds (no_period previous current) =
    (rule : Rule) (set orbit : ℕ) (w : Word) → internal_trigger w ≡ 1 → trigger_bc w ≡ current
    → interval (periodic rule set) (earlier previous orbit) w ≡ when true 1045 previous current
Holds (outer_lane_is id lane) = outer_lane id ≡ lane
Holds (status byte lane0 lane1 worst) =
    let w : Word = record { lo = byte; hi = 0xF000 } in
    (lane_status 0 w ≡ lane0) × ((lane_status 1 w ≡ lane1) × (worst_lane w ≡ worst))
Holds (from_three n leads-there) =
    (ws : List Word) (d : Word) → length ws ≡ n → Each DataClear ws → TdtDone d → no_data d ≡ 0 → is_three (state_after S.Three (ws ++ (d ∷ []))) ≡ leads-there

-- "Periods: 3563 to 0 is 1; 5 to 5 is 0; 3465 to 99 is 198; 0 to 3563 is 3563." "3564 to 198, and 3366 to 3564, give 1045, no period." "Outer lanes:
-- 0x46 6, 0x47 78, 0x4F 93, 0x57 108, 0x5F 28." "Lane status byte 0x0E: error in lane 0, fatal in lane 1, word fatal; 0x06 is error." "From THREE,
-- two data words and a TDT done, bit 13 clear in all, do not lead to THREE; three data words and it do."
abbrev pub table : List Edge
table =
    found 3563 0 1
    ∷ found 5 5 0
    ∷ found 3465 99 198
    ∷ found 0 3563 3563
    ∷ no_period 3564 198
    ∷ no_period 3366 3564
    ∷ outer_lane_is 0x46 6
    ∷ outer_lane_is 0x47 78
    ∷ outer_lane_is 0x4F 93
    ∷ outer_lane_is 0x57 108
    ∷ outer_lane_is 0x5F 28
    ∷ status 0x0E 2 3 3
    ∷ status 0x06 2 1 2
    ∷ from_three 2 false
    ∷ from_three 3 true
    ∷ []
