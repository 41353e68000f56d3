-- 01, "Records": "IHW, continuation too: 30 (1 id; else 2 reserved). Stored after that, whatever its id; the active lanes are those of the one last
-- stored. R, kind IHW: 1120 stop not 0; 1121 page not 0 (first is the number)." The page as 02, ticket 3, corrects it: "1121 in the start state for a
-- page not 0, and 1122 in the three-way state for a page of 0 (first 0). Stop stays 0 in both."
-- Assumes nothing.
use Rattle.std.specs.Prelude.{ℕ, Bool, false, not, ◌&&◌, List, [], ◌∷◌, eqb}
use Rattle.words.specs.declared.Word.{Word}
use Rattle.words.specs.StatusWord.{fault}
use Rattle.words.specs.Ihw.{ihw_id, is_reserved0}
use Rattle.packet.specs.declared.Settings.{Settings}
use Rattle.packet.specs.declared.Packet.{Packet}
use Rattle.records.specs.declared.Row.{Row}
use Rattle.records.specs.Records.{when}
use Rattle.records.specs.Detail.{detailed, differ}

abbrev pub detail : Word → ℕ
detail = fault ihw_id is_reserved0 false

-- Kind IHW: a word is taken as one in two states only, the three-way state (`three`) and else the start state.
abbrev pub ihw_rows : Settings → Packet → Bool → Word → List Row
ihw_rows s p three w =
    detailed 30 (detail w) ∷ when (s.running && differ p.stop 0) 1120 p.stop 0
    ∷ when (s.running && (not three && differ p.page 0)) 1121 p.page 0
    ∷ when (s.running && (three && eqb p.page 0)) 1122 p.page 0
    ∷ []

-- A continuation is asked for neither stop nor page.
abbrev pub continuation_rows : Word → List Row
continuation_rows w = detailed 30 (detail w) ∷ []
