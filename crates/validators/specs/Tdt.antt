-- 01, "Records": "TDT: 50 (1 id; else 2 reserved). Frames on and packet done: an open frame closes here, else 59 (first 0)."
-- Assumes nothing.
use Rattle.std.specs.Prelude.{ℕ, Bool, false, not, ◌&&◌, List, [], ◌∷◌}
use Rattle.words.specs.declared.Word.{Word}
use Rattle.words.specs.StatusWord.{fault}
use Rattle.words.specs.Tdt.{tdt_id, packet_done, is_reserved0}
use Rattle.packet.specs.declared.Settings.{Settings}
use Rattle.records.specs.declared.Row.{Row}
use Rattle.records.specs.Records.{when}
use Rattle.records.specs.Detail.{detailed}

abbrev pub detail : Word → ℕ
detail = fault tdt_id is_reserved0 false

-- `opened`: a frame is open.
abbrev pub tdt_rows : Settings → Bool → Word → List Row
tdt_rows s opened w = detailed 50 (detail w) ∷ when (s.frames && (packet_done w && not opened)) 59 0 0 ∷ []
