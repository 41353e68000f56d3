-- 01, "Records": "DDW0: 60 (1 id alone; else 2 reserved plus 4 index not 0). R: 1110 stop not 1; 1111 page 0 (first is the number)." Before these,
-- where the id was unknown, "992, first the id".
-- Assumes nothing.
use Rattle.std.specs.Prelude.{ℕ, ◌+◌, Bool, cond, ◌&&◌, List, [], ◌∷◌, eqb}
use Rattle.words.specs.declared.Word.{Word}
use Rattle.words.specs.Word.{id_of}
use Rattle.words.specs.Ddw.{ddw0_id, index, is_reserved0}
use Rattle.packet.specs.declared.Settings.{Settings}
use Rattle.packet.specs.declared.Packet.{Packet}
use Rattle.payload_fsm.specs.declared.ItsPayloadWord.TheVariants as K
use Rattle.payload_fsm.specs.Step.{guess_code}
use Rattle.records.specs.declared.Row.{Row}
use Rattle.records.specs.Records.{when}
use Rattle.records.specs.Detail.{detailed, differ}

abbrev pub detail : Word → ℕ
detail w = cond (eqb (id_of w) ddw0_id) (cond (is_reserved0 w) 0 2 + cond (differ (index w) 0) 4 0) 1

abbrev pub ddw0_rows : Settings → Packet → Bool → Word → List Row
ddw0_rows s p guessed w =
    when guessed (guess_code K.Ddw0) (id_of w) 0 ∷ detailed 60 (detail w) ∷ when (s.running && differ p.stop 1) 1110 p.stop 0
    ∷ when (s.running && eqb p.page 0) 1111 p.page 0
    ∷ []
