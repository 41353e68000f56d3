-- 01, "Words": "DDW0 0xE4 (added but for id, 55:0, 67, 65): 55:0 lane status, 67, 65 as in TDT, 71:68 index; reserved 63:56, 66, 64."
-- Assumes nothing.
use Rattle.std.specs.Prelude.{ℕ, Bool, ◌&&◌, eqb}
use Rattle.words.specs.declared.Word.{Word}
use Rattle.words.specs.Word.{bits, is_set}

abbrev pub ddw0_id : ℕ
ddw0_id = 0xE4

abbrev pub lane_starts_violation : Word → Bool
lane_starts_violation = is_set 67

abbrev pub transmission_timeout : Word → Bool
transmission_timeout = is_set 65

abbrev pub index : Word → ℕ
index = bits 71 68

abbrev pub reserved0 : Word → ℕ
reserved0 = bits 64 64

abbrev pub reserved1 : Word → ℕ
reserved1 = bits 66 66

abbrev pub reserved2 : Word → ℕ
reserved2 = bits 63 56

-- All reserved bits are 0.
abbrev pub is_reserved0 : Word → Bool
is_reserved0 w = eqb (reserved0 w) 0 && (eqb (reserved1 w) 0 && eqb (reserved2 w) 0)
