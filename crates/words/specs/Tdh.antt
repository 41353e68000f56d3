-- 01, "Words": "TDH 0xE8 (D): 11:0 trigger type, 12 internal trigger, 13 no data, 14 continuation, 27:16 crossing (BC), 63:32 orbit; reserved 15,
-- 31:28, 71:64. 3563 is the last legal crossing."
-- Assumes nothing.
use Rattle.std.specs.Prelude.{ℕ, ◌*◌, ◌^◌, Bool, ◌&&◌, eqb}
use Rattle.words.specs.declared.Word.{Word}
use Rattle.words.specs.Word.{bits}

abbrev pub tdh_id : ℕ
tdh_id = 0xE8

abbrev pub max_bc : ℕ
max_bc = 3563

abbrev pub trigger_type : Word → ℕ
trigger_type = bits 11 0

abbrev pub internal_trigger : Word → ℕ
internal_trigger = bits 12 12

abbrev pub no_data : Word → ℕ
no_data = bits 13 13

abbrev pub continuation : Word → ℕ
continuation = bits 14 14

abbrev pub trigger_bc : Word → ℕ
trigger_bc = bits 27 16

abbrev pub trigger_orbit : Word → ℕ
trigger_orbit = bits 63 32

-- The Rust numbers the reserved bits from the top, and leaves 31:28 and 15 in their place in 16 bits.
abbrev pub reserved0 : Word → ℕ
reserved0 = bits 71 64

abbrev pub reserved1 : Word → ℕ
reserved1 w = bits 31 28 w * 2 ^ 12

abbrev pub reserved2 : Word → ℕ
reserved2 w = bits 15 15 w * 2 ^ 15

-- All reserved bits are 0.
abbrev pub is_reserved0 : Word → Bool
is_reserved0 w = eqb (reserved0 w) 0 && (eqb (reserved1 w) 0 && eqb (reserved2 w) 0)
