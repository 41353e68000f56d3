-- 01, "Words": "TDT 0xF0 (E): 55:0 lane status, 63 timeout to start, 62 timeout start-stop, 61 timeout in idle, 67 lane starts violation, 65
-- transmission timeout, 64 packet done; reserved 60:56, 66, 71:68."
-- Assumes nothing.
use Rattle.std.specs.Prelude.{ℕ, ◌*◌, ◌^◌, Bool, ◌&&◌, eqb}
use Rattle.words.specs.declared.Word.{Word}
use Rattle.words.specs.Word.{bits, is_set}

abbrev pub tdt_id : ℕ
tdt_id = 0xF0

-- The Rust reads the lane status in three parts.
abbrev pub lane_status15to0 : Word → ℕ
lane_status15to0 = bits 31 0

abbrev pub lane_status23to16 : Word → ℕ
lane_status23to16 = bits 47 32

abbrev pub lane_status27to24 : Word → ℕ
lane_status27to24 = bits 55 48

abbrev pub timeout_to_start : Word → Bool
timeout_to_start = is_set 63

abbrev pub timeout_start_stop : Word → Bool
timeout_start_stop = is_set 62

abbrev pub timeout_in_idle : Word → Bool
timeout_in_idle = is_set 61

abbrev pub lane_starts_violation : Word → Bool
lane_starts_violation = is_set 67

abbrev pub transmission_timeout : Word → Bool
transmission_timeout = is_set 65

abbrev pub packet_done : Word → Bool
packet_done = is_set 64

-- The Rust leaves bit 66 in its place in 8 bits.
abbrev pub reserved0 : Word → ℕ
reserved0 = bits 71 68

abbrev pub reserved1 : Word → ℕ
reserved1 w = bits 66 66 w * 2 ^ 2

abbrev pub reserved2 : Word → ℕ
reserved2 = bits 60 56

-- All reserved bits are 0.
abbrev pub is_reserved0 : Word → Bool
is_reserved0 w = eqb (reserved0 w) 0 && (eqb (reserved1 w) 0 && eqb (reserved2 w) 0)
