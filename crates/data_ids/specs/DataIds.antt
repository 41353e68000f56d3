-- 01, "Words": "Data ids (G): 0x20..0x28 inner; 0x40..0x46, 0x48..0x4E, 0x50..0x56, 0x58..0x5E outer."
-- Assumes nothing.
use Rattle.std.specs.Prelude.{ℕ, ◌+◌, ◌/◌, ◌%◌, Bool, cond, ◌&&◌, ◌||◌, leb, ltb}

abbrev pub within : ℕ → ℕ → ℕ → Bool
within first last id = leb first id && leb id last

abbrev pub is_data_id : ℕ → Bool
is_data_id id =
    within 0x20 0x28 id || (within 0x40 0x46 id || (within 0x48 0x4E id || (within 0x50 0x56 id || within 0x58 0x5E id)))

-- "Inner lane is id mod 32."
abbrev pub inner_lane : ℕ → ℕ
inner_lane id = id % 32

-- "Outer lane, any id: up to 0x46, id mod 64; up to 0x4E, 7 + id mod 72; up to 0x56, 14 + id mod 80; else 21 + id mod 88."
abbrev pub outer_lane : ℕ → ℕ
outer_lane id =
    cond (leb id 0x46) (id % 64) (cond (leb id 0x4E) (7 + id % 72) (cond (leb id 0x56) (14 + id % 80) (21 + id % 88)))

-- "Input number is id mod 8."
abbrev pub input_number : ℕ → ℕ
input_number id = id % 8

-- The Rust's other two readers of an id: the connector, bits 4:3, and the lane by the barrel that the id is said to come from.
abbrev pub connector : ℕ → ℕ
connector id = id / 8 % 4

abbrev pub lane_number : ℕ → Bool → ℕ
lane_number id inner = cond inner (inner_lane id) (outer_lane id)

-- Of a data id, whether it is of an inner lane, which have the ids below 0x40, and which lane it is.
abbrev pub is_inner : ℕ → Bool
is_inner id = ltb id 0x40

abbrev pub lane_of : ℕ → ℕ
lane_of id = lane_number id (is_inner id)
