-- 01, "Words": "Lane status: two bits a lane, 28 lanes, 0 good, 1 warning, 2 error, 3 fatal; a word's status is the worst lane (F)."
-- Assumes nothing.
use Rattle.std.specs.Prelude.{ℕ, zero, suc, max, ◌+◌, ◌*◌, cond, ltb}
use Rattle.words.specs.declared.Word.{Word}
use Rattle.words.specs.Word.{bits}
use Rattle.words.specs.Lanes.{lanes}

-- "55:0 lane status", of a TDT and of a DDW0: all lanes as one number.
abbrev pub lane_status27to0 : Word → ℕ
lane_status27to0 = bits 55 0

-- Lane n's two bits; a lane above 27 has no status, and counts as good.
abbrev pub lane_status : ℕ → Word → ℕ
lane_status n w = cond (ltb n lanes) (bits (2 * n + 1) (2 * n) w) 0

-- The worst of the lanes below n.
unfoldable pub worst_below : ℕ → Word → ℕ
worst_below zero w = 0
worst_below (suc n) w = max (worst_below n w) (lane_status n w)

abbrev pub worst_lane : Word → ℕ
worst_lane = worst_below lanes
