-- 01, "Bench file": "Little-endian" numbers among bytes.
-- Assumes nothing.
use Rattle.std.specs.Prelude.{ℕ, List, take, drop}
use Rattle.words.specs.Word.{number}

-- The number of n bytes at a place.
unfoldable pub number_at : List ℕ → ℕ → ℕ → ℕ
number_at bytes at n = number (take n (drop at bytes))
