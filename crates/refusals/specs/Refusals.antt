-- The numbers of the refusals. 01, "Calls and settings": "Refusals, by fixed numbers", "Bench file"; 02: 8, 10; ours: 100, 101, 102.
-- Assumes nothing.
use Rattle.std.specs.Prelude.{ℕ, ◌≡◌, cond, eqb, Result, Ok, Err, Option, None, Some}
use Rattle.refusals.specs.declared.Refusal.{Refusal}
use Rattle.refusals.specs.declared.Refusal.TheVariants as R

-- "Where an answer is an enum, a definition gives this paper's number and values for each of its cases."
abbrev pub number : Refusal → ℕ
number R.Size = 1
number R.NoPacket = 2
number R.Full = 3
number R.Room = 4
number R.Packet = 5
number R.File = 6
number R.Counts = 7
number R.Field = 8
number R.LastPacket = 10
number R.NoTracker = 100
number R.NoSettings = 101
number R.Line = 102

-- The refusal of a number; a number that is none's counts as the last.
unfoldable pub of_number : ℕ → Refusal
of_number n =
    cond (eqb n 1) R.Size
    (cond (eqb n 2) R.NoPacket
    (cond (eqb n 3) R.Full
    (cond (eqb n 4) R.Room
    (cond (eqb n 5) R.Packet
    (cond (eqb n 6) R.File
    (cond (eqb n 7) R.Counts
    (cond (eqb n 8) R.Field (cond (eqb n 10) R.LastPacket (cond (eqb n 100) R.NoTracker (cond (eqb n 101) R.NoSettings R.Line))))))))))

-- What a conversion to a number gives.
abbrev pub gives_number : Refusal → ℕ → Type 0
gives_number r n = n ≡ number r

-- The number of an answer that may be a refusal: 0 where it is none.
abbrev pub code : {A : Type 0} → Result A Refusal → ℕ
code (Ok x) = 0
code (Err r) = number r

-- The same where the refusal stands beside other numbers.
abbrev pub code_if : Option Refusal → ℕ
code_if None = 0
code_if (Some r) = number r
