-- The numbers passed stand at the front.
-- Assumes nothing.
use Rattle.std.proofs.Common.{◌≡◌, ◌*◌, ◌≤◌, length, take}
use Rattle.ascii.specs.Text.{spaced, most_number, Puts}
use Rattle.ascii.proofs.put_numbers.Given as goal

abbrev pub invariant-loop-n : goal.invariant-loop-n
invariant-loop-n l =
    (l.used ≤ most_number * l.n-index)
    × ((length l.out ≡ length l.initial.out) × Puts (spaced (take l.n-index l.numbers)) l.initial.out l.used l.out)
