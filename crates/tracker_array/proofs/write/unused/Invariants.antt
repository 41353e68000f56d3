-- What is still to be stored makes the whole.
use Rattle.std.proofs.Common.{◌-◌, ◌≡◌, length, replicate}
use Rattle.std.proofs.lemmas.List.Edits.{sets}
use Rattle.tracker_array.specs.Array.{size}
use Rattle.tracker_array.specs.Place as P
use Rattle.tracker_array.proofs.write.unused.Given as goal

abbrev pub invariant-loop-i : goal.invariant-loop-i
invariant-loop-i l =
    record {
      long : length l.a ≡ size;
      whole : sets l.a l.i (replicate (size - l.i) 0) ≡ sets l.fn.a P.unused (replicate (size - P.unused) 0);
    }

abbrev pub decreases-loop-i : goal.decreases-loop-i
decreases-loop-i l = size - l.i
