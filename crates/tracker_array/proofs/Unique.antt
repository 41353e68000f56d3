-- Uniqueness: what is read and what is written is determined.
-- Assumes nothing.
use mathlib.Core.Path.{◌≡◌}
use mathlib.Core.Bool.{Bool}
use mathlib.Core.List.{List}
use Prim.Native.Nat.{ℕ}
use Rattle.words.proofs.Unique.{unique}
use Rattle.cdp_running.specs.declared.Tracker.{Tracker}
use Rattle.tracker_array.specs.Array.{written_to}
use Rattle.tracker_array.specs.Read.{is_tracker}

pub is_tracker_unique : (a : List ℕ) {first second : Bool} → first ≡ is_tracker a → second ≡ is_tracker a → first ≡ second
is_tracker_unique a = unique

pub encode_unique : (a : List ℕ) (t : Tracker) {first second : List ℕ} → first ≡ written_to a t → second ≡ written_to a t
    → first ≡ second
encode_unique a t = unique
