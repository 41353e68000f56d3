-- Uniqueness: the contracts of the calls in any memory determine the answer, the tracker that the memory then holds, and the final buffer.
-- Assumes nothing.
use mathlib.Core.Path.{◌≡◌, ap}
use mathlib.Core.List.{List}
use Prim.Native.Nat.{ℕ}
use Rattle.std.specs.Prelude.{Result}
use Rattle.words.specs.declared.Word.{Word}
use Rattle.words.proofs.Unique.{unique}
use Rattle.refusals.specs.declared.Refusal.{Refusal}
use Rattle.cdp_running.specs.declared.Tracker.{Tracker}
use Rattle.cdp_running.specs.Told.{Told}
use Rattle.cdp_running.specs.Told.{WordAnswer}
use Rattle.cdp_running.specs.Word.{WordPost}
use Rattle.tracker_memory.specs.Memory.{StepPost}

pub word_unique : {t u v : Tracker} {bytes buffer after after' : List ℕ} {first second : Told}
    → WordPost t bytes buffer (record { tracker = u; told = first }) after
    → WordPost t bytes buffer (record { tracker = v; told = second }) after'
    → (first ≡ second) × ((u ≡ v) × (after ≡ after'))
word_unique a b =
    let same = unique a.answer b.answer in
    (ap (λ (r : WordAnswer). r.told) same, (ap (λ (r : WordAnswer). r.tracker) same, unique a.buffer_is b.buffer_is))

pub step_unique : {t u v : Tracker} {w : Word} {buffer after after' : List ℕ} {first second : Result ℕ Refusal}
    → StepPost t w buffer first u after
    → StepPost t w buffer second v after'
    → (first ≡ second) × ((u ≡ v) × (after ≡ after'))
step_unique a b = (unique a.wrote.answer b.wrote.answer, (unique a.tracker b.tracker, unique a.wrote.buffer_is b.wrote.buffer_is))
