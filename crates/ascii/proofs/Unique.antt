-- Uniqueness: what was put determines how many bytes it has and what stands in the buffer, and a step the state after it too.
-- Assumes nothing.
use Prim.Native.Nat.{ℕ}
use mathlib.Core.Path.{◌≡◌}
use mathlib.Core.List.{List}
use Rattle.words.proofs.Unique.{unique}
use Rattle.ascii.specs.Text.{Puts}
use Rattle.ascii.specs.Steps.{Printer, StepPost}

pub puts_unique : {text buffer after after' : List ℕ} {first second : ℕ} → Puts text buffer first after
    → Puts text buffer second after'
    → (first ≡ second) × (after ≡ after')
puts_unique p q = (unique p.count q.count, unique p.buffer_is q.buffer_is)

pub step_unique : {State : Type 0} {p : Printer State} {s next next' : State} {buffer after after' : List ℕ}
    {first second : ℕ}
    → StepPost p s buffer next first after
    → StepPost p s buffer next' second after'
    → (next ≡ next') × (first ≡ second) × (after ≡ after')
step_unique a b =
    let same = puts_unique a.prints.puts b.prints.puts in
    (unique a.prints.next_is b.prints.next_is, same.0, same.1)
