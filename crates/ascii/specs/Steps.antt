-- Printing by steps, whatever is printed: each step puts a text at the front of a buffer, and the next goes on from the state after it.
-- Assumes nothing.
use Rattle.std.specs.Prelude.{ℕ, suc, ◌<◌, ◌≤◌, ◌≡◌, Bool, true, false, cond, List, [], ◌++◌, ltb, length, take, Option}
use Rattle.std.specs.Io.KnownBytes.{Appends}
use Rattle.ascii.specs.Text.{Puts}

-- A text, and the state after it.
pub record Printed (State : Type 0) : Type 0 where
  pub next : State
  pub text : List ℕ

abbrev pub nothing : {State : Type 0} → State → Printed State
nothing s = record { next = s; text = [] }

-- What is told of a text: the state after it, and how many bytes stand at the front of the buffer, whose rest stays.
pub record Prints {State : Type 0} (p : Printed State) (buffer : List ℕ) (next : State) (n : ℕ) (after : List ℕ) : Type 0 where
  pub next_is : next ≡ p.next
  pub puts : Puts p.text buffer n after

-- What prints by steps: its step, the most bytes that a step prints, whether all is printed, and the invariant, which the start and every step give.
pub record Printer (State : Type 0) : Type 1 where
  pub step_of : State → Printed State
  pub most : ℕ
  pub is_done : State → Bool
  pub Good : State → Type 0

-- Without room for the most that a step prints, nothing is printed and the state stays.
abbrev pub step_in : {State : Type 0} → Printer State → State → ℕ → Printed State
step_in p s room = cond (ltb room p.most) (nothing s) (p.step_of s)

-- What a step gives.
pub record StepPost {State : Type 0} (p : Printer State) (s : State) (buffer : List ℕ) (next : State) (n : ℕ) (after : List ℕ) : Type 0 where
  pub prints : Prints (step_in p s (length buffer)) buffer next n after
  pub good : p.Good next

-- Steps one after the other, each with a buffer that has room for one, until all is printed: how many they are, and what stands at the front of the
-- buffers.
pub data Steps {State : Type 0} (p : Printer State) : State → ℕ → List ℕ → Type 0 where
  done : {s : State} → p.is_done s ≡ true → Steps p s 0 []
  step : {s next : State} {buffer after : List ℕ} {n many : ℕ} {rest : List ℕ} → p.is_done s ≡ false → p.most ≤ length buffer
      → StepPost p s buffer next n after → Steps p next many rest
      → Steps p s (suc many) (take n after ++ rest)

-- Where it is said how many steps are left: a step leaves fewer.
abbrev pub FewerLeft : {State : Type 0} → Printer State → (State → ℕ) → Type 0
FewerLeft {State} p left = (s : State) → p.Good s → p.is_done s ≡ false → left (p.step_of s).next < left s

-- Bytes that are gathered before they are written.
abbrev pub gathered : ℕ
gathered = 1000

-- What is known of a writer's bytes when all is printed to it: they grew by what some steps print, one after the other, from a state to the end.
abbrev pub AllPrinted : {State : Type 0} → Printer State → State → Option (List ℕ) → Option (List ℕ) → Type 0
AllPrinted p s before after = (n : ℕ) × ((out : List ℕ) × (Steps p s n out × Appends before after out))
