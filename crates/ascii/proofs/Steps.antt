-- What steps print, one after the other in buffers of any sizes that have room for one, is what is to be printed, and they end: for whatever prints by
-- steps, once it is shown what one step does.
-- Assumes nothing.
use Prim.Native.Nat.{ℕ, zero, suc, ◌≤◌, ◌<◌}
use mathlib.Core.Path.{◌≡◌, refl, sym, ap, ◌∙◌}
use mathlib.Core.Bool.{Bool, true, false}
use mathlib.Core.List.{List, [], ◌++◌}
use native.Mathlib.Omega.{arith}
use borrow.Author.Tests.{lt-ltb, le-ltb}
use lib.ListN.{length, take}
use lib.Seq.{take-append_seam}
use Rattle.words.specs.Lists.{over}
use Rattle.words.proofs.Buffer.{over_fits}
use Rattle.ascii.specs.Steps.{Printed, Prints, Printer, step_in, StepPost, Steps, done, step}
use Rattle.ascii.proofs.Putting.{none_put}

-- What is to be shown, where at each state it is said what is still to be printed and how many steps are left at most: a step keeps the invariant, prints
-- the front of what is to be printed and leaves fewer steps; and once all is printed, nothing is to be.
pub record Moves {State : Type 0} (p : Printer State) (rest : State → List ℕ) (left : State → ℕ) (s : State)
    (q : Printed State) : Type 0 where
  pub good : p.Good q.next
  pub front : q.text ++ rest q.next ≡ rest s
  pub less : p.is_done s ≡ false → left q.next < left s

pub record Laws {State : Type 0} (p : Printer State) (rest : State → List ℕ) (left : State → ℕ) : Type 0 where
  pub moves : (s : State) → p.Good s → Moves p rest left s (p.step_of s)
  pub none : (s : State) → p.is_done s ≡ true → rest s ≡ []

-- There are steps until all is printed.
abbrev pub Ends : {State : Type 0} → Printer State → State → Type 0
Ends p s = (n : ℕ) × ((out : List ℕ) × Steps p s n out)

module _ {State : Type 0} {p : Printer State} {s next : State} {d d' : List ℕ} {n : ℕ}
    (f : StepPost p s d next n d') where
  -- What was printed lies in the buffer.
  pub step_fits : length d' ≡ length d → n ≤ length d'
  step_fits kept =
      let put = f.prints.puts in
      let fits = over_fits (step_in p s (length d)).text d (sym (ap length put.buffer_is) ∙ kept) in
      omega (arith, put.count)

  pub in_room_lem : p.most ≤ length d → Prints (p.step_of s) d next n d'
  in_room_lem h = rw (le-ltb (length d) p.most h) at f.prints

module _ {State : Type 0} {p : Printer State} {rest : State → List ℕ} {left : State → ℕ} (laws : Laws p rest left) where
  -- For the code: a step that was made in room enough, and none in too little.
  module _ {s : State} (g : p.Good s) where
    pub stepped : {next : State} {d d' : List ℕ} {n : ℕ} → p.most ≤ length d → Prints (p.step_of s) d next n d'
        → StepPost p s d next n d'
    stepped {d = d} h q = record { prints = rw (le-ltb (length d) p.most h) q; good = rw q.next_is (laws.moves s g).good }

    pub no_room : (d : List ℕ) → length d < p.most → StepPost p s d s 0 d
    no_room d h =
        record { prints = rw (lt-ltb (length d) p.most h) (record { next_is = refl; puts = none_put d }); good = g }

  -- With room for a step fewer are left, and what stands at the front of the buffer is the front of what is to be printed.
  module _ {s next : State} {d d' : List ℕ} {n : ℕ} (f : StepPost p s d next n d') (g : p.Good s)
      (h : p.most ≤ length d) where
    pub onward : p.is_done s ≡ false → left next < left s
    onward e = rw (in_room_lem f h).next_is ((laws.moves s g).less e)

    printed_front : take n d' ++ rest next ≡ rest s
    printed_front =
        let q = in_room_lem f h in
        rw (q.next_is, q.puts.count, q.puts.buffer_is, take-append_seam) (laws.moves s g).front

  -- So steps until all is printed print what is to be printed, and they are no more than are left.
  pub steps_print : {s : State} {n : ℕ} {out : List ℕ} → Steps p s n out → p.Good s → (out ≡ rest s) × (n ≤ left s)
  steps_print {s} (done e) g = (sym (laws.none s e), omega arith)
  steps_print (step e h f more) g =
      let later = steps_print more f.good in
      (rw later.0 (printed_front f g h), omega (arith, later.1, onward f g h e))

  -- And there are such steps, with any buffer that has room for one.
  module _ (d : List ℕ) (room : p.most ≤ length d) where
    ends_in : (k : ℕ) (s : State) → p.Good s → left s < k → Ends p s
    ends_in zero s g h = absurd (omega arith)
    ends_in (suc k) s g h = at (p.is_done s) refl (ends_in k here.next post.good)
      where
        here : Printed State
        here = p.step_of s

        post : StepPost p s d here.next (length here.text) (over here.text d)
        post = stepped g room (record { next_is = refl; puts = record { count = refl; buffer_is = refl } })

        at : (b : Bool) → p.is_done s ≡ b → (left here.next < k → Ends p here.next) → Ends p s
        at true e more = (0, ([], done e))
        at false e more =
            let later = more (omega (arith, onward post g room e)) in
            (suc later.0, (_, step e room post later.1.1))

    pub ends : (s : State) → p.Good s → Ends p s
    ends s g = ends_in (suc (left s)) s g (omega arith)
