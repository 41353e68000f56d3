-- Texts that are gathered in a buffer and written where one more might find no room: what was written and what is gathered are what the steps so far print.
-- Assumes nothing.
use Prim.Native.Nat.{ℕ, ◌+◌, ◌-◌, ◌≤◌}
use mathlib.Core.Path.{◌≡◌, sym, ap, subst, ◌∙◌}
use mathlib.Core.Bool.{true, false}
use mathlib.Core.List.{List, ◌++◌, append-nil, append_assoc}
use native.Mathlib.Omega.{arith}
use borrow.Rule.Slice.PartMut.{put_mid, mid_of, same_len_mid}
use lib.ListN.{length, take, drop, length-take, length-drop, take-append-drop}
use lib.Seq.{take-append_seam, length-take-le}
use Rattle.ascii.specs.Text.{Puts}
use Rattle.ascii.specs.Steps.{Printer, StepPost, Steps, done, step, gathered}
use Rattle.ascii.proofs.Putting.{behind}
use Rattle.ascii.proofs.Steps.{step_fits}

-- What a buffer holds at the front stands there as a text does.
held : (u : ℕ) (b : List ℕ) → u ≤ length b → Puts (take u b) b u b
held u b h =
    let long = length-take-le u b h in
    record { count = sym long; buffer_is = sym (ap (λ (n : ℕ). take u b ++ drop n b) long ∙ take-append-drop u b) }

front : {t d l : List ℕ} {n : ℕ} → Puts t d n l → take n l ≡ t
front p = rw (p.count, p.buffer_is, take-append_seam)

module _ {State : Type 0} (p : Printer State) (from : State) where
  pub record Gathered (Written : List ℕ → Type 0) (state : State) (buffer : List ℕ) (used : ℕ) : Type 0 where
    pub good : p.Good state
    pub same : length buffer ≡ gathered
    pub fits : used ≤ gathered
    pub written : List ℕ
    pub appends : Written written
    pub goes_on : {n : ℕ} {out : List ℕ} → Steps p state n out
        → (m : ℕ) × Steps p from m (written ++ (take used buffer ++ out))

module _ {State : Type 0} {p : Printer State} {from : State} {W : List ℕ → Type 0} {s : State} {b : List ℕ} {u : ℕ}
    (g : Gathered p from W s b u) where
  -- What is gathered is written, and nothing is gathered.
  pub written_out : {W' : List ℕ → Type 0} → ((xs : List ℕ) → W xs → W' (xs ++ take u b)) → Gathered p from W' s b 0
  written_out wrote =
      record {
        good = g.good;
        same = g.same;
        fits = omega arith;
        written = g.written ++ take u b;
        appends = wrote g.written g.appends;
        goes_on =
            λ {n} {out} more.
            let before = g.goes_on more in
            (before.0, subst (Steps p from before.0) (sym (append_assoc g.written (take u b) out)) before.1);
      }

  -- A step's text stands behind what is gathered.
  gathered_behind : {next : State} {y : List ℕ} {n : ℕ} → u + p.most ≤ length b → p.is_done s ≡ false
      → StepPost p s (mid_of u (length b - u) b) next n y
      → length y ≡ length (mid_of u (length b - u) b)
      → Gathered p from W next (put_mid u (length b - u) b y) (u + n)
  gathered_behind {next} {y} {n} roomy e f kept =
      let long : length (mid_of u (length b - u) b) ≡ length b - u = simp (length-take, length-drop) (omega arith) in
      let both : take (u + n) (put_mid u (length b - u) b y) ≡ take u b ++ take n y =
      front (behind (held u b (omega arith)) f.prints.puts) ∙ ap (λ (l : List ℕ). take u b ++ l) (sym (front f.prints.puts)) in
      record {
        good = f.good;
        same = same_len_mid u (length b - u) b y kept ∙ g.same;
        fits = omega (arith, step_fits f kept, g.same, long, kept);
        written = g.written;
        appends = g.appends;
        goes_on =
            λ {n = m} {out} more.
            let before = g.goes_on (step e (omega arith) f more) in (
              before.0,
              subst (λ (l : List ℕ). Steps p from before.0 (g.written ++ l))
                  (sym (ap (λ (l : List ℕ). l ++ out) both ∙ append_assoc (take u b) (take n y) out)) before.1,
            );
      }

  pub gathered_on : {next : State} {y : List ℕ} {n : ℕ} → u + p.most ≤ gathered → p.is_done s ≡ false
      → StepPost p s (mid_of u (gathered - u) b) next n y
      → length y ≡ length (mid_of u (gathered - u) b)
      → Gathered p from W next (put_mid u (gathered - u) b y) (u + n)
  gathered_on {next} {y} {n} roomy e =
      subst (λ (room : ℕ). StepPost p s (mid_of u (room - u) b) next n y → length y ≡ length (mid_of u (room - u) b)
      → Gathered p from W next (put_mid u (room - u) b y) (u + n)) g.same (gathered_behind (omega (arith, g.same)) e)

  -- All is printed, and what is gathered is all that is not written yet.
  pub all_gathered : p.is_done s ≡ true → (m : ℕ) × Steps p from m (g.written ++ take u b)
  all_gathered e =
      let all = g.goes_on (done e) in
      (all.0, subst (λ (l : List ℕ). Steps p from all.0 (g.written ++ l)) (append-nil (take u b)) all.1)
