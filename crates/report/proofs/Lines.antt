-- Lines of records, and records that stand in a buffer.
-- Assumes nothing.
use Prim.Native.Nat.{ℕ, suc, ◌+◌, ◌-◌, ◌*◌, ◌/◌, ◌≤◌, ◌<◌}
use mathlib.Core.Path.{◌≡◌, refl, sym, ap, subst, ◌∙◌}
use mathlib.Core.List.{List, [], ◌∷◌, ◌++◌, append-nil, append_assoc}
use native.Mathlib.Omega.{arith}
use borrow.Rule.Slice.PartMut.{put_mid, mid_of, same_len_mid}
use lib.ListN.{length, take, length-append}
use lib.Seq.{take-append_seam}
use Rattle.records.specs.Records.{Record, flat, record_width}
use Rattle.records.proofs.Given.{length_flat}
use Rattle.ascii.specs.Text.{Puts}
use Rattle.ascii.proofs.Putting.{behind, none_put}
use Rattle.report.specs.Text.{line, lines, most_line, first_record, records_at, all_records}

pub lines_append : (xs ys : List Record) → lines (xs ++ ys) ≡ lines xs ++ lines ys
unfolding lines
lines_append [] ys = refl
lines_append (x ∷ xs) ys =
    ap (λ (l : List ℕ). line x ++ l) (lines_append xs ys) ∙ sym (append_assoc (line x) (lines xs) (lines ys))

-- The next record of numbers.
record_first : (x rest : List ℕ) → length x ≡ 5 → (n : ℕ) → records_at (suc n) (x ++ rest) ≡ first_record x ∷ records_at n rest
unfolding records_at
record_first (a ∷ b ∷ c ∷ d ∷ e ∷ []) rest h n = refl
record_first [] rest h n = absurd (omega arith)
record_first (a ∷ []) rest h n = absurd (omega arith)
record_first (a ∷ b ∷ []) rest h n = absurd (omega arith)
record_first (a ∷ b ∷ c ∷ []) rest h n = absurd (omega arith)
record_first (a ∷ b ∷ c ∷ d ∷ []) rest h n = absurd (omega arith)
record_first (a ∷ b ∷ c ∷ d ∷ e ∷ f ∷ x) rest h n = absurd (omega arith)

-- The lines of the records passed stand at the front of a buffer, and there is room for those of the rest.
pub record Passing (records start out : List ℕ) (used : ℕ) (rest : List ℕ) : Type 0 where
  pub same : length out ≡ length start
  pub room : used + length rest / record_width * most_line ≤ length start
  pub passed : List Record
  pub puts : Puts (lines passed) start used out
  pub whole : passed ++ all_records rest ≡ all_records records

module _ {records start : List ℕ} where
  pub pass_none : length records / record_width * most_line ≤ length start → Passing records start start 0 records
  unfolding lines
  pass_none h = record { same = refl; room = omega arith; passed = []; puts = none_put start; whole = refl }

  module _ (x rest : List ℕ) {out all : List ℕ} {used : ℕ} (p : Passing records start out used all) (e : all ≡ x ++ rest)
      (h : length x ≡ record_width) where
    more : length all / record_width ≡ suc (length rest / record_width)
    more = omega (arith, ap length e, length-append x rest, h)

    pub line_room : used + most_line ≤ length out
    line_room = omega (arith, p.room, p.same, more)

    pub pass_one : {y : List ℕ} {n : ℕ} → Puts (line (first_record x)) (mid_of used (length out - used) out) n y → n ≤ most_line
        → length y ≡ length (mid_of used (length out - used) out)
        → Passing records start (put_mid used (length out - used) out y) (used + n) rest
    unfolding lines
    pass_one {y} {n} q most kept =
        let r = first_record x in
        let text : lines p.passed ++ line r ≡ lines (p.passed ++ (r ∷ [])) =
        sym (lines_append p.passed (r ∷ []) ∙ ap (λ (l : List ℕ). lines p.passed ++ l) (append-nil (line r))) in
        record {
          same = same_len_mid used (length out - used) out y kept ∙ p.same;
          room = omega (arith, p.room, more);
          passed = p.passed ++ (r ∷ []);
          puts =
              subst (λ (t : List ℕ). Puts t start (used + n) (put_mid used (length out - used) out y)) text (behind p.puts q);
          whole =
              append_assoc p.passed (r ∷ []) (all_records rest)
              ∙ ap (λ (l : List Record). p.passed ++ l)
              (sym (rw (more, e) (record_first x rest h (length rest / record_width))))
              ∙ p.whole;
        }

  pub pass_all : {out rest : List ℕ} {used : ℕ} → Passing records start out used rest → length rest < record_width
      → Puts (lines (all_records records)) start used out
  unfolding records_at
  pass_all {out} {rest} {used} p h =
      let none : length rest / record_width ≡ 0 = omega arith in
      let whole : p.passed ≡ all_records records =
      sym (append-nil p.passed) ∙ ap (λ (n : ℕ). p.passed ++ records_at n rest) (sym none) ∙ p.whole in
      subst (λ (rs : List Record). Puts (lines rs) start used out) whole p.puts

-- Records that were written stand there, and are those of the numbers.
pub records_written : (rs : List Record) (d : List ℕ) → records_at (length rs) (flat rs ++ d) ≡ rs
unfolding records_at flat
records_written [] d = refl
records_written (r ∷ rs) d = ap (λ (l : List Record). r ∷ l) (records_written rs d)

pub all_written : (rs : List Record) (d : List ℕ) → all_records (take (record_width * length rs) (flat rs ++ d)) ≡ rs
all_written rs d =
    let long = length_flat rs in
    let n : length (flat rs) / record_width ≡ length rs = omega arith in
    rw (sym long, take-append_seam)
    (ap (λ (k : ℕ). records_at k (flat rs)) n ∙ ap (records_at (length rs)) (sym (append-nil (flat rs))) ∙ records_written rs [])
