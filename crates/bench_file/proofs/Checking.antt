-- What the check of a file goes by: what holds of a file that is not refused 6, and the steps of its two loops.
-- Assumes nothing.
use Prim.Native.Nat.{ℕ, suc, ◌+◌, ◌-◌, ◌*◌, ◌≤◌, ◌<◌}
use mathlib.Core.Path.{◌≡◌, refl, ap, ◌∙◌}
use mathlib.Core.Bool.{Bool, true, false, cond, not, ◌||◌}
use mathlib.Core.List.{List}
use native.Mathlib.Numerals.{add-one}
use native.Mathlib.Omega.{arith}
use borrow.Author.Tests.{ltb-false, eqb-true, eq-eqb, ne_eqb, not-false}
use lib.Dec.{ltb, eqb}
use lib.ListN.{length}
use Rattle.words.specs.Word.{word_bytes}
use Rattle.bench_file.specs.File.{header_bytes, most_bytes, packets, words, packet_offset, word_offset, packet_place}
use Rattle.bench_file.specs.File.{word_place, count_at, words_before, misfit, packet_refusal, first_refusal, check_of}

-- Length and offsets are those of a file.
pub record Fitting (file : List ℕ) : Type 0 where
  pub long : header_bytes ≤ length file
  pub short : length file ≤ most_bytes
  pub packets_at : packet_offset file ≡ header_bytes
  pub words_at : word_offset file ≡ packet_place (packets file)
  pub whole : length file ≡ word_place file (words file)

or_false : (a b : Bool) → a || b ≡ false → (a ≡ false) × (b ≡ false)
or_false true b e = (e, cc)
or_false false b e = (refl, e)

pub fitting : (file : List ℕ) → misfit file ≡ false → Fitting file
unfolding misfit
fitting file e =
    let a = or_false (ltb (length file) header_bytes) _ e in
    let b = or_false (ltb most_bytes (length file)) _ a.1 in
    let c = or_false (not (eqb (packet_offset file) header_bytes)) _ b.1 in
    let d = or_false (not (eqb (word_offset file) (packet_place (packets file)))) _ c.1 in
    let offset = eqb-true _ _ (not-false (eqb (word_offset file) (packet_place (packets file))) d.0) in
    let end = eqb-true _ _ (not-false (eqb (length file) (word_offset file + word_bytes * words file)) d.1) in
    let start = eqb-true _ _ (not-false (eqb (packet_offset file) header_bytes) c.0) in
    record {
      long = ltb-false _ _ a.0;
      short = ltb-false _ _ b.0;
      packets_at = start;
      words_at = offset;
      whole = end ∙ ap (λ (n : ℕ). n + word_bytes * words file) offset;
    }

-- One packet more in the sum.
pub one_more : (file : List ℕ) (i : ℕ) → words_before file (i + 1) ≡ words_before file i + count_at file i
unfolding words_before
one_more file i = rw add-one

-- A packet without a refusal leaves it to those after it; the refusal of the first other packet is the one.
unfolds : (file : List ℕ) (n i : ℕ) → i < n
    → first_refusal file (n - i) i
    ≡ cond (eqb (packet_refusal file (packet_place i)) 0) (first_refusal file (n - (i + 1)) (i + 1))
    (packet_refusal file (packet_place i))
unfolding first_refusal
unfolds file n i h =
    let e : n - i ≡ suc (n - (i + 1)) = omega arith in
    rw (e, add-one i)

pub passed : (file : List ℕ) (n i : ℕ) → i < n → packet_refusal file (packet_place i) ≡ 0
    → first_refusal file (n - i) i ≡ first_refusal file (n - (i + 1)) (i + 1)
passed file n i h e = unfolds file n i h ∙ simp (eq-eqb (packet_refusal file (packet_place i)) 0 e)

pub stopped : (file : List ℕ) (n i : ℕ) → i < n → (packet_refusal file (packet_place i) ≡ 0 → ⊥)
    → first_refusal file (n - i) i
    ≡ packet_refusal file (packet_place i)
stopped file n i h e = unfolds file n i h ∙ simp (ne_eqb (packet_refusal file (packet_place i)) 0 e)

pub all_passed : (file : List ℕ) (n i : ℕ) → n ≤ i → first_refusal file (n - i) i ≡ 0
unfolding first_refusal
all_passed file n i h =
    let e : n - i ≡ 0 = omega arith in
    rw e

-- The three ways through the check.
pub refused_6 : (file : List ℕ) → misfit file ≡ true → check_of file ≡ 6
unfolding check_of
refused_6 file e = simp e

pub refused_7 : (file : List ℕ) → misfit file ≡ false → (words_before file (packets file) ≡ words file → ⊥)
    → check_of file ≡ 7
unfolding check_of
refused_7 file e h = simp (e, ne_eqb _ _ h)

pub packets_checked : (file : List ℕ) → misfit file ≡ false → words_before file (packets file) ≡ words file
    → check_of file ≡ first_refusal file (packets file) 0
unfolding check_of
packets_checked file e h = simp (e, eq-eqb _ _ h)
