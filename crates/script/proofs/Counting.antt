-- What reading the numbers of a line goes by.
-- Assumes nothing.
use Rattle.std.proofs.Common.{ℕ, suc, ◌+◌, ◌-◌, ◌<◌, ◌≡◌, refl, sym, ap, ◌∙◌, subst, Bool, true, false, cond, List, [], ◌∷◌, ◌++◌, length, set}
use Rattle.std.proofs.Common.{replicate, length-append, Option, None, Some, ltb, arith}
use borrow.Author.Tests.{lt-ltb, eq-eqb, ne_eqb}
use lib.Seq.{set_at, append_snoc}
use Rattle.script.specs.Numbers.{number_of}
use Rattle.script.specs.Tokens.{tokens, FirstPart}
use Rattle.script.specs.Line.{most_numbers, Told, told, untold, with_value, numbers_of, filled, numbers_if}
use Rattle.script.proofs.Tokens.{parts_are}

-- The numbers so far, and the parts to come.
pub record Going (text n rest : List ℕ) (i : ℕ) : Type 0 where
  pub so_far : List ℕ
  pub long : length so_far ≡ i
  pub n_is : n ≡ filled so_far
  pub same : numbers_of [] (tokens text) ≡ numbers_of so_far (tokens rest)

pub going : (text : List ℕ) → Going text (replicate 10 0) text 0
going text = record { so_far = []; long = refl; n_is = refl; same = refl }

one_filled : (ns : List ℕ) (n : List ℕ) (v : ℕ) → length ns < most_numbers → n ≡ filled ns → set n (length ns) v ≡ filled (ns ++ (v ∷ []))
one_filled ns n v few is =
    let k : 10 - length ns ≡ suc (9 - length ns) = omega arith in
    let k' : 9 - length ns ≡ 10 - length (ns ++ (v ∷ [])) = omega (arith, length-append ns (v ∷ [])) in
    ap (λ (l : List ℕ). set l (length ns) v) (is ∙ ap (λ (m : ℕ). ns ++ replicate m 0) k)
    ∙ set_at ns 0 (replicate (9 - length ns) 0) v (length ns) refl
    ∙ sym (append_snoc ns v (replicate (9 - length ns) 0))
    ∙ ap (λ (m : ℕ). (ns ++ (v ∷ [])) ++ replicate m 0) k'

-- The next part is read as a number, where one more has its place.
next : {text n rest part after : List ℕ} {i : ℕ} {v : Option ℕ} → FirstPart rest part after → number_of part ≡ v → i < most_numbers
    → (g : Going text n rest i)
    → numbers_of [] (tokens text) ≡ with_value v (λ m. numbers_of (g.so_far ++ (m ∷ [])) (tokens after))
unfolding numbers_of
next {part = part} {after} {i} {v} p is few g =
    let ns = g.so_far in
    let long = g.long in
    let more : ℕ → Told = λ m. numbers_of (ns ++ (m ∷ [])) (tokens after) in
    g.same ∙ ap (numbers_of ns) (parts_are p)
    ∙ ap (λ (t : Bool). cond t (with_value (number_of part) more) untold) (lt-ltb (length ns) most_numbers (omega arith))
    ∙ ap (λ (x : Option ℕ). with_value x more) is

pub one_more : {text n rest part after : List ℕ} {i : ℕ} (v : ℕ) → FirstPart rest part after → number_of part ≡ Some v → i < most_numbers
    → Going text n rest i
    → Going text (set n i v) after (i + 1)
one_more {n = n} {i = i} v p is few g =
    let ns = g.so_far in
    let long = g.long in
    record {
      so_far = ns ++ (v ∷ []);
      long = length-append ns (v ∷ []) ∙ omega arith;
      n_is = subst (λ (k : ℕ). set n k v ≡ filled (ns ++ (v ∷ []))) long (one_filled ns n v (omega arith) g.n_is);
      same = next p is few g;
    }

module _ {text n rest : List ℕ} {i : ℕ} (count : ℕ) (g : Going text n rest i) where
  -- What is told, once it is known.
  tell : {t : Told} → numbers_of [] (tokens text) ≡ t → numbers_if count t ≡ numbers_if count (numbers_of [] (tokens text))
  tell e = ap (numbers_if count) (sym e)

  pub no_number : {part after : List ℕ} → FirstPart rest part after → number_of part ≡ None → i < most_numbers
      → None ≡ numbers_if count (numbers_of [] (tokens text))
  no_number p is few = tell (next p is few g)

  -- No part is left.
  all_told : tokens rest ≡ [] → numbers_of [] (tokens text) ≡ told g.so_far
  unfolding numbers_of
  all_told none = g.same ∙ ap (numbers_of g.so_far) none

  pub too_few : tokens rest ≡ [] → i < count → None ≡ numbers_if count (numbers_of [] (tokens text))
  too_few none less =
      let long = g.long in
      sym (ap (λ (t : Bool). cond t (Some (filled g.so_far)) None) (ne_eqb (length g.so_far) count (λ e. omega (arith, e, less, long))))
      ∙ tell (all_told none)

  pub so_many : tokens rest ≡ [] → i ≡ count → Some n ≡ numbers_if count (numbers_of [] (tokens text))
  so_many none all =
      ap Some g.n_is
      ∙ sym (ap (λ (t : Bool). cond t (Some (filled g.so_far)) None) (eq-eqb (length g.so_far) count (g.long ∙ all)))
      ∙ tell (all_told none)

-- Numbers are as many as the parts that they are.
abbrev AsMany : ℕ → Told → Type 0
AsMany k untold = Unit {0}
AsMany k (told ns) = length ns ≡ k

as_many : (ns : List ℕ) (ts : List (List ℕ)) → AsMany (length ns + length ts) (numbers_of ns ts)
unfolding numbers_of
as_many ns [] = omega arith
as_many ns (t ∷ ts) = by_test (ltb (length ns) most_numbers) (number_of t) (λ n. as_many (ns ++ (n ∷ [])) ts)
  where
    by_test : (b : Bool) (v : Option ℕ)
        → ((n : ℕ) → AsMany (length (ns ++ (n ∷ [])) + length ts) (numbers_of (ns ++ (n ∷ [])) ts))
        → AsMany (length ns + suc (length ts)) (cond b (with_value v (λ n. numbers_of (ns ++ (n ∷ [])) ts)) untold)
    by_test true (Some n) rest =
        subst (λ (k : ℕ). AsMany k (numbers_of (ns ++ (n ∷ [])) ts)) (omega (arith, length-append ns (n ∷ []))) (rest n)
    by_test true None rest = tt
    by_test false v rest = tt

pub too_many : {text n rest part after : List ℕ} {i : ℕ} (count : ℕ) → Going text n rest i → FirstPart rest part after → i ≡ count
    → None ≡ numbers_if count (numbers_of [] (tokens text))
too_many {rest = rest} {part} {after} count g p all =
    sym (ap (numbers_if count) g.same ∙ more (numbers_of g.so_far (tokens rest)) (as_many g.so_far (tokens rest)))
  where
    more : (t : Told) → AsMany (length g.so_far + length (tokens rest)) t → numbers_if count t ≡ None
    more untold h = refl
    more (told ns) h =
        let long = g.long in
        let some = ap (λ (l : List (List ℕ)). length l) (parts_are p) in
        ap (λ (t : Bool). cond t (Some (filled ns)) None) (ne_eqb (length ns) count (λ e. omega (arith, e, h, long, some, all)))
