-- The parts of a line: blanks before a part count for nothing, and a part of no blanks that ends before one, or at the end, is the first.
-- Assumes nothing.
use Rattle.std.proofs.Common.{ℕ, suc, ◌+◌, ◌-◌, ◌≤◌, ◌<◌, ◌≡◌, refl, sym, ap, ap₂, ◌∙◌, subst, Bool, true, false, cond, not, true≢false, List, [], ◌∷◌}
use Rattle.std.proofs.Common.{◌++◌, length, take, drop, get_or, length-take, length-drop, take-append-drop, drop_of_length-le, drop-cons, take_all}
use Rattle.std.proofs.Common.{None, Some, position, arith}
use Rattle.std.specs.List.{prefix_len, position_or_len}
use Rattle.std.proofs.lemmas.Option.{none-some}
use mathlib.Core.Logic.{⊎_elim}
use native.Mathlib.Nat.{eq-or-lt_of_le}
use borrow.Author.Tests.{ltb-true, ltb-false}
use lib.Dec.{ltb}
use lib.Seq.{get_or-drop, drop-drop}
use Rattle.words.specs.Lists.{Each}
use Rattle.script.specs.Tokens.{is_blank, before, tokens, Skips, Begins, Ends, FirstPart}

-- All of these bytes are blanks, or none is.
abbrev All : Bool → List ℕ → Type 0
All blanks = Each (λ b. is_blank b ≡ blanks)

add-one-first : (n : ℕ) → suc n ≡ 1 + n
add-one-first n = omega arith

-- The bytes in front that pass a test: what passes is a blank, or is none, and what doesn't is the other.
module _ (blanks : Bool) (p : ℕ → Bool) (yes : (b : ℕ) → p b ≡ true → is_blank b ≡ blanks) (no : (b : ℕ) → p b ≡ false → is_blank b ≡ not blanks) where
  few : (xs : List ℕ) → prefix_len p xs ≤ length xs
  few [] = omega arith
  few (x ∷ xs) = by_test (p x) (few xs)
    where
      by_test : (t : Bool) → prefix_len p xs ≤ length xs → cond t (1 + prefix_len p xs) 0 ≤ suc (length xs)
      by_test true h = omega (arith, h)
      by_test false h = omega arith

  all_so : (xs : List ℕ) → All blanks (take (prefix_len p xs) xs)
  all_so [] = tt
  all_so (x ∷ xs) = by_test (p x) refl (all_so xs)
    where
      by_test : (t : Bool) → p x ≡ t → All blanks (take (prefix_len p xs) xs) → All blanks (take (cond t (1 + prefix_len p xs) 0) (x ∷ xs))
      by_test true e h = subst (λ (k : ℕ). All blanks (take k (x ∷ xs))) (add-one-first (prefix_len p xs)) (yes x e, h)
      by_test false e h = tt

  stop_at : (xs : List ℕ) → prefix_len p xs < length xs → is_blank (get_or xs (prefix_len p xs) 0) ≡ not blanks
  stop_at [] h = absurd (omega arith)
  stop_at (x ∷ xs) h = by_test (p x) refl (stop_at xs) h
    where
      by_test : (t : Bool) → p x ≡ t → (prefix_len p xs < length xs → is_blank (get_or xs (prefix_len p xs) 0) ≡ not blanks)
          → cond t (1 + prefix_len p xs) 0 < suc (length xs)
          → is_blank (get_or (x ∷ xs) (cond t (1 + prefix_len p xs) 0) 0) ≡ not blanks
      by_test true e rest h =
          subst (λ (k : ℕ). is_blank (get_or (x ∷ xs) k 0) ≡ not blanks) (add-one-first (prefix_len p xs)) (rest (omega (arith, h)))
      by_test false e rest h = no x e

  skips : (text : List ℕ) (from : ℕ) → from ≤ length text → Skips blanks text from (from + prefix_len p (drop from text))
  skips text from h =
      let n = prefix_len p (drop from text) in
      let e : from + n - from ≡ n = omega arith in
      let long = length-drop from text in
      let short = few (drop from text) in
      record {
        after = omega arith;
        within = omega (arith, short, long, h);
        run = subst (λ (k : ℕ). All blanks (take k (drop from text))) (sym e) (all_so (drop from text));
        stop = λ inside.
            ap is_blank (sym (get_or-drop from text n 0)) ∙ stop_at (drop from text) (omega (arith, inside, long, h));
      }

-- What was skipped, and what follows.
split : (text : List ℕ) (from r : ℕ) → from ≤ r → drop from text ≡ take (r - from) (drop from text) ++ drop r text
split text from r h =
    let e : from + (r - from) ≡ r = omega arith in
    sym (take-append-drop (r - from) (drop from text))
    ∙ ap (λ (l : List ℕ). take (r - from) (drop from text) ++ l) (drop-drop (r - from) from text ∙ ap (λ (n : ℕ). drop n text) e)

-- Blanks before the parts of a line.
blanks_before : (w l : List ℕ) → All true w → tokens (w ++ l) ≡ tokens l
unfolding tokens
blanks_before [] l all = refl
blanks_before (b ∷ w) l all =
    ap (λ (x : Bool). cond x (tokens (w ++ l)) (before b (w ++ l) (tokens (w ++ l)))) all.0 ∙ blanks_before w l all.1

pub begins : (text : List ℕ) (from r : ℕ) → Skips true text from r → Begins text from r
begins text from r s =
    record {
      after = s.after;
      within = s.within;
      same =
          ap tokens (split text from r s.after) ∙ blanks_before (take (r - from) (drop from text)) (drop r text) s.run;
      solid = s.stop;
    }

-- Bytes that end at the end or before a blank.
abbrev Stops : List ℕ → Type 0
Stops [] = Unit {0}
Stops (b ∷ bs) = is_blank b ≡ true

alone : (b : ℕ) (l : List ℕ) (ts : List (List ℕ)) → Stops l → before b l ts ≡ (b ∷ []) ∷ ts
alone b [] ts h = refl
alone b (c ∷ cs) [] h = refl
alone b (c ∷ cs) (t ∷ ts) h = ap (λ (x : Bool). cond x ((b ∷ []) ∷ t ∷ ts) ((b ∷ t) ∷ ts)) h

first_part : (b : ℕ) (w l : List ℕ) → is_blank b ≡ false → All false w → Stops l → tokens (b ∷ (w ++ l)) ≡ (b ∷ w) ∷ tokens l
unfolding tokens
first_part b [] l solid all h = ap (λ (x : Bool). cond x (tokens l) (before b l (tokens l))) solid ∙ alone b l (tokens l) h
first_part b (c ∷ w) l solid all h =
    ap (λ (x : Bool). cond x (tokens (c ∷ (w ++ l))) (before b (c ∷ (w ++ l)) (tokens (c ∷ (w ++ l))))) solid
    ∙ ap (before b (c ∷ (w ++ l))) (first_part c w l all.0 all.1 h)
    ∙ ap (λ (x : Bool). cond x ((b ∷ []) ∷ (c ∷ w) ∷ tokens l) ((b ∷ c ∷ w) ∷ tokens l)) all.0

part_first : (w l : List ℕ) → 0 < length w → All false w → Stops l → tokens (w ++ l) ≡ w ∷ tokens l
part_first [] l h all stop = absurd (omega arith)
part_first (b ∷ w) l h all stop = first_part b w l all.0 all.1 stop

-- A part stops where a blank or the end stands.
stops : (text : List ℕ) (r : ℕ) → r ≤ length text → (r < length text → is_blank (get_or text r 0) ≡ true) → Stops (drop r text)
stops text r within blank =
    ⊎_elim (λ (e : r ≡ length text). subst Stops (sym (drop_of_length-le text {i = r} (omega arith))) tt)
    (λ (h : r < length text). subst Stops (sym (drop-cons text r 0 h)) (blank h))
    (eq-or-lt_of_le within)

pub ends : (text : List ℕ) (from r : ℕ) → Skips false text from r → Ends text from r
ends text from r s =
    record {
      after = s.after;
      within = s.within;
      moves = λ inside solid.
          ⊎_elim
          (λ (same : from ≡ r).
          absurd (true≢false (sym (s.stop (subst (λ (n : ℕ). n < length text) same inside)) ∙ ap (λ (n : ℕ). is_blank (get_or text n 0)) (sym same) ∙ solid)))
          (λ (less : from < r). less)
          (eq-or-lt_of_le s.after);
      word = λ more.
          ap tokens (split text from r s.after)
          ∙ part_first (take (r - from) (drop from text)) (drop r text)
          (omega (arith, length-take (r - from) (drop from text), length-drop from text, s.within, more))
          s.run
          (stops text r s.within s.stop);
    }

-- A test that is turned round, twice.
once : (b : ℕ) → not (is_blank b) ≡ true → is_blank b ≡ false
once b = turned (is_blank b)
  where
    turned : (t : Bool) → not t ≡ true → t ≡ false
    turned true e = absurd (true≢false (sym e))
    turned false e = refl

other : (b : ℕ) → not (is_blank b) ≡ false → is_blank b ≡ true
other b = turned (is_blank b)
  where
    turned : (t : Bool) → not t ≡ false → t ≡ true
    turned true e = refl
    turned false e = absurd (true≢false e)

twice : (b : ℕ) → not (not (is_blank b)) ≡ true → is_blank b ≡ true
twice b = turned (is_blank b)
  where
    turned : (t : Bool) → not (not t) ≡ true → t ≡ true
    turned true e = refl
    turned false e = e

neither : (b : ℕ) → not (not (is_blank b)) ≡ false → is_blank b ≡ false
neither b = turned (is_blank b)
  where
    turned : (t : Bool) → not (not t) ≡ false → t ≡ false
    turned true e = e
    turned false e = refl

abbrev solid : ℕ → Bool
solid b = not (is_blank b)

-- Where the first part begins; and that there is none.
begins_at : (text : List ℕ) → Begins text 0 (position_or_len solid text)
begins_at text =
    let e : 0 + position_or_len solid text ≡ position_or_len solid text = omega arith in
    begins text 0 (position_or_len solid text)
    (subst (Skips true text 0) e (skips true (λ b. not (solid b)) twice neither text 0 (omega arith)))

placed : (text : List ℕ) {i : ℕ} → position solid text ≡ Some i → (position_or_len solid text ≡ i) × (position_or_len solid text < length text)
placed text {i} = by_test (ltb (position_or_len solid text) (length text)) refl
  where
    by_test : (t : Bool) → ltb (position_or_len solid text) (length text) ≡ t → cond t (Some (position_or_len solid text)) None ≡ Some i
        → (position_or_len solid text ≡ i) × (position_or_len solid text < length text)
    by_test true e is = (cc, ltb-true (position_or_len solid text) (length text) e)
    by_test false e is = absurd (none-some i is)

pub no_part : (text : List ℕ) → position solid text ≡ None → tokens text ≡ []
unfolding tokens
no_part text = by_test (ltb (position_or_len solid text) (length text)) refl
  where
    by_test : (t : Bool) → ltb (position_or_len solid text) (length text) ≡ t → cond t (Some (position_or_len solid text)) None ≡ None → tokens text ≡ []
    by_test true e is = absurd (none-some (position_or_len solid text) (sym is))
    by_test false e is =
        (begins_at text).same
        ∙ ap tokens (drop_of_length-le text {i = position_or_len solid text} (ltb-false (position_or_len solid text) (length text) e))

a_part_from : (text part rest : List ℕ) {begin end : ℕ} → position solid text ≡ Some begin → end ≡ position_or_len is_blank (drop begin text)
    → part ≡ take end (drop begin text)
    → rest ≡ drop end (drop begin text)
    → FirstPart text part rest
a_part_from text part rest {begin} {end} is to part-is rest-is =
    let at = placed text is in
    let same = at.0 in
    let inside : begin < length text = omega (arith, at.1, same) in
    let e : begin + end - begin ≡ end = omega arith in
    record {
      begin = begin;
      end = begin + end;
      begins = subst (Begins text 0) same (begins_at text);
      inside = inside;
      ends =
          subst (λ (n : ℕ). Ends text begin (begin + n)) (sym to)
          (ends text begin (begin + position_or_len is_blank (drop begin text)) (skips false solid once other text begin (omega (arith, inside))));
      part_is = part-is ∙ ap (λ (n : ℕ). take n (drop begin text)) (sym e);
      rest_is = rest-is ∙ drop-drop end begin text;
    }

pub end_inside : (text : List ℕ) → position_or_len is_blank text ≤ length text
end_inside text = few false solid once other text

-- The text from a place on, as a slice to its end.
abbrev from_on : List ℕ → ℕ → List ℕ
from_on text begin = take (length text - begin) (drop begin text)

pub a_part : (text part rest : List ℕ) {begin end : ℕ} → position solid text ≡ Some begin → end ≡ position_or_len is_blank (from_on text begin)
    → part ≡ take end (from_on text begin)
    → rest ≡ drop end (from_on text begin)
    → FirstPart text part rest
a_part text part rest {begin} {end} is =
    let e : from_on text begin ≡ drop begin text = take_all (length text - begin) (drop begin text) (omega (arith, length-drop begin text)) in
    subst
    (λ (l : List ℕ). end ≡ position_or_len is_blank l → part ≡ take end l → rest ≡ drop end l → FirstPart text part rest)
    (sym e)
    (a_part_from text part rest is)

-- It is the first of the parts, and the others follow.
pub parts_are : {text part rest : List ℕ} → FirstPart text part rest → tokens text ≡ part ∷ tokens rest
parts_are {text} {part} {rest} p =
    p.begins.same ∙ p.ends.word (p.ends.moves p.inside (p.begins.solid p.inside))
    ∙ ap₂ (λ (x y : List ℕ). x ∷ tokens y) (sym p.part_is) (sym p.rest_is)
