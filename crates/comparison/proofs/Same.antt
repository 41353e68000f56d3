-- "Nothing is listed, counts included, exactly when the files are equal."
-- Assumes nothing.
use Prim.Native.Nat.{ℕ, zero, suc, ◌+◌, ◌*◌, ◌/◌, ◌%◌, ◌≤◌, ◌<◌}
use mathlib.Core.Path.{◌≡◌, refl, sym, ap, subst, ◌∙◌}
use mathlib.Core.Bool.{Bool, true, false}
use mathlib.Core.List.{List, [], ◌∷◌, ◌++◌, cons-ne-nil}
use mathlib.Core.Logic.{◌↔◌, ⊎_elim}
use native.Mathlib.Nat.{eq-or-lt_of_le}
use native.Mathlib.Omega.{arith}
use borrow.Author.Tests.{eqb-true, eq-eqb, not-false}
use lib.Dec.{eqb}
use lib.ListN.{length, get_or, take, drop, length-drop}
use lib.Seq.{drop-drop, drop-length, length-take-le}
use Rattle.words.specs.Word.{number}
use Rattle.words.specs.LittleEndian.{number_at}
use Rattle.words.specs.Lists.{Each}
use Rattle.bench_file.specs.File.{packets, words, packet_place, packet_at, count_at, word_place, words_before, check_of}
use Rattle.bench_file.proofs.Checking.{one_more}
use Rattle.bench_file.proofs.Reading.{fits, sound, words_at_most}
use Rattle.comparison.specs.declared.Place.{Place}
use Rattle.comparison.specs.declared.Where.{Where}
use Rattle.comparison.specs.declared.Where.TheVariants as W
use Rattle.comparison.specs.Compare.{refusal_of, common, common_words, field_of, byte_at, packets_place, words_place}
use Rattle.comparison.specs.Compare.{count_place, field_place, byte_place, each, each_one, word_places, packet_places, places, differs, differing, differences}
use Rattle.comparison.specs.Text.{line_at, line_of, lines, last_line, text}
use Rattle.comparison.proofs.Printing.{not_refused}

-- A list of bytes.
abbrev pub Bytes : List ℕ → Type 0
Bytes = Each (λ (byte : ℕ). byte < 256)

-- Nothing of a list of places differs exactly when no place of it does.
abbrev Same : Place → Type 0
Same p = differs p ≡ false

abbrev AllSame : List Place → Type 0
AllSame = Each Same

none_differs : (ps : List Place) → differing ps ≡ [] → AllSame ps
unfolding differing
none_differs [] e = tt
none_differs (p ∷ ps) e = at (differs p) refl (none_differs ps)
  where
    at : (t : Bool) → differs p ≡ t → (differing ps ≡ [] → AllSame ps) → AllSame (p ∷ ps)
    at true t rest = absurd (cons-ne-nil _ _ (simp t at e))
    at false t rest = (t, rest (simp t at e))

nothing_differs : (ps : List Place) → AllSame ps → differing ps ≡ []
unfolding differing
nothing_differs [] h = refl
nothing_differs (p ∷ ps) h = rw h.0 (nothing_differs ps h.1)

both_same : (xs ys : List Place) → AllSame xs → AllSame ys → AllSame (xs ++ ys)
both_same [] ys h k = k
both_same (x ∷ xs) ys h k = (h.0, both_same xs ys h.1 k)

same_both : (xs ys : List Place) → AllSame (xs ++ ys) → AllSame xs × AllSame ys
same_both [] ys h = (tt, h)
same_both (x ∷ xs) ys h = let rest = same_both xs ys h.1 in ((h.0, rest.0), rest.1)

each_same : (n i : ℕ) (given : ℕ → List Place) → ((j : ℕ) → AllSame (given j)) → AllSame (each n i given)
unfolding each
each_same zero i given h = tt
each_same (suc n) i given h = both_same (given i) (each n (suc i) given) (h i) (each_same n (suc i) given h)

same_each : (n i : ℕ) (given : ℕ → List Place) → AllSame (each n i given) → (j : ℕ) → i ≤ j → j < i + n
    → AllSame (given j)
unfolding each
same_each zero i given h j low high = absurd (omega arith)
same_each (suc n) i given h j low high =
    let parts = same_both (given i) (each n (suc i) given) h in
    ⊎_elim (λ (s : i ≡ j). subst (λ (k : ℕ). AllSame (given k)) s parts.0)
    (λ (s : i < j). same_each n (suc i) given parts.1 j s (omega arith)) (eq-or-lt_of_le low)

same_numbers : {x y : ℕ} → eqb x y ≡ true → x ≡ y
same_numbers {x} {y} e = eqb-true x y e

-- From the end to the beginning.
down : (n : ℕ) (S : ℕ → Type 0) → ((i : ℕ) → i < n → S (suc i) → S i) → S n → S 0
down zero S step s = s
down (suc n) S step s = down n S (λ i lt. step i (omega arith)) (step n (omega arith) s)

-- A number tells its bytes.
number_one : (xs ys : List ℕ) → length xs ≡ length ys → Bytes xs → Bytes ys → number xs ≡ number ys → xs ≡ ys
unfolding number
number_one [] [] l p q e = refl
number_one [] (y ∷ ys) l p q e = absurd (omega (arith, l))
number_one (x ∷ xs) [] l p q e = absurd (omega (arith, l))
number_one (x ∷ xs) (y ∷ ys) l p q e =
    let head : x ≡ y = omega (arith, e, p.0, q.0) in
    let rest : number xs ≡ number ys = omega (arith, e, p.0, q.0) in
    λ i. head i ∷ number_one xs ys (omega (arith, l)) p.1 q.1 rest i

bytes_drop : (n : ℕ) (xs : List ℕ) → Bytes xs → Bytes (drop n xs)
bytes_drop zero xs p = p
bytes_drop (suc n) [] p = p
bytes_drop (suc n) (x ∷ xs) p = bytes_drop n xs p.1

bytes_take : (n : ℕ) (xs : List ℕ) → Bytes xs → Bytes (take n xs)
bytes_take zero xs p = tt
bytes_take (suc n) [] p = tt
bytes_take (suc n) (x ∷ xs) p = (p.0, bytes_take n xs p.1)

take_drop : (n : ℕ) (xs : List ℕ) → xs ≡ take n xs ++ drop n xs
take_drop zero xs = refl
take_drop (suc n) [] = refl
take_drop (suc n) (x ∷ xs) = ap (λ (l : List ℕ). x ∷ l) (take_drop n xs)

module _ (a b : List ℕ) (pa : Bytes a) (pb : Bytes b) where
  abbrev From : ℕ → Type 0
  From at = drop at a ≡ drop at b

  -- One number is the same, and all that follows it.
  by_field : (at n : ℕ) → at + n ≤ length a → at + n ≤ length b → number_at a at n ≡ number_at b at n → From (at + n)
      → From at
  unfolding number_at
  by_field at n la lb e rest =
      take_drop n (drop at a)
      ∙ (λ i. number_one (take n (drop at a)) (take n (drop at b))
      (length-take-le n (drop at a) (long a la) ∙ sym (length-take-le n (drop at b) (long b lb)))
      (bytes_take n (drop at a) (bytes_drop at a pa))
      (bytes_take n (drop at b) (bytes_drop at b pb)) e i ++ (drop-drop n at a ∙ rest ∙ sym (drop-drop n at b)) i)
      ∙ sym (take_drop n (drop at b))
    where
      long : (xs : List ℕ) → at + n ≤ length xs → n ≤ length (drop at xs)
      long xs le = omega (arith, le, length-drop at xs)

  -- So many bytes.
  by_bytes : (at n : ℕ) → at + n ≤ length a → at + n ≤ length b
      → ((j : ℕ) → j < n → number_at a (at + j) 1 ≡ number_at b (at + j) 1) → From (at + n) → From at
  by_bytes at n la lb same end = from_0 (down n (λ j. From (at + j)) step end)
    where
      from_0 : From (at + 0) → From at
      from_0 f = let e : at + 0 ≡ at = omega arith in subst From e f

      step : (j : ℕ) → j < n → From (at + suc j) → From (at + j)
      step j lt rest =
          let e : at + suc j ≡ at + j + 1 = omega arith in
          by_field (at + j) 1 (omega (arith, la, lt)) (omega (arith, lb, lt)) (same j lt) (subst From e rest)

-- Two files that are not refused, of which nothing is listed.
module _ (a b : List ℕ) (pa : Bytes a) (pb : Bytes b) (ca : check_of a ≡ 0) (cb : check_of b ≡ 0)
    (none : differences a b ≡ []) where
  all_same : AllSame (places a b)
  unfolding differences
  all_same = none_differs (places a b) none

  parts : Same (packets_place a b)
      × (Same (words_place a b) × (AllSame (each_one (common a b) 0 (count_place a b))
      × AllSame (each (common a b) 0 (packet_places a b))))
  unfolding places
  parts =
      let h = all_same in
      (h.0, (h.1.0, same_both (each_one (common a b) 0 (count_place a b)) (each (common a b) 0 (packet_places a b)) h.1.1))

  same_packets : packets a ≡ packets b
  same_packets = same_numbers (not-false (eqb (packets a) (packets b)) parts.0)

  same_words : words a ≡ words b
  same_words = same_numbers (not-false (eqb (words a) (words b)) parts.1.0)

  same_count : (p : ℕ) → p < packets a → count_at a p ≡ count_at b p
  same_count p lt =
      same_numbers (not-false (eqb (count_at a p) (count_at b p))
      (same_each (common a b) 0 (λ (i : ℕ). count_place a b i ∷ []) parts.1.1.0 p (omega arith)
      (omega (arith, lt, same_packets))).0)

  same_before : (p : ℕ) → p ≤ packets a → words_before a p ≡ words_before b p
  unfolding words_before
  same_before zero le = refl
  same_before (suc p) le = λ i. same_before p (omega arith) i + same_count p (omega arith) i

  packet_same : (p : ℕ) → p < packets a → AllSame (each_one 7 0 (field_place a b p))
      × AllSame (each (common_words a b p) 0 (word_places a b p))
  packet_same p lt =
      same_both (each_one 7 0 (field_place a b p)) (each (common_words a b p) 0 (word_places a b p))
      (same_each (common a b) 0 (packet_places a b) parts.1.1.1 p (omega arith) (omega (arith, lt, same_packets)))

  same_field : (p : ℕ) → p < packets a → (i : ℕ) → i < 7 → field_of (packet_at a p) i ≡ field_of (packet_at b p) i
  same_field p lt i li =
      same_numbers
      (not-false (eqb (field_of (packet_at a p) i) (field_of (packet_at b p) i))
      (same_each 7 0 (λ (j : ℕ). field_place a b p j ∷ []) (packet_same p lt).0 i (omega arith) (omega (arith, li))).0)

  same_byte : (p : ℕ) → p < packets a → (w : ℕ) → w < count_at a p → (k : ℕ) → k < 10 → byte_at a p w k ≡ byte_at b p w k
  same_byte p lt w lw k lk =
      let word = same_each (common_words a b p) 0 (word_places a b p) (packet_same p lt).1 w (omega arith)
      (omega (arith, lw, same_count p lt)) in
      same_numbers
      (not-false (eqb (byte_at a p w k) (byte_at b p w k))
      (same_each 10 0 (λ (j : ℕ). byte_place a b p w j ∷ []) word k (omega arith) (omega (arith, lk))).0)

  abbrev FromHere : ℕ → Type 0
  FromHere = From a b pa pb

  whole : length a ≡ word_place a (words a)
  whole = (fits a ca).whole

  same_length : length a ≡ length b
  same_length = omega (arith, whole, (fits b cb).whole, same_packets, same_words)

  at_end : FromHere (length a)
  at_end = drop-length a ∙ sym (ap (λ (n : ℕ). drop n b) same_length ∙ drop-length b)

  -- The words, from the last packet's on.
  by_words : (p : ℕ) → p < packets a → FromHere (word_place a (words_before a (suc p)))
      → FromHere (word_place a (words_before a p))
  unfolding words_before
  by_words p lt rest =
      let most = words_at_most (sound a ca) (p + 1) (omega (arith, lt)) in
      let more = one_more a p in
      let e : word_place a (words_before a p + count_at a p) ≡ word_place a (words_before a p) + 10 * count_at a p =
      omega arith in
      by_bytes a b pa pb (word_place a (words_before a p)) (10 * count_at a p) (omega (arith, whole))
      (omega (arith, whole, same_length)) same (subst FromHere e rest)
    where
      same : (j : ℕ) → j < 10 * count_at a p → number_at a (word_place a (words_before a p) + j) 1 ≡ number_at b
          (word_place a (words_before a p) + j) 1
      same j lj =
          let e : word_place a (words_before a p) + j ≡ word_place a (words_before a p + j / 10) + j % 10 = omega arith in
          let e' : word_place b (words_before b p + j / 10) + j % 10 ≡ word_place a (words_before a p) + j =
          omega (arith, same_packets, same_before p (omega (arith, lt))) in
          ap (λ (n : ℕ). number_at a n 1) e ∙ same_byte p lt (j / 10) (omega (arith, lj)) (j % 10) (omega arith)
          ∙ ap (λ (n : ℕ). number_at b n 1) e'

  all_words : FromHere (packet_place (packets a))
  unfolding words_before
  all_words =
      let e : length a ≡ word_place a (words_before a (packets a)) = omega (arith, whole, (sound a ca).sum) in
      let e' : word_place a 0 ≡ packet_place (packets a) = omega arith in
      subst FromHere e' (down (packets a) (λ p. FromHere (word_place a (words_before a p))) by_words
      (subst FromHere e at_end))

  -- A number of a packet or of the header, and all that follows.
  at_place : (at n next : ℕ) → at + n ≡ next → next ≤ packet_place (packets a) → number_at a at n ≡ number_at b at n
      → FromHere next → FromHere at
  at_place at n next s le e rest =
      by_field a b pa pb at n (omega (arith, s, le, whole)) (omega (arith, s, le, whole, same_length)) e
      (subst FromHere (sym s) rest)

  by_packet : (p : ℕ) → p < packets a → FromHere (packet_place (suc p)) → FromHere (packet_place p)
  by_packet p lt rest =
      let at = packet_place p in
      at_place at 8 (at + 8) refl (omega (arith, lt)) (same_field p lt 0 (omega arith))
      (at_place (at + 8) 4 (at + 12) (omega arith) (omega (arith, lt)) (same_field p lt 1 (omega arith))
      (at_place (at + 12) 4 (at + 16) (omega arith) (omega (arith, lt)) (same_field p lt 2 (omega arith))
      (at_place (at + 16) 2 (at + 18) (omega arith) (omega (arith, lt)) (same_field p lt 3 (omega arith))
      (at_place (at + 18) 2 (at + 20) (omega arith) (omega (arith, lt)) (same_field p lt 4 (omega arith))
      (at_place (at + 20) 1 (at + 21) (omega arith) (omega (arith, lt)) (same_field p lt 5 (omega arith))
      (at_place (at + 21) 1 (at + 22) (omega arith) (omega (arith, lt)) (same_field p lt 6 (omega arith))
      (at_place (at + 22) 2 (packet_place (suc p)) (omega arith) (omega (arith, lt)) (same_count p lt) rest)))))))

  all_packets : FromHere 16
  all_packets = down (packets a) (λ p. FromHere (packet_place p)) by_packet all_words

  same : a ≡ b
  same =
      let fa = fits a ca in
      let fb = fits b cb in
      at_place 0 4 4 refl (omega arith) same_packets
      (at_place 4 4 8 refl (omega arith) same_words
      (at_place 8 4 12 refl (omega arith) (fa.packets_at ∙ sym fb.packets_at)
      (at_place 12 4 16 refl (omega arith) (fa.words_at ∙ ap packet_place same_packets ∙ sym fb.words_at)
      all_packets)))

-- Nothing is listed of a file and itself.
itself : (x : ℕ) → eqb x x ≡ true
itself x = eq-eqb x x refl

packet_itself : (a : List ℕ) (p : ℕ) → AllSame (packet_places a a p)
packet_itself a p =
    both_same (each_one 7 0 (field_place a a p)) (each (common_words a a p) 0 (word_places a a p))
    (each_same 7 0 (λ (i : ℕ). field_place a a p i ∷ []) (λ i. (rw (itself (field_of (packet_at a p) i)), tt)))
    (each_same (common_words a a p) 0 (word_places a a p)
    (λ w. each_same 10 0 (λ (k : ℕ). byte_place a a p w k ∷ []) (λ k. (rw (itself (byte_at a p w k)), tt))))

nothing_listed : (a : List ℕ) → differences a a ≡ []
unfolding differences places
nothing_listed a =
    nothing_differs (places a a) (
      rw (itself (packets a)),
      (
        rw (itself (words a)),
        both_same (each_one (common a a) 0 (count_place a a)) (each (common a a) 0 (packet_places a a))
            (each_same (common a a) 0 (λ (p : ℕ). count_place a a p ∷ []) (λ p. (rw (itself (count_at a p)), tt)))
            (each_same (common a a) 0 (packet_places a a) (packet_itself a)),
      ),
    )

-- "Nothing is listed, counts included, exactly when the files are equal": of two files that are not refused. That they are lists of bytes every slice of the
-- code tells by its type.
pub exactly_when_equal : (a b : List ℕ) → Bytes a → Bytes b → refusal_of a ≡ 0 → refusal_of b ≡ 0 → (differences a b ≡ [])
    ↔ (a ≡ b)
exactly_when_equal a b pa pb ra rb =
    (same a b pa pb (not_refused a ra).0 (not_refused b rb).0, λ e. subst (λ (x : List ℕ). differences a x ≡ []) e (nothing_listed a))

-- And so of what is printed: `differences 0` and nothing else.
module _ (rest more : List ℕ) where
  other_line : (p : Place) → line_of p ++ rest ++ more ≡ last_line 0 → ⊥
  unfolding line_of last_line
  other_line p e = at p.at (ap (λ (l : List ℕ). get_or l 0 0) e)
    where
      at : (w : Where) → get_or (line_at w (p.first ∷ (p.second ∷ [])) ++ rest ++ more) 0 0 ≡ 100 → ⊥
      at W.Packets z = absurd (omega (arith, z))
      at W.Words z = absurd (omega (arith, z))
      at (W.Count i) z = absurd (omega (arith, z))
      at (W.Field i j) z = absurd (omega (arith, z))
      at (W.Byte i j k) z = absurd (omega (arith, z))

no_lines : (ps : List Place) → lines ps ++ last_line (length ps) ≡ last_line 0 → ps ≡ []
unfolding lines
no_lines [] e = refl
no_lines (p ∷ ps) e = absurd (other_line (lines ps) (last_line (suc (length ps))) p e)

listed_text : (a b : List ℕ) → refusal_of a ≡ 0 → refusal_of b ≡ 0
    → text a b ≡ lines (differences a b) ++ last_line (length (differences a b))
unfolding text
listed_text a b ra rb = simp (eq-eqb _ _ ra, eq-eqb _ _ rb)

pub says_equal : (a b : List ℕ) → Bytes a → Bytes b → refusal_of a ≡ 0 → refusal_of b ≡ 0 → (text a b ≡ last_line 0)
    ↔ (a ≡ b)
unfolding lines
says_equal a b pa pb ra rb =
    let exactly = exactly_when_equal a b pa pb ra rb in
    (λ e. exactly.0 (no_lines (differences a b) (sym (listed_text a b ra rb) ∙ e)), λ e. listed_text a b ra rb ∙ rw (exactly.1 e))
