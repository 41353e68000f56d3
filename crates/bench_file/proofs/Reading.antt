-- The reader over a file that is not refused: what holds of such a file, and the theorem that the reader, moved on from packet to word, gives its packets
-- and words, each packet before its words, and then the end.
-- Assumes nothing.
use Prim.Native.Nat.{ℕ, zero, suc, ◌+◌, ◌-◌, ◌≤◌, ◌<◌}
use mathlib.Core.Path.{◌≡◌, refl, sym, ap, subst, ◌∙◌}
use mathlib.Core.Bool.{Bool, true, false, cond}
use Rattle.std.proofs.Common.{⊎_elim, Some, None}
use mathlib.Core.List.{List, [], ◌∷◌, ◌++◌}
use native.Mathlib.Nat.{eq-or-lt_of_le, add-zero, add-suc, sub-zero}
use native.Mathlib.Numerals.{add-one}
use native.Mathlib.Omega.{arith}
use borrow.Author.Tests.{leb-true, eqb-true, ne_eqb}
use lib.Dec.{leb, eqb}
use lib.ListN.{length}
use denote.Ref.{Bor}
use Rattle.words.specs.Word.{word_bytes}
use Rattle.packet.specs.declared.Packet.{Packet}
use Rattle.packet.specs.Packet.{in_range, max_words}
use Rattle.bench_file.specs.declared.Found.TheVariants as F
use Rattle.bench_file.specs.File.{packets, words, packet_place, packet_at, count_at, word_place, bytes_at, words_before}
use Rattle.bench_file.specs.File.{misfit, packet_refusal, first_refusal, check_of}
use Rattle.bench_file.specs.Items.{Item, packet, word, word_items, packet_items, items, items_from}
use Rattle.bench_file.specs.Reader.{reader_at, has_packet, has_word, word_found, past_packet, past_word, as_packet, as_word, next_found}
use Rattle.bench_file.specs.Reader.{Gives, end, packet_first, then_word, Sound, Place}
use Rattle.bench_file.proofs.Checking.{Fitting, fitting, one_more}
use Rattle.bench_file.proofs.Finding.{packet_in_lem, packet_past, packet_found_lem, packet_end, past_packet_lem, word_in, word_found_lem, past_word_lem}

-- While words are left, a word is asked for.
pub asks_word : (file : List ℕ) (i n left : ℕ) → next_found file i n (suc left) ≡ as_word (word_found file n)
asks_word file i n left = simp (ne_eqb (suc left) 0 (λ q. omega arith))

-- What a packet and a word that the reader gives mean for what is to come, at a place that it comes to.
pub record PacketGiven (file : List ℕ) (i n left : ℕ) (p : Packet) (count : ℕ) : Type 0 where
  pub in_range_is : in_range p ≡ true
  pub few : count ≤ max_words
  pub one_on : past_packet file i ≡ i + 1
  pub next : Place file (past_packet file i) n count
  pub comes : items_from file i n left ≡ packet p count ∷ items_from file (past_packet file i) n count

pub record WordGiven (file : List ℕ) (i n left at : ℕ) : Type 0 where
  pub one_left : 1 ≤ left
  pub inside : at + word_bytes ≤ length file
  pub one_on : past_word file n ≡ n + 1
  pub next : Place file i (past_word file n) (left - 1)
  pub comes : items_from file i n left ≡ word at (bytes_at file at) ∷ items_from file i (past_word file n) (left - 1)

-- A choice that is 0 did not take its refusal.
no_misfit : (b : Bool) (n : ℕ) → cond b 6 n ≡ 0 → (b ≡ false) × (n ≡ 0)
no_misfit true n e = absurd (omega arith)
no_misfit false n e = (refl, e)

taken : (b : Bool) (n m : ℕ) → cond b n (suc m) ≡ 0 → (b ≡ true) × (n ≡ 0)
taken true n m e = (refl, e)
taken false n m e = absurd (omega arith)

both_none : (n m : ℕ) → cond (eqb n 0) m n ≡ 0 → (n ≡ 0) × (m ≡ 0)
both_none zero m e = (refl, e)
both_none (suc n) m e =
    let k = simp (ne_eqb (suc n) 0 (λ q. omega arith)) at e in
    absurd (omega arith)

-- With no first refusal no packet has one.
none_first : (file : List ℕ) (n i : ℕ) → first_refusal file n i ≡ 0 → (j : ℕ) → i ≤ j → j < i + n
    → packet_refusal file (packet_place j) ≡ 0
unfolding first_refusal
none_first file zero i e j h k = absurd (omega arith)
none_first file (suc n) i e j h k =
    let here = both_none (packet_refusal file (packet_place i)) (first_refusal file n (suc i)) e in
    ⊎_elim
    (λ (s : i ≡ j). ap (λ (m : ℕ). packet_refusal file (packet_place m)) (sym s) ∙ here.0)
    (λ (s : i < j). none_first file n (suc i) here.1 j s (omega arith))
    (eq-or-lt_of_le h)

-- A file that is not refused has the length and the offsets of a file.
pub fits : (file : List ℕ) → check_of file ≡ 0 → Fitting file
unfolding check_of
fits file e = fitting file (no_misfit (misfit file) _ e).0

pub sound : (file : List ℕ) → check_of file ≡ 0 → Sound file
unfolding check_of
sound file e =
    let sums = taken (eqb (words_before file (packets file)) (words file)) _ 6 (no_misfit (misfit file) _ e).1 in
    let f = fits file e in
    let none : (i : ℕ) → i < packets file → packet_refusal file (packet_place i) ≡ 0 =
    λ i h. none_first file (packets file) 0 sums.1 i (omega arith) (omega arith) in
    record {
      short = f.short;
      whole = f.whole;
      packets_few = omega arith;
      words_few = omega arith;
      sum = eqb-true _ _ sums.0;
      in_range_is = λ i h. (taken (in_range (packet_at file i)) _ 4 (none i h)).0;
      count =
          λ i h. leb-true _ _ (taken (leb (count_at file i) max_words) 0 2
          (taken (in_range (packet_at file i)) _ 4 (none i h)).1).0;
      inside = λ n h. omega arith;
    }

-- The packets before a later packet have no fewer words.
pub more_words : (file : List ℕ) (i k : ℕ) → words_before file i ≤ words_before file (i + k)
unfolding words_before
more_words file i zero = rw (add-zero i) (omega arith)
more_words file i (suc k) = rw (add-suc i k) (omega (arith, more_words file i k))

module _ {file : List ℕ} (s : Sound file) where
  pub words_at_most : (i : ℕ) → i ≤ packets file → words_before file i ≤ words file
  words_at_most i h =
      let e : i + (packets file - i) ≡ packets file = omega arith in
      let m = more_words file i (packets file - i) in
      let k : words_before file (i + (packets file - i)) ≡ words file = ap (words_before file) e ∙ s.sum in
      omega arith

  pub word_here : (n : ℕ) → n < words file → has_word file n ≡ true
  word_here n h = word_in file n h (s.inside n h)

  pub packet_here : (i : ℕ) → i < packets file → has_packet file i ≡ true
  packet_here i h =
      let w = s.whole in
      packet_in_lem file i h (omega arith)

  next_word : (i n left : ℕ) → n < words file → next_found file i n (suc left) ≡ Some (F.Word (word_place file n))
  next_word i n left h = asks_word file i n left ∙ ap as_word (word_found_lem file n (word_here n h))

  next_packet : (i n : ℕ) → i < packets file → next_found file i n 0 ≡ Some (F.Packet (packet_at file i) (count_at file i))
  next_packet i n h = ap as_packet (packet_found_lem file i (packet_here i h))

  -- What a place that the reader comes to is at.
  pub reached : {i n left : ℕ} → Place file i n left → n + left ≤ words file
  reached {i} {n} {left} p =
      let most = words_at_most i p.within in
      let here = p.here in
      omega arith

  at_packet : (i n : ℕ) → Place file i n 0 → i < packets file
      → PacketGiven file i n 0 (packet_at file i) (count_at file i)
  unfolding word_items packet_items
  at_packet i n p h =
      let e : packets file - i ≡ suc (packets file - (i + 1)) = omega arith in
      let more = one_more file i in
      let here = p.here in
      record {
        in_range_is = s.in_range_is i h;
        few = s.count i h;
        one_on = past_packet_lem file i (packet_here i h);
        next = rw (past_packet_lem file i (packet_here i h)) (record { within = omega arith; here = omega arith });
        comes = rw (past_packet_lem file i (packet_here i h), e, add-zero n, add-one i);
      }

  at_word : (i n left : ℕ) → Place file i n (suc left) → WordGiven file i n (suc left) (word_place file n)
  unfolding word_items
  at_word i n left p =
      let most = reached p in
      let here = p.here in
      let less : suc left - 1 ≡ left = omega arith in
      let same : n + suc left ≡ suc n + left = omega arith in
      record {
        one_left = omega arith;
        inside = s.inside n (omega arith);
        one_on = past_word_lem file n (word_here n (omega arith));
        next = rw (past_word_lem file n (word_here n (omega arith))) (record { within = p.within; here = omega arith });
        comes = rw (past_word_lem file n (word_here n (omega arith)), less, add-one n, same);
      }

  at_end : (i n : ℕ) → i ≡ packets file → items_from file i n 0 ≡ []
  unfolding word_items packet_items
  at_end i n h =
      let e : packets file - i ≡ 0 = omega arith in
      rw e

  -- What the reader's answer means for what is to come: a packet, a word, the end.
  pub packet_given : {i n left count : ℕ} {p : Packet} → Place file i n left
      → next_found file i n left ≡ Some (F.Packet p count) → PacketGiven file i n left p count
  packet_given {i} {n} {left = zero} {count} {p} place e =
      ⊎_elim
      (λ (h : i ≡ packets file). absurd (cc (ap as_packet (packet_end file i (packet_past file i (omega arith))))))
      (λ (h : i < packets file).
      let given = next_packet i n h in
      let same : packet_at file i ≡ p = cc in
      let counts : count_at file i ≡ count = cc in
      rw (← same, ← counts) (at_packet i n place h))
      (eq-or-lt_of_le place.within)
  packet_given {i} {n} {left = suc left} place e =
      let most = reached place in
      let given = next_word i n left (omega arith) in
      absurd (cc)

  pub word_given : {i n left at : ℕ} → Place file i n left
      → next_found file i n left ≡ Some (F.Word at) → WordGiven file i n left at
  word_given {i} {n} {left = zero} place e =
      ⊎_elim
      (λ (h : i ≡ packets file). absurd (cc (ap as_packet (packet_end file i (packet_past file i (omega arith))))))
      (λ (h : i < packets file). absurd (cc (next_packet i n h)))
      (eq-or-lt_of_le place.within)
  word_given {i} {n} {left = suc left} {at} place e =
      let most = reached place in
      let given = next_word i n left (omega arith) in
      let same : word_place file n ≡ at = cc in
      rw (← same) (at_word i n left place)

  pub end_given : {i n left : ℕ} → Place file i n left → next_found file i n left ≡ None → items_from file i n left ≡ []
  end_given {i} {n} {left = zero} place e =
      ⊎_elim
      (λ (h : i ≡ packets file). at_end i n h)
      (λ (h : i < packets file). absurd (cc (next_packet i n h)))
      (eq-or-lt_of_le place.within)
  end_given {i} {n} {left = suc left} place e =
      let most = reached place in
      let given = next_word i n left (omega arith) in
      absurd (cc)

-- The place at the start, and that all is to come there.
pub at_start : (file : List ℕ) → Place file 0 0 0
unfolding words_before
at_start file = record { within = omega arith; here = refl }

pub all_to_come : (file : List ℕ) → items_from file 0 0 0 ≡ items file
unfolding items word_items
all_to_come file = simp sub-zero

-- Over a good file the reader, from the start, gives the packets and words of the definition, in order, and then the end.
module _ (bytes : Bor (List ℕ)) (s : Sound bytes.now) where
  abbrev file : List ℕ
  file = bytes.now

  -- The words that are left, and then what comes after them.
  words_given : (left i n : ℕ) (rest : List Item) → n + left ≤ words file → Gives (reader_at bytes i (n + left)) 0 rest
      → Gives (reader_at bytes i n) left (word_items file left n ++ rest)
  unfolding word_items
  words_given zero i n rest h g = rw (add-zero n) at g
  words_given (suc left) i n rest h g =
      let here = word_here s n (omega arith) in
      let e : n + suc left ≡ suc n + left = omega arith in
      let more : Gives (reader_at bytes i (past_word file n)) left (word_items file left (suc n) ++ rest) =
      rw (past_word_lem file n here, add-one n) (words_given left i (suc n) rest (omega arith)
      (subst (λ (m : ℕ). Gives (reader_at bytes i m) 0 rest) e g)) in
      then_word (word_found_lem file n here) more

  packets_given : (k i n : ℕ) → i + k ≡ packets file → n ≡ words_before file i
      → Gives (reader_at bytes i n) 0 (packet_items file k i n)
  unfolding packet_items words_before
  packets_given zero i n h e = end (packet_end file i (packet_past file i (omega arith)))
  packets_given (suc k) i n h e =
      let here = packet_here s i (omega arith) in
      let most = words_at_most s (suc i) (omega arith) in
      let later = packets_given k (suc i) (n + count_at file i) (omega arith) (omega arith) in
      let more : Gives (reader_at bytes (past_packet file i) n) (count_at file i)
      (word_items file (count_at file i) n ++ packet_items file k (suc i) (n + count_at file i)) =
      rw (past_packet_lem file i here, add-one i) (words_given (count_at file i) (suc i) n _ (omega arith) later) in
      packet_first (packet_found_lem file i here) more

pub reader_gives : (bytes : Bor (List ℕ)) → check_of bytes.now ≡ 0 → Gives (reader_at bytes 0 0) 0 (items bytes.now)
unfolding items words_before
reader_gives bytes e = packets_given bytes (sound bytes.now e) (packets bytes.now) 0 0 (omega arith) refl
