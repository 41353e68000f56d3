-- Of two files that are compared none is refused with 3: 28,000 bytes have no room for a packet of 4,097 words.
-- Assumes nothing.
use Prim.Native.Nat.{ℕ, zero, suc, ◌+◌, ◌-◌, ◌≤◌, ◌<◌}
use mathlib.Core.Path.{◌≡◌, refl, ap, ◌∙◌}
use mathlib.Core.Bool.{Bool, true, false}
use mathlib.Core.List.{List}
use native.Mathlib.Omega.{arith}
use borrow.Author.Tests.{eqb-true, ltb-false, leb-false}
use lib.Dec.{leb, ltb, eqb}
use lib.ListN.{length}
use Rattle.packet.specs.Packet.{in_range, max_words}
use Rattle.bench_file.specs.File.{packets, words, packet_place, packet_at, count_at, words_before, misfit, refusal_by, packet_refusal, first_refusal, check_of}
use Rattle.bench_file.proofs.Checking.{fitting, one_more}
use Rattle.bench_file.proofs.Reading.{more_words}
use Rattle.comparison.specs.Compare.{most_compared, refusal_of}

-- The first refusal is that of a packet.
abbrev HasIt : List ℕ → ℕ → ℕ → Type 0
HasIt file end r = (j : ℕ) × ((j < end) × (packet_refusal file (packet_place j) ≡ r))

first_of : (file : List ℕ) (n i r : ℕ) → first_refusal file n i ≡ suc r → HasIt file (i + n) (suc r)
unfolding first_refusal
first_of file zero i r e = absurd (omega (arith, e))
first_of file (suc n) i r e = at (eqb (packet_refusal file (packet_place i)) 0) refl (first_of file n (suc i) r)
  where
    at : (t : Bool) → eqb (packet_refusal file (packet_place i)) 0 ≡ t
        → (first_refusal file n (suc i) ≡ suc r → HasIt file (suc i + n) (suc r))
        → HasIt file (i + suc n) (suc r)
    at true t more =
        let later = more (simp t at e) in
        (later.0, (omega (arith, later.1.0), later.1.1))
    at false t more = (i, (omega arith, simp t at e))

many_words : (range few : Bool) → refusal_by range few ≡ 3 → few ≡ false
many_words true true e = absurd (omega (arith, e))
many_words true false e = refl
many_words false few e = absurd (omega (arith, e))

module _ (file : List ℕ) (short : length file ≤ most_compared) where
  no_packet_3 : misfit file ≡ false → words_before file (packets file) ≡ words file → HasIt file (0 + packets file) 3 → ⊥
  no_packet_3 fits sum it =
      let j = it.0 in
      let many = leb-false (count_at file j) max_words
      (many_words (in_range (packet_at file j)) (leb (count_at file j) max_words) it.1.1) in
      let e : j + 1 + (packets file - (j + 1)) ≡ packets file = omega (arith, it.1.0) in
      let most = more_words file (j + 1) (packets file - (j + 1)) in
      let all : words_before file (j + 1 + (packets file - (j + 1))) ≡ words file = ap (words_before file) e ∙ sum in
      omega (arith, (fitting file fits).whole, one_more file j)

  check_3 : check_of file ≡ 3 → ⊥
  unfolding check_of
  check_3 e = at (misfit file) (eqb (words_before file (packets file)) (words file)) refl refl
    where
      at : (x y : Bool) → misfit file ≡ x → eqb (words_before file (packets file)) (words file) ≡ y → ⊥
      at true y p q = absurd (omega (arith, simp p at e))
      at false false p q = absurd (omega (arith, simp (p, q) at e))
      at false true p q = no_packet_3 p (eqb-true _ _ q) (first_of file (packets file) 0 2 (simp (p, q) at e))

pub never_3 : (file : List ℕ) → refusal_of file ≡ 3 → ⊥
unfolding refusal_of
never_3 file e = at (ltb most_compared (length file)) refl
  where
    at : (t : Bool) → ltb most_compared (length file) ≡ t → ⊥
    at true t = absurd (omega (arith, simp t at e))
    at false t = check_3 file (ltb-false _ _ t) (simp t at e)
