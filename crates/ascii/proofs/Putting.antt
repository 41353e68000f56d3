-- Texts at the front of a buffer: byte by byte, and one behind the other.
-- Assumes nothing.
use Prim.Native.Nat.{ℕ, suc, ◌+◌, ◌-◌, ◌≤◌, ◌<◌}
use mathlib.Core.Path.{◌≡◌, refl, sym, ap, subst, ◌∙◌}
use mathlib.Core.List.{List, [], ◌∷◌, ◌++◌, append-nil, append_assoc}
use native.Mathlib.Numerals.{add-one}
use native.Mathlib.Omega.{arith}
use borrow.Author.Tests.{le-ltb}
use borrow.Rule.Slice.PartMut.{put_mid, mid_of}
use lib.ListN.{length, get_or, set, take, drop, length-append}
use lib.Seq.{take-suc, drop-cons, append_snoc, set_at, take-length, length-take-le}
use Rattle.io.specs.Digits.{last_digits, IsDigitCount}
use Rattle.words.proofs.Buffer.{lent_on}
use Rattle.ascii.specs.Text.{space, decimal, spaced, in_room, Puts}
use Rattle.ascii.proofs.Decimal.{spelled_decimal}

-- One byte more of a text is copied.
pub copied : (d s : List ℕ) (i : ℕ) (l : List ℕ) → l ≡ take i s ++ drop i d → i < length d → i < length s
    → set l i (get_or s i 0) ≡ take (i + 1) s ++ drop (i + 1) d
copied d s i l e h k =
    ap (λ (x : List ℕ). set x i (get_or s i 0)) (e ∙ ap (λ (x : List ℕ). take i s ++ x) (drop-cons d i 0 h))
    ∙ set_at (take i s) (get_or d i 0) (drop (suc i) d) (get_or s i 0) i (length-take-le i s (omega arith))
    ∙ sym (append_snoc (take i s) (get_or s i 0) (drop (suc i) d))
    ∙ ap (λ (x : List ℕ). x ++ drop (suc i) d) (sym (take-suc s i 0 k))
    ∙ ap (λ (n : ℕ). take n s ++ drop n d) (sym (add-one i))

-- All of it.
pub all_copied : (d s : List ℕ) (i : ℕ) (l : List ℕ) → l ≡ take i s ++ drop i d → i ≡ length s → Puts s d i l
all_copied d s i l e h =
    record { count = h; buffer_is = e ∙ ap (λ (n : ℕ). take n s ++ drop n d) h ∙ ap (λ (x : List ℕ). x ++ drop (length s) d) (take-length s) }

-- A byte is set behind a text.
pub set_behind : {t d l : List ℕ} {r : ℕ} (byte : ℕ) → Puts t d r l → r < length d
    → Puts (t ++ (byte ∷ [])) d (r + 1) (set l r byte)
set_behind {t} {d} {l} {r} byte p h =
    let e = p.count in
    let long : length (t ++ (byte ∷ [])) ≡ suc (length t) = length-append t (byte ∷ []) ∙ add-one (length t) in
    record {
      count = omega arith;
      buffer_is =
          ap (λ (x : List ℕ). set x r byte) (p.buffer_is
          ∙ ap (λ (x : List ℕ). t ++ x) (drop-cons d (length t) 0 (omega arith)))
          ∙ set_at t (get_or d (length t) 0) (drop (suc (length t)) d) byte r (sym e)
          ∙ sym (append_snoc t byte (drop (suc (length t)) d))
          ∙ ap (λ (n : ℕ). t ++ (byte ∷ []) ++ drop n d) (sym long);
    }

-- Digits that were spelled and copied.
pub decimal_put : (a : List ℕ) {d l : List ℕ} {k r : ℕ} (n : ℕ) → IsDigitCount 10 1 n k → take k a ≡ last_digits 10 k n
    → Puts (take k a) d r l → Puts (decimal n) d r l
decimal_put a {d} {l} {k} {r} n w e p = subst (λ (t : List ℕ). Puts t d r l) (e ∙ spelled_decimal k n w) p

-- A text behind another, in the tail that was lent on.
pub behind : {t u d l y : List ℕ} {r s : ℕ} → Puts t d r l → Puts u (mid_of r (length l - r) l) s y
    → Puts (t ++ u) d (r + s) (put_mid r (length l - r) l y)
behind {t} {u} {d} {l} {y} {r} {s} p q =
    record {
      count = omega (arith, p.count, q.count, length-append t u);
      buffer_is = lent_on r t u d l y p.count p.buffer_is q.buffer_is;
    }

-- Nothing is put.
pub none_put : (d : List ℕ) → Puts [] d 0 d
none_put d = record { count = refl; buffer_is = refl }

-- For who has the room that is asked for: the text was put.
pub in_room_lem : (asked : ℕ) (t : List ℕ) {d l : List ℕ} {r : ℕ} → asked ≤ length d
    → Puts (in_room asked (length d) t) d r l → Puts t d r l
in_room_lem asked t {d} h p = rw (le-ltb (length d) asked h) at p

-- One number more of a line.
spaced_snoc : (ns : List ℕ) (n : ℕ) → spaced (ns ++ (n ∷ [])) ≡ spaced ns ++ (space ∷ decimal n)
unfolding spaced
spaced_snoc [] n = append-nil (space ∷ decimal n)
spaced_snoc (m ∷ ns) n =
    ap (λ (l : List ℕ). (space ∷ decimal m) ++ l) (spaced_snoc ns n)
    ∙ sym (append_assoc (space ∷ decimal m) (spaced ns) (space ∷ decimal n))

-- The next number behind those before it.
pub spaced_behind : (ns : List ℕ) (i : ℕ) {d l y : List ℕ} {r s : ℕ} → i < length ns → Puts (spaced (take i ns)) d r l
    → Puts (space ∷ decimal (get_or ns i 0)) (mid_of r (length l - r) l) s y
    → Puts (spaced (take (i + 1) ns)) d (r + s) (put_mid r (length l - r) l y)
spaced_behind ns i {d} {l} {y} {r} {s} h p q =
    subst (λ (t : List ℕ). Puts t d (r + s) (put_mid r (length l - r) l y))
    (sym (spaced_snoc (take i ns) (get_or ns i 0)) ∙ ap spaced (sym (take-suc ns i 0 h))
    ∙ ap (λ (n : ℕ). spaced (take n ns)) (sym (add-one i)))
    (behind p q)

pub none_spaced : (ns d : List ℕ) → Puts (spaced (take 0 ns)) d 0 d
unfolding spaced
none_spaced ns d = none_put d
