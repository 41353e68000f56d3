-- 02, ticket 1: reading what was written, and writing what was read, once for all kinds.
-- Assumes nothing.
use Prim.Native.Nat.{ℕ, zero, suc, ◌+◌, ◌-◌, ◌^◌, ◌<◌}
use mathlib.Core.Path.{◌≡◌, refl, sym, ap, ap₂, ◌∙◌, subst}
use mathlib.Core.Bool.{true, ◌&&◌}
use mathlib.Core.List.{List}
use native.Mathlib.Omega.{arith}
use native.Mathlib.Nat.{mod-eq_of_lt}
use lib.Dec.{eqb}
use lib.ListN.{length}
use Rattle.words.specs.declared.Word.{Word}
use Rattle.words.specs.Word.{word_bytes, word_of, number, value, bits, is_set}
use Rattle.words.proofs.Bits.{bits_below}
use Rattle.words.proofs.Load.{whole}
use Rattle.words.proofs.Tests.{both, tests, tests_agree}
use Rattle.writer.specs.declared.WordKind.{WordKind}
use Rattle.writer.specs.declared.WordKind.TheVariants as K
use Rattle.writer.specs.declared.Fields.{Fields}
use Rattle.writer.specs.declared.Fields.TheVariants as F
use Rattle.writer.specs.Layout.{layout, tiles, put, fit, right}
use Rattle.writer.specs.Write.{flag, kind_of, values_of, fields_in, id_fits, fields_fit, bytes_of, number_of, written, is_right, Bytes, RoundTrip}
use Rattle.writer.proofs.Parts.{get, put_below, gets, puts, got_fit}
use Rattle.writer.proofs.Bytes.{bytes_long, bytes_small, number_bytes, bytes_number}

-- Every bit of a word of each kind is in one part: antt computes it.
pub tiled : (k : WordKind) → tiles 0 (layout k) ≡ true
tiled K.Ihw = refl
tiled K.Tdh = refl
tiled K.Tdt = refl
tiled K.Ddw0 = refl
tiled K.Cdw = refl
tiled K.Data = refl

-- A flag that is read, as a number, is its bit.
set_flag : (n : ℕ) (w : Word) → flag (is_set n w) ≡ bits n n w
set_flag n w = at (bits n n w) (subst (λ (k : ℕ). bits n n w < 2 ^ k) one (bits_below n n w))
  where
    one : n + 1 - n ≡ 1
    one = omega arith

    at : (x : ℕ) → x < 2 → flag (eqb x 1) ≡ x
    at zero h = refl
    at (suc zero) h = refl
    at (suc (suc x)) h = omega arith

-- The fields that are read are those of the layout, and stand for their kind.
values_in : (k : WordKind) (w : Word) → values_of (fields_in k w) ≡ get (layout k) w
values_in K.Ihw w = refl
values_in K.Tdh w = refl
values_in K.Tdt w = simp (set_flag 61 w, set_flag 62 w, set_flag 63 w, set_flag 64 w, set_flag 65 w, set_flag 67 w)
values_in K.Ddw0 w = simp (set_flag 65 w, set_flag 67 w)
values_in K.Cdw w = refl
values_in K.Data w = refl

kind_in : (k : WordKind) (w : Word) → kind_of (fields_in k w) ≡ k
kind_in K.Ihw w = refl
kind_in K.Tdh w = refl
kind_in K.Tdt w = refl
kind_in K.Ddw0 w = refl
kind_in K.Cdw w = refl
kind_in K.Data w = refl

-- Fields are known by their kind and their values.
known : (f : Fields) (w : Word) → get (layout (kind_of f)) w ≡ values_of f → fields_in (kind_of f) w ≡ f
known (F.Ihw active) w e = cc
known (F.Tdh trigger internal no_data continuation bc orbit) w e = cc
known (F.Tdt lanes to_start start-stop idle violation transmission done) w e =
    cc (set_flag 61 w, set_flag 62 w, set_flag 63 w, set_flag 64 w, set_flag 65 w, set_flag 67 w)
known (F.Ddw0 lanes violation transmission index) w e = cc (set_flag 65 w, set_flag 67 w)
known (F.Cdw user index) w e = cc
known (F.Data id low high) w e = cc

-- The number of what was written.
pub value_written : (f : Fields) → fields_fit f ≡ true → value (word_of (written f)) ≡ number_of f
unfolding written
value_written f ok =
    let fits = (both (fit (layout (kind_of f)) (values_of f)) (id_fits f) ok).0 in
    whole (bytes_of word_bytes (number_of f)) (bytes_long word_bytes (number_of f)) (bytes_small word_bytes (number_of f))
    ∙ number_bytes word_bytes (number_of f)
    ∙ mod-eq_of_lt (put_below (layout (kind_of f)) (values_of f) (tiled (kind_of f)) fits)

read_back : (f : Fields) → fields_fit f ≡ true → fields_in (kind_of f) (word_of (written f)) ≡ f
read_back f ok =
    let fits = (both (fit (layout (kind_of f)) (values_of f)) (id_fits f) ok).0 in
    known f (word_of (written f)) (gets (layout (kind_of f)) (values_of f) (word_of (written f)) (tiled (kind_of f)) fits
    (value_written f ok))

word_below : (b : List ℕ) → value (word_of b) < 2 ^ 80
unfolding word_of
word_below b = omega arith

write_back : (k : WordKind) (b : List ℕ) → length b ≡ word_bytes → Bytes b → right (layout k) (word_of b) ≡ true
    → written (fields_in k (word_of b)) ≡ b
unfolding written
write_back k b ten byte r =
    let w = word_of b in
    let is = whole b ten byte in
    let small : value w < 2 ^ 80 = word_below b in
    ap (bytes_of word_bytes) ((λ i. put (layout (kind_in k w i)) (values_in k w i)) ∙ puts (layout k) w (tiled k) small r
    ∙ is)
    ∙ ap (λ (n : ℕ). bytes_of n (number b)) (sym ten)
    ∙ bytes_number b byte

-- "the reserved bits were 0 and the id right": the parts that are fixed say what the readers of words say. Bits that the Rust leaves in their place are 0
-- where they are 0 shifted down.
pub agrees : (k : WordKind) (w : Word) → is_right k w ≡ (right (layout k) w && id_fits (fields_in k w))
agrees K.Ihw w =
    tests_agree _ _ (λ e. let (i, r) = simp tests at e in simp tests ((r, (i, refl)), refl))
    (λ e. let ((r, (i, _)), _) = simp tests at e in simp tests (i, r))
agrees K.Tdh w =
    tests_agree _ _ (λ e. let (i, (a, (b, d))) = simp tests at e in
    simp tests ((omega arith, (omega arith, (omega arith, (i, refl)))), refl))
    (λ e. let ((d, (b, (a, (i, _)))), _) = simp tests at e in simp tests (i, (omega arith, (omega arith, omega arith))))
agrees K.Tdt w =
    tests_agree _ _ (λ e. let (i, (a, (b, d))) = simp tests at e in
    simp tests ((omega arith, (omega arith, (omega arith, (i, refl)))), refl))
    (λ e. let ((d, (b, (a, (i, _)))), _) = simp tests at e in simp tests (i, (omega arith, (omega arith, omega arith))))
agrees K.Ddw0 w =
    tests_agree _ _ (λ e. let (i, (a, (b, d))) = simp tests at e in simp tests ((d, (a, (b, (i, refl)))), refl))
    (λ e. let ((d, (a, (b, (i, _)))), _) = simp tests at e in simp tests (i, (a, (b, d))))
agrees K.Cdw w =
    tests_agree _ _ (λ e. let i = simp tests at e in
    simp tests ((i, refl), refl)) (λ e. let ((i, _), _) = simp tests at e in simp tests i)
agrees K.Data w = refl

accepted : (k : WordKind) (w : Word) → id_fits (fields_in k w) ≡ true → fields_fit (fields_in k w) ≡ true
accepted k w i = ap₂ ◌&&◌ ((λ j. fit (layout (kind_in k w j)) (values_in k w j)) ∙ got_fit (layout k) w) i

pub round_trip : (k : WordKind) → RoundTrip k
round_trip k =
    record {
      reads_back = λ f is ok. subst (λ (j : WordKind). fields_in j (word_of (written f)) ≡ f) is (read_back f ok);
      writes_back = λ b ten byte ok.
          let (r, i) = both (right (layout k) (word_of b)) (id_fits (fields_in k (word_of b)))
          (sym (agrees k (word_of b)) ∙ ok) in
          (accepted k (word_of b) i, write_back k b ten byte r);
    }
