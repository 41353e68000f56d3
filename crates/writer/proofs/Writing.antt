-- From fields to a word, from a word to its bytes, and what of it is refused.
-- Assumes nothing.
use Rattle.std.proofs.Common.{
  ℕ,
  ◌+◌,
  ◌-◌,
  ◌*◌,
  ◌/◌,
  ◌%◌,
  ◌^◌,
  ◌≤◌,
  ◌<◌,
  ◌≡◌,
  refl,
  sym,
  ap,
  ap₂,
  ◌∙◌,
  subst,
  Bool,
  true,
  false,
  cond,
  ◌&&◌,
  ltb,
  true≢false,
  List,
  [],
  ◌∷◌,
  ◌++◌,
  append-nil,
  length,
  drop,
  take_at,
  length-append,
  length-drop,
  drop_of_length-le,
  Option,
  Some,
  None,
  ok_or,
  Result,
  Ok,
  Err,
  arith,
}
use native.Mathlib.Nat.{div-div-eq-div-mul}
use borrow.Author.Tests.{lt-ltb, ltb-true, ltb-false, lt-leb, eq-eqb, ne_eqb}
use borrow.Rule.Slice.PartMut.{put_mid}
use lib.Seq.{sets, sets-eq}
use Rattle.refusals.specs.declared.Refusal.{Refusal}
use Rattle.refusals.specs.declared.Refusal.TheVariants.{Field}
use Rattle.refusals.specs.Refusals.{code, number as refusal_number}
use Rattle.words.proofs.Load.{whole}
use Rattle.words.specs.declared.Word.{Word}
use Rattle.words.specs.Word.{word_of, number, value, bits}
use Rattle.data_ids.specs.DataIds.{is_data_id}
use Rattle.writer.specs.declared.Fields.{Fields}
use Rattle.writer.specs.declared.Fields.TheVariants as F
use Rattle.writer.specs.Layout.{put, fit}
use Rattle.writer.specs.Write.{fields_fit, number_of, written, word_from, fitted, packed, bytes_of, word_in, PackPost, Writes, WritesData, Bytes}
use Rattle.writer.proofs.Bytes.{number_bytes, bytes_number, number_more, number_below, more_bytes}
use Rattle.writer.proofs.Round.{value_written}

pub and_true : (b : Bool) → (b && true) ≡ b
and_true true = refl
and_true false = refl

pub and_false : (b : Bool) → (b && false) ≡ false
and_false true = refl
and_false false = refl

-- The word of fields, by its halves.
halves : (f : Fields) (w : Word) → number_of f ≡ w.hi * 2 ^ 64 + w.lo → w.lo < 2 ^ 64 → w.hi < 2 ^ 16
    → w ≡ word_from f
unfolding word_from written word_of
halves f w is low high =
    let n = number_bytes 10 (number_of f) in
    let lo : w.lo ≡ (word_from f).lo = omega arith in
    let hi : w.hi ≡ (word_from f).hi = omega arith in
    λ i. record { lo = lo i; hi = hi i }

pub is_fitted : (f : Fields) (w : Word) → fields_fit f ≡ true → number_of f ≡ w.hi * 2 ^ 64 + w.lo → w.lo < 2 ^ 64
    → w.hi < 2 ^ 16 → Some w ≡ fitted f
is_fitted f w fits is low high = simp (fits, halves f w is low high)

pub not_fitted : (f : Fields) → (fields_fit f ≡ true → ⊥) → None ≡ fitted f
not_fitted f h = at (fields_fit f) refl
  where
    at : (b : Bool) → fields_fit f ≡ b → None ≡ fitted f
    at true e = absurd (h e)
    at false e = simp e

-- The same of the word or refusal that is given.
pub is_packed : (f : Fields) (w : Word) → fields_fit f ≡ true → number_of f ≡ w.hi * 2 ^ 64 + w.lo → w.lo < 2 ^ 64
    → w.hi < 2 ^ 16 → Ok w ≡ packed f
is_packed f w fits is low high = simp (fits, halves f w is low high)

pub not_packed : (f : Fields) → fields_fit f ≡ false → Err Field ≡ packed f
not_packed f e = simp e

-- The tests that the code of each kind makes are those of its layout.
pub ihw_fit : (a : ℕ) → fields_fit (F.Ihw a) ≡ ltb a 0x1000_0000
unfolding fit
ihw_fit a = simp and_true

abbrev pub tdh_tests : ℕ → ℕ → ℕ → ℕ → ℕ → ℕ → Bool
tdh_tests t i n k b o = ltb t 0x1000 && (ltb i 2 && (ltb n 2 && (ltb k 2 && (ltb b 0x1000 && ltb o 0x1_0000_0000))))

pub tdh_fit : (t i n k b o : ℕ) → fields_fit (F.Tdh t i n k b o) ≡ tdh_tests t i n k b o
unfolding fit
tdh_fit t i n k b o = simp and_true

abbrev pub tdt_tests : ℕ → ℕ → ℕ → ℕ → ℕ → ℕ → ℕ → Bool
tdt_tests n t s i v x d = ltb n (2 ^ 56) && (ltb i 2 && (ltb s 2 && (ltb t 2 && (ltb d 2 && (ltb x 2 && ltb v 2)))))

pub tdt_fit : (n t s i v x d : ℕ) → fields_fit (F.Tdt n t s i v x d) ≡ tdt_tests n t s i v x d
unfolding fit
tdt_fit n t s i v x d = simp and_true

abbrev pub ddw0_tests : ℕ → ℕ → ℕ → ℕ → Bool
ddw0_tests n v x j = ltb n (2 ^ 56) && (ltb x 2 && (ltb v 2 && ltb j 16))

pub ddw0_fit : (n v x j : ℕ) → fields_fit (F.Ddw0 n v x j) ≡ ddw0_tests n v x j
unfolding fit
ddw0_fit n v x j = simp and_true

abbrev pub cdw_tests : ℕ → ℕ → Bool
cdw_tests u j = ltb u (2 ^ 48) && ltb j (2 ^ 24)

pub cdw_fit : (u j : ℕ) → fields_fit (F.Cdw u j) ≡ cdw_tests u j
unfolding fit
cdw_fit u j = simp and_true

-- A data id is a byte, so that no other number is one.
pub no_byte : (id : ℕ) → 256 ≤ id → is_data_id id ≡ false
no_byte id h =
    simp (
      lt-leb id 0x28 (omega arith),
      lt-leb id 0x46 (omega arith),
      lt-leb id 0x4E (omega arith),
      lt-leb id 0x56 (omega arith),
      lt-leb id 0x5E (omega arith),
      and_false,
    )

pub data_byte : (id : ℕ) → is_data_id id ≡ true → id < 256
data_byte id e = at (ltb id 256) refl
  where
    at : (b : Bool) → ltb id 256 ≡ b → id < 256
    at true h = ltb-true id 256 h
    at false h = absurd (true≢false (sym e ∙ no_byte id (ltb-false id 256 h)))

pub data_fit : (i l h : ℕ) → l < 2 ^ 64 → fields_fit (F.Data i l h) ≡ (ltb h 256 && is_data_id i)
unfolding fit
data_fit i l h p = at (is_data_id i) refl
  where
    at : (b : Bool) → is_data_id i ≡ b → fields_fit (F.Data i l h) ≡ (ltb h 256 && is_data_id i)
    at true e = simp (lt-ltb l (2 ^ 64) p, lt-ltb i 256 (data_byte i e), e, and_true)
    at false e = simp (e, and_false)

-- A data word's nine bytes, as they are read.
pub data_low : (w : Word) → w.lo < 2 ^ 64 → w.lo ≡ bits 63 0 w
unfolding bits
data_low w h = omega arith

pub data_high : (w : Word) → w.lo < 2 ^ 64 → w.hi % 256 ≡ bits 71 64 w
unfolding bits
data_high w h = omega arith

-- A slice that is filled from its front on is what it was filled with.
pub filled : (vs d : List ℕ) → length d ≡ length vs → sets d 0 vs ≡ vs
filled vs d e =
    sets-eq vs d 0 (omega arith) ∙ ap (λ (l : List ℕ). vs ++ l) (drop_of_length-le d past) ∙ append-nil vs
  where
    past : length d ≤ 0 + length vs
    past = omega arith

-- The two parts of a slice of ten bytes, each filled, and that they are the word's bytes.
pub filled_parts : (lo hi d : List ℕ) → length lo ≡ 8 → length d ≡ 10
    → put_mid 8 (length (lo ++ drop 8 d) - 8) (lo ++ drop 8 d) hi ≡ lo ++ hi
filled_parts lo hi d e h =
    ap₂ ◌++◌ (take_at lo (drop 8 d) 8 e) (ap (λ (l : List ℕ). hi ++ l) (drop_of_length-le _ past) ∙ append-nil hi)
  where
    past : length (drop 8 (lo ++ drop 8 d)) ≤ length (lo ++ drop 8 d) - 8
    past = simp length-drop (omega arith)

abbrev pub ten_bytes : Word → List ℕ
ten_bytes w =
    w.lo % 256 ∷ w.lo / 0x100 % 256 ∷ w.lo / 0x1_0000 % 256 ∷ w.lo / 0x100_0000 % 256 ∷ w.lo / 0x1_0000_0000 % 256
    ∷ w.lo / 0x100_0000_0000 % 256
    ∷ w.lo / 0x1_0000_0000_0000 % 256
    ∷ w.lo / 0x100_0000_0000_0000 % 256
    ∷ w.hi % 256
    ∷ w.hi / 256 % 256
    ∷ []

pub ten : (w : Word) → w.lo < 2 ^ 64 → w.hi < 2 ^ 16 → ten_bytes w ≡ bytes_of 10 (value w)
unfolding bytes_of
ten w lo hi =
    simp div-div-eq-div-mul
    (same (omega arith) (same (omega arith) (same (omega arith) (same (omega arith) (same (omega arith)
    (same (omega arith) (same (omega arith) (same (omega arith) (same (omega arith) (same (omega arith) refl))))))))))
  where
    same : {a b : ℕ} {xs ys : List ℕ} → a ≡ b → xs ≡ ys → a ∷ xs ≡ b ∷ ys
    same = ap₂ ◌∷◌

-- What a packed word says of its fields, and what is then refused or written.
pub packs : (f : Fields) {r : Result Word Refusal} → r ≡ packed f → PackPost f r
packs f e = record { answer = e; number = ap code e ∙ (at (fields_fit f)).0; value = ap word_in e ∙ (at (fields_fit f)).1 }
  where
    no_word : Word
    no_word = record { lo = 0; hi = 0 }

    at : (b : Bool) → (code (cond b (Ok (word_from f)) (Err Field)) ≡ cond b 0 8)
        × (word_in (cond b (Ok (word_from f)) (Err Field)) ≡ cond b (word_from f) no_word)
    at true = (refl, refl)
    at false = (refl, refl)

-- The same of the fields that fit, or of none.
pub packs_fitted : (f : Fields) {o : Option Word} {r : Result Word Refusal} → o ≡ fitted f → r ≡ ok_or o Field → PackPost f r
packs_fitted f q p = packs f (p ∙ ap (λ (o : Option Word). ok_or o Field) q ∙ at (fields_fit f))
  where
    at : (b : Bool) → ok_or (cond b (Some (word_from f)) None) Field ≡ cond b (Ok (word_from f)) (Err Field)
    at true = refl
    at false = refl

apart : (r : Refusal) (w : Word) → Err r ≡ Ok w → ⊥
apart r w e = let z : ◌≡◌ {A = ℕ} 0 1 = cc in omega arith

-- A refusal that `?` hands on has the number that it had.
pub passed_on : (f : Fields) {slice : List ℕ} {x : Refusal} (r : Result Unit Refusal) → r ≡ Err x → Writes f slice (refusal_number x) slice
    → Writes f slice (code r) slice
passed_on f {slice} r e w = subst (λ (n : ℕ). Writes f slice n slice) (ap code (sym e)) w

pub refused_fields : (f : Fields) {r : Result Word Refusal} (x : Refusal) (slice : List ℕ) → PackPost f r → r ≡ Err x
    → Writes f slice (refusal_number x) slice
refused_fields f {r} x slice p is = at (fields_fit f) refl
  where
    at : (b : Bool) → fields_fit f ≡ b → Writes f slice (refusal_number x) slice
    at true e = absurd (apart x (word_from f) (sym is ∙ p.answer ∙ simp e))
    at false e =
        let n : refusal_number x ≡ 8 = ap code (sym is) ∙ p.number ∙ simp e in record { answer = n ∙ simp e; slice_is = simp e }

fields_fit_lem : (f : Fields) {r : Result Word Refusal} (w : Word) → PackPost f r → r ≡ Ok w → (fields_fit f ≡ true) × (w ≡ word_from f)
fields_fit_lem f {r} w p is = at (fields_fit f) refl
  where
    at : (b : Bool) → fields_fit f ≡ b → (fields_fit f ≡ true) × (w ≡ word_from f)
    at true e = let same : Ok w ≡ Ok (word_from f) = sym is ∙ p.answer ∙ simp e in (e, cc)
    at false e = absurd (apart Field w (sym (sym is ∙ p.answer ∙ simp e)))

pub refused_length : (f : Fields) {r : Result Word Refusal} (w : Word) (slice : List ℕ) → PackPost f r → r ≡ Ok w
    → (length slice ≡ 10 → ⊥) → Writes f slice 1 slice
refused_length f w slice p is h =
    let fits = (fields_fit_lem f w p is).0 in
    record { answer = simp (fits, ne_eqb _ _ h); slice_is = simp (fits, ne_eqb _ _ h) }

pub wrote : (f : Fields) {r : Result Word Refusal} (w : Word) (slice : List ℕ) {after : List ℕ} → PackPost f r → r ≡ Ok w
    → length slice ≡ 10 → after ≡ bytes_of 10 (value w)
    → Writes f slice 0 after
unfolding written word_from
wrote f w slice p is h e =
    let (fits, same) = fields_fit_lem f w p is in
    record { answer = simp (fits, eq-eqb _ _ h); slice_is = simp (fits, eq-eqb _ _ h) (e ∙ ap (bytes_of 10) (ap value same ∙ value_written f fits)) }

-- A data word from its nine bytes: the two numbers that they are as fields, and that with the id they are written as they came.
module _ (id : ℕ) (b : List ℕ) (nine : length b ≡ 9) (byte : Bytes b) where
  abbrev word : Word
  word = word_of (b ++ (0 ∷ []))

  value_is : value word ≡ number b
  value_is =
      whole (b ++ (0 ∷ [])) (simp length-append (omega arith)) (more_bytes b 0 byte (omega arith))
      ∙ number_more 9 b 0 nine ∙ omega arith

  low_small : word.lo < 2 ^ 64
  unfolding word_of
  low_small = omega arith

  high_small : word.hi < 2 ^ 8
  high_small = omega (arith, value_is, number_below 9 b nine byte)

  abbrev fields : Fields
  fields = F.Data id word.lo word.hi

  fits : fields_fit fields ≡ is_data_id id
  fits = data_fit id word.lo word.hi low_small ∙ simp (lt-ltb word.hi 256 high_small)

  as_it_came : is_data_id id ≡ true → written fields ≡ b ++ (id ∷ [])
  unfolding written put
  as_it_came e =
      let n : number_of fields ≡ number (b ++ (id ∷ [])) = omega (arith, value_is, number_more 9 b id nine) in
      let long : 10 ≡ length (b ++ (id ∷ [])) = simp length-append (omega arith) in
      ap (bytes_of 10) n
      ∙ ap (λ (k : ℕ). bytes_of k (number (b ++ (id ∷ [])))) long
      ∙ bytes_number (b ++ (id ∷ [])) (more_bytes b id byte (data_byte id e))

  pub data_wrote : (w : Word) {slice after : List ℕ} {r : ℕ} → w ≡ word
      → Writes (F.Data id w.lo w.hi) slice r after → WritesData id b slice r after
  data_wrote w {slice} {after} {r} is q = at (is_data_id id) refl
    where
      p : Writes fields slice r after
      p = subst (λ (v : Word). Writes (F.Data id v.lo v.hi) slice r after) is q

      at : (y : Bool) → is_data_id id ≡ y → WritesData id b slice r after
      at true e =
          record { answer = p.answer ∙ simp (fits, eq-eqb _ _ nine); slice_is = p.slice_is ∙ simp (fits, as_it_came e, eq-eqb _ _ nine) }
      at false e =
          record { answer = p.answer ∙ simp (fits, eq-eqb _ _ nine); slice_is = (rw fits at p.slice_is) ∙ simp (e, eq-eqb _ _ nine) }

pub data_refused : (id : ℕ) (b slice : List ℕ) → (length b ≡ 9 → ⊥) → WritesData id b slice 8 slice
data_refused id b slice h = record { answer = simp (ne_eqb _ _ h); slice_is = simp (ne_eqb _ _ h) }
