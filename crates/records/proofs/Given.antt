-- Laws of the records that rows give: how many there are, when there are none, what holds of each, and of rows one after the other.
-- Assumes nothing.
use Rattle.std.proofs.Common.{
  ℕ,
  zero,
  suc,
  ◌+◌,
  ◌-◌,
  ◌*◌,
  ◌≤◌,
  ◌<◌,
  ◌≡◌,
  refl,
  sym,
  ap,
  ◌∙◌,
  Bool,
  true,
  false,
  cond,
  not,
  ◌||◌,
  true≢false,
  List,
  [],
  ◌∷◌,
  ◌++◌,
  append_assoc,
  append-nil,
  add_assoc,
  add-zero,
  zero-add,
  add-one,
  length,
  get_or,
  take,
  replicate,
  length-append,
  take-suc,
  arith,
}
use mathlib.Core.Bool.{or_assoc, or-false}
use Rattle.records.specs.declared.Row.{Row}
use Rattle.words.specs.Lists.{Each}
use Rattle.records.specs.Records.{Record, record_at, none, numbers, flat, given, count, any_on, silent, record_width, most_records, padded}

-- One row's records.
abbrev pub one : ℕ → ℕ → Row → List Record
one position packet row = cond row.on (record_at position packet row ∷ []) []

pub counted : (position packet : ℕ) (rows : List Row) → length (given position packet rows) ≡ count rows
unfolding given count
counted position packet [] = refl
counted position packet (row ∷ rows) =
    length-append (one position packet row) (given position packet rows) ∙ (λ i. head row.on i + counted position packet rows i)
  where
    head : (on : Bool) → length (cond on (record_at position packet row ∷ []) []) ≡ cond on 1 0
    head true = refl
    head false = refl

-- No more than there are rows.
pub count_low : (rows : List Row) → count rows ≤ length rows
unfolding count
count_low [] = omega arith
count_low (row ∷ rows) = at row.on (count_low rows)
  where
    at : (on : Bool) → count rows ≤ length rows → cond on 1 0 + count rows ≤ length (row ∷ rows)
    at true h = omega arith
    at false h = omega arith

-- What holds of the record of each row whose condition holds, holds of each record that is given.
pub given_each : (P : Record → Type 0) (position packet : ℕ) (rows : List Row)
    → Each (λ row. row.on ≡ true → P (record_at position packet row)) rows
    → Each P (given position packet rows)
unfolding given
given_each P position packet [] e = e
given_each P position packet (row ∷ rows) e = at row.on e.0 (given_each P position packet rows e.1)
  where
    at : (on : Bool) → (on ≡ true → P (record_at position packet row)) → Each P (given position packet rows)
        → Each P (cond on (record_at position packet row ∷ []) [] ++ given position packet rows)
    at true p rest = (p refl, rest)
    at false p rest = rest

-- What follows from a property of each holds of each.
pub each_so : {A : Type 0} {P Q : A → Type 0} → ((x : A) → P x → Q x) → (xs : List A) → Each P xs → Each Q xs
each_so f [] e = e
each_so f (x ∷ xs) e = (f x e.0, each_so f xs e.1)

pub given_append : (position packet : ℕ) (xs ys : List Row)
    → given position packet (xs ++ ys) ≡ given position packet xs ++ given position packet ys
unfolding given
given_append position packet [] ys = refl
given_append position packet (x ∷ xs) ys =
    ap (λ (l : List Record). one position packet x ++ l) (given_append position packet xs ys)
    ∙ sym (append_assoc (one position packet x) (given position packet xs)
    (given position packet ys))

-- No records are no numbers.
pub flat_none : flat [] ≡ []
unfolding flat
flat_none = refl

pub flat_append : (xs ys : List Record) → flat (xs ++ ys) ≡ flat xs ++ flat ys
unfolding flat
flat_append [] ys = refl
flat_append (x ∷ xs) ys =
    ap (λ (l : List ℕ). numbers x ++ l) (flat_append xs ys) ∙ sym (append_assoc (numbers x) (flat xs) (flat ys))

pub length_flat : (rs : List Record) → length (flat rs) ≡ record_width * length rs
unfolding flat
length_flat [] = refl
length_flat (r ∷ rs) = omega (arith, length_flat rs)

-- The records and their number at one row more.
pub given_more : (position packet : ℕ) (rows : List Row) (i : ℕ) (d : Row) → i < length rows
    → given position packet (take (i + 1) rows) ≡ given position packet (take i rows) ++ one position packet (get_or rows i d)
unfolding given
given_more position packet rows i d h =
    rw (add-one, take-suc rows i d, given_append)
    (ap (λ (l : List Record). given position packet (take i rows) ++ l) (append-nil (one position packet (get_or rows i d))))

count_append : (xs ys : List Row) → count (xs ++ ys) ≡ count xs + count ys
unfolding count
count_append [] ys = sym (zero-add (count ys))
count_append (x ∷ xs) ys =
    ap (λ (n : ℕ). cond x.on 1 0 + n) (count_append xs ys) ∙ sym (add_assoc (cond x.on 1 0) (count xs) (count ys))

pub count_more : (rows : List Row) (i : ℕ) (d : Row) → i < length rows
    → count (take (i + 1) rows) ≡ count (take i rows) + cond (get_or rows i d).on 1 0
unfolding count
count_more rows i d h =
    rw (add-one, take-suc rows i d, count_append)
    (ap (λ (n : ℕ). count (take i rows) + n) (add-zero (cond (get_or rows i d).on 1 0)))

any_append : (xs ys : List Row) → any_on (xs ++ ys) ≡ (any_on xs || any_on ys)
unfolding any_on
any_append [] ys = refl
any_append (x ∷ xs) ys = ap (λ (b : Bool). x.on || b) (any_append xs ys) ∙ sym (or_assoc x.on (any_on xs) (any_on ys))

pub any_more : (rows : List Row) (i : ℕ) (d : Row) → i < length rows
    → any_on (take (i + 1) rows) ≡ (any_on (take i rows) || (get_or rows i d).on)
unfolding any_on
any_more rows i d h =
    rw (add-one, take-suc rows i d, any_append)
    (ap (λ (b : Bool). any_on (take i rows) || b) (or-false (get_or rows i d).on))

-- No row's condition holds: there is no record.
pub unheard : (position packet : ℕ) (rows : List Row) → silent rows ≡ true → given position packet rows ≡ []
unfolding given any_on
unheard position packet [] e = refl
unheard position packet (row ∷ rows) e = off row.on (unheard position packet rows) e
  where
    off : (on : Bool) → (silent rows ≡ true → given position packet rows ≡ []) → not (on || any_on rows) ≡ true
        → cond on (record_at position packet row ∷ []) [] ++ given position packet rows ≡ []
    off true rest h = absurd (true≢false (sym h))
    off false rest h = rest h

-- Places with no record give none.
empty : (position packet n : ℕ) → given position packet (replicate n none) ≡ []
unfolding given
empty position packet zero = refl
empty position packet (suc n) = empty position packet n

pub given_padded : (position packet : ℕ) (rows : List Row) → given position packet (padded rows) ≡ given position packet rows
given_padded position packet rows =
    given_append position packet rows (replicate (most_records - length rows) none)
    ∙ ap (λ (l : List Record). given position packet rows ++ l) (empty position packet
    (most_records - length rows)) ∙ append-nil (given position packet rows)

-- Nor do they change whether there is one.
off : (rows : List Row) (n : ℕ) → any_on (rows ++ replicate n none) ≡ any_on rows
unfolding any_on
off [] zero = refl
off [] (suc n) = off [] n
off (row ∷ rows) n = ap (λ (b : Bool). row.on || b) (off rows n)

pub silent_padded : (rows : List Row) → silent (padded rows) ≡ silent rows
silent_padded rows = ap not (off rows (most_records - length rows))
