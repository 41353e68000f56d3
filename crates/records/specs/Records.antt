-- 01, "Calls and settings": what a record is, which records a word's rows give, and what a buffer then holds.
-- Assumes nothing.
use Rattle.std.specs.Prelude.{ℕ, ◌+◌, ◌-◌, ◌/◌, ◌≡◌, Bool, false, cond, not, ◌||◌, List, [], ◌∷◌, ◌++◌, ltb, length, replicate, Result, Ok, Err}
use Rattle.refusals.specs.declared.Refusal.{Refusal}
use Rattle.refusals.specs.declared.Refusal.TheVariants.{Room}
use Rattle.refusals.specs.Refusals.{code}
use Rattle.words.specs.Lists.{over}
use Rattle.records.specs.declared.Row.{Row}

-- "A record is four 64-bit numbers: position, code, first, second"; 02, ticket 7: "Each record gains a fifth number, the count of packets accepted since the
-- start, beginning at 1. .. The record buffer is five numbers a record everywhere".
abbrev pub record_width : ℕ
record_width = 5

pub record Record : Type 0 where
  pub position : ℕ
  pub code : ℕ
  pub first : ℕ
  pub second : ℕ
  pub packet : ℕ

abbrev pub numbers : Record → List ℕ
numbers r = r.position ∷ r.code ∷ r.first ∷ r.second ∷ r.packet ∷ []

-- Records one after the other, as numbers.
unfoldable pub flat : List Record → List ℕ
flat [] = []
flat (r ∷ rs) = numbers r ++ flat rs

-- A line of 01's "Records": under a condition, a code and its two numbers.
abbrev pub when : Bool → ℕ → ℕ → ℕ → Row
when on code first second = record { on = on; code = code; first = first; second = second }

-- A place with no record.
abbrev pub none : Row
none = when false 0 0 0

-- "One word gives at most six": rows in six places, those after the last with no record.
abbrev pub most_records : ℕ
most_records = 6

abbrev pub padded : List Row → List Row
padded rows = rows ++ replicate (most_records - length rows) none

-- The record of a row, of a word at a position in the packet of that count.
abbrev pub record_at : ℕ → ℕ → Row → Record
record_at position packet row = record { position = position; code = row.code; first = row.first; second = row.second; packet = packet }

-- The records that rows give there: those whose condition holds, in order.
unfoldable pub given : ℕ → ℕ → List Row → List Record
given position packet [] = []
given position packet (row ∷ rows) = cond row.on (record_at position packet row ∷ []) [] ++ given position packet rows

-- How many they are, and whether there are any, told without making them (proofs/Given.antt, `counted`, `unheard`).
unfoldable pub count : List Row → ℕ
count [] = 0
count (row ∷ rows) = cond row.on 1 0 + count rows

unfoldable pub any_on : List Row → Bool
any_on [] = false
any_on (row ∷ rows) = row.on || any_on rows

abbrev pub silent : List Row → Bool
silent rows = not (any_on rows)

-- "A buffer's room is its length divided by four, rounded down": since 02's ticket 7, by five.
abbrev pub room : List ℕ → ℕ
room buffer = length buffer / record_width

-- 4, "this word's records exceed the buffer's room": nothing is written. Else the records stand at its front.
abbrev pub exceed : List Record → ℕ → Bool
exceed records places = ltb places (length records)

-- "Where an answer is an enum, a definition gives this paper's number and values for each of its cases": the refusal, or 0 (`code`), and how many were
-- written.
abbrev pub written_of : Result ℕ Refusal → ℕ
written_of (Ok n) = n
written_of (Err r) = 0

-- What writing a word's records gives.
pub record WritePost (position packet : ℕ) (rows : List Row) (buffer : List ℕ) (r : Result ℕ Refusal) (after : List ℕ) : Type 0 where
  pub answer : r ≡ cond (exceed (given position packet rows) (room buffer)) (Err Room) (Ok (length (given position packet rows)))
  pub number : code r ≡ cond (exceed (given position packet rows) (room buffer)) 4 0
  pub value : written_of r ≡ cond (exceed (given position packet rows) (room buffer)) 0 (length (given position packet rows))
  pub buffer_is : after ≡ cond (exceed (given position packet rows) (room buffer)) buffer (over (flat (given position packet rows)) buffer)
