-- Issue 25, what a line says: the kind that its first part names, and the numbers behind it, as many as the kind has.
-- Assumes nothing.
use Rattle.std.specs.Prelude.{ℕ, ◌-◌, Bool, cond, List, [], ◌∷◌, ◌++◌, ltb, eqb, length, replicate}
use Rattle.std.specs.Prelude.{Option, None, Some, Result, Ok, Err}
use Rattle.std.specs.Str.{bytes_eq}
use Rattle.ascii.specs.Text.{ascii}
use Rattle.refusals.specs.declared.Refusal.{Refusal}
use Rattle.refusals.specs.declared.Refusal.TheVariants as R
use Rattle.writer.specs.declared.WordKind.{WordKind}
use Rattle.writer.specs.declared.WordKind.TheVariants as W
use Rattle.script.specs.declared.line.Kind.{Kind as GivenKind}
use Rattle.script.specs.declared.line.Kind.TheVariants as K
use Rattle.script.specs.declared.line.Line.{Line as GivenLine}
use Rattle.script.specs.Numbers.{number_of}
use Rattle.script.specs.Tokens.{tokens}

-- What a line is: empty, not to be read, a packet, or a word of a kind.
pub data Kind : Type 0 where
  Nothing : Kind
  Unreadable : Kind
  Packet : Kind
  Word : WordKind → Kind

-- A line's kind and its numbers.
pub record Line : Type 0 where
  pub kind : Kind
  pub n : List ℕ

-- No line has more numbers than "data ID B0 B1 B2 B3 B4 B5 B6 B7 B8".
abbrev pub most_numbers : ℕ
most_numbers = 10

-- The numbers of a line; none where a part is no number, or there are too many.
pub data Told : Type 0 where
  told : List ℕ → Told
  untold : Told

abbrev pub with_value : Option ℕ → (ℕ → Told) → Told
with_value (Some n) k = k n
with_value None k = untold

-- The numbers that these parts are, behind those so far.
unfoldable pub numbers_of : List ℕ → List (List ℕ) → Told
numbers_of ns [] = told ns
numbers_of ns (t ∷ ts) = cond (ltb (length ns) most_numbers) (with_value (number_of t) (λ n. numbers_of (ns ++ (n ∷ [])) ts)) untold

-- A line holds ten numbers: its own, and zeros behind them.
abbrev pub filled : List ℕ → List ℕ
filled ns = ns ++ replicate (most_numbers - length ns) 0

abbrev pub line_with : Kind → List ℕ → Line
line_with k ns = record { kind = k; n = filled ns }

abbrev pub same_bytes : List ℕ → List ℕ → Bool
same_bytes = bytes_eq

-- The names of the kinds.
abbrev pub kind_of : List ℕ → Kind
kind_of name =
    cond (same_bytes name (ascii "packet")) Packet
    (cond (same_bytes name (ascii "ihw")) (Word W.Ihw)
    (cond (same_bytes name (ascii "tdh")) (Word W.Tdh)
    (cond (same_bytes name (ascii "tdt")) (Word W.Tdt)
    (cond (same_bytes name (ascii "ddw0")) (Word W.Ddw0)
    (cond (same_bytes name (ascii "cdw")) (Word W.Cdw) (cond (same_bytes name (ascii "data")) (Word W.Data) Unreadable))))))

-- "packet POSITION ORBIT TRIGGER BC PAGE STOP FORMAT" has seven numbers, "ihw LANES" one, and so on.
abbrev pub arity_of : Kind → ℕ
arity_of Nothing = 0
arity_of Unreadable = 0
arity_of Packet = 7
arity_of (Word W.Ihw) = 1
arity_of (Word W.Tdh) = 6
arity_of (Word W.Tdt) = 7
arity_of (Word W.Ddw0) = 4
arity_of (Word W.Cdw) = 2
arity_of (Word W.Data) = 10

abbrev pub line_as : Kind → Told → Line
line_as k untold = line_with Unreadable []
line_as k (told ns) = cond (eqb (length ns) (arity_of k)) (line_with k ns) (line_with Unreadable [])

-- "empty lines are skipped"
unfoldable pub line_from : List (List ℕ) → Line
line_from [] = line_with Nothing []
line_from (t ∷ ts) = line_as (kind_of t) (numbers_of [] ts)

abbrev pub line_of : List ℕ → Line
line_of text = line_from (tokens text)

-- The same as the functions answer: numbers that are so many; the kind of a line that adds something; and what a line says, or 102.
abbrev pub numbers_if : ℕ → Told → Option (List ℕ)
numbers_if count untold = None
numbers_if count (told ns) = cond (eqb (length ns) count) (Some (filled ns)) None

abbrev pub of_kind : GivenKind → Kind
of_kind K.Packet = Packet
of_kind (K.Word k) = Word k

abbrev pub kind_if : Kind → Option GivenKind
kind_if Nothing = None
kind_if Unreadable = None
kind_if Packet = Some K.Packet
kind_if (Word k) = Some (K.Word k)

abbrev pub line_by : Kind → List ℕ → Result (Option GivenLine) Refusal
line_by Nothing n = Ok None
line_by Unreadable n = Err R.Line
line_by Packet n = Ok (Some (record { kind = K.Packet; n = n }))
line_by (Word k) n = Ok (Some (record { kind = K.Word k; n = n }))

abbrev pub line_if : Line → Result (Option GivenLine) Refusal
line_if l = line_by l.kind l.n
