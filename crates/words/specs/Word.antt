-- Document 01, "Words": what a word of ten bytes is, and which bits of it a field is.
-- Assumes nothing.
use Rattle.std.specs.Prelude.{ℕ, ◌+◌, ◌-◌, ◌*◌, ◌/◌, ◌%◌, ◌^◌, ◌≡◌, Bool, cond, List, [], ◌∷◌, eqb, length, Result, Ok, Err}
use Rattle.words.specs.declared.Word.{Word}
use Rattle.refusals.specs.declared.Refusal.{Refusal}
use Rattle.refusals.specs.declared.Refusal.TheVariants as R
use Rattle.refusals.specs.Refusals.{code}

-- "Ten bytes": the bytes of a word.
abbrev pub word_bytes : ℕ
word_bytes = 10

-- "bit 0 is the low bit of byte 0, numbers little-endian": the number that bytes are.
unfoldable pub number : List ℕ → ℕ
number [] = 0
number (byte ∷ bytes) = byte + 256 * number bytes

-- Bits h:l of a number, in 01's notation: "27:16" is `slice 27 16`.
abbrev pub slice : ℕ → ℕ → ℕ → ℕ
slice h l n = (n / 2 ^ l) % 2 ^ (h + 1 - l)

-- The word that ten bytes are, held as bits 63:0 and bits 79:64.
unfoldable pub word_of : List ℕ → Word
word_of bytes = record { lo = slice 63 0 (number bytes); hi = slice 79 64 (number bytes) }

-- The number that a word is: that of its ten bytes (proofs/Bits.antt, `whole`).
abbrev pub value : Word → ℕ
value w = w.hi * 2 ^ 64 + w.lo

-- A field is a range of bits of the word: "27:16 crossing" is `bits 27 16`.
unfoldable pub bits : ℕ → ℕ → Word → ℕ
bits h l w = slice h l (value w)

-- A flag is one bit.
abbrev pub is_set : ℕ → Word → Bool
is_set n w = eqb (bits n n w) 1

-- "id in byte 9", bits 79:72.
abbrev pub id_of : Word → ℕ
id_of = bits 79 72

-- Refusal 1: "word not 10 bytes".
abbrev pub from_buf : List ℕ → Result Word Refusal
from_buf bytes = cond (eqb (length bytes) word_bytes) (Ok (word_of bytes)) (Err R.Size)

-- The word of an answer, where it is one.
abbrev pub word_in : Result Word Refusal → Word
word_in (Ok w) = w
word_in (Err r) = record { lo = 0; hi = 0 }

pub record FromBufPost (bytes : List ℕ) (r : Result Word Refusal) : Type 0 where
  pub answer : r ≡ from_buf bytes
  pub number : code r ≡ cond (eqb (length bytes) word_bytes) 0 1
  pub value : word_in r ≡ cond (eqb (length bytes) word_bytes) (word_of bytes) (record { lo = 0; hi = 0 })
