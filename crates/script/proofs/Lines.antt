-- Lines and their comments, one byte more at a time; and what a line makes of a buffer that holds entries.
-- Assumes nothing.
use Prim.Native.Nat.{ℕ}
use mathlib.Core.Path.{◌≡◌, refl, sym, ap, ◌∙◌, subst}
use mathlib.Core.Bool.{Bool, true, false, cond, ◌||◌}
use mathlib.Core.List.{List, [], ◌∷◌, ◌++◌, append_assoc, append-nil}
use native.Mathlib.Omega.{arith}
use lib.Dec.{eqb}
use lib.ListN.{length}
use Rattle.ascii.specs.Text.{newline}
use Rattle.words.specs.Word.{word_bytes}
use Rattle.writer.specs.declared.WordKind.{WordKind}
use Rattle.writer.specs.declared.WordKind.TheVariants as W
use Rattle.writer.specs.Write.{written}
use Rattle.writer.proofs.Bytes.{bytes_long}
use Rattle.bench_writer.specs.declared.Draft.{Draft}
use Rattle.bench_writer.specs.Content.{Entry}
use Rattle.packet.specs.Packet.{packet_from}
use Rattle.bench_writer.specs.Draft.{word_refusal, Holds}
use Rattle.bench_writer.proofs.Holding.{packet_holds, word_holds}
use Rattle.script.specs.Line.{Kind, Nothing, Unreadable, Packet, Word}
use Rattle.script.specs.Asked.{asked_of}
use Rattle.script.specs.Taking.{packet_of, refusal_by, entries_by, draft_by, buffer_by}
use Rattle.script.specs.Outcome.{in_first, lines_of, hash, uncommented}

-- Whether a comment has begun.
abbrev pub commented : List ℕ → Bool
commented [] = false
commented (b ∷ bs) = eqb b hash || commented bs

pub commented_more : (line : List ℕ) (b : ℕ) → commented (line ++ (b ∷ [])) ≡ (commented line || eqb b hash)
commented_more [] b = or_false (eqb b hash)
  where
    or_false : (t : Bool) → (t || false) ≡ t
    or_false true = refl
    or_false false = refl
commented_more (c ∷ line) b =
    ap (λ (t : Bool). eqb c hash || t) (commented_more line b) ∙ or_assoc (eqb c hash) (commented line) (eqb b hash)
  where
    or_assoc : (t u v : Bool) → (t || (u || v)) ≡ ((t || u) || v)
    or_assoc true u v = refl
    or_assoc false u v = refl

pub uncommented_more : (line : List ℕ) (b : ℕ)
    → uncommented (line ++ (b ∷ [])) ≡ cond (commented line || eqb b hash) (uncommented line) (uncommented line ++ (b ∷ []))
unfolding uncommented
uncommented_more [] b = refl
uncommented_more (c ∷ line) b =
    ap (λ (l : List ℕ). cond (eqb c hash) [] (c ∷ l)) (uncommented_more line b)
    ∙ by_case (eqb c hash) (commented line) (eqb b hash)
  where
    either : (t : Bool) (x y : List ℕ) → c ∷ cond t x y ≡ cond t (c ∷ x) (c ∷ y)
    either true x y = refl
    either false x y = refl

    by_case : (t v w : Bool)
        → cond t [] (c ∷ cond (v || w) (uncommented line) (uncommented line ++ (b ∷ [])))
        ≡ cond ((t || v) || w) (cond t [] (c ∷ uncommented line)) (cond t [] (c ∷ uncommented line) ++ (b ∷ []))
    by_case true v w = refl
    by_case false v w = either (v || w) (uncommented line) (uncommented line ++ (b ∷ []))

-- Bytes in front of the first line.
abbrev pub in_front : List ℕ → List (List ℕ) → List (List ℕ)
in_front line [] = line ∷ []
in_front line (l ∷ ls) = (line ++ l) ∷ ls

pub in_front_byte : (line : List ℕ) (b : ℕ) (ls : List (List ℕ)) → in_front line (in_first b ls) ≡ in_front (line ++ (b ∷ [])) ls
in_front_byte line b [] = refl
in_front_byte line b (l ∷ ls) = ap (λ (x : List ℕ). x ∷ ls) (sym (append_assoc line (b ∷ []) l))

-- A text has a line.
pub some_line : (text : List ℕ) → in_front [] (lines_of text) ≡ lines_of text
unfolding lines_of
some_line [] = refl
some_line (b ∷ bs) = by_case (eqb b newline) (lines_of bs)
  where
    by_case : (t : Bool) (ls : List (List ℕ)) → in_front [] (cond t ([] ∷ ls) (in_first b ls)) ≡ cond t ([] ∷ ls) (in_first b ls)
    by_case true ls = refl
    by_case false [] = refl
    by_case false (l ∷ ls) = refl

-- The bytes of a word that is asked for are ten.
ten : (k : WordKind) (n : List ℕ) → length (asked_of k n).bytes ≡ word_bytes
unfolding written
ten W.Ihw n = bytes_long 10 _
ten W.Tdh n = bytes_long 10 _
ten W.Tdt n = bytes_long 10 _
ten W.Ddw0 n = bytes_long 10 _
ten W.Cdw n = bytes_long 10 _
ten W.Data n = refl

-- A line that is not refused: the buffer holds what it adds.
pub holds_more : (k : Kind) (n : List ℕ) (d : Draft) (buffer : List ℕ) (es : List Entry) → Holds buffer d es → refusal_by k n d ≡ 0
    → Holds (buffer_by k n d buffer) (draft_by k d) (es ++ entries_by k n)
holds_more Nothing n d buffer es h zero = subst (Holds buffer d) (sym (append-nil es)) h
holds_more Unreadable n d buffer es h zero = absurd (omega arith)
holds_more Packet n d buffer es h zero = packet_holds buffer d (packet_from (packet_of n)) es h zero
holds_more (Word k) n d buffer es h zero = by_fit (asked_of k n).fits zero
  where
    by_fit : (fits : Bool) → cond fits (word_refusal d) 8 ≡ 0 → Holds (buffer_by (Word k) n d buffer) (draft_by (Word k) d) (es ++ entries_by (Word k) n)
    by_fit true e = word_holds buffer d (asked_of k n).bytes es (ten k n) h e
    by_fit false e = absurd (omega arith)
