-- What a line does to the file that is being made, by its kind.
-- Assumes nothing.
use Rattle.std.proofs.Common.{ℕ, ◌≡◌, refl, sym, ap, ◌∙◌, subst, Bool, true, false, cond, true≢false, List, [], length, Option, None, Some, Result, Ok}
use Rattle.std.proofs.Common.{Err, is_ok, arith}
use borrow.Author.Tests.{eq-eqb}
use Rattle.refusals.specs.declared.Refusal.{Refusal}
use Rattle.refusals.specs.Refusals.{number, code}
use Rattle.refusals.proofs.Numbers.{no_none}
use Rattle.words.specs.Word.{word_bytes}
use Rattle.writer.specs.declared.WordKind.{WordKind}
use Rattle.writer.specs.Write.{WritePost}
use Rattle.bench_writer.specs.declared.Draft.{Draft}
use Rattle.packet.specs.declared.PacketFields.{PacketFields}
use Rattle.packet.specs.Packet.{packet_from}
use Rattle.bench_writer.specs.Draft.{told, GoodDraft, packet_refusal, with_packet, packet_in, AddPost, word_refusal, with_word, word_in}
use Rattle.script.specs.declared.line.Kind.{Kind as GivenKind}
use Rattle.script.specs.declared.line.Line.{Line as GivenLine}
use Rattle.script.specs.Line.{Kind, Nothing, Unreadable, Packet, Word, Line, of_kind, line_by, line_if}
use Rattle.script.specs.Asked.{asked_of}
use Rattle.script.specs.Taking.{packet_of, refusal_by, draft_by, buffer_by, TakePost}

-- A refusal has a number above 0.
pub some_number : (r : Refusal) → number r ≡ 0 → ⊥
some_number r e = no_none r (sym e)

abbrev line_said : Kind → List ℕ → Line
line_said kind n = record { kind = kind; n = n }

-- What is answered of a line says its kind and its numbers.
if_line : Result (Option GivenLine) Refusal → Line
if_line (Ok None) = record { kind = Nothing; n = [] }
if_line (Ok (Some l)) = record { kind = of_kind l.kind; n = l.n }
if_line (Err r) = record { kind = Unreadable; n = [] }

is_line : Result (Option GivenLine) Refusal → Bool
is_line (Ok None) = false
is_line (Ok (Some l)) = true
is_line (Err r) = false

-- A line that was parsed, by its kind.
line_known : (kind : Kind) (n : List ℕ) (x : GivenLine) → line_by kind n ≡ Ok (Some x) → line_said kind n ≡ line_said (of_kind x.kind) x.n
unfolding if_line is_line
line_known Nothing n x e = absurd (true≢false (sym (ap is_line e)))
line_known Unreadable n x e = absurd (true≢false (sym (ap is_line e)))
line_known Packet n x e = ap if_line e
line_known (Word k) n x e = ap if_line e

pub of_kind_taken : (l : Line) (x : GivenLine) {k : GivenKind} {d : Draft} {buffer after : List ℕ} (a : Result Draft Refusal)
    → line_if l ≡ Ok (Some x) → x.kind ≡ k
    → TakePost (line_said (of_kind k) x.n) d buffer a after
    → TakePost l d buffer a after
of_kind_taken l x {d = d} {buffer} {after} a is kind h =
    subst (λ (x : Line). TakePost x d buffer a after) (sym (line_known l.kind l.n x is))
    (subst (λ (k : GivenKind). TakePost (line_said (of_kind k) x.n) d buffer a after) (sym kind) h)

pub nothing_taken : (l : Line) {d : Draft} {buffer : List ℕ} → line_if l ≡ Ok None → GoodDraft buffer d → TakePost l d buffer (Ok d) buffer
unfolding is_line
nothing_taken l {d} {buffer} is good = by_kind l.kind is
  where
    by_kind : (kind : Kind) → line_by kind l.n ≡ Ok None
        → AddPost (refusal_by kind l.n d) d (draft_by kind d) buffer (buffer_by kind l.n d buffer) (told d (Ok d)) buffer
    by_kind Nothing e = record { answer = refl; draft_is = refl; buffer_is = refl; good = good }
    by_kind Unreadable e = absurd (true≢false (sym (ap is_ok e)))
    by_kind Packet e = absurd (true≢false (ap is_line e))
    by_kind (Word k) e = absurd (true≢false (ap is_line e))

pub unreadable_taken : (l : Line) {d : Draft} {r : Refusal} {buffer : List ℕ} → line_if l ≡ Err r → GoodDraft buffer d → TakePost l d buffer (Err r) buffer
unreadable_taken l {d} {r} {buffer} is good = by_kind l.kind is
  where
    by_kind : (kind : Kind) → line_by kind l.n ≡ Err r
        → AddPost (refusal_by kind l.n d) d (draft_by kind d) buffer (buffer_by kind l.n d buffer) (told d (Err r)) buffer
    by_kind Nothing e = absurd (true≢false (ap is_ok e))
    by_kind Unreadable e = record { answer = sym (ap code e); draft_is = refl; buffer_is = refl; good = good }
    by_kind Packet e = absurd (true≢false (ap is_ok e))
    by_kind (Word k) e = absurd (true≢false (ap is_ok e))

-- What the writer answers for a slice of ten bytes: 8, or 0 and the bytes.
ten : (slice : List ℕ) → length slice ≡ word_bytes → (fits : Bool) (bytes : List ℕ) (r : ℕ) (after : List ℕ) → WritePost fits bytes slice r after
    → (r ≡ cond fits 0 8) × (after ≡ cond fits bytes slice)
ten slice long true bytes r after w = let e = eq-eqb (length slice) word_bytes long in (w.answer ∙ simp e, w.slice_is ∙ simp e)
ten slice long false bytes r after w = (w.answer, w.slice_is)

module _ (k : WordKind) (n : List ℕ) (d : Draft) (buffer slice : List ℕ) (w : Result Unit Refusal) {word : List ℕ} (long : length slice ≡ word_bytes)
    (post : WritePost (asked_of k n).fits (asked_of k n).bytes slice (code w) word) where
  both : (code w ≡ cond (asked_of k n).fits 0 8) × (word ≡ cond (asked_of k n).fits (asked_of k n).bytes slice)
  both = ten slice long (asked_of k n).fits (asked_of k n).bytes (code w) word post

  pub word_refused : {x : Refusal} → w ≡ Err x → GoodDraft buffer d → TakePost (record { kind = Word k; n = n }) d buffer (Err x) buffer
  word_refused {x} is good = by_fit (asked_of k n).fits (ap code (sym is) ∙ both.0)
    where
      by_fit : (fits : Bool) → number x ≡ cond fits 0 8
          → AddPost (cond fits (word_refusal d) 8) d (with_word d) buffer (word_in d (asked_of k n).bytes buffer) (told d (Err x)) buffer
      by_fit true e = absurd (some_number x e)
      by_fit false e = record { answer = e; draft_is = refl; buffer_is = refl; good = good }

  pub word_added : (a : Result Draft Refusal) {u : Unit {0}} {after : List ℕ} → w ≡ Ok u
      → AddPost (word_refusal d) d (with_word d) buffer (word_in d word buffer) (told d a) after
      → TakePost (record { kind = Word k; n = n }) d buffer a after
  word_added a {u} {after} is add = by_fit (asked_of k n).fits (sym both.0 ∙ ap code is) both.1
    where
      by_fit : (fits : Bool) → ◌≡◌ {A = ℕ} (cond fits 0 8) 0 → word ≡ cond fits (asked_of k n).bytes slice
          → AddPost (cond fits (word_refusal d) 8) d (with_word d) buffer (word_in d (asked_of k n).bytes buffer) (told d a) after
      by_fit true e bytes =
          subst (λ (l : List ℕ). AddPost (word_refusal d) d (with_word d) buffer (word_in d l buffer) (told d a) after) bytes add
      by_fit false e bytes = absurd (omega (arith, e))

-- The packet of a line's numbers.
pub packet_added : (n : List ℕ) {fields : PacketFields} {d : Draft} {buffer after : List ℕ} (a : Result Draft Refusal) → fields ≡ packet_of n
    → AddPost (packet_refusal d (packet_from fields)) d (with_packet d) buffer (packet_in d (packet_from fields) buffer) (told d a) after
    → TakePost (record { kind = Packet; n = n }) d buffer a after
packet_added n {d = d} {buffer} {after} a =
    subst
    (λ (f : PacketFields).
    AddPost (packet_refusal d (packet_from f)) d (with_packet d) buffer (packet_in d (packet_from f) buffer) (told d a) after)
