-- The theorem of this crate: a text that is read in pieces of any length comes to its answer, which is the file of its lines or the first bad line's
-- refusal and number.
-- Assumes nothing.
use Prim.Native.Nat.{ℕ, suc, ◌+◌, ◌≤◌, ◌<◌}
use mathlib.Core.Path.{◌≡◌, refl, sym, ap, ap₂, ◌∙◌, subst}
use mathlib.Core.Bool.{Bool, true, false, cond, ◌||◌}
use mathlib.Core.List.{List, [], ◌∷◌, ◌++◌, append-nil}
use native.Mathlib.Numerals.{add-one}
use native.Mathlib.Omega.{arith}
use borrow.Author.Tests.{eq-eqb, eqb-true, eqb-false, lt-ltb, le-ltb, ltb-true, ltb-false}
use lib.Dec.{ltb, eqb}
use lib.ListN.{length, take, set, replicate, length-append, length-set, length-replicate}
use lib.Seq.{take-suc-set, take_at}
use Rattle.words.specs.Lists.{over}
use Rattle.ascii.specs.Text.{newline}
use Rattle.bench_file.specs.File.{most_bytes}
use Rattle.bench_writer.specs.declared.Draft.{Draft}
use Rattle.bench_writer.specs.Content.{Entry, header, Fine}
use Rattle.bench_writer.specs.Draft.{size, draft_of, put_at, Holds}
use Rattle.bench_writer.proofs.Holding.{start_holds, finish_file}
use Rattle.script.specs.declared.Reading.{Reading}
use Rattle.script.specs.declared.Answer.{Answer}
use Rattle.script.specs.Line.{Unreadable, Line, line_with, line_of}
use Rattle.script.specs.Taking.{refused_line, refusal_by, entries_by}
use Rattle.script.specs.Outcome.{in_first, lines_of, hash, uncommented, most_line, said_by, refusal_in, entries_in, refused_text, IsAnswer}
use Rattle.script.specs.Outcome.{Outcome, made, refused, outcome_from, outcome_of, outcome_refusal, answer_bytes, answer_of}
use Rattle.script.specs.Feeding.{State, state_of, begun, last_line, next_line, held_line, refused_with, line_refusal, line_taken, line_refused, ended}
use Rattle.script.specs.Feeding.{with_used, holding, in_comment, fed_byte, fed, fed_all, whole, HasRead, FinishPost}
use Rattle.script.proofs.Pieces.{fed_whole}
use Rattle.script.proofs.Fed.{stays, refused_is, taken_is, byte_stays, byte_ends, byte_commented, byte_held}
use Rattle.script.proofs.Lines.{commented, commented_more, uncommented_more, in_front, in_front_byte, some_line, holds_more}

-- What is held while no line was refused: n is the number of the line at hand, these bytes of it were read, and the entries are those of the lines before.
record Reads (s : State) (n : ℕ) (es : List Entry) (line : List ℕ) : Type 0 where
  pub none : s.reading.refusal ≡ 0
  pub number : s.reading.line ≡ n
  pub holds : Holds s.buffer s.reading.draft es
  pub long : length s.held ≡ most_line
  pub comment : s.reading.comment ≡ commented line
  pub few : length (uncommented line) ≤ most_line
  pub used : s.reading.used ≡ length (uncommented line)
  pub bytes : take (length (uncommented line)) s.held ≡ uncommented line

-- What a line is refused with behind these entries.
abbrev refused_by : List Entry → Line → ℕ
refused_by es l = refusal_by l.kind l.n (draft_of es)

-- The line that is held is the line that was read.
held_is : {s : State} {n : ℕ} {es : List Entry} {line : List ℕ} → Reads s n es line → held_line s ≡ said_by line
held_is {s} {line = line} r =
    ap line_of (ap (λ (k : ℕ). take k s.held) r.used ∙ r.bytes)
    ∙ sym
    (ap (λ (t : Bool). cond t (line_with Unreadable []) (line_of (uncommented line))) (le-ltb most_line (length (uncommented line)) r.few))

refusal_is : {s : State} {n : ℕ} {es : List Entry} {line : List ℕ} → Reads s n es line → line_refusal s (held_line s) ≡ refusal_in es line
refusal_is r = ap₂ (λ (l : Line) (d : Draft). refusal_by l.kind l.n d) (held_is r) r.holds.draft_is

-- The line ends: the next one begins, or it is refused.
line_ends : {s : State} {n : ℕ} {es : List Entry} {line : List ℕ} → Reads s n es line → n < last_line → refusal_in es line ≡ 0
    → Reads (ended s) (suc n) (es ++ entries_in line) []
unfolding uncommented
line_ends {s} {n} {es} {line} r small zero =
    let taken = line_taken s (held_line s) in
    let next : Reads taken (suc n) (es ++ entries_in line) [] =
    record {
      none = refl;
      number =
          ap next_line r.number ∙ ap (λ (t : Bool). cond t (n + 1) n) (lt-ltb n last_line small) ∙ omega arith;
      holds =
          subst (λ (l : Line). Holds taken.buffer taken.reading.draft (es ++ entries_by l.kind l.n)) (held_is r)
          (holds_more (held_line s).kind (held_line s).n s.reading.draft s.buffer es r.holds (refusal_is r ∙ zero));
      long = r.long;
      comment = refl;
      few = omega arith;
      used = refl;
      bytes = refl;
    } in
    subst (λ (x : State). Reads x (suc n) (es ++ entries_in line) []) (sym (taken_is s r.none (refusal_is r ∙ zero))) next

line_refused_lem : {s : State} {n : ℕ} {es : List Entry} {line : List ℕ} → Reads s n es line → eqb (refusal_in es line) 0 ≡ false
    → ended s ≡ line_refused s (held_line s)
line_refused_lem {s} {es = es} {line} r some = refused_is s r.none (λ z. eqb-false (refusal_in es line) 0 some (sym (refusal_is r) ∙ z))

no_comment : (t u : Bool) → (t || u) ≡ false → t ≡ false
no_comment true u e = e
no_comment false u e = refl

-- A byte more of the line: it belongs to its comment, or it is held, or it has no room.
data More (s : State) (n : ℕ) (es : List Entry) (line : List ℕ) : Type 0 where
  goes_on : Reads s n es line → More s n es line
  too_long : most_line < length (uncommented line) → s.reading.refusal ≡ refused_line → s.reading.line ≡ n → More s n es line

in_comment_lem : {s : State} {n : ℕ} {es : List Entry} {line : List ℕ} (b : ℕ) → Reads s n es line → (commented line || eqb b hash) ≡ true
    → Reads (state_of s.buffer s.held (in_comment s.reading)) n es (line ++ (b ∷ []))
in_comment_lem {s} {line = line} b r e =
    let u : uncommented (line ++ (b ∷ [])) ≡ uncommented line =
    uncommented_more line b ∙ ap (λ (t : Bool). cond t (uncommented line) (uncommented line ++ (b ∷ []))) e in
    record {
      none = r.none;
      number = r.number;
      holds = r.holds;
      long = r.long;
      comment = sym (commented_more line b ∙ e);
      few = subst (λ (l : List ℕ). length l ≤ most_line) (sym u) r.few;
      used = r.used ∙ ap length (sym u);
      bytes = subst (λ (l : List ℕ). take (length l) s.held ≡ l) (sym u) r.bytes;
    }

one_held : {s : State} {n : ℕ} {es : List Entry} {line : List ℕ} (b : ℕ) → Reads s n es line → (commented line || eqb b hash) ≡ false
    → More (holding s b) n es (line ++ (b ∷ []))
one_held {s} {n} {es} {line} b r e = by_room (ltb s.reading.used most_line) refl
  where
    u : uncommented (line ++ (b ∷ [])) ≡ uncommented line ++ (b ∷ [])
    u = uncommented_more line b ∙ ap (λ (t : Bool). cond t (uncommented line) (uncommented line ++ (b ∷ []))) e

    more : length (uncommented (line ++ (b ∷ []))) ≡ length (uncommented line) + 1
    more = ap length u ∙ length-append (uncommented line) (b ∷ [])

    by_room : (t : Bool) → ltb s.reading.used most_line ≡ t
        → More
        (state_of s.buffer (cond t (set s.held s.reading.used b) s.held)
        (cond t (with_used (s.reading.used + 1) s.reading) (refused_with refused_line s.reading)))
        n
        es
        (line ++ (b ∷ []))
    by_room true t =
        let room = ltb-true s.reading.used most_line t in
        let at : s.reading.used ≡ length (uncommented line) = r.used in
        goes_on
        (record {
          none = r.none;
          number = r.number;
          holds = r.holds;
          long = length-set s.held s.reading.used b ∙ r.long;
          comment = r.comment ∙ no_comment (commented line) (eqb b hash) e ∙ sym (commented_more line b ∙ e);
          few = omega (arith, room, at, more);
          used = omega (arith, at, more);
          bytes =
              ap₂ (λ (k m : ℕ). take k (set s.held m b)) (more ∙ add-one (length (uncommented line))) at
              ∙ take-suc-set s.held (length (uncommented line)) b (omega (arith, room, at, r.long))
              ∙ ap (λ (l : List ℕ). l ++ (b ∷ [])) r.bytes
              ∙ sym u;
        })
    by_room false t =
        too_long (omega (arith, ltb-false s.reading.used most_line t, r.used, more)) refl r.number

byte_more : {s : State} {n : ℕ} {es : List Entry} {line : List ℕ} (b : ℕ) → Reads s n es line → (b ≡ newline → ⊥)
    → More (fed_byte s b) n es (line ++ (b ∷ []))
byte_more {s} {n} {es} {line} b r other = by_case (commented line || eqb b hash) refl
  where
    by_case : (t : Bool) → (commented line || eqb b hash) ≡ t → More (fed_byte s b) n es (line ++ (b ∷ []))
    by_case true e =
        subst (λ (x : State). More x n es (line ++ (b ∷ [])))
        (sym (byte_commented s b r.none other (ap (λ (c : Bool). c || eqb b hash) r.comment ∙ e)))
        (goes_on (in_comment_lem b r e))
    by_case false e =
        subst (λ (x : State). More x n es (line ++ (b ∷ [])))
        (sym (byte_held s b r.none other (ap (λ (c : Bool). c || eqb b hash) r.comment ∙ e)))
        (one_held b r e)

-- A line that is too long can't be read, whatever follows.
longer : (line more : List ℕ) → length (uncommented line) ≤ length (uncommented (line ++ more))
unfolding uncommented
longer [] more = omega arith
longer (c ∷ line) more = by_case (eqb c hash) (longer line more)
  where
    by_case : (t : Bool) → length (uncommented line) ≤ length (uncommented (line ++ more))
        → length (cond t [] (c ∷ uncommented line)) ≤ length (cond t [] (c ∷ uncommented (line ++ more)))
    by_case true h = omega arith
    by_case false h = omega (arith, h)

long_refused : (es : List Entry) (line : List ℕ) → most_line < length (uncommented line) → refusal_in es line ≡ refused_line
long_refused es line h =
    ap (λ (t : Bool). refused_by es (cond t (line_with Unreadable []) (line_of (uncommented line)))) (lt-ltb most_line (length (uncommented line)) h)

long_outcome : (n : ℕ) (es : List Entry) (line : List ℕ) (ls : List (List ℕ)) → most_line < length (uncommented line)
    → outcome_from n es (in_front line ls) ≡ refused refused_line n
unfolding outcome_from
long_outcome n es line [] h =
    ap (λ (k : ℕ). cond (eqb k 0) (outcome_from (suc n) (es ++ entries_in line) []) (refused k n)) (long_refused es line h)
long_outcome n es line (l ∷ ls) h =
    ap (λ (k : ℕ). cond (eqb k 0) (outcome_from (suc n) (es ++ entries_in (line ++ l)) ls) (refused k n))
    (long_refused es (line ++ l) (omega (arith, h, longer line l)))

-- The end of the text ends the last line: what is held then is the file, or a refusal and its line.
data Final (s : State) : Outcome → Type 0 where
  with_file : {es : List Entry} → (ended s).reading.refusal ≡ 0 → Holds (ended s).buffer (ended s).reading.draft es → Final s (made es)
  with_line : {n l : ℕ} → eqb n 0 ≡ false → (ended s).reading.refusal ≡ n → (ended s).reading.line ≡ l → Final s (refused n l)

refused_here : {s : State} {n : ℕ} {es : List Entry} {line : List ℕ} → Reads s n es line → eqb (refusal_in es line) 0 ≡ false
    → ((ended s).reading.refusal ≡ refusal_in es line) × ((ended s).reading.line ≡ n)
refused_here r some =
    let is = line_refused_lem r some in
    (ap (λ (x : State). x.reading.refusal) is ∙ refusal_is r, ap (λ (x : State). x.reading.line) is ∙ r.number)

-- After a refusal nothing changes.
fed_stays : (s : State) (text : List ℕ) → (s.reading.refusal ≡ 0 → ⊥) → fed s text ≡ s
unfolding fed
fed_stays s [] some = refl
fed_stays s (b ∷ text) some = ap (λ (x : State). fed x text) (byte_stays s b some) ∙ fed_stays s text some

stopped : (s : State) (text : List ℕ) {r l : ℕ} → eqb r 0 ≡ false → s.reading.refusal ≡ r → s.reading.line ≡ l
    → Final (fed s text) (refused r l)
stopped s text {r} some refusal line =
    let not-0 : s.reading.refusal ≡ 0 → ⊥ = λ z. eqb-false r 0 some (sym refusal ∙ z) in
    let last : ended (fed s text) ≡ s = ap ended (fed_stays s text not-0) ∙ stays s not-0 in
    with_line some (ap (λ (x : State). x.reading.refusal) last ∙ refusal) (ap (λ (x : State). x.reading.line) last ∙ line)

-- The outcome of the line at hand and of what follows it, by whether the line is refused.
outcome_by : Bool → ℕ → List Entry → List ℕ → List (List ℕ) → Outcome
outcome_by t n es line ls = cond t (outcome_from (suc n) (es ++ entries_in line) ls) (refused (refusal_in es line) n)

last_line_lem : {s : State} {n : ℕ} {es : List Entry} {line : List ℕ} → Reads s n es line → n < last_line → (t : Bool) → eqb (refusal_in es line) 0 ≡ t
    → Final s (outcome_by t n es line [])
unfolding outcome_from outcome_by
last_line_lem {es = es} {line} r small true e =
    let next = line_ends r small (eqb-true (refusal_in es line) 0 e) in
    with_file next.none next.holds
last_line_lem r small false e = let here = refused_here r e in with_line e here.0 here.1

next_lines : {s : State} {n : ℕ} {es : List Entry} {line : List ℕ} (text : List ℕ) → Reads s n es line → n < last_line
    → (Reads (ended s) (suc n) (es ++ entries_in line) [] → Final (fed (ended s) text) (outcome_from (suc n) (es ++ entries_in line) (lines_of text)))
    → (t : Bool) → eqb (refusal_in es line) 0 ≡ t
    → Final (fed (ended s) text) (outcome_by t n es line (lines_of text))
unfolding outcome_by
next_lines {es = es} {line} text r small rest true e = rest (line_ends r small (eqb-true (refusal_in es line) 0 e))
next_lines {s} text r small rest false e = let here = refused_here r e in stopped (ended s) text e here.0 here.1

-- By the next byte, where the rest of the text comes to its outcome.
by_byte : (b : ℕ) (text : List ℕ) (s : State) (n : ℕ) (es : List Entry) (line : List ℕ) → Reads s n es line → n + suc (length text) < last_line
    → ((s : State) (n : ℕ) (es : List Entry) (line : List ℕ) → Reads s n es line → n + length text < last_line
    → Final (fed s text) (outcome_from n es (in_front line (lines_of text))))
    → (t : Bool) → eqb b newline ≡ t
    → Final (fed (fed_byte s b) text) (outcome_from n es (in_front line (cond t ([] ∷ lines_of text) (in_first b (lines_of text)))))
unfolding outcome_from outcome_by
by_byte b text s n es line r small rest true e =
    let ends : fed_byte s b ≡ ended s = byte_ends s b r.none (eqb-true b newline e) in
    subst (λ (x : State). Final (fed x text) (outcome_from n es ((line ++ []) ∷ lines_of text))) (sym ends)
    (subst (λ (l : List ℕ). Final (fed (ended s) text) (outcome_from n es (l ∷ lines_of text))) (sym (append-nil line))
    (next_lines text r (omega (arith, small))
    (λ next.
    subst (λ (ls : List (List ℕ)). Final (fed (ended s) text) (outcome_from (suc n) (es ++ entries_in line) ls)) (some_line text)
    (rest (ended s) (suc n) (es ++ entries_in line) [] next (omega (arith, small))))
    (eqb (refusal_in es line) 0)
    refl))
by_byte b text s n es line r small rest false e =
    subst (λ (ls : List (List ℕ)). Final (fed (fed_byte s b) text) (outcome_from n es ls)) (sym (in_front_byte line b (lines_of text)))
    (by_more (byte_more b r (eqb-false b newline e)))
  where
    by_more : More (fed_byte s b) n es (line ++ (b ∷ [])) → Final (fed (fed_byte s b) text) (outcome_from n es (in_front (line ++ (b ∷ [])) (lines_of text)))
    by_more (goes_on next) = rest (fed_byte s b) n es (line ++ (b ∷ [])) next (omega (arith, small))
    by_more (too_long long refusal number) =
        subst (Final (fed (fed_byte s b) text)) (sym (long_outcome n es (line ++ (b ∷ [])) (lines_of text) long))
        (stopped (fed_byte s b) text refl refusal number)

final : (text : List ℕ) (s : State) (n : ℕ) (es : List Entry) (line : List ℕ) → Reads s n es line → n + length text < last_line
    → Final (fed s text) (outcome_from n es (in_front line (lines_of text)))
unfolding fed lines_of outcome_from outcome_by
final [] s n es line r small =
    subst (λ (l : List ℕ). Final s (outcome_from n es (l ∷ []))) (sym (append-nil line))
    (last_line_lem r (omega (arith, small)) (eqb (refusal_in es line) 0) refl)
final (b ∷ text) s n es line r small = by_byte b text s n es line r small (final text) (eqb b newline) refl

-- What is left in the buffer is the answer.
said : {s : State} {o : Outcome} {a : Answer} {after : List ℕ} → Final s o → FinishPost s a after → take a.n after ≡ answer_bytes o
said {s} {a = a} {after} (with_file {es} zero holds) post =
    let last = (ended s).reading in
    let test = eq-eqb last.refusal 0 zero in
    let long : a.n ≡ size last.draft = post.length_is ∙ simp test in
    let put : after ≡ put_at 0 (header last.draft.packets last.draft.words) (ended s).buffer = post.buffer_is ∙ simp test in
    ap₂ take long put ∙ finish_file (ended s).buffer last.draft es holds
said {s} {a = a} {after} (with_line {n} {l} some refusal line) post =
    let last = (ended s).reading in
    let text = refused_text n l in
    let test : eqb last.refusal 0 ≡ false = ap (λ (k : ℕ). eqb k 0) refusal ∙ some in
    let is : refused_text last.refusal last.line ≡ text = ap₂ refused_text refusal line in
    let long : a.n ≡ length (refused_text last.refusal last.line) = post.length_is ∙ simp test in
    let put : after ≡ over (refused_text last.refusal last.line) (ended s).buffer = post.buffer_is ∙ simp test in
    ap₂ take (long ∙ ap length is) (put ∙ ap (λ (t : List ℕ). over t (ended s).buffer) is)
    ∙ take_at text _ (length text) refl

-- Nothing was read yet.
nothing_read : (buffer held : List ℕ) → length buffer ≡ most_bytes → length held ≡ most_line → Reads (state_of buffer held begun) 1 [] []
unfolding uncommented
nothing_read buffer held long long-held =
    record {
      none = refl;
      number = refl;
      holds = start_holds buffer long;
      long = long-held;
      comment = refl;
      few = omega arith;
      used = refl;
      bytes = refl;
    }

ends_so : (buffer held : List ℕ) (pieces : List (List ℕ)) → length buffer ≡ most_bytes → length held ≡ most_line
    → suc (length (whole pieces)) < last_line
    → Final (fed_all (state_of buffer held begun) pieces) (outcome_of (whole pieces))
unfolding outcome_of
ends_so buffer held pieces long long-held short =
    subst (λ (ls : List (List ℕ)). Final (fed_all (state_of buffer held begun) pieces) (outcome_from 1 [] ls)) (some_line (whole pieces))
    (subst (λ (x : State). Final x (outcome_from 1 [] (in_front [] (lines_of (whole pieces))))) (sym (fed_whole (state_of buffer held begun) pieces))
    (final (whole pieces) (state_of buffer held begun) 1 [] [] (nothing_read buffer held long long-held) (omega (arith, short))))

-- The theorem: what stands at the front of the buffer is the answer of the text. No text has as many bytes as there are numbers for its lines.
pub answered : (buffer held : List ℕ) (pieces : List (List ℕ)) → length buffer ≡ most_bytes → length held ≡ most_line
    → suc (length (whole pieces)) < last_line
    → (a : Answer) (after : List ℕ) → FinishPost (fed_all (state_of buffer held begun) pieces) a after
    → take a.n after ≡ answer_of (whole pieces)
unfolding answer_of
answered buffer held pieces long long-held short a after = said (ends_so buffer held pieces long long-held short)

-- The refusal beside it is that of the text, or 0.
said_refusal : {s : State} {o : Outcome} {a : Answer} {after : List ℕ} → Final s o → FinishPost s a after → a.refusal ≡ outcome_refusal o
said_refusal (with_file zero holds) post = post.refusal_is ∙ zero
said_refusal (with_line some refusal line) post = post.refusal_is ∙ refusal

pub answered_refusal : (buffer held : List ℕ) (pieces : List (List ℕ)) → length buffer ≡ most_bytes → length held ≡ most_line
    → suc (length (whole pieces)) < last_line
    → (a : Answer) (after : List ℕ) → FinishPost (fed_all (state_of buffer held begun) pieces) a after
    → a.refusal ≡ outcome_refusal (outcome_of (whole pieces))
answered_refusal buffer held pieces long long-held short a after = said_refusal (ends_so buffer held pieces long long-held short)

-- What is made is fine, and a refusal is a number above 0.
abbrev pub IsFine : Outcome → Type 0
IsFine (made es) = Fine es
IsFine (refused n l) = eqb n 0 ≡ false

final_fine : {s : State} {o : Outcome} → Final s o → IsFine o
final_fine (with_file zero holds) = holds.fine
final_fine (with_line some refusal line) = some

pub fine : (text : List ℕ) → suc (length text) < last_line → IsFine (outcome_of text)
unfolding whole
fine text short =
    let e : whole (text ∷ []) ≡ text = append-nil text in
    let short' : suc (length (whole (text ∷ []))) < last_line = subst (λ (t : List ℕ). suc (length t) < last_line) (sym e) short in
    subst (λ (t : List ℕ). IsFine (outcome_of t)) e
    (final_fine
    (ends_so (replicate most_bytes 0) (replicate most_line 0) (text ∷ []) (length-replicate {A = ℕ} most_bytes 0)
    (length-replicate {A = ℕ} most_line 0) short'))

-- For a caller that has read a text in pieces.
pub is_answer : {buffer₀ held₀ buffer held after : List ℕ} {r : Reading} {a : Answer} → length buffer₀ ≡ most_bytes → length held₀ ≡ most_line
    → HasRead buffer₀ held₀ buffer held r
    → FinishPost (state_of buffer held r) a after
    → IsAnswer (take a.n after)
is_answer {buffer₀} {held₀} {after = after} {a = a} long long-held read post =
    record {
      text = whole read.pieces;
      is =
          answered buffer₀ held₀ read.pieces long long-held read.short a after
          (subst (λ (s : State). FinishPost s a after) read.state_is post);
    }
