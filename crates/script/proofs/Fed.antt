-- What the end of a line, a byte and a piece of a text do to what the reader holds.
-- Assumes nothing.
use Rattle.std.proofs.Common.{ℕ, ◌+◌, ◌≤◌, ◌<◌, ◌≡◌, refl, sym, ap, ap₂, ◌∙◌, subst, Bool, true, false, cond, ◌||◌, ltb, eqb, List, length, drop}
use Rattle.std.proofs.Common.{get_or, set, length-set, drop_of_length-le, drop-cons, add-one, Result, Ok, Err}
use Rattle.std.proofs.Common.{arith}
use borrow.Author.Tests.{eq-eqb, ne_eqb, ltb-true}
use Rattle.refusals.specs.declared.Refusal.{Refusal}
use Rattle.refusals.specs.Refusals.{number}
use Rattle.ascii.specs.Text.{newline, Puts}
use Rattle.bench_file.specs.File.{most_bytes}
use Rattle.bench_writer.specs.declared.Draft.{Draft}
use Rattle.bench_writer.specs.Draft.{Added, told, GoodDraft}
use Rattle.bench_writer.specs.Draft as B
use Rattle.script.specs.declared.Reading.{Reading}
use Rattle.script.specs.Taking.{buffer_by, draft_by, TakePost}
use Rattle.script.specs.Outcome.{hash, most_line, refused_text}
use Rattle.script.specs.Feeding.{State, state_of, GoodReading, next_line, held_line, refused_with, line_refusal, line_taken}
use Rattle.script.specs.Feeding.{line_refused, ended, with_used, holding, in_comment, fed_byte, fed, ReadPost, answer_length}
use Rattle.script.specs.Feeding.{answer_in, FinishPost}
use Rattle.script.proofs.Taken.{some_number}

-- The invariant of what the reader holds.
abbrev pub Good : State → Type 0
Good s = GoodReading s.buffer s.held s.reading

-- A call that leaves a state.
pub read : {next : State} (s : State) {r : Reading} {buffer held : List ℕ} → next ≡ s → r ≡ s.reading → buffer ≡ s.buffer → held ≡ s.held
    → Good s
    → ReadPost next r buffer held
read s e er eb eh good =
    record {
      reading_is = er ∙ ap (λ (x : State). x.reading) (sym e);
      buffer_is = eb ∙ ap (λ (x : State). x.buffer) (sym e);
      held_is = eh ∙ ap (λ (x : State). x.held) (sym e);
      good = rw (er, eb, eh) good;
    }

pub read_as : {next : State} (s : State) {r : Reading} {buffer held : List ℕ} → next ≡ s → ReadPost s r buffer held → ReadPost next r buffer held
read_as s {r} {buffer} {held} e = subst (λ (x : State). ReadPost x r buffer held) (sym e)

-- The end of a line.
pub stays : (s : State) → (s.reading.refusal ≡ 0 → ⊥) → ended s ≡ s
unfolding ended
stays s some = simp (ne_eqb s.reading.refusal 0 some)

pub refused_is : (s : State) → s.reading.refusal ≡ 0 → (line_refusal s (held_line s) ≡ 0 → ⊥) → ended s ≡ line_refused s (held_line s)
unfolding ended
refused_is s none some = simp (eq-eqb s.reading.refusal 0 none, ne_eqb (line_refusal s (held_line s)) 0 some)

pub taken_is : (s : State) → s.reading.refusal ≡ 0 → line_refusal s (held_line s) ≡ 0 → ended s ≡ line_taken s (held_line s)
unfolding ended
taken_is s none zero = simp (eq-eqb s.reading.refusal 0 none, eq-eqb (line_refusal s (held_line s)) 0 zero)

pub line_stopped : (s : State) (a : Result Draft Refusal) {x : Refusal} {after : List ℕ} {r : Reading} → Good s → s.reading.refusal ≡ 0
    → TakePost (held_line s) s.reading.draft s.buffer a after
    → a ≡ Err x
    → r ≡ refused_with (number x) s.reading
    → ReadPost (ended s) r after s.held
line_stopped s a {x} good none post is e =
    let refusal : line_refusal s (held_line s) ≡ number x =
    sym post.answer ∙ ap (λ (r : Result Draft Refusal). (told s.reading.draft r).refusal) is in
    let some : line_refusal s (held_line s) ≡ 0 → ⊥ = λ z. some_number x (sym refusal ∙ z) in
    read (line_refused s (held_line s)) (refused_is s none some) (e ∙ ap (λ (n : ℕ). refused_with n s.reading) (sym refusal))
    (post.buffer_is ∙ simp (ne_eqb (line_refusal s (held_line s)) 0 some))
    refl
    (record { draft = good.draft; long = good.long; few = good.few })

pub line_ended : (s : State) (a : Result Draft Refusal) {d : Draft} {after : List ℕ} {line : ℕ} {r : Reading} → Good s → s.reading.refusal ≡ 0
    → TakePost (held_line s) s.reading.draft s.buffer a after
    → a ≡ Ok d
    → line ≡ next_line s.reading.line
    → r ≡ record { draft = d; line = line; used = 0; comment = false; refusal = 0 }
    → ReadPost (ended s) r after s.held
line_ended s a {d} {after} good none post is e r-is =
    let l = held_line s in
    let same = ap (told s.reading.draft) is in
    let zero : line_refusal s l ≡ 0 = sym post.answer ∙ ap (λ (x : Added). x.refusal) same in
    let test = eq-eqb (line_refusal s l) 0 zero in
    let draft : d ≡ draft_by l.kind s.reading.draft = sym (ap (λ (x : Added). x.draft) same) ∙ post.draft_is ∙ simp test in
    let buffer : after ≡ buffer_by l.kind l.n s.reading.draft s.buffer = post.buffer_is ∙ simp test in
    read (line_taken s l) (taken_is s none zero)
    (r-is ∙ ap₂ {C = Reading} (λ (d : Draft) (n : ℕ). record { draft = d; line = n; used = 0; comment = false; refusal = 0 }) draft e)
    buffer
    refl
    (record {
      draft =
          subst (GoodDraft (line_taken s l).buffer) draft
          (subst (λ (x : List ℕ). GoodDraft x d) buffer (subst (λ (x : Added). GoodDraft after x.draft) same post.good));
      long = good.long;
      few = omega arith;
    })

-- A byte.
pub byte_stays : (s : State) (b : ℕ) → (s.reading.refusal ≡ 0 → ⊥) → fed_byte s b ≡ s
unfolding fed_byte
byte_stays s b some = simp (ne_eqb s.reading.refusal 0 some)

pub byte_ends : (s : State) (b : ℕ) → s.reading.refusal ≡ 0 → b ≡ newline → fed_byte s b ≡ ended s
unfolding fed_byte
byte_ends s b none is = simp (eq-eqb s.reading.refusal 0 none, eq-eqb b newline is)

pub byte_commented : (s : State) (b : ℕ) → s.reading.refusal ≡ 0 → (b ≡ newline → ⊥) → (s.reading.comment || eqb b hash) ≡ true
    → fed_byte s b ≡ state_of s.buffer s.held (in_comment s.reading)
unfolding fed_byte
byte_commented s b none other is = simp (eq-eqb s.reading.refusal 0 none, ne_eqb b newline other, is)

pub byte_held : (s : State) (b : ℕ) → s.reading.refusal ≡ 0 → (b ≡ newline → ⊥) → (s.reading.comment || eqb b hash) ≡ false
    → fed_byte s b ≡ holding s b
unfolding fed_byte
byte_held s b none other is = simp (eq-eqb s.reading.refusal 0 none, ne_eqb b newline other, is)

pub good_held : (s : State) (b : ℕ) → Good s → Good (holding s b)
good_held s b good = by_room (ltb s.reading.used most_line) refl
  where
    by_room : (t : Bool) → ltb s.reading.used most_line ≡ t
        → GoodReading s.buffer (cond t (set s.held s.reading.used b) s.held)
        (cond t (with_used (s.reading.used + 1) s.reading) (refused_with 102 s.reading))
    by_room true e =
        record {
          draft = good.draft;
          long = length-set s.held s.reading.used b ∙ good.long;
          few = omega (arith, ltb-true s.reading.used most_line e);
        }
    by_room false e = record { draft = good.draft; long = good.long; few = good.few }

-- A piece, from its place i on.
pub record Going (s : State) (piece : List ℕ) (buffer held : List ℕ) (r : Reading) (i : ℕ) : Type 0 where
  pub within : i ≤ length piece
  pub good : GoodReading buffer held r
  pub same : fed s piece ≡ fed (state_of buffer held r) (drop i piece)

pub going : (s : State) (piece : List ℕ) → Good s → Going s piece s.buffer s.held s.reading 0
going s piece good = record { within = omega arith; good = good; same = refl }

pub further : (s : State) (piece buffer held : List ℕ) (r : Reading) (i : ℕ) {r' : Reading} {buffer' held' : List ℕ} → i < length piece
    → Going s piece buffer held r i
    → ReadPost (fed_byte (state_of buffer held r) (get_or piece i 0)) r' buffer' held'
    → Going s piece buffer' held' r' (i + 1)
unfolding fed
further s piece buffer held r i {r'} {buffer'} {held'} more g post =
    let next = fed_byte (state_of buffer held r) (get_or piece i 0) in
    let is : state_of buffer' held' r' ≡ next = λ j. state_of (post.buffer_is j) (post.held_is j) (post.reading_is j) in
    record {
      within = omega arith;
      good = post.good;
      same =
          g.same ∙ ap (fed (state_of buffer held r)) (drop-cons piece i 0 more)
          ∙ ap₂ (λ (x : State) (k : ℕ). fed x (drop k piece)) (sym is) (sym (add-one i));
    }

pub all_read : (s : State) (piece buffer held : List ℕ) (r : Reading) (i : ℕ) → length piece ≤ i → Going s piece buffer held r i
    → ReadPost (fed s piece) r buffer held
unfolding fed
all_read s piece buffer held r i end g =
    read (state_of buffer held r) (g.same ∙ ap (fed (state_of buffer held r)) (drop_of_length-le piece end)) refl refl refl g.good

-- The answer: a file, or the line that says the refusal.
pub file_answer : (s : State) {last : Reading} {made after : List ℕ} {n : ℕ} → ReadPost (ended s) last made s.held → last.refusal ≡ 0
    → B.FinishPost last.draft made n after
    → length after ≡ length made
    → FinishPost s (record { n = n; refusal = 0 }) after
file_answer s {last} {made} {after} {n} read zero file kept =
    let short = read.good.draft.short in
    let long = read.good.draft.long in
    let long-file : n ≡ answer_length last = file.length_is ∙ simp (eq-eqb last.refusal 0 zero) in
    let file-is : after ≡ answer_in last made = file.buffer_is ∙ simp (eq-eqb last.refusal 0 zero) in
    record {
      refusal_is = sym zero ∙ ap (λ (r : Reading). r.refusal) read.reading_is;
      length_is = long-file ∙ ap answer_length read.reading_is;
      buffer_is = file-is ∙ ap₂ answer_in read.reading_is read.buffer_is;
      within = omega (arith, short, long, kept, file.length_is);
    }

pub line_answer : (s : State) {last : Reading} {made after : List ℕ} {n : ℕ} → ReadPost (ended s) last made s.held → (last.refusal ≡ 0 → ⊥)
    → Puts (refused_text last.refusal last.line) made n after
    → n ≤ most_bytes
    → length after ≡ length made
    → FinishPost s (record { n = n; refusal = last.refusal }) after
line_answer s {last} {made} {after} {n} read some line few kept =
    let long = read.good.draft.long in
    let long-line : n ≡ answer_length last = line.count ∙ simp (ne_eqb last.refusal 0 some) in
    let line-is : after ≡ answer_in last made = line.buffer_is ∙ simp (ne_eqb last.refusal 0 some) in
    record {
      refusal_is = ap (λ (r : Reading). r.refusal) read.reading_is;
      length_is = long-line ∙ ap answer_length read.reading_is;
      buffer_is = line-is ∙ ap₂ answer_in read.reading_is read.buffer_is;
      within = omega (arith, long, kept, few);
    }
