-- Issue 25, how a text is read: byte by byte, in pieces of any length. What the reader holds after each byte; that this comes to the outcome of the whole
-- text is proved (proofs/Answered.antt).
-- Assumes nothing.
use Rattle.std.specs.Prelude.{ℕ, suc, ◌+◌, ◌^◌, ◌-◌, ◌≤◌, ◌<◌, ◌≡◌, true, false, cond, ◌||◌, List, [], ◌∷◌, ◌++◌, ltb, eqb, length, take, set}
use Rattle.words.specs.Lists.{over}
use Rattle.ascii.specs.Text.{newline}
use Rattle.bench_writer.specs.declared.Draft.{Draft}
use Rattle.bench_writer.specs.Content.{header}
use Rattle.bench_writer.specs.Draft.{size, no_draft, put_at, GoodDraft}
use Rattle.script.specs.declared.Reading.{Reading}
use Rattle.script.specs.declared.Answer.{Answer}
use Rattle.script.specs.Line.{Line, line_of}
use Rattle.script.specs.Taking.{refused_line, refusal_by, draft_by, buffer_by}
use Rattle.script.specs.Outcome.{hash, most_line, refused_text}

-- The two lent buffers, the file's and the line's, and how far the text was read.
pub record State : Type 0 where
  pub buffer : List ℕ
  pub held : List ℕ
  pub reading : Reading

abbrev pub state_of : List ℕ → List ℕ → Reading → State
state_of buffer held r = record { buffer = buffer; held = held; reading = r }

-- Nothing was read yet.
abbrev pub begun : Reading
begun = record { draft = no_draft; line = 1; used = 0; comment = false; refusal = 0 }

-- The invariant of a reading and its two buffers.
pub record GoodReading (buffer held : List ℕ) (r : Reading) : Type 0 where
  pub draft : GoodDraft buffer r.draft
  pub long : length held ≡ most_line
  pub few : r.used ≤ most_line

-- The line's number counts up to the last number, and stays there. `answered` is of texts that have fewer bytes.
abbrev pub last_line : ℕ
last_line = 2 ^ 64 - 1

abbrev pub next_line : ℕ → ℕ
next_line n = cond (ltb n last_line) (n + 1) n

-- The line that is held.
abbrev pub held_line : State → Line
held_line s = line_of (take s.reading.used s.held)

-- A line that is refused ends the reading; after another one the next line begins.
abbrev pub refused_with : ℕ → Reading → Reading
refused_with n r = record { draft = r.draft; line = r.line; used = r.used; comment = r.comment; refusal = n }

abbrev pub on_next_line : Draft → Reading → Reading
on_next_line d r = record { draft = d; line = next_line r.line; used = 0; comment = false; refusal = 0 }

abbrev pub line_refusal : State → Line → ℕ
line_refusal s l = refusal_by l.kind l.n s.reading.draft

abbrev pub line_taken : State → Line → State
line_taken s l =
    state_of (buffer_by l.kind l.n s.reading.draft s.buffer) s.held (on_next_line (draft_by l.kind s.reading.draft) s.reading)

abbrev pub line_refused : State → Line → State
line_refused s l = state_of s.buffer s.held (refused_with (line_refusal s l) s.reading)

-- A line ends; after a refusal nothing changes.
unfoldable pub ended : State → State
ended s =
    cond (eqb s.reading.refusal 0)
    (cond (eqb (line_refusal s (held_line s)) 0) (line_taken s (held_line s)) (line_refused s (held_line s)))
    s

-- A byte of a line is held. One that has no room makes the line one that can't be read, whatever follows. A comment is not held: "a comment may be of any
-- length".
abbrev pub with_used : ℕ → Reading → Reading
with_used n r = record { draft = r.draft; line = r.line; used = n; comment = r.comment; refusal = r.refusal }

abbrev pub reading_after : Reading → Reading
reading_after r = cond (ltb r.used most_line) (with_used (r.used + 1) r) (refused_with refused_line r)

abbrev pub held_after : Reading → ℕ → List ℕ → List ℕ
held_after r b held = cond (ltb r.used most_line) (set held r.used b) held

abbrev pub holding : State → ℕ → State
holding s b = state_of s.buffer (held_after s.reading b s.held) (reading_after s.reading)

abbrev pub in_comment : Reading → Reading
in_comment r = record { draft = r.draft; line = r.line; used = r.used; comment = true; refusal = r.refusal }

-- A byte more; after a refusal nothing changes.
unfoldable pub fed_byte : State → ℕ → State
fed_byte s b =
    cond (eqb s.reading.refusal 0)
    (cond (eqb b newline) (ended s)
    (cond (s.reading.comment || eqb b hash) (state_of s.buffer s.held (in_comment s.reading)) (holding s b)))
    s

unfoldable pub fed : State → List ℕ → State
fed s [] = s
fed s (b ∷ bs) = fed (fed_byte s b) bs

-- A text comes in pieces: each goes on where the one before it ended.
unfoldable pub fed_all : State → List (List ℕ) → State
fed_all s [] = s
fed_all s (p ∷ ps) = fed_all (fed s p) ps

unfoldable pub whole : List (List ℕ) → List ℕ
whole [] = []
whole (p ∷ ps) = p ++ whole ps

-- What a caller has read that began with nothing: which pieces came, and that they have fewer bytes than there are numbers for lines.
pub record HasRead (buffer₀ held₀ buffer held : List ℕ) (r : Reading) : Type 0 where
  pub pieces : List (List ℕ)
  pub state_is : state_of buffer held r ≡ fed_all (state_of buffer₀ held₀ begun) pieces
  pub short : suc (length (whole pieces)) < last_line
  pub good : GoodReading buffer held r

-- What a call gives: the state that is said, and it is good.
pub record ReadPost (next : State) (r : Reading) (buffer held : List ℕ) : Type 0 where
  pub reading_is : r ≡ next.reading
  pub buffer_is : buffer ≡ next.buffer
  pub held_is : held ≡ next.held
  pub good : GoodReading buffer held r

-- The end of the text ends its last line. What stands at the front of the buffer then: the file, or the line that says the refusal.
abbrev pub answer_length : Reading → ℕ
answer_length r = cond (eqb r.refusal 0) (size r.draft) (length (refused_text r.refusal r.line))

abbrev pub answer_in : Reading → List ℕ → List ℕ
answer_in r buffer =
    cond (eqb r.refusal 0) (put_at 0 (header r.draft.packets r.draft.words) buffer) (over (refused_text r.refusal r.line) buffer)

pub record FinishPost (s : State) (r : Answer) (buffer : List ℕ) : Type 0 where
  pub refusal_is : r.refusal ≡ (ended s).reading.refusal
  pub length_is : r.n ≡ answer_length (ended s).reading
  pub buffer_is : buffer ≡ answer_in (ended s).reading (ended s).buffer
  pub within : r.n ≤ length buffer
