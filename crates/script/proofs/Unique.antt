-- Uniqueness: the contracts that are records determine the answer and the lent buffers (the others are equations).
-- Assumes nothing.
use Rattle.std.proofs.Common.{ℕ, ◌≡◌, List, Result}
use Rattle.refusals.specs.declared.Refusal.{Refusal}
use Rattle.words.proofs.Unique.{unique}
use Rattle.writer.specs.declared.WordKind.{WordKind}
use Rattle.writer.specs.Write.{WritePost}
use Rattle.writer.proofs.Unique.{written_unique}
use Rattle.bench_writer.specs.declared.Draft.{Draft}
use Rattle.bench_writer.proofs.Unique.{same_told, added_unique}
use Rattle.script.specs.declared.Reading.{Reading}
use Rattle.script.specs.declared.Answer.{Answer}
use Rattle.script.specs.Asked.{asked_of}
use Rattle.script.specs.Line.{Line}
use Rattle.script.specs.Taking.{TakePost}
use Rattle.script.specs.Feeding.{State, ReadPost, FinishPost}

pub write_unique : (k : WordKind) (n : List ℕ) {slice after after' : List ℕ} {r r' : ℕ}
    → WritePost (asked_of k n).fits (asked_of k n).bytes slice r after
    → WritePost (asked_of k n).fits (asked_of k n).bytes slice r' after'
    → (r ≡ r') × (after ≡ after')
write_unique k n a b = written_unique a b

pub take_unique : (l : Line) (d : Draft) (buffer : List ℕ) {r r' : Result Draft Refusal} {after after' : List ℕ} → TakePost l d buffer r after
    → TakePost l d buffer r' after'
    → (r ≡ r') × (after ≡ after')
take_unique l d buffer {r} {r'} a b = let both = added_unique a b in (same_told d r r' both.0, both.1)

pub read_unique : {next : State} {r r' : Reading} {buffer buffer' held held' : List ℕ} → ReadPost next r buffer held
    → ReadPost next r' buffer' held'
    → (r ≡ r') × ((buffer ≡ buffer') × (held ≡ held'))
read_unique a b =
    (unique a.reading_is b.reading_is, (unique a.buffer_is b.buffer_is, unique a.held_is b.held_is))

pub finish_unique : {s : State} {r r' : Answer} {after after' : List ℕ} → FinishPost s r after → FinishPost s r' after'
    → (r ≡ r') × (after ≡ after')
finish_unique a b =
    let refusals = unique a.refusal_is b.refusal_is in
    let lengths = unique a.length_is b.length_is in
    (λ i. record { n = lengths i; refusal = refusals i }, unique a.buffer_is b.buffer_is)
