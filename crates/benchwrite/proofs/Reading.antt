-- What the reads of a text come to: pieces, and fewer bytes in all than there are numbers for lines.
-- Assumes nothing.
use Rattle.std.proofs.Common.{ℕ, ◌+◌, ◌*◌, ◌≤◌, ◌≡◌, sym, ap, ◌∙◌, subst, List, [], ◌∷◌, ◌++◌, length, length-append, arith}
use Rattle.bench_file.specs.File.{most_bytes}
use Rattle.bench_writer.proofs.Holding.{start_holds, holds_good}
use Rattle.script.specs.declared.Reading.{Reading}
use Rattle.script.specs.Outcome.{most_line}
use Rattle.script.specs.Feeding.{State, state_of, begun, GoodReading, fed, fed_all, whole, HasRead, ReadPost}
use Rattle.script.proofs.Pieces.{fed_last, whole_last}

-- The bytes of a read, and the reads of a text.
abbrev pub piece_bytes : ℕ
piece_bytes = 512

abbrev pub most_reads : ℕ
most_reads = 18014398509481983

-- After so many reads.
pub record Going (buffer₀ held₀ buffer held : List ℕ) (r : Reading) (reads : ℕ) : Type 0 where
  pub pieces : List (List ℕ)
  pub state_is : state_of buffer held r ≡ fed_all (state_of buffer₀ held₀ begun) pieces
  pub few : length (whole pieces) ≤ piece_bytes * reads
  pub good : GoodReading buffer held r

pub going : (buffer held : List ℕ) {r : Reading} → length buffer ≡ most_bytes → length held ≡ most_line → r ≡ begun
    → Going buffer held buffer held r 0
unfolding whole fed_all
going buffer held long long-held e =
    record {
      pieces = [];
      state_is = ap (state_of buffer held) e;
      few = omega arith;
      good =
          subst (GoodReading buffer held) (sym e)
          (record { draft = holds_good (start_holds buffer long); long = long-held; few = omega arith });
    }

pub one_more : {buffer₀ held₀ buffer held : List ℕ} {r : Reading} {reads : ℕ} (piece : List ℕ) {r' : Reading} {buffer' held' : List ℕ}
    → Going buffer₀ held₀ buffer held r reads
    → length piece ≤ piece_bytes
    → ReadPost (fed (state_of buffer held r) piece) r' buffer' held'
    → Going buffer₀ held₀ buffer' held' r' (reads + 1)
one_more {buffer₀} {held₀} piece g short post =
    let is : state_of _ _ _ ≡ fed (state_of _ _ _) piece = λ j. state_of (post.buffer_is j) (post.held_is j) (post.reading_is j) in
    let few = g.few in
    record {
      pieces = g.pieces ++ (piece ∷ []);
      state_is = is ∙ ap (λ (x : State). fed x piece) g.state_is ∙ sym (fed_last (state_of buffer₀ held₀ begun) g.pieces piece);
      few = omega (arith, few, short, ap (λ (l : List ℕ). length l) (whole_last g.pieces piece) ∙ length-append (whole g.pieces) piece);
      good = post.good;
    }

pub read : {buffer₀ held₀ buffer held : List ℕ} {r : Reading} {reads : ℕ} → Going buffer₀ held₀ buffer held r reads → reads ≤ most_reads
    → HasRead buffer₀ held₀ buffer held r
read g most = record { pieces = g.pieces; state_is = g.state_is; short = omega (arith, g.few, most); good = g.good }
