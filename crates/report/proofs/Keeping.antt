-- What a step of a report does: it keeps the invariant, prints the front of what is still to be printed, and leaves fewer steps.
-- Assumes nothing.
use Prim.Native.Nat.{ℕ, ◌+◌, ◌≤◌}
use mathlib.Core.Path.{◌≡◌, refl, sym, ap}
use Rattle.std.proofs.Common.{Option, Some, None}
use mathlib.Core.Bool.{true, true≢false}
use mathlib.Core.List.{List, [], ◌++◌, append-nil, append_assoc}
use native.Mathlib.Nat.{add-zero, add_assoc}
use native.Mathlib.Omega.{arith}
use lib.ListN.{length, length-append}
use Rattle.words.specs.Word.{word_of}
use Rattle.packet.specs.declared.Packet.{Packet}
use Rattle.records.specs.Records.{Record, most_records}
use Rattle.cdp_running.specs.declared.Tracker.{Tracker}
use Rattle.cdp_running.specs.Told.{PacketAnswer}
use Rattle.cdp_running.specs.Tracker.{Good, packet_call}
use Rattle.cdp_running.specs.Word.{Outcome, taken, refused, taken_of, word_call, word_answer, records_in}
use Rattle.cdp_running.proofs.Good.{good_accept, good_next}
use Rattle.cdp_running.proofs.Outcome.{packet_cases, taken_admitted, next_is, records_are}
use Rattle.cdp_running.proofs.Fine.{few_records}
use Rattle.bench_file.specs.declared.Found.{Found}
use Rattle.bench_file.specs.declared.Found.TheVariants as F
use Rattle.bench_file.specs.File.{bytes_at}
use Rattle.bench_file.specs.Reader.{next_found}
use Rattle.bench_file.proofs.Reading.{sound, packet_given, word_given, end_given}
use Rattle.ascii.specs.Steps.{Printed}
use Rattle.ascii.proofs.Steps.{Moves, Laws}
use Rattle.report.specs.declared.Stage.{Stage}
use Rattle.report.specs.declared.Stage.TheVariants as S
use Rattle.report.specs.declared.Report.{Report}
use Rattle.report.specs.Text.{lines, heading, records_line, refused_line}
use Rattle.report.specs.File.{records_from}
use Rattle.report.specs.Report.{to_come, at_stage, item_step, step_of, is_done, steps_left, GoodReading, GoodReport, printer}
use Rattle.report.proofs.Lines.{lines_append}

-- A packet call and a word call keep the tracker good, and a word gives at most six records.
good_packet : (t : Tracker) (p : Packet) → Good t → Good (packet_call t p).tracker
good_packet t p g = packet_cases (λ (r : PacketAnswer). Good r.tracker) t p (good_accept t p g) g g

good_word : (t : Tracker) (bytes : List ℕ) → Good t → Good (word_answer t (word_call t bytes most_records)).tracker
    × (length (records_in (word_call t bytes most_records)) ≤ most_records)
unfolding taken_of
good_word t bytes g = at (word_call t bytes most_records) refl
  where
    at : (o : Outcome) → word_call t bytes most_records ≡ o → Good (word_answer t o).tracker
        × (length (records_in o) ≤ most_records)
    at (taken x) e =
        let a = taken_admitted t bytes most_records e in (
          rw (next_is t bytes most_records e) (good_next t (word_of bytes) g a.accepted a.low),
          omega (arith, ap length (records_are t bytes most_records e), few_records t (word_of bytes)),
        )
    at (refused n) e = (g, omega arith)

-- The text that is still to be printed.
abbrev lines_of : List Record → ℕ → List ℕ
lines_of rs count = lines rs ++ records_line (count + length rs)

abbrev rest_at : List ℕ → Report → Stage → List ℕ
rest_at file r S.Heading = heading ++ lines_of (records_from r.tracker (to_come file r)) r.count
rest_at file r S.Items = lines_of (records_from r.tracker (to_come file r)) r.count
rest_at file r (S.Refused n) = refused_line n
rest_at file r S.Done = []

unfoldable pub rest_of : List ℕ → Report → List ℕ
rest_of file r = rest_at file r r.stage

-- There is one stage of a report that is done.
is_done_lem : (s : Stage) → is_done s ≡ true → s ≡ S.Done
is_done_lem S.Heading e = cc
is_done_lem S.Items e = cc
is_done_lem (S.Refused n) e = cc
is_done_lem S.Done e = refl

module _ (file : List ℕ) where
  -- What a step does.
  abbrev Moved : Report → Printed Report → Type 0
  Moved = Moves (printer file) (rest_of file) (steps_left file)

  -- Of a report that is done nothing is asked but a good tracker.
  all_done : (r : Report) → Good r.tracker → GoodReport file (at_stage S.Done r)
  all_done r g = record { tracker = g; going = λ h. absurd (true≢false (sym h)) }

  -- The step by what the reader found.
  item : (r : Report) → Good r.tracker → GoodReading file r → (x : Option Found)
      → next_found file r.packet r.word r.left ≡ x
      → Moved (at_stage S.Items r) (item_step file r x)
  unfolding rest_of steps_left records_from lines
  item r g reads (Some (F.Packet p words)) e =
      let given = packet_given (sound file reads.checked) reads.place e in
      record {
        good =
            record { tracker = good_packet r.tracker p g; going = λ _. record { checked = reads.checked; place = given.next; count = reads.count } };
        front = rw given.comes;
        less = λ _. omega (arith, ap length given.comes);
      }
  item r g reads (Some (F.Word at)) e =
      let given = word_given (sound file reads.checked) reads.place e in
      let kept = good_word r.tracker (bytes_at file at) g in
      record {
        good =
            record { tracker = kept.0; going = λ _. record { checked = reads.checked; place = given.next; count = rw given.one_on (omega arith) } };
        front = simp (given.comes, lines_append, length-append, append_assoc, add_assoc);
        less = λ _. omega (arith, ap length given.comes);
      }
  item r g reads None e =
      let none = end_given (sound file reads.checked) reads.place e in
      record { good = all_done r g; front = rw (none, append-nil, add-zero); less = λ _. omega (arith, ap length none) }

  -- The step by the stage: every report is one at its own stage.
  stage : (s : Stage) (r : Report) → GoodReport file (at_stage s r) → Moved (at_stage s r) (step_of file (at_stage s r))
  unfolding rest_of steps_left step_of
  stage S.Heading r g =
      let reads = g.going refl in
      record {
        good =
            record { tracker = g.tracker; going = λ _. record { checked = reads.checked; place = reads.place; count = reads.count } };
        front = refl;
        less = λ _. omega arith;
      }
  stage S.Items r g = item (at_stage S.Items r) g.tracker (g.going refl) _ refl
  stage (S.Refused n) r g =
      record { good = all_done r g.tracker; front = append-nil (refused_line n); less = λ _. omega arith }
  stage S.Done r g = record { good = g; front = refl; less = λ e. absurd (true≢false e) }

  pub laws : Laws (printer file) (rest_of file) (steps_left file)
  unfolding rest_of
  laws = record { moves = λ r g. stage r.stage r g; none = λ r e. rw (is_done_lem r.stage e) }
