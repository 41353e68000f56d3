-- What a step of a listing does: it keeps the invariant, prints the front of what is still to be printed, and leaves fewer steps.
-- Assumes nothing.
use Prim.Native.Nat.{ℕ, suc, ◌+◌, ◌-◌, ◌*◌, ◌/◌, ◌%◌, ◌^◌, ◌≤◌, ◌<◌}
use mathlib.Core.Path.{◌≡◌, refl, sym, ap, ◌∙◌}
use mathlib.Core.Bool.{Bool, true, false, cond, true≢false}
use mathlib.Core.List.{List, [], ◌∷◌, ◌++◌, append-nil, append_assoc}
use native.Mathlib.Nat.{add-zero, sub-zero}
use native.Mathlib.Omega.{arith}
use borrow.Author.Tests.{ltb-true, ltb-false}
use lib.Dec.{ltb}
use lib.ListN.{length}
use Rattle.bench_file.specs.File.{count_at, words_before}
use Rattle.bench_file.proofs.Checking.{one_more}
use Rattle.bench_file.proofs.Reading.{sound}
use Rattle.ascii.specs.Steps.{Printed, nothing}
use Rattle.ascii.proofs.Steps.{Moves, Laws}
use Rattle.comparison.specs.declared.Place.{Place}
use Rattle.comparison.specs.declared.Stage.{Stage}
use Rattle.comparison.specs.declared.Stage.TheVariants as S
use Rattle.comparison.specs.declared.Listing.{Listing}
use Rattle.comparison.specs.Compare.{common, common_words, packets_place, words_place, count_place, field_place}
use Rattle.comparison.specs.Compare.{byte_place, each, each_one, word_places, packet_places, places, differs, differing}
use Rattle.comparison.specs.Text.{line_of, lines, last_line, refused_line}
use Rattle.comparison.specs.Listing.{standing, tell, stage_step, step_of, is_done, most_left, Both, AtCount, AtPacket, AtField, AtByte, GoodAt, Good, printer}
use Rattle.comparison.proofs.Rows.{each_more, each_none, row}

-- A choice, by its test.
by_test : {X : Type 0} (P : X → Type 0) (t : Bool) (x y : X) → (t ≡ true → P x) → (t ≡ false → P y) → P (cond t x y)
by_test P true x y here else = here refl
by_test P false x y here else = else refl

module _ (a b : List ℕ) where
  -- The places that are still to be looked at.
  abbrev row_place : ℕ → ℕ → Place
  row_place packet j = byte_place a b packet (j / 10) (j % 10)

  abbrev row_of : ℕ → List Place
  row_of packet = each_one (10 * common_words a b packet) 0 (row_place packet)

  abbrev packets_from : ℕ → List Place
  packets_from packet = each (common a b - packet) packet (packet_places a b)

  abbrev all_packets : List Place
  all_packets = each (common a b) 0 (packet_places a b)

  packets_more : (i : ℕ) → i < common a b → packets_from i ≡ each_one 7 0
      (field_place a b i) ++ (row_of i ++ packets_from (i + 1))
  packets_more i h =
      each_more (common a b) i (packet_places a b) h
      ∙ append_assoc (each_one 7 0 (field_place a b i)) (each (common_words a b i) 0 (word_places a b i))
      (packets_from (i + 1))
      ∙ ap (λ (ps : List Place). each_one 7 0 (field_place a b i) ++ (ps ++ packets_from (i + 1)))
      (row (byte_place a b i) (common_words a b i))

  packets_none : (i : ℕ) → common a b ≤ i → packets_from i ≡ []
  packets_none i h = each_none (common a b) i (packet_places a b) h

  abbrev comes_at : Listing → Stage → List Place
  comes_at l S.Packets = places a b
  comes_at l S.Words = words_place a b ∷ (each_one (common a b) 0 (count_place a b) ++ all_packets)
  comes_at l S.Counts = each_one (common a b - l.packet) l.packet (count_place a b) ++ all_packets
  comes_at l S.Packet = packets_from l.packet
  comes_at l S.Fields =
      each_one (7 - l.part) l.part (field_place a b l.packet) ++ (row_of l.packet ++ packets_from (l.packet + 1))
  comes_at l S.Bytes =
      each_one (10 * common_words a b l.packet - l.part) l.part (row_place l.packet)
      ++ packets_from (l.packet + 1)
  comes_at l S.Last = []
  comes_at l (S.Refused n file) = []
  comes_at l S.Done = []

  -- The text that is still to be printed.
  abbrev listed : List Place → ℕ → List ℕ
  listed ps count = lines (differing ps) ++ last_line (count + length (differing ps))

  abbrev rest_at : Listing → Stage → List ℕ
  rest_at l S.Packets = listed (comes_at l S.Packets) l.count
  rest_at l S.Words = listed (comes_at l S.Words) l.count
  rest_at l S.Counts = listed (comes_at l S.Counts) l.count
  rest_at l S.Packet = listed (comes_at l S.Packet) l.count
  rest_at l S.Fields = listed (comes_at l S.Fields) l.count
  rest_at l S.Bytes = listed (comes_at l S.Bytes) l.count
  rest_at l S.Last = listed [] l.count
  rest_at l (S.Refused n file) = refused_line n file
  rest_at l S.Done = []

  unfoldable pub rest_of : Listing → List ℕ
  rest_of l = rest_at l l.stage

  -- The bound of the counter, and what a step does.
  abbrev Low : Listing → Type 0
  Low l = l.count + most_left a b l ≤ 2 ^ 32

  abbrev Moved : Listing → Printed Listing → Type 0
  Moved = Moves (printer a b) rest_of (most_left a b)

  -- A place of which the line is printed, and one of which nothing is.
  told_line : (place : Place) (ps : List Place) (count : ℕ) → differs place ≡ true
      → line_of place ++ listed ps (count + 1) ≡ listed (place ∷ ps) count
  unfolding differing lines
  told_line place ps count e =
      let n : count + 1 + length (differing ps) ≡ count + suc (length (differing ps)) = omega arith in
      rw e
      (ap (λ (m : ℕ). line_of place ++ (lines (differing ps) ++ last_line m)) n
      ∙ sym (append_assoc (line_of place) (lines (differing ps)) (last_line (count + suc (length (differing ps))))))

  told_none : (place : Place) (ps : List Place) (count : ℕ) → differs place ≡ false
      → listed ps count ≡ listed (place ∷ ps) count
  unfolding differing lines
  told_none place ps count e = rw e

  -- The next listing, with any count.
  module _ (l : Listing) (s : Stage) (packet part first second : ℕ) where
    abbrev next : ℕ → Listing
    next count = standing s packet part first second count

    record Onward (ps : List Place) : Type 0 where
      rest : (count : ℕ) → rest_of (next count) ≡ listed ps count
      good : (count : ℕ) → GoodAt a b (next count) s
      less : (count : ℕ) → most_left a b (next count) < most_left a b l

    looked : (place : Place) (ps : List Place) → Low l → Onward ps → rest_of l ≡ listed (place ∷ ps) l.count
        → Moved l (tell (next l.count) place)
    looked place ps low o e =
        by_test (Moved l) (differs place) _ _
        (λ t.
        record {
          good = record { at = o.good (l.count + 1); low = omega (arith, o.less (l.count + 1)) };
          front =
              ap (λ (x : List ℕ). line_of place ++ x) (o.rest (l.count + 1)) ∙ told_line place ps l.count t ∙ sym e;
          less = λ _. o.less (l.count + 1);
        })
        (λ t.
        record {
          good = record { at = o.good l.count; low = omega (arith, o.less l.count) };
          front = o.rest l.count ∙ told_none place ps l.count t ∙ sym e;
          less = λ _. o.less l.count;
        })

    next_stage : (ps : List Place) → Low l → Onward ps → rest_of l ≡ listed ps l.count
        → Moved l (nothing (next l.count))
    next_stage ps low o e =
        record {
          good = record { at = o.good l.count; low = omega (arith, o.less l.count) };
          front = o.rest l.count ∙ sym e;
          less = λ _. o.less l.count;
        }

  abbrev at_stage : Stage → Listing → Listing
  at_stage s l = standing s l.packet l.part l.first l.second l.count

  counts : (l : Listing) → AtCount a b l → Low (at_stage S.Counts l)
      → Moved (at_stage S.Counts l) (stage_step a b l S.Counts)
  unfolding rest_of most_left words_before
  counts l g low =
      by_test (Moved (at_stage S.Counts l)) (ltb l.packet (common a b)) _ _
      (λ t.
      let h = ltb-true _ _ t in
      looked (at_stage S.Counts l) S.Counts (l.packet + 1) 0 0 0 (count_place a b l.packet)
      (each_one (common a b - (l.packet + 1)) (l.packet + 1) (count_place a b) ++ all_packets) low
      (record { rest = λ count. refl; good = λ count. record { both = g.both; here = omega arith }; less = λ count. omega arith })
      (rw (each_more (common a b) l.packet (λ (p : ℕ). count_place a b p ∷ []) h)))
      (λ t.
      let h = ltb-false _ _ t in
      next_stage (at_stage S.Counts l) S.Packet 0 0 0 0 (all_packets) low
      (record {
        rest = λ count. rw sub-zero;
        good = λ count. start_packet g.both;
        less = λ count. omega arith;
      })
      (rw (each_none (common a b) l.packet (λ (p : ℕ). count_place a b p ∷ []) h)))
    where
      start_packet : {count : ℕ} → Both a b → AtPacket a b (standing S.Packet 0 0 0 0 count)
      start_packet both = record { both = both; here = omega arith; one = refl; two = refl }

  packet : (l : Listing) → AtPacket a b l → Low (at_stage S.Packet l)
      → Moved (at_stage S.Packet l) (stage_step a b l S.Packet)
  unfolding rest_of most_left
  packet l g low =
      by_test (Moved (at_stage S.Packet l)) (ltb l.packet (common a b)) _ _
      (λ t.
      let h = ltb-true _ _ t in
      next_stage (at_stage S.Packet l) S.Fields l.packet 0 l.first l.second
      (each_one 7 0 (field_place a b l.packet) ++ (row_of l.packet ++ packets_from (l.packet + 1))) low
      (record {
        rest = λ count. refl;
        good =
            λ count. record { at = record { both = g.both; here = g.here; one = g.one; two = g.two }; within = h; part = omega arith };
        less = λ count. omega arith;
      })
      (rw (packets_more l.packet h)))
      (λ t.
      let h = ltb-false _ _ t in
      next_stage (at_stage S.Packet l) S.Last 0 0 0 0 [] low
      (record { rest = λ count. refl; good = λ count. tt; less = λ count. omega arith })
      (rw (packets_none l.packet h)))

  field_moves : (l : Listing) → AtField a b l → Low (at_stage S.Fields l)
      → Moved (at_stage S.Fields l) (stage_step a b l S.Fields)
  unfolding rest_of most_left
  field_moves l g low =
      by_test (Moved (at_stage S.Fields l)) (ltb l.part 7) _ _
      (λ t.
      let h = ltb-true _ _ t in
      looked (at_stage S.Fields l) S.Fields l.packet (l.part + 1) l.first l.second
      (field_place a b l.packet l.part)
      (each_one (7 - (l.part + 1)) (l.part + 1)
      (field_place a b l.packet) ++ (row_of l.packet ++ packets_from (l.packet + 1))) low
      (record {
        rest = λ count. refl;
        good =
            λ count. record {
              at = record { both = g.at.both; here = g.at.here; one = g.at.one; two = g.at.two };
              within = g.within;
              part = omega arith;
            };
        less = λ count. omega (arith, g.within);
      })
      (rw (each_more 7 l.part (λ (i : ℕ). field_place a b l.packet i ∷ []) h)))
      (λ t.
      let h = ltb-false _ _ t in
      next_stage (at_stage S.Fields l) S.Bytes l.packet 0 l.first l.second
      (row_of l.packet ++ packets_from (l.packet + 1)) low
      (record {
        rest = λ count. rw sub-zero;
        good =
            λ count. record {
              at = record { both = g.at.both; here = g.at.here; one = g.at.one; two = g.at.two };
              within = g.within;
              part = omega arith;
            };
        less = λ count. omega (arith, g.within, g.part);
      })
      (rw (each_none 7 l.part (λ (i : ℕ). field_place a b l.packet i ∷ []) h)))

  byte_moves : (l : Listing) → AtByte a b l → Low (at_stage S.Bytes l)
      → Moved (at_stage S.Bytes l) (stage_step a b l S.Bytes)
  unfolding rest_of most_left
  byte_moves l g low =
      let sum = one_more a l.packet in
      let sum' = one_more b l.packet in
      let few = (sound a g.at.both.one).count l.packet (omega (arith, g.within)) in
      by_test (Moved (at_stage S.Bytes l)) (ltb l.part (10 * common_words a b l.packet)) _ _
      (λ t.
      let h = ltb-true _ _ t in
      looked (at_stage S.Bytes l) S.Bytes l.packet (l.part + 1) l.first l.second
      (row_place l.packet l.part)
      (each_one (10 * common_words a b l.packet - (l.part + 1)) (l.part + 1) (row_place l.packet)
      ++ packets_from (l.packet + 1)) low
      (record {
        rest = λ count. refl;
        good =
            λ count. record {
              at = record { both = g.at.both; here = g.at.here; one = g.at.one; two = g.at.two };
              within = g.within;
              part = omega arith;
            };
        less = λ count. omega (arith, g.within, few);
      })
      (rw (each_more (10 * common_words a b l.packet) l.part (λ (j : ℕ). row_place l.packet j ∷ []) h)))
      (λ t.
      let h = ltb-false _ _ t in
      next_stage (at_stage S.Bytes l) S.Packet (l.packet + 1) 0 (l.first + count_at a l.packet)
      (l.second + count_at b l.packet) (packets_from (l.packet + 1)) low
      (record {
        rest = λ count. refl;
        good =
            λ count. record {
              both = g.at.both;
              here = omega (arith, g.within);
              one = omega (arith, g.at.one, sum);
              two = omega (
                arith,
                g.at.two,
                sum',
              );
            };
        less = λ count. omega (arith, g.within, g.part, few);
      })
      (rw (each_none (10 * common_words a b l.packet) l.part (λ (j : ℕ). row_place l.packet j ∷ []) h)))

  last : (count : ℕ) → last_line count ++ [] ≡ listed [] count
  unfolding differing lines
  last count = rw (append-nil, add-zero)

  -- The step by the stage: every listing is one at its own stage.
  stage : (s : Stage) (l : Listing) → Good a b (at_stage s l) → Moved (at_stage s l) (step_of a b (at_stage s l))
  unfolding rest_of most_left step_of places
  stage S.Packets l g =
      looked (at_stage S.Packets l) S.Words 0 0 0 0 (packets_place a b) _ g.low
      (record { rest = λ count. refl; good = λ count. g.at; less = λ count. omega arith })
      refl
  stage S.Words l g =
      looked (at_stage S.Words l) S.Counts 0 0 0 0 (words_place a b) _ g.low
      (record { rest = λ count. rw sub-zero; good = λ count. record { both = g.at; here = omega arith }; less = λ count. omega arith })
      refl
  stage S.Counts l g = counts (at_stage S.Counts l) g.at g.low
  stage S.Packet l g = packet (at_stage S.Packet l) g.at g.low
  stage S.Fields l g = field_moves (at_stage S.Fields l) g.at g.low
  stage S.Bytes l g = byte_moves (at_stage S.Bytes l) g.at g.low
  stage S.Last l g =
      record { good = record { at = tt; low = omega (arith, g.low) }; front = last l.count; less = λ _. omega arith }
  stage (S.Refused n file) l g =
      record { good = record { at = tt; low = omega (arith, g.low) }; front = append-nil (refused_line n file); less = λ _. omega arith }
  stage S.Done l g = record { good = g; front = refl; less = λ e. absurd (true≢false e) }

  -- There is one stage of a listing that is done.
  is_done_lem : (s : Stage) → is_done s ≡ true → s ≡ S.Done
  is_done_lem S.Packets e = cc
  is_done_lem S.Words e = cc
  is_done_lem S.Counts e = cc
  is_done_lem S.Packet e = cc
  is_done_lem S.Fields e = cc
  is_done_lem S.Bytes e = cc
  is_done_lem S.Last e = cc
  is_done_lem (S.Refused n file) e = cc
  is_done_lem S.Done e = refl

  pub laws : Laws (printer a b) rest_of (most_left a b)
  unfolding rest_of
  laws = record { moves = λ l g. stage l.stage l g; none = λ l e. rw (is_done_lem l.stage e) }

  pub count_low : (l : Listing) → Good a b l → is_done l.stage ≡ false → l.count < 2 ^ 32
  count_low l g e = omega (arith, (laws.moves l g).less e, g.low)
