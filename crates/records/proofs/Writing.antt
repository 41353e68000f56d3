-- The loop of `write`: what stands in the buffer after the rows passed, over lists alone.
-- Assumes nothing.
use Rattle.std.proofs.Common.{
  ℕ,
  ◌+◌,
  ◌-◌,
  ◌*◌,
  ◌≤◌,
  ◌<◌,
  ◌≡◌,
  refl,
  sym,
  ap,
  ◌∙◌,
  true,
  false,
  List,
  [],
  ◌∷◌,
  ◌++◌,
  append-nil,
  length,
  get_or,
  take,
  drop,
  length-append,
  length-drop,
  take-append-drop,
  take_all,
  Ok,
  Err,
  arith,
}
use borrow.Author.Tests.{lt-ltb, le-ltb}
use borrow.Rule.Slice.PartMut.{put_mid, mid_of}
use Rattle.refusals.specs.declared.Refusal.TheVariants.{Room}
use Rattle.records.specs.declared.Row.{Row}
use Rattle.words.specs.Lists.{over}
use Rattle.records.specs.Records.{Record, record_at, none, numbers, flat, given, count, record_width, room, WritePost}
use Rattle.records.proofs.Given.{counted, given_append, given_more, flat_append, length_flat}
use Rattle.words.proofs.Buffer.{mid_tail, lent_on, length_over}

-- After i rows: the records of those stand at the buffer's front, and all of them have room.
pub record Going (position packet : ℕ) (rows : List Row) (out₀ out : List ℕ) (used i : ℕ) : Type 0 where
  pub passed : i ≤ length rows
  pub used_is : used ≡ length (flat (given position packet (take i rows)))
  pub buffer_is : out ≡ over (flat (given position packet (take i rows))) out₀
  pub same : length out ≡ length out₀
  pub fits : record_width * length (given position packet rows) ≤ length out₀

pub begins : (position packet : ℕ) (rows : List Row) (out : List ℕ) → record_width * length (given position packet rows) ≤ length out
    → Going position packet rows out out 0 0
unfolding given flat
begins position packet rows out h = record { passed = omega arith; used_is = refl; buffer_is = refl; same = refl; fits = h }

-- The rows passed give no more records than all rows.
prefix : (position packet : ℕ) (rows : List Row) (i : ℕ) → length (given position packet (take i rows)) ≤ length (given position packet rows)
prefix position packet rows i =
    let whole : given position packet rows ≡ given position packet (take i rows) ++ given position packet (drop i rows) =
    ap (given position packet) (sym (take-append-drop i rows)) ∙ given_append position packet (take i rows) (drop i rows) in
    omega (arith, ap length whole, length-append (given position packet (take i rows)) (given position packet (drop i rows)))

module _ {position packet : ℕ} {rows : List Row} {out₀ out : List ℕ} {used i : ℕ} (g : Going position packet rows out₀ out used i)
    (lt : i < length rows) where
  -- A row that is off.
  pub skip : {out' : List ℕ} {used' : ℕ} → (get_or rows i none).on ≡ false → out' ≡ out → used' ≡ used
      → Going position packet rows out₀ out' used' (i + 1)
  skip off p q =
      let same-given : given position packet (take (i + 1) rows) ≡ given position packet (take i rows) =
      given_more position packet rows i none lt ∙ simp off (append-nil (given position packet (take i rows))) in
      record {
        passed = omega arith;
        used_is = q ∙ g.used_is ∙ ap (λ (l : List Record). length (flat l)) (sym same-given);
        buffer_is = p ∙ g.buffer_is ∙ ap (λ (l : List Record). over (flat l) out₀) (sym same-given);
        same = ap length p ∙ g.same;
        fits = g.fits;
      }

  module _ (on : (get_or rows i none).on ≡ true) where
    longer : given position packet (take (i + 1) rows) ≡ given position packet
        (take i rows) ++ (record_at position packet (get_or rows i none) ∷ [])
    longer = simp on at (given_more position packet rows i none lt)

    longer_flat : flat (given position packet (take (i + 1) rows)) ≡ flat (given position packet (take i rows))
        ++ numbers (record_at position packet (get_or rows i none))
    unfolding flat
    longer_flat =
        ap flat longer ∙ flat_append (given position packet (take i rows)) (record_at position packet (get_or rows i none) ∷ [])

    -- A row that is on has room.
    pub has_room : used + record_width ≤ length out
    has_room =
        let before = length_flat (given position packet (take i rows)) in
        let step : length (given position packet (take (i + 1) rows)) ≡ length (given position packet (take i rows)) + 1 =
        ap length longer ∙ length-append (given position packet (take i rows)) (record_at position packet (get_or rows i none) ∷ []) in
        omega (arith, prefix position packet rows (i + 1), g.fits, g.same, g.used_is)

    -- Its record is written at the front of the tail that is lent.
    pub more : {y out' : List ℕ} {used' : ℕ}
        → y ≡ over (numbers (record_at position packet (get_or rows i none))) (mid_of used (length out - used) out)
        → out' ≡ put_mid used (length out - used) out y
        → used' ≡ used + record_width
        → Going position packet rows out₀ out' used' (i + 1)
    more {y} e p q =
        let was = given position packet (take i rows) in
        let here = numbers (record_at position packet (get_or rows i none)) in
        let long = ap length longer_flat ∙ length-append (flat was) here in
        let is : _ ≡ over (flat (given position packet (take (i + 1) rows))) out₀ =
        p ∙ lent_on used (flat was) here out₀ out y g.used_is g.buffer_is e
        ∙ ap (λ (l : List ℕ). over l out₀) (sym longer_flat) in
        record {
          passed = omega arith;
          used_is = omega (arith, g.used_is, q, long);
          buffer_is = is;
          same =
              ap length is ∙ length_over (flat (given position packet (take (i + 1) rows))) out₀
              (omega (arith, long, has_room, g.used_is, g.same));
          fits = g.fits;
        }

-- A tail is as long as what is left.
pub tail_long : (a n : ℕ) (d : List ℕ) → a + n ≤ length d → n ≤ length (mid_of a (length d - a) d)
tail_long a n d h = rw (mid_tail a d) (simp length-drop (omega arith))

-- The records exceed the room: the buffer stays.
pub refused : (position packet : ℕ) (rows : List Row) (out : List ℕ) → length out < record_width * count rows
    → WritePost position packet rows out (Err Room) out
refused position packet rows out h =
    let e = lt-ltb (room out) (length (given position packet rows)) (omega (arith, counted position packet rows)) in
    record { answer = simp e; number = simp e; value = simp e; buffer_is = simp e }

-- After all rows.
pub written : (position packet : ℕ) (rows : List Row) (out₀ out : List ℕ) (used i n : ℕ) → Going position packet rows out₀ out used i
    → length rows ≤ i → n ≡ count rows
    → record_width * count rows ≤ length out₀ → WritePost position packet rows out₀ (Ok n) out
written position packet rows out₀ out used i n g le e h =
    let c = counted position packet rows in
    let fits = le-ltb (room out₀) (length (given position packet rows)) (omega arith) in
    record {
      answer = simp fits (ap Ok (e ∙ sym c));
      number = simp fits;
      value = simp fits (e ∙ sym c);
      buffer_is =
          simp fits (g.buffer_is ∙ ap (λ (l : List Row). over (flat (given position packet l)) out₀) (take_all i rows le));
    }
