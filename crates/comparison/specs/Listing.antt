-- A listing on the way: what each step prints.
-- Assumes nothing.
use Rattle.std.specs.Prelude.{ℕ, ◌+◌, ◌-◌, ◌*◌, ◌/◌, ◌%◌, ◌^◌, ◌≤◌, ◌<◌, ◌≡◌, Bool, true, false, cond, List, ltb, eqb}
use Rattle.words.specs.Word.{word_bytes}
use Rattle.bench_file.specs.File.{count_at, words_before, check_of}
use Rattle.ascii.specs.Steps.{Printed, nothing, Printer}
use Rattle.comparison.specs.declared.Place.{Place}
use Rattle.comparison.specs.declared.Stage.{Stage}
use Rattle.comparison.specs.declared.Stage.TheVariants as S
use Rattle.comparison.specs.declared.Listing.{Listing}
use Rattle.comparison.specs.Compare.{refusal_of, common, common_words, fields, packets_place, words_place, count_place, field_place, byte_place, differs}
use Rattle.comparison.specs.Text.{line_of, last_line, refused_line, most_printed}

abbrev pub standing : Stage → ℕ → ℕ → ℕ → ℕ → ℕ → Listing
standing stage packet part first second count =
    record { stage = stage; packet = packet; part = part; first = first; second = second; count = count }

-- The start: both files were checked, and nothing is printed yet.
abbrev pub first_stage : ℕ → ℕ → Stage
first_stage first second = cond (eqb first 0) (cond (eqb second 0) S.Packets (S.Refused second 1)) (S.Refused first 0)

unfoldable pub start_listing : List ℕ → List ℕ → Listing
start_listing a b = standing (first_stage (refusal_of a) (refusal_of b)) 0 0 0 0 0

abbrev pub done_listing : ℕ → Listing
done_listing count = standing S.Done 0 0 0 0 count

-- A place is looked at: where its numbers differ, its line is printed and counted.
abbrev pub counted : ℕ → Listing → Listing
counted n l = standing l.stage l.packet l.part l.first l.second (l.count + n)

abbrev pub tell : Listing → Place → Printed Listing
tell next place = cond (differs place) (record { next = counted 1 next; text = line_of place }) (nothing next)

-- The steps, stage by stage. The bytes of a packet's words are passed in one row: byte j of them is byte j % 10 of word j / 10.
abbrev pub packets_step : List ℕ → List ℕ → Listing → Printed Listing
packets_step a b l = tell (standing S.Words 0 0 0 0 l.count) (packets_place a b)

abbrev pub words_step : List ℕ → List ℕ → Listing → Printed Listing
words_step a b l = tell (standing S.Counts 0 0 0 0 l.count) (words_place a b)

abbrev pub counts_step : List ℕ → List ℕ → Listing → Printed Listing
counts_step a b l =
    cond (ltb l.packet (common a b))
    (tell (standing S.Counts (l.packet + 1) 0 0 0 l.count) (count_place a b l.packet))
    (nothing (standing S.Packet 0 0 0 0 l.count))

abbrev pub packet_step : List ℕ → List ℕ → Listing → Printed Listing
packet_step a b l =
    cond (ltb l.packet (common a b))
    (nothing (standing S.Fields l.packet 0 l.first l.second l.count))
    (nothing (standing S.Last 0 0 0 0 l.count))

abbrev pub fields_step : List ℕ → List ℕ → Listing → Printed Listing
fields_step a b l =
    cond (ltb l.part fields)
    (tell (standing S.Fields l.packet (l.part + 1) l.first l.second l.count) (field_place a b l.packet l.part))
    (nothing (standing S.Bytes l.packet 0 l.first l.second l.count))

abbrev pub bytes_step : List ℕ → List ℕ → Listing → Printed Listing
bytes_step a b l =
    cond (ltb l.part (word_bytes * common_words a b l.packet))
    (tell (standing S.Bytes l.packet (l.part + 1) l.first l.second l.count)
    (byte_place a b l.packet (l.part / word_bytes) (l.part % word_bytes)))
    (nothing
    (standing S.Packet (l.packet + 1) 0 (l.first + count_at a l.packet) (l.second + count_at b l.packet) l.count))

abbrev pub stage_step : List ℕ → List ℕ → Listing → Stage → Printed Listing
stage_step a b l S.Packets = packets_step a b l
stage_step a b l S.Words = words_step a b l
stage_step a b l S.Counts = counts_step a b l
stage_step a b l S.Packet = packet_step a b l
stage_step a b l S.Fields = fields_step a b l
stage_step a b l S.Bytes = bytes_step a b l
stage_step a b l S.Last = record { next = done_listing l.count; text = last_line l.count }
stage_step a b l (S.Refused n file) = record { next = done_listing l.count; text = refused_line n file }
stage_step a b l S.Done = nothing l

unfoldable pub step_of : List ℕ → List ℕ → Listing → Printed Listing
step_of a b l = stage_step a b l l.stage

-- All is printed.
abbrev pub is_done : Stage → Bool
is_done S.Packets = false
is_done S.Words = false
is_done S.Counts = false
is_done S.Packet = false
is_done S.Fields = false
is_done S.Bytes = false
is_done S.Last = false
is_done (S.Refused n file) = false
is_done S.Done = true

-- No more steps than so many are left: a packet takes at most 50,000.
abbrev pub most_at : List ℕ → List ℕ → Listing → Stage → ℕ
most_at a b l S.Packets = 50000 * common a b + common a b + 5
most_at a b l S.Words = 50000 * common a b + common a b + 4
most_at a b l S.Counts = 50000 * common a b + (common a b - l.packet) + 3
most_at a b l S.Packet = 50000 * (common a b - l.packet) + 2
most_at a b l S.Fields = 50000 * (common a b - l.packet) + 1 - l.part
most_at a b l S.Bytes = 50000 * (common a b - l.packet) - 10 - l.part
most_at a b l S.Last = 1
most_at a b l (S.Refused n file) = 1
most_at a b l S.Done = 0

unfoldable pub most_left : List ℕ → List ℕ → Listing → ℕ
most_left a b l = most_at a b l l.stage

-- The invariant of a listing of two files, which the start and every step give: neither file is refused, and the place is one of both.
pub record Both (a b : List ℕ) : Type 0 where
  pub one : check_of a ≡ 0
  pub two : check_of b ≡ 0

pub record AtCount (a b : List ℕ) (l : Listing) : Type 0 where
  pub both : Both a b
  pub here : l.packet ≤ common a b

pub record AtPacket (a b : List ℕ) (l : Listing) : Type 0 where
  pub both : Both a b
  pub here : l.packet ≤ common a b
  pub one : l.first ≡ words_before a l.packet
  pub two : l.second ≡ words_before b l.packet

pub record AtField (a b : List ℕ) (l : Listing) : Type 0 where
  pub at : AtPacket a b l
  pub within : l.packet < common a b
  pub part : l.part ≤ fields

pub record AtByte (a b : List ℕ) (l : Listing) : Type 0 where
  pub at : AtPacket a b l
  pub within : l.packet < common a b
  pub part : l.part ≤ word_bytes * common_words a b l.packet

abbrev pub GoodAt : List ℕ → List ℕ → Listing → Stage → Type 0
GoodAt a b l S.Packets = Both a b
GoodAt a b l S.Words = Both a b
GoodAt a b l S.Counts = AtCount a b l
GoodAt a b l S.Packet = AtPacket a b l
GoodAt a b l S.Fields = AtField a b l
GoodAt a b l S.Bytes = AtByte a b l
GoodAt a b l S.Last = Unit
GoodAt a b l (S.Refused n file) = Unit
GoodAt a b l S.Done = Unit

pub record Good (a b : List ℕ) (l : Listing) : Type 0 where
  pub at : GoodAt a b l l.stage
  pub low : l.count + most_left a b l ≤ 2 ^ 32

-- A listing prints by steps.
abbrev pub printer : List ℕ → List ℕ → Printer Listing
printer a b = record { step_of = step_of a b; most = most_printed; is_done = λ l. is_done l.stage; Good = Good a b }
