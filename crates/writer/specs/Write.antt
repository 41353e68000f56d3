-- 02, ticket 1: what is written from fields into a lent slice, when it is refused, and what is read back.
-- Assumes nothing.
use Rattle.std.specs.Prelude.{
  ℕ,
  zero,
  suc,
  ◌/◌,
  ◌%◌,
  ◌<◌,
  ◌≡◌,
  Bool,
  true,
  cond,
  ◌&&◌,
  List,
  [],
  ◌∷◌,
  ◌++◌,
  eqb,
  length,
  get_or,
  Option,
  Some,
  None,
  Result,
  Ok,
  Err,
}
use Rattle.refusals.specs.declared.Refusal.{Refusal}
use Rattle.refusals.specs.declared.Refusal.TheVariants.{Field}
use Rattle.refusals.specs.Refusals.{code}
use Rattle.words.specs.declared.Word.{Word}
use Rattle.words.specs.Word.{word_bytes, word_of, bits, id_of}
use Rattle.words.specs.Tdh as Tdh
use Rattle.words.specs.Tdt as Tdt
use Rattle.words.specs.Ihw as Ihw
use Rattle.words.specs.Ddw as Ddw
use Rattle.words.specs.Cdw as Cdw
use Rattle.words.specs.LaneStatus.{lane_status27to0}
use Rattle.data_ids.specs.DataIds.{is_data_id}
use Rattle.writer.specs.declared.WordKind.{WordKind}
use Rattle.writer.specs.declared.WordKind.TheVariants as K
use Rattle.writer.specs.declared.Fields.{Fields}
use Rattle.writer.specs.declared.Fields.TheVariants as F
use Rattle.writer.specs.Layout.{layout, put, fit}

abbrev pub kind_of : Fields → WordKind
kind_of (F.Ihw active) = K.Ihw
kind_of (F.Tdh trigger internal no_data continuation bc orbit) = K.Tdh
kind_of (F.Tdt lanes to_start start-stop idle violation transmission done) = K.Tdt
kind_of (F.Ddw0 lanes violation transmission index) = K.Ddw0
kind_of (F.Cdw user index) = K.Cdw
kind_of (F.Data id low high) = K.Data

-- The values of the fields: one for each field of the layout, from bit 0 on.
abbrev pub values_of : Fields → List ℕ
values_of (F.Ihw active) = active ∷ []
values_of (F.Tdh trigger internal no_data continuation bc orbit) = trigger ∷ internal ∷ no_data ∷ continuation ∷ bc ∷ orbit ∷ []
values_of (F.Tdt lanes to_start start-stop idle violation transmission done) =
    lanes ∷ idle ∷ start-stop ∷ to_start ∷ done ∷ transmission ∷ violation ∷ []
values_of (F.Ddw0 lanes violation transmission index) = lanes ∷ transmission ∷ violation ∷ index ∷ []
values_of (F.Cdw user index) = user ∷ index ∷ []
values_of (F.Data id low high) = low ∷ high ∷ id ∷ []

-- A flag is one bit: 1 where it is set.
abbrev pub flag : Bool → ℕ
flag b = cond b 1 0

-- Reading: the fields as the readers of words give them.
abbrev pub fields_in : WordKind → Word → Fields
fields_in K.Ihw w = F.Ihw (Ihw.active_lanes w)
fields_in K.Tdh w =
    F.Tdh (Tdh.trigger_type w) (Tdh.internal_trigger w) (Tdh.no_data w) (Tdh.continuation w) (Tdh.trigger_bc w) (Tdh.trigger_orbit w)
fields_in K.Tdt w =
    F.Tdt (lane_status27to0 w) (flag (Tdt.timeout_to_start w)) (flag (Tdt.timeout_start_stop w))
    (flag (Tdt.timeout_in_idle w)) (flag (Tdt.lane_starts_violation w))
    (flag (Tdt.transmission_timeout w))
    (flag (Tdt.packet_done w))
fields_in K.Ddw0 w = F.Ddw0 (lane_status27to0 w) (flag (Ddw.lane_starts_violation w)) (flag (Ddw.transmission_timeout w)) (Ddw.index w)
fields_in K.Cdw w = F.Cdw (Cdw.user_fields w) (Cdw.word_index w)
fields_in K.Data w = F.Data (id_of w) (bits 63 0 w) (bits 71 64 w)

-- "the reserved bits were 0 and the id right", as the readers of words have it. A data word's id is right where it is one of 01's data ids.
abbrev pub is_right : WordKind → Word → Bool
is_right K.Ihw w = eqb (id_of w) Ihw.ihw_id && Ihw.is_reserved0 w
is_right K.Tdh w = eqb (id_of w) Tdh.tdh_id && Tdh.is_reserved0 w
is_right K.Tdt w = eqb (id_of w) Tdt.tdt_id && Tdt.is_reserved0 w
is_right K.Ddw0 w = eqb (id_of w) Ddw.ddw0_id && Ddw.is_reserved0 w
is_right K.Cdw w = eqb (id_of w) Cdw.cdw_id
is_right K.Data w = is_data_id (id_of w)

-- Not "an id outside 01's data ids".
abbrev pub id_fits : Fields → Bool
id_fits (F.Ihw active) = true
id_fits (F.Tdh trigger internal no_data continuation bc orbit) = true
id_fits (F.Tdt lanes to_start start-stop idle violation transmission done) = true
id_fits (F.Ddw0 lanes violation transmission index) = true
id_fits (F.Cdw user index) = true
id_fits (F.Data id low high) = is_data_id id

-- Refusal 8 is given exactly where this does not hold.
abbrev pub fields_fit : Fields → Bool
fields_fit f = fit (layout (kind_of f)) (values_of f) && id_fits f

-- The bytes of a number, the lowest first.
unfoldable pub bytes_of : ℕ → ℕ → List ℕ
bytes_of zero n = []
bytes_of (suc k) n = n % 256 ∷ bytes_of k (n / 256)

abbrev pub number_of : Fields → ℕ
number_of f = put (layout (kind_of f)) (values_of f)

-- "write the ten bytes"
unfoldable pub written : Fields → List ℕ
written f = bytes_of word_bytes (number_of f)

unfoldable pub word_from : Fields → Word
word_from f = word_of (written f)

-- Refusals of the writer: "8, a field wider than its bits or an id outside 01's data ids, then 1 for a slice not of 10 bytes".
abbrev pub refused_field : ℕ
refused_field = 8

abbrev pub refused_size : ℕ
refused_size = 1

-- The word of fields that fit.
abbrev pub fitted : Fields → Option Word
fitted f = cond (fields_fit f) (Some (word_from f)) None

-- The word of fields, or refusal 8; its number (`code`), and its value: the word, or zeros.
abbrev pub packed : Fields → Result Word Refusal
packed f = cond (fields_fit f) (Ok (word_from f)) (Err Field)

abbrev pub word_in : Result Word Refusal → Word
word_in (Ok w) = w
word_in (Err r) = record { lo = 0; hi = 0 }

pub record PackPost (f : Fields) (r : Result Word Refusal) : Type 0 where
  pub answer : r ≡ packed f
  pub number : code r ≡ cond (fields_fit f) 0 refused_field
  pub value : word_in r ≡ cond (fields_fit f) (word_from f) (record { lo = 0; hi = 0 })

-- What is asked, before anything is written: first whether all fits, then the length of the slice.
abbrev pub write_refusal : Bool → List ℕ → ℕ
write_refusal fits slice = cond fits (cond (eqb (length slice) word_bytes) 0 refused_size) refused_field

-- Ten bytes and whether what they come from fits: what a writer answers, and what it leaves in the slice. "the slice is unchanged" where it is refused.
pub record WritePost (fits : Bool) (bytes slice : List ℕ) (r : ℕ) (after : List ℕ) : Type 0 where
  pub answer : r ≡ write_refusal fits slice
  pub slice_is : after ≡ cond (eqb (write_refusal fits slice) 0) bytes slice

-- From fields.
abbrev pub Writes : Fields → List ℕ → ℕ → List ℕ → Type 0
Writes f = WritePost (fields_fit f) (written f)

-- A data word from its id and its nine bytes as they stand in a slice: the nine bytes, then the id. Other than nine are no data word's: 8.
abbrev pub data_bytes : ℕ
data_bytes = 9

abbrev pub WritesData : ℕ → List ℕ → List ℕ → ℕ → List ℕ → Type 0
WritesData id bytes = WritePost (eqb (length bytes) data_bytes && is_data_id id) (bytes ++ (id ∷ []))

-- Bytes as they are lent: each below 256.
abbrev pub Bytes : List ℕ → Type 0
Bytes b = (i : ℕ) → get_or b i 0 < 256

-- "Reading what was written gives the fields back, and writing what was read gives the same bytes when the reserved bits were 0 and the id right. Shown
-- once over all six kinds." (proofs/Round.antt, `round_trip`.)
pub record RoundTrip (k : WordKind) : Type 0 where
  pub reads_back : (f : Fields) → kind_of f ≡ k → fields_fit f ≡ true → fields_in k (word_of (written f)) ≡ f
  pub writes_back : (b : List ℕ) → length b ≡ word_bytes → Bytes b → is_right k (word_of b) ≡ true
      → (fields_fit (fields_in k (word_of b)) ≡ true) × (written (fields_in k (word_of b)) ≡ b)
