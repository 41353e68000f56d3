-- Issue 25, the word that a line asks for, with its numbers in the order of its fields.
-- Assumes nothing.
use Rattle.std.specs.Prelude.{ℕ, Bool, ◌&&◌, List, [], ◌∷◌, leb, take, drop, get_or}
use Rattle.std.specs.List.{list_all}
use Rattle.data_ids.specs.DataIds.{is_data_id}
use Rattle.writer.specs.declared.WordKind.{WordKind}
use Rattle.writer.specs.declared.WordKind.TheVariants as W
use Rattle.writer.specs.declared.Fields.{Fields}
use Rattle.writer.specs.declared.Fields.TheVariants as F
use Rattle.writer.specs.Write.{fields_fit, written}

-- A number of a line, from 0.
abbrev pub nth : List ℕ → ℕ → ℕ
nth n i = get_or n i 0

-- A word that is asked for: whether its numbers are in their ranges, and its ten bytes.
pub record Asked : Type 0 where
  pub fits : Bool
  pub bytes : List ℕ

abbrev pub from_fields : Fields → Asked
from_fields f = record { fits = fields_fit f; bytes = written f }

abbrev pub is_byte : ℕ → Bool
is_byte b = leb b 255

-- The nine numbers behind the id.
abbrev pub are_bytes : List ℕ → Bool
are_bytes n = list_all is_byte (take 9 (drop 1 n))

abbrev pub asked_of : WordKind → List ℕ → Asked
-- "ihw LANES"
asked_of W.Ihw n = from_fields (F.Ihw (nth n 0))
-- "tdh TYPE INTERNAL NO_DATA CONTINUATION BC ORBIT"
asked_of W.Tdh n = from_fields (F.Tdh (nth n 0) (nth n 1) (nth n 2) (nth n 3) (nth n 4) (nth n 5))
-- "tdt STATUS TO_START START_STOP IN_IDLE STARTS_VIOLATION TRANSMISSION_TIMEOUT PACKET_DONE"
asked_of W.Tdt n = from_fields (F.Tdt (nth n 0) (nth n 1) (nth n 2) (nth n 3) (nth n 4) (nth n 5) (nth n 6))
-- "ddw0 STATUS STARTS_VIOLATION TRANSMISSION_TIMEOUT INDEX"
asked_of W.Ddw0 n = from_fields (F.Ddw0 (nth n 0) (nth n 1) (nth n 2) (nth n 3))
-- "cdw USER INDEX"
asked_of W.Cdw n = from_fields (F.Cdw (nth n 0) (nth n 1))
-- "data ID B0 B1 B2 B3 B4 B5 B6 B7 B8": the nine bytes, then the id.
asked_of W.Data n =
    record {
      fits = are_bytes n && is_data_id (nth n 0);
      bytes = nth n 1 ∷ nth n 2 ∷ nth n 3 ∷ nth n 4 ∷ nth n 5 ∷ nth n 6 ∷ nth n 7 ∷ nth n 8 ∷ nth n 9 ∷ nth n 0 ∷ [];
    }
