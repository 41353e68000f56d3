-- 02, ticket 1: "From fields, write the ten bytes of IHW, TDH, TDT, DDW0, CDW and data words (id and nine bytes)". Each word as a list of its parts, in
-- 01's notation and from bit 0 on: fields, and bits that are fixed, which are the reserved ones and the id.
-- Assumes nothing.
use Rattle.std.specs.Prelude.{ℕ, ◌+◌, ◌-◌, ◌*◌, ◌^◌, Bool, true, false, ◌&&◌, List, [], ◌∷◌, ltb, leb, eqb}
use Rattle.words.specs.declared.Word.{Word}
use Rattle.words.specs.Word.{bits}
use Rattle.words.specs.Tdh.{tdh_id}
use Rattle.words.specs.Tdt.{tdt_id}
use Rattle.words.specs.Ihw.{ihw_id}
use Rattle.words.specs.Ddw.{ddw0_id}
use Rattle.words.specs.Cdw.{cdw_id}
use Rattle.writer.specs.declared.WordKind.{WordKind}
use Rattle.writer.specs.declared.WordKind.TheVariants as K

-- "27:16 crossing" is `field 27 16`; "reserved 15" is `reserved 15 15`; "id in byte 9" is `id` of its number.
pub data Part : Type 0 where
  field : (h l : ℕ) → Part
  fixed : (h l v : ℕ) → Part

abbrev pub reserved : ℕ → ℕ → Part
reserved h l = fixed h l 0

abbrev pub id : ℕ → Part
id v = fixed 79 72 v

abbrev pub layout : WordKind → List Part
-- "IHW 0xE0: 27:0 active lanes, 71:28 reserved."
layout K.Ihw = field 27 0 ∷ reserved 71 28 ∷ id ihw_id ∷ []
-- "TDH 0xE8: 11:0 trigger type, 12 internal trigger, 13 no data, 14 continuation, 27:16 crossing (BC), 63:32 orbit; reserved 15, 31:28, 71:64."
layout K.Tdh =
    field 11 0 ∷ field 12 12 ∷ field 13 13 ∷ field 14 14 ∷ reserved 15 15 ∷ field 27 16 ∷ reserved 31 28 ∷ field 63 32 ∷ reserved 71 64
    ∷ id tdh_id
    ∷ []
-- "TDT 0xF0: 55:0 lane status, 63 timeout to start, 62 timeout start-stop, 61 timeout in idle, 67 lane starts violation, 65 transmission timeout, 64
-- packet done; reserved 60:56, 66, 71:68."
layout K.Tdt =
    field 55 0 ∷ reserved 60 56 ∷ field 61 61 ∷ field 62 62 ∷ field 63 63 ∷ field 64 64 ∷ field 65 65 ∷ reserved 66 66 ∷ field 67 67
    ∷ reserved 71 68
    ∷ id tdt_id
    ∷ []
-- "DDW0 0xE4: 55:0 lane status, 67, 65 as in TDT, 71:68 index; reserved 63:56, 66, 64."
layout K.Ddw0 =
    field 55 0 ∷ reserved 63 56 ∷ reserved 64 64 ∷ field 65 65 ∷ reserved 66 66 ∷ field 67 67 ∷ field 71 68 ∷ id ddw0_id ∷ []
-- "CDW 0xF8: 47:0 user fields, 71:48 index."
layout K.Cdw = field 47 0 ∷ field 71 48 ∷ id cdw_id ∷ []
-- "data words (id and nine bytes)": the nine bytes as two numbers, bits 63:0 and 71:64. The id is a field here: a data word has one of many.
layout K.Data = field 63 0 ∷ field 71 64 ∷ field 79 72 ∷ []

-- The parts follow each other from bit l on and end at bit 79: no bit is in two of them, and none is in no part.
abbrev pub tiles : ℕ → List Part → Bool
tiles l [] = eqb l 80
tiles l (field h l' ∷ ps) = eqb l l' && (leb l h && tiles (h + 1) ps)
tiles l (fixed h l' v ∷ ps) = eqb l l' && (leb l h && (ltb v (2 ^ (h + 1 - l')) && tiles (h + 1) ps))

-- The number that is written: each value at its place, the fixed bits as they must be. One value for each field, in the order of the parts.
unfoldable pub put : List Part → List ℕ → ℕ
put [] vs = 0
put (field h l ∷ ps) [] = 0
put (field h l ∷ ps) (v ∷ vs) = v * 2 ^ l + put ps vs
put (fixed h l v ∷ ps) vs = v * 2 ^ l + put ps vs

-- No value is "a field wider than its bits".
unfoldable pub fit : List Part → List ℕ → Bool
fit [] [] = true
fit [] (v ∷ vs) = false
fit (field h l ∷ ps) [] = false
fit (field h l ∷ ps) (v ∷ vs) = ltb v (2 ^ (h + 1 - l)) && fit ps vs
fit (fixed h l v ∷ ps) vs = fit ps vs

-- The fixed bits are as they must be: "the reserved bits were 0 and the id right".
abbrev pub right : List Part → Word → Bool
right [] w = true
right (field h l ∷ ps) w = right ps w
right (fixed h l v ∷ ps) w = eqb (bits h l w) v && right ps w
