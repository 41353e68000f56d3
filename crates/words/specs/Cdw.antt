-- 01, "Words": "CDW 0xF8 (added): 47:0 user fields, 71:48 index."
-- Assumes nothing.
use Rattle.std.specs.Prelude.{ℕ, Bool, true}
use Rattle.words.specs.declared.Word.{Word}
use Rattle.words.specs.Word.{bits}

abbrev pub cdw_id : ℕ
cdw_id = 0xF8

abbrev pub user_fields : Word → ℕ
user_fields = bits 47 0

abbrev pub word_index : Word → ℕ
word_index = bits 71 48

-- It has no reserved bits, so none is other than 0.
abbrev pub is_reserved0 : Word → Bool
is_reserved0 w = true
