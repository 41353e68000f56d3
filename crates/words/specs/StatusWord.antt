-- 01, "Records": what the checks of status words have in common: "1 id; else 2 reserved", and of two kinds "plus 4" for what they are asked besides.
-- Assumes nothing.
use Rattle.std.specs.Prelude.{ℕ, ◌+◌, Bool, cond, eqb}
use Rattle.words.specs.declared.Word.{Word}
use Rattle.words.specs.Word.{id_of}

-- Of a kind of word: by its id, by whether its reserved bits are 0, and by whether more is wrong.
abbrev pub fault : ℕ → (Word → Bool) → Bool → Word → ℕ
fault id clean more w =
    let reserved = cond (clean w) 0 2 in
    cond (eqb (id_of w) id) (cond more (reserved + 4) reserved) 1
