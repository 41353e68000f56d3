-- `little_endian::get`: eight bytes, of which those after the first N are 0, are the number of the first N.
-- Assumes nothing.
use Rattle.std.proofs.Common.{◌≡◌, ℕ, ◌+◌, ◌-◌, ◌<◌, ◌≤◌, List, [], ◌∷◌, ◌++◌, length, get_or, take, drop, refl, ap, ◌∙◌}
use Rattle.std.proofs.Common.{arith, rules, length-append, length-drop, get_or-drop, length-take-le}
use Rattle.words.specs.Word.{number}
use Rattle.words.specs.LittleEndian.{number_at}
use Rattle.words.proofs.LittleEndian.{behind, still_0, fits}
use Rattle.words.proofs.Load.{lower, number_eight}
use Rattle.words.proofs.little_endian.get.Goals as goal

abbrev zeros : List ℕ
zeros = 0 ∷ 0 ∷ 0 ∷ 0 ∷ 0 ∷ 0 ∷ 0 ∷ 0 ∷ []

read : (n at : ℕ) (bytes front : List ℕ) (r : ℕ) → n ≤ 8 → length front ≡ length (take n zeros)
    → front ≡ take (at + n - at) (drop at bytes)
    → r ≡ lower (front ++ drop n zeros)
    → r ≡ number_at bytes at n
unfolding number_at number
read n at bytes front r few same after is =
    let long : length (front ++ drop n zeros) ≡ 8 =
    simp (length-append, length-drop) (omega (arith, length-take-le n zeros few)) in
    let part : at + n - at ≡ n = omega arith in
    omega (arith, is, number_eight (front ++ drop n zeros) long) ∙ behind front (drop n zeros) (still_0 n zeros refl)
    ∙ ap number after
    ∙ ap (λ (k : ℕ). number (take k (drop at bytes))) part

pub returns-clause-value : goal.returns-clause-value
returns-clause-value g c =
    let copy = c.copy_from_slice in
    read g.row.N c.args.at c.args.bytes.now copy.new.self c.from_le_bytes.result c.requires.0 copy.ensures.len copy.ensures.after
    (omega (arith, c.from_le_bytes.ensures))

pub returns-clause-upper_bound : goal.returns-clause-upper_bound
unfolding number_at
returns-clause-upper_bound g c =
    let copy = c.copy_from_slice in
    let b = c.args.bytes.now in
    let at = c.args.at in
    let small : (i : ℕ) → get_or b i 0 < 256 = search rules in
    rw (read g.row.N at b copy.new.self c.from_le_bytes.result c.requires.0 copy.ensures.len copy.ensures.after
    (omega (arith, c.from_le_bytes.ensures)))
    (fits g.row.N (drop at b) (λ i. rw (get_or-drop at b i 0) (small (at + i))))
