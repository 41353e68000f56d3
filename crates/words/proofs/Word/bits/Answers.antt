-- `Word::bits`: what is left above the low bit is cut to the bits asked for.
-- Assumes nothing.
use Rattle.std.proofs.Common.{◌≡◌, ℕ, arith, ◌+◌, ◌-◌, ◌*◌, ◌/◌, ◌%◌, ◌^◌, sym, ap}
use Rattle.words.specs.Word.{bits, value}
use Rattle.words.proofs.Bits.{masked}
use Rattle.words.proofs.Word.bits.Goals as goal

pub returns-clause-value : goal.returns-clause-value
unfolding bits
returns-clause-value c =
    let a = c.args in
    let whole : c.from.result * 2 ^ 64 % 2 ^ 128 + c.from-2.result ≡ value a.self = omega (arith, c.from.ensures, c.from-2.ensures) in
    (masked _ (a.h + 1 - a.l) 128 _ (omega arith) (ap (λ (n : ℕ). n / 2 ^ a.l % 2 ^ (a.h + 1 - a.l)) (sym whole))).0
