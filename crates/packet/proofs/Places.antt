-- Where the words of a packet stand: far below 2^64.
-- Assumes nothing.
use Rattle.std.proofs.Common.{ℕ, ◌≤◌, ◌<◌, ◌≡◌, Bool, true, false, cond, mul-le-mul_left, arith, leb, eqb, leb-true}
use Rattle.words.proofs.Tests.{both}
use Rattle.packet.specs.declared.Packet.{Packet}
use Rattle.packet.specs.Packet.{in_range, max_position, most_position, max_words, stride, position_of}

pub position_low : (p : Packet) → in_range p ≡ true → p.position ≤ max_position
position_low p e = leb-true p.position max_position (both (leb p.position max_position) _ e).0

stride_low : (format : ℕ) → stride format ≤ 16
stride_low format = at (eqb format 0)
  where
    at : (b : Bool) → cond b 16 10 ≤ 16
    at true = omega arith
    at false = omega arith

pub position_most : (p : Packet) (taken : ℕ) → in_range p ≡ true → taken < max_words → position_of p taken ≤ most_position
position_most p taken e h =
    let low = position_low p e in
    let here = mul-le-mul_left taken (stride_low p.format) in
    omega arith
