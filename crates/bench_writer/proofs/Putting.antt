-- Bytes that are put at a place of a buffer: a number's, and a list behind another.
-- Assumes nothing.
use Rattle.std.proofs.Common.{ℕ, zero, suc, ◌+◌, ◌/◌, ◌%◌, ◌^◌, ◌≤◌, ◌<◌, ◌≡◌, refl, sym, ap, ap₂, ◌∙◌, arith, div-one, pow-suc, mod-eq_of_lt}
use Rattle.std.proofs.Common.{List, [], ◌∷◌, ◌++◌, append_assoc, length, take, drop, length-append, length-drop, take-append-drop, drop-drop, length-take-le}
use Rattle.std.proofs.Math.Nat.{div-div-eq-div-mul}
use Rattle.std.proofs.Math.Seq.{take_at, drop_at}
use Rattle.std.specs.Int.{byte_at, bytes_low_first}
use Rattle.writer.specs.Write.{bytes_of}
use Rattle.packet.specs.declared.Packet.{Packet}
use Rattle.bench_file.specs.File.{header_bytes, packet_place}
use Rattle.bench_writer.specs.Content.{packet_as, header}
use Rattle.bench_writer.specs.Draft.{put_at}

-- The bytes of a number as the library gives them.
byte : (i n : ℕ) → byte_at i n ≡ n / 256 ^ i % 256
byte zero n = ap (λ (m : ℕ). m % 256) (sym (div-one n))
byte (suc i) n = refl

from_byte : (i k n : ℕ) → bytes_low_first i k n ≡ bytes_of k (n / 256 ^ i)
unfolding bytes_of
from_byte i zero n = refl
from_byte i (suc k) n =
    let next : n / 256 ^ suc i ≡ n / 256 ^ i / 256 = ap (λ (m : ℕ). n / m) (pow-suc 256 i) ∙ sym (div-div-eq-div-mul n (256 ^ i) 256) in
    ap₂ ◌∷◌ (byte i n) (from_byte (suc i) k n ∙ ap (bytes_of k) next)

pub le_bytes : (k n : ℕ) → bytes_low_first 0 k n ≡ bytes_of k n
le_bytes k n = from_byte 0 k n ∙ ap (bytes_of k) (div-one n)

pub number_put : (k n at : ℕ) (buffer : List ℕ) {bytes after : List ℕ} → bytes ≡ bytes_low_first 0 k n → after ≡ put_at at bytes buffer
    → after ≡ put_at at (bytes_of k n) buffer
number_put k n at buffer e h = h ∙ ap (λ (l : List ℕ). put_at at l buffer) (e ∙ le_bytes k n)

pub byte_put : (n at : ℕ) (buffer : List ℕ) {bytes after : List ℕ} → n < 256 → bytes ≡ n ∷ [] → after ≡ put_at at bytes buffer
    → after ≡ put_at at (bytes_of 1 n) buffer
unfolding bytes_of
byte_put n at buffer small e h = h ∙ ap (λ (l : List ℕ). put_at at l buffer) (e ∙ ap (λ (b : ℕ). b ∷ []) (sym (mod-eq_of_lt small)))

-- Bytes put over as many bytes.
pub over : (place : ℕ) (bytes buffer x y z : List ℕ) → buffer ≡ x ++ (y ++ z) → length x ≡ place → length y ≡ length bytes
    → put_at place bytes buffer ≡ x ++ (bytes ++ z)
over place bytes buffer x y z is lx ly =
    let both : length (x ++ y) ≡ place + length bytes = length-append x y ∙ ap₂ ◌+◌ lx ly in
    ap₂ (λ (l r : List ℕ). l ++ (bytes ++ r)) (ap (take place) is ∙ take_at x (y ++ z) place lx)
    (ap (drop (place + length bytes)) (is ∙ sym (append_assoc x y z)) ∙ drop_at (x ++ y) z (place + length bytes) both)

-- A list stands at a place of a buffer that is else as it was.
record Stands (base : List ℕ) (at : ℕ) (list buffer : List ℕ) : Type 0 where
  pub room : at + length list ≤ length base
  pub is : buffer ≡ put_at at list base

-- A list that is put behind it.
behind : {base : List ℕ} {at : ℕ} {list buffer after : List ℕ} (place : ℕ) (next : List ℕ) → Stands base at list buffer
    → place ≡ at + length list
    → place + length next ≤ length base
    → after ≡ put_at place next buffer
    → Stands base at (list ++ next) after
behind {base} {at} {list} {buffer} place next s e room put =
    let n = length next in
    let r = s.room in
    let front = take at base ++ list in
    let rest = drop (at + length list) base in
    let split : buffer ≡ front ++ (take n rest ++ drop n rest) = s.is ∙ rw (take-append-drop n rest) (sym (append_assoc (take at base) list rest)) in
    let front_long : length front ≡ place = length-append (take at base) list ∙ omega (arith, length-take-le at base (omega arith)) in
    let rest_long : length (take n rest) ≡ n = length-take-le n rest (omega (arith, length-drop (at + length list) base)) in
    let both : at + length list + n ≡ at + length (list ++ next) = omega (arith, length-append list next) in
    let left : drop n rest ≡ drop (at + length (list ++ next)) base = drop-drop n (at + length list) base ∙ ap (λ (k : ℕ). drop k base) both in
    record {
      room = omega arith;
      is = put ∙ over place next buffer front (take n rest) (drop n rest) split front_long rest_long ∙ rw left (simp append_assoc);
    }

-- A packet's numbers, and a header's, one behind the other.
pub packet_put : (base : List ℕ) (at : ℕ) (p : Packet) {b1 b2 b3 b4 b5 b6 b7 b8 : List ℕ} → at + 24 ≤ length base
    → b1 ≡ put_at at (bytes_of 8 p.position) base
    → b2 ≡ put_at (at + 8) (bytes_of 4 p.orbit) b1
    → b3 ≡ put_at (at + 12) (bytes_of 4 p.trigger) b2
    → b4 ≡ put_at (at + 16) (bytes_of 2 p.bc) b3
    → b5 ≡ put_at (at + 18) (bytes_of 2 p.page) b4
    → b6 ≡ put_at (at + 20) (bytes_of 1 p.stop) b5
    → b7 ≡ put_at (at + 21) (bytes_of 1 p.format) b6
    → b8 ≡ put_at (at + 22) (bytes_of 2 0) b7
    → b8 ≡ put_at at (packet_as p 0) base
unfolding bytes_of
packet_put base at p {b1} room p1 p2 p3 p4 p5 p6 p7 p8 =
    let s1 : Stands base at (bytes_of 8 p.position) b1 = record { room = omega arith; is = p1 } in
    let s2 = behind (at + 8) (bytes_of 4 p.orbit) s1 refl (omega arith) p2 in
    let s3 = behind (at + 12) (bytes_of 4 p.trigger) s2 refl (omega arith) p3 in
    let s4 = behind (at + 16) (bytes_of 2 p.bc) s3 refl (omega arith) p4 in
    let s5 = behind (at + 18) (bytes_of 2 p.page) s4 refl (omega arith) p5 in
    let s6 = behind (at + 20) (bytes_of 1 p.stop) s5 refl (omega arith) p6 in
    let s7 = behind (at + 21) (bytes_of 1 p.format) s6 refl (omega arith) p7 in
    (behind (at + 22) (bytes_of 2 0) s7 refl (omega arith) p8).is

pub header_put : (base : List ℕ) (packets words : ℕ) {b1 b2 b3 b4 : List ℕ} → 16 ≤ length base
    → b1 ≡ put_at 0 (bytes_of 4 packets) base
    → b2 ≡ put_at 4 (bytes_of 4 words) b1
    → b3 ≡ put_at 8 (bytes_of 4 header_bytes) b2
    → b4 ≡ put_at 12 (bytes_of 4 (packet_place packets)) b3
    → b4 ≡ put_at 0 (header packets words) base
unfolding bytes_of
header_put base packets words {b1} room p1 p2 p3 p4 =
    let s1 : Stands base 0 (bytes_of 4 packets) b1 = record { room = omega arith; is = p1 } in
    let s2 = behind 4 (bytes_of 4 words) s1 refl (omega arith) p2 in
    let s3 = behind 8 (bytes_of 4 header_bytes) s2 refl (omega arith) p3 in
    (behind 12 (bytes_of 4 (packet_place packets)) s3 refl (omega arith) p4).is
