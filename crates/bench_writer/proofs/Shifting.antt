-- The words of a buffer that are moved on by a packet's bytes.
-- Assumes nothing.
use Rattle.std.proofs.Common.{ℕ, ◌+◌, ◌-◌, ◌≤◌, ◌≡◌, arith, List, ◌++◌, append_assoc, take, drop}
use Rattle.std.specs.List.{copy_within}
use Rattle.bench_file.specs.File.{packet_bytes}

-- The buffer with the bytes from a place to the end moved on.
abbrev pub moved : List ℕ → ℕ → ℕ → List ℕ
moved base end i = take (i + packet_bytes) base ++ (take (end - i) (drop i base) ++ drop (end + packet_bytes) base)

pub moved_on : (base : List ℕ) (at end : ℕ) → at ≤ end → copy_within base at end (at + packet_bytes) ≡ moved base end at
moved_on base at end h =
    let e : at + packet_bytes + (end - at) ≡ end + packet_bytes = omega arith in
    rw e (append_assoc (take (at + packet_bytes) base) (take (end - at) (drop at base)) (drop (end + packet_bytes) base))
