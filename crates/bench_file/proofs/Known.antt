-- What refuses a file is the number of a refusal.
-- Assumes nothing.
use Rattle.std.proofs.Common.{ℕ, suc, zero, ◌≡◌, Bool, true, false, true≢false, cond, eqb, leb, List, refl}
use Rattle.refusals.specs.Refusals.{number, of_number}
use Rattle.packet.specs.Packet.{in_range, max_words}
use Rattle.bench_file.specs.File.{packets, words, packet_place, packet_of, count_of, words_before, misfit, packet_refusal, first_refusal, check_of}

-- A number that is 0 or a refusal's.
abbrev pub Known : ℕ → Type 0
Known n = eqb n 0 ≡ false → number (of_number n) ≡ n

known_none : Known 0
known_none h = absurd (true≢false h)

pub known_by : (t : Bool) {x y : ℕ} → Known x → Known y → Known (cond t x y)
known_by true p q = p
known_by false p q = q

known_full : Known 3
unfolding of_number
known_full h = refl

known_packet : Known 5
unfolding of_number
known_packet h = refl

pub known_file : Known 6
unfolding of_number
known_file h = refl

known_counts : Known 7
unfolding of_number
known_counts h = refl

packet_known : (file : List ℕ) (at : ℕ) → Known (packet_refusal file at)
packet_known file at =
    known_by (in_range (packet_of file at)) (known_by (leb (count_of file at) max_words) known_none known_full) known_packet

first_known : (file : List ℕ) (n i : ℕ) → Known (first_refusal file n i)
unfolding first_refusal
first_known file zero i = known_none
first_known file (suc n) i =
    known_by (eqb (packet_refusal file (packet_place i)) 0) (first_known file n (suc i)) (packet_known file (packet_place i))

pub check_known : (file : List ℕ) → Known (check_of file)
unfolding check_of
check_known file =
    known_by (misfit file) known_file
    (known_by (eqb (words_before file (packets file)) (words file)) (first_known file (packets file) 0) known_counts)
