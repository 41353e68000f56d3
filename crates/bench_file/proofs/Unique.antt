-- Uniqueness: the contracts that are records determine the answer (the others are equations), and what a reader gives from its place on is determined.
-- Assumes nothing.
use Rattle.std.proofs.Common.{ℕ, ◌≡◌, refl, sym, subst, ap, List, ◌∷◌, Option, Result}
use Rattle.refusals.specs.declared.Refusal.{Refusal}
use Rattle.refusals.specs.Refusals.{code}
use Rattle.refusals.proofs.Numbers.{same_code}
use Rattle.packet.specs.declared.Packet.{Packet}
use Rattle.words.proofs.Unique.{unique}
use Rattle.bench_file.specs.declared.FileReader.{FileReader}
use Rattle.bench_file.specs.declared.Found.{Found}
use Rattle.bench_file.specs.File.{check_of, bytes_at}
use Rattle.bench_file.specs.Items.{Item, packet, word}
use Rattle.bench_file.specs.Reader.{after_packet, Gives, end, packet_first, then_word, NextPacketPost, NextWordPost, NextPost}

pub check_unique : (file : List ℕ) {first second : Result (Unit {0}) Refusal} → code first ≡ check_of file → code second ≡ check_of file
    → first ≡ second
check_unique file {first} {second} a b = same_code first second (unique a b)

pub next_packet_unique : {file : List ℕ} {i : ℕ} {first second : Option (Packet × ℕ)} → NextPacketPost file i first
    → NextPacketPost file i second → first ≡ second
next_packet_unique a b = unique a.answer b.answer

pub next_word_unique : {file : List ℕ} {n : ℕ} {first second : Option ℕ} → NextWordPost file n first
    → NextWordPost file n second → first ≡ second
next_word_unique a b = unique a.answer b.answer

pub next_unique : {file : List ℕ} {i n left : ℕ} {first second : Option Found} → NextPost file i n left first
    → NextPost file i n left second → first ≡ second
next_unique a b = unique a.answer b.answer

pub gives_unique : {r : FileReader} {left : ℕ} {xs ys : List Item} → Gives r left xs → Gives r left ys → xs ≡ ys
gives_unique (end e) (end e') = refl
gives_unique (end e) (packet_first e' g) = absurd (cc)
gives_unique (packet_first e g) (end e') = absurd (cc)
gives_unique (packet_first {r} {p} {count = k} e g) (packet_first {p = p'} {count = k'} {rest = rest'} e' g') =
    let both : (p, k) ≡ (p', k') = cc in
    let counts : k' ≡ k = sym (ap (λ (f : Packet × ℕ). f.1) both) in
    let same : p ≡ p' = ap (λ (f : Packet × ℕ). f.0) both in
    λ j. packet (same j) (sym counts j) ∷ gives_unique g (subst (λ (m : ℕ). Gives (after_packet r) m rest') counts g') j
gives_unique (then_word {r} {at} e g) (then_word {at = at'} e' g') =
    let same : at ≡ at' = cc in
    λ j. word (same j) (bytes_at r.bytes.now (same j)) ∷ gives_unique g g' j
