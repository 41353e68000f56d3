-- What a packet and a word that are added come to: which refusal the tests give, what a call answers, and the buffer with the packet.
-- Assumes nothing.
use Prim.Native.Nat.{ℕ, suc, ◌+◌, ◌-◌, ◌≤◌, ◌<◌}
use mathlib.Core.Path.{◌≡◌, refl, sym, ap, ◌∙◌}
use mathlib.Core.Bool.{Bool, true, false, cond}
use mathlib.Core.List.{List, ◌++◌, append_assoc}
use native.Mathlib.Omega.{arith}
use borrow.Author.Tests.{eq-eqb, ne_eqb, lt-ltb, le-ltb, le-leb, lt-leb, leb-true, ltb-true, eqb-false}
use lib.Dec.{leb, ltb, eqb}
use lib.ListN.{length, take, drop, length-drop}
use lib.Seq.{take-add, length-take-le}
use Rattle.words.specs.Word.{word_bytes}
use Rattle.writer.specs.Write.{bytes_of}
use Rattle.packet.specs.declared.Packet.{Packet}
use Rattle.packet.specs.Packet.{in_range, max_words}
use Rattle.bench_file.specs.File.{packet_bytes, most_bytes}
use Rattle.bench_writer.specs.declared.Draft.{Draft}
use Rattle.bench_writer.specs.Content.{packet_as}
use Rattle.bench_writer.specs.Draft.{size, packet_end, GoodDraft, put_at, packet_refusal, packet_in, word_refusal, Added, AddPost}
use Rattle.bench_writer.proofs.Putting.{over}
use Rattle.bench_writer.proofs.Shifting.{moved}

-- The refusals, from the tests.
by_range_lem : {b : Bool} (d : Draft) (p : Packet) → in_range p ≡ b → packet_refusal d p ≡ cond b (cond (leb (size d + packet_bytes) most_bytes) 0 6) 5
by_range_lem d p e = ap (λ (b : Bool). cond b (cond (leb (size d + packet_bytes) most_bytes) 0 6) 5) e

pub out_of_range : (d : Draft) (p : Packet) → in_range p ≡ false → packet_refusal d p ≡ 5
out_of_range d p e = by_range_lem d p e

pub no_packet_room : (d : Draft) (p : Packet) → in_range p ≡ true → most_bytes < size d + packet_bytes → packet_refusal d p ≡ 6
no_packet_room d p e h = by_range_lem d p e ∙ simp (lt-leb _ _ h)

pub packet_taken : (d : Draft) (p : Packet) → in_range p ≡ true → size d + packet_bytes ≤ most_bytes → packet_refusal d p ≡ 0
packet_taken d p e h = by_range_lem d p e ∙ simp (le-leb _ _ h)

pub no_packet : (d : Draft) → d.packets ≡ 0 → word_refusal d ≡ 2
no_packet d e = simp (eq-eqb _ _ e)

pub full : (d : Draft) → (d.packets ≡ 0 → ⊥) → max_words ≤ d.last → word_refusal d ≡ 3
full d e h = simp (ne_eqb _ _ e, le-ltb _ _ h)

pub no_word_room : (d : Draft) → (d.packets ≡ 0 → ⊥) → d.last < max_words → most_bytes < size d + word_bytes → word_refusal d ≡ 6
no_word_room d e h k = simp (ne_eqb _ _ e, lt-ltb _ _ h, lt-leb _ _ k)

pub word_taken : (d : Draft) → (d.packets ≡ 0 → ⊥) → d.last < max_words → size d + word_bytes ≤ most_bytes → word_refusal d ≡ 0
word_taken d e h k = simp (ne_eqb _ _ e, lt-ltb _ _ h, le-leb _ _ k)

-- And the other way: what holds of an entry that is not refused.
asked : (b : Bool) (n m : ℕ) → cond b n (suc m) ≡ 0 → (b ≡ true) × (n ≡ 0)
asked true n m e = (refl, e)
asked false n m e = absurd (omega arith)

asked_not : (b : Bool) (n m : ℕ) → cond b (suc m) n ≡ 0 → (b ≡ false) × (n ≡ 0)
asked_not true n m e = absurd (omega arith)
asked_not false n m e = (refl, e)

pub record PacketFits (d : Draft) (p : Packet) : Type 0 where
  pub in_range_is : in_range p ≡ true
  pub room : size d + packet_bytes ≤ most_bytes

pub packet_fits : (d : Draft) (p : Packet) → packet_refusal d p ≡ 0 → PacketFits d p
packet_fits d p e =
    let range = asked (in_range p) _ 4 e in
    record { in_range_is = range.0; room = leb-true _ _ (asked (leb (size d + packet_bytes) most_bytes) 0 5 range.1).0 }

pub record WordFits (d : Draft) : Type 0 where
  pub some : 0 < d.packets
  pub few : d.last < max_words
  pub room : size d + word_bytes ≤ most_bytes

pub word_fits : (d : Draft) → word_refusal d ≡ 0 → WordFits d
word_fits d e =
    let some = asked_not (eqb d.packets 0) _ 1 e in
    let few = asked (ltb d.last max_words) _ 2 some.1 in
    record {
      some = omega (arith, eqb-false d.packets 0 some.0);
      few = ltb-true _ _ few.0;
      room = leb-true _ _ (asked (leb (size d + word_bytes) most_bytes) 0 5 few.1).0;
    }

-- The answers.
pub refused : {refusal : ℕ} {d : Draft} (next : Draft) {buffer : List ℕ} (added : List ℕ) {r : Added} (n : ℕ) → refusal ≡ suc n
    → r ≡ record { refusal = suc n; draft = d }
    → GoodDraft buffer d
    → AddPost refusal d next buffer added r buffer
refused next added n is e good =
    let no = ne_eqb (suc n) 0 (λ (z : suc n ≡ 0). omega arith) in
    record { answer = simp (e, is); draft_is = simp (e, is, no); buffer_is = simp (is, no); good = rw e good }

pub taken : {refusal : ℕ} (d : Draft) {next : Draft} (buffer : List ℕ) {added after : List ℕ} → refusal ≡ 0 → after ≡ added
    → GoodDraft after next
    → AddPost refusal d next buffer added (record { refusal = 0; draft = next }) after
taken d buffer is e good = record { answer = sym is; draft_is = simp is; buffer_is = simp is e; good = good }

-- The packet that is put where the words were, once these have moved on.
pub packet_in_lem : (d : Draft) (p : Packet) (buffer : List ℕ) {on after : List ℕ} → size d + packet_bytes ≤ length buffer
    → on ≡ moved buffer (size d) (packet_end d)
    → after ≡ put_at (packet_end d) (packet_as p 0) on
    → after ≡ packet_in d p buffer
unfolding packet_in bytes_of
packet_in_lem d p buffer {on} room shifted put =
    let at = packet_end d in
    let under = take 24 (drop at buffer) in
    let rest = take (size d - at) (drop at buffer) ++ drop (size d + 24) buffer in
    let split : on ≡ take at buffer ++ (under ++ rest) =
    shifted ∙ ap (λ (l : List ℕ). l ++ rest) (take-add at 24 buffer) ∙ append_assoc (take at buffer) under rest in
    put
    ∙ over at (packet_as p 0) on (take at buffer) under rest split (length-take-le at buffer (omega arith))
    (length-take-le 24 (drop at buffer) (omega (arith, length-drop at buffer)))
