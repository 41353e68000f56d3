-- Where there is a packet or a word, what is found there, and the cursor past it; else the end, and the cursor stays.
-- Assumes nothing.
use Rattle.std.proofs.Common.{ℕ, ◌+◌, ◌≤◌, ◌<◌, ◌≡◌, sym, ◌∙◌, true, false, List, Option, Some, None, length}
use Rattle.std.proofs.Common.{lt-ltb, le-ltb, le-leb}
use Rattle.words.specs.Word.{word_bytes}
use Rattle.packet.specs.declared.Packet.{Packet}
use Rattle.bench_file.specs.File.{packet_bytes, packets, words, packet_place, packet_at, count_at, word_place}
use Rattle.bench_file.specs.Reader.{has_packet, has_word, packet_found, word_found, past_packet, past_word, NextPacketPost, NextWordPost}

module _ (file : List ℕ) (i : ℕ) where
  pub packet_in_lem : i < packets file → packet_place i + packet_bytes ≤ length file → has_packet file i ≡ true
  packet_in_lem h k = simp (lt-ltb _ _ h, le-leb _ _ k)

  pub packet_past : packets file ≤ i → has_packet file i ≡ false
  packet_past h = simp (le-ltb _ _ h)

  pub packet_found_lem : has_packet file i ≡ true → packet_found file i ≡ Some (packet_at file i, count_at file i)
  unfolding packet_found
  packet_found_lem e = rw e

  -- Where there is a packet, what is found is it.
  module _ (e : has_packet file i ≡ true) {r : Option (Packet × ℕ)} (n : NextPacketPost file i r) where
    pub packet_is : {p : Packet × ℕ} → r ≡ Some p → (p.0 ≡ packet_at file i) × (p.1 ≡ count_at file i)
    packet_is q = let s = sym q ∙ n.answer ∙ packet_found_lem e in (cc, cc)

    pub packet_no_end : r ≡ None → ⊥
    packet_no_end q = let s = sym q ∙ n.answer ∙ packet_found_lem e in cc

  pub packet_end : has_packet file i ≡ false → packet_found file i ≡ None
  unfolding packet_found
  packet_end e = rw e

  pub past_packet_lem : has_packet file i ≡ true → past_packet file i ≡ i + 1
  unfolding past_packet
  past_packet_lem e = rw e

  pub word_in : i < words file → word_place file i + word_bytes ≤ length file → has_word file i ≡ true
  word_in h k = simp (lt-ltb _ _ h, le-leb _ _ k)

  pub word_past : words file ≤ i → has_word file i ≡ false
  word_past h = simp (le-ltb _ _ h)

  pub word_found_lem : has_word file i ≡ true → word_found file i ≡ Some (word_place file i)
  unfolding word_found
  word_found_lem e = rw e

  -- Where there is a word, what is found is it.
  module _ (e : has_word file i ≡ true) {r : Option ℕ} (n : NextWordPost file i r) where
    pub word_is : {at : ℕ} → r ≡ Some at → at ≡ word_place file i
    word_is q = let s = sym q ∙ n.answer ∙ word_found_lem e in cc

    pub word_no_end : r ≡ None → ⊥
    word_no_end q = let s = sym q ∙ n.answer ∙ word_found_lem e in cc

  pub word_end : has_word file i ≡ false → word_found file i ≡ None
  unfolding word_found
  word_end e = rw e

  pub past_word_lem : has_word file i ≡ true → past_word file i ≡ i + 1
  unfolding past_word
  past_word_lem e = rw e
