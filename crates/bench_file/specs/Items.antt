-- 01, "Bench file": the packets and words of a file in order, "each packet before its words".
-- Assumes nothing.
use Rattle.std.specs.Prelude.{ℕ, zero, suc, ◌+◌, ◌-◌, List, [], ◌∷◌, ◌++◌}
use Rattle.packet.specs.declared.Packet.{Packet}
use Rattle.bench_file.specs.File.{packets, packet_at, count_at, word_place, bytes_at}

-- A packet with its word count, or a word with its place and its ten bytes.
pub data Item : Type 0 where
  packet : Packet → ℕ → Item
  word : ℕ → List ℕ → Item

-- k words from word n of the file on.
unfoldable pub word_items : List ℕ → ℕ → ℕ → List Item
word_items file zero n = []
word_items file (suc k) n = word (word_place file n) (bytes_at file (word_place file n)) ∷ word_items file k (suc n)

-- k packets from packet i on, each before its words, which begin at word n.
unfoldable pub packet_items : List ℕ → ℕ → ℕ → ℕ → List Item
packet_items file zero i n = []
packet_items file (suc k) i n =
    packet (packet_at file i) (count_at file i)
    ∷ (word_items file (count_at file i) n ++ packet_items file k (suc i) (n + count_at file i))

-- What is to come: `left` words of the packet at hand, from word n on, and then the packets from packet i on.
abbrev pub items_from : List ℕ → ℕ → ℕ → ℕ → List Item
items_from file i n left = word_items file left n ++ packet_items file (packets file - i) i (n + left)

unfoldable pub items : List ℕ → List Item
items file = packet_items file (packets file) 0 0
