-- One step of a listing: that what it reads stands in the files, and what the code computed, in the definition's terms.
-- Assumes nothing.
use Prim.Native.Nat.{ℕ, ◌+◌, ◌*◌, ◌/◌, ◌%◌, ◌≤◌, ◌<◌, min}
use mathlib.Core.Path.{◌≡◌, refl, ap, ◌∙◌}
use mathlib.Core.Bool.{Bool, true, false, cond}
use mathlib.Core.List.{List}
use native.Mathlib.Omega.{arith}
use borrow.Author.Tests.{lt-ltb, le-ltb, eq-eqb, ne_eqb}
use lib.Dec.{ltb}
use lib.ListN.{length}
use Rattle.words.specs.LittleEndian.{number_at}
use Rattle.bench_file.specs.File.{packets, words, packet_at, count_at, word_place, words_before, check_of}
use Rattle.bench_file.specs.Reader.{header_number, has_packet, has_word}
use Rattle.bench_file.proofs.Checking.{one_more}
use Rattle.bench_file.proofs.Reading.{sound, words_at_most, packet_here, word_here}
use Rattle.ascii.specs.Text.{Puts}
use Rattle.ascii.specs.Steps.{nothing, Prints}
use Rattle.ascii.proofs.Putting.{none_put}
use Rattle.comparison.specs.declared.Where.TheVariants as W
use Rattle.comparison.specs.declared.Place.{Place}
use Rattle.comparison.specs.declared.Stage.TheVariants as S
use Rattle.comparison.specs.declared.Listing.{Listing}
use Rattle.comparison.specs.Compare.{common, common_words, field_of, place}
use Rattle.comparison.specs.Text.{line_of}
use Rattle.comparison.specs.Listing.{standing, counted, tell, packets_step, words_step, counts_step, packet_step, fields_step, bytes_step, Both, AtByte}

-- A number of the header, where there is one.
pub counted_there : (file : List ℕ) (at : ℕ) → 16 ≤ length file → header_number file at ≡ number_at file at 4
unfolding header_number
counted_there file at h = rw (le-ltb (length file) 16 h)

-- The header, a packet that both have, and a word that both have of it, stand in both files.
module _ {a b : List ℕ} (g : Both a b) where
  pub header : (16 ≤ length a) × (16 ≤ length b)
  header = (omega (arith, (sound a g.one).whole), omega (arith, (sound b g.two).whole))

  pub few : common a b ≤ 2500
  few = omega (arith, (sound a g.one).packets_few)

  pub both_have : (p : ℕ) → p < common a b → (has_packet a p ≡ true) × (has_packet b p ≡ true)
  both_have p h = (packet_here (sound a g.one) p (omega arith), packet_here (sound b g.two) p (omega arith))

module _ (file : List ℕ) {p first : ℕ} (e : check_of file ≡ 0) (h : p < packets file)
    (f : first ≡ words_before file p) where
  words_few : first ≤ 6000
  words_few = let s = sound file e in omega (arith, words_at_most s p (omega arith), s.words_few)

  has_word_lem : (part : ℕ) → part < 10 * count_at file p → has_word file (first + part / 10) ≡ true
  has_word_lem part k =
      let s = sound file e in
      let most = words_at_most s (p + 1) (omega arith) in
      word_here s (first + part / 10) (omega (arith, one_more file p))

module _ {a b : List ℕ} {l : Listing} (g : AtByte a b l) where
  pub both_few : (l.first ≤ 6000) × (l.second ≤ 6000)
  both_few =
      (words_few a g.at.both.one (omega (arith, g.within)) g.at.one, words_few b g.at.both.two (omega (arith, g.within)) g.at.two)

  pub both_have_word : l.part < 10 * common_words a b l.packet → (has_word a (l.first + l.part / 10) ≡ true)
      × (has_word b (l.second + l.part / 10) ≡ true)
  both_have_word h = (
    has_word_lem a g.at.both.one (omega (arith, g.within)) g.at.one l.part (omega arith),
    has_word_lem b g.at.both.two (omega (arith, g.within)) g.at.two l.part (omega arith),
  )

-- A place: its line, or nothing.
module _ (next : Listing) (here : Place) where
  pub said : {after : Listing} {d d' : List ℕ} {n : ℕ} → (here.first ≡ here.second → ⊥) → Puts (line_of here) d n d'
      → after ≡ counted 1 next
      → Prints (tell next here) d after n d'
  said h p q = rw (ne_eqb here.first here.second h) (record { next_is = q; puts = p })

  pub unsaid : (d : List ℕ) → here.first ≡ here.second → Prints (tell next here) d next 0 d
  unsaid d h = rw (eq-eqb here.first here.second h) (record { next_is = refl; puts = none_put d })

-- The steps.
module _ (a b : List ℕ) (l : Listing) {next : Listing} {d d' : List ℕ} {n : ℕ} where
  pub packets_looked : {x y : ℕ} → x ≡ packets a → y ≡ packets b
      → Prints (tell (standing S.Words 0 0 0 0 l.count) (place W.Packets x y)) d next n d'
      → Prints (packets_step a b l) d next n d'
  packets_looked p q s = rw (p, q) at s

  pub words_looked : {x y : ℕ} → x ≡ words a → y ≡ words b
      → Prints (tell (standing S.Counts 0 0 0 0 l.count) (place W.Words x y)) d next n d'
      → Prints (words_step a b l) d next n d'
  words_looked p q s = rw (p, q) at s

  pub counts_looked : {m x y : ℕ} → m ≡ common a b → l.packet < m → x ≡ count_at a l.packet
      → y ≡ count_at b l.packet
      → Prints (tell (standing S.Counts (l.packet + 1) 0 0 0 l.count) (place (W.Count l.packet) x y)) d next n d'
      → Prints (counts_step a b l) d next n d'
  counts_looked e h p q s = rw (lt-ltb l.packet (common a b) (omega (arith, e, h))) (rw (p, q) at s)

  pub fields_looked : {x y : ℕ} → l.part < 7 → x ≡ field_of (packet_at a l.packet) l.part
      → y ≡ field_of (packet_at b l.packet) l.part
      → Prints (tell (standing S.Fields l.packet (l.part + 1) l.first l.second l.count)
      (place (W.Field l.packet l.part) x y)) d next n d'
      → Prints (fields_step a b l) d next n d'
  fields_looked h u v s = rw (lt-ltb l.part 7 h) (rw (u, v) at s)

  pub bytes_looked : {i j k x y : ℕ} → i ≡ count_at a l.packet → j ≡ count_at b l.packet → k ≡ min i j
      → l.part < 10 * k
      → l.first ≡ words_before a l.packet → l.second ≡ words_before b l.packet
      → x ≡ number_at a (word_place a (l.first + l.part / 10) + l.part % 10) 1
      → y ≡ number_at b (word_place b (l.second + l.part / 10) + l.part % 10) 1
      → Prints (tell (standing S.Bytes l.packet (l.part + 1) l.first l.second l.count)
      (place (W.Byte l.packet (l.part / 10) (l.part % 10)) x y)) d next n d'
      → Prints (bytes_step a b l) d next n d'
  bytes_looked p q e h f g u v s =
      let x-is = u ∙ ap (λ (n : ℕ). number_at a (word_place a (n + l.part / 10) + l.part % 10) 1) f in
      let y-is = v ∙ ap (λ (n : ℕ). number_at b (word_place b (n + l.part / 10) + l.part % 10) 1) g in
      rw (lt-ltb l.part (10 * common_words a b l.packet) (omega (arith, p, q, e, h))) (rw (x-is, y-is) at s)

module _ (a b : List ℕ) (l : Listing) (d : List ℕ) where
  pub counts_passed : {n : ℕ} → n ≡ common a b → n ≤ l.packet
      → Prints (counts_step a b l) d (standing S.Packet 0 0 0 0 l.count) 0 d
  counts_passed e h =
      rw (le-ltb l.packet (common a b) (omega (arith, e, h))) (record { next_is = refl; puts = none_put d })

  pub fields_passed : 7 ≤ l.part
      → Prints (fields_step a b l) d (standing S.Bytes l.packet 0 l.first l.second l.count) 0 d
  fields_passed h = rw (le-ltb l.part 7 h) (record { next_is = refl; puts = none_put d })

  pub bytes_passed : {n m k : ℕ} → n ≡ count_at a l.packet → m ≡ count_at b l.packet → k ≡ min n m
      → 10 * k ≤ l.part
      → Prints (bytes_step a b l) d (standing S.Packet (l.packet + 1) 0 (l.first + n) (l.second + m) l.count) 0 d
  bytes_passed p q e h =
      rw (le-ltb l.part (10 * common_words a b l.packet) (omega (arith, p, q, e, h)))
      (record { next_is = rw (p, q); puts = none_put d })

  pub packet_more : {n : ℕ} → n ≡ common a b → l.packet < n
      → standing S.Fields l.packet 0 l.first l.second l.count ≡ (packet_step a b l).next
  packet_more e h = rw (lt-ltb l.packet (common a b) (omega (arith, e, h)))

  pub packet_last : {n : ℕ} → n ≡ common a b → n ≤ l.packet
      → standing S.Last 0 0 0 0 l.count ≡ (packet_step a b l).next
  packet_last e h = rw (le-ltb l.packet (common a b) (omega (arith, e, h)))

  -- Whether there is a packet more prints nothing.
  pub packet_quiet : {next : Listing} → next ≡ (packet_step a b l).next → Prints (packet_step a b l) d next 0 d
  packet_quiet e = record { next_is = e; puts = at (ltb l.packet (common a b)) }
    where
      at : (t : Bool)
          → Puts (cond t (nothing (standing S.Fields l.packet 0 l.first l.second l.count))
          (nothing (standing S.Last 0 0 0 0 l.count))).text d 0 d
      at true = none_put d
      at false = none_put d
