-- The file of entries is a bench file that is not refused, and its packets and words are the entries, in order.
-- Assumes nothing.
use Prim.Native.Nat.{ℕ, zero, suc, ◌+◌, ◌*◌, ◌^◌, ◌≤◌, ◌<◌}
use mathlib.Core.Path.{◌≡◌, refl, sym, ap, ap₂, ◌∙◌}
use mathlib.Core.Bool.{Bool, true, false, cond}
use mathlib.Core.List.{List, [], ◌∷◌, ◌++◌, map, append_assoc}
use native.Mathlib.Nat.{add-zero, mod-eq_of_lt}
use native.Mathlib.Omega.{arith}
use borrow.Author.Tests.{le-ltb, eq-eqb, ne_eqb, le-leb}
use lib.Dec.{eqb}
use lib.ListN.{length, take, drop, length-append}
use lib.Seq.{take_at, drop_at, drop-drop}
use Rattle.words.specs.Word.{word_bytes, number}
use Rattle.words.specs.LittleEndian.{number_at}
use Rattle.words.proofs.Tests.{tests}
use Rattle.writer.specs.Write.{bytes_of}
use Rattle.writer.proofs.Bytes.{bytes_long, number_bytes}
use Rattle.packet.specs.declared.Packet.{Packet}
use Rattle.packet.specs.Packet.{in_range, max_words}
use Rattle.bench_file.specs.File.{header_bytes, most_bytes, packets, words, packet_offset, word_offset, packet_of}
use Rattle.bench_file.specs.File.{count_of, packet_place, count_at, word_place, bytes_at}
use Rattle.bench_file.specs.File.{words_before, misfit, refusal_by, packet_refusal, first_refusal, check_of}
use Rattle.bench_file.specs.Items.{word_items, packet_items, items}
use Rattle.bench_writer.specs.Content.{Entry, packet, word, packets_in, words_in, leading, packet_as, table, bodies, header, file_of, size_of}
use Rattle.bench_writer.specs.Content.{EachFine, Fine, entry_of}
use Rattle.bench_writer.proofs.Entries.{table_long, bodies_long, packet_long}

-- A packet that is in range has each field below its width.
format_low : (f : ℕ) → (eqb f 0 ≡ false → f ≡ 2) → f < 256
format_low zero h = omega arith
format_low (suc f) h = omega (arith, h (ne_eqb (suc f) 0 (λ (z : suc f ≡ 0). omega arith)))

record PacketRead (file : List ℕ) (at : ℕ) (p : Packet) (n : ℕ) : Type 0 where
  pub packet_is : packet_of file at ≡ p
  pub count_is : count_of file at ≡ n

-- Entries stand in a file from packet i and word n on.
record Stand (file : List ℕ) (es : List Entry) (i n : ℕ) : Type 0 where
  pub each : EachFine es
  pub rest : List ℕ
  pub table_is : drop (packet_place i) file ≡ table es ++ rest
  pub bodies_are : drop (word_place file n) file ≡ bodies es

module _ (file : List ℕ) where
  -- A number that stands at a place is read there, and what follows it follows.
  number_at_lem : (at n v : ℕ) (rest : List ℕ) → drop at file ≡ bytes_of n v ++ rest → v < 2 ^ (8 * n) → number_at file at n ≡ v
  unfolding number_at
  number_at_lem at n v rest h small =
      ap (λ (l : List ℕ). number (take n l)) h ∙ ap number (take_at (bytes_of n v) rest n (bytes_long n v)) ∙ number_bytes n v ∙ mod-eq_of_lt small

  behind : (at : ℕ) (list rest : List ℕ) (n next : ℕ) → length list ≡ n → at + n ≡ next → drop at file ≡ list ++ rest → drop next file ≡ rest
  behind at list rest n next long e h =
      ap (λ (k : ℕ). drop k file) (sym e) ∙ sym (drop-drop n at file) ∙ ap (drop n) h ∙ drop_at list rest n long

  number_behind : (at n v : ℕ) (rest : List ℕ) (next : ℕ) → at + n ≡ next → drop at file ≡ bytes_of n v ++ rest → drop next file ≡ rest
  number_behind at n v rest next e h = behind at (bytes_of n v) rest n next (bytes_long n v) e h

  packet_read : (at : ℕ) (p : Packet) (n : ℕ) (rest : List ℕ) → in_range p ≡ true → n ≤ max_words → drop at file ≡ packet_as p n ++ rest
      → PacketRead file at p n
  unfolding bytes_of
  packet_read at p n rest fits few h =
      let (position, (orbit, (trigger, (bc, (page, (stop, format)))))) = simp tests at fits in
      let h1 : drop at file ≡ bytes_of 8 p.position ++ _ = h in
      let h2 = number_behind at 8 p.position _ (at + 8) (omega arith) h1 in
      let h3 = number_behind (at + 8) 4 p.orbit _ (at + 12) (omega arith) h2 in
      let h4 = number_behind (at + 12) 4 p.trigger _ (at + 16) (omega arith) h3 in
      let h5 = number_behind (at + 16) 2 p.bc _ (at + 18) (omega arith) h4 in
      let h6 = number_behind (at + 18) 2 p.page _ (at + 20) (omega arith) h5 in
      let h7 = number_behind (at + 20) 1 p.stop _ (at + 21) (omega arith) h6 in
      let h8 = number_behind (at + 21) 1 p.format _ (at + 22) (omega arith) h7 in
      let e1 = number_at_lem at 8 p.position _ h1 (omega arith) in
      let e2 = number_at_lem (at + 8) 4 p.orbit _ h2 (omega arith) in
      let e3 = number_at_lem (at + 12) 4 p.trigger _ h3 (omega arith) in
      let e4 = number_at_lem (at + 16) 2 p.bc _ h4 (omega arith) in
      let e5 = number_at_lem (at + 18) 2 p.page _ h5 (omega arith) in
      let e6 = number_at_lem (at + 20) 1 p.stop _ h6 (omega arith) in
      let e7 = number_at_lem (at + 21) 1 p.format _ h7 (format_low p.format format) in
      record {
        packet_is = λ i. record { position = e1 i; orbit = e2 i; trigger = e3 i; bc = e4 i; page = e5 i; stop = e6 i; format = e7 i };
        count_is = number_at_lem (at + 22) 2 n rest h8 (omega arith);
      }

  past_word_lem : (w : List ℕ) (es : List Entry) (i n : ℕ) → Stand file (word w ∷ es) i n
      → (bytes_at file (word_place file n) ≡ w) × Stand file es i (suc n)
  unfolding table bodies
  past_word_lem w es i n s = (
    ap (take 10) s.bodies_are ∙ take_at w (bodies es) 10 s.each.0,
    record {
      each = s.each.1;
      rest = s.rest;
      table_is = s.table_is;
      bodies_are = behind (word_place file n) w (bodies es) 10 (word_place file (suc n)) s.each.0 (omega arith) s.bodies_are;
    },
  )

  past_packet_lem : (p : Packet) (es : List Entry) (i n : ℕ) → Stand file (packet p ∷ es) i n
      → PacketRead file (packet_place i) p (leading es) × Stand file es (suc i) n
  unfolding table bodies
  past_packet_lem p es i n s =
      let head = packet_as p (leading es) in
      let later = table es ++ s.rest in
      let here : drop (packet_place i) file ≡ head ++ later = s.table_is ∙ append_assoc head (table es) s.rest in (
        packet_read (packet_place i) p (leading es) later s.each.0 s.each.1.0 here,
        record {
          each = s.each.1.1;
          rest = s.rest;
          table_is = behind (packet_place i) head later 24 (packet_place (suc i)) (packet_long p (leading es)) (omega arith) here;
          bodies_are = s.bodies_are;
        },
      )

  -- The items from there on are the entries.
  items_are : (es : List Entry) (i n : ℕ) → Stand file es i n
      → map entry_of (word_items file (leading es) n ++ packet_items file (packets_in es) i (n + leading es)) ≡ es
  unfolding word_items packet_items leading packets_in
  items_are [] i n s = refl
  items_are (word w ∷ es) i n s =
      let (is, next) = past_word_lem w es i n s in
      let e : n + suc (leading es) ≡ suc n + leading es = omega arith in
      ap₂ {C = List Entry} (λ (b : List ℕ) (l : List Entry). word b ∷ l) is
      (ap (λ (k : ℕ). map entry_of (word_items file (leading es) (suc n) ++ packet_items file (packets_in es) i k)) e ∙ items_are es i (suc n) next)
  items_are (packet p ∷ es) i n s =
      let (read, next) = past_packet_lem p es i n s in
      ap (λ (k : ℕ). map entry_of (packet_items file (suc (packets_in es)) i k)) (add-zero n)
      ∙ ap₂ {C = List Entry} (λ (q : Packet) (l : List Entry). packet q ∷ l) read.packet_is
      (ap (λ (k : ℕ). map entry_of (word_items file k n ++ packet_items file (packets_in es) (suc i) (n + k))) read.count_is ∙ items_are es (suc i) n next)

  -- The counts sum to the words.
  sum_is : (es : List Entry) (i n : ℕ) → Stand file es i n → words_before file i + words_in es ≡ words_before file (i + packets_in es) + leading es
  unfolding words_before words_in packets_in leading
  sum_is [] i n s = ap (λ (k : ℕ). words_before file k + 0) (sym (add-zero i))
  sum_is (word w ∷ es) i n s = omega (arith, sum_is es i (suc n) (past_word_lem w es i n s).1)
  sum_is (packet p ∷ es) i n s =
      let (read, next) = past_packet_lem p es i n s in
      let count = read.count_is in
      let e : suc i + packets_in es ≡ i + suc (packets_in es) = omega arith in
      let more : words_before file i + count_at file i + words_in es ≡ words_before file (i + suc (packets_in es)) + leading es =
      sum_is es (suc i) n next ∙ ap (λ (k : ℕ). words_before file k + leading es) e in
      omega arith

  -- No packet is refused.
  none_refused : (es : List Entry) (i n : ℕ) → Stand file es i n → first_refusal file (packets_in es) i ≡ 0
  unfolding first_refusal packets_in
  none_refused [] i n s = refl
  none_refused (word w ∷ es) i n s = none_refused es i (suc n) (past_word_lem w es i n s).1
  none_refused (packet p ∷ es) i n s =
      let (read, next) = past_packet_lem p es i n s in
      let few = le-leb (count_at file i) max_words (omega (arith, read.count_is, s.each.1.0)) in
      let zero_is : packet_refusal file (packet_place i) ≡ 0 = ap₂ refusal_by (ap in_range read.packet_is ∙ s.each.0) few in
      ap (λ (k : ℕ). cond (eqb k 0) (first_refusal file (packets_in es) (suc i)) k) zero_is ∙ none_refused es (suc i) n next

-- The whole file.
record Headed (es : List Entry) : Type 0 where
  pub packets_are : packets (file_of es) ≡ packets_in es
  pub words_are : words (file_of es) ≡ words_in es
  pub packets_from : packet_offset (file_of es) ≡ header_bytes
  pub words_from : word_offset (file_of es) ≡ packet_place (packets_in es)
  pub long : length (file_of es) ≡ size_of (packets_in es) (words_in es)

module _ (es : List Entry) (f : Fine es) where
  abbrev file : List ℕ
  file = file_of es

  headed : Headed es
  unfolding bytes_of file_of
  headed =
      let p = packets_in es in
      let w = words_in es in
      let short = f.short in
      let h1 : drop 0 file ≡ bytes_of 4 p ++ _ = refl in
      let h2 = number_behind file 0 4 p _ 4 (omega arith) h1 in
      let h3 = number_behind file 4 4 w _ 8 (omega arith) h2 in
      let h4 = number_behind file 8 4 16 _ 12 (omega arith) h3 in
      record {
        packets_are = number_at_lem file 0 4 p _ h1 (omega arith);
        words_are = number_at_lem file 4 4 w _ h2 (omega arith);
        packets_from = number_at_lem file 8 4 16 _ h3 (omega arith);
        words_from = number_at_lem file 12 4 (packet_place p) _ h4 (omega arith);
        long =
            length-append (header p w) (table es ++ bodies es)
            ∙ omega (arith, length-append (table es) (bodies es), table_long es, bodies_long es f.each);
      }

  stand : Stand file es 0 0
  unfolding bytes_of file_of
  stand =
      let head = header (packets_in es) (words_in es) in
      let place : word_place file 0 ≡ packet_place (packets_in es) = omega (arith, headed.packets_are) in
      let long : length (head ++ table es) ≡ packet_place (packets_in es) = length-append head (table es) ∙ omega (arith, table_long es) in
      record {
        each = f.each;
        rest = bodies es;
        table_is = refl;
        bodies_are =
            ap₂ (λ (k : ℕ) (l : List ℕ). drop k l) place (sym (append_assoc head (table es) (bodies es)))
            ∙ drop_at (head ++ table es) (bodies es) (packet_place (packets_in es)) long;
      }

  fits : misfit file ≡ false
  unfolding misfit
  fits =
      let h = headed in
      let short = f.short in
      let whole : length file ≡ word_offset file + word_bytes * words file = omega (arith, h.long, h.words_from, h.words_are) in
      let offset : word_offset file ≡ packet_place (packets file) = h.words_from ∙ ap packet_place (sym h.packets_are) in
      simp (
        le-ltb (length file) header_bytes (omega (arith, h.long)),
        le-ltb most_bytes (length file) (omega (arith, h.long)),
        eq-eqb _ _ h.packets_from,
        eq-eqb _ _ offset,
        eq-eqb _ _ whole,
      )

  sums : words_before file (packets file) ≡ words file
  unfolding words_before
  sums =
      let z : 0 + packets_in es ≡ packets_in es = omega arith in
      let sum = sum_is file es 0 0 stand in
      let first = f.packet_first in
      ap (words_before file) (headed.packets_are ∙ sym z) ∙ omega (arith, sum, first) ∙ sym headed.words_are

-- It is not refused ..
pub file_checks : (es : List Entry) → Fine es → check_of (file_of es) ≡ 0
unfolding check_of
file_checks es f =
    let file = file_of es in
    ap (λ (b : Bool). cond b 6 (cond (eqb (words_before file (packets file)) (words file)) (first_refusal file (packets file) 0) 7)) (fits es f)
    ∙ ap (λ (b : Bool). cond b (first_refusal file (packets file) 0) 7) (eq-eqb _ _ (sums es f))
    ∙ ap (λ (k : ℕ). first_refusal file k 0) (headed es f).packets_are
    ∙ none_refused file es 0 0 (stand es f)

-- .. and its items are the entries.
pub file_items : (es : List Entry) → Fine es → map entry_of (items (file_of es)) ≡ es
unfolding items word_items
file_items es f =
    let file = file_of es in
    ap (λ (k : ℕ). map entry_of (packet_items file k 0 0)) (headed es f).packets_are
    ∙ ap (λ (k : ℕ). map entry_of (word_items file k 0 ++ packet_items file (packets_in es) 0 (0 + k))) (sym f.packet_first)
    ∙ items_are file es 0 0 (stand es f)
