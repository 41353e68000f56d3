-- What a buffer holds: nothing at the start, an entry more after each that is taken, and the file once the header is put.
-- Assumes nothing.
use Prim.Native.Nat.{ℕ, ◌+◌, ◌-◌, ◌*◌, ◌≤◌, ◌<◌}
use mathlib.Core.Path.{◌≡◌, refl, sym, ap, ap₂, ◌∙◌}
use mathlib.Core.List.{List, [], ◌∷◌, ◌++◌, append_assoc, append-nil}
use native.Mathlib.Omega.{arith}
use lib.ListN.{length, take, drop, length-append, length-drop, take-append-drop}
use lib.Seq.{take-append-add, take_at, drop_at, length-take-le}
use Rattle.words.specs.Word.{word_bytes}
use Rattle.writer.specs.Write.{bytes_of}
use Rattle.writer.proofs.Bytes.{bytes_long}
use Rattle.packet.specs.declared.Packet.{Packet}
use Rattle.bench_file.specs.File.{header_bytes, packet_bytes, most_bytes}
use Rattle.bench_writer.specs.declared.Draft.{Draft}
use Rattle.bench_writer.specs.Content.{Entry, packet, word, packets_in, words_in, leading, trailing, packet_as, table, bodies, header, file_of, size_of, Fine}
use Rattle.bench_writer.specs.Draft.{no_draft, size, packet_end, GoodDraft, put_at, packet_refusal, with_packet, packet_in}
use Rattle.bench_writer.specs.Draft.{word_refusal, with_word, word_in, Holds}
use Rattle.bench_writer.proofs.Putting.{over}
use Rattle.bench_writer.proofs.Adding.{packet_fits, word_fits}
use Rattle.bench_writer.proofs.Entries.{packets_append, words_append, trailing_append, bodies_append, leading_append, table_append, each_append}
use Rattle.bench_writer.proofs.Entries.{table_long, bodies_long, leading_kept, table_word, each_word}

-- A buffer in four parts: room for the header, the packets, the words, the rest.
record Parts (buffer : List ℕ) (es : List Entry) : Type 0 where
  pub top : List ℕ
  pub rest : List ℕ
  pub top_long : length top ≡ header_bytes
  pub rest_long : size_of (packets_in es) (words_in es) + length rest ≡ most_bytes
  pub whole : buffer ≡ top ++ (table es ++ (bodies es ++ rest))

-- The counts of a draft, one by one.
record Counts (d : Draft) (es : List Entry) : Type 0 where
  pub packets_are : d.packets ≡ packets_in es
  pub words_are : d.words ≡ words_in es
  pub last_is : d.last ≡ trailing 0 es

-- To hold entries is to have these parts and counts.
held : (buffer : List ℕ) (d : Draft) (es : List Entry) → Fine es → Counts d es → Parts buffer es → Holds buffer d es
held buffer d es fine c a =
    let n = size d - header_bytes in
    let lt = table_long es in
    let lb = bodies_long es fine.each in
    let both : length (table es ++ bodies es) ≡ n = length-append (table es) (bodies es) ∙ omega (arith, lt, lb, c.packets_are, c.words_are) in
    record {
      fine = fine;
      draft_is = λ i. record { packets = c.packets_are i; words = c.words_are i; last = c.last_is i };
      long =
          ap length a.whole
          ∙ length-append a.top (table es ++ (bodies es ++ a.rest))
          ∙ omega (arith, length-append (table es) (bodies es ++ a.rest), length-append (bodies es) a.rest, lt, lb, a.top_long, a.rest_long);
      bytes =
          ap (λ (l : List ℕ). take n (drop 16 l)) a.whole
          ∙ ap (take n) (drop_at a.top _ 16 a.top_long ∙ sym (append_assoc (table es) (bodies es) a.rest))
          ∙ take_at (table es ++ bodies es) a.rest n both;
    }

module _ {buffer : List ℕ} {d : Draft} {es : List Entry} (h : Holds buffer d es) where
  counts : Counts d es
  counts =
      record {
        packets_are = ap (λ (x : Draft). x.packets) h.draft_is;
        words_are = ap (λ (x : Draft). x.words) h.draft_is;
        last_is = ap (λ (x : Draft). x.last) h.draft_is;
      }

  size_is : size d ≡ size_of (packets_in es) (words_in es)
  size_is = omega (arith, counts.packets_are, counts.words_are)

  parts : Parts buffer es
  parts =
      let n = size d - header_bytes in
      let rest = drop n (drop 16 buffer) in
      record {
        top = take 16 buffer;
        rest = rest;
        top_long = length-take-le 16 buffer (omega (arith, h.long));
        rest_long = omega (arith, length-drop n (drop 16 buffer), length-drop 16 buffer, h.long, h.fine.short, size_is);
        whole =
            sym (take-append-drop 16 buffer)
            ∙ ap (λ (l : List ℕ). take 16 buffer ++ l)
            (sym (take-append-drop n (drop 16 buffer)) ∙ ap (λ (l : List ℕ). l ++ rest) h.bytes ∙ append_assoc (table es) (bodies es) rest);
      }

  pub holds_good : GoodDraft buffer d
  holds_good = record { long = h.long; short = omega (arith, size_is, h.fine.short) }

  front_long : length (parts.top ++ table es) ≡ packet_end d
  front_long = length-append parts.top (table es) ∙ omega (arith, parts.top_long, table_long es, counts.packets_are)

  -- A packet stands behind the packets.
  packet_in_parts : (p : Packet)
      → packet_in d p buffer ≡ parts.top ++ ((table es ++ packet_as p 0) ++ (bodies es ++ drop (size d + packet_bytes) buffer))
  unfolding packet_in
  packet_in_parts p =
      let at = packet_end d in
      let n = size d - at in
      let a = parts in
      let front = a.top ++ table es in
      let behind = bodies es ++ a.rest in
      let rest = drop (size d + packet_bytes) buffer in
      let whole : buffer ≡ front ++ behind = a.whole ∙ sym (append_assoc a.top (table es) behind) in
      let words_long : length (bodies es) ≡ n = omega (arith, bodies_long es h.fine.each, counts.words_are) in
      ap₂ (λ (x y : List ℕ). x ++ (packet_as p 0 ++ (y ++ rest)))
      (ap (take at) whole ∙ take_at front behind at front_long)
      (ap (λ (l : List ℕ). take n (drop at l)) whole
      ∙ ap (take n) (drop_at front behind at front_long)
      ∙ take_at (bodies es) a.rest n words_long)
      ∙ simp append_assoc

module _ {buffer : List ℕ} {d : Draft} {es : List Entry} (h : Holds buffer d es) (w : List ℕ) where
  abbrev more : List Entry
  more = es ++ (word w ∷ [])

  abbrev a : Parts buffer es
  a = parts h

  -- A word is counted by the last packet ..
  abbrev counted : List ℕ
  counted = put_at (packet_end d - 2) (bytes_of 2 (d.last + 1)) buffer

  counted_in_parts : 0 < packets_in es → counted ≡ a.top ++ (table more ++ (bodies es ++ a.rest))
  counted_in_parts some =
      let count = bytes_of 2 (d.last + 1) in
      let k = packet_bytes * packets_in es - 2 in
      let first = take k (table es) in
      let last = drop k (table es) in
      let behind = bodies es ++ a.rest in
      let c = counts h in
      let long = table_long es in
      let k-long : length first ≡ k = length-take-le k (table es) (omega (arith, long)) in
      let split : buffer ≡ (a.top ++ first) ++ (last ++ behind) =
      a.whole ∙ ap (λ (l : List ℕ). a.top ++ (l ++ behind)) (sym (take-append-drop k (table es))) ∙ simp append_assoc in
      let table_is : table more ≡ first ++ count = table_word es w some ∙ ap (λ (n : ℕ). first ++ bytes_of 2 (n + 1)) (sym c.last_is) in
      over (packet_end d - 2) count buffer (a.top ++ first) last behind split
      (length-append a.top first ∙ omega (arith, a.top_long, k-long, some, c.packets_are))
      (length-drop k (table es) ∙ omega (arith, long, some, bytes_long 2 (d.last + 1)))
      ∙ rw table_is (simp append_assoc)

  -- .. and stands behind the words.
  word_in_parts : length w ≡ word_bytes → 0 < packets_in es → size d + word_bytes ≤ most_bytes
      → word_in d w buffer ≡ a.top ++ (table more ++ ((bodies es ++ w) ++ drop word_bytes a.rest))
  unfolding word_in packets_in
  word_in_parts ten some room =
      let front = a.top ++ (table more ++ bodies es) in
      let next = take 10 a.rest in
      let split : counted ≡ front ++ (next ++ drop 10 a.rest) =
      counted_in_parts some ∙ rw (take-append-drop 10 a.rest) (simp append_assoc) in
      let long : length front ≡ size d =
      length-append a.top (table more ++ bodies es)
      ∙ omega (
        arith,
        length-append (table more) (bodies es),
        a.top_long,
        table_long more,
        packets_append es (word w ∷ []),
        bodies_long es h.fine.each,
        size_is h,
      ) in
      let next-long : length next ≡ length w = length-take-le 10 a.rest (omega (arith, a.rest_long, room, size_is h)) ∙ sym ten in
      over (size d) w counted front next (drop 10 a.rest) split long next-long ∙ simp append_assoc

-- Nothing yet.
pub start_holds : (buffer : List ℕ) → length buffer ≡ most_bytes → Holds buffer no_draft []
unfolding packets_in words_in leading trailing table bodies
start_holds buffer e =
    record { fine = record { each = tt; packet_first = refl; short = omega arith }; draft_is = refl; long = e; bytes = refl }

-- A packet more.
pub packet_holds : (buffer : List ℕ) (d : Draft) (p : Packet) (es : List Entry) → Holds buffer d es → packet_refusal d p ≡ 0
    → Holds (packet_in d p buffer) (with_packet d) (es ++ (packet p ∷ []))
unfolding packets_in words_in leading trailing table bodies
packet_holds buffer d p es h none =
    let fits = packet_fits d p none in
    let more = packet p ∷ [] in
    let c = counts h in
    let packets_are = packets_append es more in
    let words_are = words_append es more in
    let table_is : table (es ++ more) ≡ table es ++ packet_as p 0 =
    table_append es more refl ∙ ap (λ (l : List ℕ). table es ++ l) (append-nil (packet_as p 0)) in
    let bodies_are : bodies (es ++ more) ≡ bodies es = bodies_append es more ∙ append-nil (bodies es) in
    held (packet_in d p buffer) (with_packet d) (es ++ more)
    (record {
      each = each_append es more refl h.fine.each (fits.in_range_is, (omega arith, tt));
      packet_first = leading_append es more refl ∙ h.fine.packet_first;
      short = omega (arith, packets_are, words_are, size_is h, fits.room);
    })
    (record {
      packets_are = omega (arith, packets_are, c.packets_are);
      words_are = omega (arith, words_are, c.words_are);
      last_is = sym (trailing_append 0 es more);
    })
    (record {
      top = (parts h).top;
      rest = drop (size d + packet_bytes) buffer;
      top_long = (parts h).top_long;
      rest_long = omega (arith, length-drop (size d + packet_bytes) buffer, h.long, fits.room, packets_are, words_are, size_is h);
      whole = packet_in_parts h p ∙ rw (table_is, bodies_are);
    })

-- A word more.
pub word_holds : (buffer : List ℕ) (d : Draft) (w : List ℕ) (es : List Entry) → length w ≡ word_bytes → Holds buffer d es → word_refusal d ≡ 0
    → Holds (word_in d w buffer) (with_word d) (es ++ (word w ∷ []))
unfolding packets_in words_in trailing bodies
word_holds buffer d w es ten h none =
    let fits = word_fits d none in
    let more = word w ∷ [] in
    let c = counts h in
    let a = parts h in
    let some : 0 < packets_in es = omega (arith, fits.some, c.packets_are) in
    let packets_are = packets_append es more in
    let words_are = words_append es more in
    let bodies_are : bodies (es ++ more) ≡ bodies es ++ w = bodies_append es more ∙ ap (λ (l : List ℕ). bodies es ++ l) (append-nil w) in
    held (word_in d w buffer) (with_word d) (es ++ more)
    (record {
      each = each_word es w 0 h.fine.each ten (omega (arith, fits.few, c.last_is));
      packet_first = leading_kept es more some ∙ h.fine.packet_first;
      short = omega (arith, packets_are, words_are, size_is h, fits.room);
    })
    (record {
      packets_are = omega (arith, packets_are, c.packets_are);
      words_are = omega (arith, words_are, c.words_are);
      last_is = omega (arith, trailing_append 0 es more, c.last_is);
    })
    (record {
      top = a.top;
      rest = drop word_bytes a.rest;
      top_long = a.top_long;
      rest_long = omega (arith, length-drop word_bytes a.rest, a.rest_long, fits.room, packets_are, words_are, size_is h);
      whole = word_in_parts h w ten some fits.room ∙ rw bodies_are;
    })

-- The header is put, and the file stands there.
pub finish_file : (buffer : List ℕ) (d : Draft) (es : List Entry) → Holds buffer d es
    → take (size d) (put_at 0 (header d.packets d.words) buffer) ≡ file_of es
unfolding bytes_of file_of
finish_file buffer d es h =
    let head = header d.packets d.words in
    let n = size d - header_bytes in
    let e : size d ≡ length head + n = omega arith in
    ap (λ (k : ℕ). take k (head ++ drop 16 buffer)) e
    ∙ take-append-add head (drop 16 buffer) n
    ∙ ap₂ ◌++◌ (ap₂ header (counts h).packets_are (counts h).words_are) h.bytes
