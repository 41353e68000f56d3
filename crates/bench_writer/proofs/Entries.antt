-- Lists of entries: what more entries at the end do to the counts, the packets and the words.
-- Assumes nothing.
use Prim.Native.Nat.{ℕ, suc, ◌+◌, ◌-◌, ◌*◌, ◌≤◌, ◌<◌}
use mathlib.Core.Path.{◌≡◌, refl, sym, ap, ap₂, ◌∙◌, subst}
use mathlib.Core.Logic.{⊎_elim}
use mathlib.Core.List.{List, [], ◌∷◌, ◌++◌, append_assoc, append-nil}
use native.Mathlib.Nat.{eq-zero-or-pos}
use native.Mathlib.Omega.{arith}
use lib.ListN.{length, take, length-append}
use lib.Seq.{take-append-add, take_at}
use Rattle.words.specs.Word.{word_bytes}
use Rattle.writer.specs.Write.{bytes_of}
use Rattle.packet.specs.declared.Packet.{Packet}
use Rattle.packet.specs.Packet.{max_words}
use Rattle.bench_file.specs.File.{packet_bytes}
use Rattle.bench_writer.specs.Content.{Entry, packet, word, packets_in, words_in, leading, trailing, packet_front, packet_as, table, bodies, EachFine}

-- How long the packets and the words are.
pub packet_long : (p : Packet) (n : ℕ) → length (packet_as p n) ≡ packet_bytes
unfolding bytes_of
packet_long p n = refl

pub table_long : (es : List Entry) → length (table es) ≡ packet_bytes * packets_in es
unfolding packets_in table
table_long [] = refl
table_long (packet p ∷ es) = length-append (packet_as p (leading es)) (table es) ∙ omega (arith, packet_long p (leading es), table_long es)
table_long (word w ∷ es) = table_long es

pub bodies_long : (es : List Entry) → EachFine es → length (bodies es) ≡ word_bytes * words_in es
unfolding words_in bodies
bodies_long [] each = refl
bodies_long (packet p ∷ es) each = bodies_long es each.1.1
bodies_long (word w ∷ es) each = length-append w (bodies es) ∙ omega (arith, each.0, bodies_long es each.1)

-- More entries.
pub packets_append : (es fs : List Entry) → packets_in (es ++ fs) ≡ packets_in es + packets_in fs
unfolding packets_in
packets_append [] fs = omega arith
packets_append (packet p ∷ es) fs = omega (arith, packets_append es fs)
packets_append (word w ∷ es) fs = packets_append es fs

pub words_append : (es fs : List Entry) → words_in (es ++ fs) ≡ words_in es + words_in fs
unfolding words_in
words_append [] fs = omega arith
words_append (packet p ∷ es) fs = words_append es fs
words_append (word w ∷ es) fs = omega (arith, words_append es fs)

pub trailing_append : (n : ℕ) (es fs : List Entry) → trailing n (es ++ fs) ≡ trailing (trailing n es) fs
unfolding trailing
trailing_append n [] fs = refl
trailing_append n (packet p ∷ es) fs = trailing_append 0 es fs
trailing_append n (word w ∷ es) fs = trailing_append (suc n) es fs

pub bodies_append : (es fs : List Entry) → bodies (es ++ fs) ≡ bodies es ++ bodies fs
unfolding bodies
bodies_append [] fs = refl
bodies_append (packet p ∷ es) fs = bodies_append es fs
bodies_append (word w ∷ es) fs = ap (λ (l : List ℕ). w ++ l) (bodies_append es fs) ∙ sym (append_assoc w (bodies es) (bodies fs))

-- Where no word is first among them, they count for no packet before them.
pub leading_append : (es fs : List Entry) → leading fs ≡ 0 → leading (es ++ fs) ≡ leading es
unfolding leading
leading_append [] fs e = e
leading_append (packet p ∷ es) fs e = refl
leading_append (word w ∷ es) fs e = ap suc (leading_append es fs e)

pub table_append : (es fs : List Entry) → leading fs ≡ 0 → table (es ++ fs) ≡ table es ++ table fs
unfolding table
table_append [] fs e = refl
table_append (packet p ∷ es) fs e =
    ap₂ (λ (n : ℕ) (l : List ℕ). packet_as p n ++ l) (leading_append es fs e) (table_append es fs e)
    ∙ sym (append_assoc (packet_as p (leading es)) (table es) (table fs))
table_append (word w ∷ es) fs e = table_append es fs e

pub each_append : (es fs : List Entry) → leading fs ≡ 0 → EachFine es → EachFine fs → EachFine (es ++ fs)
each_append [] fs e each more = more
each_append (packet p ∷ es) fs e each more =
    (each.0, (subst (λ (n : ℕ). n ≤ max_words) (sym (leading_append es fs e)) each.1.0, each_append es fs e each.1.1 more))
each_append (word w ∷ es) fs e each more = (each.0, each_append es fs e each.1 more)

-- A word more counts for the last packet: that before these entries where they have none, else one of them.
record NoPacket (es : List Entry) (n : ℕ) (w : List ℕ) : Type 0 where
  pub trailing_is : trailing n es ≡ n + leading es
  pub leading_more : leading (es ++ (word w ∷ [])) ≡ leading es + 1
  pub table_none : table es ≡ []
  pub table_still : table (es ++ (word w ∷ [])) ≡ []

no_packet : (es : List Entry) (n : ℕ) (w : List ℕ) → packets_in es ≡ 0 → NoPacket es n w
unfolding packets_in trailing leading table
no_packet [] n w e = record { trailing_is = omega arith; leading_more = refl; table_none = refl; table_still = refl }
no_packet (packet p ∷ es) n w e = absurd (omega arith)
no_packet (word v ∷ es) n w e =
    let rest = no_packet es (suc n) w e in
    record {
      trailing_is = omega (arith, rest.trailing_is);
      leading_more = omega (arith, rest.leading_more);
      table_none = rest.table_none;
      table_still = rest.table_still;
    }

pub leading_kept : (es fs : List Entry) → 0 < packets_in es → leading (es ++ fs) ≡ leading es
unfolding packets_in leading
leading_kept [] fs some = absurd (omega arith)
leading_kept (packet p ∷ es) fs some = refl
leading_kept (word w ∷ es) fs some = ap suc (leading_kept es fs some)

trailing_kept : (es : List Entry) (m n : ℕ) → 0 < packets_in es → trailing m es ≡ trailing n es
unfolding packets_in trailing
trailing_kept [] m n some = absurd (omega arith)
trailing_kept (packet p ∷ es) m n some = refl
trailing_kept (word w ∷ es) m n some = trailing_kept es (suc m) (suc n) some

front_long : (p : Packet) → length (packet_front p) ≡ 22
unfolding bytes_of
front_long p = refl

-- So the last two bytes of the packets, its count, are one more.
pub table_word : (es : List Entry) (w : List ℕ) → 0 < packets_in es
    → table (es ++ (word w ∷ [])) ≡ take (packet_bytes * packets_in es - 2) (table es) ++ bytes_of 2 (trailing 0 es + 1)
unfolding packets_in table trailing
table_word [] w some = absurd (omega arith)
table_word (word v ∷ es) w some =
    table_word es w some ∙ ap (λ (n : ℕ). take (24 * packets_in es - 2) (table es) ++ bytes_of 2 (n + 1)) (trailing_kept es 0 1 some)
table_word (packet p ∷ es) w some =
    let count = bytes_of 2 (trailing 0 es + 1) in
    let head = packet_as p (leading es) in
    ⊎_elim
    (λ (none : packets_in es ≡ 0).
    let last = no_packet es 0 w none in
    let counted : leading (es ++ (word w ∷ [])) ≡ trailing 0 es + 1 = omega arith in
    let at : 24 * suc (packets_in es) - 2 ≡ 22 = omega arith in
    ap₂ (λ (n : ℕ) (l : List ℕ). packet_as p n ++ l) counted last.table_still
    ∙ append-nil (packet_as p (trailing 0 es + 1))
    ∙ ap (λ (l : List ℕ). l ++ count)
    (sym (take_at (packet_front p) (bytes_of 2 (leading es)) 22 (front_long p))
    ∙ ap₂ take (sym at) (sym (ap (λ (l : List ℕ). head ++ l) last.table_none ∙ append-nil head))))
    (λ (later : 0 < packets_in es).
    let at : 24 * suc (packets_in es) - 2 ≡ length head + (24 * packets_in es - 2) = omega (arith, packet_long p (leading es)) in
    ap₂ (λ (n : ℕ) (l : List ℕ). packet_as p n ++ l) (leading_kept es (word w ∷ []) later) (table_word es w later)
    ∙ sym (append_assoc head (take (24 * packets_in es - 2) (table es)) count)
    ∙ ap (λ (l : List ℕ). l ++ count)
    (sym (ap (λ (n : ℕ). take n (head ++ table es)) at ∙ take-append-add head (table es) (24 * packets_in es - 2))))
    (eq-zero-or-pos (packets_in es))

pub each_word : (es : List Entry) (w : List ℕ) (n : ℕ) → EachFine es → length w ≡ word_bytes → trailing n es < max_words
    → EachFine (es ++ (word w ∷ []))
unfolding trailing
each_word [] w n each ten few = (ten, tt)
each_word (word v ∷ es) w n each ten few = (each.0, each_word es w (suc n) each.1 ten few)
each_word (packet p ∷ es) w n each ten few =
    let fewer : leading (es ++ (word w ∷ [])) ≤ max_words =
    ⊎_elim
    (λ (none : packets_in es ≡ 0). let last = no_packet es 0 w none in omega arith)
    (λ (later : 0 < packets_in es). omega (arith, leading_kept es (word w ∷ []) later, each.1.0))
    (eq-zero-or-pos (packets_in es)) in
    (each.0, (fewer, each_word es w 0 each.1.1 ten few))
