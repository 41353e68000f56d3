-- Over a file that is not refused no packet call and no word call is, with 10 no more than with another number; and the tracker counts the packets read.
-- Assumes nothing.
use Prim.Native.Nat.{ℕ, suc, ◌+◌, ◌-◌, ◌≤◌, ◌<◌}
use mathlib.Core.Path.{◌≡◌, refl, sym, ap, subst, ◌∙◌}
use mathlib.Core.Bool.{true}
use mathlib.Core.List.{List, [], ◌∷◌, ◌++◌}
use native.Mathlib.Nat.{zero-add, add-zero, add_assoc}
use native.Mathlib.Omega.{arith}
use borrow.Author.Tests.{le-ltb}
use denote.Ref.{Bor}
use lib.ListN.{length, drop, length-drop}
use lib.Seq.{length-take-le}
use Rattle.words.specs.Word.{word_of}
use Rattle.packet.specs.Packet.{most_packets}
use Rattle.records.specs.Records.{most_records}
use Rattle.cdp_running.specs.declared.Tracker.{Tracker}
use Rattle.cdp_running.specs.Told.{PacketAnswer}
use Rattle.cdp_running.specs.Tracker.{start_of, packet_call}
use Rattle.cdp_running.specs.Next.{next_tracker as after_word}
use Rattle.cdp_running.specs.Word.{taken_as, Outcome, taken_of, word_call, word_answer}
use Rattle.cdp_running.proofs.Outcome.{packet_admitted, accepted_admitted, admitted_taken}
use Rattle.cdp_running.proofs.Fine.{few_records}
use Rattle.bench_file.specs.File.{bytes_at, check_of}
use Rattle.bench_file.specs.Items.{Item, packet, word, items}
use Rattle.bench_file.specs.Reader.{reader_at, past_packet, as_packet, as_word, Gives, end, packet_first, then_word, Sound, Place}
use Rattle.bench_file.proofs.Reading.{sound, asks_word, packet_given, word_given, at_start, reader_gives}
use Rattle.report.specs.File.{settings, AllAccepted, packets_in, tracker_from}

-- A tracker that has accepted so many packets, and still takes so many words of the last.
record Takes (t : Tracker) (packets left : ℕ) : Type 0 where
  counted : t.packets ≡ packets
  accepted : 1 ≤ left → t.accepted ≡ true
  room : t.at.count + left ≤ 4096

word_taken : (t : Tracker) (packets left : ℕ) (bytes : List ℕ) → Takes t packets (suc left) → length bytes ≡ 10
    → (word_call t bytes most_records ≡ taken_of t (word_of bytes))
    × Takes (word_answer t (word_call t bytes most_records)).tracker packets left
unfolding taken_of
word_taken t packets left bytes h ten =
    let have = h.accepted (omega arith) in
    let room = h.room in
    let e : word_call t bytes most_records ≡ taken_of t (word_of bytes) =
    admitted_taken t bytes most_records
    (record { ten = ten; accepted = have; low = omega arith; fits = le-ltb most_records _ (few_records t (word_of bytes)) }) in
    let next : (word_answer t (word_call t bytes most_records)).tracker ≡ after_word t (taken_as t (word_of bytes))
    (word_of bytes) = ap (λ (o : Outcome). (word_answer t o).tracker) e in
    (e, subst (λ (u : Tracker). Takes u packets left) (sym next) (record { counted = h.counted; accepted = λ _. have; room = omega arith }))

module _ (bytes : Bor (List ℕ)) (s : Sound bytes.now) where
  ten : (at : ℕ) → at + 10 ≤ length bytes.now → length (bytes_at bytes.now at) ≡ 10
  ten at h = length-take-le 10 (drop at bytes.now) (simp length-drop (omega arith))

  all_accepted : {i n left : ℕ} {l : List Item} → Gives (reader_at bytes i n) left l → Place bytes.now i n left
      → (t : Tracker) → Takes t i left
      → AllAccepted t l
  unfolding AllAccepted
  all_accepted (end e) place t h = tt
  all_accepted {i} (packet_first {p = p} {count = count} e rest) place t h =
      let given = packet_given s place (ap as_packet e) in
      let few : t.packets < most_packets = omega (arith, h.counted, given.one_on, given.next.within, s.packets_few) in
      let a = packet_admitted t p given.in_range_is few in
      let next : Takes (packet_call t p).tracker (past_packet bytes.now i) count =
      subst (λ (r : PacketAnswer). Takes r.tracker (past_packet bytes.now i) count) (sym a.is)
      (record {
        counted = omega (arith, h.counted, given.one_on);
        accepted = λ _. refl;
        room = omega (arith, given.few);
      }) in
      (ap (λ (r : PacketAnswer). r.refusal) a.is, all_accepted rest given.next (packet_call t p).tracker next)
  all_accepted {i} {n} (then_word {left = left} {at = at} e rest) place t h =
      let given = word_given s place (asks_word bytes.now i n left ∙ ap as_word e) in
      let less : suc left - 1 ≡ left = omega arith in
      let w = word_taken t i left (bytes_at bytes.now at) h (ten at given.inside) in
      (w.0, all_accepted rest (rw less at given.next) (word_answer t (word_call t (bytes_at bytes.now at) most_records)).tracker w.1)

-- Of every list of bytes there is a reader.
lent : List ℕ → Bor (List ℕ)
lent file = record { ref_ptr = (0, 0); now = file }

pub never_refused : (file : List ℕ) → check_of file ≡ 0 → AllAccepted (start_of settings) (items file)
unfolding lent
never_refused file e =
    all_accepted (lent file) (sound file e) (reader_gives (lent file) e) (at_start file) (start_of settings) (record {
      counted = refl;
      accepted = λ h. absurd (omega arith);
      room = omega arith;
    })

-- Calls that are all accepted: the tracker counts each packet, and a word leaves its count.
counted_from : (t : Tracker) (front rest : List Item) → AllAccepted t (front ++ rest)
    → (tracker_from t front).packets ≡ t.packets + packets_in front
unfolding AllAccepted tracker_from packets_in taken_of
counted_from t [] rest all = sym (add-zero t.packets)
counted_from t (packet p count ∷ front) rest (here, later) =
    let one : (packet_call t p).tracker.packets ≡ t.packets + 1 =
    ap (λ (r : PacketAnswer). r.tracker.packets) (accepted_admitted t p here).is in
    counted_from (packet_call t p).tracker front rest later ∙ ap (λ (n : ℕ). n + packets_in front) one
    ∙ add_assoc t.packets 1 (packets_in front)
counted_from t (word at bytes ∷ front) rest (here, later) =
    counted_from (word_answer t (word_call t bytes most_records)).tracker front rest later
    ∙ ap (λ (o : Outcome). (word_answer t o).tracker.packets + packets_in front) here

-- Anywhere on the way through a file that is not refused, the count is that of the packets read so far: of a file packet n, from 1, says n.
pub packets_read : (file : List ℕ) → check_of file ≡ 0 → (front rest : List Item) → items file ≡ front ++ rest
    → (tracker_from (start_of settings) front).packets ≡ packets_in front
packets_read file e front rest split =
    counted_from (start_of settings) front rest (subst (AllAccepted (start_of settings)) split (never_refused file e))
    ∙ zero-add (packets_in front)
