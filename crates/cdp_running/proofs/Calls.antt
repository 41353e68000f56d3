-- Which case of a call's definition holds, over plain variables: what each return of the code hands over.
-- Assumes nothing.
use Prim.Native.Nat.{ℕ, ◌≤◌, ◌<◌}
use mathlib.Core.Path.{◌≡◌, refl, sym, ap, subst, ◌∙◌}
use mathlib.Core.Bool.{Bool, true, false, cond}
use mathlib.Core.List.{List}
use Rattle.std.specs.Prelude.{Result, Ok, Err}
use lib.Dec.{eqb}
use lib.ListN.{length}
use borrow.Author.Tests.{le-leb, lt-leb, lt-ltb, le-ltb, eq-eqb, ne_eqb}
use Rattle.words.specs.declared.Word.{Word}
use Rattle.refusals.specs.declared.Refusal.{Refusal}
use Rattle.refusals.specs.declared.Refusal.TheVariants as R
use Rattle.words.specs.Word.{word_of, from_buf}
use Rattle.packet.specs.declared.Packet.{Packet}
use Rattle.packet.specs.Packet.{in_range, max_words, most_packets}
use Rattle.payload_fsm.specs.declared.Advanced.{Advanced}
use Rattle.records.specs.declared.Row.{Row}
use Rattle.refusals.specs.declared.Refusal.{Refusal}
use Rattle.refusals.specs.declared.Refusal.TheVariants.{Room}
use Rattle.words.specs.Lists.{over}
use Rattle.records.specs.Records.{given, flat, room, exceed, padded, WritePost}
use Rattle.records.proofs.Given.{given_padded}
use Rattle.cdp_running.specs.declared.Tracker.{Tracker}
use Rattle.cdp_running.specs.Told.{WordAnswer}
use Rattle.cdp_running.specs.Tracker.{Good, packet_call, accept_of, PacketPost}
use Rattle.cdp_running.specs.Word.{taken_as, position_now, rows_of, records_of, Outcome, refused, taken_of}
use Rattle.cdp_running.specs.Word.{taken_answer, word_call, word_answer, records_in, WordPost}
use Rattle.cdp_running.proofs.Good.{good_accept, good_next}

-- A tracker that is a good one is good.
pub also_good : {r t : Tracker} → r ≡ t → Good t → (r ≡ t) × Good r
also_good e g = (e, rw e g)

-- The three answers to a packet: 5, then 10, else it is accepted.
module _ (t : Tracker) (p : Packet) (g : Good t) where
  pub packet_5 : in_range p ≡ false → PacketPost t p (record { tracker = t; refusal = 5 })
  unfolding packet_call
  packet_5 e = record { answer = simp e; good = g }

  pub packet_10 : in_range p ≡ true → most_packets ≤ t.packets → PacketPost t p (record { tracker = t; refusal = 10 })
  unfolding packet_call
  packet_10 e h = record { answer = simp (e, le-ltb _ _ h); good = g }

  pub packet_accepted : in_range p ≡ true → t.packets < most_packets
      → PacketPost t p (record { tracker = accept_of t p; refusal = 0 })
  unfolding packet_call
  packet_accepted e h = record { answer = simp (e, lt-ltb _ _ h); good = good_accept t p g e h }

-- What the bytes were read as tells their length.
pub not_ten : (bytes : List ℕ) {r : Result Word Refusal} {n : Refusal} → r ≡ from_buf bytes → r ≡ Err n
    → eqb (length bytes) 10 ≡ false
not_ten bytes {r} {n} d e = at (eqb (length bytes) 10) (sym d ∙ e)
  where
    at : (b : Bool) → cond b (Ok (word_of bytes)) (Err R.Size) ≡ Err n → b ≡ false
    at true q = cc
    at false q = refl

pub ten : (bytes : List ℕ) {r : Result Word Refusal} {w : Word} → r ≡ from_buf bytes → r ≡ Ok w → (eqb (length bytes) 10 ≡ true)
    × (w ≡ word_of bytes)
ten bytes {r} {w} d e = at (eqb (length bytes) 10) (sym d ∙ e)
  where
    at : (b : Bool) → cond b (Ok (word_of bytes)) (Err R.Size) ≡ Ok w → (b ≡ true) × (w ≡ word_of bytes)
    at true q = (refl, cc)
    at false q = (cc, cc)

-- The contract from the case that holds.
met : {t : Tracker} {bytes buffer after : List ℕ} {r : WordAnswer} (o : Outcome) → word_call t bytes (room buffer) ≡ o
    → r ≡ word_answer t o
    → after ≡ over (flat (records_in o)) buffer → Good (word_answer t o).tracker → WordPost t bytes buffer r after
met o e a b g = record { answer = rw e a; buffer_is = rw e b; good = rw a g }

-- What writing the records found.
no_room : (b : Bool) (n : ℕ) {e₀ : Refusal} {x : Result ℕ Refusal} → x ≡ cond b (Err Room) (Ok n) → x ≡ Err e₀ → b ≡ true
no_room true n p q = refl
no_room false n p q = cc

wrote : (b : Bool) {n m : ℕ} {x : Result ℕ Refusal} → x ≡ cond b (Err Room) (Ok m) → x ≡ Ok n → (b ≡ false) × (n ≡ m)
wrote true p q = (cc, cc)
wrote false p q = (refl, cc)

-- What the code computed on the way, put in the definition's terms.
module _ (t : Tracker) (bytes : List ℕ) {a : Advanced} {w : Word} (p : a ≡ taken_as t w) (q : w ≡ word_of bytes) where
  pub as_written : {here : ℕ} {rows : List Row} {buffer after : List ℕ} {x : Result ℕ Refusal} → here ≡ position_now t
      → rows ≡ padded (rows_of t a w)
      → WritePost here t.packets rows buffer x after
      → WritePost (position_now t) t.packets (padded (rows_of t (taken_as t (word_of bytes)) (word_of bytes))) buffer x after
  as_written {here} {rows} {buffer} {after} {x} h e wrote =
      let is : rows ≡ padded (rows_of t (taken_as t (word_of bytes)) (word_of bytes)) =
      e ∙ (λ i. padded (rows_of t (p i) w)) ∙ (λ i. padded (rows_of t (taken_as t (q i)) (q i))) in
      subst (λ (l : List Row). WritePost (position_now t) t.packets l buffer x after) is
      (subst (λ (n : ℕ). WritePost n t.packets rows buffer x after) h wrote)

  pub as_taken : {r : WordAnswer} {n : ℕ} → r ≡ taken_answer t a w n
      → r ≡ taken_answer t (taken_as t (word_of bytes)) (word_of bytes) n
  as_taken {r} {n} e = e ∙ (λ i. taken_answer t (p i) w n) ∙ (λ i. taken_answer t (taken_as t (q i)) (q i) n)

module _ (t : Tracker) (bytes buffer : List ℕ) (g : Good t) where
  -- A refusal leaves the tracker and the buffer.
  refusal : {r : WordAnswer} (n : ℕ) → word_call t bytes (room buffer) ≡ refused n → r ≡ word_answer t (refused n)
      → WordPost t bytes buffer r buffer
  unfolding flat
  refusal n e a = met (refused n) e a refl g

  pub word_1 : {r : WordAnswer} → eqb (length bytes) 10 ≡ false → r ≡ word_answer t (refused 1)
      → WordPost t bytes buffer r buffer
  unfolding word_call
  word_1 b = refusal 1 (simp b)

  module _ (b : eqb (length bytes) 10 ≡ true) where
    pub word_2 : {r : WordAnswer} → t.accepted ≡ false → r ≡ word_answer t (refused 2)
        → WordPost t bytes buffer r buffer
    unfolding word_call
    word_2 p = refusal 2 (simp (b, p))

    module _ (p : t.accepted ≡ true) where
      pub word_3 : {r : WordAnswer} → max_words ≤ t.at.count → r ≡ word_answer t (refused 3)
          → WordPost t bytes buffer r buffer
      unfolding word_call
      word_3 h = refusal 3 (simp (b, p, le-leb _ _ h))

      module _ (h : t.at.count < max_words) where
        reached : word_call t bytes (room buffer) ≡ cond (exceed (records_of t (word_of bytes)) (room buffer)) (refused 4)
            (taken_of t (word_of bytes))
        unfolding word_call
        reached = simp (b, p, lt-leb _ _ h)

        -- What is written are the word's own records.
        records_are : given (position_now t) t.packets (padded (rows_of t (taken_as t (word_of bytes)) (word_of bytes))) ≡ records_of t
            (word_of bytes)
        unfolding records_of
        records_are = given_padded (position_now t) t.packets (rows_of t (taken_as t (word_of bytes)) (word_of bytes))

        -- What the write of the word's rows answered and left.
        abbrev Wrote : Result ℕ Refusal → List ℕ → Type 0
        Wrote x after =
            WritePost (position_now t) t.packets (padded (rows_of t (taken_as t (word_of bytes)) (word_of bytes))) buffer x
            after

        pub word_4 : {r : WordAnswer} {after : List ℕ} {x : Result ℕ Refusal} {e₀ : Refusal} → Wrote x after → x ≡ Err e₀
            → r ≡ word_answer t (refused 4)
            → WordPost t bytes buffer r after
        word_4 w e a =
            let full = no_room (exceed (records_of t (word_of bytes)) (room buffer)) (length (records_of t (word_of bytes)))
            (rw records_are at w.answer) e in
            let stays = simp (records_are, full) at w.buffer_is in
            rw stays (refusal 4 (reached ∙ simp full) a)

        pub word_taken : {r : WordAnswer} {after : List ℕ} {x : Result ℕ Refusal} {n : ℕ} → Wrote x after → x ≡ Ok n
            → r ≡ taken_answer t (taken_as t (word_of bytes)) (word_of bytes) n → WordPost t bytes buffer r after
        unfolding taken_of
        word_taken w e a =
            let fits = wrote (exceed (records_of t (word_of bytes)) (room buffer)) (rw records_are at w.answer) e in
            let is = simp (records_are, fits.0) at w.buffer_is in
            met (taken_of t (word_of bytes)) (reached ∙ simp fits.0)
            (a ∙ ap (taken_answer t (taken_as t (word_of bytes)) (word_of bytes)) fits.1) is
            (good_next t (word_of bytes) g p h)

-- What the word call comes to where the bytes are no word, and in a full packet.
pub short_is : (t : Tracker) (bytes : List ℕ) (places : ℕ) → (length bytes ≡ 10 → ⊥) → word_call t bytes places ≡ refused 1
unfolding word_call
short_is t bytes places b = simp (ne_eqb _ _ b)

pub full_is : (t : Tracker) (bytes : List ℕ) (places : ℕ) → length bytes ≡ 10 → t.accepted ≡ true → max_words ≤ t.at.count
    → word_call t bytes places ≡ refused 3
unfolding word_call
full_is t bytes places b p h = simp (eq-eqb _ _ b, p, le-leb _ _ h)
