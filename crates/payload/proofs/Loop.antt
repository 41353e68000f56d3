-- The payload's loop, over lists alone: what was done, before the run of what is left.
-- Assumes nothing.
use Prim.Native.Nat.{ℕ, suc, ◌+◌, ◌-◌, ◌*◌, ◌/◌, ◌%◌, ◌<◌, ◌≤◌}
use mathlib.Core.Path.{◌≡◌, refl, sym, ap, subst, ◌∙◌}
use mathlib.Core.Bool.{Bool, true, false, true≢false}
use mathlib.Core.List.{List, [], ◌++◌, append-nil}
use native.Mathlib.Nat.{add-zero, sub-zero}
use Rattle.std.specs.Prelude.{Result}
use Rattle.refusals.specs.declared.Refusal.{Refusal}
use native.Mathlib.Omega.{arith}
use borrow.Author.Tests.{eq-eqb, ne_eqb}
use borrow.Rule.Slice.PartMut.{put_mid, mid_of, same_len_mid}
use lib.ListN.{length, take, drop, length-append, length-drop}
use lib.Seq.{drop-drop}
use Rattle.words.specs.Lists.{over}
use Rattle.records.specs.Records.{Record, flat, room, record_width}
use Rattle.records.proofs.Given.{flat_append, length_flat}
use Rattle.words.proofs.Buffer.{mid_tail, lent_on, over_fits}
use Rattle.cdp_running.specs.declared.Tracker.{Tracker}
use Rattle.cdp_running.specs.declared.Taken.{Taken}
use Rattle.cdp_running.specs.Told.{Told}
use Rattle.cdp_running.specs.Told as T
use Rattle.cdp_running.specs.Told.{WordAnswer, word_answered}
use Rattle.cdp_running.specs.Tracker.{Good}
use Rattle.cdp_running.specs.Word as W
use Rattle.cdp_running.specs.Word.{TakenWord, Outcome, taken, refused, word_call, records_in, WordPost}
use Rattle.cdp_running.proofs.Outcome.{next_is}
use Rattle.payload.specs.Payload.{Run, stop, preceded, onward, words_from, payload_call, PayloadPost}
use Rattle.payload.proofs.Run.{preceded_twice, preceded_none}

-- A place between two words of a payload, and a tracker that has a packet.
pub record Ready (t : Tracker) (bytes : List ℕ) (at : ℕ) : Type 0 where
  pub good : Good t
  pub accepted : t.accepted ≡ true
  pub whole : length bytes % 10 ≡ 0
  pub within : at ≤ length bytes
  pub between : at % 10 ≡ 0

-- What the words from a place on come to.
abbrev pub run_from : List ℕ → ℕ → Tracker → ℕ → Run
run_from b places t at = words_from ((length b - at) / 10) t (drop at b) places

pub record Going (t : Tracker) (b out₀ out : List ℕ) (cur : Tracker) (at used : ℕ) : Type 0 where
  pub rs : List Record
  pub used_is : used ≡ length (flat rs)
  pub buffer_is : out ≡ over (flat rs) out₀
  pub same : length out ≡ length out₀
  pub begun : t.accepted ≡ true
  pub ready : Ready cur b at
  pub comes : words_from (length b / 10) t b (room out₀) ≡ preceded (at / 10) rs
      (run_from b (room out₀ - length rs) cur at)

-- What the code found of a word's answer.
pub answered : {t : Tracker} {bytes buffer after : List ℕ} {x r : Result (Tracker × Taken) Refusal} → x ≡ r
    → WordPost t bytes buffer (word_answered t x) after → WordPost t bytes buffer (word_answered t r) after
answered {t} {bytes} {buffer} {after} e w = subst (λ (r : Result (Tracker × Taken) Refusal). WordPost t bytes buffer (word_answered t r) after) e w

-- From an answer back to the outcome.
record Took (o : Outcome) (r : WordAnswer) (n : ℕ) : Type 0 where
  pub word : TakenWord
  pub is : o ≡ taken word
  pub next : r.tracker ≡ word.next
  pub count : n ≡ length (records_in o)

told_same : {x y : Taken} → T.Taken x ≡ T.Taken y → x ≡ y
told_same e = cc

took : (t : Tracker) (o : Outcome) {r : WordAnswer} {told : Taken} → r ≡ W.word_answer t o → r.told ≡ T.Taken told
    → Took o r told.records
took t (taken x) e q =
    let same = told_same (sym q ∙ ap (λ (r : WordAnswer). r.told) e) in
    record { word = x; is = refl; next = ap (λ (r : WordAnswer). r.tracker) e; count = ap (λ (y : Taken). y.records) same }
took t (refused m) e q = absurd (true≢false (ap is_taken (sym q ∙ ap (λ (r : WordAnswer). r.told) e)))
  where
    is_taken : Told → Bool
    is_taken (T.Taken x) = true
    is_taken (T.Refused n) = false

denied : (t : Tracker) (o : Outcome) {r : WordAnswer} {n : ℕ} → r ≡ W.word_answer t o → r.told ≡ T.Refused n
    → (o ≡ refused n) × (r.tracker ≡ t)
denied t (taken x) e q = (cc, cc)
denied t (refused m) e q = (cc, cc)

-- What a payload call comes to where it is refused before its first word.
pub uneven_is : (t : Tracker) (b : List ℕ) (places : ℕ) → (length b % 10 ≡ 0 → ⊥) → payload_call t b places ≡ stop t 1
unfolding payload_call
uneven_is t b places h = simp (ne_eqb _ _ h)

pub no_packet_is : (t : Tracker) (b : List ℕ) (places : ℕ) → length b % 10 ≡ 0 → t.accepted ≡ false
    → payload_call t b places ≡ stop t 2
unfolding payload_call
no_packet_is t b places h e = simp (eq-eqb _ _ h, e)

module _ {t : Tracker} {b out₀ : List ℕ} where
  -- The contract, from what the payload call comes to.
  post : {cur : Tracker} {words count n : ℕ} {out : List ℕ} (rs : List Record) → payload_call t b (room out₀)
      ≡ record { tracker = cur; words = words; records = rs; refusal = n }
      → count ≡ length rs → out ≡ over (flat rs) out₀ → Good cur
      → PayloadPost t b out₀ (record { tracker = cur; words = words; records = count; refusal = n }) out
  post rs run counted written good = record { answer = rw (run, counted); buffer_is = rw run written; good = good }

  -- A payload that is refused before its first word.
  pub refused_1 : Good t → (length b % 10 ≡ 0 → ⊥)
      → PayloadPost t b out₀ (record { tracker = t; words = 0; records = 0; refusal = 1 }) out₀
  unfolding payload_call flat
  refused_1 good h = post [] (simp (ne_eqb _ _ h)) refl refl good

  pub refused_2 : Good t → length b % 10 ≡ 0 → t.accepted ≡ false
      → PayloadPost t b out₀ (record { tracker = t; words = 0; records = 0; refusal = 2 }) out₀
  unfolding payload_call flat
  refused_2 good h e = post [] (simp (eq-eqb _ _ h, e)) refl refl good

  pub begins : Ready t b 0 → Going t b out₀ out₀ t 0 0
  unfolding flat
  begins r =
      record { rs = []; used_is = refl; buffer_is = refl; same = refl; begun = r.accepted; ready = r; comes = simp sub-zero (sym (preceded_none _)) }

  module _ {out : List ℕ} {cur : Tracker} {at used : ℕ} (g : Going t b out₀ out cur at used) where
    -- The places that are left, and the part of the buffer that is lent on.
    abbrev places : ℕ
    places = room out₀ - length g.rs

    abbrev tail : List ℕ
    tail = mid_of used (length out - used) out

    -- Words taken from here on, with their records: the invariant after them.
    further : {out' : List ℕ} {u : Tracker} {to used' : ℕ} (k : ℕ) (new : List Record) → Ready u b to
        → at / 10 + k ≡ to / 10
        → used' ≡ used + record_width * length new
        → out' ≡ over (flat (g.rs ++ new)) out₀ → length out' ≡ length out
        → run_from b places cur at ≡ preceded k new (run_from b (places - length new) u to)
        → Going t b out₀ out' u to used'
    further {out'} {u} {to} {used'} k new ready words more after same runs =
        let both = length-append g.rs new in
        let left : places - length new ≡ room out₀ - length (g.rs ++ new) = omega arith in
        record {
          rs = g.rs ++ new;
          used_is = omega (arith, length_flat g.rs, length_flat (g.rs ++ new));
          buffer_is = after;
          same = same ∙ g.same;
          begun = g.begun;
          ready = ready;
          comes =
              g.comes ∙ ap (preceded (at / 10) g.rs) runs
              ∙ preceded_twice (at / 10) k g.rs new (run_from b (places - length new) u to)
              ∙ (λ i. preceded (words i) (g.rs ++ new) (run_from b (left i) u to));
        }

    -- Words that gave no record.
    pub further_silent : {u : Tracker} (k : ℕ) → Ready u b (at + 10 * k)
        → ((places : ℕ) → run_from b places cur at ≡ preceded k [] (run_from b places u (at + 10 * k)))
        → Going t b out₀ out u (at + 10 * k) used
    further_silent k ready runs =
        further k [] ready (omega (arith, g.ready.between)) (omega arith) (rw append-nil g.buffer_is) refl
        (simp sub-zero (runs places))

    pub used_low : used ≤ length out
    used_low = let fits = over_fits (flat g.rs) out₀ (sym (ap length g.buffer_is) ∙ g.same) in omega arith

    -- The tail has the places that are left.
    room_left : room tail ≡ places
    room_left = omega (arith, length_flat g.rs, ap length (mid_tail used out) ∙ length-drop used out)

    -- What a payload comes to where its words stopped here.
    met : (n : ℕ) → run_from b places cur at ≡ stop cur n
        → PayloadPost t b out₀ (record { tracker = cur; words = at / 10; records = used / record_width; refusal = n })
        out
    unfolding payload_call
    met n stops =
        let run = g.comes ∙ ap (preceded (at / 10) g.rs) stops
        ∙ (λ i. record { tracker = cur; words = add-zero (at / 10) i; records = append-nil g.rs i; refusal = n }) in
        post g.rs (simp (eq-eqb _ _ g.ready.whole, g.begun) run) (omega (arith, length_flat g.rs))
        g.buffer_is g.ready.good

    pub ended : length b ≤ at → PayloadPost t b out₀
        (record { tracker = cur; words = at / 10; records = used / record_width; refusal = 0 }) out
    unfolding words_from
    ended past = let none : (length b - at) / 10 ≡ 0 = omega arith in met 0 (rw none)

    pub word_left : at < length b → at + 10 ≤ length b
    word_left lt = omega (arith, g.ready.whole, g.ready.between)

    -- One word, handed to the word call.
    module _ (lt : at < length b) {r : WordAnswer} {y : List ℕ}
        (w : WordPost cur (take 10 (mid_of at (length b - at) b)) tail r y) where
      abbrev outcome : Outcome
      outcome = word_call cur (take 10 (drop at b)) places

      same_call : word_call cur (take 10 (mid_of at (length b - at) b)) (room tail) ≡ outcome
      same_call = λ i. word_call cur (take 10 (mid_tail at b i)) (room_left i)

      -- The buffer after it, and the run.
      after : put_mid used (length out - used) out y ≡ over (flat (g.rs ++ records_in outcome)) out₀
      after =
          rw flat_append (lent_on used (flat g.rs) (flat (records_in outcome)) out₀ out y g.used_is g.buffer_is
          (rw same_call at w.buffer_is))

      onwards : {o : Outcome} → outcome ≡ o → run_from b places cur at
          ≡ onward cur o (λ next records. preceded 1 records (run_from b (places - length records) next (at + 10)))
      unfolding words_from
      onwards e =
          let left : (length b - at) / 10 ≡ suc ((length b - (at + 10)) / 10) =
          omega (arith, g.ready.whole, g.ready.between) in
          ap (λ (j : ℕ). words_from j cur (drop at b) places) left
          ∙ (λ i. onward cur (e i) (λ next records. preceded 1 records
          (words_from ((length b - (at + 10)) / 10) next (drop-drop 10 at b i) (places - length records))))

      onward_from : {n : ℕ} → Took outcome r n → length y ≡ length tail
          → Going t b out₀ (put_mid used (length out - used) out y) r.tracker (at + 10) (used + record_width * n)
      onward_from k kept =
          let have = ap (λ (x : Tracker). x.accepted) (k.next ∙ next_is cur (take 10 (drop at b)) places k.is)
          ∙ g.ready.accepted in
          let runs = onwards k.is ∙ (λ i. preceded 1 (sym (ap records_in k.is) i)
          (run_from b (places - length (sym (ap records_in k.is) i)) (sym k.next i) (at + 10))) in
          let ready : Ready r.tracker b (at + 10) =
          record { good = w.good; accepted = have; whole = g.ready.whole; within = word_left lt; between = omega (arith, g.ready.between) } in
          further 1 (records_in outcome) ready (omega arith) (omega (arith, k.count)) after
          (same_len_mid used (length out - used) out y kept) runs

      pub next : {told : Taken} → length y ≡ length tail → r.told ≡ T.Taken told
          → Going t b out₀ (put_mid used (length out - used) out y) r.tracker (at + 10)
          (used + record_width * told.records)
      next kept told = onward_from (took cur outcome (rw same_call at w.answer) told) kept

      pub stopped : {n : ℕ} → r.told ≡ T.Refused n
          → PayloadPost t b out₀ (record {
            tracker = r.tracker;
            words = at / 10;
            records = used / record_width;
            refusal = n;
          }) (put_mid used (length out - used) out y)
      stopped {n} told =
          let k = denied cur outcome (rw same_call at w.answer) told in
          let stays : put_mid used (length out - used) out y ≡ out = after
          ∙ rw (k.0, append-nil) (sym g.buffer_is) in
          rw (k.1, stays) (met n (onwards k.0))
