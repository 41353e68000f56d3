-- The payload's loop in any memory, of the tracker that it is; and the word call that passes a quiet word.
-- Assumes nothing.
use Prim.Native.Nat.{ℕ, zero, suc, ◌+◌, ◌-◌, ◌*◌, ◌/◌, ◌<◌, ◌≤◌}
use mathlib.Core.Path.{◌≡◌, refl, sym, ap, subst, ◌∙◌}
use mathlib.Core.Bool.{Bool, true, false, cond, true≢false}
use mathlib.Core.List.{List, ◌++◌}
use native.Mathlib.Omega.{arith}
use lib.Dec.{eqb}
use lib.ListN.{length, get_or, take, drop, length-drop, take-append-drop}
use lib.Seq.{length-take-le}
use borrow.Author.Tests.{eq-eqb, ne_eqb}
use borrow.Rule.Slice.PartMut.{put_mid, mid_of}
use Rattle.words.specs.Word.{word_of}
use Rattle.words.specs.Lists.{over}
use Rattle.words.proofs.Load.{id_byte}
use Rattle.packet.specs.Packet.{max_words}
use Rattle.payload_fsm.specs.Step.{among_data}
use Rattle.records.specs.Records.{flat, room, record_width}
use Rattle.std.specs.Prelude.{Option, Ok, Err}
use Rattle.refusals.specs.declared.Refusal.{Refusal}
use Rattle.refusals.specs.Refusals.{number, code_if}
use Rattle.words.proofs.Buffer.{mid_tail}
use Rattle.cdp_running.specs.declared.Tracker.{Tracker}
use Rattle.cdp_running.specs.declared.Taken.{Taken}
use Rattle.cdp_running.specs.Told.{Told}
use Rattle.cdp_running.specs.Told as T
use Rattle.cdp_running.specs.Told.{WordAnswer}
use Rattle.cdp_running.specs.Tracker.{Good}
use Rattle.cdp_running.specs.Word.{Outcome, taken_as, taken_answer, refused, records_in, word_answer, WordPost}
use Rattle.cdp_running.proofs.Calls.{word_3, word_4, word_taken}
use Rattle.payload.specs.Payload.{PayloadPost}
use Rattle.payload.proofs.Loop as Loop
use Rattle.payload.proofs.Loop.{Going, further_silent, stopped}
use Rattle.tracker_memory.specs.Memory.{StepPost, with_counted}
use Rattle.tracker_memory.proofs.Steps.{moved, stayed, of_room}
use Rattle.payload.specs.declared.PayloadTold.{PayloadTold}
use Rattle.payload.specs.Quiet.{quiet_id, checked_lanes, quiet_told, QuietTo, Passed}
use Rattle.payload.proofs.QuietId.{quiet_next, quiet_call}
use Rattle.payload.proofs.Runs.{good_quiet, quiet_runs}

-- A part that is put back as it was.
back : (a k : ℕ) (xs : List ℕ) → put_mid a k xs (mid_of a k xs) ≡ xs
back a k xs = ap (λ (l : List ℕ). take a xs ++ l) (take-append-drop k (drop a xs)) ∙ take-append-drop a xs

-- What is told, put in place of what comes to be told.
pub told_it : {t cur : Tracker} {b out₀ out : List ℕ} {words records : ℕ} {n : Option Refusal} {r : PayloadTold}
    → r ≡ record { words = words; records = records; refusal = n }
    → PayloadPost t b out₀ (record { tracker = cur; words = words; records = records; refusal = code_if n }) out
    → PayloadPost t b out₀ (record { tracker = cur; words = r.words; records = r.records; refusal = code_if r.refusal }) out
told_it {t} {cur} {b} {out₀} {out} e p =
    subst (λ (x : PayloadTold). PayloadPost t b out₀
    (record { tracker = cur; words = x.words; records = x.records; refusal = code_if x.refusal }) out) (sym e) p

-- What passed, from where it ended.
module _ {t : Tracker} {b : List ℕ} {at to : ℕ} (q : QuietTo t b at to) where
  pub some_from : {u : Tracker} {count : ℕ} → (to ≡ at → ⊥) → count ≡ t.at.count + (to - at) / 10 → u ≡ with_counted t count → Passed t b at to u
  some_from {u} {count} h c e =
      let many : count ≡ t.at.count + q.n = omega (arith, q.to_is) in
      let some : q.n ≡ 0 → ⊥ = λ z. h (omega (arith, q.to_is)) in
      record { quiet = q; tracker = simp (ne_eqb q.n 0 some) (e ∙ ap (with_counted t) many) }

  pub none_from : to ≡ at → Passed t b at to t
  none_from h =
      let none : q.n ≡ 0 = omega (arith, q.to_is) in record { quiet = q; tracker = simp (eq-eqb q.n 0 none) }

module _ {t : Tracker} {b out₀ out : List ℕ} {cur : Tracker} {at used : ℕ} (k : Going t b out₀ out cur at used) where
  -- Quiet data words, however many.
  pub passed : ((i : ℕ) → get_or b i 0 < 256) → {to : ℕ} {u : Tracker} → Passed cur b at to u → Going t b out₀ out u to used
  passed byte {to} {u} p = by p.quiet.n refl
    where
      place_is : (n : ℕ) → p.quiet.n ≡ n → to ≡ at + 10 * n
      place_is n e = p.quiet.to_is ∙ ap (λ (m : ℕ). at + 10 * m) e

      tracker_is : (n : ℕ) → p.quiet.n ≡ n → u ≡ cond (eqb n 0) cur (with_counted cur (cur.at.count + n))
      tracker_is n e = p.tracker ∙ ap (λ (m : ℕ). cond (eqb m 0) cur (with_counted cur (cur.at.count + m))) e

      by : (n : ℕ) → p.quiet.n ≡ n → Going t b out₀ out u to used
      by zero e =
          let same : to ≡ at = omega (arith, place_is 0 e) in
          subst (λ (x : Tracker). Going t b out₀ out x to used) (sym (tracker_is 0 e))
          (subst (λ (j : ℕ). Going t b out₀ out cur j used) (sym same) k)
      by (suc n) e =
          let r = k.ready in
          let q = p.quiet in
          let room : cur.at.count + suc n ≤ max_words = omega (arith, q.room) in
          let fits : at + 10 * suc n ≤ length b = omega (arith, q.within, place_is (suc n) e) in
          subst (λ (j : ℕ). Going t b out₀ out u j used) (sym (place_is (suc n) e))
          (subst (λ (x : Tracker). Going t b out₀ out x (at + 10 * suc n) used) (sym (simp (ne_eqb (suc n) 0 (λ z. omega arith)) at (tracker_is (suc n) e)))
          (further_silent k (suc n)
          (record {
            good = good_quiet cur (suc n) r.good r.accepted room;
            accepted = r.accepted;
            whole = r.whole;
            within = fits;
            between = omega (arith, r.between);
          })
          (quiet_runs b byte cur at n r.accepted fits room (q.among (λ z. omega arith))
          (λ i h. q.each i (omega arith)))))

  module _ (lt : at < length b) where
    abbrev bytes : List ℕ
    bytes = take 10 (drop at b)

    abbrev tail : List ℕ
    tail = mid_of used (length out - used) out

    ten : length bytes ≡ 10
    ten = length-take-le 10 (drop at b) (simp length-drop (omega (arith, k.ready.whole, k.ready.between)))

    -- A word call on the part of the payload that is handed on.
    on_part : {r : WordAnswer} {y : List ℕ} → WordPost cur bytes tail r y
        → WordPost cur (take 10 (mid_of at (length b - at) b)) tail r y
    on_part {r} {y} w = subst (λ (l : List ℕ). WordPost cur (take 10 l) tail r y) (sym (mid_tail at b)) w

    pub full_3 : max_words ≤ cur.at.count
        → PayloadPost t b out₀ (record { tracker = cur; words = at / 10; records = used / record_width; refusal = 3 }) out
    full_3 h =
        let w : WordPost cur bytes tail (word_answer cur (refused 3)) tail =
        word_3 cur bytes tail k.ready.good (eq-eqb _ _ ten) k.ready.accepted h refl in
        subst (λ (l : List ℕ). PayloadPost t b out₀ (record { tracker = cur; words = at / 10; records = used / record_width; refusal = 3 }) l)
        (back used (length out - used) out)
        (stopped k lt (on_part w) refl)

    module _ (low : cur.at.count < max_words) {u : Tracker} {y : List ℕ} where
      pub stepped : {n : ℕ} → StepPost cur (word_of bytes) tail (Ok n) u y → length y ≡ length tail
          → Going t b out₀ (put_mid used (length out - used) out y) u (at + 10) (used + record_width * n)
      stepped {n} s kept =
          let w : WordPost cur bytes tail (taken_answer cur (taken_as cur (word_of bytes)) (word_of bytes) n) y =
          word_taken cur bytes tail k.ready.good (eq-eqb _ _ ten) k.ready.accepted low s.wrote refl refl in
          subst (λ (x : Tracker). Going t b out₀ (put_mid used (length out - used) out y) x (at + 10) (used + record_width * n)) (sym (moved s))
          (Loop.next k lt (on_part w) kept refl)

      pub no_room_4 : {r : Refusal} → StepPost cur (word_of bytes) tail (Err r) u y
          → PayloadPost t b out₀ (record { tracker = u; words = at / 10; records = used / record_width; refusal = number r })
          (put_mid used (length out - used) out y)
      no_room_4 {r} s =
          let w : WordPost cur bytes tail (word_answer cur (refused 4)) y =
          word_4 cur bytes tail k.ready.good (eq-eqb _ _ ten) k.ready.accepted low s.wrote refl refl in
          subst (λ (x : Refusal). PayloadPost t b out₀ (record { tracker = u; words = at / 10; records = used / record_width; refusal = number x })
          (put_mid used (length out - used) out y)) (sym (of_room s))
          (subst (λ (x : Tracker). PayloadPost t b out₀ (record { tracker = x; words = at / 10; records = used / record_width; refusal = 4 })
          (put_mid used (length out - used) out y)) (sym (stayed s))
          (stopped k lt (on_part w) refl))

-- One word: a quiet one is passed.
module _ {t : Tracker} {bytes : List ℕ} {to : ℕ} {u : Tracker} (good : Good t) (ten : length bytes ≡ 10) (p : Passed t bytes 0 to u) where
  accepted : (p.quiet.n ≡ 0 → ⊥) → t.accepted ≡ true
  accepted some = at t.accepted refl
    where
      at : (b : Bool) → t.accepted ≡ b → b ≡ true
      at true e = refl
      at false e =
          absurd (true≢false (sym (p.quiet.among some) ∙ ap (λ (x : Tracker). among_data x.at.fsm.state) (good.fresh e)))

  pub word_quiet : {buffer : List ℕ} {told : Taken} → ((i : ℕ) → get_or bytes i 0 < 256) → (to ≡ 0 → ⊥) → told ≡ quiet_told
      → WordPost t bytes buffer (record { tracker = u; told = T.Taken told }) buffer
  unfolding flat
  word_quiet {buffer} byte some e =
      let q = p.quiet in
      let one : q.n ≡ 1 = omega (arith, q.to_is, q.within) in
      let any : q.n ≡ 0 → ⊥ = λ z. omega arith in
      let have = accepted any in
      let low : t.at.count < max_words = omega (arith, q.room) in
      let id = ap (quiet_id (checked_lanes t.settings.running t.stored.ihw.lanes)) (id_byte bytes ten byte) ∙ q.each 0 (omega arith) in
      let call = quiet_call t bytes ten have low (q.among any) id (room buffer) in
      let next : u ≡ quiet_next t 1 =
      p.tracker ∙ ap (λ (n : ℕ). cond (eqb n 0) t (with_counted t (t.at.count + n))) one in
      record {
        answer =
            (λ i. record { tracker = next i; told = T.Taken (e i) })
            ∙ sym (ap (λ (o : Outcome). word_answer t o) call);
        buffer_is = sym (ap (λ (o : Outcome). over (flat (records_in o)) buffer) call);
        good = rw next (good_quiet t 1 good have (omega (arith, q.room)));
      }

  -- Any other word: the tracker is still as it was.
  pub word_other : to ≡ 0 → u ≡ t
  word_other none =
      let zero : p.quiet.n ≡ 0 = omega (arith, p.quiet.to_is) in simp (eq-eqb p.quiet.n 0 zero) at p.tracker

  pub same_before : to ≡ 0 → {buffer after : List ℕ} {v : Tracker} {told : Told} → WordPost u bytes buffer (record { tracker = v; told = told }) after
      → WordPost t bytes buffer (record { tracker = v; told = told }) after
  same_before none {buffer} {after} {v} {told} w =
      subst (λ (x : Tracker). WordPost x bytes buffer (record { tracker = v; told = told }) after) (word_other none) w
