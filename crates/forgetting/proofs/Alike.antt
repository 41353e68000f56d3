-- Equal calls leave two such trackers so, and say the same kinds.
-- Assumes nothing.
use Prim.Native.Nat.{ℕ, zero, suc, ◌+◌, ◌-◌, ◌*◌, ◌/◌, ◌%◌, ◌≤◌}
use mathlib.Core.Path.{◌≡◌, refl, sym, ap, subst, ◌∙◌}
use mathlib.Core.Bool.{Bool, true, false, cond}
use mathlib.Core.List.{List, [], ◌∷◌, ◌++◌}
use native.Mathlib.Nat.{le_of_eq}
use native.Mathlib.Omega.{arith}
use lib.Dec.{eqb}
use lib.ListN.{length, take, drop}
use lib.Seq.{take_all}
use Rattle.words.specs.Word.{word_of}
use Rattle.packet.specs.declared.Packet.{Packet}
use Rattle.packet.specs.Packet.{in_range}
use Rattle.words.specs.Lists.{Each}
use Rattle.records.specs.Records.{room, most_records}
use Rattle.cdp_running.specs.declared.Tracker.{Tracker}
use Rattle.cdp_running.specs.Told.{PacketAnswer}
use Rattle.cdp_running.specs.Tracker.{accept_of, reset_of, packet_call}
use Rattle.cdp_running.specs.Word as Word
use Rattle.cdp_running.specs.Word.{Outcome, refused, word_call}
use Rattle.cdp_running.proofs.Outcome.{by_range, packet_not_ten, taken_admitted}
use Rattle.payload.specs.Payload.{Run, further, word_calls, payload_calls, total}
use Rattle.payload.proofs.Words.{payload_total}
use Rattle.forgetting.specs.Calls.{Call, packet, word, payload, reset, after, run, answer, answers, Kind, kind, refusal, kinds_in, kinds_of, kinds, Took}
use Rattle.forgetting.specs.Calls.{took_in, took_of, took}
use Rattle.forgetting.specs.Forget.{Roomy, NotTen, NeverTen}
use Rattle.forgetting.proofs.Same.{Met, meets, meets_all, Same, carried, other, itself, Alike, both_refused, both_taken, word_alike}

-- What word calls on two trackers come to.
record Both (m : Met) (t u : Tracker) (b : List ℕ) (os os' : List Outcome) : Type 0 where
  pub kinds_agree : kinds_in os ≡ kinds_in os'
  pub same : Same (meets_all m (took_in t b os)) (total t os).tracker (total u os').tracker

-- A payload, with six places a word.
words_alike : (n : ℕ) (m : Met) (t u : Tracker) (b : List ℕ) (p q : ℕ) → Same m t u → most_records * n ≤ p
    → most_records * n ≤ q
    → Both m t u b (word_calls n t b p) (word_calls n u b q)
unfolding word_calls kinds_in took_in meets_all total
words_alike zero m t u b p q s hp hq = record { kinds_agree = refl; same = s }
words_alike (suc n) m t u b p q s hp hq =
    at (word_alike (take 10 b) p q s (λ _. omega arith) (λ _. omega arith)) (words_alike n)
  where
    at : {o o' : Outcome} → Alike m t (word_of (take 10 b)) o o'
        → ((m : Met) (t u : Tracker) (b : List ℕ) (p q : ℕ) → Same m t u → most_records * n ≤ p → most_records * n ≤ q
        → Both m t u b (word_calls n t b p) (word_calls n u b q))
        → Both m t u b (further o (λ next records. word_calls n next (drop 10 b) (p - length records)))
        (further o' (λ next records. word_calls n next (drop 10 b) (q - length records)))
    at (both_refused x) more = record { kinds_agree = refl; same = s }
    at (both_taken {x = x} {y = y} k g same low low') more =
        let rest = more _ x.next y.next (drop 10 b) (p - length x.records) (q - length y.records) same
        (omega arith) (omega arith) in
        record { kinds_agree = λ i. kind (k i) (g i) ∷ rest.kinds_agree i; same = rest.same }

-- What one call on two trackers comes to.
pub record Agrees (m : Met) (t u : Tracker) (c : Call) : Type 0 where
  pub kinds_agree : kinds_of t c ≡ kinds_of u c
  pub same : Same (meets_all m (took_of t c)) (after t c) (after u c)

same_accept : {m : Met} {t u : Tracker} (p : Packet) → Same m t u → Same m (accept_of t p) (accept_of u p)
same_accept p s =
    record { packets = s.packets + 1; stored = s.stored; is = ap (λ (x : Tracker). accept_of x p) s.is; same = s.same }

same_reset : {m : Met} {t u : Tracker} → Same m t u → Same m (reset_of t) (reset_of u)
same_reset s = record { packets = s.packets; stored = s.stored; is = ap reset_of s.is; same = s.same }

payload_alike : (m : Met) (t u : Tracker) (b : List ℕ) (places : ℕ) → Same m t u
    → most_records * (length b / 10) ≤ places
    → Both m t u b (payload_calls t b places) (payload_calls u b places)
unfolding payload_calls kinds_in took_in meets_all total
payload_alike m t u b places s h =
    subst (λ (x : Tracker). Both m t x b (payload_calls t b places) (payload_calls x b places)) s.is
    (at (eqb (length b % 10) 0) t.accepted)
  where
    at : (whole have : Bool)
        → Both m t (other s) b (cond whole (cond have (word_calls (length b / 10) t b places) (refused 2 ∷ []))
        (refused 1 ∷ []))
        (cond whole (cond have (word_calls (length b / 10) (other s) b places) (refused 2 ∷ [])) (refused 1 ∷ []))
    at true true = words_alike (length b / 10) m t (other s) b places places (itself s) h h
    at true false = record { kinds_agree = refl; same = itself s }
    at false have = record { kinds_agree = refl; same = itself s }

abbrev ran : Run → Tracker
ran r = r.tracker

pub call_agrees : (m : Met) (t u : Tracker) (c : Call) → Same m t u → Roomy c → NotTen (answer t c) → NotTen (answer u c)
    → Agrees m t u c
unfolding kinds_in took_in meets_all
call_agrees m t u (packet p) s _ ten ten' =
    record {
      kinds_agree = ap (λ (x : PacketAnswer). said x) is ∙ number (in_range p) ∙ sym (ap (λ (x : PacketAnswer). said x) is');
      same = carried (ap tracker is) (ap tracker is') (trackers (in_range p));
    }
  where
    said : PacketAnswer → List Kind
    said x = refusal x.refusal ∷ []

    tracker : PacketAnswer → Tracker
    tracker x = x.tracker

    is : packet_call t p ≡ by_range (in_range p) t p
    is = packet_not_ten t p ten

    is' : packet_call u p ≡ by_range (in_range p) u p
    is' = packet_not_ten u p ten'

    number : (ok : Bool) → said (by_range ok t p) ≡ said (by_range ok u p)
    number true = refl
    number false = refl

    trackers : (ok : Bool) → Same m (by_range ok t p).tracker (by_range ok u p).tracker
    trackers true = same_accept p s
    trackers false = s
call_agrees m t u (word b buffer) s h _ _ =
    let both = at refl (word_alike b (room buffer) (room buffer) s h h) in
    record { kinds_agree = both.0; same = both.1 }
  where
    at : {o o' : Outcome} → word_call t b (room buffer) ≡ o → Alike m t (word_of b) o o'
        → (kinds_in (o ∷ []) ≡ kinds_in (o' ∷ []))
        × Same (meets_all m (took_in t b (o ∷ []))) (Word.word_answer t o).tracker (Word.word_answer u o').tracker
    at e (both_refused x) = (refl, s)
    at e (both_taken {x = x} {y = y} k g same low low') =
        let ten = take_all 10 b (le_of_eq (taken_admitted t b (room buffer) e).ten) in (
          (λ i. kind (k i) (g i) ∷ []),
          subst (λ (l : List ℕ). Same
              (meets m (record { word = word_of l; kind = x.kind; seen = t.at.seen })) x.next y.next) (sym ten) same,
        )
call_agrees m t u (payload b buffer) s h _ _ =
    let both = payload_alike m t u b (room buffer) s h in
    record {
      kinds_agree = both.kinds_agree;
      same = carried (ap ran (payload_total t b (room buffer))) (ap ran (payload_total u b (room buffer))) both.same;
    }
call_agrees m t u reset s _ _ _ = record { kinds_agree = refl; same = same_reset s }

meets_append : (m : Met) (xs ys : List Took) → meets_all m (xs ++ ys) ≡ meets_all (meets_all m xs) ys
unfolding meets_all
meets_append m [] ys = refl
meets_append m (x ∷ xs) ys = meets_append (meets m x) xs ys

-- Calls one after the other.
pub record Agree (m : Met) (t u : Tracker) (calls : List Call) : Type 0 where
  pub kinds_agree : kinds t calls ≡ kinds u calls
  pub same : Same (meets_all m (took t calls)) (run t calls) (run u calls)

agree_none : (m : Met) (t u : Tracker) → Same m t u → Agree m t u []
unfolding kinds run took meets_all
agree_none m t u s = record { kinds_agree = refl; same = s }

pub agree_more : (m : Met) (t u : Tracker) (c : Call) (calls : List Call) → Agrees m t u c
    → Agree (meets_all m (took_of t c)) (after t c) (after u c) calls
    → Agree m t u (c ∷ calls)
unfolding kinds run took
agree_more m t u c calls one rest =
    record {
      kinds_agree = λ i. one.kinds_agree i ∷ rest.kinds_agree i;
      same =
          subst (λ (x : Met). Same x (run (after t c) calls) (run (after u c) calls))
          (sym (meets_append m (took_of t c) (took (after t c) calls)))
          rest.same;
    }

pub calls_agree : (m : Met) (t u : Tracker) (calls : List Call) → Same m t u → Each Roomy calls → NeverTen t calls
    → NeverTen u calls
    → Agree m t u calls
unfolding answers
calls_agree m t u [] s _ _ _ = agree_none m t u s
calls_agree m t u (c ∷ calls) s h ten ten' =
    let one = call_agrees m t u c s h.0 ten.0 ten'.0 in
    agree_more m t u c calls one (calls_agree (meets_all m (took_of t c)) (after t c) (after u c) calls one.same
    h.1 ten.1 ten'.1)
