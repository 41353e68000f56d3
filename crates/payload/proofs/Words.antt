-- A payload call is the word calls one after the other, in both directions. So its words have the kinds and frames that word calls give.
-- Assumes nothing.
use Prim.Native.Nat.{ℕ, zero, suc, ◌-◌, ◌/◌, ◌%◌}
use mathlib.Core.Path.{◌≡◌, refl, ap, ◌∙◌}
use mathlib.Core.Bool.{Bool, true, false, cond}
use mathlib.Core.List.{List, [], ◌∷◌}
use lib.Dec.{eqb}
use lib.ListN.{length, take, drop}
use Rattle.cdp_running.specs.declared.Tracker.{Tracker}
use Rattle.cdp_running.specs.Word.{Outcome, taken, refused, word_call}
use Rattle.payload.specs.Payload.{preceded, words_from, CallsInTurn, done, last, more, further, word_calls, payload_call, payload_calls, stop, total}
use Rattle.payload.proofs.Run.{step_taken, step_refused}

-- Whatever word calls one after the other come to, the payload comes to.
pub calls_payload : {n : ℕ} {t : Tracker} {b : List ℕ} {places : ℕ} {os : List Outcome} → CallsInTurn n t b places os
    → words_from n t b places ≡ total t os
unfolding words_from total
calls_payload done = refl
calls_payload (last {n = n} {t = t} {bytes = b} {places = places} e) = step_refused n t b places e
calls_payload (more {n =
    n} {t = t} {bytes = b} {places = places} {x = x} e rest) = step_taken n t b places e
    ∙ ap (preceded 1 x.records) (calls_payload rest)

-- A payload's words are such word calls, and no other list is.
pub payload_calls_lem : (n : ℕ) (t : Tracker) (b : List ℕ) (places : ℕ) → CallsInTurn n t b places (word_calls n t b places)
unfolding word_calls
payload_calls_lem zero t b places = done
payload_calls_lem (suc n) t b places = at (word_call t (take 10 b) places) (payload_calls_lem n) refl
  where
    at : (o : Outcome) → ((next : Tracker) (l : List ℕ) (p : ℕ) → CallsInTurn n next l p (word_calls n next l p))
        → word_call t (take 10 b) places ≡ o
        → CallsInTurn (suc n) t b places (further o
        (λ next records. word_calls n next (drop 10 b) (places - length records)))
    at (taken x) rest e = more e (rest x.next (drop 10 b) (places - length x.records))
    at (refused number) rest e = last e

pub only_calls : {n : ℕ} {t : Tracker} {b : List ℕ} {places : ℕ} {os : List Outcome} → CallsInTurn n t b places os
    → os ≡ word_calls n t b places
unfolding word_calls
only_calls done = refl
only_calls (last e) = simp e
only_calls (more {x = x} e rest) = ap (λ (os : List Outcome). taken x ∷ os) (only_calls rest) ∙ simp e

-- So it comes to what they come to.
pub payload_words : (n : ℕ) (t : Tracker) (b : List ℕ) (places : ℕ)
    → words_from n t b places ≡ total t (word_calls n t b places)
payload_words n t b places = calls_payload (payload_calls_lem n t b places)

pub payload_total : (t : Tracker) (b : List ℕ) (places : ℕ) → payload_call t b places ≡ total t (payload_calls t b places)
unfolding payload_call payload_calls total
payload_total t b places = at (eqb (length b % 10) 0) t.accepted
  where
    at : (whole have : Bool)
        → cond whole (cond have (words_from (length b / 10) t b places) (stop t 2)) (stop t 1)
        ≡ total t (cond whole (cond have (word_calls (length b / 10) t b places) (refused 2 ∷ [])) (refused 1 ∷ []))
    at true true = payload_words (length b / 10) t b places
    at true false = refl
    at false have = refl
