-- Words that are taken one after the other, with accepted packets between them: what they do to a tracker.
-- Assumes nothing.
use Prim.Native.Nat.{ℕ, zero, suc, ◌-◌, ◌/◌, ◌%◌, ◌<◌}
use mathlib.Core.Path.{◌≡◌, refl, sym, ap, subst, ◌∙◌}
use mathlib.Core.Bool.{Bool, true, false, cond}
use mathlib.Core.List.{List, [], ◌∷◌, ◌++◌}
use native.Mathlib.Nat.{le_of_eq}
use lib.Dec.{eqb}
use lib.ListN.{length, take, drop}
use lib.Seq.{take_all}
use Rattle.words.specs.declared.Word.{Word}
use Rattle.words.specs.Word.{word_of}
use Rattle.packet.specs.declared.Packet.{Packet}
use Rattle.packet.specs.Packet.{in_range, max_words, most_packets}
use Rattle.words.specs.Lists.{Each}
use Rattle.records.specs.Records.{room}
use Rattle.cdp_running.specs.declared.Tracker.{Tracker}
use Rattle.cdp_running.specs.Told.{PacketAnswer}
use Rattle.cdp_running.specs.Tracker.{Good, accept_of}
use Rattle.cdp_running.specs.Next.{next_tracker}
use Rattle.cdp_running.specs.Word as Word
use Rattle.cdp_running.specs.Word.{TakenWord, Outcome, taken, refused, word_call, taken_as}
use Rattle.cdp_running.proofs.Good.{good_accept, good_next, good_reset}
use Rattle.cdp_running.proofs.Outcome.{packet_cases, taken_admitted, next_is}
use Rattle.payload.specs.Payload.{Run, further, word_calls, payload_calls, total}
use Rattle.payload.proofs.Words.{payload_total}
use Rattle.forgetting.specs.Calls.{Call, packet, word, payload, reset, after, run, took_in, took_of, took, words_in, Took}
use Rattle.forgetting.specs.Forget.{NoReset}

pub data Walk : Tracker → List Word → Tracker → Type 0 where
  here : {t : Tracker} → Walk t [] t
  accepts : {t u : Tracker} {ws : List Word} (p : Packet) → in_range p ≡ true → t.packets < most_packets
      → Walk (accept_of t p) ws u → Walk t ws u
  takes : {t u : Tracker} {ws : List Word} (w : Word) → t.accepted ≡ true → t.at.count < max_words
      → Walk (next_tracker t (taken_as t w) w) ws u
      → Walk t (w ∷ ws) u

pub walk_good : {t u : Tracker} {ws : List Word} → Walk t ws u → Good t → Good u
walk_good here g = g
walk_good (accepts {t = t} p e few rest) g = walk_good rest (good_accept t p g e few)
walk_good (takes {t = t} w have low rest) g = walk_good rest (good_next t w g have low)

pub walk_settings : {t u : Tracker} {ws : List Word} → Walk t ws u → u.settings ≡ t.settings
walk_settings here = refl
walk_settings (accepts p e few rest) = walk_settings rest
walk_settings (takes w have low rest) = walk_settings rest

walk_append : {t m u : Tracker} {xs ys : List Word} → Walk t xs m → Walk m ys u → Walk t (xs ++ ys) u
walk_append here rest = rest
walk_append (accepts p e few first) rest = accepts p e few (walk_append first rest)
walk_append (takes w have low first) rest = takes w have low (walk_append first rest)

-- Of a word call.
word_walk : (t : Tracker) (b : List ℕ) (places : ℕ) {x : TakenWord} {u : Tracker} {ws : List Word}
    → word_call t b places ≡ taken x
    → Walk x.next ws u → Walk t (word_of b ∷ ws) u
word_walk t b places {u = u} {ws = ws} e rest =
    let a = taken_admitted t b places e in
    takes (word_of b) a.accepted a.low (subst (λ (x : Tracker). Walk x ws u) (next_is t b places e) rest)

-- Of word calls one after the other.
words_walk : (n : ℕ) (t : Tracker) (b : List ℕ) (places : ℕ)
    → Walk t (words_in (took_in t b (word_calls n t b places))) (total t (word_calls n t b places)).tracker
unfolding word_calls took_in words_in total
words_walk zero t b places = here
words_walk (suc n) t b places = at (word_call t (take 10 b) places) (words_walk n) refl
  where
    at : (o : Outcome)
        → ((next : Tracker) (l : List ℕ) (p : ℕ)
        → Walk next (words_in (took_in next l (word_calls n next l p))) (total next (word_calls n next l p)).tracker)
        → word_call t (take 10 b) places ≡ o
        → let os = further o (λ next records. word_calls n next (drop 10 b) (places - length records)) in
        Walk t (words_in (took_in t b os)) (total t os).tracker
    at (taken x) rest e = word_walk t (take 10 b) places e (rest x.next (drop 10 b) (places - length x.records))
    at (refused m) rest e = here

-- Of a payload.
payload_walk : (t : Tracker) (b : List ℕ) (places : ℕ)
    → Walk t (words_in (took_in t b (payload_calls t b places))) (total t (payload_calls t b places)).tracker
unfolding payload_calls took_in words_in total
payload_walk t b places = at (eqb (length b % 10) 0) t.accepted
  where
    at : (whole have : Bool)
        → let os = cond whole (cond have (word_calls (length b / 10) t b places) (refused 2 ∷ [])) (refused 1 ∷ []) in
        Walk t (words_in (took_in t b os)) (total t os).tracker
    at true true = words_walk (length b / 10) t b places
    at true false = here
    at false have = here

-- Of a call that is no reset, and of calls one after the other.
pub call_walk : (t : Tracker) (c : Call) → NoReset c → Walk t (words_in (took_of t c)) (after t c)
unfolding took_in words_in
call_walk t (packet p) _ =
    packet_cases (λ (r : PacketAnswer). Walk t [] r.tracker) t p (λ e few. accepts p e few here) here here
call_walk t (word b buffer) _ = at (word_call t b (room buffer)) refl
  where
    at : (o : Outcome) → word_call t b (room buffer) ≡ o
        → Walk t (words_in (took_in t b (o ∷ []))) (Word.word_answer t o).tracker
    at (taken x) e =
        let ten = take_all 10 b (le_of_eq (taken_admitted t b (room buffer) e).ten) in
        subst (λ (l : List ℕ). Walk t (word_of l ∷ []) x.next) (sym ten) (word_walk t b (room buffer) e here)
    at (refused n) e = here
call_walk t (payload b buffer) _ =
    subst (λ (r : Run). Walk t (words_in (took_in t b (payload_calls t b (room buffer)))) r.tracker)
    (sym (payload_total t b (room buffer)))
    (payload_walk t b (room buffer))
call_walk t reset never = absurd never

words_append : (xs ys : List Took) → words_in (xs ++ ys) ≡ words_in xs ++ words_in ys
unfolding words_in
words_append [] ys = refl
words_append (x ∷ xs) ys = ap (λ (ws : List Word). x.word ∷ ws) (words_append xs ys)

pub run_walk : (t : Tracker) (calls : List Call) → Each NoReset calls → Walk t (words_in (took t calls)) (run t calls)
unfolding run took words_in
run_walk t [] _ = here
run_walk t (c ∷ calls) (h, hs) =
    subst (λ (ws : List Word). Walk t ws (run t (c ∷ calls))) (sym (words_append (took_of t c) (took (after t c) calls)))
    (walk_append (call_walk t c h) (run_walk (after t c) calls hs))

-- The invariant holds after every call.
pub good_after : (t : Tracker) (c : Call) → Good t → Good (after t c)
good_after t (packet p) g = walk_good (call_walk t (packet p) tt) g
good_after t (word b buffer) g = walk_good (call_walk t (word b buffer) tt) g
good_after t (payload b buffer) g = walk_good (call_walk t (payload b buffer) tt) g
good_after t reset g = good_reset t g

pub good_run : (t : Tracker) (calls : List Call) → Good t → Good (run t calls)
unfolding run
good_run t [] g = g
good_run t (c ∷ calls) g = good_run (after t c) calls (good_after t c g)

-- And the settings stay.
settings_after : (t : Tracker) (c : Call) → (after t c).settings ≡ t.settings
settings_after t (packet p) = walk_settings (call_walk t (packet p) tt)
settings_after t (word b buffer) = walk_settings (call_walk t (word b buffer) tt)
settings_after t (payload b buffer) = walk_settings (call_walk t (payload b buffer) tt)
settings_after t reset = refl

pub run_settings : (t : Tracker) (calls : List Call) → (run t calls).settings ≡ t.settings
unfolding run
run_settings t [] = refl
run_settings t (c ∷ calls) = run_settings (after t c) calls ∙ settings_after t c
