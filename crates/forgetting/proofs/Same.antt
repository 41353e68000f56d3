-- Two trackers that are the same but for their counts of packets and what they store, and of that the same what was met: a word leaves them so.
-- Assumes nothing.
use Prim.Native.Nat.{ℕ, ◌≤◌}
use mathlib.Core.Path.{◌≡◌, refl, sym, ap, subst, ◌∙◌}
use mathlib.Core.Bool.{Bool, true, false, cond, ◌||◌}
use mathlib.Core.List.{List, [], ◌∷◌}
use native.Mathlib.Omega.{arith}
use borrow.Author.Tests.{le-ltb, eqb-true}
use lib.Dec.{leb, eqb}
use lib.ListN.{length}
use Rattle.words.specs.declared.Word.{Word}
use Rattle.words.specs.Word.{word_of}
use Rattle.packet.specs.Packet.{max_words}
use Rattle.records.specs.Records.{exceed, most_records}
use Rattle.stored.specs.declared.Stored.{Stored}
use Rattle.stored.specs.Stored.{next_stored}
use Rattle.stored.proofs.Replace.{ihw_replaced, tdh_replaced, internal_replaced, cdw_replaced}
use Rattle.cdp_running.specs.declared.Tracker.{Tracker}
use Rattle.cdp_running.specs.Next.{next_tracker}
use Rattle.cdp_running.specs.Word.{taken_as, records_of, TakenWord, Outcome, taken, refused, taken_of, word_call}
use Rattle.cdp_running.proofs.Fine.{few_records}
use Rattle.forgetting.specs.Calls.{Took}
use Rattle.forgetting.specs.Forget.{as_ihw, as_internal_tdh, as_first_cdw}

-- What was met.
pub record Met : Type 0 where
  pub ihw : Bool
  pub internal : Bool
  pub cdw : Bool

unfoldable pub nothing : Met
nothing = record { ihw = false; internal = false; cdw = false }

abbrev pub meets : Met → Took → Met
meets m x = record { ihw = m.ihw || as_ihw x; internal = m.internal || as_internal_tdh x; cdw = m.cdw || as_first_cdw x }

unfoldable pub meets_all : Met → List Took → Met
meets_all m [] = m
meets_all m (x ∷ xs) = meets_all (meets m x) xs

-- A tracker with another count of packets and other things stored, and one with another count alone.
abbrev pub storing : Tracker → ℕ → Stored → Tracker
storing t packets stored =
    record {
      settings = t.settings;
      accepted = t.accepted;
      packets = packets;
      packet = t.packet;
      at = t.at;
      stored = stored;
      frame = t.frame;
    }

abbrev pub counting : Tracker → ℕ → Tracker
counting t packets = storing t packets t.stored

pub record SameStored (m : Met) (x y : Stored) : Type 0 where
  pub ihw : m.ihw ≡ true → x.ihw ≡ y.ihw
  pub tdh : m.internal ≡ true → x.tdh ≡ y.tdh
  pub internal : m.internal ≡ true → x.internal ≡ y.internal
  pub cdw : m.cdw ≡ true → x.cdw ≡ y.cdw

pub record Same (m : Met) (t u : Tracker) : Type 0 where
  pub packets : ℕ
  pub stored : Stored
  pub is : storing t packets stored ≡ u
  pub same : SameStored m t.stored stored

pub carried : {m : Met} {t t' u u' : Tracker} → t ≡ t' → u ≡ u' → Same m t' u' → Same m t u
carried e e' s = rw (e, e') s

-- The second tracker, as the first with the second's count and things.
abbrev pub other : {m : Met} {t u : Tracker} → Same m t u → Tracker
other {t = t} s = storing t s.packets s.stored

pub itself : {m : Met} {t u : Tracker} (s : Same m t u) → Same m t (other s)
itself s = record { packets = s.packets; stored = s.stored; is = refl; same = s.same }

-- With all met they are the same but for the count.
pub all_same : {m : Met} {t u : Tracker} → Same m t u → m.ihw ≡ true → m.internal ≡ true → m.cdw ≡ true
    → counting t u.packets ≡ u
all_same {t = t} {u} s i n c =
    let same = s.same in
    let count : u.packets ≡ s.packets = sym (ap (λ (x : Tracker). x.packets) s.is) in
    (λ k. storing t (count k)
    (record { ihw = same.ihw i k; tdh = same.tdh n k; internal = same.internal n k; cdw = same.cdw c k })) ∙ s.is

-- What a word was taken as, by a tracker.
abbrev took_by : Tracker → Word → Took
took_by t w = record { word = w; kind = (taken_as t w).word; seen = t.at.seen }

stored_same : {m : Met} (x : Took) (old old' : Stored) → SameStored m old old'
    → SameStored (meets m x) (next_stored x.kind x.seen x.word old)
    (next_stored x.kind x.seen x.word old')
stored_same {m = m} x old old' s =
    record {
      ihw = ihw_replaced m.ihw x.kind x.word old.ihw old'.ihw s.ihw;
      tdh = tdh_replaced m.internal x.kind x.word old.tdh old'.tdh s.tdh;
      internal = internal_replaced m.internal x.kind x.word old.internal old'.internal s.internal;
      cdw = cdw_replaced m.cdw x.kind x.word x.seen old.cdw old'.cdw s.cdw;
    }

same_next : {m : Met} {t u : Tracker} (w : Word) → Same m t u
    → Same (meets m (took_by t w)) (next_tracker t (taken_as t w) w) (next_tracker u (taken_as u w) w)
same_next {t = t} w s =
    record {
      packets = s.packets;
      stored = next_stored (taken_as t w).word t.at.seen w s.stored;
      is = ap (λ (x : Tracker). next_tracker x (taken_as x w) w) s.is;
      same = stored_same (took_by t w) t.stored s.stored s.same;
    }

-- Two outcomes of one word: refused alike, or taken alike.
pub data Alike (m : Met) (t : Tracker) (w : Word) : Outcome → Outcome → Type 0 where
  both_refused : (n : ℕ) → Alike m t w (refused n) (refused n)
  both_taken : {x y : TakenWord} → x.kind ≡ y.kind → x.guessed ≡ y.guessed
      → Same (meets m (record { word = w; kind = x.kind; seen = t.at.seen })) x.next y.next
      → length x.records ≤ most_records
      → length y.records ≤ most_records
      → Alike m t w (taken x) (taken y)

-- Six places are room enough.
few_fit : (t : Tracker) (w : Word) (places : ℕ) → most_records ≤ places → exceed (records_of t w) places ≡ false
few_fit t w places h = le-ltb places (length (records_of t w)) (omega (arith, few_records t w))

-- Of the tracker that stores the other's things.
taken_alike : {m : Met} {t u : Tracker} (w : Word) → Same m t u → Alike m t w (taken_of t w) (taken_of u w)
unfolding taken_of
taken_alike {m = m} {t = t} w s =
    subst (λ (x : Tracker). Alike m t w (taken_of t w) (taken_of x w)) s.is
    (both_taken refl refl (same_next w (itself s)) (few_records t w) (few_records (other s) w))

pub word_alike : {m : Met} {t u : Tracker} (b : List ℕ) (p q : ℕ) → Same m t u → (length b ≡ 10 → most_records ≤ p)
    → (length b ≡ 10 → most_records ≤ q)
    → Alike m t (word_of b) (word_call t b p) (word_call u b q)
unfolding word_call
word_alike {m = m} {t = t} b p q s hp hq =
    subst (λ (x : Tracker). Alike m t (word_of b) (word_call t b p) (word_call x b q)) s.is
    (at (eqb (length b) 10) t.accepted (leb max_words t.at.count) (exceed (records_of t w) p)
    (exceed (records_of (other s) w) q)
    (λ e. few_fit t w p (hp (eqb-true _ _ e))) (λ e. few_fit (other s) w q (hq (eqb-true _ _ e))))
  where
    w : Word
    w = word_of b

    at : (ten have full over over' : Bool) → (ten ≡ true → over ≡ false) → (ten ≡ true → over' ≡ false)
        → Alike m t w
        (cond ten (cond have (cond full (refused 3) (cond over (refused 4) (taken_of t w))) (refused 2)) (refused 1))
        (cond ten (cond have (cond full (refused 3) (cond over' (refused 4) (taken_of (other s) w))) (refused 2))
        (refused 1))
    at true true false over over' h h' = rw (h refl, h' refl) (taken_alike w (itself s))
    at true true true over over' h h' = both_refused 3
    at true false full over over' h h' = both_refused 2
    at false have full over over' h h' = both_refused 1
