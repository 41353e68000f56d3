-- Two trackers that are the same but for their counts of packets answer the same, but for the last number of each record.
-- Assumes nothing.
use Prim.Native.Nat.{ℕ, zero, suc, ◌+◌, ◌-◌, ◌*◌, ◌/◌, ◌%◌}
use mathlib.Core.Path.{◌≡◌, refl, sym, ap, subst, ◌∙◌}
use mathlib.Core.Bool.{Bool, true, false, cond, true≢false}
use mathlib.Core.List.{List, [], ◌∷◌, ◌++◌}
use lib.Dec.{leb, ltb, eqb}
use lib.ListN.{length, take, drop, length-append}
use Rattle.words.specs.declared.Word.{Word}
use Rattle.words.specs.Word.{word_of}
use Rattle.words.specs.Lists.{over}
use Rattle.packet.specs.Packet.{in_range, max_words}
use Rattle.payload_fsm.specs.declared.ItsPayloadWord.{ItsPayloadWord}
use Rattle.payload_fsm.specs.declared.ItsPayloadWord.TheVariants as K
use Rattle.records.specs.declared.Row.{Row}
use Rattle.records.specs.Records.{Record, record_at, record_width, flat, given, exceed, room}
use Rattle.records.proofs.Given.{counted, length_flat}
use Rattle.cdp_running.specs.declared.Tracker.{Tracker}
use Rattle.cdp_running.specs.Told as T
use Rattle.cdp_running.specs.Told.{PacketAnswer}
use Rattle.cdp_running.specs.Tracker.{packet_call}
use Rattle.cdp_running.specs.Word as Word
use Rattle.cdp_running.specs.Word.{rows_as, rows_of, taken_as, position_now, records_of, TakenWord, Outcome, taken, refused, taken_of, word_call}
use Rattle.cdp_running.proofs.Outcome.{by_range, packet_not_ten}
use Rattle.payload.specs.Payload.{Run, stop, preceded, onward, words_from, payload_call}
use Rattle.forgetting.specs.Calls.{Call, packet, word, payload, reset, after, Answer, answer, answers}
use Rattle.forgetting.specs.Forget.{NotTen, NeverTen, bare, bare_answer, bare_answers}
use Rattle.forgetting.proofs.Same.{counting}

-- The numbers of records, but for the last of each.
unfoldable bare_numbers : List Record → List ℕ
bare_numbers [] = []
bare_numbers (r ∷ rs) = r.position ∷ r.code ∷ r.first ∷ r.second ∷ bare_numbers rs

bare_flat : (rs : List Record) (rest : List ℕ) → bare (length rs) (flat rs ++ rest) ≡ bare_numbers rs ++ rest
unfolding bare flat bare_numbers
bare_flat [] rest = refl
bare_flat (r ∷ rs) rest = ap (λ (l : List ℕ). r.position ∷ r.code ∷ r.first ∷ r.second ∷ l) (bare_flat rs rest)

bare_append : (xs ys : List Record) → bare_numbers (xs ++ ys) ≡ bare_numbers xs ++ bare_numbers ys
unfolding bare_numbers
bare_append [] ys = refl
bare_append (x ∷ xs) ys = ap (λ (l : List ℕ). x.position ∷ x.code ∷ x.first ∷ x.second ∷ l) (bare_append xs ys)

-- Records that are the same but for that number.
record SameBare (rs rs' : List Record) : Type 0 where
  pub count : length rs ≡ length rs'
  pub numbers : bare_numbers rs ≡ bare_numbers rs'

no_records : SameBare [] []
no_records = record { count = refl; numbers = refl }

both_append : {xs xs' ys ys' : List Record} → SameBare xs xs' → SameBare ys ys' → SameBare (xs ++ ys) (xs' ++ ys')
both_append {xs} {xs'} {ys} {ys'} s r =
    record {
      count = length-append xs ys ∙ (λ i. s.count i + r.count i) ∙ sym (length-append xs' ys');
      numbers = bare_append xs ys ∙ (λ i. s.numbers i ++ r.numbers i) ∙ sym (bare_append xs' ys');
    }

-- In a buffer they leave the same without it.
bare_over : {rs rs' : List Record} (buffer : List ℕ) → SameBare rs rs'
    → bare (length rs) (over (flat rs) buffer) ≡ bare (length rs') (over (flat rs') buffer)
bare_over {rs} {rs'} buffer s =
    let long = length_flat rs ∙ ap (λ (n : ℕ). record_width * n) s.count ∙ sym (length_flat rs') in
    bare_flat rs _ ∙ (λ i. s.numbers i ++ drop (long i) buffer) ∙ sym (bare_flat rs' _)

-- The records of one word in two packets.
numbers_bare : (position n n' : ℕ) (rows : List Row) → bare_numbers (given position n rows) ≡ bare_numbers (given position n' rows)
unfolding given bare_numbers
numbers_bare position n n' [] = refl
numbers_bare position n n' (row ∷ rows) = at row.on (numbers_bare position n n' rows)
  where
    at : (on : Bool) → bare_numbers (given position n rows) ≡ bare_numbers (given position n' rows)
        → bare_numbers (cond on (record_at position n row ∷ []) [] ++ given position n rows)
        ≡ bare_numbers (cond on (record_at position n' row ∷ []) [] ++ given position n' rows)
    at true e = ap (λ (l : List ℕ). position ∷ row.code ∷ row.first ∷ row.second ∷ l) e
    at false e = e

given_bare : (position n n' : ℕ) (rows : List Row) → SameBare (given position n rows) (given position n' rows)
given_bare position n n' rows =
    record { count = counted position n rows ∙ sym (counted position n' rows); numbers = numbers_bare position n n' rows }

-- What two word calls come to.
data Twins (n : ℕ) : Outcome → Outcome → Type 0 where
  both_refused : (number : ℕ) → Twins n (refused number) (refused number)
  both_taken : {x y : TakenWord} → x.kind ≡ y.kind → x.guessed ≡ y.guessed → x.frame ≡ y.frame → x.lanes ≡ y.lanes
      → counting x.next n ≡ y.next
      → SameBare x.records y.records
      → Twins n (taken x) (taken y)

-- The rows of a word do not go by the count.
rows_same : (kind : ItsPayloadWord) (guessed : Bool) (t : Tracker) (n : ℕ) (w : Word)
    → rows_as kind guessed t w ≡ rows_as kind guessed (counting t n) w
rows_same K.Ihw guessed t n w = refl
rows_same K.IhwContinuation guessed t n w = refl
rows_same K.Tdh guessed t n w = refl
rows_same K.TdhAfterPacketDone guessed t n w = refl
rows_same K.TdhContinuation guessed t n w = refl
rows_same K.DataWord guessed t n w = refl
rows_same K.Cdw guessed t n w = refl
rows_same K.Tdt guessed t n w = refl
rows_same K.Ddw0 guessed t n w = refl

records_bare : (t : Tracker) (n : ℕ) (w : Word) → SameBare (records_of t w) (records_of (counting t n) w)
unfolding records_of
records_bare t n w =
    let a = taken_as t w in
    subst (λ (rows : List Row). SameBare (given (position_now t) t.packets (rows_of t a w)) (given (position_now t) n rows))
    (rows_same a.word a.guessed t n w)
    (given_bare (position_now t) t.packets n (rows_of t a w))

word_twins : (t : Tracker) (n : ℕ) (b : List ℕ) (places : ℕ) → Twins n (word_call t b places) (word_call (counting t n) b places)
unfolding word_call taken_of
word_twins t n b places =
    at (eqb (length b) 10) t.accepted (leb max_words t.at.count) (exceed (records_of t w) places)
    (exceed (records_of (counting t n) w) places) (ap (ltb places) (records_bare t n w).count)
  where
    w : Word
    w = word_of b

    at : (ten have full over over' : Bool) → over ≡ over'
        → Twins n
        (cond ten (cond have (cond full (refused 3) (cond over (refused 4) (taken_of t w))) (refused 2)) (refused 1))
        (cond ten (cond have (cond full (refused 3) (cond over' (refused 4) (taken_of (counting t n) w))) (refused 2))
        (refused 1))
    at true true false false false e = both_taken refl refl refl refl refl (records_bare t n w)
    at true true false false true e = absurd (true≢false (sym e))
    at true true false true false e = absurd (true≢false e)
    at true true false true true e = both_refused 4
    at true true true over over' e = both_refused 3
    at true false full over over' e = both_refused 2
    at false have full over over' e = both_refused 1

-- What two payload calls come to.
record SameRun (n : ℕ) (r r' : Run) : Type 0 where
  pub words : r.words ≡ r'.words
  pub refusal : r.refusal ≡ r'.refusal
  pub records : SameBare r.records r'.records
  pub tracker : counting r.tracker n ≡ r'.tracker

stopped : (t : Tracker) (n number : ℕ) → SameRun n (stop t number) (stop (counting t n) number)
stopped t n number = record { words = refl; refusal = refl; records = no_records; tracker = refl }

words_bare : (k : ℕ) (t : Tracker) (n : ℕ) (b : List ℕ) (places : ℕ)
    → SameRun n (words_from k t b places) (words_from k (counting t n) b places)
unfolding words_from
words_bare zero t n b places = stopped t n 0
words_bare (suc k) t n b places = at (word_twins t n (take 10 b) places) (words_bare k)
  where
    at : {o o' : Outcome} → Twins n o o'
        → ((t : Tracker) (n : ℕ) (b : List ℕ) (places : ℕ)
        → SameRun n (words_from k t b places) (words_from k (counting t n) b places))
        → SameRun n (onward t o (λ next records. preceded 1 records (words_from k next (drop 10 b) (places - length records))))
        (onward (counting t n) o' (λ next records. preceded 1 records (words_from k next (drop 10 b) (places - length records))))
    at (both_refused number) more = stopped t n number
    at (both_taken {x = x} {y = y} _ _ _ _ next records) more =
        let r = words_from k x.next (drop 10 b) (places - length x.records) in
        let rest : SameRun n r (words_from k y.next (drop 10 b) (places - length y.records)) =
        subst (λ (z : Tracker). SameRun n r (words_from k z (drop 10 b) (places - length y.records))) next
        (subst (λ (l : ℕ). SameRun n r (words_from k (counting x.next n) (drop 10 b) (places - l))) records.count
        (more x.next n (drop 10 b) (places - length x.records))) in
        record {
          words = ap (λ (m : ℕ). 1 + m) rest.words;
          refusal = rest.refusal;
          records = both_append records rest.records;
          tracker = rest.tracker;
        }

payload_bare : (t : Tracker) (n : ℕ) (b : List ℕ) (places : ℕ)
    → SameRun n (payload_call t b places) (payload_call (counting t n) b places)
unfolding payload_call
payload_bare t n b places = at (eqb (length b % 10) 0) t.accepted
  where
    at : (whole have : Bool)
        → SameRun n (cond whole (cond have (words_from (length b / 10) t b places) (stop t 2)) (stop t 1))
        (cond whole (cond have (words_from (length b / 10) (counting t n) b places) (stop (counting t n) 2))
        (stop (counting t n) 1))
    at true true = words_bare (length b / 10) t n b places
    at true false = stopped t n 2
    at false have = stopped t n 1

-- A call on two such trackers: its answers are the same without that number, and it leaves two such trackers.
abbrev Bares : Tracker → Tracker → Call → Type 0
Bares t u c =
    (bare_answer (answer t c) ≡ bare_answer (answer u c)) × (counting (after t c) (after u c).packets ≡ after u c)

own_count : (t : Tracker) {u : Tracker} {n : ℕ} → counting t n ≡ u → counting t u.packets ≡ u
own_count t e = ap (counting t) (sym (ap (λ (x : Tracker). x.packets) e)) ∙ e

call_bare : (t : Tracker) (n : ℕ) (c : Call) → NotTen (answer t c) → NotTen (answer (counting t n) c)
    → Bares t (counting t n) c
call_bare t n (packet p) ten ten' =
    subst (λ (r : PacketAnswer). Both r (packet_call (counting t n) p)) (sym (packet_not_ten t p ten))
    (subst (Both (by_range (in_range p) t p)) (sym (packet_not_ten (counting t n) p ten')) (at (in_range p)))
  where
    Both : PacketAnswer → PacketAnswer → Type 0
    Both r r' = ◌≡◌ {A = Answer} (packet r.refusal) (packet r'.refusal) × (counting r.tracker r'.tracker.packets ≡ r'.tracker)

    at : (ok : Bool) → Both (by_range ok t p) (by_range ok (counting t n) p)
    at true = (refl, refl)
    at false = (refl, refl)
call_bare t n (word b buffer) _ _ = at (word_twins t n b (room buffer))
  where
    at : {o o' : Outcome} → Twins n o o'
        → (bare_answer (word (Word.word_answer t o).told (over (flat (Word.records_in o)) buffer))
        ≡ bare_answer (word (Word.word_answer (counting t n) o').told (over (flat (Word.records_in o')) buffer)))
        × (counting (Word.word_answer t o).tracker (Word.word_answer (counting t n) o').tracker.packets
        ≡ (Word.word_answer (counting t n) o').tracker)
    at (both_refused number) = (refl, refl)
    at (both_taken {x = x} kind guessed frame lanes next records) =
        let left = bare_over buffer records in (
          λ i. word (T.Taken (record {
            kind = kind i;
            guessed = guessed i;
            records = records.count i;
            frame = frame i;
            lanes = lanes i;
          })) (left i),
          own_count x.next next,
        )
call_bare t n (payload b buffer) _ _ =
    let s = payload_bare t n b (room buffer) in
    let left = bare_over buffer s.records in
    (λ i. payload (s.words i) (s.records.count i) (s.refusal i) (left i), own_count (payload_call t b (room buffer)).tracker s.tracker)
call_bare t n reset _ _ = (refl, refl)

pub calls_bare : (t u : Tracker) (calls : List Call) → counting t u.packets ≡ u → NeverTen t calls → NeverTen u calls
    → bare_answers (answers t calls) ≡ bare_answers (answers u calls)
unfolding bare_answers answers
calls_bare t u [] e n n' = refl
calls_bare t u (c ∷ calls) e n n' =
    let one = subst (λ (x : Tracker). NotTen (answer x c) → Bares t x c) e (call_bare t u.packets c n.0) n'.0 in
    let more = calls_bare (after t c) (after u c) calls one.1 n.1 n'.1 in
    λ i. one.0 i ∷ more i
