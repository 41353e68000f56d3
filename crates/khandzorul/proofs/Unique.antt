-- Uniqueness: what each exported function answers and leaves in the arrays is determined, of refused calls too.
-- Assumes nothing.
use Prim.Native.Nat.{ℕ}
use mathlib.Core.Path.{◌≡◌}
use mathlib.Core.List.{List}
use Rattle.words.proofs.Unique.{unique}
use Rattle.packet.specs.declared.Packet.{Packet}
use Rattle.bench_file.specs.File.{check_of}
use Rattle.cdp_running.specs.declared.Tracker.{Tracker}
use Rattle.tracker_array.proofs.Laws.{Decided, is, none, decide}
use Rattle.khandzorul.specs.declared.WordNumbers.{WordNumbers}
use Rattle.khandzorul.specs.declared.PayloadNumbers.{PayloadNumbers}
use Rattle.khandzorul.specs.Calls.{Asked, On, StartOn, PacketOn, ResetOn, WordOn, PayloadOn}

-- What a call gives on an array: on the one tracker whose numbers it holds, or where it holds none's.
on_unique : {A : Type 0} {a : List ℕ} {first second otherwise : A} {call : Tracker → A} → On a first otherwise call
    → On a second otherwise call
    → first ≡ second
on_unique {A} {a} {first} {second} u v = at (decide a)
  where
    at : Decided a → first ≡ second
    at (is t i) = unique (u.is t i) (v.is t i)
    at (none other) = unique (u.none other) (v.none other)

pub start_unique : {a after after' : List ℕ} {s : Asked} {first second : ℕ} → StartOn a s first after
    → StartOn a s second after' → (first ≡ second)
    × (after ≡ after')
start_unique u v = (unique u.answer v.answer, unique u.tracker v.tracker)

pub packet_unique : {a after after' : List ℕ} {p : Packet} {first second : ℕ} → PacketOn a p first after
    → PacketOn a p second after'
    → (first ≡ second) × (after ≡ after')
packet_unique u v = (on_unique u.answer v.answer, on_unique u.tracker v.tracker)

pub reset_unique : {a after after' : List ℕ} {first second : ℕ} → ResetOn a first after → ResetOn a second after'
    → (first ≡ second) × (after ≡ after')
reset_unique u v = (on_unique u.answer v.answer, on_unique u.tracker v.tracker)

pub word_unique : {a bytes buffer after after' end end' : List ℕ} {first second : WordNumbers}
    → WordOn a bytes buffer first after end
    → WordOn a bytes buffer second after' end'
    → (first ≡ second) × ((after ≡ after') × (end ≡ end'))
word_unique u v =
    (on_unique u.answer v.answer, (on_unique u.tracker v.tracker, on_unique u.buffer_is v.buffer_is))

pub payload_unique : {a bytes buffer after after' end end' : List ℕ} {first second : PayloadNumbers}
    → PayloadOn a bytes buffer first after end
    → PayloadOn a bytes buffer second after' end' → (first ≡ second) × ((after ≡ after') × (end ≡ end'))
payload_unique u v =
    (on_unique u.answer v.answer, (on_unique u.tracker v.tracker, on_unique u.buffer_is v.buffer_is))

pub check_file_unique : (file : List ℕ) {first second : ℕ} → first ≡ check_of file → second ≡ check_of file
    → first ≡ second
check_file_unique file = unique
