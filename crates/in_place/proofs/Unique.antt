-- Uniqueness: what each call on the numbers answers and leaves is determined, of refused calls too.
-- Assumes nothing.
use Prim.Native.Nat.{ℕ}
use mathlib.Core.Path.{◌≡◌}
use mathlib.Core.List.{List}
use Rattle.words.proofs.Unique.{unique}
use Rattle.packet.specs.declared.Packet.{Packet}
use Rattle.cdp_running.specs.Told.{Told}
use Rattle.payload.specs.Answer.{PayloadTold}
use Rattle.in_place.specs.Calls.{PacketInPlace, ResetInPlace, WordInPlace, PayloadInPlace}

pub packet_unique : {a after after' : List ℕ} {p : Packet} {first second : ℕ} → PacketInPlace a p first after
    → PacketInPlace a p second after'
    → (first ≡ second) × (after ≡ after')
packet_unique u v = (unique u.answer v.answer, unique u.numbers v.numbers)

pub reset_unique : {a after after' : List ℕ} → ResetInPlace a after → ResetInPlace a after' → after ≡ after'
reset_unique u v = unique u.numbers v.numbers

pub word_unique : {a bytes buffer after after' end end' : List ℕ} {first second : Told}
    → WordInPlace a bytes buffer first after end
    → WordInPlace a bytes buffer second after' end' → (first ≡ second) × ((after ≡ after') × (end ≡ end'))
word_unique u v =
    (unique u.answer v.answer, (unique u.numbers v.numbers, unique u.buffer_is v.buffer_is))

pub payload_unique : {a bytes buffer after after' end end' : List ℕ} {first second : PayloadTold}
    → PayloadInPlace a bytes buffer first after end
    → PayloadInPlace a bytes buffer second after' end' → (first ≡ second) × ((after ≡ after') × (end ≡ end'))
payload_unique u v =
    (unique u.answer v.answer, (unique u.numbers v.numbers, unique u.buffer_is v.buffer_is))
