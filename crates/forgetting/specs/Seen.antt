-- Calls of the exported functions one after the other, by their promises alone: what the caller sees of each, and the numbers that it leaves.
-- Assumes nothing.
use Rattle.std.specs.Prelude.{ℕ, ◌≡◌, List, [], ◌∷◌, ◌++◌}
use Rattle.packet.specs.declared.Packet.{Packet}
use Rattle.khandzorul.specs.declared.WordNumbers.{WordNumbers}
use Rattle.khandzorul.specs.declared.PayloadNumbers.{PayloadNumbers}
use Rattle.khandzorul.specs.Calls.{PacketOn, ResetOn, WordOn, PayloadOn}
use Rattle.forgetting.specs.Calls as C
use Rattle.forgetting.specs.Calls.{Call}
use Rattle.forgetting.specs.Forget.{bare}

-- What a caller sees: the answer, and the final content of the record buffer.
pub data Seen : Type 0 where
  packet : (refusal : ℕ) → Seen
  word : WordNumbers → (buffer : List ℕ) → Seen
  payload : PayloadNumbers → (buffer : List ℕ) → Seen
  reset : (refusal : ℕ) → Seen

-- A call on an array, what is seen of it, and the array after it.
pub data Did : List ℕ → Call → Seen → List ℕ → Type 0 where
  khz_packet : {a : List ℕ} {p : Packet} {r : ℕ} {after : List ℕ} → PacketOn a p r after → Did a (C.packet p) (packet r) after
  khz_word : {a bytes buffer : List ℕ} {r : WordNumbers} {after buffer-after : List ℕ} → WordOn a bytes buffer r after buffer-after
      → Did a (C.word bytes buffer) (word r buffer-after) after
  khz_payload : {a bytes buffer : List ℕ} {r : PayloadNumbers} {after buffer-after : List ℕ} → PayloadOn a bytes buffer r after buffer-after
      → Did a (C.payload bytes buffer) (payload r buffer-after) after
  khz_reset : {a : List ℕ} {r : ℕ} {after : List ℕ} → ResetOn a r after → Did a C.reset (reset r) after

pub data Ran : List ℕ → List Call → List Seen → List ℕ → Type 0 where
  none : {a : List ℕ} → Ran a [] [] a
  then : {a b after : List ℕ} {c : Call} {s : Seen} {calls : List Call} {seen : List Seen} → Did a c s b → Ran b calls seen after
      → Ran a (c ∷ calls) (s ∷ seen) after

-- What is seen of refusals and kinds: of a word its refusal, kind and guess; of a payload its refusal and the words taken.
abbrev pub kinds_seen : Seen → List ℕ
kinds_seen (packet refusal) = refusal ∷ []
kinds_seen (word n buffer) = n.refusal ∷ n.kind ∷ n.guessed ∷ []
kinds_seen (payload n buffer) = n.refusal ∷ n.words ∷ []
kinds_seen (reset refusal) = refusal ∷ []

unfoldable pub all_kinds : List Seen → List (List ℕ)
all_kinds [] = []
all_kinds (s ∷ seen) = kinds_seen s ∷ all_kinds seen

-- What is seen, without the last number of each record.
abbrev pub bare_seen : Seen → Seen
bare_seen (packet refusal) = packet refusal
bare_seen (word n buffer) = word n (bare n.records buffer)
bare_seen (payload n buffer) = payload n (bare n.records buffer)
bare_seen (reset refusal) = reset refusal

unfoldable pub all_bare : List Seen → List Seen
all_bare [] = []
all_bare (s ∷ seen) = bare_seen s ∷ all_bare seen

-- What callers of two arrays see, of the calls and of later ones, and the numbers at the end. `equally` is that both had accepted equally many packets.
pub record ForgottenOnArrays (met equally : Type 0) (seen seen' later later' : List Seen) (z z' : List ℕ) : Type 0 where
  pub kinds_agree : all_kinds (seen ++ later) ≡ all_kinds (seen' ++ later')
  pub numbers_agree : met → equally → z ≡ z'
  pub seen_agree : met → equally → later ≡ later'
  pub bare_agree : met → all_bare later ≡ all_bare later'
