-- Data word and CDW have the same rows: what an arm for both of them says of the kind's number.
-- Assumes nothing.
use Prim.Native.Nat.{ℕ}
use mathlib.Core.Path.{◌≡◌, refl}
use mathlib.Core.Bool.{Bool}
use mathlib.Core.Logic.{◌⊎◌, ⊎_elim}
use native.Mathlib.Omega.{arith}
use denote.Enum.Declared.{tag_of}
use Rattle.words.specs.declared.Word.{Word}
use Rattle.payload_fsm.specs.declared.ItsPayloadWord.{ItsPayloadWord}
use Rattle.payload_fsm.specs.declared.ItsPayloadWord.TheVariants as K
use Rattle.payload_fsm.specs.contracts.ItsPayloadWord.{the_type}
use Rattle.validators.specs.DataWords.{data_rows}
use Rattle.cdp_running.specs.declared.Tracker.{Tracker}
use Rattle.cdp_running.specs.Word.{rows_as}

neither : {A : Type 0} {n : ℕ} → (n ≡ 5 → A) → (n ≡ 6 → A) → (n ≡ 5) ⊎ (n ≡ 6) → A
neither f g e = ⊎_elim f g e

pub data_rows_lem : (kind : ItsPayloadWord) (guessed : Bool) (t : Tracker) (w : Word) → (tag_of the_type kind ≡ 5)
    ⊎ (tag_of the_type kind ≡ 6)
    → rows_as kind guessed t w ≡ data_rows t.settings t.at.seen t.stored.ihw.lanes t.stored.cdw guessed w
data_rows_lem K.DataWord guessed t w e = refl
data_rows_lem K.Cdw guessed t w e = refl
data_rows_lem K.Ihw guessed t w e = neither (λ q. absurd (omega (arith, q))) (λ q. absurd (omega (arith, q))) e
data_rows_lem K.IhwContinuation guessed t w e = neither (λ q. absurd (omega (arith, q))) (λ q. absurd (omega (arith, q))) e
data_rows_lem K.Tdh guessed t w e = neither (λ q. absurd (omega (arith, q))) (λ q. absurd (omega (arith, q))) e
data_rows_lem K.TdhAfterPacketDone guessed t w e =
    neither (λ q. absurd (omega (arith, q))) (λ q. absurd (omega (arith, q))) e
data_rows_lem K.TdhContinuation guessed t w e = neither (λ q. absurd (omega (arith, q))) (λ q. absurd (omega (arith, q))) e
data_rows_lem K.Tdt guessed t w e = neither (λ q. absurd (omega (arith, q))) (λ q. absurd (omega (arith, q))) e
data_rows_lem K.Ddw0 guessed t w e = neither (λ q. absurd (omega (arith, q))) (λ q. absurd (omega (arith, q))) e
