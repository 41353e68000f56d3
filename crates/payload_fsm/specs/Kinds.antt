-- The kinds that a word is taken as: their numbers, and what they have in common.
-- Assumes nothing.
use Rattle.std.specs.Prelude.{ℕ, ◌≡◌, Bool, true, false}
use Rattle.payload_fsm.specs.declared.ItsPayloadWord.{ItsPayloadWord}
use Rattle.payload_fsm.specs.declared.ItsPayloadWord.TheVariants as K

-- The numbers of the kinds; 0 is none, for a refused word.
abbrev pub kind_number : ItsPayloadWord → ℕ
kind_number K.Ihw = 1
kind_number K.IhwContinuation = 2
kind_number K.Tdh = 3
kind_number K.TdhAfterPacketDone = 4
kind_number K.TdhContinuation = 5
kind_number K.DataWord = 6
kind_number K.Cdw = 7
kind_number K.Tdt = 8
kind_number K.Ddw0 = 9

-- What a conversion to a number gives.
abbrev pub gives_kind_number : ItsPayloadWord → ℕ → Type 0
gives_kind_number word n = n ≡ kind_number word

-- An IHW, continuation too.
abbrev pub is_ihw : ItsPayloadWord → Bool
is_ihw K.Ihw = true
is_ihw K.IhwContinuation = true
is_ihw K.Tdh = false
is_ihw K.TdhAfterPacketDone = false
is_ihw K.TdhContinuation = false
is_ihw K.DataWord = false
is_ihw K.Cdw = false
is_ihw K.Tdt = false
is_ihw K.Ddw0 = false

-- A TDH of any of its three kinds.
abbrev pub is_tdh : ItsPayloadWord → Bool
is_tdh K.Ihw = false
is_tdh K.IhwContinuation = false
is_tdh K.Tdh = true
is_tdh K.TdhAfterPacketDone = true
is_tdh K.TdhContinuation = true
is_tdh K.DataWord = false
is_tdh K.Cdw = false
is_tdh K.Tdt = false
is_tdh K.Ddw0 = false

-- A data word or CDW.
abbrev pub is_data : ItsPayloadWord → Bool
is_data K.Ihw = false
is_data K.IhwContinuation = false
is_data K.Tdh = false
is_data K.TdhAfterPacketDone = false
is_data K.TdhContinuation = false
is_data K.DataWord = true
is_data K.Cdw = true
is_data K.Tdt = false
is_data K.Ddw0 = false

-- A TDT.
abbrev pub is_tdt : ItsPayloadWord → Bool
is_tdt K.Ihw = false
is_tdt K.IhwContinuation = false
is_tdt K.Tdh = false
is_tdt K.TdhAfterPacketDone = false
is_tdt K.TdhContinuation = false
is_tdt K.DataWord = false
is_tdt K.Cdw = false
is_tdt K.Tdt = true
is_tdt K.Ddw0 = false
