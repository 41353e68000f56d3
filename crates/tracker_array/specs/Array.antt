-- A tracker as 48 numbers, for callers who own its memory: which number stands where, and which numbers are a tracker's. The rest of the places are 0.
-- Assumes nothing.
use Rattle.std.specs.Prelude.{ℕ, ◌-◌, ◌<◌, ◌^◌, ◌≡◌, Bool, cond, is_some, ◌||◌, List, [], ◌∷◌, ◌++◌, leb, eqb, length, replicate}
use Rattle.packet.specs.declared.Rule.{Rule}
use Rattle.packet.specs.declared.Rule.TheVariants as R
use Rattle.packet.specs.declared.Settings.{Settings}
use Rattle.packet.specs.declared.Packet.{Packet}
use Rattle.packet.specs.Settings.{period_of}
pub use Rattle.packet.specs.Settings.{rule_number}
pub use Rattle.payload_fsm.specs.States.{state_number}
use Rattle.stored.specs.declared.StoredTdh.{StoredTdh}
use Rattle.stored.specs.declared.InternalTdh.{InternalTdh}
use Rattle.stored.specs.declared.StoredCdw.{StoredCdw}
use Rattle.stored.specs.declared.StoredIhw.{StoredIhw}
use Rattle.stored.specs.declared.Stored.{Stored}
use Rattle.stored.specs.declared.Frame.{Frame}
use Rattle.cdp_running.specs.declared.At.{At}
use Rattle.cdp_running.specs.declared.Tracker.{Tracker}
use Rattle.cdp_running.specs.Tracker.{Good}

abbrev pub size : ℕ
size = 48

-- The first number of every tracker, so that zeros are none: the letters KHZ and the version of the boundary, KHZ_API of include/khandzorul.h, so that an
-- array of another version is none either.
abbrev pub mark : ℕ
mark = 0x4B485A05

abbrev pub flag : Bool → ℕ
flag b = cond b 1 0

abbrev pub is_on : ℕ → Bool
is_on n = eqb n 1

abbrev pub is_flag : ℕ → Bool
is_flag n = leb n 1

-- 02, ticket 9: rule 1 or rule 2.
abbrev pub is_rule : ℕ → Bool
is_rule n = eqb n 1 || eqb n 2

abbrev pub rule_of : ℕ → Rule
rule_of n = cond (eqb n 2) R.Two R.One

abbrev pub settings_numbers : Settings → List ℕ
settings_numbers s = flag s.running ∷ flag s.frames ∷ flag (is_some s.period) ∷ period_of s ∷ rule_number s.rule ∷ []

abbrev pub packet_numbers : Packet → List ℕ
packet_numbers p = p.position ∷ p.orbit ∷ p.trigger ∷ p.bc ∷ p.page ∷ p.stop ∷ p.format ∷ []

abbrev pub ihw_numbers : StoredIhw → List ℕ
ihw_numbers i = flag i.present ∷ i.lanes ∷ []

abbrev pub tdh_numbers : StoredTdh → List ℕ
tdh_numbers h = flag h.present ∷ h.trigger ∷ h.bc ∷ h.orbit ∷ []

abbrev pub internal_numbers : InternalTdh → List ℕ
internal_numbers i = flag i.present ∷ i.bc ∷ i.orbit ∷ []

abbrev pub cdw_numbers : StoredCdw → List ℕ
cdw_numbers c = flag c.present ∷ c.user ∷ []

abbrev pub frame_numbers : Frame → List ℕ
frame_numbers f = flag f.opened ∷ f.start ∷ []

-- State, count and "data seen".
abbrev pub at_numbers : At → List ℕ
at_numbers at = state_number at.fsm.state ∷ at.count ∷ flag at.seen ∷ []

-- The mark, the settings, whether a packet was accepted and how many were, the packet, and where in it the tracker is.
abbrev pub first_numbers : Settings → Bool → ℕ → Packet → At → List ℕ
first_numbers settings accepted packets packet at =
    (mark ∷ [])
    ++ (settings_numbers settings ++ ((flag accepted ∷ packets ∷ []) ++ (packet_numbers packet ++ at_numbers at)))

-- What is stored, and the frame.
abbrev pub stored_numbers : Stored → Frame → List ℕ
stored_numbers s frame =
    ihw_numbers s.ihw
    ++ (tdh_numbers s.tdh ++ (internal_numbers s.internal ++ (cdw_numbers s.cdw ++ frame_numbers frame)))

-- Numbers, and 0 at the places after them.
abbrev pub filled : List ℕ → List ℕ
filled numbers = numbers ++ replicate (size - length numbers) 0

unfoldable pub encode_of : Tracker → List ℕ
encode_of t =
    filled
    (first_numbers t.settings t.accepted t.packets t.packet t.at ++ stored_numbers t.stored t.frame)

-- What fits the widths of its types and the invariant does not speak of.
pub record Sized (t : Tracker) : Type 0 where
  pub period : period_of t.settings < 2 ^ 32
  pub orbit : t.stored.tdh.orbit < 2 ^ 32
  pub internal_orbit : t.stored.internal.orbit < 2 ^ 32

-- Which numbers are a tracker's: those of a tracker that meets its invariant, which the start and every call leave met, and the widths of its types.
pub record IsTracker (a : List ℕ) (t : Tracker) : Type 0 where
  pub numbers : a ≡ encode_of t
  pub good : Good t
  pub sized : Sized t

-- Numbers that are no tracker's.
abbrev pub NoTracker : List ℕ → Type 0
NoTracker a = (t : Tracker) → IsTracker a t → ⊥

-- What an array holds after a tracker was written to it; one of another length stays as it was.
abbrev pub written_to : List ℕ → Tracker → List ℕ
written_to a t = cond (eqb (length a) size) (encode_of t) a
