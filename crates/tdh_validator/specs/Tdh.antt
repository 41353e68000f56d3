-- 01, "Records": the three kinds of TDH, and the interval.
-- Assumes nothing.
use Rattle.std.specs.Prelude.{◌≡◌, ℕ, ◌+◌, ◌-◌, ◌*◌, ◌%◌, ◌^◌, ◌<◌, ◌≤◌, Bool, cond, is_some, ◌&&◌, ◌||◌, List, [], ◌∷◌, ◌==◌, nat_le, nat_lt}
use Rattle.words.specs.declared.Word.{Word}
use Rattle.words.specs.Word.{id_of, slice}
use Rattle.words.specs.Tdh.{tdh_id, max_bc, trigger_type, internal_trigger, continuation, trigger_bc, trigger_orbit, is_reserved0}
use Rattle.packet.specs.declared.Rule.{Rule}
use Rattle.packet.specs.declared.Settings.{Settings}
use Rattle.packet.specs.declared.Packet.{Packet}
use Rattle.packet.specs.Settings.{counts_orbits, period_of}
use Rattle.records.specs.declared.Row.{Row}
use Rattle.records.specs.Records.{when}
use Rattle.records.specs.Detail.{detailed, differ}
use Rattle.stored.specs.declared.StoredTdh.{StoredTdh}
use Rattle.stored.specs.declared.InternalTdh.{InternalTdh}

-- "TDH: 40 (1 id alone; else 2 reserved plus 4 type and internal both 0)."
abbrev pub detail : Word → ℕ
detail w =
    cond (id_of w == tdh_id)
    (cond (is_reserved0 w) 0 2 + cond (trigger_type w == 0 && internal_trigger w == 0) 4 0)
    1

-- "3563 is the last legal crossing."
abbrev pub Legal : ℕ → Type 0
Legal bc = bc ≤ max_bc

-- "For legal BCs the found period is the one number below 3564 that added to previous gives current modulo 3564."
abbrev pub crossings : ℕ
crossings = 3564

pub record IsPeriod (previous current n : ℕ) : Type 0 where
  pub below : n < crossings
  pub meets : (previous + n) % crossings ≡ current

-- Such a number, by a formula (that it is one, and no other is: proofs/Period.antt).
abbrev pub period : ℕ → ℕ → ℕ
period previous current = (current + (crossings - previous % crossings)) % crossings

-- "either BC is above 3563"
abbrev pub illegal : ℕ → ℕ → Bool
illegal previous current = nat_lt max_bc previous || nat_lt max_bc current

-- 02, ticket 9: "the orbit number turns over from 4,294,967,295 to 0, and the difference must carry on across it": the one number of 32 bits that added
-- to the previous orbit gives the current one modulo 2^32.
pub record IsOrbitDifference (previous current n : ℕ) : Type 0 where
  pub below : n < 2 ^ 32
  pub meets : (previous + n) % 2 ^ 32 ≡ current

-- Such a number, by a formula (that it is one, and no other is: proofs/Orbits.antt).
abbrev pub orbit_difference : ℕ → ℕ → ℕ
orbit_difference previous current = (current + (2 ^ 32 - previous % 2 ^ 32)) % 2 ^ 32

-- "A difference of 2^31 or more, or the same orbit with a smaller BC, means time ran back".
abbrev pub ran_back : ℕ → ℕ → ℕ → Bool
ran_back difference previous current = nat_le (2 ^ 31) difference || (difference == 0 && nat_lt current previous)

-- "rule 2 ..: orbit difference times 3,564 plus current less previous". It is told where both crossings are legal and time did not run back, and there
-- nothing is cut off at 0 (proofs/Orbits.antt, `onward`).
abbrev pub long_period : ℕ → ℕ → ℕ → ℕ
long_period difference previous current = difference * crossings + current - previous

abbrev pub found_by : Rule → ℕ → ℕ → ℕ → ℕ
found_by rule difference previous current =
    cond (counts_orbits rule) (long_period difference previous current) (period previous current)

-- "if a period is set, this TDH is internal and an earlier one was (the last such)"
abbrev pub asked : Settings → InternalTdh → Word → Bool
asked s earlier w = s.running && (is_some s.period && (internal_trigger w == 1 && earlier.present))

-- Of two internal TDHs and their orbit difference, if they are looked at: "when either BC is above 3563, 1045 (previous, current); else 45 if the
-- period differs (found, set)." 02, ticket 9: "time ran back: record 1046 (previous, current BC) in place of 45. 1045 comes before both."
abbrev pub interval_row : Bool → Rule → ℕ → ℕ → ℕ → ℕ → Row
interval_row looked rule difference previous current set =
    let past = illegal previous current in
    let back = counts_orbits rule && ran_back difference previous current in
    let found = found_by rule difference previous current in
    when (looked && ((past || back) || differ found set))
    (cond past 1045 (cond back 1046 45))
    (cond (past || back) previous found)
    (cond (past || back) current set)

-- "Interval: ..", between this TDH and the last internal one before it.
abbrev pub interval : Settings → InternalTdh → Word → Row
interval s earlier w =
    interval_row (asked s earlier w) s.rule (orbit_difference earlier.orbit (trigger_orbit w)) earlier.bc (trigger_bc w) (period_of s)

-- "if page is 0 and (internal is 1 or bit 4 of packet trigger type is set)"
abbrev pub matches_packet : Packet → Word → Bool
matches_packet p w = p.page == 0 && (internal_trigger w == 1 || slice 4 4 p.trigger == 1)

-- "the packet's low 12 bits"
abbrev pub packet_type : Packet → ℕ
packet_type p = slice 11 0 p.trigger

-- "R, kind TDH: 42 continuation not 0 (first 1); 444 orbit differs from packet (TDH, packet); if ..: 445 BC differs (TDH, packet), then 44 type
-- differs from the packet's low 12 bits (TDH, packet). Then the interval."
abbrev pub tdh_rows : Settings → Packet → InternalTdh → Word → List Row
tdh_rows s p earlier w =
    detailed 40 (detail w) ∷ when (s.running && differ (continuation w) 0) 42 1 0
    ∷ when (s.running && differ (trigger_orbit w) p.orbit) 444 (trigger_orbit w) p.orbit
    ∷ when (s.running && (matches_packet p w && differ (trigger_bc w) p.bc)) 445 (trigger_bc w) p.bc
    ∷ when (s.running && (matches_packet p w && differ (trigger_type w) (packet_type p))) 44 (trigger_type w) (packet_type p)
    ∷ interval s earlier w
    ∷ []

-- "R, after packet done: 440 if the previous TDH has a larger BC (previous, current); then the interval."
abbrev pub after_packet_done_rows : Settings → StoredTdh → InternalTdh → Word → List Row
after_packet_done_rows s previous earlier w =
    detailed 40 (detail w) ∷ when (s.running && nat_lt (trigger_bc w) previous.bc) 440 previous.bc (trigger_bc w)
    ∷ interval s earlier w
    ∷ []

-- "R, continuation: 41 continuation not 1 (first 0); against the previous TDH 441 BC, 442 orbit, 443 type (current, previous)."
abbrev pub continuation_rows : Settings → StoredTdh → Word → List Row
continuation_rows s previous w =
    detailed 40 (detail w) ∷ when (s.running && differ (continuation w) 1) 41 0 0
    ∷ when (s.running && differ (trigger_bc w) previous.bc) 441 (trigger_bc w) previous.bc
    ∷ when (s.running && differ (trigger_orbit w) previous.orbit) 442 (trigger_orbit w) previous.orbit
    ∷ when (s.running && differ (trigger_type w) previous.trigger) 443 (trigger_type w) previous.trigger
    ∷ []
