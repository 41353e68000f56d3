-- The first part that fails ends it.
use Rattle.std.proofs.Common.{◌≡◌, refl, ap, ◌∙◌, ℕ, List, Bool, true, false, ◌&&◌, leb}
use mathlib.Core.Bool.{not, and-true, and_assoc}
use borrow.Author.Tests.{eq-eqb, ne_eqb}
use Rattle.words.proofs.Tests.{fails, holds}
use Rattle.packet.specs.Packet.{in_range, max_words}
use Rattle.tracker_array.specs.Place as P
use Rattle.tracker_array.specs.Array.{is_on}
use Rattle.tracker_array.specs.Read.{place, packet_in, stored_in, frame_in, tracker_in}
use Rattle.tracker_array.specs.Read.{settings_good, packets_good, stored_good, nothing_missing, kept_good}
use Rattle.tracker_array.proofs.Laws.{bare_good, width_asked}
use Rattle.tracker_array.proofs.test.is_good.Goals as goal

first : (a b c d : Bool) → (a && (b && (c && d))) ≡ (c && (a && (b && d)))
first true true c d = refl
first true false true d = refl
first true false false d = refl
first false b true d = refl
first false b false d = refl

-- The parts in the groups that the code asks, where a packet was accepted.
grouped : (l : List ℕ) → is_on (place l P.accepted) ≡ true
    → ((settings_good l
    && (packets_good true (place l P.packets) && (in_range (packet_in l) && leb (place l P.count) max_words)))
    && (stored_good (is_on (place l P.frames)) (stored_in l) (frame_in l)
    && (leb (place l P.state) 6 && nothing_missing (tracker_in l).at.fsm.state (stored_in l))))
    ≡ (settings_good l && (leb (place l P.state) 6 && kept_good (tracker_in l)))
grouped l have =
    let came = packets_good true (place l P.packets) && (in_range (packet_in l) && leb (place l P.count) max_words) in
    let kept = stored_good (is_on (place l P.frames)) (stored_in l) (frame_in l) in
    let missing = nothing_missing (tracker_in l).at.fsm.state (stored_in l) in
    and_assoc (settings_good l) came (kept && (leb (place l P.state) 6 && missing))
    ∙ ap (λ (b : Bool). settings_good l && b) (first came kept (leb (place l P.state) 6) missing)
    ∙ simp (have, and-true, and_assoc)

pub returns-then-a-ne1 : goal.returns-then-a-ne1
returns-then-a-ne1 c = c.bare.ensures ∙ bare_good c.args.a.now c.requires (ne_eqb _ _ c.if-a-ne1.true)

pub returns-then-not-stored_good : goal.returns-then-not-stored_good
returns-then-not-stored_good c =
    holds c.came_good.ensures (ap not c.if-not-came_good.false)
    (fails _ c.stored_good.ensures (ap not c.if-not-stored_good.true))
    ∙ grouped c.args.a.now (eq-eqb _ _ c.if-a-ne1.false)
    ∙ width_asked c.args.a.now

pub returns : goal.returns
returns c =
    holds c.came_good.ensures (ap not c.if-not-came_good.false)
    (holds c.stored_good.ensures (ap not c.if-not-stored_good.false) c.nothing_missing.ensures)
    ∙ grouped c.args.a.now (eq-eqb _ _ c.if-a-ne1.false)
    ∙ width_asked c.args.a.now
