-- The rows of each kind, by what was taken as the kind.
use Rattle.payload_fsm.specs.declared.ItsPayloadWord.TheVariants as K
use Rattle.tracker_memory.proofs.Steps.{kind_silent}
use Rattle.tracker_memory.proofs.rows.is_silent.Goals as goal

pub returns-in-Ihw : goal.returns-in-Ihw
returns-in-Ihw g c =
    kind_silent (g.T.TrackerMemory.tracker c.args.t.now) c.args.taken c.args.word K.Ihw c.in-Ihw.is c.silent.ensures
    (simp (c.check_at_initial_ihw.ensures, c.settings.ensures, c.packet.ensures, c.in_three.ensures))

pub returns-in-IhwContinuation : goal.returns-in-IhwContinuation
returns-in-IhwContinuation g c =
    kind_silent (g.T.TrackerMemory.tracker c.args.t.now) c.args.taken c.args.word K.IhwContinuation c.in-IhwContinuation.is
    c.silent-in-IhwContinuation.ensures (simp c.check_continuation.ensures)

pub returns-in-TdhAfterPacketDone : goal.returns-in-TdhAfterPacketDone
returns-in-TdhAfterPacketDone g c =
    kind_silent (g.T.TrackerMemory.tracker c.args.t.now) c.args.taken c.args.word K.TdhAfterPacketDone c.in-TdhAfterPacketDone.is
    c.silent-in-TdhAfterPacketDone.ensures
    (simp (
      c.check_after_tdt_packet_done_true.ensures,
      c.settings-in-TdhAfterPacketDone.ensures,
      c.tdh.ensures,
      c.internal-in-TdhAfterPacketDone.ensures,
    ))

pub returns-in-TdhContinuation : goal.returns-in-TdhContinuation
returns-in-TdhContinuation g c =
    kind_silent (g.T.TrackerMemory.tracker c.args.t.now) c.args.taken c.args.word K.TdhContinuation c.in-TdhContinuation.is
    c.silent-in-TdhContinuation.ensures
    (simp (
      c.check_continuation-in-TdhContinuation.ensures,
      c.settings-in-TdhContinuation.ensures,
      c.tdh-in-TdhContinuation.ensures,
    ))

pub returns-in-Tdt : goal.returns-in-Tdt
returns-in-Tdt g c =
    kind_silent (g.T.TrackerMemory.tracker c.args.t.now) c.args.taken c.args.word K.Tdt c.in-Tdt.is c.silent-in-Tdt.ensures
    (simp (c.check.ensures, c.settings-in-Tdt.ensures, c.frame-frame.ensures))

pub returns-in-Ddw0 : goal.returns-in-Ddw0
returns-in-Ddw0 g c =
    kind_silent (g.T.TrackerMemory.tracker c.args.t.now) c.args.taken c.args.word K.Ddw0 c.in-Ddw0.is c.silent-in-Ddw0.ensures
    (simp (c.check_at_ddw0.ensures, c.settings-in-Ddw0.ensures, c.packet-in-Ddw0.ensures))
