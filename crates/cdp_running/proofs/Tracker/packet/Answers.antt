-- Behind both tests the packet is accepted. That of the two refusals is found from `packet_5` and `packet_10`.
use Rattle.std.proofs.Common.{sym, ◌∙◌, arith}
use Rattle.cdp_running.proofs.Calls.{packet_accepted}
use Rattle.cdp_running.proofs.Tracker.packet.Goals as goal

pub returns : goal.returns
returns c =
    packet_accepted c.args.self c.args.packet c.requires (sym c.in_range.ensures ∙ c.if-not-in_range.false) (omega arith)
