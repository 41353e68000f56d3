-- The packet's low 12 bits are a remainder by 4096, and the definition has a part of them from bit 0 on.
use Rattle.std.proofs.Common.{div-one}
use Rattle.tdh_validator.proofs.check_tdh_no_continuation.Goals as goal

pub returns : goal.returns
returns c =
    simp (
      div-one,
      c.when-5.ensures,
      c.when-4.ensures,
      c.when-3.ensures,
      c.when-2.ensures,
      c.when.ensures,
      c.check_trigger_interval-interval.ensures,
      c.continuation-continuation.ensures,
      c.internal_trigger-internal.ensures,
      c.trigger_type-kind.ensures,
      c.trigger_orbit-orbit.ensures,
      c.trigger_bc-bc.ensures,
      c.sanity_check-fault.ensures,
    )
