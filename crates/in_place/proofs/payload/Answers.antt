use Rattle.payload.specs.Answer.{payload_told_by}
use Rattle.in_place.proofs.Lent.{as_array, payload_in_place, payload_stored}
use Rattle.in_place.proofs.payload.Goals as goal

pub returns : goal.returns
returns c =
    let done =
    payload_in_place {r = payload_told_by c.payload.result} (as_array _ _ c.unwrap.ensures c.as_mut_array.ensures.cases).same c.requires
    c.payload.ensures.holds c.payload.ensures.payload in
    record { payload = done; stores = payload_stored c.requires done }
