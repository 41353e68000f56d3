use Rattle.in_place.proofs.Lent.{as_array, word_in_place, word_stored}
use Rattle.in_place.proofs.word.Goals as goal

pub returns : goal.returns
returns c =
    let done =
    word_in_place (as_array _ _ c.unwrap.ensures c.as_mut_array.ensures.cases).same c.requires c.word.ensures.holds c.word.ensures.word in
    record { word = done; stores = word_stored _ c.requires done }
