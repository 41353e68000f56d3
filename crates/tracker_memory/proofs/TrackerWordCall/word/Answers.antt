use Rattle.tracker_memory.proofs.Steps.{handed_on, by_value, refused_by_value}
use Rattle.tracker_memory.proofs.TrackerWordCall.word.Goals as goal

pub returns-in_err-taken : goal.returns-in_err-taken
returns-in_err-taken c = refused_by_value c.in_err-taken.was (handed_on _ c.from_residual.ensures) c.word.ensures.word

pub returns : goal.returns
returns c = by_value c.in_ok-taken.was c.word.ensures.word
