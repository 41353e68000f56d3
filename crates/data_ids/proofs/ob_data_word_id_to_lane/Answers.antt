-- `ob_data_word_id_to_lane`: its table is the rule's 256 values, which antt computes.
-- Assumes nothing.
use Rattle.data_ids.specs.DataIds.{outer_lane}
use Rattle.data_ids.proofs.Table.{entry}
use Rattle.data_ids.proofs.ob_data_word_id_to_lane.Goals as goal

pub returns : goal.returns
returns c = entry outer_lane 256 c.args.id c.ranges.id.fits
