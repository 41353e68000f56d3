-- Each arm by the stage.
-- Assumes nothing.
use Rattle.std.proofs.Common.{◌+◌, length, refl, arith}
use Rattle.ascii.specs.Text.{most_number}
use Rattle.ascii.proofs.Putting.{none_put, in_room_lem}
use Rattle.report.specs.Text.{heading, refused_line}
use Rattle.report.proofs.Steps.{staged}
use Rattle.report.proofs.stage_step.Goals as goal

pub returns-in-Heading : goal.returns-in-Heading
unfolding heading
returns-in-Heading c =
    staged c.args.file.now c.args.r c.in-Heading.is
    (record { next_is = c.at_stage.ensures; puts = in_room_lem (length heading) heading (omega arith) c.put.ensures.puts })

pub returns-in-Items : goal.returns-in-Items
returns-in-Items c = staged c.args.file.now c.args.r c.in-Items.is c.item_step.ensures

pub returns-in-Refused : goal.returns-in-Refused
unfolding refused_line
returns-in-Refused c =
    staged c.args.file.now c.args.r c.in-Refused.is
    (record {
      next_is = c.at_stage-in-Refused.ensures;
      puts = in_room_lem (8 + most_number) _ (omega arith) c.put_named.ensures.puts;
    })

pub returns-in-Done : goal.returns-in-Done
returns-in-Done c = staged c.args.file.now c.args.r c.in-Done.is (record { next_is = refl; puts = none_put _ })
