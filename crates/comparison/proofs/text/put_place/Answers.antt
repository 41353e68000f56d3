-- Each kind of place has its line, and every line has room.
-- Assumes nothing.
use Rattle.std.proofs.Common.{arith}
use Rattle.ascii.proofs.Putting.{in_room_lem}
use Rattle.comparison.specs.Text.{line_of}
use Rattle.comparison.proofs.text.put_place.Goals as goal

pub returns-in-Packets : goal.returns-in-Packets
unfolding line_of
returns-in-Packets c = rw c.in-Packets.is (in_room_lem _ _ (omega arith) c.put_line.ensures)

pub returns-in-Words : goal.returns-in-Words
unfolding line_of
returns-in-Words c = rw c.in-Words.is (in_room_lem _ _ (omega arith) c.put_line-in-Words.ensures)

pub returns-in-Count : goal.returns-in-Count
unfolding line_of
returns-in-Count c = rw c.in-Count.is (in_room_lem _ _ (omega arith) c.put_line-in-Count.ensures)

pub returns-in-Field : goal.returns-in-Field
unfolding line_of
returns-in-Field c = rw c.in-Field.is (in_room_lem _ _ (omega arith) c.put_line-in-Field.ensures)

pub returns-in-Byte : goal.returns-in-Byte
unfolding line_of
returns-in-Byte c = rw c.in-Byte.is (in_room_lem _ _ (omega arith) c.put_line-in-Byte.ensures)
