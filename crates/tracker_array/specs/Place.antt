-- Where each number of a tracker stands. The code has the same names in src/place.rt; the order is that of `encode_of`.
-- Assumes nothing.
use Rattle.std.specs.Prelude.{ℕ}

abbrev pub mark : ℕ
mark = 0

abbrev pub running : ℕ
running = 1

abbrev pub frames : ℕ
frames = 2

abbrev pub periodic : ℕ
periodic = 3

abbrev pub period : ℕ
period = 4

abbrev pub rule : ℕ
rule = 5

abbrev pub accepted : ℕ
accepted = 6

abbrev pub packets : ℕ
packets = 7

abbrev pub position : ℕ
position = 8

abbrev pub orbit : ℕ
orbit = 9

abbrev pub trigger : ℕ
trigger = 10

abbrev pub bc : ℕ
bc = 11

abbrev pub page : ℕ
page = 12

abbrev pub stop : ℕ
stop = 13

abbrev pub format : ℕ
format = 14

abbrev pub state : ℕ
state = 15

abbrev pub count : ℕ
count = 16

abbrev pub seen : ℕ
seen = 17

abbrev pub ihw : ℕ
ihw = 18

abbrev pub lanes : ℕ
lanes = 19

abbrev pub tdh : ℕ
tdh = 20

abbrev pub tdh_trigger : ℕ
tdh_trigger = 21

abbrev pub tdh_bc : ℕ
tdh_bc = 22

abbrev pub tdh_orbit : ℕ
tdh_orbit = 23

abbrev pub internal : ℕ
internal = 24

abbrev pub internal_bc : ℕ
internal_bc = 25

abbrev pub internal_orbit : ℕ
internal_orbit = 26

abbrev pub cdw : ℕ
cdw = 27

abbrev pub cdw_user : ℕ
cdw_user = 28

abbrev pub opened : ℕ
opened = 29

abbrev pub start : ℕ
start = 30

-- Nothing stands from here on.
abbrev pub unused : ℕ
unused = 31

-- Where the numbers of a part begin.
abbrev pub settings : ℕ
settings = running

abbrev pub packet : ℕ
packet = position

abbrev pub reached : ℕ
reached = state

abbrev pub stored : ℕ
stored = ihw

abbrev pub frame : ℕ
frame = opened
