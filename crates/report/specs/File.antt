-- 01, "Bench file": the records of a file, and all that `benchcheck` prints of it.
-- Assumes nothing.
use Rattle.std.specs.Prelude.{ℕ, ◌+◌, ◌≡◌, true, cond, Some, List, [], ◌∷◌, ◌++◌, eqb, length}
use Rattle.words.specs.Word.{word_of}
use Rattle.packet.specs.declared.Rule.TheVariants as R
use Rattle.packet.specs.declared.Settings.{Settings}
use Rattle.records.specs.Records.{Record, most_records}
use Rattle.cdp_running.specs.declared.Tracker.{Tracker}
use Rattle.cdp_running.specs.Tracker.{start_of, packet_call}
use Rattle.cdp_running.specs.Word.{taken_of, word_call, word_answer, records_in}
use Rattle.bench_file.specs.File.{check_of}
use Rattle.bench_file.specs.Items.{Item, packet, word, items}
use Rattle.report.specs.Text.{heading, lines, records_line, refused_line}

-- "running checks and frames on, period 198"
abbrev pub settings : Settings
settings = record { running = true; frames = true; period = Some 198; rule = R.One }

-- A packet call or a word call, with room for all records that a word gives: the tracker after it, and its records.
abbrev pub tracker_after : Tracker → Item → Tracker
tracker_after t (packet p count) = (packet_call t p).tracker
tracker_after t (word at bytes) = (word_answer t (word_call t bytes most_records)).tracker

abbrev pub records_after : Tracker → Item → List Record
records_after t (packet p count) = []
records_after t (word at bytes) = records_in (word_call t bytes most_records)

-- One tracker goes through packets and words in order: their records.
unfoldable pub records_from : Tracker → List Item → List Record
records_from t [] = []
records_from t (item ∷ rest) = records_after t item ++ records_from (tracker_after t item) rest

unfoldable pub file_records : List ℕ → List Record
file_records file = records_from (start_of settings) (items file)

-- "The whole file is checked before anything is printed; a refused one gives only `refused N`, without the fixed line."
unfoldable pub text : List ℕ → List ℕ
text file =
    cond (eqb (check_of file) 0)
    (heading ++ (lines (file_records file) ++ records_line (length (file_records file))))
    (refused_line (check_of file))

-- No call on the way is refused (proofs/Refused.antt, `never_refused`).
abbrev pub Accepted : Tracker → Item → Type 0
Accepted t (packet p count) = (packet_call t p).refusal ≡ 0
Accepted t (word at bytes) = word_call t bytes most_records ≡ taken_of t (word_of bytes)

unfoldable pub AllAccepted : Tracker → List Item → Type 0
AllAccepted t [] = Unit
AllAccepted t (item ∷ rest) = Accepted t item × AllAccepted (tracker_after t item) rest

-- How many packets there are among items, and the tracker after them: what it counts are the packets read (proofs/Refused.antt, `packets_read`).
unfoldable pub packets_in : List Item → ℕ
packets_in [] = 0
packets_in (packet p count ∷ rest) = 1 + packets_in rest
packets_in (word at bytes ∷ rest) = packets_in rest

unfoldable pub tracker_from : Tracker → List Item → Tracker
tracker_from t [] = t
tracker_from t (item ∷ rest) = tracker_from (tracker_after t item) rest
