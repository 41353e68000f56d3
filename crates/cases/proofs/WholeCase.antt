-- 01, "Bench file": the whole case, from its 90 bytes to its records, answers and printed text, computed from the definitions.
-- Assumes nothing.
use Prim.Native.Nat.{ℕ}
use mathlib.Core.Path.{◌≡◌, refl}
use mathlib.Core.Bool.{true}
use mathlib.Core.List.{List, [], ◌∷◌}
use lib.Count.{ones}
use Rattle.words.specs.Word.{number, word_of, bits}
use Rattle.words.specs.LittleEndian.{number_at}
use Rattle.packet.specs.declared.Rule.TheVariants as R
use Rattle.std.specs.Prelude.{Some}
use Rattle.packet.specs.declared.Settings.{Settings}
use Rattle.packet.specs.declared.Packet.{Packet}
use Rattle.records.specs.Records.{flat, given, most_records}
use Rattle.cdp_running.specs.Tracker.{start_of, packet_call}
use Rattle.cdp_running.specs.declared.Tracker.{Tracker}
use Rattle.cdp_running.specs.Word.{Outcome, records_of, taken_of, word_call, word_answer}
use Rattle.cdp_running.specs.Answer.{Numbers, numbers_of}
use Rattle.payload.specs.Payload.{words_from, payload_call, word_calls, payload_calls}
use Rattle.bench_file.specs.File.{words_before, misfit, first_refusal, check_of}
use Rattle.bench_file.specs.Items.{word_items, packet_items, items}
use Rattle.ascii.specs.Text.{ascii, decimal_in, decimal}
use Rattle.report.specs.Text.{line, lines, heading, records_line, refused_line}
use Rattle.report.specs.File.{records_from, file_records, text}
use Rattle.cases.specs.WholeCase.{whole_case, five_words}

-- Running checks and frames on, period 198.
pub settings : Settings
settings = record { running = true; frames = true; period = Some 198; rule = R.One }

pub packet : Packet
packet = record { position = 0; orbit = 7; trigger = 0x10; bc = 0x0DEC; page = 0; stop = 0; format = 2 }

-- One packet, and its five words as a payload with room for six records.
pub begun : Tracker
begun = (packet_call (start_of settings) packet).tracker

pub whole_case_lem : flat (payload_call begun five_words most_records).records
    ≡ 84 ∷ 1072 ∷ 1 ∷ 1 ∷ 1 ∷ 104 ∷ 440 ∷ 3564 ∷ 198 ∷ 1 ∷ 104 ∷ 1045 ∷ 3564 ∷ 198 ∷ 1 ∷ []
unfolding begun settings packet whole_case number word_of bits flat given packet_call
    records_of taken_of word_call words_from payload_call
whole_case_lem = refl

-- The same as word calls: what each tells. Refusal, kind, guessed, records, frame with start and end, lanes.
pub tells : ℕ → ℕ → ℕ → ℕ → ℕ → ℕ → Numbers
tells kind records frame start end lanes =
    record { refusal = 0; kind = kind; guessed = 0; records = records; frame = frame; start = start; end = end; lanes = lanes }

pub told : List Outcome → List Numbers
told [] = []
told (o ∷ os) = numbers_of (word_answer begun o).told ∷ told os

pub whole_answers : told (payload_calls begun five_words most_records)
    ≡ tells 1 0 0 0 0 1 ∷ tells 3 0 1 0 0 0 ∷ tells 6 1 0 0 0 0 ∷ tells 8 0 2 74 94 0 ∷ tells 4 2 1 0 0 0 ∷ []
unfolding begun settings packet whole_case tells told number word_of bits given packet_call
    records_of taken_of word_call word_calls payload_calls ones
whole_answers = refl

-- The same as benchcheck prints it.
pub whole_text : text whole_case
    ≡ ascii "packet pos code first second\n1 84 1072 1 1\n1 104 440 3564 198\n1 104 1045 3564 198\nrecords 3\n"
unfolding whole_case number word_of bits given packet_call
    records_of taken_of word_call number_at words_before misfit first_refusal check_of word_items packet_items items decimal_in
    decimal line lines heading records_line refused_line records_from file_records text
whole_text = refl
