-- 01, "Bench file" and "At the edges", computed from the definitions: the whole case, a file of 16 bytes, and a header whose sum would wrap.
-- Assumes nothing.
use mathlib.Core.Path.{◌≡◌, refl}
use mathlib.Core.List.{[], ◌∷◌}
use Rattle.words.specs.Word.{number}
use Rattle.words.specs.LittleEndian.{number_at}
use Rattle.bench_file.specs.File.{words_before, misfit, first_refusal, check_of}
use Rattle.bench_file.specs.Items.{packet, word, word_items, packet_items, items}
use Rattle.cases.specs.WholeCase.{whole_case}

pub whole_case_good : check_of whole_case ≡ 0
unfolding whole_case number number_at words_before misfit first_refusal check_of
whole_case_good = refl

pub whole_case_items : items whole_case
    ≡ packet (record { position = 0; orbit = 7; trigger = 0x10; bc = 0x0DEC; page = 0; stop = 0; format = 2 }) 5
    ∷ word 40 (0x01 ∷ 0x00 ∷ 0x00 ∷ 0x00 ∷ 0x00 ∷ 0x00 ∷ 0x00 ∷ 0x00 ∷ 0x00 ∷ 0xE0 ∷ [])
    ∷ word 50 (0x10 ∷ 0x10 ∷ 0xEC ∷ 0x0D ∷ 0x07 ∷ 0x00 ∷ 0x00 ∷ 0x00 ∷ 0x00 ∷ 0xE8 ∷ [])
    ∷ word 60 (0x00 ∷ 0x00 ∷ 0x00 ∷ 0x00 ∷ 0x00 ∷ 0x00 ∷ 0x00 ∷ 0x00 ∷ 0x00 ∷ 0x21 ∷ [])
    ∷ word 70 (0x00 ∷ 0x00 ∷ 0x00 ∷ 0x00 ∷ 0x00 ∷ 0x00 ∷ 0x00 ∷ 0x00 ∷ 0x01 ∷ 0xF0 ∷ [])
    ∷ word 80 (0x10 ∷ 0x30 ∷ 0xC6 ∷ 0x00 ∷ 0x07 ∷ 0x00 ∷ 0x00 ∷ 0x00 ∷ 0x00 ∷ 0xE8 ∷ [])
    ∷ []
unfolding whole_case number number_at word_items packet_items items
whole_case_items = refl

-- "A file of 16 bytes with no packets": nothing but the header.
pub sixteen_bytes_good : check_of (0x00 ∷ 0x00 ∷ 0x00 ∷ 0x00 ∷ 0x00 ∷ 0x00 ∷ 0x00 ∷ 0x00 ∷ 0x10 ∷ 0x00 ∷ 0x00 ∷ 0x00
    ∷ 0x10 ∷ 0x00 ∷ 0x00 ∷ 0x00 ∷ []) ≡ 0
unfolding number number_at words_before misfit first_refusal check_of
sixteen_bytes_good = refl

-- 2^29 packets in 16 bytes: 24 times 2^29 is 0 modulo 2^32, and here it is not.
pub no_wrap : check_of (0x00 ∷ 0x00 ∷ 0x00 ∷ 0x20 ∷ 0x00 ∷ 0x00 ∷ 0x00 ∷ 0x00 ∷ 0x10 ∷ 0x00 ∷ 0x00 ∷ 0x00 ∷ 0x10 ∷ 0x00
    ∷ 0x00 ∷ 0x00 ∷ []) ≡ 6
unfolding number number_at misfit check_of
no_wrap = refl
