-- The values that document 01 marks P ("Values to hold"), the plan's as request [3] of document 02 has it, the column of [5], and the record in form 2 of [6]: one table. Assumes nothing: these are definitions.
use Rattle.std.specs.Prelude.{List, [], ◌∷◌, ◌++◌, ℕ, get_or, replicate}
use Rattle.gf256.specs.Field.{times, s_box}
use Rattle.algorithms.specs.Algorithm.{combining}
use Rattle.tea.specs.Mixing.{expanded_byte, mixed_value}
use Rattle.block_counts.specs.Counts.{blocks_used}
use Rattle.fields.specs.Fields.{asked_of}
use Rattle.slots.specs.declared.Slot.{Slot}
use Rattle.slots.specs.Slots.{empty}
use Rattle.slot_calls.specs.Calls.{move_refusal}
use Rattle.writing.specs.Text.{ascii}
use Rattle.record_reader.specs.Record.{RecordRead, record_read}
use Rattle.record_writer.specs.Written.{record_written, buffer_written}
use Rattle.plan.specs.declared.Plan.{Plan}
use Rattle.plan.specs.Plan.{plan_of}

-- what the definitions give, and what the document says
pub record Row : Type 0 where
  pub given : List ℕ
  pub said : List ℕ

abbrev pub row : List ℕ → List ℕ → Row
row given said = record { given = given; said = said }

-- an initial value of zeros, and the one with b[9] = 1 and the rest 0
abbrev zeros : List ℕ
zeros = replicate 10 0

abbrev last_one : List ℕ
last_one = replicate 9 0 ++ (1 ∷ [])

-- a table whose slot 1 is filled, with this use
abbrev one : ℕ → List Slot
one usage =
    record { fields = record { version = 0; algorithm = 5; usage = usage; side = 0; place = 0; mcc = 0; mnc = 0 }; key = replicate 24 1 } ∷ replicate 31 empty

-- the record that document 01 prints: the lines of form 1, and in form 2, of network 0, 0
abbrev first_lines : List ℕ
first_lines = ascii "number=3\nversion=17\nalg=TEA6\nuse=SEND\nside=0\nplace=28\n"

abbrev key_line : List ℕ
key_line = ascii "key=000000000000000000000000000000000000000000000001\n"

abbrev old : List ℕ
old = first_lines ++ key_line

abbrev sample : List ℕ
sample = ascii "form=2\n" ++ (first_lines ++ (ascii "mcc=0\nmnc=0\n" ++ key_line))

-- a version that is too large
abbrev too_large : List ℕ
too_large = ascii "number=3\nversion=65536\n"

-- what reading answers: refusal, line, column, bytes used, number, fields and key
abbrev read_numbers : RecordRead → List ℕ
read_numbers r =
    r.refusal ∷ r.line ∷ r.column ∷ r.used ∷ r.number ∷ r.fields.version ∷ r.fields.algorithm ∷ r.fields.usage ∷ r.fields.side ∷ r.fields.place ∷ r.fields.mcc ∷ r.fields.mnc ∷ r.key

-- what writing answers of what was read: refusal and length, and then what the buffer holds
abbrev written_numbers : RecordRead → List ℕ → List ℕ
written_numbers r buffer =
    let answer = record_written r.number (asked_of r.fields) r.key buffer in
    answer.refusal ∷ answer.length ∷ buffer_written r.number (asked_of r.fields) r.key buffer

-- two bytes that writing keeps, behind room for the record
abbrev kept : List ℕ
kept = 0xa5 ∷ 0x5a ∷ []

abbrev plan_numbers : Plan → List ℕ
plan_numbers p =
    p.refusal ∷ p.first.start ∷ p.first.length ∷ p.first.skip ∷ p.second.start ∷ p.second.length ∷ p.second.skip ∷ []

unfoldable pub p_table : List Row
p_table =
    row (times 0xd7 0 ∷ times 0xd7 0x12 ∷ times 0xd7 0x26 ∷ times 0xd7 0xff ∷ []) (0 ∷ 0x6a ∷ 0x61 ∷ 0x78 ∷ [])
    ∷ row (s_box 0x00 ∷ s_box 0x01 ∷ s_box 0x53 ∷ []) (0x63 ∷ 0x7c ∷ 0xed ∷ [])
    ∷ row (get_or (combining 6) 0x88 0 ∷ []) (0xcc ∷ [])
    ∷ row (mixed_value zeros) (replicate 24 0)
    ∷ row (expanded_byte last_one 10 ∷ expanded_byte last_one 11 ∷ expanded_byte last_one 12 ∷ []) (0xd7 ∷ 0x3f ∷ 0x8b ∷ [])
    ∷ row (blocks_used 0 256 ∷ blocks_used 0 257 ∷ blocks_used 0 8288 ∷ blocks_used 255 2 ∷ []) (1 ∷ 2 ∷ 33 ∷ 2 ∷ [])
    ∷ row (move_refusal (one 1) 1 2 3 ∷ move_refusal (one 3) 1 2 1 ∷ move_refusal (one 1) 1 2 2 ∷ []) (14 ∷ 0 ∷ 14 ∷ [])
    ∷ row (read_numbers (record_read old)) (0 ∷ 0 ∷ 0 ∷ 107 ∷ 3 ∷ 17 ∷ 6 ∷ 1 ∷ 0 ∷ 28 ∷ 0 ∷ 0 ∷ replicate 23 0 ++ (1 ∷ []))
    ∷ row (read_numbers (record_read sample)) (0 ∷ 0 ∷ 0 ∷ 126 ∷ 3 ∷ 17 ∷ 6 ∷ 1 ∷ 0 ∷ 28 ∷ 0 ∷ 0 ∷ replicate 23 0 ++ (1 ∷ []))
    ∷ row (written_numbers (record_read sample) (replicate 126 0 ++ kept)) (0 ∷ 126 ∷ sample ++ kept)
    ∷ row (written_numbers (record_read old) (replicate 126 0 ++ kept)) (0 ∷ 126 ∷ sample ++ kept)
    ∷ row (read_numbers (record_read too_large)) (15 ∷ 2 ∷ 13 ∷ replicate 33 0)
    ∷ row (plan_numbers (plan_of 1 3 0 124 10 50)) (0 ∷ 10 ∷ 24 ∷ 0 ∷ 50 ∷ 74 ∷ 41 ∷ [])
    ∷ []
