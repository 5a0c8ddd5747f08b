-- `record_reader::read_key`: what is to be answered stays the same with each byte. Assumes nothing.
use Rattle.std.proofs.Common.{◌≡◌, ◌-◌, length, take}
use Rattle.record_reader.specs.Lines.{key_form}
use Rattle.reading.specs.Reading.{onward, reading_of}
use Rattle.record_reader.proofs.Keys.{key_rest}
use Rattle.record_reader.proofs.read_key.Given as goal

abbrev pub invariant-loop-b : goal.invariant-loop-b
invariant-loop-b l =
    (length l.b-items ≡ 24)
    × (onward (reading_of l.initial.last) key_form l.s ≡ onward (reading_of l.last) (key_rest (take l.b-index l.b-items) (24 - l.b-index)) l.s)
