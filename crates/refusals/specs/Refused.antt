-- The number of each refusal, and of what was judged. Assumes nothing: these are definitions.
use Rattle.std.specs.Prelude.{Bool, ℕ, ⊤, Result, Ok, Err}
use Rattle.laws.specs.Choice.{pick}
use Rattle.refusals.specs.declared.Refusal.{Refusal}
use Rattle.refusals.specs.declared.Refusal.TheVariants.{AlgorithmUnknown, BenchKeyNot24, IvNot10, LengthBad, BufferLarge, SpanOutside, SlotNumberBad, SlotEmpty, TargetFilled, CodeUnknown, SideOrPlaceBad, DirectionNotInUse, IvSideWrong, UseNotWithin, RecordTextBad, TableBad, RecordTooLong, PduCodeUnknown, PduPartsDontFit, NetworkBad, AlgorithmOutOfService, ConversionTextBad, PairListBad, PairDiffers, SheetNamesBad, SheetValueBad, LogLineBad}
use Rattle.refusals.specs.Numbers as numbers

abbrev pub number : Refusal → ℕ
number AlgorithmUnknown = numbers.algorithm_unknown
number BenchKeyNot24 = numbers.bench_key_not24
number IvNot10 = numbers.iv_not10
number LengthBad = numbers.length_bad
number BufferLarge = numbers.buffer_large
number SpanOutside = numbers.span_outside
number SlotNumberBad = numbers.slot_number_bad
number SlotEmpty = numbers.slot_empty
number TargetFilled = numbers.target_filled
number CodeUnknown = numbers.code_unknown
number SideOrPlaceBad = numbers.side_or_place_bad
number DirectionNotInUse = numbers.direction_not_in_use
number IvSideWrong = numbers.iv_side_wrong
number UseNotWithin = numbers.use_not_within
number RecordTextBad = numbers.record_text_bad
number TableBad = numbers.table_bad
number RecordTooLong = numbers.record_too_long
number PduCodeUnknown = numbers.pdu_code_unknown
number PduPartsDontFit = numbers.pdu_parts_dont_fit
number NetworkBad = numbers.network_bad
number AlgorithmOutOfService = numbers.algorithm_out_of_service
number ConversionTextBad = numbers.conversion_text_bad
number PairListBad = numbers.pair_list_bad
number PairDiffers = numbers.pair_differs
number SheetNamesBad = 25
number SheetValueBad = 26
number LogLineBad = 27

-- 0 where nothing refuses it
abbrev pub number_of : {A : Type 0} → Result A Refusal → ℕ
number_of (Ok _) = numbers.done
number_of (Err refusal) = number refusal

-- refused where the test holds
abbrev pub refused_when : Refusal → Bool → Result ⊤ Refusal
refused_when refusal test = pick test (Err refusal) (Ok tt)
