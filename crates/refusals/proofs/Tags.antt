-- A refusal's number is one more than its place among the refusals. Assumes nothing.
use Rattle.std.specs.Prelude.{◌≡◌, ◌+◌}
use mathlib.Core.Path.{refl}
use denote.Enum.Declared.{tag_of}
use Rattle.refusals.specs.contracts.Refusal.{the_type}
use Rattle.refusals.specs.declared.Refusal.{Refusal}
use Rattle.refusals.specs.declared.Refusal.TheVariants.{AlgorithmUnknown, BenchKeyNot24, IvNot10, LengthBad, BufferLarge, SpanOutside, SlotNumberBad, SlotEmpty, TargetFilled, CodeUnknown, SideOrPlaceBad, DirectionNotInUse, IvSideWrong, UseNotWithin, RecordTextBad, TableBad, RecordTooLong, PduCodeUnknown, PduPartsDontFit, NetworkBad, AlgorithmOutOfService, ConversionTextBad, PairListBad, PairDiffers, SheetNamesBad, SheetValueBad, LogLineBad}
use Rattle.refusals.specs.Refused.{number}

pub number-tag : (refusal : Refusal) → tag_of the_type refusal + 1 ≡ number refusal
number-tag AlgorithmUnknown = refl
number-tag BenchKeyNot24 = refl
number-tag IvNot10 = refl
number-tag LengthBad = refl
number-tag BufferLarge = refl
number-tag SpanOutside = refl
number-tag SlotNumberBad = refl
number-tag SlotEmpty = refl
number-tag TargetFilled = refl
number-tag CodeUnknown = refl
number-tag SideOrPlaceBad = refl
number-tag DirectionNotInUse = refl
number-tag IvSideWrong = refl
number-tag UseNotWithin = refl
number-tag RecordTextBad = refl
number-tag TableBad = refl
number-tag RecordTooLong = refl
number-tag PduCodeUnknown = refl
number-tag PduPartsDontFit = refl
number-tag NetworkBad = refl
number-tag AlgorithmOutOfService = refl
number-tag ConversionTextBad = refl
number-tag PairListBad = refl
number-tag PairDiffers = refl
number-tag SheetNamesBad = refl
number-tag SheetValueBad = refl
number-tag LogLineBad = refl
