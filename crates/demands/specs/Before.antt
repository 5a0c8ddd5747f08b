-- What the calls tested of a key's use before TEA6 went out of service (document 02, [9]): document 01's order, 16, 10, 7, 8, 12, 3, 13. No call
-- answers by it; theorems say by it what stayed. Assumes nothing: these are definitions.
use Rattle.std.specs.Prelude.{Bool, not, List, ℕ, eqb, length}
use Rattle.refusals.specs.Numbers.{done, code_unknown, direction_not_in_use, iv_not10, iv_side_wrong, table_bad, refuse}
use Rattle.slots.specs.declared.Slot.{Slot}
use Rattle.rights.specs.Rights.{is_direction, includes}
use Rattle.slot_calls.specs.Calls.{slot_refusal_of}
use Rattle.traffic.specs.Traffic.{on_side}

unfoldable pub use_refusal_before : Bool → Slot → ℕ → ℕ → List ℕ → ℕ
use_refusal_before bad slot direction number iv =
    refuse bad table_bad
    (refuse (not (is_direction direction)) code_unknown
    (refuse (not (eqb (slot_refusal_of slot number) done)) (slot_refusal_of slot number)
    (refuse (not (includes slot.fields.usage direction)) direction_not_in_use
    (refuse (not (eqb (length iv) 10)) iv_not10
    (refuse (not (on_side direction slot.fields iv)) iv_side_wrong
    done)))))

-- a slot with another algorithm
abbrev pub with_algorithm : Slot → ℕ → Slot
with_algorithm s algorithm = record {
  fields =
      record {
        version = s.fields.version;
        algorithm = algorithm;
        usage = s.fields.usage;
        side = s.fields.side;
        place = s.fields.place;
        mcc = s.fields.mcc;
        mnc = s.fields.mnc;
      };
  key = s.key;
}
