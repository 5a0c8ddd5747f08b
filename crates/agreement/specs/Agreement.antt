-- When a record stands for another without a right more (document 02, [11]). Assumes nothing: these are definitions.
use Rattle.std.specs.Prelude.{Bool, true, ◌&&◌, List, ℕ, zero, suc, eqb, get_or}
use Rattle.fields.specs.declared.Fields.{Fields}
use Rattle.slots.specs.declared.Slot.{Slot}
use Rattle.rights.specs.Rights.{within}

-- version, algorithm, side, place and network: every field but the use
unfoldable pub same_fields : Fields → Fields → Bool
same_fields f g =
    eqb f.version g.version
    && (eqb f.algorithm g.algorithm
    && (eqb f.side g.side
    && (eqb f.place g.place
    && (eqb f.mcc g.mcc
    && eqb f.mnc g.mnc))))

-- the first n bytes
unfoldable pub same_bytes : List ℕ → List ℕ → ℕ → Bool
same_bytes a b zero = true
same_bytes a b (suc n) = same_bytes a b n && eqb (get_or a n 0) (get_or b n 0)

-- a key is 24 bytes
abbrev pub same_key : List ℕ → List ℕ → Bool
same_key a b = same_bytes a b 24

-- the same key and fields, with a use within the use before
unfoldable pub agrees : Slot → Slot → Bool
agrees before after =
    same_fields before.fields after.fields
    && (same_key before.key after.key
    && within after.fields.usage before.fields.usage)
