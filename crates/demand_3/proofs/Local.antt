-- What a card needs for demand 3, in facts of one call each: from these alone the theorem follows (Demand). Assumes nothing: these are definitions.
use mathlib.Core.Bool.{true, false}
use mathlib.Core.List.{List}
use mathlib.Core.Path.{◌≡◌}
use Prim.Native.Nat.{ℕ, ◌*◌, ◌<◌}
use lib.ListN.{length}
use Rattle.laws.specs.Bits.{bit_at}
use Rattle.refusals.specs.Numbers.{done}
use Rattle.fields.specs.declared.Asked.{Asked}
use Rattle.fields.specs.Fields.{stored_of}
use Rattle.slots.specs.declared.Slot.{Slot}
use Rattle.slots.specs.Slots.{empty, slot_at, with_slot}
use Rattle.rights.specs.Rights.{within, includes}
use Rattle.slot_calls.proofs.Passed.{LoadPassed, MovePassed, SlotPassed, ClearPassed}
use Rattle.slot_calls.proofs.Alike.{Alike}
use Rattle.two_runs.specs.Calls.{Use, Work, span_of}
use Rattle.two_runs.specs.Step.{Seen, Step}
use Rattle.two_runs.specs.Card.{Card}
use Rattle.two_runs.specs.Demand.{with_use}

-- the slot that an accepted load fills
abbrev pub loaded_slot : Asked → List ℕ → Slot
loaded_slot a key = record { fields = stored_of a; key = key }

-- the same is seen, and the tables show the same afterwards
pub record AlikeSteps (x y : Step) : Type 0 where
  pub seen : x.seen ≡ y.seen
  pub table : Alike x.table y.table

-- an accepted call passed its tests and leaves the table `after`, a refused one leaves the table as it was
pub record Leaves (before : List Slot) (Passed : Type 0) (after : List Slot) (x : Step) : Type 0 where
  pub passed : x.seen.refusal ≡ done → Passed
  pub accepted : x.seen.refusal ≡ done → x.table ≡ after
  pub refused : (x.seen.refusal ≡ done → ⊥) → x.table ≡ before

-- of the slot that an accepted move empties, and the one that it fills
abbrev pub Arriving : Card → (Slot → Slot → Type 0) → Type 0
Arriving card R =
    (table : List Slot) (from to asked : ℕ) → length table ≡ 32 → (card.move table from to asked).seen.refusal ≡ done
    → R (slot_at table from) (slot_at (card.move table from to asked).table to)

-- of an accepted traffic call: its slot, and how it is used
abbrev pub Taken : Card → (Slot → Use → Type 0) → Type 0
Taken card R =
    (table : List Slot) (how : Use) (buf : List ℕ) (w : Work) → (card.traffic table how buf w).seen.refusal ≡ done
    → R (slot_at table how.number) how

-- what traffic shows is the same on two tables that show the same
abbrev pub Blind : Card → {A : Type 0} → (Seen → A) → Type 0
Blind card part =
    (a b : List Slot) → Alike a b → (how : Use) (buf : List ℕ) (w : Work)
    → part (card.traffic a how buf w).seen ≡ part (card.traffic b how buf w).seen

pub record Local (card : Card) : Type 0 where
  -- load answers the same on tables that show the same, whatever the keys; an accepted one passed its tests and puts what was asked, with its key
  pub load-blind : (a b : List Slot) (number : ℕ) (x : Asked) (key other : List ℕ) → Alike a b → AlikeSteps (card.load a number x key) (card.load b number x other)
  pub load-leaves : (table : List Slot) (number : ℕ) (x : Asked) (key : List ℕ) → Leaves table (LoadPassed table number x) (with_slot table number (loaded_slot x key)) (card.load table number x key)
  -- what a move brings has a use within the old one, and all else as it was; it empties the first slot and leaves all but the two
  pub move-keeps-use : Arriving card (λ old new. within new.fields.usage old.fields.usage ≡ true)
  pub move-keeps-rest : Arriving card (λ old new. new ≡ with_use old new.fields.usage)
  pub move-blind : (a b : List Slot) (from to asked : ℕ) → Alike a b → AlikeSteps (card.move a from to asked) (card.move b from to asked)
  pub move-leaves : (table : List Slot) (from to asked : ℕ) → length table ≡ 32
      → Leaves table (MovePassed table from to asked) (with_slot (with_slot table to (slot_at (card.move table from to asked).table to)) from empty) (card.move table from to asked)
  -- clear empties its slot and leaves the others
  pub clear-blind : (a b : List Slot) (number : ℕ) → Alike a b → AlikeSteps (card.clear a number) (card.clear b number)
  pub clear-leaves : (table : List Slot) (number : ℕ) → Leaves table (ClearPassed table number) (with_slot table number empty) (card.clear table number)
  -- a read shows no key, and leaves the table as it is
  pub read-blind : (a b : List Slot) (number : ℕ) → Alike a b → (card.read a number).seen ≡ (card.read b number).seen
  pub read-leaves : (table : List Slot) (number : ℕ) → (card.read table number).table ≡ table
  -- an accepted traffic call names a filled slot, whose use includes the direction; its initial value has the slot's place, and a send's is on the slot's side there
  pub sends-on-its-side : Taken card (λ slot how. how.direction ≡ 1 → bit_at how.iv slot.fields.place ≡ slot.fields.side)
  pub has-its-place : Taken card (λ slot how. slot.fields.place < 8 * length how.iv)
  pub within-its-use : Taken card (λ slot how. includes slot.fields.usage how.direction ≡ true)
  pub on-a-filled-slot : (table : List Slot) (how : Use) (buf : List ℕ) (w : Work) → (card.traffic table how buf w).seen.refusal ≡ done → SlotPassed table how.number
  -- its refusal and its block count look at no key; it shows no record, and leaves the table as it is
  pub refusal-blind : Blind card (λ x. x.refusal)
  pub blocks-blind : Blind card (λ x. x.blocks)
  pub number-blind : Blind card (λ x. x.number)
  pub fields-blind : Blind card (λ x. x.fields)
  pub traffic-leaves : (table : List Slot) (how : Use) (buf : List ℕ) (w : Work) → (card.traffic table how buf w).table ≡ table
  -- every bit beside the span stays, and the buffer's size; a refused call leaves it all; and what is done inside the span looks at no key but the slot's
  pub beside-stays : (table : List Slot) (how : Use) (buf : List ℕ) (w : Work) (j : ℕ) → span_of w buf j ≡ false → bit_at (card.traffic table how buf w).seen.buffer j ≡ bit_at buf j
  pub size-stays : (table : List Slot) (how : Use) (buf : List ℕ) (w : Work) → length (card.traffic table how buf w).seen.buffer ≡ length buf
  pub refused-stays : (table : List Slot) (how : Use) (buf : List ℕ) (w : Work) → ((card.traffic table how buf w).seen.refusal ≡ done → ⊥) → (card.traffic table how buf w).seen.buffer ≡ buf
  pub own-key-alone : (a b : List Slot) → Alike a b → (how : Use) (buf : List ℕ) (w : Work) → (slot_at a how.number).key ≡ (slot_at b how.number).key
      → (card.traffic a how buf w).seen.buffer ≡ (card.traffic b how buf w).seen.buffer
