-- The calls of demand 3, each with every argument of the card's call, bad ones included; and two lists of them, and two tables to start from,
-- that are alike but for keys. Assumes nothing: these are definitions.
use Rattle.std.specs.Prelude.{Bool, true, false, ◌&&◌, ◌||◌, List, [], ◌∷◌, ◌≡◌, ℕ, suc, ◌+◌, leb, ltb, length}
use Rattle.fields.specs.declared.Asked.{Asked}
use Rattle.fields.specs.declared.Fields.{Fields}
use Rattle.slots.specs.declared.Slot.{Slot}
use Rattle.slots.specs.Slots.{is_filled, has_bad}
use Rattle.plan.specs.declared.Piece.{Piece}
use Rattle.whole.specs.declared.Pdu.{Pdu}
use Rattle.whole.specs.Whole.{whole_plan}

-- how a traffic call uses a key: 1 send or 2 receive, the slot's number, and the initial value
pub record Use : Type 0 where
  pub direction : ℕ
  pub number : ℕ
  pub iv : List ℕ

-- what it does to its buffer: n bits from start on are ciphered, with the keystream's bits from skip on; or the pieces of the PDU that it holds
pub data Work : Type 0 where
  span : (start n skip : ℕ) → Work
  pdu : (u : Pdu) → Work

-- the bits of a piece
abbrev pub in_piece : Piece → ℕ → Bool
in_piece p j = leb p.start j && ltb j (p.start + p.length)

-- the bits of a buffer that are ciphered
abbrev pub span_of : Work → List ℕ → ℕ → Bool
span_of (span start n skip) buf j = leb start j && ltb j (start + n)
span_of (pdu u) buf j = in_piece (whole_plan buf u).first j || in_piece (whole_plan buf u).second j

pub data Call : Type 0 where
  load : (number : ℕ) (a : Asked) (key : List ℕ) → Call
  move : (from to asked : ℕ) → Call
  clear : (number : ℕ) → Call
  read : (number : ℕ) → Call
  traffic : (how : Use) (buf : List ℕ) (w : Work) → Call

-- where a key comes from: the load at this place of the list, or this slot, which held it at the start
pub data Origin : Type 0 where
  load_at : (place : ℕ) → Origin
  present : (number : ℕ) → Origin

-- two calls at one place of their lists: the same call; or two loads that differ in the key, where the load is chosen
pub data TwinCalls (chosen : Origin → Bool) (place : ℕ) : Call → Call → Type 0 where
  same : (c : Call) → TwinCalls chosen place c c
  other_key : (number : ℕ) (a : Asked) (key other : List ℕ) → chosen (load_at place) ≡ true
      → TwinCalls chosen place (load number a key) (load number a other)

-- two lists of calls, from this place on
pub data Twins (chosen : Origin → Bool) : ℕ → List Call → List Call → Type 0 where
  end : {place : ℕ} → Twins chosen place [] []
  more : {place : ℕ} {c d : Call} {cs ds : List Call} → TwinCalls chosen place c d → Twins chosen (suc place) cs ds → Twins chosen place (c ∷ cs) (d ∷ ds)

-- two slots of one number: the same slot; or two filled ones that differ in the key, where the slot is chosen
pub data TwinSlots (chosen : Origin → Bool) (number : ℕ) : Slot → Slot → Type 0 where
  same-slot : (s : Slot) → TwinSlots chosen number s s
  other-present : (f : Fields) (key other : List ℕ) → is_filled (record { fields = f; key = key }) ≡ true → chosen (present number) ≡ true
      → TwinSlots chosen number (record { fields = f; key = key }) (record { fields = f; key = other })

-- two lists of slots, from this number on
pub data TwinTables (chosen : Origin → Bool) : ℕ → List Slot → List Slot → Type 0 where
  no_slot : {number : ℕ} → TwinTables chosen number [] []
  slot : {number : ℕ} {s t : Slot} {a b : List Slot} → TwinSlots chosen number s t → TwinTables chosen (suc number) a b → TwinTables chosen number (s ∷ a) (t ∷ b)

-- two tables to start from, of which none has a bad slot
pub record Starts (chosen : Origin → Bool) (a b : List Slot) : Type 0 where
  pub size : length a ≡ 32
  pub sound : has_bad a ≡ false
  pub twins : TwinTables chosen 1 a b
