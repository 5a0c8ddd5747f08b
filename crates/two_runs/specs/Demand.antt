-- Demand 3 (docs/DEMAND-3.md): two runs of one list of calls, alike except the keys of chosen loads. Assumes nothing: these are definitions.
use Rattle.std.specs.Prelude.{Bool, true, List, ◌⊎◌, ◌≡◌, ℕ, ◌*◌, ◌<◌, length}
use Rattle.std.proofs.Math.Option.{Option, none, some}
use Rattle.laws.specs.Bits.{bit_at}
use Rattle.refusals.specs.Numbers.{done}
use Rattle.fields.specs.declared.Fields.{Fields}
use Rattle.fields.specs.Fields.{is_slot_number, stored_of}
use Rattle.slots.specs.declared.Slot.{Slot}
use Rattle.slots.specs.Slots.{is_empty, nil, empty_table, slot_at}
use Rattle.rights.specs.Rights.{within}
use Rattle.two_runs.specs.Calls.{Use, Work, span_of, Call, load, move, clear, read, traffic, Origin, load_at, present, Twins, Starts}
use Rattle.two_runs.specs.Step.{Seen}
use Rattle.two_runs.specs.Card.{Card}
use Rattle.two_runs.specs.Trace.{Trace}
use Rattle.two_runs.specs.Run.{call_at, seen_at, table_at, trace_at}

-- a traffic call that was accepted, and whose slot's key traces back by moves to this origin
pub record Ciphers (c : Call) (trace : Trace) (x : Seen) : Type 0 where
  pub how : Use
  pub buf : List ℕ
  pub work : Work
  pub origin : Origin
  pub call : c ≡ traffic how buf work
  pub accepted : x.refusal ≡ done
  pub traced : trace how.number ≡ some origin

-- bit j of its buffer, inside its span, where the origin is a chosen one
pub record MayDiffer (chosen : Origin → Bool) (c : Call) (trace : Trace) (x : Seen) (j : ℕ) : Type 0 where
  pub ciphers : Ciphers c trace x
  pub inside : span_of ciphers.work ciphers.buf j ≡ true
  pub picked : chosen ciphers.origin ≡ true

-- what was seen of a call in two runs
pub record Agree (chosen : Origin → Bool) (c : Call) (trace : Trace) (x y : Seen) : Type 0 where
  pub refusal : x.refusal ≡ y.refusal
  pub blocks : x.blocks ≡ y.blocks
  pub number : x.number ≡ y.number
  pub fields : x.fields ≡ y.fields
  pub size : length x.buffer ≡ length y.buffer
  pub bits : (j : ℕ) → (bit_at x.buffer j ≡ bit_at y.buffer j) ⊎ MayDiffer chosen c trace x j

-- a slot, with another use
abbrev pub with_use : Slot → ℕ → Slot
with_use s usage = record {
  fields =
      record {
        version = s.fields.version;
        algorithm = s.fields.algorithm;
        usage = usage;
        side = s.fields.side;
        place = s.fields.place;
        mcc = s.fields.mcc;
        mnc = s.fields.mnc;
      };
  key = s.key;
}

-- what a load gives; another call gives nothing, and is no key's origin
abbrev pub slot_loaded : Call → Slot
slot_loaded (load number a key) = record { fields = stored_of a; key = key }
slot_loaded (move from to asked) = nil
slot_loaded (clear number) = nil
slot_loaded (read number) = nil
slot_loaded (traffic how buf w) = nil

-- what an origin gave: a load what it loads, a slot at the start what it held then
abbrev pub given : List Slot → List Call → Origin → Slot
given table cs (load_at place) = slot_loaded (call_at cs place)
given table cs (present number) = slot_at table number

-- a send, with an initial value that has the place of these fields, and is on their send side there
pub record IsSend (how : Use) (f : Fields) : Type 0 where
  pub send : how.direction ≡ 1
  pub there : f.place < 8 * length how.iv
  pub side : bit_at how.iv f.place ≡ f.side

-- a slot holds what was given: a use within the given one, and all else as it was given
pub record Kept (given s : Slot) : Type 0 where
  pub usage : within s.fields.usage given.fields.usage ≡ true
  pub rest : s ≡ with_use given s.fields.usage

-- a slot holds what its origin gave; with no origin, it is empty
abbrev pub Holds : List Slot → List Call → Option Origin → Slot → Type 0
Holds table cs none s = is_empty s ≡ true
Holds table cs (some origin) s = Kept (given table cs origin) s

-- two runs of a card, from two tables, agree; its send-only keys only send; and its traces are true
pub record Meets (card : Card) (chosen : Origin → Bool) (a b : List Slot) (cs ds : List Call) : Type 0 where
  pub agree : (i : ℕ) → Agree chosen (call_at cs i) (trace_at card a cs i) (seen_at card a cs i) (seen_at card b ds i)
  pub sends : (i : ℕ) (c : Ciphers (call_at cs i) (trace_at card a cs i) (seen_at card a cs i)) → (given a cs c.origin).fields.usage ≡ 1 → IsSend c.how (given a cs c.origin).fields
  pub traces : (i number : ℕ) → is_slot_number number ≡ true → Holds a cs (trace_at card a cs i number) (slot_at (table_at card a cs i) number)

-- from any table without a bad slot, for every list, every choice and every pair of keys; a key that is there already counts as a load of its present
-- use (document 02, [9])
abbrev pub Demand3 : Card → Type 0
Demand3 card =
    (chosen : Origin → Bool) (a b : List Slot) → Starts chosen a b → (cs ds : List Call) → Twins chosen 0 cs ds → Meets card chosen a b cs ds

-- the same from the empty table, where no key is there
abbrev pub Demand3FromEmpty : Card → Type 0
Demand3FromEmpty card = (chosen : Origin → Bool) (cs ds : List Call) → Twins chosen 0 cs ds → Meets card chosen empty_table empty_table cs ds
