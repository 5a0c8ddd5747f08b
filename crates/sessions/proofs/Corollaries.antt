-- What people quote of demand 3, each from the theorem, from any table without a bad slot. Assumes nothing.
use mathlib.Core.Bool.{true, false, true≢false}
use mathlib.Core.List.{List, [], ◌∷◌}
use mathlib.Core.Option.{Option, none, some}
use mathlib.Core.Path.{◌≡◌, refl, sym, ap, ◌∙◌}
use Prim.Native.Nat.{ℕ}
use native.Mathlib.Omega.{arith}
use lib.ListN.{length}
use Rattle.refusals.specs.Numbers.{done}
use Rattle.fields.specs.Fields.{is_slot_number}
use Rattle.slots.specs.declared.Slot.{Slot}
use Rattle.slots.specs.Slots.{slot_at, has_bad}
use Rattle.rights.specs.Rights.{within}
use Rattle.slot_calls.proofs.Passed.{SlotPassed}
use Rattle.two_runs.specs.Calls.{Use, Work, Call, traffic, Origin, Twins, end, more, same, Starts}
use Rattle.demand_3.specs.Ours.{our_card}
use Rattle.two_runs.specs.Run.{call_at, seen_at, table_at, trace_at}
use Rattle.two_runs.specs.Demand.{Ciphers, given, Kept, Holds, Meets}
use Rattle.demand_3.proofs.Facts.{our-facts}
use Rattle.two_runs.proofs.Start.{itself}
use Rattle.demand_3.proofs.Demand.{demand-3, taken}

-- no refusal ever depends on a key byte: whatever keys stand in the filled slots of a table and at the loads of a list, the refusals are the same
pub no-refusal-depends-on-a-key : (a b : List Slot) → Starts (λ origin. true) a b → (cs ds : List Call) → Twins (λ origin. true) 0 cs ds → (i : ℕ)
    → (seen_at our_card a cs i).refusal ≡ (seen_at our_card b ds i).refusal
no-refusal-depends-on-a-key a b starts cs ds twins i = ((demand-3 (λ origin. true) a b starts cs ds twins).agree i).refusal

-- a list and a table are their own twins, with nothing chosen

same-list : (cs : List Call) {place : ℕ} → Twins (λ origin. false) place cs cs
same-list [] = end
same-list (c ∷ cs) = more (same c) (same-list cs)

module _ (table : List Slot) (size : length table ≡ 32) (sound : has_bad table ≡ false) (cs : List Call) where
  alone-starts : Starts (λ origin. false) table table
  alone-starts = record { size = size; sound = sound; twins = itself (λ origin. false) table }

  -- so one list from one table has all that demand 3 says of a run: what a slot holds traces back
  pub alone : Meets our_card (λ origin. false) table table cs cs
  alone = demand-3 (λ origin. false) table table alone-starts cs cs (same-list cs)

  -- a key given for sending only never gives an accepted receive, through any moves
  pub send-only-never-receives : (i : ℕ) (c : Ciphers (call_at cs i) (trace_at our_card table cs i) (seen_at our_card table cs i)) → (given table cs c.origin).fields.usage ≡ 1 → c.how.direction ≡ 2 → ⊥
  send-only-never-receives i c only receive = let send = (alone.sends i c only).send in omega arith

  -- an accepted traffic call uses a key that has an origin
  pub traffic-has-an-origin : (i : ℕ) (how : Use) (buf : List ℕ) (w : Work) → call_at cs i ≡ traffic how buf w → (seen_at our_card table cs i).refusal ≡ done
      → (origin : Origin) × (trace_at our_card table cs i how.number ≡ some origin)
  traffic-has-an-origin i how buf w call seen = go (trace_at our_card table cs i how.number) (alone.traces i how.number used.numbered)
    where
      used : SlotPassed (table_at our_card table cs i) how.number
      used =
          our-facts.on-a-filled-slot _ how buf w
          (taken our_card our-facts (λ origin. false) table table alone-starts cs cs (same-list cs) i how buf w call seen)

      go : (origin : Option Origin) → Holds table cs origin (slot_at (table_at our_card table cs i) how.number) → (first : Origin) × (origin ≡ some first)
      go none h = absurd (true≢false (sym h ∙ used.there))
      go (some first) h = (first, refl)

  -- a slot holds what its origin gave; with no origin, it is empty
  pub slot-holds : (i number : ℕ) → is_slot_number number ≡ true → Holds table cs (trace_at our_card table cs i number) (slot_at (table_at our_card table cs i) number)
  slot-holds = alone.traces

  -- a slot whose key has this origin, after any calls
  module _ (i number : ℕ) (origin : Origin) (numbered : is_slot_number number ≡ true) (traced : trace_at our_card table cs i number ≡ some origin) where
    abbrev slot : Slot
    slot = slot_at (table_at our_card table cs i) number

    kept : Kept (given table cs origin) slot
    kept = rw traced at (slot-holds i number numbered)

    pub use-never-widens : within slot.fields.usage (given table cs origin).fields.usage ≡ true
    use-never-widens = kept.usage

    pub algorithm-never-changes : slot.fields.algorithm ≡ (given table cs origin).fields.algorithm
    algorithm-never-changes = ap (λ (s : Slot). s.fields.algorithm) kept.rest

    pub side-never-changes : slot.fields.side ≡ (given table cs origin).fields.side
    side-never-changes = ap (λ (s : Slot). s.fields.side) kept.rest

    pub place-never-changes : slot.fields.place ≡ (given table cs origin).fields.place
    place-never-changes = ap (λ (s : Slot). s.fields.place) kept.rest

    pub network-never-changes : (slot.fields.mcc ≡ (given table cs origin).fields.mcc) × (slot.fields.mnc ≡ (given table cs origin).fields.mnc)
    network-never-changes = (ap (λ (s : Slot). s.fields.mcc) kept.rest, ap (λ (s : Slot). s.fields.mnc) kept.rest)
