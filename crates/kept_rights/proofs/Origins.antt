-- After any calls that load nothing, the records come from filled slots of the start, no two from one; and after any calls a table without a bad
-- slot is such a table. Assumes nothing.
use mathlib.Core.Path.{◌≡◌, refl, sym, subst, ◌∙◌}
use mathlib.Core.Bool.{Bool, true, false, true≢false}
use mathlib.Core.Logic.{◌⊎◌, inl, inr}
use mathlib.Core.List.{List, [], ◌∷◌}
use mathlib.Core.Option.{none, some}
use Prim.Native.Nat.{ℕ, zero, suc}
use native.Mathlib.Omega.{arith}
use lib.Dec.{eqb}
use borrow.Author.Tests.{eqb-true, eqb-false}
use Rattle.laws.specs.Choice.{pick}
use Rattle.laws.proofs.Cases.{neither, pick-cases}
use Rattle.refusals.specs.Numbers.{done}
use Rattle.fields.specs.Fields.{is_slot_number}
use Rattle.slots.specs.declared.Slot.{Slot}
use Rattle.slots.specs.Slots.{is_filled, slot_at}
use Rattle.slot_calls.specs.Calls.{move_refusal}
use Rattle.slot_calls.proofs.Passed.{move-passed}
use Rattle.slot_calls.proofs.Left.{Good, load-good, move-good, clear-good}
use Rattle.two_runs.specs.Calls.{Call, load, move, clear, read, traffic, Origin, present}
use Rattle.two_runs.specs.Card.{step}
use Rattle.demand_3.specs.Ours.{our_card}
use Rattle.two_runs.specs.Trace.{Trace, at_start, put, traced}
use Rattle.two_runs.specs.Run.{State, start_of, accepted, next, state_at}
use Rattle.demand_3.proofs.Facts.{our-facts}
use Rattle.kept_rights.specs.Left.{is_load, has_load}

-- a slot of the start that is filled
pub record Held (start : List Slot) (origin : Origin) : Type 0 where
  pub number : ℕ
  pub is : origin ≡ present number
  pub numbered : is_slot_number number ≡ true
  pub filled : is_filled (slot_at start number) ≡ true

pub record Owned (start : List Slot) (trace : Trace) : Type 0 where
  pub held : (n : ℕ) → is_slot_number n ≡ true → {origin : Origin} → trace n ≡ some origin → Held start origin
  pub once : (m n : ℕ) → is_slot_number m ≡ true → is_slot_number n ≡ true → {origin : Origin} → trace m ≡ some origin → trace n ≡ some origin → m ≡ n

-- what has an origin after something is put was there before

put-none : (trace : Trace) (number n : ℕ) {origin : Origin} → put number none trace n ≡ some origin → (n ≡ number → ⊥) × (trace n ≡ some origin)
put-none trace number n {origin} = go (eqb n number) refl
  where
    go : (t : Bool) → eqb n number ≡ t → pick t none (trace n) ≡ some origin → (n ≡ number → ⊥) × (trace n ≡ some origin)
    go true h e = let z : ◌≡◌ {A = ℕ} 0 1 = cc in absurd (omega arith)
    go false h e = (eqb-false n number h, e)

put_some : (trace : Trace) (from to n : ℕ) {origin : Origin} → put to (trace from) trace n ≡ some origin
    → ((n ≡ to) × (trace from ≡ some origin)) ⊎ (trace n ≡ some origin)
put_some trace from to n {origin} = go (eqb n to) refl
  where
    go : (t : Bool) → eqb n to ≡ t → pick t (trace from) (trace n) ≡ some origin → ((n ≡ to) × (trace from ≡ some origin)) ⊎ (trace n ≡ some origin)
    go true h e = inl (eqb-true n to h, e)
    go false h e = inr e

module _ (start : List Slot) where
  own-start : Owned start (at_start start)
  own-start = record { held = λ n h e. from n h (is_filled (slot_at start n)) refl e; once = λ m n h l {origin} e f. both m n (itself m e) (itself n f) }
    where
      from : (n : ℕ) → is_slot_number n ≡ true → {origin : Origin} (t : Bool) → is_filled (slot_at start n) ≡ t → pick t (some (present n)) none ≡ some origin → Held start origin
      from n h true f e = record { number = n; is = cc; numbered = h; filled = f }
      from n h false f e = let z : ◌≡◌ {A = ℕ} 0 1 = cc in absurd (omega arith)

      itself : (n : ℕ) {origin : Origin} → at_start start n ≡ some origin → origin ≡ present n
      itself n {origin} = go (is_filled (slot_at start n))
        where
          go : (t : Bool) → pick t (some (present n)) none ≡ some origin → origin ≡ present n
          go true e = cc
          go false e = let z : ◌≡◌ {A = ℕ} 0 1 = cc in absurd (omega arith)

      both : (m n : ℕ) {origin : Origin} → origin ≡ present m → origin ≡ present n → m ≡ n
      both m n e f = cc

  own-clear : (trace : Trace) (number : ℕ) → Owned start trace → Owned start (put number none trace)
  own-clear trace number own = record {
    held = λ n h e. own.held n h (put-none trace number n e).1;
    once = λ m n h l e f. own.once m n h l (put-none trace number m e).1 (put-none trace number n f).1;
  }

  own-move : (trace : Trace) (from to : ℕ) → is_slot_number from ≡ true → Owned start trace → Owned start (put from none (put to (trace from) trace))
  own-move trace from to numbered own = record { held = held; once = once }
    where
      moved : Trace
      moved = put to (trace from) trace

      held : (n : ℕ) → is_slot_number n ≡ true → {origin : Origin} → put from none moved n ≡ some origin → Held start origin
      held n h {origin} e = go (put_some trace from to n (put-none moved from n e).1)
        where
          go : ((n ≡ to) × (trace from ≡ some origin)) ⊎ (trace n ≡ some origin) → Held start origin
          go (inl p) = own.held from numbered p.1
          go (inr p) = own.held n h p

      once : (m n : ℕ) → is_slot_number m ≡ true → is_slot_number n ≡ true → {origin : Origin} → put from none moved m ≡ some origin → put from none moved n ≡ some origin → m ≡ n
      once m n h l {origin} e f = go (put_some trace from to m x.1) (put_some trace from to n y.1)
        where
          x : (m ≡ from → ⊥) × (moved m ≡ some origin)
          x = put-none moved from m e

          y : (n ≡ from → ⊥) × (moved n ≡ some origin)
          y = put-none moved from n f

          go : ((m ≡ to) × (trace from ≡ some origin)) ⊎ (trace m ≡ some origin) → ((n ≡ to) × (trace from ≡ some origin)) ⊎ (trace n ≡ some origin) → m ≡ n
          go (inl p) (inl q) = p.0 ∙ sym q.0
          go (inl p) (inr q) = absurd (y.0 (own.once n from l numbered q p.1))
          go (inr p) (inl q) = absurd (x.0 (own.once m from h numbered p q.1))
          go (inr p) (inr q) = own.once m n h l p q

  own-next : (s : State) (c : Call) → is_load c ≡ false → Owned start s.trace → Owned start (next our_card s c).trace
  unfolding next step traced
  own-next s (load number a key) e own = absurd (true≢false e)
  own-next s (move from to asked) e own =
      pick-cases (Owned start) (accepted our_card s (move from to asked))
      (λ h. own-move s.trace from to (move-passed s.table from to asked (eqb-true (move_refusal s.table from to asked) done h)).from-numbered own)
      (λ h. own)
  own-next s (clear number) e own = pick-cases (Owned start) (accepted our_card s (clear number)) (λ h. own-clear s.trace number own) (λ h. own)
  own-next s (read number) e own = pick-cases (Owned start) (accepted our_card s (read number)) (λ h. own) (λ h. own)
  own-next s (traffic how buf w) e own = pick-cases (Owned start) (accepted our_card s (traffic how buf w)) (λ h. own) (λ h. own)

  own_at : (s : State) (cs : List Call) → has_load cs ≡ false → Owned start s.trace → (i : ℕ) → Owned start (state_at our_card s cs i).trace
  unfolding has_load state_at
  own_at s [] e own i = own
  own_at s (c ∷ cs) e own zero = own
  own_at s (c ∷ cs) e own (suc i) =
      let no = neither (is_load c) (has_load cs) e in own_at (next our_card s c) cs no.1 (own-next s c no.0 own) i

  pub origins-owned : (cs : List Call) → has_load cs ≡ false → (i : ℕ) → Owned start (state_at our_card (start_of start) cs i).trace
  origins-owned cs e = own_at (start_of start) cs e own-start

-- the table stays one of 32 slots without a bad one

good-step : (table : List Slot) (c : Call) → Good table → Good (step our_card table c).table
unfolding step
good-step table (load number a key) good = load-good table number a key good
good-step table (move from to asked) good = move-good table from to asked good
good-step table (clear number) good = clear-good table number good
good-step table (read number) good = good
good-step table (traffic how buf w) good = subst Good (sym (our-facts.traffic-leaves table how buf w)) good

pub good-at-call : (s : State) (cs : List Call) → Good s.table → (i : ℕ) → Good (state_at our_card s cs i).table
unfolding state_at next
good-at-call s [] good i = good
good-at-call s (c ∷ cs) good zero = good
good-at-call s (c ∷ cs) good (suc i) = good-at-call (next our_card s c) cs (good-step s.table c good) i
