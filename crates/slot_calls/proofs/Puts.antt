-- What a call puts into its slot gives the answer that document 01 asks, whatever stood for a slot that is not there. Assumes nothing.
use mathlib.Core.Bool.{Bool, true, false}
use mathlib.Core.List.{List}
use mathlib.Core.Path.{◌≡◌, refl, ap, ◌∙◌}
use Prim.Native.Nat.{ℕ}
use borrow.Author.Tests.{eqb-true}
use lib.Dec.{eqb}
use Rattle.laws.specs.Choice.{pick}
use Rattle.std.specs.Prelude.{Err}
use Rattle.refusals.specs.declared.Refusal.{Refusal}
use Rattle.refusals.specs.Numbers.{done}
use Rattle.refusals.proofs.Judged.{refused-not_done}
use Rattle.fields.specs.declared.Asked.{Asked}
use Rattle.fields.specs.Fields.{stored_of}
use Rattle.slots.specs.declared.Slot.{Slot}
use Rattle.slot_calls.specs.Answers.{Changed, changed_of, put_of}
use Rattle.slots.specs.Slots.{empty, slot_at, with_slot}
use Rattle.slot_calls.specs.Calls.{load_refusal_of, move_refusal_of, loaded_by, moved_slot, moved_by, cleared_by}
use Rattle.slot_calls.specs.Seen.{put_to, changed_by, load_put, move_put, emptied_by, clear_put}
use Rattle.slot_calls.proofs.AsSeen.{Same, load-seen, move_seen, clear-seen}

abbrev answer : ℕ → List Slot → Changed
answer refusal table = record { refusal = refusal; table = table }

module _ (bad : Bool) (table : List Slot) (number : ℕ) (s : Slot) (same : Same bad number s (slot_at table number)) where
  pub clear-put : changed_by table number (clear_put bad s number) ≡ cleared_by bad table number
  clear-put = λ i. let r = clear-seen bad number s (slot_at table number) same i in answer r (pick (eqb r done) (with_slot table number empty) table)

  pub load-put : (a : Asked) (key : List ℕ) → changed_by table number (load_put bad s number a key) ≡ loaded_by bad table number a key
  load-put a key =
      let slot : Slot = record { fields = stored_of a; key = key } in
      let seen : ℕ = load_refusal_of bad (slot_at table number) number a in
      (λ i. let r = load-seen bad number s (slot_at table number) same a i in answer r (pick (eqb r done) (with_slot table number (pick (eqb r done) slot empty)) table))
      ∙ ap (answer seen) (go (eqb seen done) slot)
    where
      go : (u : Bool) (slot : Slot) → pick u (with_slot table number (pick u slot empty)) table ≡ pick u (with_slot table number slot) table
      go true slot = refl
      go false slot = refl

module _ (bad : Bool) (table : List Slot) (from to asked : ℕ) (f g : Slot) (same_from : Same bad from f (slot_at table from)) (same-to : Same bad to g (slot_at table to))
    (s : Slot) (carried : move_refusal_of bad f g from to asked ≡ done → s ≡ slot_at table from) where
  -- the target's slot is put first, and then the source is emptied
  pub move-put : let p = move_put (move_refusal_of bad f g from to asked) s asked in changed_by (put_to table to p) from (emptied_by p) ≡ moved_by bad table from to asked
  move-put =
      (λ i. answer (seen i) (both (eqb (seen i) done)))
      ∙ ap (answer _) (go (eqb (seen₁) done) refl)
    where
      seen₁ : ℕ
      seen₁ = move_refusal_of bad (slot_at table from) (slot_at table to) from to asked

      seen : move_refusal_of bad f g from to asked ≡ seen₁
      seen = move_seen bad from to asked f (slot_at table from) g (slot_at table to) same_from same-to

      both : Bool → List Slot
      both u = let t = pick u (with_slot table to (pick u (moved_slot s asked) empty)) table in pick u (with_slot t from empty) t

      go : (u : Bool) → eqb seen₁ done ≡ u → both u ≡ pick u (with_slot (with_slot table to (moved_slot (slot_at table from) asked)) from empty) table
      go true e = ap (λ (x : Slot). with_slot (with_slot table to (moved_slot x asked)) from empty) (carried (seen ∙ eqb-true seen₁ done e))
      go false e = refl

-- a refused call changes nothing
pub refused-changes : (before : List Slot) (number : ℕ) (refusal : Refusal) → changed_of before (Err refusal) ≡ changed_by before number (put_of (Err refusal))
refused-changes before number refusal = rw refused-not_done

pub refused-moves : (before : List Slot) (from to : ℕ) (refusal : Refusal)
    → let p = put_of (Err refusal) in changed_of before (Err refusal) ≡ changed_by (put_to before to p) from (emptied_by p)
refused-moves before from to refusal = rw refused-not_done
