-- The numbers with which the call for a whole PDU answers. Assumes nothing.
use mathlib.Core.Bool.{Bool, true, false, false≢true, not, ◌||◌}
use mathlib.Core.Path.{◌≡◌, refl, sym, ap, ◌∙◌}
use mathlib.Core.List.{List, [], ◌∷◌}
use Prim.Native.Nat.{ℕ, ◌*◌}
use lib.Dec.{eqb, ltb}
use lib.ListN.{length}
use Rattle.laws.proofs.Cases.{pick-cases}
use Rattle.fields.specs.Fields.{is_slot_number}
use Rattle.slots.specs.declared.Slot.{Slot}
use Rattle.slots.specs.Slots.{is_empty}
use Rattle.rights.specs.Rights.{is_direction, includes}
use Rattle.slot_calls.specs.Calls.{slot_refusal_of}
use Rattle.span.specs.Span.{longest_buffer}
use Rattle.plan.specs.Plan.{codes_unknown, parts_dont_fit, plan_refusal}
use Rattle.traffic.specs.Traffic.{on_side, sends_out_of_service, use_refusal_of}
use Rattle.whole.specs.declared.Pdu.{Pdu}
use Rattle.whole.specs.Whole.{flag_of, room_refusal, open_refusal_of, whole_refusal_of}

pub listed : ℕ → List ℕ → Bool
listed x [] = false
listed x (y ∷ l) = eqb x y || listed x l

abbrev pub numbers : List ℕ
numbers = 0 ∷ 16 ∷ 10 ∷ 7 ∷ 8 ∷ 12 ∷ 21 ∷ 3 ∷ 13 ∷ 5 ∷ 6 ∷ 18 ∷ 19 ∷ []

abbrev pub Known : ℕ → Type 0
Known x = listed x numbers ≡ true

module _ (bad : Bool) (slot : Slot) (direction number : ℕ) (iv buf : List ℕ) (u : Pdu) where
  slot-known : Known (slot_refusal_of slot number)
  unfolding slot_refusal_of listed
  slot-known = pick-cases Known (not (is_slot_number number)) (λ e. refl) (λ e. pick-cases Known (is_empty slot) (λ f. refl) (λ f. refl))

  use-known : Known (use_refusal_of bad slot direction number iv)
  unfolding use_refusal_of listed
  use-known =
      pick-cases Known bad (λ e. refl)
      (λ e.
      pick-cases Known (not (is_direction direction)) (λ e. refl)
      (λ e.
      pick-cases Known (not (eqb (slot_refusal_of slot number) 0)) (λ e. slot-known)
      (λ e.
      pick-cases Known (not (includes slot.fields.usage direction)) (λ e. refl)
      (λ e.
      pick-cases Known (sends_out_of_service direction slot.fields) (λ e. refl)
      (λ e.
      pick-cases Known (not (eqb (length iv) 10)) (λ e. refl)
      (λ e. pick-cases Known (not (on_side direction slot.fields iv)) (λ e. refl) (λ e. refl)))))))

  room-known : Known (room_refusal (length buf) u.length)
  unfolding room_refusal listed
  room-known = pick-cases Known (ltb longest_buffer (length buf)) (λ e. refl) (λ e. pick-cases Known (ltb (8 * length buf) u.length) (λ f. refl) (λ f. refl))

  plan-known : Known (plan_refusal u.kind u.state (flag_of u buf) u.length u.address u.sdu)
  unfolding plan_refusal listed
  plan-known =
      pick-cases Known (codes_unknown u.kind u.state (flag_of u buf) u.length) (λ e. refl)
      (λ e. pick-cases Known (parts_dont_fit u.kind u.state (flag_of u buf) u.length u.address u.sdu) (λ f. refl) (λ f. refl))

  open-known : Known (open_refusal_of bad slot direction number iv (length buf) u.length)
  unfolding open_refusal_of
  open-known = pick-cases Known (not (eqb (use_refusal_of bad slot direction number iv) 0)) (λ e. use-known) (λ e. room-known)

  pub whole-known : Known (whole_refusal_of bad slot direction number iv buf u)
  unfolding whole_refusal_of
  whole-known = pick-cases Known (not (eqb (open_refusal_of bad slot direction number iv (length buf) u.length) 0)) (λ e. open-known) (λ e. plan-known)

  -- 4 is not among them
  pub never-4 : whole_refusal_of bad slot direction number iv buf u ≡ 4 → ⊥
  unfolding listed
  never-4 e = false≢true (sym (ap (λ (x : ℕ). listed x numbers) e) ∙ whole-known)
