-- A call judges by the fields of its slots and by whether they are empty, and one that is refused before looks at neither. So the fields alone may
-- stand for a slot, and no fields for one that is not there. Assumes nothing.
use mathlib.Core.Bool.{Bool, true, false, ◌&&◌, not, or-true, true≢false}
use mathlib.Core.List.{List}
use mathlib.Core.Path.{◌≡◌, refl, ap, ◌∙◌}
use Prim.Native.Nat.{ℕ, ◌-◌}
use Rattle.laws.specs.Choice.{pick}
use Rattle.fields.specs.declared.Asked.{Asked}
use Rattle.fields.specs.Fields.{is_slot_number}
use Rattle.slots.specs.declared.Slot.{Slot}
use Rattle.slots.specs.Slots.{is_no_fields, all_zero, is_empty, is_filled, is_bad, has_bad, empty, keyless, slot_at}
use Rattle.slot_calls.specs.Calls.{load_refusal_of, move_refusal_of, slot_refusal_of, clear_refusal_of, shown_of}
use Rattle.slot_calls.specs.Seen.{slot_as}
use Rattle.slots.proofs.Tables.{empty-not-filled, good-at}
use Rattle.slot_calls.proofs.Alike.{seen, same-fields, same-empty, same-filled}

-- the slots need to show the same only where the table is good and the number is a slot's
abbrev pub Same : Bool → ℕ → Slot → Slot → Type 0
Same bad number s t = bad ≡ false → is_slot_number number ≡ true → seen s ≡ seen t

pub unlooked : {A : Type 0} (bad : Bool) (number : ℕ) (answer : Slot → A) (s t : Slot)
    → (bad ≡ true → answer s ≡ answer t) → (bad ≡ false → is_slot_number number ≡ false → answer s ≡ answer t) → (seen s ≡ seen t → answer s ≡ answer t)
    → Same bad number s t → answer s ≡ answer t
unlooked bad number answer s t at-bad at_none at_same same = go bad refl (is_slot_number number) refl
  where
    go : (b : Bool) → bad ≡ b → (n : Bool) → is_slot_number number ≡ n → answer s ≡ answer t
    go true e n f = at-bad e
    go false e true f = at_same (same e f)
    go false e false f = at_none e f

-- a slot without a field is empty or bad
fields-decide : (none zero filled : Bool) → not filled && not (none && zero) ≡ false → (none ≡ true → filled ≡ false) → none && true ≡ none && zero
fields-decide true true filled good h = refl
fields-decide true false true good h = absurd (true≢false (h refl))
fields-decide true false false good h = absurd (true≢false good)
fields-decide false zero filled good h = refl

pub keyless-same : (s : Slot) → is_bad s ≡ false → seen (keyless s.fields) ≡ seen s
unfolding is_bad is_empty is_filled all_zero
keyless-same s good =
    let f = s.fields in
    let unfilled : is_no_fields f ≡ true → is_filled s ≡ false = λ e. empty-not-filled (keyless f) (ap (λ (b : Bool). b && true) e) in
    λ i. record { fields = f; none = fields-decide (is_no_fields f) (all_zero s.key) (is_filled s) good unfilled i }

pub slot-there : (table : List Slot) (number : ℕ) → Same (has_bad table) number (keyless (slot_as table number).fields) (slot_at table number)
slot-there table number good numbered =
    ap (λ (n : Bool). seen (keyless (pick n (slot_at table number) empty).fields)) numbered ∙ keyless-same (slot_at table number) (good-at table (number - 1) good)

module _ (bad : Bool) (number : ℕ) (s t : Slot) (same : Same bad number s t) where
  pub load-seen : (a : Asked) → load_refusal_of bad s number a ≡ load_refusal_of bad t number a
  unfolding load_refusal_of
  load-seen a = unlooked bad number (λ x. load_refusal_of bad x number a) s t (λ e. rw e) (λ e f. rw (e, f)) (λ e. rw (same-filled s t e)) same

  pub clear-seen : clear_refusal_of bad s number ≡ clear_refusal_of bad t number
  unfolding clear_refusal_of slot_refusal_of
  clear-seen = unlooked bad number (λ x. clear_refusal_of bad x number) s t (λ e. rw e) (λ e f. rw (e, f)) (λ e. rw (same-empty s t e)) same

  pub shown-seen : shown_of bad s number ≡ shown_of bad t number
  unfolding clear_refusal_of slot_refusal_of
  shown-seen = unlooked bad number (λ x. shown_of bad x number) s t (λ e. rw e) (λ e f. rw (e, f)) (λ e. rw (same-empty s t e, same-fields s t e)) same

pub move_seen : (bad : Bool) (from to asked : ℕ) (s t u v : Slot) → Same bad from s t → Same bad to u v
    → move_refusal_of bad s u from to asked ≡ move_refusal_of bad t v from to asked
unfolding move_refusal_of
move_seen bad from to asked s t u v same_from same-to =
    unlooked bad from (λ x. move_refusal_of bad x u from to asked) s t (λ e. rw e) (λ e f. rw (e, f)) (λ e. rw (same-empty s t e, same-fields s t e)) same_from
    ∙ unlooked bad to (λ x. move_refusal_of bad t x from to asked) u v (λ e. rw e) (λ e f. rw (e, f, or-true (not (is_slot_number from)))) (λ e. rw (same-filled u v e)) same-to
