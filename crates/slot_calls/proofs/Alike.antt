-- Two tables that show the same get the same answers, and show the same afterwards: no answer of load, move, clear or read depends on a
-- key that stands in a filled slot. Assumes nothing.
use mathlib.Core.Bool.{Bool, true, false, ◌&&◌, ◌||◌, not}
use mathlib.Core.List.{List, [], ◌∷◌, map}
use mathlib.Core.Path.{◌≡◌, refl, sym, ap, ◌∙◌}
use Prim.Native.Nat.{ℕ, zero, suc, ◌-◌}
use borrow.Author.Tests.{eqb-true}
use lib.Dec.{eqb}
use lib.ListN.{get_or, set, get_or-map}
use Rattle.laws.specs.Choice.{pick}
use Rattle.refusals.specs.Numbers.{done}
use Rattle.fields.specs.declared.Asked.{Asked}
use Rattle.fields.specs.declared.Fields.{Fields}
use Rattle.fields.specs.Fields.{all_in_range, asked_of}
use Rattle.slots.specs.declared.Slot.{Slot}
use Rattle.slot_calls.specs.Answers.{Changed}
use Rattle.slots.specs.Slots.{is_empty, is_filled, is_bad, has_bad, nil, empty, slot_at, with_slot}
use Rattle.slot_calls.specs.Calls.{load_refusal_of, move_refusal_of, slot_refusal_of, clear_refusal_of, load_refusal, move_refusal, slot_refusal, clear_refusal, answered, loaded, moved_fields, moved_slot, moved, cleared, shown}
use Rattle.slots.proofs.Tables.{filled-not-empty}
use Rattle.slot_calls.proofs.Passed.{load-passed}
use Rattle.slot_calls.proofs.Left.{to-filled}

-- what a slot shows: its fields, and whether it is empty
pub record Seen : Type 0 where
  pub fields : Fields
  pub none : Bool

abbrev pub seen : Slot → Seen
seen s = record { fields = s.fields; none = is_empty s }

module _ (s t : Slot) (same : seen s ≡ seen t) where
  pub same-fields : s.fields ≡ t.fields
  same-fields = ap (λ (v : Seen). v.fields) same

  pub same-empty : is_empty s ≡ is_empty t
  same-empty = ap (λ (v : Seen). v.none) same

  pub same-filled : is_filled s ≡ is_filled t
  unfolding is_filled
  same-filled = ap (λ (f : Fields). all_in_range (asked_of f)) same-fields

abbrev pub Alike : List Slot → List Slot → Type 0
Alike a b = map seen a ≡ map seen b

pub record AlikeChanged (x y : Changed) : Type 0 where
  pub refusal : x.refusal ≡ y.refusal
  pub table : Alike x.table y.table

-- whether a slot is bad is seen
abbrev bad_seen : List Seen → Bool
bad_seen [] = false
bad_seen (v ∷ l) = not (all_in_range (asked_of v.fields)) && not v.none || bad_seen l

bad-seen : (table : List Slot) → has_bad table ≡ bad_seen (map seen table)
unfolding has_bad is_bad is_filled
bad-seen [] = refl
bad-seen (s ∷ table) = ap (λ (t : Bool). is_bad s || t) (bad-seen table)

module _ (a b : List Slot) (alike : Alike a b) where
  pub bad-alike : has_bad a ≡ has_bad b
  bad-alike = bad-seen a ∙ ap bad_seen alike ∙ sym (bad-seen b)

  seen_at : (number : ℕ) → seen (slot_at a number) ≡ seen (slot_at b number)
  seen_at number =
      sym (get_or-map seen a (number - 1) nil) ∙ ap (λ (l : List Seen). get_or l (number - 1) (seen nil)) alike ∙ get_or-map seen b (number - 1) nil

  pub fields-alike : (number : ℕ) → (slot_at a number).fields ≡ (slot_at b number).fields
  fields-alike number = same-fields _ _ (seen_at number)

  empty-alike : (number : ℕ) → is_empty (slot_at a number) ≡ is_empty (slot_at b number)
  empty-alike number = same-empty _ _ (seen_at number)

  filled-alike : (number : ℕ) → is_filled (slot_at a number) ≡ is_filled (slot_at b number)
  filled-alike number = same-filled _ _ (seen_at number)

  load-refusal-alike : (number : ℕ) (x : Asked) → load_refusal a number x ≡ load_refusal b number x
  unfolding load_refusal_of
  load-refusal-alike number x = rw (bad-alike, filled-alike number)

  move-refusal-alike : (from to asked : ℕ) → move_refusal a from to asked ≡ move_refusal b from to asked
  unfolding move_refusal_of
  move-refusal-alike from to asked = rw (bad-alike, empty-alike from, filled-alike to, fields-alike from)

  pub slot-refusal-alike : (number : ℕ) → slot_refusal a number ≡ slot_refusal b number
  unfolding slot_refusal_of
  slot-refusal-alike number = rw (empty-alike number)

  clear-refusal-alike : (number : ℕ) → clear_refusal a number ≡ clear_refusal b number
  unfolding clear_refusal_of
  clear-refusal-alike number = rw (bad-alike, slot-refusal-alike number)

-- slots and tables that a call makes

seen-set : (table : List Slot) (i : ℕ) (s : Slot) → map seen (set table i s) ≡ set (map seen table) i (seen s)
seen-set [] i s = refl
seen-set (x ∷ table) zero s = refl
seen-set (x ∷ table) (suc i) s = ap (λ (l : List Seen). seen x ∷ l) (seen-set table i s)

with-alike : (a b : List Slot) (number : ℕ) (s t : Slot) → Alike a b → seen s ≡ seen t → Alike (with_slot a number s) (with_slot b number t)
with-alike a b number s t e h = seen-set a (number - 1) s ∙ (λ i. set (e i) (number - 1) (h i)) ∙ sym (seen-set b (number - 1) t)

filled-seen : (s t : Slot) → s.fields ≡ t.fields → is_filled s ≡ true → is_filled t ≡ true → seen s ≡ seen t
filled-seen s t e p q = λ i. record { fields = e i; none = (filled-not-empty s p ∙ sym (filled-not-empty t q)) i }

answered-alike : (r q : ℕ) (a b c d : List Slot) → r ≡ q → Alike a b → (r ≡ done → Alike c d) → AlikeChanged (answered r a c) (answered q b d)
answered-alike r q a b c d e before after = record { refusal = e; table = rw (← e) (go (eqb r done) refl) }
  where
    go : (t : Bool) → eqb r done ≡ t → Alike (pick t c a) (pick t d b)
    go true h = after (eqb-true r done h)
    go false h = before

-- the calls, on tables that show the same

pub load-alike : (a b : List Slot) (number : ℕ) (x : Asked) (k l : List ℕ) → Alike a b → AlikeChanged (loaded a number x k) (loaded b number x l)
unfolding is_filled
load-alike a b number x k l alike =
    answered-alike (load_refusal a number x) (load_refusal b number x) a b _ _ (load-refusal-alike a b alike number x) alike
    (λ e. with-alike a b number _ _ alike (filled-seen _ _ refl (load-passed a number x e).ranges (load-passed a number x e).ranges))

pub move-alike : (a b : List Slot) (from to asked : ℕ) → Alike a b → AlikeChanged (moved a from to asked) (moved b from to asked)
move-alike a b from to asked alike =
    let same = move-refusal-alike a b alike from to asked in
    let s = moved_slot (slot_at a from) asked in
    let t = moved_slot (slot_at b from) asked in
    answered-alike (move_refusal a from to asked) (move_refusal b from to asked) a b _ _ same alike
    (λ e.
    let fields = ap (λ (f : Fields). moved_fields f asked) (fields-alike a b alike from) in
    let arrives = filled-seen s t fields (to-filled a from to asked e) (to-filled b from to asked (sym same ∙ e)) in
    with-alike (with_slot a to s) (with_slot b to t) from empty empty (with-alike a b to s t alike arrives) refl)

pub clear-alike : (a b : List Slot) (number : ℕ) → Alike a b → AlikeChanged (cleared a number) (cleared b number)
clear-alike a b number alike =
    answered-alike (clear_refusal a number) (clear_refusal b number) a b _ _ (clear-refusal-alike a b alike number) alike
    (λ e. with-alike a b number empty empty alike refl)

pub read_alike : (a b : List Slot) (number : ℕ) → Alike a b → shown a number ≡ shown b number
read_alike a b number alike = rw (clear-refusal-alike a b alike number, fields-alike a b alike number)
