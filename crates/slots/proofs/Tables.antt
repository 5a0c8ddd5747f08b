-- Empty, filled and bad slots, and tables without a bad slot. Assumes nothing.
use mathlib.Core.Bool.{Bool, true, false, ◌&&◌, ◌||◌, not, and-true, and-false, true≢false}
use mathlib.Core.List.{List, [], ◌∷◌}
use mathlib.Core.Path.{◌≡◌, refl, sym, ap, ◌∙◌}
use Prim.Native.Nat.{ℕ, zero, suc, ◌+◌, ◌<◌, ◌≤◌}
use native.Mathlib.Numerals.{add-one}
use native.Mathlib.Omega.{arith}
use borrow.Author.Tests.{not-true, ne_eqb}
use lib.Dec.{eqb}
use lib.ListN.{length, get_or, set, drop, drop_of_length-le}
use lib.Seq.{drop-cons}
use Rattle.std.specs.List.{list_any}
use Rattle.laws.proofs.Cases.{and_left, and_right, neither}
use Rattle.refusals.specs.Numbers.{done, code_unknown, side_or_place_bad, network_bad, refuse}
use Rattle.fields.specs.declared.Asked.{Asked}
use Rattle.fields.specs.declared.Fields.{Fields}
use Rattle.fields.specs.Fields.{is_algorithm, is_use, is_side, is_place, is_mcc, is_mnc, all_in_range, rights_refusal, asked_of}
use Rattle.fields.proofs.Ranges.{between-low}
use Rattle.slots.specs.declared.Slot.{Slot}
use Rattle.slots.specs.Slots.{nil, keyless, is_no_fields, all_zero, is_empty, is_filled, is_bad, has_bad}

-- the fields are in their ranges where the algorithm is and no right is refused
pub in-range : (a : Asked) → all_in_range a ≡ is_algorithm a.algorithm && eqb (rights_refusal a) done
in-range a =
    ap (λ (t : Bool). is_algorithm a.algorithm && t) (go (is_use a.usage) (is_side a.side) (is_place a.place) (is_mcc a.mcc) (is_mnc a.mnc))
  where
    go : (u s p m n : Bool) → u && (s && (p && (m && n)))
        ≡ eqb (refuse (not u) code_unknown (refuse (not (s && p)) side_or_place_bad (refuse (not (m && n)) network_bad done))) done
    go true true true true true = refl
    go true true true true false = refl
    go true true true false n = refl
    go true true false m n = refl
    go true false p m n = refl
    go false s p m n = refl

-- a slot is filled where its fields, as a caller gives them, would not be refused
pub filled-by : (s : Slot) (a : Asked) → a ≡ asked_of s.fields → is_filled s ≡ is_algorithm a.algorithm && eqb (rights_refusal a) done
unfolding is_filled
filled-by s a e = sym (ap all_in_range e) ∙ in-range a

-- the slots from i on are the slot at i and those after it
pub bad-next : (table : List Slot) (i : ℕ) → i < length table → has_bad (drop i table) ≡ is_bad (get_or table i nil) || has_bad (drop (i + 1) table)
unfolding has_bad
bad-next table i h = rw (add-one, drop-cons table i nil h)

pub bad-none : (table : List Slot) (i : ℕ) → length table ≤ i → has_bad (drop i table) ≡ false
unfolding has_bad
bad-none table i h = rw (drop_of_length-le table h)

-- a table has a bad slot where one of its slots is bad
pub has_bad-any : (table : List Slot) → has_bad table ≡ list_any is_bad table
unfolding has_bad
has_bad-any [] = refl
has_bad-any (s ∷ table) = ap (λ (t : Bool). is_bad s || t) (has_bad-any table)

-- a slot whose key is not read is empty where no field is there
pub keyless-empty : (f : Fields) → is_empty (keyless f) ≡ is_no_fields f
unfolding is_empty all_zero
keyless-empty f = and-true (is_no_fields f)

-- a slot is empty, filled or bad, and only one of these

pub filled-not-empty : (s : Slot) → is_filled s ≡ true → is_empty s ≡ false
unfolding is_filled is_empty
filled-not-empty s e =
    let low = between-low 5 s.fields.algorithm 7 (and_left (is_algorithm s.fields.algorithm) _ e) in
    rw (ne_eqb s.fields.algorithm 0 (λ z. omega arith), and-false (eqb s.fields.version 0 && eqb s.fields.mcc 0 && eqb s.fields.mnc 0))

pub empty-not-filled : (s : Slot) → is_empty s ≡ true → is_filled s ≡ false
empty-not-filled s e = go (is_filled s) refl
  where
    go : (t : Bool) → is_filled s ≡ t → t ≡ false
    go true h = absurd (true≢false (sym e ∙ filled-not-empty s h))
    go false h = refl

pub bad-not-filled : (s : Slot) → is_bad s ≡ true → is_filled s ≡ false
unfolding is_bad
bad-not-filled s e = not-true (is_filled s) (and_left (not (is_filled s)) (not (is_empty s)) e)

pub bad-not-empty : (s : Slot) → is_bad s ≡ true → is_empty s ≡ false
unfolding is_bad
bad-not-empty s e = not-true (is_empty s) (and_right (not (is_filled s)) (not (is_empty s)) e)

-- a slot that is neither bad nor empty is filled
pub filled-else : (s : Slot) → is_bad s ≡ false → is_empty s ≡ false → is_filled s ≡ true
unfolding is_bad
filled-else s b e = go (is_filled s) (is_empty s) b e
  where
    go : (f n : Bool) → not f && not n ≡ false → n ≡ false → f ≡ true
    go true n b e = refl
    go false true b e = absurd (true≢false e)
    go false false b e = absurd (true≢false b)

pub filled-not-bad : (s : Slot) → is_filled s ≡ true → is_bad s ≡ false
unfolding is_bad
filled-not-bad s e = rw e

-- a table without a bad slot

pub good-at : (table : List Slot) (i : ℕ) → has_bad table ≡ false → is_bad (get_or table i nil) ≡ false
unfolding has_bad is_bad is_filled is_empty all_zero
good-at [] i e = refl
good-at (s ∷ table) zero e = (neither (is_bad s) (has_bad table) e).0
good-at (s ∷ table) (suc i) e = good-at table i (neither (is_bad s) (has_bad table) e).1

pub good-set : (table : List Slot) (i : ℕ) (s : Slot) → has_bad table ≡ false → is_bad s ≡ false → has_bad (set table i s) ≡ false
unfolding has_bad
good-set [] i s e h = e
good-set (x ∷ table) zero s e h = rw h (neither (is_bad x) (has_bad table) e).1
good-set (x ∷ table) (suc i) s e h = rw (neither (is_bad x) (has_bad table) e).0 (good-set table i s (neither (is_bad x) (has_bad table) e).1 h)
