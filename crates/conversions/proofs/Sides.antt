-- Two records that agree, and one side of a pair. Assumes nothing.
use mathlib.Core.Path.{◌≡◌, refl, sym, ap, subst, ◌∙◌}
use mathlib.Core.Bool.{true, false, not, true≢false}
use mathlib.Core.Logic.{◌⊎◌, inl, inr, ⊎_elim}
use mathlib.Core.List.{List}
use Prim.Native.Nat.{ℕ, zero, suc, ◌<◌}
use native.Mathlib.Omega.{arith}
use lib.Dec.{eqb}
use lib.ListN.{length, get_or}
use lib.Seq.{ext_get_or}
use borrow.Author.Tests.{eqb-true, eq-eqb, not-true, not-false}
use Rattle.laws.proofs.Cases.{neither, and_left, and_right}
use Rattle.slots.specs.declared.Slot.{Slot}
use Rattle.slots.specs.Slots.{is_filled}
use Rattle.record_reader.specs.Record.{Entry}
use Rattle.agreement.specs.Agreement.{same_fields, same_bytes, same_key, agrees}
use Rattle.conversion_pairs.specs.Pairs.{number_on, is_there, misnames_on}
use Rattle.conversions.specs.Conforms.{In, AlikeEntries, Numbered}
use Rattle.conversions.proofs.Tables.{slot_of, Holds}
use Rattle.conversions.proofs.Tests.{either-of, last_or, named-yes, named-no}

-- two records that agree

same_bytes-each : (a b : List ℕ) (n : ℕ) → same_bytes a b n ≡ true → (i : ℕ) → i < n → get_or a i 0 ≡ get_or b i 0
unfolding same_bytes
same_bytes-each a b zero e i h = absurd (omega arith)
same_bytes-each a b (suc n) e i h =
    ⊎_elim (same_bytes-each a b n (and_left (same_bytes a b n) _ e) i)
    (λ p. rw p (eqb-true (get_or a n 0) (get_or b n 0) (and_right (same_bytes a b n) _ e)))
    (last_or i n h)

bytes_same : (a b : List ℕ) → a ≡ b → (n : ℕ) → same_bytes a b n ≡ true
unfolding same_bytes
bytes_same a b e zero = refl
bytes_same a b e (suc n) = rw (bytes_same a b e n) (eq-eqb (get_or a n 0) (get_or b n 0) (ap (λ (l : List ℕ). get_or l n 0) e))

module _ (from to : Entry) where
  pub agrees-is : length from.key ≡ 24 → length to.key ≡ 24 → agrees (slot_of from) (slot_of to) ≡ true → AlikeEntries from to
  unfolding agrees same_fields
  agrees-is m n e =
      let f = from.fields in
      let g = to.fields in
      let fields = and_left (same_fields f g) _ e in
      let rest = and_right (same_fields f g) _ e in
      let version = and_right (eqb f.version g.version) _ fields in
      let algorithm = and_right (eqb f.algorithm g.algorithm) _ version in
      let side = and_right (eqb f.side g.side) _ algorithm in
      let place = and_right (eqb f.place g.place) _ side in
      record {
        key = ext_get_or 0 from.key to.key (m ∙ sym n) (λ i h. same_bytes-each from.key to.key 24 (and_left (same_key from.key to.key) _ rest) i (omega arith));
        version = eqb-true f.version g.version (and_left (eqb f.version g.version) _ fields);
        algorithm = eqb-true f.algorithm g.algorithm (and_left (eqb f.algorithm g.algorithm) _ version);
        side = eqb-true f.side g.side (and_left (eqb f.side g.side) _ algorithm);
        place = eqb-true f.place g.place (and_left (eqb f.place g.place) _ side);
        mcc = eqb-true f.mcc g.mcc (and_left (eqb f.mcc g.mcc) _ place);
        mnc = eqb-true f.mnc g.mnc (and_right (eqb f.mcc g.mcc) _ place);
        usage = and_right (same_key from.key to.key) _ rest;
      }

  pub agree-passes : AlikeEntries from to → agrees (slot_of from) (slot_of to) ≡ true
  unfolding agrees same_fields
  agree-passes a =
      let f = from.fields in
      let g = to.fields in
      rw (
        eq-eqb f.version g.version a.version,
        eq-eqb f.algorithm g.algorithm a.algorithm,
        eq-eqb f.side g.side a.side,
        eq-eqb f.place g.place a.place,
        eq-eqb f.mcc g.mcc a.mcc,
        eq-eqb f.mnc g.mnc a.mnc,
        bytes_same from.key to.key a.key 24,
      )
      a.usage

-- one side of a pair: `number` is the pair's number on it

module _ (t : List Slot) (es : List Entry) (holds : Holds t es) (fills : (e : Entry) → In e es → is_filled (slot_of e) ≡ true)
    (side : ℕ) (flat : List ℕ) (number : ℕ → ℕ) (is : (i : ℕ) → number_on side flat i ≡ number i) where
  there-yes : (n : ℕ) → Numbered es n → is_there t n ≡ true
  there-yes n y = ap (λ (m : ℕ). is_there t m) (sym y.number) ∙ ap is_filled (holds.stored y.entry y.stands) ∙ fills y.entry y.stands

  pub side-yes : (i : ℕ) → misnames_on side t flat i ≡ true → (Numbered es (number i) → ⊥) ⊎ ((k : ℕ) × (k < i) × (number k ≡ number i))
  unfolding misnames_on
  side-yes i e =
      ⊎_elim (λ h. inl (λ y. true≢false (sym (there-yes (number_on side flat i) (subst (Numbered es) (sym (is i)) y)) ∙ not-true _ h)))
      (λ h. let r = named-yes side flat (number_on side flat i) i h in inr (r.0, r.1, sym (is r.0) ∙ r.2 ∙ is i))
      (either-of (not (is_there t (number_on side flat i))) _ e)

  pub side-no : (i : ℕ) → misnames_on side t flat i ≡ false → Numbered es (number i) × ((k : ℕ) → k < i → number k ≡ number i → ⊥)
  unfolding misnames_on
  side-no i e =
      let both = neither (not (is_there t (number_on side flat i))) _ e in (
        subst (Numbered es) (is i) (holds.only (number_on side flat i) (not-false _ both.0)),
        λ k h p. named-no side flat (number_on side flat i) i both.1 k h (is k ∙ p ∙ sym (is i)),
      )
