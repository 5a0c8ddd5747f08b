-- What is answered to a list of pairs of two texts that read is what the list's first fault is, or that it has none. Assumes nothing.
use mathlib.Core.Path.{◌≡◌, refl, sym, ap, subst, ◌∙◌}
use mathlib.Core.Bool.{Bool, true, false, not, true≢false}
use mathlib.Core.Logic.{⊎_elim}
use mathlib.Core.List.{List}
use Prim.Native.Nat.{ℕ, ◌+◌, ◌≤◌, ◌<◌}
use native.Mathlib.Omega.{arith}
use lib.Dec.{eqb, ltb}
use lib.ListN.{length}
use borrow.Author.Tests.{eqb-true, eqb-false, ltb-true, ltb-false, not-true, not-false}
use Rattle.laws.specs.Choice.{pick}
use Rattle.laws.proofs.Cases.{neither}
use Rattle.refusals.specs.Numbers.{pair_list_bad, pair_differs}
use Rattle.fields.proofs.Ranges.{between-low, between-high}
use Rattle.slots.specs.declared.Slot.{Slot}
use Rattle.slots.specs.Slots.{is_filled}
use Rattle.slot_calls.specs.Seen.{slot_as}
use Rattle.record_reader.specs.Record.{Entry}
use Rattle.agreement.specs.Agreement.{agrees}
use Rattle.conversion.specs.Conversion.{Checked}
use Rattle.conversion_pairs.specs.Pairs.{pair_count, number_on, misnames_on, misnames, differs, first_faulty, first_misnaming, first_differing, leaves_out}
use Rattle.conversion.specs.Conversion.{checked_as, passes, naming, firstly, names_checked, rights_checked, pairs_checked}
use Rattle.conversions.specs.Conforms.{In, Known, Pair, AlikeEntries, Numbered, Joins, Stands, Conforms, pairs_of}
use Rattle.conversions.specs.Verdict.{pair_at, Misnames, before-missing, before-again, after-missing, after-again, Differs, First, Never, LeftOut}
use Rattle.conversions.specs.Verdict.{OfPairs, too_many, misnamed, left_out, widened, conforming}
use Rattle.conversions.proofs.Lists.{in-at, at_in, at-apart}
use Rattle.conversions.proofs.Tables.{slot_of, held, known-numbered, known-filled, known-size, known-holds}
use Rattle.conversions.proofs.Tests.{either-of, first-none, first_some, named-yes, named-no, Out, out-yes, out-no, pairs-length, before-is, after_is}
use Rattle.conversions.proofs.Sides.{agrees-is, agree-passes, side-yes, side-no}

-- the pairs of two texts that read

module _ (bs ns : List ℕ) (b : Known bs) (a : Known ns) (flat : List ℕ) where
  abbrev pairs : List Pair
  pairs = pairs_of flat

  abbrev before : List Entry
  before = b.records

  abbrev after : List Entry
  after = a.records

  abbrev old : List Slot
  old = held bs b

  abbrev new : List Slot
  new = held ns a

  abbrev before_at : ℕ → ℕ
  before_at i = (pair_at pairs i).before

  abbrev after_at : ℕ → ℕ
  after_at i = (pair_at pairs i).after

  -- a pair that misnames

  misnames-yes : (i : ℕ) → misnames old new flat i ≡ true → Misnames before after pairs i
  unfolding misnames
  misnames-yes i e =
      ⊎_elim
      (λ h. ⊎_elim before-missing (λ r. before-again r.0 r.1 r.2) (side-yes old before (known-holds bs b) (known-filled bs b) 0 flat before_at (before-is flat) i h))
      (λ h. ⊎_elim after-missing (λ r. after-again r.0 r.1 r.2) (side-yes new after (known-holds ns a) (known-filled ns a) 1 flat after_at (after_is flat) i h))
      (either-of (misnames_on 0 old flat i) _ e)

  -- one that does not: both records are there, and neither number was named before
  record Names (i : ℕ) : Type 0 where
    from : Numbered before (before_at i)
    from-new : (k : ℕ) → k < i → before_at k ≡ before_at i → ⊥
    to : Numbered after (after_at i)
    to-new : (k : ℕ) → k < i → after_at k ≡ after_at i → ⊥

  names : (i : ℕ) → misnames old new flat i ≡ false → Names i
  unfolding misnames
  names i e =
      let both = neither (misnames_on 0 old flat i) _ e in
      let x = side-no old before (known-holds bs b) (known-filled bs b) 0 flat before_at (before-is flat) i both.0 in
      let y = side-no new after (known-holds ns a) (known-filled ns a) 1 flat after_at (after_is flat) i both.1 in
      record { from = x.0; from-new = x.1; to = y.0; to-new = y.1 }

  misnames-no : (i : ℕ) → misnames old new flat i ≡ false → Misnames before after pairs i → ⊥
  misnames-no i e (before-missing h) = h (names i e).from
  misnames-no i e (before-again k h p) = (names i e).from-new k h p
  misnames-no i e (after-missing h) = h (names i e).to
  misnames-no i e (after-again k h p) = (names i e).to-new k h p

  -- a pair of two records that are there

  module _ (i : ℕ) (from : Numbered before (before_at i)) (to : Numbered after (after_at i)) where
    differs-by : differs old new flat i ≡ not (agrees (slot_of from.entry) (slot_of to.entry))
    unfolding differs
    differs-by =
        let e : slot_as old (number_on 0 flat i) ≡ slot_of from.entry =
        ap (slot_as old) (before-is flat i ∙ sym from.number) ∙ (known-holds bs b).stored from.entry from.stands in
        let f : slot_as new (number_on 1 flat i) ≡ slot_of to.entry =
        ap (slot_as new) (after_is flat i ∙ sym to.number) ∙ (known-holds ns a).stored to.entry to.stands in
        λ j. not (agrees (e j) (f j))

    differs-no : differs old new flat i ≡ false → AlikeEntries from.entry to.entry
    differs-no e =
        agrees-is from.entry to.entry (known-size bs b from.entry from.stands) (known-size ns a to.entry to.stands)
        (not-false _ (sym differs-by ∙ e))

    differs-yes : differs old new flat i ≡ true → AlikeEntries from.entry to.entry → ⊥
    differs-yes e g = true≢false (sym (agree-passes from.entry to.entry g) ∙ not-true _ (sym differs-by ∙ e))

  -- the count

  many : length pairs ≡ pair_count flat
  many = pairs-length flat

  -- an after record that is named

  stands-yes : (e : Entry) → (k : ℕ) → k < length pairs → after_at k ≡ e.number → Stands pairs e
  stands-yes e k h p = record { pair = pair_at pairs k; listed = at_in pairs _ k h; number = p }

  out-left : Out new flat → LeftOut after pairs
  out-left o =
      let y = (known-holds ns a).only o.number o.there in
      record {
        entry = y.entry;
        stands = y.stands;
        alone = λ s.
            let p = in-at pairs (record { before = 0; after = 0 }) s.pair s.listed in
            named-no 1 flat o.number (pair_count flat) o.unnamed p.place (omega (arith, p.within, many))
            (after_is flat p.place ∙ ap (λ (x : Pair). x.after) p.is ∙ s.number ∙ y.number);
      }

  each_stands : leaves_out new flat 32 ≡ false → (e : Entry) → In e after → Stands pairs e
  each_stands h e m =
      let n = known-numbered ns a e m in
      let r =
      named-yes 1 flat e.number (pair_count flat)
      (out-no new flat 32 h e.number (between-low 1 e.number 32 n) (between-high 1 e.number 32 n)
      (ap is_filled ((known-holds ns a).stored e m) ∙ known-filled ns a e m)) in
      stands-yes e r.0 (omega (arith, r.1, many)) (sym (after_is flat r.0) ∙ r.2)

  -- the whole list

  none-misnames : first_misnaming old new flat ≡ 0 → (i : ℕ) → i < length pairs → misnames old new flat i ≡ false
  unfolding first_faulty
  none-misnames e i h = first-none (misnames old new flat) 0 (pair_count flat) e i (omega arith) (omega (arith, h, many))

  never-misnames : first_misnaming old new flat ≡ 0 → Never (Misnames before after pairs) (length pairs)
  never-misnames e i h = misnames-no i (none-misnames e i h)

  all-conform : first_misnaming old new flat ≡ 0 → leaves_out new flat 32 ≡ false → first_differing old new flat ≡ 0 → Conforms before after pairs
  unfolding first_faulty
  all-conform e l d =
      record {
        before-once = b.once;
        after-once = a.once;
        each_stands = each_stands l;
        in-one-pair = at-apart (λ (p : Pair). p.after) _ pairs (λ i k h m. (names k (none-misnames e k m)).to-new i h);
        not-in-two = at-apart (λ (p : Pair). p.before) _ pairs (λ i k h m. (names k (none-misnames e k m)).from-new i h);
        joined = λ p m.
            let x = in-at pairs (record { before = 0; after = 0 }) p m in
            let n = names x.place (none-misnames e x.place x.within) in
            subst (Joins before after) x.is
            (record {
              from = n.from;
              to = n.to;
              agree = differs-no x.place n.from n.to (first-none (differs old new flat) 0 (pair_count flat) d x.place (omega arith) (omega (arith, x.within, many)));
            });
      }

  first-misnames : (first_misnaming old new flat ≡ 0 → ⊥) → (i : ℕ) × First (Misnames before after pairs) (length pairs) i × (first_misnaming old new flat ≡ i + 1)
  unfolding first_faulty
  first-misnames ne =
      let f = first_some (misnames old new flat) 0 (pair_count flat) ne in (
        f.place,
        record {
          within = omega (arith, f.high, many);
          here = misnames-yes f.place f.here;
          earlier = λ k h. misnames-no k (f.earlier k (omega arith) h);
        },
        f.is,
      )

  first-differs : first_misnaming old new flat ≡ 0 → (first_differing old new flat ≡ 0 → ⊥)
      → (i : ℕ) × First (Differs before after pairs) (length pairs) i × (first_differing old new flat ≡ i + 1)
  unfolding first_faulty
  first-differs e ne =
      let f = first_some (differs old new flat) 0 (pair_count flat) ne in
      let n = names f.place (none-misnames e f.place (omega (arith, f.high, many))) in (
        f.place,
        record {
          within = omega (arith, f.high, many);
          here = record { from = n.from; to = n.to; apart = differs-yes f.place n.from n.to f.here };
          earlier = λ k h d. d.apart (differs-no k d.from d.to (f.earlier k (omega arith) h));
        },
        f.is,
      )

  -- what is answered, by the tests

  abbrev Answer : Checked → Type 0
  Answer = OfPairs before after pairs

  after-names : length pairs ≤ 32 → first_misnaming old new flat ≡ 0 → (t : Bool) → leaves_out new flat 32 ≡ t
      → Answer (firstly (pick t (checked_as pair_list_bad 0) passes) (rights_checked old new flat))
  unfolding rights_checked
  after-names few e true l = left_out few (never-misnames e) (out-left (out-yes new flat 32 l)) refl
  after-names few e false l = go (eqb (first_differing old new flat) 0) refl
    where
      go : (t : Bool) → eqb (first_differing old new flat) 0 ≡ t → Answer (pick t passes (checked_as pair_differs (first_differing old new flat)))
      go true d = conforming (all-conform e l (eqb-true _ 0 d)) refl
      go false d =
          let f = first-differs e (eqb-false _ 0 d) in
          widened few (never-misnames e) (λ o. o.alone (each_stands l o.entry o.stands)) f.0 f.1 (ap (checked_as pair_differs) f.2)

  pub of-pairs : Answer (pairs_checked old new flat)
  unfolding pairs_checked names_checked
  of-pairs = go (ltb 32 (pair_count flat)) refl
    where
      named : (t : Bool) → eqb (first_misnaming old new flat) 0 ≡ t → length pairs ≤ 32
          → Answer (firstly (pick t (pick (leaves_out new flat 32) (checked_as pair_list_bad 0) passes) (checked_as pair_list_bad (first_misnaming old new flat))) (rights_checked old new flat))
      named true e few = after-names few (eqb-true _ 0 e) (leaves_out new flat 32) refl
      named false e few =
          let f = first-misnames (eqb-false _ 0 e) in
          misnamed few f.0 f.1 (ap (checked_as pair_list_bad) f.2)

      go : (t : Bool) → ltb 32 (pair_count flat) ≡ t
          → Answer (firstly (pick t (checked_as pair_list_bad 0) (naming pair_list_bad (first_misnaming old new flat) (pick (leaves_out new flat 32) (checked_as pair_list_bad 0) passes))) (rights_checked old new flat))
      go true e = too_many (omega (arith, ltb-true 32 (pair_count flat) e, many)) refl
      go false e = named (eqb (first_misnaming old new flat) 0) refl (omega (arith, ltb-false 32 (pair_count flat) e, many))
