-- What the check answers, to any two texts and any list of pairs; and that it accepts exactly where the conversion conforms. Assumes nothing.
use mathlib.Core.Path.{◌≡◌, refl, sym, ap, subst, ◌∙◌}
use mathlib.Core.Bool.{Bool, true, false, ◌&&◌, true≢false}
use mathlib.Core.List.{List}
use Prim.Native.Nat.{ℕ, ◌+◌, ◌≤◌, ◌<◌}
use native.Mathlib.Omega.{arith}
use lib.ListN.{length}
use Rattle.laws.specs.Choice.{pick}
use Rattle.refusals.specs.Numbers.{conversion_text_bad}
use Rattle.fields.proofs.Ranges.{between-low, between-high}
use Rattle.record_reader.specs.Record.{Entry}
use Rattle.gathering.specs.Gathering.{Gathered}
use Rattle.gathering.specs.Gathering.{gathered}
use Rattle.conversion.specs.Conversion.{Checked}
use Rattle.conversion.specs.Conversion.{checked_as, passes, pairs_checked, conversion_checked}
use Rattle.conversions.specs.Conforms.{In, Known, Pair, Joins, Conforms, Converts, pairs_of}
use Rattle.conversions.specs.Verdict.{pair_at, Misnames, before-missing, before-again, after-missing, after-again, Differs}
use Rattle.conversions.specs.Verdict.{OfPairs, too_many, misnamed, left_out, widened, conforming, Verdict, unread, checked}
use Rattle.conversions.proofs.Lists.{at_in, apart-at, one_of, no_more}
use Rattle.conversions.proofs.Tables.{number_of, held, text-known, known-gathered, known-numbered}
use Rattle.conversions.proofs.OfPairs.{of-pairs}

module _ (bs ns : List ℕ) (b : Known bs) (a : Known ns) (flat : List ℕ) where
  abbrev pairs : List Pair
  pairs = pairs_of flat

  abbrev before : List Entry
  before = b.records

  abbrev after : List Entry
  after = a.records

  -- what conforms passes: no other answer can be given

  pub conforming-passes : Conforms before after pairs → pairs_checked (held bs b) (held ns a) flat ≡ passes
  conforming-passes k = go (of-pairs bs ns b a flat)
    where
      at : (i : ℕ) → i < length pairs → Joins before after (pair_at pairs i)
      at i h = k.joined (pair_at pairs i) (at_in pairs _ i h)

      in-range : (p : Pair) → In p pairs → (1 ≤ p.before) × (p.before ≤ 32)
      in-range p m =
          let f = (k.joined p m).from in
          let n = known-numbered bs b f.entry f.stands in
          (omega (arith, f.number, between-low 1 f.entry.number 32 n), omega (arith, f.number, between-high 1 f.entry.number 32 n))

      never : (i : ℕ) → i < length pairs → Misnames before after pairs i → ⊥
      never i h (before-missing gone) = gone (at i h).from
      never i h (before-again j l e) = apart-at (λ (p : Pair). p.before) _ pairs k.not-in-two j i l h e
      never i h (after-missing gone) = gone (at i h).to
      never i h (after-again j l e) = apart-at (λ (p : Pair). p.after) _ pairs k.in-one-pair j i l h e

      same : (i : ℕ) → i < length pairs → Differs before after pairs i → ⊥
      same i h d =
          let j = at i h in
          let x = one_of number_of before b.once d.from.entry j.from.entry d.from.stands j.from.stands (d.from.number ∙ sym j.from.number) in
          let y = one_of number_of after a.once d.to.entry j.to.entry d.to.stands j.to.stands (d.to.number ∙ sym j.to.number) in
          d.apart (rw (x, y) j.agree)

      go : {c : Checked} → OfPairs before after pairs c → c ≡ passes
      go (too_many h e) =
          absurd (omega (arith, h, no_more (λ (p : Pair). p.before) 32 pairs k.not-in-two (λ p m. (in-range p m).0) (λ p m. (in-range p m).1)))
      go (misnamed few i f e) = absurd (never i f.within f.here)
      go (left_out few n o e) = absurd (o.alone (k.each_stands o.entry o.stands))
      go (widened few n o i f e) = absurd (same i f.within f.here)
      go (conforming c e) = e

-- OF TWO TEXTS

-- the answer to any two texts and any list, with what it says
pub verdict : (before after flat : List ℕ) → Verdict before after (pairs_of flat) (conversion_checked before after flat)
unfolding conversion_checked
verdict before after flat = go (gathered before).good refl (gathered after).good refl
  where
    not_good : (s : List ℕ) → (gathered s).good ≡ false → Known s → ⊥
    not_good s e k = true≢false (ap (λ (g : Gathered). g.good) (sym (known-gathered s k)) ∙ e)

    go : (x : Bool) → (gathered before).good ≡ x → (y : Bool) → (gathered after).good ≡ y
        → Verdict before after (pairs_of flat) (pick (x && y) (pairs_checked (gathered before).table (gathered after).table flat) (checked_as conversion_text_bad 0))
    go true e true f =
        let b = text-known before e in
        let a = text-known after f in
        let z : pairs_checked (held before b) (held after a) flat ≡ pairs_checked (gathered before).table (gathered after).table flat =
        λ i. pairs_checked (sym (known-gathered before b) i).table (sym (known-gathered after a) i).table flat in
        checked b a (subst (OfPairs b.records a.records (pairs_of flat)) z (of-pairs before after b a flat))
    go true e false f = unread (λ k. not_good after f k.1) refl
    go false e y f = unread (λ k. not_good before e k.0) refl

-- accepted exactly where the conversion conforms

pub accepted-converts : (before after flat : List ℕ) → conversion_checked before after flat ≡ passes → Converts before after (pairs_of flat)
accepted-converts before after flat p = go (verdict before after flat)
  where
    refused-not : (n place : ℕ) → 0 < n → conversion_checked before after flat ≡ checked_as n place → ⊥
    refused-not n place h e = omega (arith, h, ap (λ (c : Checked). c.refusal) (sym e ∙ p))

    pairs-go : (b : Known before) (a : Known after) → OfPairs b.records a.records (pairs_of flat) (conversion_checked before after flat) → Converts before after (pairs_of flat)
    pairs-go b a (too_many h e) = absurd (refused-not 23 0 (omega arith) e)
    pairs-go b a (misnamed few i f e) = absurd (refused-not 23 (i + 1) (omega arith) e)
    pairs-go b a (left_out few n o e) = absurd (refused-not 23 0 (omega arith) e)
    pairs-go b a (widened few n o i f e) = absurd (refused-not 24 (i + 1) (omega arith) e)
    pairs-go b a (conforming c e) =
        record { befores = b.records; afters = a.records; before-reads = b.reads; after-reads = a.reads; conforms = c }

    go : Verdict before after (pairs_of flat) (conversion_checked before after flat) → Converts before after (pairs_of flat)
    go (unread h e) = absurd (refused-not 22 0 (omega arith) e)
    go (checked b a o) = pairs-go b a o

pub converts-accepted : (before after flat : List ℕ) → Converts before after (pairs_of flat) → conversion_checked before after flat ≡ passes
unfolding conversion_checked
converts-accepted before after flat c =
    let b : Known before = record { records = c.befores; reads = c.before-reads; once = c.conforms.before-once } in
    let a : Known after = record { records = c.afters; reads = c.after-reads; once = c.conforms.after-once } in
    let x = known-gathered before b in
    let y = known-gathered after a in
    (λ i. pick ((x i).good && (y i).good) (pairs_checked (x i).table (y i).table flat) (checked_as conversion_text_bad 0))
    ∙ conforming-passes before after b a flat c.conforms
