-- What is printed, and that it is short. Assumes nothing.
use mathlib.Core.Path.{◌≡◌, sym, ap, subst, ◌∙◌}
use mathlib.Core.List.{List, ◌++◌}
use Prim.Native.Nat.{ℕ, ◌+◌, ◌≤◌, ◌<◌, ◌^◌}
use native.Mathlib.Nat.{zero-add}
use native.Mathlib.Omega.{arith}
use lib.ListN.{length, drop, replicate, length-append, length-replicate}
use lib.Seq.{sets-eq}
use borrow.Author.Tests.{eq-eqb, ne_eqb}
use Rattle.refusals.specs.Numbers.{done}
use Rattle.writing.specs.Text.{digits, item, line_text}
use Rattle.writing.specs.Writing.{Put, at_front}
use Rattle.writing.proofs.Digits.{digits-fit, item-length, line-length}
use Rattle.conversion.specs.Conversion.{Checked}
use Rattle.conversion_sheet.specs.declared.Report.{Report}
use Rattle.conversion_sheet.specs.Report.{checked_text, conversion_report, report_room, report_of}

module _ (c : Checked) (count : ℕ) where
  pub text-passed : c.refusal ≡ done → checked_text c count ≡ line_text "converted=" (digits count)
  unfolding checked_text
  text-passed e = rw (eq-eqb c.refusal done e)

  pub text-refused : (c.refusal ≡ done → ⊥) → checked_text c count ≡ item "refused=" (digits c.refusal) ++ line_text " pair=" (digits c.place)
  unfolding checked_text
  text-refused n = rw (ne_eqb c.refusal done n)

-- a number of 64 bits has at most 20 digits

pub passed-short : (count : ℕ) → count < 10 ^ 20 → length (line_text "converted=" (digits count)) ≤ report_room
passed-short count h = omega (arith, line-length "converted=" (digits count), digits-fit 19 count h)

pub refused-short : (refusal place : ℕ) → refusal < 10 ^ 3 → place < 10 ^ 20
    → length (item "refused=" (digits refusal) ++ line_text " pair=" (digits place)) ≤ report_room
refused-short refusal place h l =
    omega (
      arith,
      item-length "refused=" (digits refusal) (line_text " pair=" (digits place)),
      line-length " pair=" (digits place),
      digits-fit 2 refusal h,
      digits-fit 19 place l,
    )

-- a text that is put at the front of zeros
pub put_front : (t : List ℕ) {b : List ℕ} {n : ℕ} → n ≤ report_room → Put (replicate report_room 0) 0 t b n → ◌≡◌ {A = Report} (record { length = n; text = b }) (report_of t)
put_front t {b} {n} short p =
    let size : n ≡ length t = p.ends ∙ zero-add (length t) in
    let fits : 0 + length t ≤ length {A = ℕ} (replicate report_room 0) = omega (arith, p.ends, length-replicate {A = ℕ} 64 0) in
    let holds : b ≡ at_front t (replicate report_room 0) =
    p.holds ∙ sets-eq t (replicate report_room 0) 0 fits ∙ ap (λ (k : ℕ). t ++ drop k (replicate report_room 0)) (zero-add (length t)) in
    λ i. record { length = size i; text = holds i }

-- a text at the front of a buffer lies within what it makes of it
pub front-within : (t b : List ℕ) → length t ≤ length (at_front t b)
front-within t b = omega (arith, length-append t (drop (length t) b))

-- so what a report shows lies within it
pub report-within : (input : List ℕ) {r : Report} → r ≡ report_of (conversion_report input) → r.length ≤ length r.text
report-within input e = subst (λ (x : Report). x.length ≤ length x.text) (sym e) (front-within (conversion_report input) (replicate report_room 0))
