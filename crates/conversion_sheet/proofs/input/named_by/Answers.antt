-- `input::named_by`: by what the two readers ensure. Assumes nothing.
use Rattle.std.proofs.Common.{◌≡◌, ◌∙◌, sym, ap, List, ℕ}
use Rattle.forms.specs.Form.{line}
use Rattle.forms.specs.Decimals.{decimal}
use Rattle.reading.specs.declared.Reading.{Reading}
use Rattle.reading.specs.Reading.{onward, answer, reading_of}
use Rattle.conversion_sheet.specs.Input.{before_read, after_read, named_by}
use Rattle.conversion_sheet.proofs.input.named_by.Goals as goal

-- what is read of the number before, and of the one after
after_is : (s : List ℕ) (a b : Reading) → b ≡ answer (onward a (line "after=" (decimal 1 32)) s) → a ≡ before_read s → b ≡ after_read s
unfolding after_read
after_is s a b e f = e ∙ ap (λ (r : Reading). answer (onward r (line "after=" (decimal 1 32)) s)) f

pub returns-in-Ok-Ok : goal.returns-in-Ok-Ok
unfolding named_by
returns-in-Ok-Ok c =
    let before = sym (ap reading_of c.in-Ok-Ok.is-0) ∙ c.read_before-before.ensures in
    let after = sym (ap reading_of c.in-Ok-Ok.is-1) ∙ after_is c.args.s.now _ _ c.read_line.ensures c.read_before-before.ensures in
    rw (sym (ap (λ (r : Reading). r.good) after)) (λ i. record { before = (before i).value; after = (after i).value })

pub returns-in_default : goal.returns-in_default
unfolding named_by
returns-in_default c =
    let after = sym (ap reading_of c.in_default.is-1) ∙ after_is c.args.s.now _ _ c.read_line.ensures c.read_before-before.ensures in
    rw (sym (ap (λ (r : Reading). r.good) after))

pub returns-in_default-2 : goal.returns-in_default-2
unfolding named_by after_read onward
returns-in_default-2 c =
    let before = sym (ap reading_of c.in_default.is-0) ∙ c.read_before-before.ensures in
    rw (sym (ap (λ (r : Reading). (answer (onward r (line "after=" (decimal 1 32)) c.args.s.now)).good) before))
