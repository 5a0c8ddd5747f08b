-- `part::first_digit`: by the test of the digit. Assumes nothing.
use mathlib.Core.Path.{◌≡◌, sym, ap, ◌∙◌}
use mathlib.Core.Bool.{true}
use Prim.Native.Nat.{ℕ}
use Rattle.forms.specs.Decimals.{may_begin}
use Rattle.forms.proofs.Decimals.{begin-is}
use Rattle.call_log.specs.Fed.{so_far, in_number, high_of, first_digit}
use Rattle.call_log.proofs.part.first_digit.Goals as goal

pub digit-requires : goal.digit-requires
digit-requires c =
    let may : may_begin 0 (high_of c.args.m.part) c.args.b ≡ true =
    sym (ap (λ (h : ℕ). may_begin 0 h c.args.b) c.high_of.ensures)
    ∙ (sym c.may_begin.ensures ∙ c.if-may_begin.true)
    in
    (begin-is 0 _ _ may).0

pub returns-then-may_begin : goal.returns-then-may_begin
unfolding first_digit
returns-then-may_begin c =
    let may : may_begin 0 (high_of c.args.m.part) c.args.b ≡ true =
    sym (ap (λ (h : ℕ). may_begin 0 h c.args.b) c.high_of.ensures)
    ∙ (sym c.may_begin.ensures ∙ c.if-may_begin.true)
    in
    rw may (c.so_far.ensures ∙ ap (so_far c.args.m in_number) c.digit.ensures)

pub returns : goal.returns
unfolding first_digit
returns c = rw (sym (ap (λ (h : ℕ). may_begin 0 h c.args.b) c.high_of.ensures) ∙ (sym c.may_begin.ensures ∙ c.if-may_begin.false)) c.stopped.ensures
