-- `part::after_digit`: by the tests of the byte and of the part. Assumes nothing.
use mathlib.Core.Path.{◌≡◌, sym, ap, ◌∙◌}
use mathlib.Core.Bool.{true, false}
use Prim.Native.Nat.{ℕ, ◌+◌, ◌*◌}
use native.Mathlib.Omega.{arith}
use borrow.Author.Tests.{eq-eqb, ne_eqb, le-leb, lt-leb}
use Rattle.forms.specs.Decimals.{may_follow}
use Rattle.forms.proofs.Decimals.{follow-is}
use Rattle.call_log.proofs.Highs.{high-most}
use Rattle.call_log.specs.Fed.{so_far, in_number, high_of, after_digit}
use Rattle.call_log.proofs.part.after_digit.Goals as goal

pub overflow_mul-m : goal.overflow_mul-m
overflow_mul-m c =
    let may : may_follow (high_of c.args.m.part) c.args.m.number c.args.b ≡ true =
    sym (ap (λ (h : ℕ). may_follow h c.args.m.number c.args.b) c.high_of.ensures)
    ∙ (sym c.may_follow.ensures ∙ c.if-may_follow.true)
    in
    record { fits = omega (arith, (follow-is _ _ _ may).3, high-most c.args.m.part) }

pub digit-requires : goal.digit-requires
digit-requires c =
    let may : may_follow (high_of c.args.m.part) c.args.m.number c.args.b ≡ true =
    sym (ap (λ (h : ℕ). may_follow h c.args.m.number c.args.b) c.high_of.ensures)
    ∙ (sym c.may_follow.ensures ∙ c.if-may_follow.true)
    in
    (follow-is _ _ _ may).0

pub overflow_add-m : goal.overflow_add-m
overflow_add-m c =
    let may : may_follow (high_of c.args.m.part) c.args.m.number c.args.b ≡ true =
    sym (ap (λ (h : ℕ). may_follow h c.args.m.number c.args.b) c.high_of.ensures)
    ∙ (sym c.may_follow.ensures ∙ c.if-may_follow.true)
    in
    record { fits = omega (arith, (follow-is _ _ _ may).3, high-most c.args.m.part, c.digit.ensures) }

pub returns-then-may_follow : goal.returns-then-may_follow
unfolding after_digit
returns-then-may_follow c =
    let may : may_follow (high_of c.args.m.part) c.args.m.number c.args.b ≡ true =
    sym (ap (λ (h : ℕ). may_follow h c.args.m.number c.args.b) c.high_of.ensures)
    ∙ (sym c.may_follow.ensures ∙ c.if-may_follow.true)
    in
    rw may (c.so_far.ensures ∙ ap (λ (d : ℕ). so_far c.args.m in_number (c.args.m.number * 10 + d)) c.digit.ensures)

pub returns-then-m-ge-LAST_PART : goal.returns-then-m-ge-LAST_PART
unfolding after_digit
returns-then-m-ge-LAST_PART c =
    let not-may : may_follow (high_of c.args.m.part) c.args.m.number c.args.b ≡ false =
    sym (ap (λ (h : ℕ). may_follow h c.args.m.number c.args.b) c.high_of.ensures)
    ∙ (sym c.may_follow.ensures ∙ c.if-may_follow.false)
    in
    rw (not-may, le-leb _ _ c.if-m-ge-LAST_PART.true) c.stopped.ensures

pub returns-then-b-ne32 : goal.returns-then-b-ne32
unfolding after_digit
returns-then-b-ne32 c =
    let not-may : may_follow (high_of c.args.m.part) c.args.m.number c.args.b ≡ false =
    sym (ap (λ (h : ℕ). may_follow h c.args.m.number c.args.b) c.high_of.ensures)
    ∙ (sym c.may_follow.ensures ∙ c.if-may_follow.false)
    in
    rw (not-may, lt-leb _ _ c.if-m-ge-LAST_PART.false, ne_eqb _ _ c.if-b-ne32.true) c.stopped-then-b-ne32.ensures

pub returns : goal.returns
unfolding after_digit
returns c =
    let not-may : may_follow (high_of c.args.m.part) c.args.m.number c.args.b ≡ false =
    sym (ap (λ (h : ℕ). may_follow h c.args.m.number c.args.b) c.high_of.ensures)
    ∙ (sym c.may_follow.ensures ∙ c.if-may_follow.false)
    in
    rw (not-may, lt-leb _ _ c.if-m-ge-LAST_PART.false, eq-eqb _ _ c.if-b-ne32.false) c.next_part.ensures
