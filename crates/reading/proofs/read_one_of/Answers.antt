-- `reading::read_one_of`: each word from the same place, and LF after the one that came furthest. Assumes nothing.
use mathlib.Core.Path.{◌≡◌, sym, ap, ◌∙◌}
use borrow.Author.Rules.{rules}
use lib.ListN.{length}
use Rattle.forms.specs.Words.{one_of}
use Rattle.reading.specs.Reading.{reading_of, answer, onward, further}
use Rattle.reading.proofs.Steps.{on_then, passed-on}
use Rattle.reading.proofs.Choices.{furthest}
use Rattle.reading.proofs.read_one_of.Goals as goal

pub returns-in_err-word : goal.returns-in_err-word
unfolding one_of onward
returns-in_err-word c =
    let first-size : length c.args.a ≡ 4 = search rules in
    let second-size : length c.args.b ≡ 4 = search rules in
    let third-size : length c.args.c ≡ 4 = search rules in
    let rest = c.further.ensures ∙ (λ i. further (c.read_word-two.ensures i) (c.read_word-three.ensures i)) in
    let word = c.in_err-word.ensures ∙ (λ i. further (c.read_word-one.ensures i) (rest i)) in
    passed-on _ c.from_residual.ensures.1
    ∙ sym (ap answer (on_then (reading_of c.args.before) _ _ c.args.s.now
    (word ∙ sym (furthest _ _ _ _ (second-size ∙ sym first-size) (third-size ∙ sym first-size) (reading_of c.args.before) c.args.s.now))))

pub returns : goal.returns
unfolding one_of
returns c =
    let first-size : length c.args.a ≡ 4 = search rules in
    let second-size : length c.args.b ≡ 4 = search rules in
    let third-size : length c.args.c ≡ 4 = search rules in
    let rest = c.further.ensures ∙ (λ i. further (c.read_word-two.ensures i) (c.read_word-three.ensures i)) in
    let word = c.in_ok-word.ensures ∙ (λ i. further (c.read_word-one.ensures i) (rest i)) in
    c.read_word.ensures
    ∙ sym (ap answer (on_then (reading_of c.args.before) _ _ c.args.s.now
    (word ∙ sym (furthest _ _ _ _ (second-size ∙ sym first-size) (third-size ∙ sym first-size) (reading_of c.args.before) c.args.s.now))))
