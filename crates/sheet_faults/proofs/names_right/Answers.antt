-- `sheet_faults::names_right`: the ten names, and the lines without one. Assumes nothing.
use Rattle.std.proofs.Common.{Bool, ◌+◌, ◌&&◌, List, [], ◌∷◌, ℕ, sym, ap, ◌∙◌, rules, tests, eqb}
use Rattle.std.proofs.lemmas.Iterator.{YieldsList-from_slice}
use Rattle.std.proofs.lemmas.Iterator.Search.{all_from_yields_List}
use Rattle.laws.specs.Choice.{pick}
use Rattle.line_names.specs.declared.Name.{Name}
use Rattle.line_names.specs.declared.Name.TheVariants.{Form, Number, Version, Alg, Use, Side, Place, Mcc, Mnc, Key}
use Rattle.line_names.specs.Names.{name_count, number_of, has_name}
use Rattle.sheet_faults.specs.Sheet.{lines_of, times_named, names_right_from, names_right}
use Rattle.sheet_faults.proofs.Walk.{names-all}
use Rattle.sheet_faults.proofs.names_right.Goals as goal

pub returns-then-all : goal.returns-then-all
unfolding names_right
returns-then-all c =
    let lines = lines_of c.args.text.now in
    let two = c.is_form_two-two.result in
    let names : List Name = Form ∷ Number ∷ Version ∷ Alg ∷ Use ∷ Side ∷ Place ∷ Mcc ∷ Mnc ∷ Key ∷ [] in
    let right = λ (k : Name). eqb (times_named (number_of k) lines) (pick (has_name two (number_of k)) 1 0) in
    let all = all_from_yields_List right _ _ c.all.result c.all.ensures.ran (YieldsList-from_slice names (cc)) (λ x b q k. search (rules, tests)) in
    ap (λ (n : ℕ). eqb n 0) c.times_named.ensures
    ∙ (λ i. (sym c.if-all.true ∙ all) i && eqb (times_named name_count lines) 0)
    ∙ names-all two lines
    ∙ ap (λ (t : Bool). names_right_from t lines 0 (name_count + 1)) c.is_form_two-two.ensures

pub returns-else-all : goal.returns-else-all
unfolding names_right
returns-else-all c =
    let lines = lines_of c.args.text.now in
    let two = c.is_form_two-two.result in
    let names : List Name = Form ∷ Number ∷ Version ∷ Alg ∷ Use ∷ Side ∷ Place ∷ Mcc ∷ Mnc ∷ Key ∷ [] in
    let right = λ (k : Name). eqb (times_named (number_of k) lines) (pick (has_name two (number_of k)) 1 0) in
    let all = all_from_yields_List right _ _ c.all.result c.all.ensures.ran (YieldsList-from_slice names (cc)) (λ x b q k. search (rules, tests)) in
    c.if-all.false
    ∙ (λ i. (sym c.if-all.false ∙ all) i && eqb (times_named name_count lines) 0)
    ∙ names-all two lines
    ∙ ap (λ (t : Bool). names_right_from t lines 0 (name_count + 1)) c.is_form_two-two.ensures
