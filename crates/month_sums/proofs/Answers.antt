-- What is printed of every log: the sheet of its lines where all are good, or else the first line that is not. Assumes nothing.
use mathlib.Core.Bool.{Bool, true, false, true≢false, ◌&&◌}
use mathlib.Core.Logic.{◌⊎◌, inl, inr, ⊎_elim}
use mathlib.Core.List.{List, [], ◌∷◌, ◌++◌, append_assoc, append-nil}
use mathlib.Core.Path.{◌≡◌, refl, sym, ap, ◌∙◌}
use Prim.Native.Nat.{ℕ, zero, suc, ◌+◌, ◌<◌}
use native.Mathlib.Omega.{arith}
use lib.Dec.{eqb, leb}
use lib.ListN.{length}
use borrow.Author.Tests.{eqb-true}
use Rattle.laws.specs.Choice.{pick}
use Rattle.laws.proofs.Cases.{and_left, and_right, pick-cases}
use Rattle.logged_calls.specs.declared.Call.{Call}
use Rattle.call_log.specs.declared.Month.{Month}
use Rattle.logged_calls.specs.Log.{AllGood, call_text, log_text, most_lines}
use Rattle.call_log.specs.Fed.{Fed, fed_to, fed, line_start, wrong_line, in_number, part_name}
use Rattle.call_log.proofs.Feeds.{fed-append}
use Rattle.month_sheet.specs.Sheet.{sheet_text, sums_in, wrong_line_text, printed_text, whole_log}
use Rattle.month_sheet.proofs.Printed.{printed-sheet, printed-refused}
use Rattle.month_sums.specs.Answer.{NoGoodLine, GoodLog, BadLog}
use Rattle.month_sums.proofs.Prefix.{prefix, before, part_text}
use Rattle.month_sums.proofs.Logs.{figures_after, text-more, good_more, length_more, log-fed, fed-up}
use Rattle.month_sums.proofs.First.{Read, Going, Wrong, read}
use Rattle.month_sums.proofs.Figures.{zeros, sheet-is}

-- where a good line comes next, it is read: so the line that is wrong is the first
first-wrong : (log rest : List ℕ) (calls : List Call) → AllGood calls → log ≡ log_text calls ++ rest
    → (fed (fed_to (line_start 1) zeros) log).month.line ≡ length calls + 1 → length calls < most_lines → NoGoodLine rest
first-wrong log rest calls good is line few =
    record {
      none = λ c later g e.
          let more : log ≡ log_text (calls ++ (c ∷ [])) ++ later =
          is ∙ (ap (λ (t : List ℕ). log_text calls ++ t) e
          ∙ (sym (append_assoc (log_text calls) (call_text c) later) ∙ ap (λ (t : List ℕ). t ++ later) (sym (text-more c calls)))) in
          let read : fed (fed_to (line_start 1) zeros) log ≡ fed (fed_to (line_start (1 + length (calls ++ (c ∷ [])))) (figures_after zeros (calls ++ (c ∷ [])))) later =
          ap (fed (fed_to (line_start 1) zeros)) more
          ∙ (fed-append (fed_to (line_start 1) zeros) (log_text (calls ++ (c ∷ []))) later
          ∙ ap (λ (f : Fed). fed f later) (log-fed (calls ++ (c ∷ [])) 1 zeros (good_more c g good) (omega (arith, length_more c calls)))) in
          let up = fed-up (fed_to (line_start (1 + length (calls ++ (c ∷ [])))) (figures_after zeros (calls ++ (c ∷ [])))) later in
          omega (arith, up, ap (λ (f : Fed). f.month.line) read, length_more c calls);
    }

-- a line of which something is read has some bytes

cons-some : {x : ℕ} {l : List ℕ} → x ∷ l ≡ [] → ⊥
cons-some e = let z : ◌≡◌ {A = ℕ} 0 1 = cc in omega arith

part-some : (a n : ℕ) → part_text 0 (suc a) n ≡ [] → ⊥
unfolding part_text part_name
part-some a n = pick-cases (λ l. l ≡ [] → ⊥) (leb in_number (suc a)) (λ _ e. cons-some e) (λ _ e. cons-some e)

prefix-some : (m : Month) → (eqb m.part 0 && eqb m.at 0 ≡ false) → prefix m ≡ [] → ⊥
unfolding prefix before part_name
prefix-some m e = go m.part m.at e
  where
    go : (p a : ℕ) → (eqb p 0 && eqb a 0 ≡ false) → before p m.first m.second m.third m.fourth ++ part_text p a m.number ≡ [] → ⊥
    go zero zero e h = true≢false e
    go zero (suc a) e h = part-some a m.number h
    go (suc zero) a e h = cons-some h
    go (suc (suc zero)) a e h = cons-some h
    go (suc (suc (suc zero))) a e h = cons-some h
    go (suc (suc (suc (suc p)))) a e h = cons-some h

-- the line that is wrong, by what is read

module _ (m : Month) where
  wrong-of : (t u : Bool) → m.good ≡ t → eqb m.part 0 && eqb m.at 0 ≡ u → wrong_line m ≡ pick (t && u) 0 m.line
  unfolding wrong_line
  wrong-of t u g e = λ i. pick (g i && e i) 0 m.line

  fresh-text : eqb m.part 0 && eqb m.at 0 ≡ true → prefix m ≡ []
  unfolding prefix before part_text
  fresh-text e =
      let p = eqb-true m.part 0 (and_left (eqb m.part 0) _ e) in
      let a = eqb-true m.at 0 (and_right (eqb m.part 0) _ e) in
      λ i. before (p i) m.first m.second m.third m.fourth ++ part_text (p i) (a i) m.number

-- the two answers

module _ (log : List ℕ) where
  abbrev f : Fed
  f = fed (fed_to (line_start 1) zeros) log

  bad : (r : Read zeros f log) → (r.rest ≡ [] → ⊥) → wrong_line f.month ≡ f.month.line → BadLog log (printed_text (whole_log log))
  unfolding whole_log zeros
  bad r some w =
      let l : wrong_line f.month ≡ length r.calls + 1 = w ∙ r.line in
      record {
        calls = r.calls;
        rest = r.rest;
        is = r.is;
        good = r.good;
        few = r.few;
        more = some;
        first = first-wrong log r.rest r.calls r.good r.is r.line;
        line = printed-refused f (λ e. omega (arith, l, e)) ∙ ap wrong_line_text l;
      }

  whole : (r : Read zeros f log) → r.rest ≡ [] → wrong_line f.month ≡ 0 → GoodLog log (printed_text (whole_log log))
  unfolding whole_log zeros
  whole r e w =
      record {
        calls = r.calls;
        is = r.is ∙ (ap (λ (t : List ℕ). log_text r.calls ++ t) e ∙ append-nil (log_text r.calls));
        good = r.good;
        few = r.few;
        sheet = printed-sheet f w ∙ (ap (λ (k : List ℕ). sheet_text (sums_in k)) r.figures ∙ sheet-is r.calls r.good r.few);
      }

  -- for every log, what is printed is the sheet of its good lines, or the first line that is not good
  pub answered : GoodLog log (printed_text (whole_log log)) ⊎ BadLog log (printed_text (whole_log log))
  answered = ⊎_elim going (λ w. inr (bad r w.more (wrong w (eqb f.month.part 0 && eqb f.month.at 0) refl))) r.state
    where
      r : Read zeros f log
      r = read zeros log

      wrong : Wrong f.month (read zeros log).rest → (u : Bool) → eqb f.month.part 0 && eqb f.month.at 0 ≡ u → wrong_line f.month ≡ f.month.line
      wrong w u e = wrong-of f.month false u w.bad e

      going : Going f.month (read zeros log).rest → GoodLog log (printed_text (whole_log log)) ⊎ BadLog log (printed_text (whole_log log))
      going g = go (eqb f.month.part 0 && eqb f.month.at 0) refl
        where
          go : (t : Bool) → eqb f.month.part 0 && eqb f.month.at 0 ≡ t → GoodLog log (printed_text (whole_log log)) ⊎ BadLog log (printed_text (whole_log log))
          go true e = inl (whole (read zeros log) (g.text ∙ fresh-text f.month e) (wrong-of f.month true true g.good e))
          go false e =
              inr (bad (read zeros log) (λ z. prefix-some f.month e (sym g.text ∙ z)) (wrong-of f.month true false g.good e))
