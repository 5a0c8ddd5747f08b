-- Logs of good lines, one after the other: their text, their figures, and what is read of them. Assumes nothing.
use mathlib.Core.Bool.{Bool, true, false}
use mathlib.Core.List.{List, [], ◌∷◌, ◌++◌, append_assoc, append-nil}
use mathlib.Core.Path.{◌≡◌, refl, sym, ap, subst, ◌∙◌}
use Prim.Native.Nat.{ℕ, zero, suc, ◌+◌, ◌≤◌, ◌<◌}
use native.Mathlib.Omega.{arith}
use lib.Dec.{eqb, leb}
use lib.ListN.{length, length-append}
use Rattle.laws.specs.Choice.{pick}
use Rattle.laws.proofs.Cases.{pick-cases}
use Rattle.forms.specs.Decimals.{may_begin, may_follow}
use Rattle.logged_calls.specs.declared.Call.{Call}
use Rattle.call_log.specs.declared.Month.{Month}
use Rattle.logged_calls.specs.Log.{GoodCall, AllGood, none, more, call_text, log_text, most_lines}
use Rattle.logged_calls.specs.Figures.{added}
use Rattle.call_log.specs.Fed.{Fed, fed_to, fed, fed_byte, line_start, stopped, so_far, next_part, high_of, name_byte, final_part, in_number, in_line, after_digit, first_digit, of_name, ends_line, ended, taken, call_of}
use Rattle.call_log.proofs.Feeds.{fed-append}
use Rattle.month_sums.proofs.Forward.{line-fed}

-- the figures of lines, after others
unfoldable pub figures_after : List ℕ → List Call → List ℕ
figures_after figures [] = figures
figures_after figures (c ∷ cs) = figures_after (added figures c) cs

-- one line more, at the end

module _ (c : Call) where
  pub text-more : (cs : List Call) → log_text (cs ++ (c ∷ [])) ≡ log_text cs ++ call_text c
  unfolding log_text
  text-more [] = append-nil (call_text c)
  text-more (d ∷ cs) = ap (λ (t : List ℕ). call_text d ++ t) (text-more cs) ∙ sym (append_assoc (call_text d) (log_text cs) (call_text c))

  pub figures-more : (f : List ℕ) (cs : List Call) → figures_after f (cs ++ (c ∷ [])) ≡ added (figures_after f cs) c
  unfolding figures_after
  figures-more f [] = refl
  figures-more f (d ∷ cs) = figures-more (added f d) cs

  pub good_more : {cs : List Call} → GoodCall c → AllGood cs → AllGood (cs ++ (c ∷ []))
  good_more g none = more g none
  good_more g (more h a) = more h (good_more g a)

  pub length_more : (cs : List Call) → length (cs ++ (c ∷ [])) ≡ length cs + 1
  length_more cs = length-append cs (c ∷ [])

-- good lines are read as such
pub log-fed : (cs : List Call) (line : ℕ) (figures : List ℕ) → AllGood cs → line + length cs ≤ 65536
    → fed (fed_to (line_start line) figures) (log_text cs) ≡ fed_to (line_start (line + length cs)) (figures_after figures cs)
unfolding fed log_text figures_after
log-fed [] line figures none h = let z : line ≡ line + 0 = omega arith in ap (λ (n : ℕ). fed_to (line_start n) figures) z
log-fed (c ∷ cs) line figures (more g a) h =
    let z : line + 1 + length cs ≡ line + suc (length cs) = omega arith in
    fed-append (fed_to (line_start line) figures) (call_text c) (log_text cs)
    ∙ (ap (λ (f : Fed). fed f (log_text cs)) (line-fed c line figures g (omega arith))
    ∙ (log-fed cs (line + 1) (added figures c) a (omega arith)
    ∙ ap (λ (n : ℕ). fed_to (line_start n) (figures_after (added figures c) cs)) z))

-- the number of the line never falls

in-line-same : (m : Month) (x : ℕ) → (in_line m x).line ≡ m.line
unfolding in_line after_digit first_digit of_name
in-line-same m x =
    pick-cases Same (leb in_number m.at)
    (λ _.
    pick-cases Same (may_follow (high_of m.part) m.number x) (λ _. refl)
    (λ _. pick-cases Same (leb final_part m.part) (λ _. refl) (λ _. pick-cases Same (eqb x 32) (λ _. refl) (λ _. refl))))
    (λ _.
    pick-cases Same (eqb (name_byte m.part m.at) 0)
    (λ _. pick-cases Same (may_begin 0 (high_of m.part) x) (λ _. refl) (λ _. refl))
    (λ _. pick-cases Same (eqb x (name_byte m.part m.at)) (λ _. refl) (λ _. refl)))
  where
    Same : Month → Type 0
    Same m' = m'.line ≡ m.line

byte-up : (f : Fed) (x : ℕ) → f.month.line ≤ (fed_byte f x).month.line
unfolding fed_byte ended
byte-up f x =
    pick-cases Up f.month.good
    (λ _.
    pick-cases Up (ends_line f.month x) (λ _. pick-cases Up (taken f.month) (λ _. omega arith) (λ _. omega arith))
    (λ _. omega (arith, in-line-same f.month x)))
    (λ _. omega arith)
  where
    Up : Fed → Type 0
    Up g = f.month.line ≤ g.month.line

pub fed-up : (f : Fed) (bytes : List ℕ) → f.month.line ≤ (fed f bytes).month.line
unfolding fed
fed-up f [] = omega arith
fed-up f (x ∷ bytes) = omega (arith, byte-up f x, fed-up (fed_byte f x) bytes)
