-- What is read of any log: some good lines, and then what is no good line or not yet one. Assumes nothing.
use mathlib.Core.Bool.{Bool, true, false, true≢false, ◌&&◌}
use mathlib.Core.Logic.{◌⊎◌, inl, inr, ⊎_elim}
use mathlib.Core.List.{List, [], ◌∷◌, ◌++◌, append_assoc, append-nil}
use mathlib.Core.Path.{◌≡◌, refl, sym, ap, subst, ◌∙◌}
use Prim.Native.Nat.{ℕ, zero, suc, ◌+◌, ◌≤◌, ◌<◌}
use native.Mathlib.Omega.{arith}
use lib.Dec.{eqb, leb}
use lib.ListN.{length}
use borrow.Author.Tests.{eqb-true, leb-true}
use Rattle.laws.proofs.Cases.{and_left, and_right}
use Rattle.writing.specs.Text.{lf}
use Rattle.logged_calls.specs.declared.Call.{Call}
use Rattle.call_log.specs.declared.Month.{Month}
use Rattle.logged_calls.specs.Log.{GoodCall, AllGood, none, call_text, log_text, is_sound, most_lines}
use Rattle.logged_calls.specs.Figures.{added}
use Rattle.call_log.specs.Fed.{Fed, fed_to, fed, fed_byte, line_start, stopped, final_part, in_number, in_line, ends_line, ended, taken, call_of}
use Rattle.call_log.proofs.Feeds.{fed-append}
use Rattle.call_log.proofs.Bytes.{byte-wrong, byte-ends, byte-in, picked}
use Rattle.month_sums.proofs.Prefix.{prefix, Fine, Joined, After, in-line, ended-text, ended-form, start-text}
use Rattle.month_sums.proofs.Logs.{figures_after, text-more, figures-more, good_more, length_more}

-- all is good, and the rest is what is read of a line
pub record Going (m : Month) (rest : List ℕ) : Type 0 where
  pub good : m.good ≡ true
  pub fine : Fine m
  pub text : rest ≡ prefix m

-- a line was wrong
pub record Wrong (m : Month) (rest : List ℕ) : Type 0 where
  pub bad : m.good ≡ false
  pub more : rest ≡ [] → ⊥

pub record Read (start : List ℕ) (f : Fed) (log : List ℕ) : Type 0 where
  pub calls : List Call
  pub rest : List ℕ
  pub good : AllGood calls
  pub few : length calls ≤ most_lines
  pub line : f.month.line ≡ length calls + 1
  pub figures : f.figures ≡ figures_after start calls
  pub is : log ≡ log_text calls ++ rest
  pub state : Going f.month rest ⊎ Wrong f.month rest

some : (l : List ℕ) (x : ℕ) → l ++ (x ∷ []) ≡ [] → ⊥
some [] x e = let z : ◌≡◌ {A = ℕ} 0 1 = cc in omega arith
some (y ∷ l) x e = let z : ◌≡◌ {A = ℕ} 0 1 = cc in omega arith

-- a line that ends

module _ {start : List ℕ} (f : Fed) (log : List ℕ) (r : Read start f log) (g : Going f.month r.rest) (x : ℕ) where
  -- the log so far, and x
  longer : log ++ (x ∷ []) ≡ log_text r.calls ++ (r.rest ++ (x ∷ []))
  longer = ap (λ (l : List ℕ). l ++ (x ∷ [])) r.is ∙ append_assoc (log_text r.calls) r.rest (x ∷ [])

  wrong-now : {f' : Fed} → f' ≡ fed_to (stopped f.month.line) f.figures → Read start f' (log ++ (x ∷ []))
  wrong-now {f'} e =
      subst (λ (h : Fed). Read start h (log ++ (x ∷ []))) (sym e)
      (record {
        calls = r.calls;
        rest = r.rest ++ (x ∷ []);
        good = r.good;
        few = r.few;
        line = r.line;
        figures = r.figures;
        is = longer;
        state = inr (record { bad = refl; more = some r.rest x });
      })

  going-now : {f' : Fed} (m' : Month) → f' ≡ fed_to m' f.figures → Joined f.month x m' → Read start f' (log ++ (x ∷ []))
  going-now {f'} m' e j =
      subst (λ (h : Fed). Read start h (log ++ (x ∷ []))) (sym e)
      (record {
        calls = r.calls;
        rest = r.rest ++ (x ∷ []);
        good = r.good;
        few = r.few;
        line = j.line ∙ r.line;
        figures = r.figures;
        is = longer;
        state = inl (record { good = j.good; fine = j.fine; text = ap (λ (l : List ℕ). l ++ (x ∷ [])) g.text ∙ sym j.text });
      })

  taken-now : {f' : Fed} → f' ≡ fed_to (line_start (f.month.line + 1)) (added f.figures (call_of f.month))
      → x ≡ lf → f.month.part ≡ 4 → 9 ≤ f.month.at → f.month.line ≤ most_lines → is_sound (call_of f.month) ≡ true
      → Read start f' (log ++ (x ∷ []))
  taken-now {f'} e l p a n s =
      let c = call_of f.month in
      subst (λ (h : Fed). Read start h (log ++ (x ∷ []))) (sym e)
      (record {
        calls = r.calls ++ (c ∷ []);
        rest = [];
        good = good_more c (record { form = ended-form f.month g.fine p; sound = s }) r.good;
        few = omega (arith, length_more c r.calls, r.line);
        line = omega (arith, length_more c r.calls, r.line);
        figures = ap (λ (k : List ℕ). added k c) r.figures ∙ sym (figures-more c start r.calls);
        is =
            longer
            ∙ ((λ i. log_text r.calls ++ (g.text i ++ (l i ∷ [])))
            ∙ (ap (λ (t : List ℕ). log_text r.calls ++ t) (ended-text f.month p a)
            ∙ (sym (text-more c r.calls) ∙ sym (append-nil (log_text (r.calls ++ (c ∷ [])))))));
        state = inl (record { good = refl; fine = fresh; text = sym (start-text (f.month.line + 1)) });
      })
    where
      fresh : Fine (line_start (f.month.line + 1))
      fresh = record { part = omega arith; number = omega arith; first = omega arith; second = omega arith; third = omega arith; fourth = omega arith }

  ends_now : ends_line f.month x ≡ true → Read start (fed_byte f x) (log ++ (x ∷ []))
  unfolding ends_line ended taken
  ends_now e =
      let l = eqb-true x lf (and_left (eqb x lf) _ e) in
      let e1 = and_right (eqb x lf) _ e in
      let p = eqb-true f.month.part final_part (and_left (eqb f.month.part final_part) _ e1) in
      let a = leb-true in_number f.month.at (and_right (eqb f.month.part final_part) _ e1) in
      go l p a (leb f.month.line most_lines && is_sound (call_of f.month)) refl
    where
      go : x ≡ lf → f.month.part ≡ 4 → 9 ≤ f.month.at → (t : Bool) → leb f.month.line most_lines && is_sound (call_of f.month) ≡ t → Read start (fed_byte f x) (log ++ (x ∷ []))
      go l p a true q =
          taken-now (byte-ends f x g.good e ∙ picked (fed_to (line_start (f.month.line + 1)) (added f.figures (call_of f.month))) (fed_to (stopped f.month.line) f.figures) true q) l p a
          (leb-true f.month.line most_lines (and_left (leb f.month.line most_lines) _ q)) (and_right (leb f.month.line most_lines) _ q)
      go l p a false q =
          wrong-now (byte-ends f x g.good e ∙ picked (fed_to (line_start (f.month.line + 1)) (added f.figures (call_of f.month))) (fed_to (stopped f.month.line) f.figures) false q)

  on-now : ends_line f.month x ≡ false → Read start (fed_byte f x) (log ++ (x ∷ []))
  unfolding After
  on-now e = ⊎_elim (λ j. going-now (in_line f.month x) (byte-in f x g.good e) j) (λ s. wrong-now (byte-in f x g.good e ∙ ap (λ (m : Month). fed_to m f.figures) s)) (in-line f.month x g.fine)

-- one byte more
next : {start : List ℕ} (f : Fed) (log : List ℕ) (x : ℕ) → Read start f log → Read start (fed_byte f x) (log ++ (x ∷ []))
next {start} f log x r = ⊎_elim going wrong r.state
  where
    going : Going f.month r.rest → Read start (fed_byte f x) (log ++ (x ∷ []))
    going g = go (ends_line f.month x) refl
      where
        go : (t : Bool) → ends_line f.month x ≡ t → Read start (fed_byte f x) (log ++ (x ∷ []))
        go true e = ends_now f log r g x e
        go false e = on-now f log r g x e

    wrong : Wrong f.month r.rest → Read start (fed_byte f x) (log ++ (x ∷ []))
    wrong w =
        subst (λ (h : Fed). Read start h (log ++ (x ∷ []))) (sym (byte-wrong f x w.bad))
        (record {
          calls = r.calls;
          rest = r.rest ++ (x ∷ []);
          good = r.good;
          few = r.few;
          line = r.line;
          figures = r.figures;
          is = ap (λ (l : List ℕ). l ++ (x ∷ [])) r.is ∙ append_assoc (log_text r.calls) r.rest (x ∷ []);
          state = inr (record { bad = w.bad; more = some r.rest x });
        })

-- all bytes
all_read : {start : List ℕ} (f : Fed) (log bytes : List ℕ) → Read start f log → Read start (fed f bytes) (log ++ bytes)
unfolding fed
all_read {start} f log [] r = subst (Read start f) (sym (append-nil log)) r
all_read {start} f log (x ∷ bytes) r =
    subst (Read start (fed (fed_byte f x) bytes)) (append_assoc log (x ∷ []) bytes) (all_read (fed_byte f x) (log ++ (x ∷ [])) bytes (next f log x r))

-- a whole log, from its first byte
pub read : (start log : List ℕ) → Read start (fed (fed_to (line_start 1) start) log) log
unfolding log_text figures_after
read start log =
    all_read (fed_to (line_start 1) start) [] log
    (record {
      calls = [];
      rest = [];
      good = none;
      few = omega arith;
      line = refl;
      figures = refl;
      is = refl;
      state =
          inl
          (record {
            good = refl;
            fine = record { part = omega arith; number = omega arith; first = omega arith; second = omega arith; third = omega arith; fourth = omega arith };
            text = sym (start-text 1);
          });
    })
