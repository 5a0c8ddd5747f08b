-- What is read of a line says which bytes were read: each byte joins them, until the line ends or is wrong. Assumes nothing.
use mathlib.Core.Bool.{Bool, true, false, true≢false, false≢true, ◌&&◌}
use mathlib.Core.Logic.{◌⊎◌, inl, inr, ⊎_elim}
use mathlib.Core.List.{List, [], ◌∷◌, ◌++◌, append_assoc}
use mathlib.Core.Path.{◌≡◌, refl, sym, ap, subst, ◌∙◌}
use Prim.Native.Nat.{ℕ, zero, suc, ◌+◌, ◌-◌, ◌*◌, ◌≤◌, ◌<◌}
use native.Mathlib.Numerals.{add-one}
use native.Mathlib.Omega.{arith}
use lib.Dec.{eqb, ltb, leb}
use lib.ListN.{length, get_or, take, get_or-eq_default}
use lib.Seq.{take-suc, take_all}
use borrow.Author.Tests.{eqb-true, eqb-false, ltb-true, leb-true, leb-false, le-leb, lt-leb, ne_eqb}
use Rattle.laws.specs.Choice.{pick}
use Rattle.laws.proofs.Cases.{lt-or-le, and_left, and_right, pick-cases}
use Rattle.forms.specs.Decimals.{may_begin, may_follow}
use Rattle.forms.proofs.Decimals.{begin-is, follow-is}
use Rattle.writing.specs.Text.{ascii, lf, digits, item, line_text}
use Rattle.writing.proofs.Digits.{digits-one, digits_more}
use Rattle.logged_calls.specs.declared.Call.{Call}
use Rattle.call_log.specs.declared.Month.{Month}
use Rattle.logged_calls.specs.Log.{InForm, call_text, largest_number}
use Rattle.call_log.specs.Fed.{so_far, in_number, final_part, next_part, line_start, stopped, high_of, name_byte, part_name, in_line, after_digit, first_digit, of_name, ends_line, call_of}
use Rattle.call_log.proofs.Highs.{high-most}

-- the parts before part p of a line, by the four numbers before its own
unfoldable pub before : ℕ → ℕ → ℕ → ℕ → ℕ → List ℕ
before zero a b c d = []
before (suc zero) a b c d = part_name 0 ++ digits d
before (suc (suc zero)) a b c d = (part_name 0 ++ digits c) ++ (part_name 1 ++ digits d)
before (suc (suc (suc zero))) a b c d = ((part_name 0 ++ digits b) ++ (part_name 1 ++ digits c)) ++ (part_name 2 ++ digits d)
before (suc (suc (suc (suc p)))) a b c d = (((part_name 0 ++ digits a) ++ (part_name 1 ++ digits b)) ++ (part_name 2 ++ digits c)) ++ (part_name 3 ++ digits d)

-- so much of a part
unfoldable pub part_text : ℕ → ℕ → ℕ → List ℕ
part_text part place number = pick (leb in_number place) (part_name part ++ digits number) (take place (part_name part))

-- the bytes of a line that are read
unfoldable pub prefix : Month → List ℕ
prefix m = before m.part m.first m.second m.third m.fourth ++ part_text m.part m.at m.number

-- the numbers of a line that are read are in range
pub record Fine (m : Month) : Type 0 where
  pub part : m.part ≤ final_part
  pub number : m.number ≤ high_of m.part
  pub first : m.first ≤ largest_number
  pub second : m.second ≤ largest_number
  pub third : m.third ≤ largest_number
  pub fourth : m.fourth ≤ largest_number

-- parts, by where they are read

part_in : (part place number : ℕ) → 9 ≤ place → part_text part place number ≡ part_name part ++ digits number
unfolding part_text
part_in part place number h = rw (le-leb 9 place h)

part-name : (part place number : ℕ) → place < 9 → part_text part place number ≡ take place (part_name part)
unfolding part_text
part-name part place number h = rw (lt-leb 9 place h)

-- no name has nine bytes, and none has a byte 0

by_part : (P : List ℕ → Type 0) → P (ascii "slot=") → P (ascii " dir=") → P (ascii " bits=") → P (ascii " blocks=") → P (ascii " code=") → P []
    → (part : ℕ) → P (part_name part)
unfolding part_name
by_part P a b c d e f zero = a
by_part P a b c d e f (suc zero) = b
by_part P a b c d e f (suc (suc zero)) = c
by_part P a b c d e f (suc (suc (suc zero))) = d
by_part P a b c d e f (suc (suc (suc (suc zero)))) = e
by_part P a b c d e f (suc (suc (suc (suc (suc part))))) =
    let n = 5 + part in
    let z : suc (suc (suc (suc (suc part)))) ≡ n = omega arith in
    subst (λ (k : ℕ). P (part_name k)) (sym z)
    (rw (ne_eqb n 0 (λ z. omega arith), ne_eqb n 1 (λ z. omega arith), ne_eqb n 2 (λ z. omega arith), ne_eqb n 3 (λ z. omega arith), ne_eqb n 4 (λ z. omega arith)) f)

short : (part : ℕ) → length (part_name part) ≤ 8
short part = by_part (λ l. length l ≤ 8) (omega arith) (omega arith) (omega arith) (omega arith) (omega arith) (omega arith) part

abbrev positive : List ℕ → Bool
positive [] = true
positive (x ∷ l) = ltb 0 x && positive l

some : (l : List ℕ) (i : ℕ) → positive l ≡ true → i < length l → 0 < get_or l i 0
some [] i p h = absurd (omega arith)
some (x ∷ l) zero p h = ltb-true 0 x (and_left (ltb 0 x) (positive l) p)
some (x ∷ l) (suc i) p h = some l i (and_right (ltb 0 x) (positive l) p) (omega arith)

-- a name is over where there is no byte of it
over : (part place : ℕ) → name_byte part place ≡ 0 → length (part_name part) ≤ place
unfolding name_byte
over part place e =
    ⊎_elim (λ h. let z = some (part_name part) place (by_part (λ l. positive l ≡ true) refl refl refl refl refl refl part) h in absurd (omega arith)) (λ h. h)
    (lt-or-le place (length (part_name part)))

-- a byte of a name lies within it
in-name : (part place : ℕ) → (name_byte part place ≡ 0 → ⊥) → place < length (part_name part)
unfolding name_byte
in-name part place n = ⊎_elim (λ h. h) (λ h. absurd (n (get_or-eq_default (part_name part) 0 h))) (lt-or-le place (length (part_name part)))

-- what a byte makes of a line that goes on

-- the month m' that is still good has read x too
pub record Joined (m : Month) (x : ℕ) (m' : Month) : Type 0 where
  pub good : m'.good ≡ true
  pub fine : Fine m'
  pub text : prefix m' ≡ prefix m ++ (x ∷ [])
  pub line : m'.line ≡ m.line

-- good, and so much read; or wrong
unfoldable pub After : Month → ℕ → Month → Type 0
After m x m' = Joined m x m' ⊎ (m' ≡ stopped m.line)

-- the next part begins with a space

before-next : (p a b c d n : ℕ) → p < 4 → before (p + 1) b c d n ≡ before p a b c d ++ (part_name p ++ digits n)
unfolding before
before-next zero a b c d n h = refl
before-next (suc zero) a b c d n h = refl
before-next (suc (suc zero)) a b c d n h = refl
before-next (suc (suc (suc zero))) a b c d n h = refl
before-next (suc (suc (suc (suc p)))) a b c d n h = absurd (omega arith)

space-next : (p : ℕ) → p < 4 → part_text (p + 1) 1 0 ≡ 32 ∷ []
unfolding part_text part_name
space-next zero h = refl
space-next (suc zero) h = refl
space-next (suc (suc zero)) h = refl
space-next (suc (suc (suc zero))) h = refl
space-next (suc (suc (suc (suc p)))) h = absurd (omega arith)

module _ (m : Month) (x : ℕ) (fine : Fine m) where
  abbrev head : List ℕ
  head = before m.part m.first m.second m.third m.fourth

  -- the part's text gains x, and all else stays
  gains : (place number : ℕ) → number ≤ high_of m.part → part_text m.part place number ≡ part_text m.part m.at m.number ++ (x ∷ [])
      → Joined m x (so_far m place number)
  unfolding prefix
  gains place number h e =
      record {
        good = refl;
        fine =
            record { part = fine.part; number = h; first = fine.first; second = fine.second; third = fine.third; fourth = fine.fourth };
        text = ap (λ (t : List ℕ). head ++ t) e ∙ sym (append_assoc head (part_text m.part m.at m.number) (x ∷ []));
        line = refl;
      }

  name-joined : (eqb x (name_byte m.part m.at) ≡ true) → (name_byte m.part m.at ≡ 0 → ⊥) → m.at < 9 → Joined m x (so_far m (m.at + 1) 0)
  unfolding name_byte
  name-joined e n h =
      let y : x ≡ name_byte m.part m.at = eqb-true x _ e in
      let l = in-name m.part m.at n in
      let s = short m.part in
      gains (m.at + 1) 0 (omega arith)
      (part-name m.part (m.at + 1) 0 (omega arith)
      ∙ (ap (λ (i : ℕ). take i (part_name m.part)) (add-one m.at)
      ∙ (take-suc (part_name m.part) m.at 0 l
      ∙ (λ i. sym (part-name m.part m.at m.number h) i ++ (sym y i ∷ [])))))

  digit-joined : may_begin 0 (high_of m.part) x ≡ true → name_byte m.part m.at ≡ 0 → m.at < 9 → Joined m x (so_far m in_number (x - 48))
  digit-joined e n h =
      let f = begin-is 0 (high_of m.part) x e in
      let z : 48 + (x - 48) ≡ x = omega arith in
      gains in_number (x - 48) f.3
      (part_in m.part in_number (x - 48) (omega arith)
      ∙ ((λ i. sym (take_all m.at (part_name m.part) (over m.part m.at n)) i ++ digits-one (x - 48) (omega arith) i)
      ∙ (λ i. sym (part-name m.part m.at m.number h) i ++ (z i ∷ []))))

  follow-joined : may_follow (high_of m.part) m.number x ≡ true → 9 ≤ m.at → Joined m x (so_far m in_number (m.number * 10 + (x - 48)))
  follow-joined e h =
      let f = follow-is (high_of m.part) m.number x e in
      let z : 48 + (x - 48) ≡ x = omega arith in
      gains in_number (m.number * 10 + (x - 48)) f.3
      (part_in m.part in_number (m.number * 10 + (x - 48)) (omega arith)
      ∙ (ap (λ (t : List ℕ). part_name m.part ++ t) (digits_more m.number (x - 48) f.2 (omega arith))
      ∙ (sym (append_assoc (part_name m.part) (digits m.number) ((48 + (x - 48)) ∷ []))
      ∙ (λ i. sym (part_in m.part m.at m.number h) i ++ (z i ∷ [])))))

  next-joined : m.part < 4 → x ≡ 32 → 9 ≤ m.at → Joined m x (next_part m (m.part + 1))
  unfolding prefix
  next-joined l e h =
      record {
        good = refl;
        fine =
            record {
              part = omega arith;
              number = omega arith;
              first = fine.second;
              second = fine.third;
              third = fine.fourth;
              fourth = omega (arith, fine.number, high-most m.part);
            };
        text =
            (λ i. before-next m.part m.first m.second m.third m.fourth m.number l i ++ space-next m.part l i)
            ∙ (λ i. (head ++ sym (part_in m.part m.at m.number h) i) ++ (sym e i ∷ []));
        line = refl;
      }

  -- a byte that does not end the line joins it, or the line is wrong
  pub in-line : After m x (in_line m x)
  unfolding After in_line after_digit first_digit of_name
  in-line =
      pick-cases (After m x) (leb in_number m.at)
      (λ h.
      pick-cases (After m x) (may_follow (high_of m.part) m.number x) (λ e. inl (follow-joined e (leb-true 9 m.at h)))
      (λ _.
      pick-cases (After m x) (leb final_part m.part) (λ _. inr refl)
      (λ l.
      pick-cases (After m x) (eqb x 32) (λ e. inl (next-joined (leb-false 4 m.part l) (eqb-true x 32 e) (leb-true 9 m.at h)))
      (λ _. inr refl))))
      (λ h.
      pick-cases (After m x) (eqb (name_byte m.part m.at) 0)
      (λ n.
      pick-cases (After m x) (may_begin 0 (high_of m.part) x)
      (λ e. inl (digit-joined e (eqb-true (name_byte m.part m.at) 0 n) (leb-false 9 m.at h))) (λ _. inr refl))
      (λ n.
      pick-cases (After m x) (eqb x (name_byte m.part m.at))
      (λ e. inl (name-joined e (eqb-false (name_byte m.part m.at) 0 n) (leb-false 9 m.at h))) (λ _. inr refl)))

-- a line that ends is its text

regroup : (p q r s t u : List ℕ) → ((((p ++ q) ++ r) ++ s) ++ t) ++ u ≡ p ++ (q ++ (r ++ (s ++ (t ++ u))))
regroup p q r s t u = simp append_assoc

joined : (a b c d n : ℕ)
    → (before 4 a b c d ++ (part_name 4 ++ digits n)) ++ (lf ∷ []) ≡ call_text (record { slot = a; direction = b; bits = c; blocks = d; code = n })
unfolding before part_name call_text
joined a b c d n =
    let p = part_name 0 ++ digits a in
    let q = part_name 1 ++ digits b in
    let r = part_name 2 ++ digits c in
    let s = part_name 3 ++ digits d in
    regroup p q r s (part_name 4 ++ digits n) (lf ∷ [])
    ∙ ap (λ (t : List ℕ). p ++ (q ++ (r ++ (s ++ t)))) (append_assoc (part_name 4) (digits n) (lf ∷ []))

pub ended-text : (m : Month) → m.part ≡ 4 → 9 ≤ m.at → prefix m ++ (lf ∷ []) ≡ call_text (call_of m)
unfolding prefix
ended-text m e h =
    ap (λ (t : List ℕ). (before m.part m.first m.second m.third m.fourth ++ t) ++ (lf ∷ [])) (part_in m.part m.at m.number h)
    ∙ (ap (λ (p : ℕ). (before p m.first m.second m.third m.fourth ++ (part_name p ++ digits m.number)) ++ (lf ∷ [])) e
    ∙ joined m.first m.second m.third m.fourth m.number)

pub start-text : (line : ℕ) → prefix (line_start line) ≡ []
unfolding prefix before part_text
start-text line = refl

-- the numbers of a line that ends
pub ended-form : (m : Month) → Fine m → m.part ≡ 4 → InForm (call_of m)
unfolding high_of
ended-form m f e =
    record { slot = f.first; direction = f.second; bits = f.third; blocks = f.fourth; code = subst (λ (p : ℕ). m.number ≤ high_of p) e f.number }
