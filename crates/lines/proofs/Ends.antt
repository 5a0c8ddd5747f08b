-- Counting lines and columns: line and column name a place. Assumes nothing.
use mathlib.Core.Path.{◌≡◌, refl, sym, ap, subst, ◌∙◌}
use mathlib.Core.Logic.{⊎_elim}
use mathlib.Core.Bool.{Bool, true, false, not, cond}
use mathlib.Core.List.{List, [], ◌∷◌, ◌++◌, append_assoc, tail-eq_of_cons-eq, reverse, reverse-cons, reverse-reverse}
use Prim.Native.Nat.{ℕ, zero, suc, ◌+◌, ◌-◌, ◌≤◌, ◌/◌, ◌%◌}
use Prim.Native.String.{String}
use native.Mathlib.Nat.{zero-add}
use native.Mathlib.Omega.{arith}
use lib.Dec.{eqb, ltb}
use lib.ListN.{length, take, length-append}
use Rattle.std.specs.List.{filter, prefix_len}
use Rattle.std.proofs.lemmas.List.Folds.{length-prefix_len}
use borrow.Author.Tests.{eqb-true, ne_eqb}
use Rattle.laws.specs.Choice.{pick}
use Rattle.laws.proofs.Cases.{lt-or-le, pick-cases}
use Rattle.writing.specs.Text.{ascii, lf, digits, hex_digit, hex_text, line_text}
use Rattle.writing.proofs.Digits.{digits-one, digits-ten}
use Rattle.lines.specs.Line.{line_ends, line_of, column_after, column_of, through_ends, place_at}

pub ends-append : (s t : List ℕ) → line_ends (s ++ t) ≡ line_ends s + line_ends t
unfolding line_ends
ends-append [] t = omega arith
ends-append (b ∷ s) t = let e = ends-append s t in omega arith

-- counted by a filter
pub ends-filter : (s : List ℕ) → length (filter (λ b. eqb b lf) s) ≡ line_ends s
unfolding line_ends
ends-filter [] = refl
ends-filter (b ∷ s) = go (eqb b lf) (ends-filter s)
  where
    go : (t : Bool) → length (filter (λ b. eqb b lf) s) ≡ line_ends s → length (cond t (b ∷ filter (λ b. eqb b lf) s) (filter (λ b. eqb b lf) s)) ≡ pick t 1 0 + line_ends s
    go true e = omega (arith, e)
    go false e = omega (arith, e)

-- columns

column-append : (c : ℕ) (s t : List ℕ) → column_after c (s ++ t) ≡ column_after (column_after c s) t
unfolding column_after
column-append c [] t = refl
column-append c (b ∷ s) t = column-append (pick (eqb b lf) 1 (c + 1)) s t

column-some : (c : ℕ) (s : List ℕ) → 1 ≤ c → 1 ≤ column_after c s
unfolding column_after
column-some c [] h = h
column-some c (b ∷ s) h =
    column-some (pick (eqb b lf) 1 (c + 1)) s (pick-cases (λ (n : ℕ). 1 ≤ n) (eqb b lf) (λ _. omega arith) (λ _. omega arith))

-- counted back to the last line end
column-back : (r : List ℕ) → 1 + prefix_len (λ b. not (eqb b lf)) r ≡ column_after 1 (reverse r)
unfolding column_after
column-back [] = refl
column-back (b ∷ r) = go (eqb b lf) (column-back r) ∙ sym (ap (column_after 1) (reverse-cons b r) ∙ column-append 1 (reverse r) (b ∷ []))
  where
    go : (t : Bool) → 1 + prefix_len (λ b. not (eqb b lf)) r ≡ column_after 1 (reverse r)
        → 1 + cond (not t) (1 + prefix_len (λ b. not (eqb b lf)) r) 0 ≡ pick t 1 (column_after 1 (reverse r) + 1)
    go true e = refl
    go false e = omega (arith, e)

pub column-counted : (s : List ℕ) → 1 + length (take (prefix_len (λ b. not (eqb b lf)) (reverse s)) (reverse s)) ≡ column_after 1 s
column-counted s = ap (1 +◌) (length-prefix_len _ (reverse s)) ∙ column-back (reverse s) ∙ ap (column_after 1) (reverse-reverse s)

-- line and column name a place

no-ends : (s : List ℕ) → through_ends 0 s ≡ 0
unfolding through_ends
no-ends [] = refl
no-ends (b ∷ s) = refl

one-or-one : (t : Bool) → ◌≡◌ {A = ℕ} (pick t 1 1) 1
one-or-one true = refl
one-or-one false = refl

-- a text whose first byte stands at the column c: what is read of it after its last line end, and what before
named : (s : List ℕ) (p c : ℕ) → p ≤ length s
    → through_ends (line_ends (take p s)) s + column_after c (take p s) ≡ p + pick (eqb (line_ends (take p s)) 0) c 1
unfolding through_ends column_after line_ends
named [] zero c h = refl
named (b ∷ s) zero c h = refl
named [] (suc p) c h = absurd (omega arith)
named (b ∷ s) (suc p) c h = go (eqb b lf) (line_ends (take p s)) (named s p 1 (omega arith)) (named s p (c + 1) (omega arith))
  where
    inside : (t : Bool) (e : ℕ) → eqb e 0 ≡ t → through_ends e s + column_after (c + 1) (take p s) ≡ p + pick t (c + 1) 1
        → pick t 0 (suc (through_ends e s)) + column_after (c + 1) (take p s) ≡ suc p + pick t c 1
    inside true e z q = omega (arith, q, ap (λ (n : ℕ). through_ends n s) (eqb-true e 0 z) ∙ no-ends s)
    inside false e z q = omega (arith, q)

    go : (t : Bool) (e : ℕ)
        → through_ends e s + column_after 1 (take p s) ≡ p + pick (eqb e 0) 1 1
        → through_ends e s + column_after (c + 1) (take p s) ≡ p + pick (eqb e 0) (c + 1) 1
        → pick (eqb (pick t 1 0 + e) 0) 0 (suc (through_ends (pick t (pick t 1 0 + e - 1) (pick t 1 0 + e)) s)) + column_after (pick t 1 (c + 1)) (take p s)
        ≡ suc p + pick (eqb (pick t 1 0 + e) 0) c 1
    go true e r q =
        let z : 1 + e - 1 ≡ e = omega arith in
        rw (ne_eqb (1 + e) 0 (λ z. omega arith))
        (ap (λ (n : ℕ). suc (through_ends n s) + column_after 1 (take p s)) z ∙ omega (arith, r ∙ ap (p +◌) (one-or-one (eqb e 0))))
    go false e r q =
        let z : 0 + e ≡ e = omega arith in
        subst (λ (n : ℕ). pick (eqb n 0) 0 (suc (through_ends n s)) + column_after (c + 1) (take p s) ≡ suc p + pick (eqb n 0) c 1) (sym z)
        (inside (eqb e 0) e refl q)

pub place-named : (s : List ℕ) (p : ℕ) → p ≤ length s → place_at s (line_of s p) (column_of s p) ≡ p
unfolding place_at line_of column_of
place-named s p h =
    let z : 1 + line_ends (take p s) - 1 ≡ line_ends (take p s) = omega arith in
    ap (λ (n : ℕ). through_ends n s + (column_after 1 (take p s) - 1)) z
    ∙ omega (arith, named s p 1 h ∙ ap (p +◌) (one-or-one (eqb (line_ends (take p s)) 0)), column-some 1 (take p s) (omega arith))

pub one-named : (s : List ℕ) (p q : ℕ) → p ≤ length s → q ≤ length s → line_of s p ≡ line_of s q → column_of s p ≡ column_of s q → p ≡ q
one-named s p q h g e f = sym (place-named s p h) ∙ (λ i. place_at s (e i) (f i)) ∙ place-named s q g

-- no digit is a line end

other_byte : (b : ℕ) (s : List ℕ) → 48 ≤ b → line_ends (b ∷ s) ≡ line_ends s
unfolding line_ends
other_byte b s h = rw (ne_eqb b lf (λ e. let z : b ≡ 10 = e in omega arith)) (zero-add (line_ends s))

one_byte : (b : ℕ) → 48 ≤ b → line_ends (b ∷ []) ≡ 0
unfolding line_ends
one_byte b h = other_byte b [] h

no-end-digits : (k n : ℕ) → n ≤ k → line_ends (digits n) ≡ 0
no-end-digits zero n h = rw (digits-one n (omega arith)) (one_byte (48 + n) (omega arith))
no-end-digits (suc k) n h =
    ⊎_elim (λ l. rw (digits-one n l) (one_byte (48 + n) (omega arith)))
    (λ l.
    rw (digits-ten n l)
    (ends-append (digits (n / 10)) ((48 + n % 10) ∷ [])
    ∙ (λ i. no-end-digits k (n / 10) (omega arith) i + one_byte (48 + n % 10) (omega arith) i)))
    (lt-or-le n 10)

pub no-end-number : (n : ℕ) → line_ends (digits n) ≡ 0
no-end-number n = no-end-digits n n (omega arith)

digit-byte : (d : ℕ) → 48 ≤ hex_digit d
unfolding hex_digit
digit-byte d = go (ltb d 10)
  where
    go : (t : Bool) → 48 ≤ pick t (48 + d) (87 + d)
    go true = omega arith
    go false = omega arith

pub no-end-hex : (l : List ℕ) → line_ends (hex_text l) ≡ 0
unfolding hex_text line_ends
no-end-hex [] = refl
no-end-hex (b ∷ l) =
    other_byte (hex_digit (b / 16)) (hex_digit (b % 16) ∷ hex_text l) (digit-byte (b / 16))
    ∙ other_byte (hex_digit (b % 16)) (hex_text l) (digit-byte (b % 16))
    ∙ no-end-hex l

pub one_line : (name : String) (value rest : List ℕ) → line_ends (ascii name) ≡ 0 → line_ends value ≡ 0 → line_ends (line_text name value ++ rest) ≡ 1 + line_ends rest
unfolding line_ends
one_line name value rest n v =
    omega (
      arith,
      ends-append (line_text name value) rest,
      ends-append (ascii name) (value ++ (lf ∷ [])),
      ends-append value (lf ∷ []),
    )

-- a text whose last byte is LF
pub record Ended (t : List ℕ) : Type 0 where
  pub body : List ℕ
  pub is : t ≡ body ++ (lf ∷ [])

pub ended-after : (s : List ℕ) {t : List ℕ} → Ended t → Ended (s ++ t)
ended-after s e = record { body = s ++ e.body; is = ap (λ (t : List ℕ). s ++ t) e.is ∙ sym (append_assoc s e.body (lf ∷ [])) }

-- what is left of such a text has an end of line
pub end-left : (front more body : List ℕ) → body ++ (lf ∷ []) ≡ front ++ more → (more ≡ [] → ⊥) → 1 ≤ line_ends more
unfolding line_ends
end-left [] more body e h = omega (arith, ap line_ends (sym e) ∙ ends-append body (lf ∷ []))
end-left (x ∷ front) [] [] e h = absurd (h refl)
end-left (x ∷ front) (b ∷ more) [] e h = absurd (omega (arith, ap length e, length-append front (b ∷ more)))
end-left (x ∷ front) more (y ∷ body) e h = end-left front more body (tail-eq_of_cons-eq e) h
