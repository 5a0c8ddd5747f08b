-- Counting the lines of a record's text. Assumes nothing.
use mathlib.Core.Path.{◌≡◌, refl, sym, ap, ◌∙◌}
use mathlib.Core.Bool.{Bool, true, false}
use mathlib.Core.List.{List, [], ◌∷◌, ◌++◌}
use Prim.Native.Nat.{ℕ, ◌+◌, ◌<◌}
use Prim.Native.String.{String}
use native.Mathlib.Nat.{zero-add}
use native.Mathlib.Omega.{arith}
use lib.Dec.{eqb}
use Rattle.laws.specs.Choice.{pick}
use Rattle.algorithms.specs.Algorithm.{digit_of, name_of}
use Rattle.fields.specs.declared.Fields.{Fields}
use Rattle.writing.specs.Text.{ascii, lf, digits, hex_text, line_text}
use Rattle.record_text.specs.Text.{use_word, code_text, lines_text, form_text}
use Rattle.lines.specs.Line.{line_ends}
use Rattle.lines.proofs.Ends.{ends-append, no-end-number, no-end-hex, one_line, Ended, ended-after, end-left}

no-end-name : (a : ℕ) → line_ends (name_of a) ≡ 0
unfolding name_of digit_of line_ends
no-end-name a = go (eqb a 5) (eqb a 6)
  where
    go : (x y : Bool) → 0 + (0 + (0 + (pick (eqb (pick x 53 (pick y 54 55)) lf) 1 0 + 0))) ≡ 0
    go true y = refl
    go false true = refl
    go false false = refl

no-end-use : (u : ℕ) → line_ends (use_word u) ≡ 0
unfolding use_word line_ends
no-end-use u = go (eqb u 1) (eqb u 2)
  where
    go : (x y : Bool) → line_ends (pick x (ascii "SEND") (pick y (ascii "RECV") (ascii "BOTH"))) ≡ 0
    go true y = refl
    go false true = refl
    go false false = refl

code-ends : (two : Bool) (name : String) (n : ℕ) (rest : List ℕ) → line_ends (ascii name) ≡ 0 → line_ends (code_text two name n ++ rest) ≡ pick two 1 0 + line_ends rest
code-ends true name n rest e = one_line name (digits n) rest e (no-end-number n)
code-ends false name n rest e = sym (zero-add (line_ends rest))

-- a record's text has seven line ends, or ten in form 2; one of them is its last byte

lines-ends : (two : Bool) (number : ℕ) (f : Fields) (key : List ℕ) → line_ends (lines_text two number f key) ≡ pick two 9 7
unfolding lines_text line_ends
lines-ends two number f key =
    let last : line_ends (line_text "key=" (hex_text key)) ≡ 1 = omega (arith, ends-append (hex_text key) (lf ∷ []), no-end-hex key) in
    one_line "number=" (digits number) _ refl (no-end-number number)
    ∙ ap (1 +◌) (one_line "version=" (digits f.version) _ refl (no-end-number f.version)
    ∙ ap (1 +◌) (one_line "alg=" (name_of f.algorithm) _ refl (no-end-name f.algorithm)
    ∙ ap (1 +◌) (one_line "use=" (use_word f.usage) _ refl (no-end-use f.usage)
    ∙ ap (1 +◌) (one_line "side=" (digits f.side) _ refl (no-end-number f.side)
    ∙ ap (1 +◌) (one_line "place=" (digits f.place) _ refl (no-end-number f.place)
    ∙ ap (1 +◌) (code-ends two "mcc=" f.mcc _ refl
    ∙ ap (pick two 1 0 +◌) (code-ends two "mnc=" f.mnc _ refl ∙ ap (pick two 1 0 +◌) last)))))))
    ∙ sum two
  where
    sum : (two : Bool) → 1 + (1 + (1 + (1 + (1 + (1 + (pick two 1 0 + (pick two 1 0 + 1))))))) ≡ pick two 9 7
    sum true = refl
    sum false = refl

form-ends : (two : Bool) (number : ℕ) (f : Fields) (key : List ℕ) → line_ends (form_text two number f key) ≡ pick two 10 7
unfolding form_text line_ends
form-ends true number f key = ends-append (ascii "form=2\n") (lines_text true number f key) ∙ ap (1 +◌) (lines-ends true number f key)
form-ends false number f key = lines-ends false number f key

lines-ended : (two : Bool) (number : ℕ) (f : Fields) (key : List ℕ) → Ended (lines_text two number f key)
unfolding lines_text
lines-ended two number f key =
    ended-after (line_text "number=" (digits number))
    (ended-after (line_text "version=" (digits f.version))
    (ended-after (line_text "alg=" (name_of f.algorithm))
    (ended-after (line_text "use=" (use_word f.usage))
    (ended-after (line_text "side=" (digits f.side))
    (ended-after (line_text "place=" (digits f.place))
    (ended-after (code_text two "mcc=" f.mcc)
    (ended-after (code_text two "mnc=" f.mnc)
    (ended-after (ascii "key=") (record { body = hex_text key; is = refl })))))))))

form-ended : (two : Bool) (number : ℕ) (f : Fields) (key : List ℕ) → Ended (form_text two number f key)
unfolding form_text
form-ended true number f key = ended-after (ascii "form=2\n") (lines-ended true number f key)
form-ended false number f key = lines-ended false number f key

-- a part of a record's text that is not the whole has fewer
pub fewer-ends : (two : Bool) (number : ℕ) (f : Fields) (key front more : List ℕ) → form_text two number f key ≡ front ++ more → (more ≡ [] → ⊥)
    → line_ends front < pick two 10 7
fewer-ends two number f key front more e h =
    let r = form-ended two number f key in
    omega (arith, end-left front more r.body (sym r.is ∙ e) h, sym (form-ends two number f key) ∙ ap line_ends e ∙ ends-append front more)
