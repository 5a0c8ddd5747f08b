-- How long a record's text is. Assumes nothing.
use mathlib.Core.Path.{◌≡◌, refl}
use mathlib.Core.List.{List, [], ◌∷◌, ◌++◌}
use mathlib.Core.Bool.{Bool, true, false}
use Prim.Native.Nat.{ℕ, ◌+◌, ◌≤◌}
use native.Mathlib.Omega.{arith}
use lib.Dec.{eqb}
use lib.ListN.{length, length-append}
use borrow.Author.Tests.{leb-true}
use Rattle.laws.specs.Choice.{pick}
use Rattle.algorithms.specs.Algorithm.{name_of}
use Rattle.fields.specs.Fields.{is_side}
use Rattle.fields.specs.declared.Fields.{Fields}
use Rattle.fields.proofs.Ranges.{between-high}
use Rattle.writing.specs.Text.{ascii, lf, digits, hex_text, line_text}
use Rattle.record_text.specs.Text.{use_word, lines_text, form_text, record_text, Good}
use Rattle.writing.proofs.Digits.{length-one, length_some, digits-fit, line-then}
use Rattle.writing.proofs.Puts.{length-hex}

pub use-length : (u : ℕ) → length (use_word u) ≡ 4
unfolding use_word
use-length u = go (eqb u 1) (eqb u 2)
  where
    go : (x y : Bool) → length (pick x (ascii "SEND") (pick y (ascii "RECV") (ascii "BOTH"))) ≡ 4
    go true y = refl
    go false true = refl
    go false false = refl

pub name-length : (algorithm : ℕ) → length (name_of algorithm) ≡ 4
unfolding name_of
name-length algorithm = refl

pub text-length : (number : ℕ) (f : Fields) (key : List ℕ) → is_side f.side ≡ true → length key ≡ 24
    → length (record_text number f key)
    ≡ 119 + (length (digits number) + (length (digits f.version) + (length (digits f.place) + (length (digits f.mcc) + length (digits f.mnc)))))
unfolding form_text lines_text
text-length number f key s k =
    let ninth = line_text "key=" (hex_text key) in
    let eighth = line_text "mnc=" (digits f.mnc) ++ ninth in
    let seventh = line_text "mcc=" (digits f.mcc) ++ eighth in
    let sixth = line_text "place=" (digits f.place) ++ seventh in
    let fifth = line_text "side=" (digits f.side) ++ sixth in
    let fourth = line_text "use=" (use_word f.usage) ++ fifth in
    let third = line_text "alg=" (name_of f.algorithm) ++ fourth in
    let second = line_text "version=" (digits f.version) ++ third in
    omega (
      arith,
      line-then "number=" (digits number) second,
      line-then "version=" (digits f.version) third,
      line-then "alg=" (name_of f.algorithm) fourth,
      line-then "use=" (use_word f.usage) fifth,
      line-then "side=" (digits f.side) sixth,
      line-then "place=" (digits f.place) seventh,
      line-then "mcc=" (digits f.mcc) eighth,
      line-then "mnc=" (digits f.mnc) ninth,
      length-append (hex_text key) (lf ∷ []),
      name-length f.algorithm,
      use-length f.usage,
      length-one f.side (omega (arith, leb-true f.side 1 s)),
      length-hex key,
    )

-- 124 to 137 bytes
pub text-size : (number : ℕ) (f : Fields) (key : List ℕ) → Good true number f key
    → (124 ≤ length (record_text number f key)) × (length (record_text number f key) ≤ 137)
text-size number f key g =
    let e = text-length number f key g.side g.size in
    let n = digits-fit 1 number (omega (arith, between-high 1 number 32 g.slot)) in
    let v = digits-fit 4 f.version (omega (arith, g.version)) in
    let p = digits-fit 1 f.place (omega (arith, leb-true f.place 79 g.place)) in
    let c = digits-fit 3 f.mcc (omega (arith, g.mcc)) in
    let w = digits-fit 4 f.mnc (omega (arith, g.mnc)) in
    let n' = length_some number in
    let v' = length_some f.version in
    let p' = length_some f.place in
    let c' = length_some f.mcc in
    let w' = length_some f.mnc in
    (omega arith, omega arith)
