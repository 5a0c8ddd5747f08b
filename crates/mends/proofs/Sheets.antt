-- The lines of a damaged sheet: their names and values, their faults and their order. Assumes nothing.
use mathlib.Core.Bool.{Bool, true, false, ◌&&◌, ◌||◌}
use mathlib.Core.List.{List, [], ◌∷◌, ◌++◌, map}
use mathlib.Core.Path.{◌≡◌, refl, sym, ap, ◌∙◌}
use Prim.Native.Nat.{ℕ, ◌+◌, ◌<◌, zero-le}
use native.Mathlib.Omega.{arith}
use lib.Dec.{eqb, ltb, leb}
use lib.ListN.{length, length-append}
use borrow.Author.Tests.{eqb-true, not-true}
use Rattle.laws.specs.Choice.{pick}
use Rattle.laws.proofs.Cases.{and_left, and_right}
use Rattle.laws.proofs.Tests.{holds, agree}
use Rattle.writing.specs.Text.{lf}
use Rattle.line_parts.specs.Line.{ends_with, value_in}
use Rattle.line_names.specs.Names.{name_text, name_count, name_number, number_in, number_from, same_text, key_name}
use Rattle.line_faults.specs.Faults.{has_fault, any_upper_hex, zeros_dropped}
use Rattle.mended_text.specs.Text.{mended_value}
use Rattle.line_faults.specs.declared.Fault.{Fault}
use Rattle.line_faults.specs.declared.Fault.TheVariants.{Crlf, Hex, Zeros, Spaces}
use Rattle.sheet_faults.specs.Sheet.{onto_first, lines_of, times_named, value_named, any_fault, in_order_from}
use Rattle.mends.specs.Damage.{Damage, value_damaged, line_damaged, sheet_damaged, any_line, made_hex, made_zeros, made_spaces}
use Rattle.mends.proofs.Bytes.{every, is_other, ends-after}
use Rattle.mends.proofs.OneLine.{is_mark, Seen, line-seen}
use Rattle.mends.proofs.Values.{InForm, damaged-some, damaged-marks, damaged-mended, damaged-hex, damaged-zeros, zeros-as}
use Rattle.mends.proofs.Orders.{count_of, rises}

-- a line before LF is the first
pub lines-first : (line rest : List ℕ) → every (is_other lf) line ≡ true → lines_of (line ++ (lf ∷ rest)) ≡ line ∷ lines_of rest
unfolding lines_of
lines-first [] rest e = refl
lines-first (b ∷ line) rest e =
    rw (not-true (eqb b lf) (and_left (is_other lf b) _ e))
    (ap (onto_first b) (lines-first line rest (and_right (is_other lf b) (every (is_other lf) line) e)))

-- the names: their bytes, and their numbers

pub name-marks : (k : ℕ) → k < name_count → every is_mark (name_text k) ≡ true
unfolding name_text
name-marks k h = holds (λ k. every is_mark (name_text k)) 0 name_count tt k zero-le h

pub number-named : (k : ℕ) → k < name_count → name_number (name_text k) ≡ k
unfolding name_number number_from name_text same_text
number-named k h = agree (λ k. name_number (name_text k)) (λ k. k) 0 name_count tt k zero-le h

module _ (values : ℕ → List ℕ) where
  -- a line of a known name whose value is in form
  pub record Fine (d : Damage) : Type 0 where
    pub known : d.name < name_count
    pub form : InForm d.name (values d.name)

  abbrev pub AllFine : List Damage → Type 0
  AllFine [] = Unit
  AllFine (d ∷ ds) = Fine d × AllFine ds

  -- one line
  module _ (d : Damage) (f : Fine d) where
    abbrev value : List ℕ
    value = value_damaged d (values d.name)

    marks : every is_mark value ≡ true
    marks = damaged-marks d (values d.name) f.form

    some : 0 < length value
    some = damaged-some d (values d.name) f.form

    seen : Seen (line_damaged values d) (name_text d.name) value d.before d.after d.carriage
    unfolding line_damaged
    seen = line-seen (name_text d.name) value d.before d.after d.carriage (name-marks d.name f.known) marks some

    number_is : number_in (line_damaged values d) ≡ d.name
    number_is = ap name_number seen.named ∙ number-named d.name f.known

    pub crlf-seen : has_fault Crlf (line_damaged values d) ≡ d.carriage
    unfolding has_fault
    crlf-seen = seen.ends

    pub hex-seen : has_fault Hex (line_damaged values d) ≡ made_hex values d
    unfolding has_fault
    hex-seen = (λ i. eqb (number_is i) key_name && any_upper_hex (seen.says i)) ∙ damaged-hex d (values d.name) f.form

    pub zeros-seen : has_fault Zeros (line_damaged values d) ≡ made_zeros d
    unfolding has_fault
    zeros-seen = (λ i. ltb 0 (zeros_dropped (number_is i) (seen.says i))) ∙ zeros-as d.name value ∙ damaged-zeros d (values d.name) f.form

    pub spaces-seen : has_fault Spaces (line_damaged values d) ≡ made_spaces d
    unfolding has_fault
    spaces-seen = seen.spaced

  -- all lines

  abbrev pub lines_damaged : List Damage → List (List ℕ)
  lines_damaged ds = map (line_damaged values) ds

  abbrev pub names_in : List Damage → List ℕ
  names_in ds = map (λ d. d.name) ds

  pub lines_are : (ds : List Damage) → AllFine ds → lines_of (sheet_damaged values ds) ≡ lines_damaged ds
  unfolding sheet_damaged lines_of
  lines_are [] f = refl
  lines_are (d ∷ ds) f =
      lines-first (line_damaged values d) (sheet_damaged values ds) (seen d f.0).whole
      ∙ ap (λ (l : List (List ℕ)). line_damaged values d ∷ l) (lines_are ds f.1)

  pub times-are : (k : ℕ) (ds : List Damage) → AllFine ds → times_named k (lines_damaged ds) ≡ count_of k (names_in ds)
  unfolding times_named
  times-are k [] f = refl
  times-are k (d ∷ ds) f = λ i. pick (eqb (number_is d f.0 i) k) 1 0 + times-are k ds f.1 i

  pub faults-are : (fault : Fault) (made : Damage → Bool) → ((d : Damage) → Fine d → has_fault fault (line_damaged values d) ≡ made d)
      → (ds : List Damage) → AllFine ds → any_fault fault (lines_damaged ds) ≡ any_line made ds
  unfolding any_fault any_line
  faults-are fault made sees [] f = refl
  faults-are fault made sees (d ∷ ds) f = λ i. sees d f.0 i || faults-are fault made sees ds f.1 i

  pub order_is : (k : ℕ) (ds : List Damage) → AllFine ds → in_order_from k (lines_damaged ds) ≡ rises k (names_in ds)
  unfolding in_order_from
  order_is k [] f = refl
  order_is k (d ∷ ds) f =
      (λ i. leb k (number_is d f.0 i) && in_order_from (number_is d f.0 i + 1) (lines_damaged ds))
      ∙ ap (λ (t : Bool). leb k d.name && t) (order_is (d.name + 1) ds f.1)

  -- the value of a name that is there, mended
  pub mended-is : (k : ℕ) (ds : List Damage) → AllFine ds → 0 < count_of k (names_in ds) → mended_value k (value_named k (lines_damaged ds)) ≡ values k
  unfolding value_named
  mended-is k [] f h = absurd (omega arith)
  mended-is k (d ∷ ds) f h =
      ap (λ (n : ℕ). mended_value k (pick (eqb n k) (value_in (line_damaged values d)) (value_named k (lines_damaged ds)))) (number_is d f.0)
      ∙ go (eqb d.name k) refl h (mended-is k ds f.1)
    where
      go : (t : Bool) → eqb d.name k ≡ t → 0 < pick t 1 0 + count_of k (names_in ds)
          → (0 < count_of k (names_in ds) → mended_value k (value_named k (lines_damaged ds)) ≡ values k)
          → mended_value k (pick t (value_in (line_damaged values d)) (value_named k (lines_damaged ds))) ≡ values k
      go true e h rec =
          let z : d.name ≡ k = eqb-true d.name k e in
          ap (mended_value k) (seen d f.0).says
          ∙ ap (λ (n : ℕ). mended_value n (value_damaged d (values d.name))) (sym z)
          ∙ damaged-mended d (values d.name) f.0.form
          ∙ ap values z
      go false e h rec = rec (omega arith)

  -- the last line has its LF
  pub sheet-ends : (ds : List Damage) → 0 < length ds → ends_with lf (sheet_damaged values ds) ≡ true
  unfolding sheet_damaged ends_with
  sheet-ends [] h = absurd (omega arith)
  sheet-ends (d ∷ []) h = ends-after lf (line_damaged values d) (lf ∷ []) (omega arith)
  sheet-ends (d ∷ e ∷ ds) h =
      ends-after lf (line_damaged values d) (lf ∷ sheet_damaged values (e ∷ ds)) (omega arith)
      ∙ ends-after lf (lf ∷ []) (sheet_damaged values (e ∷ ds)) (omega (arith, length-append (line_damaged values e) (lf ∷ sheet_damaged values ds)))
      ∙ sheet-ends (e ∷ ds) (omega arith)
