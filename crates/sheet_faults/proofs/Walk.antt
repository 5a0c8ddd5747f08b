-- The lines of a text, one after the other, and what is said of them. Assumes nothing.
use mathlib.Core.Path.{◌≡◌, refl, sym, ap, ◌∙◌}
use mathlib.Core.Bool.{Bool, true, false, cond, ◌&&◌, ◌||◌}
use mathlib.Core.List.{List, [], ◌∷◌, ◌++◌}
use Prim.Native.Nat.{ℕ, suc, ◌+◌, ◌<◌, ◌≤◌}
use native.Mathlib.Numerals.{one-add}
use native.Mathlib.Nat.{zero-add}
use native.Mathlib.Omega.{arith}
use lib.Dec.{eqb, eqb-zero-suc, eqb-suc-suc}
use lib.ListN.{length, take, drop}
use Rattle.std.specs.Prelude.{Option, None, Some, MatchOption}
use Rattle.std.specs.Option.{option_map}
use denote.Ref.{Bor}
use Rattle.std.specs.List.{filter, find, list_all, list_any}
use borrow.Author.Tests.{lt-leb, le-leb}
use Rattle.laws.specs.Choice.{pick}
use Rattle.writing.specs.Text.{lf}
use Rattle.lines.specs.Line.{index_of, up_to, piece_length}
use Rattle.line_parts.specs.Line.{value_in}
use Rattle.line_names.specs.declared.Name.{Name}
use Rattle.line_names.specs.declared.Name.TheVariants.{Form, Number, Version, Alg, Use, Side, Place, Mcc, Mnc, Key}
use Rattle.line_names.specs.Names.{name_count, number_in, number_of, has_name}
use Rattle.line_faults.specs.Faults.{has_fault}
use Rattle.line_faults.specs.declared.Fault.{Fault}
use Rattle.sheet_faults.specs.Sheet.{onto_first, lines_of, times_named, value_named, any_fault, in_order_from, names_right_from}

-- a text that is not empty is its first line and the lines after it
pub lines_cut : (s : List ℕ) → 0 < length s → lines_of s ≡ up_to lf s ∷ lines_of (drop (piece_length lf s) s)
unfolding lines_of index_of piece_length
lines_cut [] h = absurd (omega arith)
lines_cut (b ∷ s) h = go (eqb b lf) (lines_cut s)
  where
    rest : (s : List ℕ) → (0 < length s → lines_of s ≡ up_to lf s ∷ lines_of (drop (piece_length lf s) s))
        → onto_first b (lines_of s) ≡ (b ∷ up_to lf s) ∷ lines_of (drop (piece_length lf s) s)
    rest [] r = refl
    rest (x ∷ t) r = ap (onto_first b) (r (omega arith))

    longer : (t : Bool) → pick t (suc (length s)) (suc (suc (index_of lf s))) ≡ suc (pick t (length s) (suc (index_of lf s)))
    longer true = refl
    longer false = refl

    go : (t : Bool) → (0 < length s → lines_of s ≡ up_to lf s ∷ lines_of (drop (piece_length lf s) s))
        → pick t ([] ∷ lines_of s) (onto_first b (lines_of s))
        ≡ take (pick t 0 (suc (index_of lf s))) (b ∷ s)
        ∷ lines_of (drop (pick (eqb (pick t 0 (suc (index_of lf s))) (suc (length s))) (suc (length s)) (suc (pick t 0 (suc (index_of lf s))))) (b ∷ s))
    go true r = rw (eqb-zero-suc (length s))
    go false r =
        rw (eqb-suc-suc (index_of lf s) (length s), longer (eqb (index_of lf s) (length s))) (rest s r)

pub lines_none : (s : List ℕ) → length s ≡ 0 → lines_of s ≡ []
unfolding lines_of
lines_none [] e = refl
lines_none (b ∷ s) e = absurd (omega arith)

-- no text has more lines than bytes
pub lines-fewer : (s : List ℕ) → length (lines_of s) ≤ length s
unfolding lines_of
lines-fewer [] = omega arith
lines-fewer (b ∷ s) = go (eqb b lf) (lines_of s) (lines-fewer s)
  where
    go : (t : Bool) (lines : List (List ℕ)) → length lines ≤ length s → length (pick t ([] ∷ lines) (onto_first b lines)) ≤ suc (length s)
    go true lines h = omega arith
    go false [] h = omega arith
    go false (line ∷ lines) h = omega arith

-- the names from k on stand in order, by the first line and those after it
module _ {k : ℕ} {all : List (List ℕ)} {line : List ℕ} {rest : List (List ℕ)} (cut : all ≡ line ∷ rest) where
  pub order-here : number_in line < k → in_order_from k all ≡ false
  unfolding in_order_from
  order-here h = rw (cut, lt-leb k (number_in line) h)

  pub order-on : k ≤ number_in line → in_order_from k all ≡ in_order_from (number_in line + 1) rest
  unfolding in_order_from
  order-on h = rw (cut, le-leb k (number_in line) h)

pub order-end : (k : ℕ) (all : List (List ℕ)) → all ≡ [] → in_order_from k all ≡ true
unfolding in_order_from
order-end k all e = rw e

-- what the iterator's methods answer
pub times-count : (k : ℕ) (lines : List (List ℕ)) → length (filter (λ line. eqb (number_in line) k) lines) ≡ times_named k lines
unfolding times_named
times-count k [] = refl
times-count k (line ∷ lines) = go (eqb (number_in line) k) (times-count k lines)
  where
    go : (t : Bool) → length (filter (λ line. eqb (number_in line) k) lines) ≡ times_named k lines
        → length (cond t (line ∷ filter (λ line. eqb (number_in line) k) lines) (filter (λ line. eqb (number_in line) k) lines)) ≡ pick t 1 0 + times_named k lines
    go true h = ap suc h ∙ sym (one-add (times_named k lines))
    go false h = h ∙ sym (zero-add (times_named k lines))

abbrev pub value_found : Option (List ℕ) → List ℕ
value_found None = []
value_found (Some line) = value_in line

pub value-find : (k : ℕ) (lines : List (List ℕ)) → value_found (find (λ line. eqb (number_in line) k) lines) ≡ value_named k lines
unfolding value_named
value-find k [] = refl
value-find k (line ∷ lines) = go (eqb (number_in line) k) (value-find k lines)
  where
    go : (t : Bool) → value_found (find (λ line. eqb (number_in line) k) lines) ≡ value_named k lines
        → value_found (cond t (Some line) (find (λ line. eqb (number_in line) k) lines)) ≡ pick t (value_in line) (value_named k lines)
    go true h = refl
    go false h = h

-- what `map_or` makes of it
pub value-of : (P : Bor (List ℕ) → Type 0) (o : Option (Bor (List ℕ))) (r none : Bor (List ℕ)) → MatchOption o (r ≡ none) P → none.now ≡ []
    → ((line : Bor (List ℕ)) → P line → r.now ≡ value_in line.now) → r.now ≡ value_found (option_map (λ line. line.now) o)
value-of P None r none h e f = ap (λ (x : Bor (List ℕ)). x.now) h ∙ e
value-of P (Some line) r none h e f = f line h

pub fault-any : (fault : Fault) (lines : List (List ℕ)) → list_any (has_fault fault) lines ≡ any_fault fault lines
unfolding any_fault
fault-any fault [] = refl
fault-any fault (line ∷ lines) = ap (λ (t : Bool). has_fault fault line || t) (fault-any fault lines)

-- each of the ten names as often as the form has it, and no line without one
all-then : (ts : List Bool) (z : Bool) → list_all (λ (t : Bool). t) ts && z ≡ list_all (λ (t : Bool). t) (ts ++ z ∷ [])
all-then [] true = refl
all-then [] false = refl
all-then (true ∷ ts) z = all-then ts z
all-then (false ∷ ts) z = refl

pub names-all : (two : Bool) (lines : List (List ℕ))
    → list_all (λ (k : Name). eqb (times_named (number_of k) lines) (pick (has_name two (number_of k)) 1 0)) (Form ∷ Number ∷ Version ∷ Alg ∷ Use ∷ Side ∷ Place ∷ Mcc ∷ Mnc ∷ Key ∷ [])
    && eqb (times_named name_count lines) 0
    ≡ names_right_from two lines 0 (name_count + 1)
unfolding names_right_from has_name
names-all two lines =
    let right = λ (k : ℕ). eqb (times_named k lines) (pick (has_name two k) 1 0) in
    all-then (right 0 ∷ right 1 ∷ right 2 ∷ right 3 ∷ right 4 ∷ right 5 ∷ right 6 ∷ right 7 ∷ right 8 ∷ right 9 ∷ []) (eqb (times_named name_count lines) 0)
