-- Every row of the table of P values holds, by one computed test. Assumes nothing.
use mathlib.Core.Path.{◌≡◌}
use mathlib.Core.Bool.{Bool, true, false, ◌&&◌}
use mathlib.Core.List.{List, [], ◌∷◌}
use Prim.Native.Nat.{ℕ, zero, suc, ◌<◌}
use native.Mathlib.Nat.{le_of_suc-le-suc, not-suc-le-zero}
use lib.Dec.{T, eqb, eqb→eq}
use lib.ListN.{length, get_or}
use Rattle.laws.specs.Lists.{tabulate, window, sequence}
use Rattle.laws.proofs.Tests.{pass-left, pass-right}
use Rattle.gf256.specs.Field.{times, inverse, affine, s_box}
use Rattle.algorithms.specs.Combining.{f_tea6}
use Rattle.algorithms.specs.Algorithm.{combining, digit_of, name_of}
use Rattle.tea.specs.Mixing.{expanded_byte, mixed_value}
use Rattle.block_counts.specs.Counts.{blocks_used}
use Rattle.slots.specs.Slots.{all_zero, is_empty, is_filled, is_bad, has_bad}
use Rattle.slot_calls.specs.Calls.{move_refusal_of}
use Rattle.writing.specs.Text.{digits_within, digits, hex_digit, hex_text}
use Rattle.record_text.specs.Text.{use_word, lines_text, form_text}
use Rattle.forms.specs.Form.{read_at, ◌>>=◌, either, literal}
use Rattle.forms.specs.Decimals.{may_begin, may_follow, after_within, after, decimal}
use Rattle.forms.specs.Words.{one_of}
use Rattle.record_reader.specs.Lines.{use_form, algorithm_form, key_form}
use Rattle.forms.specs.Hexes.{is_hex, hex_value, byte, bytes}
use Rattle.record_reader.specs.Record.{lines_form, record_form, starts_form, record_read}
use Rattle.lines.specs.Line.{line_ends, line_of, column_after, column_of}
use Rattle.record_writer.specs.Written.{write_refusal, record_written, buffer_written}
use Rattle.plan.specs.Plan.{plan_refusal, planned_pieces, plan_of}
use Rattle.values.specs.Values.{Row, row, p_table}

same : List ℕ → List ℕ → Bool
same [] [] = true
same [] (y ∷ ys) = false
same (x ∷ xs) [] = false
same (x ∷ xs) (y ∷ ys) = eqb x y && same xs ys

same-is : (xs ys : List ℕ) → T (same xs ys) → xs ≡ ys
unfolding same
same-is [] [] t = λ i. []
same-is [] (y ∷ ys) t = absurd t
same-is (x ∷ xs) [] t = absurd t
same-is (x ∷ xs) (y ∷ ys) t =
    λ i. eqb→eq x y (pass-left (eqb x y) (same xs ys) t) i ∷ same-is xs ys (pass-right (eqb x y) (same xs ys) t) i

all_same : List Row → Bool
all_same [] = true
all_same (r ∷ rows) = same r.given r.said && all_same rows

at_row : (rows : List Row) → T (all_same rows) → (k : ℕ) → k < length rows → (get_or rows k (row [] [])).given ≡ (get_or rows k (row [] [])).said
unfolding all_same
at_row [] t k h = absurd (not-suc-le-zero h)
at_row (r ∷ rows) t zero h = same-is r.given r.said (pass-left (same r.given r.said) (all_same rows) t)
at_row (r ∷ rows) t (suc k) h = at_row rows (pass-right (same r.given r.said) (all_same rows) t) k (le_of_suc-le-suc h)

-- every row of the table holds
pub p-values : (k : ℕ) → k < length p_table → (get_or p_table k (row [] [])).given ≡ (get_or p_table k (row [] [])).said
unfolding p_table all_same same times inverse affine s_box combining f_tea6 expanded_byte mixed_value sequence window tabulate blocks_used move_refusal_of has_bad is_bad is_filled is_empty all_zero plan_of plan_refusal planned_pieces digits_within digits name_of digit_of use_word hex_digit hex_text lines_text form_text read_at ◌>>=◌ either literal may_begin may_follow after_within after decimal one_of use_form algorithm_form is_hex hex_value byte bytes key_form lines_form record_form starts_form record_read line_ends line_of column_after column_of write_refusal record_written buffer_written
p-values = at_row p_table tt
