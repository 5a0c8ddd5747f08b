-- What mending a damaged record sheet promises (document 02, [12]), of what is printed. Read the definitions in specs/ first: Accepted (a good
-- form 2 text), Refused (25 and 26), Kept (what a line says), Damage (what is done to a sheet, and the changes that were made). The lines of a
-- text, joined, are the text, and none has an LF in it (Wholes); its form is 2 where a line has the name `form` (BadNames); a sheet to which
-- nothing was done is the record's text (Unchanged); no text is refused with another number than 25 and 26 (Refusals). Assumes nothing.
use mathlib.Core.Bool.{true, false}
use mathlib.Core.Logic.{◌↔◌}
use mathlib.Core.List.{List, [], ◌++◌}
use mathlib.Core.Path.{◌≡◌, ap, ◌∙◌}
use Prim.Native.Nat.{ℕ, ◌≤◌, ◌<◌}
use native.Mathlib.Omega.{arith}
use lib.ListN.{length, get_or}
use Rattle.refusals.specs.Numbers.{done}
use Rattle.fields.specs.declared.Fields.{Fields}
use Rattle.writing.specs.Text.{ascii, digits, digits_within}
use Rattle.record_text.specs.Text.{form_text, record_text, Good}
use Rattle.line_parts.specs.Line.{value_in}
use Rattle.line_names.specs.Names.{number_in}
use Rattle.sheet_faults.specs.Sheet.{lines_of, is_form_two, most_bytes}
use Rattle.mended_text.specs.Text.{text_mended}
use Rattle.mending.specs.Changes.{change_text, changes_text, sheet_mended}
use Rattle.mending.specs.Answer.{mend_refusal, text_printed, print_room, sheet_names_bad, sheet_value_bad}
use Rattle.mends.specs.Accepted.{GoodText}
use Rattle.mends.specs.Damage.{value_said, changes_made, MadeFrom}
use Rattle.mends.specs.Refused.{BadSheet, BadValue}
use Rattle.mends.specs.Kept.{SaysIt}
use Rattle.mends.proofs.Printed.{accepted, all-printed, refused-printed}
use Rattle.mends.proofs.Unchanged.{good-accepted, good-mended, unchanged, again}
use Rattle.mends.proofs.Refusals.{names-refused}
use Rattle.mends.proofs.OutOfForm.{out-of-form}
use Rattle.mends.proofs.Kept.{kept, gained-zero}
use Rattle.mends.proofs.Damaged.{damaged-mended}
use Rattle.mends.proofs.OnlyFaults.{exactly-these}

-- the program has room for what it prints
module _ (room : ℕ) (enough : print_room ≤ room) where
  abbrev printed : List ℕ → List ℕ
  printed text = text_printed text room

  -- of a sheet that is not refused, what is printed is the form 2 text of a good record, and then the changes
  pub good-printed : (text : List ℕ) → mend_refusal text ≡ done
      → (r : GoodText (text_mended (lines_of text))) × (printed text ≡ record_text r.number r.fields r.key ++ changes_text (lines_of text))
  unfolding sheet_mended
  good-printed text e =
      let r = (accepted text e).mended in
      (r, all-printed text room enough e ∙ ap (λ (t : List ℕ). t ++ changes_text (lines_of text)) r.is)

  -- a good form 2 record comes out unchanged with no change listed
  pub good-unchanged : (number : ℕ) (f : Fields) (key : List ℕ) → Good true number f key → printed (record_text number f key) ≡ record_text number f key
  good-unchanged number f key g =
      all-printed (record_text number f key) room enough (good-accepted true number f key g) ∙ unchanged number f key g

  -- and a good form 1 record as its form 2 text, with that change alone
  pub old-renewed : (number : ℕ) (f : Fields) (key : List ℕ) → Good false number f key
      → printed (form_text false number f key) ≡ record_text number f key ++ ascii "changed=form\n"
  unfolding change_text
  old-renewed number f key g =
      all-printed (form_text false number f key) room enough (good-accepted false number f key g) ∙ good-mended false number f key g

  -- mending what was printed as the record changes nothing
  pub mended-again : (text : List ℕ) → mend_refusal text ≡ done → printed (text_mended (lines_of text)) ≡ text_mended (lines_of text)
  mended-again text e = let a = again text e in all-printed (text_mended (lines_of text)) room enough a.0 ∙ a.1

  -- 25 exactly for a longer text, a last line without its LF, or a name missing, doubled or unknown for the form; only that is printed
  pub when-names : (text : List ℕ) → (mend_refusal text ≡ sheet_names_bad) ↔ BadSheet text
  when-names text = names-refused text

  pub names-printed : (text : List ℕ) → BadSheet text → printed text ≡ ascii "refused=25\n"
  unfolding digits digits_within
  names-printed text b = refused-printed text room sheet_names_bad (omega arith) ((names-refused text).1 b)

  -- 26 exactly where it is not 25 and a line's value is still out of form or range; only that is printed
  pub when-value : (text : List ℕ) → (mend_refusal text ≡ sheet_value_bad) ↔ ((BadSheet text → ⊥) × BadValue (lines_of text))
  when-value text = out-of-form text

  pub value-printed : (text : List ℕ) → (BadSheet text → ⊥) → BadValue (lines_of text) → printed text ≡ ascii "refused=26\n"
  unfolding digits digits_within
  value-printed text n v = refused-printed text room sheet_value_bad (omega arith) ((out-of-form text).1 (n, v))

  -- each line says what the printed record has, by its digits' values; and form 1 gains 0 for both network codes
  pub values-kept : (text : List ℕ) → mend_refusal text ≡ done → (r : GoodText (text_mended (lines_of text))) (i : ℕ) → i < length (lines_of text)
      → let line = get_or (lines_of text) i [] in SaysIt r.number r.fields r.key (number_in line) (value_in line)
  values-kept text e r i h = kept text (record { names = (accepted text e).names; mended = r }) i h

  pub codes-gained : (text : List ℕ) → mend_refusal text ≡ done → (r : GoodText (text_mended (lines_of text))) → is_form_two (lines_of text) ≡ false
      → (r.fields.mcc ≡ 0) × (r.fields.mnc ≡ 0)
  codes-gained text e r two = gained-zero text (record { names = (accepted text e).names; mended = r }) two

  -- a text made from a good record by any mixture of the faults is mended to that record, and the changes listed are those that were made
  pub faults-mended : (text : List ℕ) → length text ≤ most_bytes → (m : MadeFrom text)
      → printed text ≡ record_text m.number m.fields m.key ++ changes_made m.two (value_said m.number m.fields m.key) m.lines
  faults-mended text h m =
      all-printed text room enough ((exactly-these text).1 (m, h))
      ∙ ap (λ (t : List ℕ). sheet_mended (lines_of t)) m.is
      ∙ damaged-mended m.two m.number m.fields m.key m.good m.lines m.order

  -- and no other text is accepted
  pub accepted-exactly : (text : List ℕ) → (mend_refusal text ≡ done) ↔ (MadeFrom text × (length text ≤ most_bytes))
  accepted-exactly text = exactly-these text
