-- What is printed as the record of a sheet that is not refused is the form 2 text of a good record. Assumes nothing.
use mathlib.Core.Bool.{Bool, true, not, ◌&&◌}
use mathlib.Core.List.{List, [], ◌∷◌, ◌++◌, append-nil}
use mathlib.Core.Path.{◌≡◌, refl, sym, ap, subst, ◌∙◌}
use Prim.Native.Nat.{ℕ, ◌+◌, ◌≤◌, ◌<◌}
use native.Mathlib.Omega.{arith}
use lib.Dec.{eqb}
use lib.ListN.{length, length-append}
use borrow.Author.Tests.{eqb-true, eq-eqb, ne_eqb, le-ltb, not-false}
use Rattle.laws.proofs.Cases.{and_left, and_right, unpicked}
use Rattle.fields.specs.declared.Fields.{Fields}
use Rattle.refusals.specs.Numbers.{done}
use Rattle.writing.specs.Text.{digits, line_text}
use Rattle.record_text.specs.Text.{form_text, record_text, Good}
use Rattle.record_text.proofs.Lengths.{text-size}
use Rattle.record_reader.specs.Record.{starts_form, record_read}
use Rattle.records.proofs.Promises.{Begins, read-is-good, good-is-read}
use Rattle.line_names.specs.Names.{name_text}
use Rattle.sheet_faults.specs.Sheet.{lines_of, sheet_bad}
use Rattle.mended_text.specs.Text.{text_mended, lines_mended, line_mended}
use Rattle.mending.specs.Changes.{is_record, changes_text, sheet_mended}
use Rattle.mending.specs.Answer.{mend_refusal, mend_answer, text_printed, print_room, sheet_names_bad, sheet_value_bad}
use Rattle.mending.proofs.Changed.{changes-short}
use Rattle.mends.specs.Accepted.{GoodText, AcceptedSheet}

-- nothing is left after a text that is as long as the whole
none_left : (s rest : List ℕ) → length (s ++ rest) ≡ length s → rest ≡ []
none_left s [] e = refl
none_left s (b ∷ rest) e = absurd (omega (arith, length-append s (b ∷ rest)))

-- a text is a record where it is the text of a good one, of the form that its first byte tells

pub record-is-good : (s : List ℕ) → starts_form s ≡ true → is_record s ≡ true → GoodText s
unfolding is_record
record-is-good s two e =
    let r = read-is-good s (eqb-true (record_read s).refusal done (and_left (eqb (record_read s).refusal done) _ e)) in
    let used = eqb-true (record_read s).used (length s) (and_right (eqb (record_read s).refusal done) (eqb (record_read s).used (length s)) e) in
    let g : Begins s true (record_read s).number (record_read s).fields (record_read s).key =
    subst (λ (t : Bool). Begins s t (record_read s).number (record_read s).fields (record_read s).key) two r.0 in
    let t = record_text (record_read s).number (record_read s).fields (record_read s).key in
    let size : length (t ++ g.rest) ≡ length t =
    ap length (sym g.is) ∙ sym used ∙ r.1
    ∙ ap (λ (x : Bool). length (form_text x (record_read s).number (record_read s).fields (record_read s).key)) two in
    record {
      number = (record_read s).number;
      fields = (record_read s).fields;
      key = (record_read s).key;
      good = g.good;
      is = g.is ∙ ap (λ (l : List ℕ). t ++ l) (none_left t g.rest size) ∙ append-nil t;
    }

pub good-is-record : (number : ℕ) (f : Fields) (key : List ℕ) → Good true number f key → is_record (record_text number f key) ≡ true
unfolding is_record
good-is-record number f key g =
    let s = record_text number f key in
    let e = good-is-read s true number f key (record { good = g; rest = []; is = sym (append-nil s) }) in
    ap (λ x. eqb x.refusal done && eqb x.used (length s)) e ∙ eq-eqb (length s) (length s) refl

-- the mended text says that it is of form 2
pub says-form : (lines : List (List ℕ)) → starts_form (text_mended lines) ≡ true
unfolding starts_form text_mended lines_mended line_mended name_text
says-form lines = refl

-- a sheet is not refused where its names are right and its mended text is a good record

pub accepted : (text : List ℕ) → mend_refusal text ≡ done → AcceptedSheet text
unfolding mend_refusal
accepted text e =
    let n = unpicked (sheet_bad text) sheet_names_bad _ (omega arith) e in
    let v = unpicked (not (is_record (text_mended (lines_of text)))) sheet_value_bad done (omega arith) n.1 in
    record { names = n.0; mended = record-is-good (text_mended (lines_of text)) (says-form (lines_of text)) (not-false _ v.0) }

pub taken : (text : List ℕ) → AcceptedSheet text → mend_refusal text ≡ done
unfolding mend_refusal
taken text a =
    let m = a.mended in
    let r : is_record (text_mended (lines_of text)) ≡ true = ap is_record m.is ∙ good-is-record m.number m.fields m.key m.good in
    rw (a.names, r)

-- what is printed of it, where there is room: that record, and then the changes

pub enough-room : (text : List ℕ) (room : ℕ) → print_room ≤ room → mend_refusal text ≡ done → mend_answer text room ≡ done
unfolding mend_answer sheet_mended
enough-room text room h e =
    let m = (accepted text e).mended in
    let t = text-size m.number m.fields m.key m.good in
    let size : length (text_mended (lines_of text) ++ changes_text (lines_of text)) ≤ room =
    omega (arith, length-append (text_mended (lines_of text)) (changes_text (lines_of text)), ap length m.is, changes-short (lines_of text)) in
    rw (e, le-ltb room (length (text_mended (lines_of text) ++ changes_text (lines_of text))) size)

pub all-printed : (text : List ℕ) (room : ℕ) → print_room ≤ room → mend_refusal text ≡ done → text_printed text room ≡ sheet_mended (lines_of text)
unfolding text_printed
all-printed text room h e = rw (enough-room text room h e)

-- of any other, the refusal alone
pub refused-printed : (text : List ℕ) (room n : ℕ) → 0 < n → mend_refusal text ≡ n → text_printed text room ≡ line_text "refused=" (digits n)
unfolding text_printed mend_answer
refused-printed text room n h e = rw (e, ne_eqb n done (λ z. omega arith), ne_eqb n done (λ z. omega arith))
