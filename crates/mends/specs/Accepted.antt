-- The record that is printed of a damaged sheet (document 02, [12]). Assumes nothing: these are definitions.
use Rattle.std.specs.Prelude.{true, false, List, ◌≡◌, ℕ}
use Rattle.fields.specs.declared.Fields.{Fields}
use Rattle.record_text.specs.Text.{record_text, Good}
use Rattle.sheet_faults.specs.Sheet.{lines_of, sheet_bad}
use Rattle.mended_text.specs.Text.{text_mended}

-- a text that is the form 2 text of a good record
pub record GoodText (text : List ℕ) : Type 0 where
  pub number : ℕ
  pub fields : Fields
  pub key : List ℕ
  pub good : Good true number fields key
  pub is : text ≡ record_text number fields key

-- a sheet of which no name is bad, and whose mended text is a good record
pub record AcceptedSheet (text : List ℕ) : Type 0 where
  pub names : sheet_bad text ≡ false
  pub mended : GoodText (text_mended (lines_of text))
