-- What an office tool does to the sheet of a good record (document 02, [12]): lines in another order, and in each line a CR before its LF,
-- spaces beside the `=`, zeros before a number, digits of the key in upper case. Assumes nothing: these are definitions.
use Rattle.std.specs.Prelude.{Bool, false, not, ◌&&◌, ◌||◌, ◌≡◌, ℕ, zero, suc, ◌+◌, ◌-◌, eqb, ltb, get_or, replicate}
use mathlib.Core.List.{List, [], ◌∷◌, ◌++◌, map, Permᴰ}
use Rattle.laws.specs.Choice.{pick}
use Rattle.algorithms.specs.Algorithm.{name_of}
use Rattle.fields.specs.Fields.{between}
use Rattle.fields.specs.declared.Fields.{Fields}
use Rattle.writing.specs.Text.{ascii, lf, digits, hex_text}
use Rattle.record_text.specs.Text.{use_word, Good}
use Rattle.lines.specs.Line.{space}
use Rattle.line_parts.specs.Line.{cr, equals}
use Rattle.line_names.specs.Names.{name_count, key_name, name_text, is_decimal, has_name, same_text}
use Rattle.mending.specs.Changes.{change_text}

-- the value that a record has under the name of number k, as its line says it
unfoldable pub value_said : ℕ → Fields → List ℕ → ℕ → List ℕ
value_said number f key k =
    get_or
    (ascii "2"
    ∷ digits number
    ∷ digits f.version
    ∷ name_of f.algorithm
    ∷ use_word f.usage
    ∷ digits f.side
    ∷ digits f.place
    ∷ digits f.mcc
    ∷ digits f.mnc
    ∷ hex_text key
    ∷ [])
    k
    []

-- of n names from number k on, those that a form has
unfoldable pub names_from : Bool → ℕ → ℕ → List ℕ
names_from two k zero = []
names_from two k (suc n) = pick (has_name two k) (k ∷ names_from two (k + 1) n) (names_from two (k + 1) n)

-- the names of a form, in its order
abbrev pub names_of_form : Bool → List ℕ
names_of_form two = names_from two 0 name_count

-- one line of the damaged sheet: the number of its name, how many spaces stand before the `=` and after it, how many zeros before a number,
-- which digits of the key are in upper case (where they are letters), and whether a CR stands before the LF
pub record Damage : Type 0 where
  pub name : ℕ
  pub before : ℕ
  pub after : ℕ
  pub zeros : ℕ
  pub upper : ℕ → Bool
  pub carriage : Bool

-- a to f become A to F where that is asked
abbrev pub is_raised : Bool → ℕ → Bool
is_raised asked b = asked && between 97 b 102

unfoldable pub raise : Bool → ℕ → ℕ
raise asked b = pick (is_raised asked b) (b - 32) b

unfoldable pub raised : (ℕ → Bool) → List ℕ → List ℕ
raised upper [] = []
raised upper (b ∷ s) = raise (upper 0) b ∷ raised (λ i. upper (suc i)) s

unfoldable pub any_raised : (ℕ → Bool) → List ℕ → Bool
any_raised upper [] = false
any_raised upper (b ∷ s) = is_raised (upper 0) b || any_raised (λ i. upper (suc i)) s

unfoldable pub value_damaged : Damage → List ℕ → List ℕ
value_damaged d value =
    pick (eqb d.name key_name) (raised d.upper value) (pick (is_decimal d.name) (replicate d.zeros 48 ++ value) value)

-- a line: the name, spaces, `=`, spaces, the value, CR
unfoldable pub line_damaged : (ℕ → List ℕ) → Damage → List ℕ
line_damaged values d =
    ((name_text d.name ++ replicate d.before space)
    ++ (equals ∷ (replicate d.after space ++ value_damaged d (values d.name))))
    ++ pick d.carriage (cr ∷ []) []

-- the lines, each ended by LF
unfoldable pub sheet_damaged : (ℕ → List ℕ) → List Damage → List ℕ
sheet_damaged values [] = []
sheet_damaged values (d ∷ ds) = line_damaged values d ++ (lf ∷ sheet_damaged values ds)

-- the lines of the sheet are those of the form, in any order
abbrev pub OfForm : Bool → List Damage → Type 0
OfForm two ds = Permᴰ (names_of_form two) (map (λ d. d.name) ds)

-- a text that is made from a good record by these faults
pub record MadeFrom (text : List ℕ) : Type 0 where
  pub two : Bool
  pub number : ℕ
  pub fields : Fields
  pub key : List ℕ
  pub good : Good two number fields key
  pub lines : List Damage
  pub order : OfForm two lines
  pub is : text ≡ sheet_damaged (value_said number fields key) lines

-- THE CHANGES THAT WERE MADE

unfoldable pub any_line : (Damage → Bool) → List Damage → Bool
any_line made [] = false
any_line made (d ∷ ds) = made d || any_line made ds

abbrev pub made_hex : (ℕ → List ℕ) → Damage → Bool
made_hex values d = eqb d.name key_name && any_raised d.upper (values d.name)

abbrev pub made_zeros : Damage → Bool
made_zeros d = is_decimal d.name && ltb 0 d.zeros

abbrev pub made_spaces : Damage → Bool
made_spaces d = ltb 0 d.before || ltb 0 d.after

abbrev pub made_order : Bool → List Damage → Bool
made_order two ds = not (same_text (map (λ d. d.name) ds) (names_of_form two))

unfoldable pub changes_made : Bool → (ℕ → List ℕ) → List Damage → List ℕ
changes_made two values ds =
    change_text (any_line (λ d. d.carriage) ds) (ascii "crlf")
    ++ (change_text (any_line (made_hex values) ds) (ascii "hex")
    ++ (change_text (any_line made_zeros ds) (ascii "zeros")
    ++ (change_text (any_line made_spaces ds) (ascii "spaces")
    ++ (change_text (made_order two ds) (ascii "order")
    ++ change_text (not two) (ascii "form")))))
