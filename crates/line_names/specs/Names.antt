-- The names of a record's lines, by their numbers in the order of form 2. Assumes nothing: these are definitions.
use Rattle.std.specs.Prelude.{Bool, true, false, not, ◌&&◌, List, [], ◌∷◌, ℕ, zero, suc, ◌+◌, eqb, ltb, get_or, Option, Some, None}
use Rattle.laws.specs.Choice.{pick}
use Rattle.writing.specs.Text.{ascii}
use Rattle.line_parts.specs.Line.{name_in}
use Rattle.line_names.specs.declared.Name.{Name}
use Rattle.line_names.specs.declared.Name.TheVariants.{Form, Number, Version, Alg, Use, Side, Place, Mcc, Mnc, Key}

abbrev pub name_texts : List (List ℕ)
name_texts =
    ascii "form" ∷ ascii "number" ∷ ascii "version" ∷ ascii "alg" ∷ ascii "use" ∷ ascii "side" ∷ ascii "place" ∷ ascii "mcc" ∷ ascii "mnc" ∷ ascii "key" ∷ []

unfoldable pub name_text : ℕ → List ℕ
name_text k = get_or name_texts k []

abbrev pub name_count : ℕ
name_count = 10

-- the numbers of the names by which a rule goes
abbrev pub form_name : ℕ
form_name = 0

abbrev pub alg_name : ℕ
alg_name = 3

abbrev pub use_name : ℕ
use_name = 4

abbrev pub mcc_name : ℕ
mcc_name = 7

abbrev pub mnc_name : ℕ
mnc_name = 8

abbrev pub key_name : ℕ
key_name = 9

-- two texts have the same bytes
unfoldable pub same_text : List ℕ → List ℕ → Bool
same_text [] [] = true
same_text [] (y ∷ t) = false
same_text (x ∷ s) [] = false
same_text (x ∷ s) (y ∷ t) = eqb x y && same_text s t

-- the number of a name, from k on; the first after n where it is none of these
unfoldable pub number_from : ℕ → ℕ → List ℕ → ℕ
number_from k zero name = k
number_from k (suc n) name = pick (same_text name (name_text k)) k (number_from (k + 1) n name)

-- the number of a name, or 10 where no record has it
unfoldable pub name_number : List ℕ → ℕ
name_number name = number_from 0 name_count name

-- the number of a line's name
abbrev pub number_in : List ℕ → ℕ
number_in line = name_number (name_in line)

-- the value under a name is a decimal number: not a word, nor the key
unfoldable pub is_decimal : ℕ → Bool
is_decimal k = not (eqb k alg_name) && (not (eqb k use_name) && not (eqb k key_name))

-- a form has a name: form 2 all ten, form 1 neither `form` nor the network codes
unfoldable pub has_name : Bool → ℕ → Bool
has_name two k = pick (eqb k form_name) two (pick (eqb k mcc_name) two (pick (eqb k mnc_name) two (ltb k name_count)))

-- the number of a name in the order of form 2
abbrev pub number_of : Name → ℕ
number_of Form = 0
number_of Number = 1
number_of Version = 2
number_of Alg = 3
number_of Use = 4
number_of Side = 5
number_of Place = 6
number_of Mcc = 7
number_of Mnc = 8
number_of Key = 9

-- the number of the name that a line has, or 10
abbrev pub number_found : Option Name → ℕ
number_found None = name_count
number_found (Some name) = number_of name
