-- A log read byte by byte: how far it is read, and what the next byte makes of it. Assumes nothing: these are definitions.
use Rattle.std.specs.Prelude.{Bool, true, false, ◌&&◌, List, [], ◌∷◌, ℕ, ◌+◌, ◌-◌, ◌*◌, eqb, leb, get_or}
use Rattle.laws.specs.Choice.{pick}
use Rattle.forms.specs.Decimals.{may_begin, may_follow}
use Rattle.writing.specs.Text.{ascii, lf}
use Rattle.logged_calls.specs.declared.Call.{Call}
use Rattle.call_log.specs.declared.Month.{Month}
use Rattle.logged_calls.specs.Log.{is_sound, largest_number, largest_code, most_lines}
use Rattle.logged_calls.specs.Figures.{added}

-- the name of a part of a line, with the space before it
unfoldable pub part_name : ℕ → List ℕ
part_name part =
    pick (eqb part 0) (ascii "slot=")
    (pick (eqb part 1) (ascii " dir=")
    (pick (eqb part 2) (ascii " bits=")
    (pick (eqb part 3) (ascii " blocks=")
    (pick (eqb part 4) (ascii " code=") []))))

-- a byte of that name, or 0 behind it
unfoldable pub name_byte : ℕ → ℕ → ℕ
name_byte part at = get_or (part_name part) at 0

abbrev pub final_part : ℕ
final_part = 4

-- the largest number of a part
unfoldable pub high_of : ℕ → ℕ
high_of part = pick (eqb part final_part) largest_code largest_number

-- of a part, a digit of its number is read: no name is so long
abbrev pub in_number : ℕ
in_number = 9

-- nothing is read of a line
abbrev pub fresh : ℕ → Bool → Month
fresh line good =
    record { line = line; good = good; part = 0; at = 0; number = 0; first = 0; second = 0; third = 0; fourth = 0 }

-- before a line's first byte
abbrev pub line_start : ℕ → Month
line_start line = fresh line true

-- a line is wrong: it stays the first such line, whatever follows
abbrev pub stopped : ℕ → Month
stopped line = fresh line false

-- so far into a part
abbrev pub so_far : Month → ℕ → ℕ → Month
so_far m at number =
    record { line = m.line; good = true; part = m.part; at = at; number = number; first = m.first; second = m.second; third = m.third; fourth = m.fourth }

-- the space before the next part's name is read: the number joins the four before it
abbrev pub next_part : Month → ℕ → Month
next_part m part =
    record { line = m.line; good = true; part = part; at = 1; number = 0; first = m.second; second = m.third; third = m.fourth; fourth = m.number }

-- a digit more, the space after a number, or neither
unfoldable pub after_digit : Month → ℕ → Month
after_digit m b =
    pick (may_follow (high_of m.part) m.number b)
    (so_far m in_number (m.number * 10 + (b - 48)))
    (pick (leb final_part m.part) (stopped m.line)
    (pick (eqb b 32) (next_part m (m.part + 1)) (stopped m.line)))

-- behind a name: the first digit of its number
unfoldable pub first_digit : Month → ℕ → Month
first_digit m b = pick (may_begin 0 (high_of m.part) b) (so_far m in_number (b - 48)) (stopped m.line)

-- a byte of a name
unfoldable pub of_name : Month → ℕ → ℕ → Month
of_name m name b = pick (eqb b name) (so_far m (m.at + 1) 0) (stopped m.line)

-- a byte that does not end a line
unfoldable pub in_line : Month → ℕ → Month
in_line m b =
    pick (leb in_number m.at) (after_digit m b)
    (pick (eqb (name_byte m.part m.at) 0) (first_digit m b) (of_name m (name_byte m.part m.at) b))

-- LF after the last part's number
unfoldable pub ends_line : Month → ℕ → Bool
ends_line m b = eqb b lf && (eqb m.part final_part && leb in_number m.at)

-- the numbers of a line that ends
abbrev pub call_of : Month → Call
call_of m = record { slot = m.first; direction = m.second; bits = m.third; blocks = m.fourth; code = m.number }

unfoldable pub taken : Month → Bool
taken m = leb m.line most_lines && is_sound (call_of m)

pub record Fed : Type 0 where
  pub month : Month
  pub figures : List ℕ

abbrev pub fed_to : Month → List ℕ → Fed
fed_to m figures = record { month = m; figures = figures }

unfoldable pub ended : Month → List ℕ → Fed
ended m figures = pick (taken m) (fed_to (line_start (m.line + 1)) (added figures (call_of m))) (fed_to (stopped m.line) figures)

-- the next byte
unfoldable pub fed_byte : Fed → ℕ → Fed
fed_byte f b =
    pick f.month.good
    (pick (ends_line f.month b) (ended f.month f.figures) (fed_to (in_line f.month b) f.figures))
    f

-- bytes, one after the other
unfoldable pub fed : Fed → List ℕ → Fed
fed f [] = f
fed f (b ∷ bytes) = fed (fed_byte f b) bytes

-- the line that is wrong, once the log is over: 0 where there is none. A line that is not ended is wrong
unfoldable pub wrong_line : Month → ℕ
wrong_line m = pick (m.good && (eqb m.part 0 && eqb m.at 0)) 0 m.line
