-- What `month` prints (document 02, [13]). Assumes nothing: these are definitions.
use Rattle.std.specs.Prelude.{List, [], ◌∷◌, ◌++◌, ℕ, zero, suc, ◌+◌, ◌*◌, ◌/◌, ◌%◌, eqb, ltb, length, get_or}
use Rattle.laws.specs.Choice.{pick}
use Rattle.laws.specs.Lists.{tabulate}
use Rattle.writing.specs.Text.{digits, item, line_text}
use Rattle.writing.specs.Writing.{at_front}
use Rattle.shares.specs.Share.{share_of}
use Rattle.logged_calls.specs.Figures.{figure_count, total_row, calls_at, bits_at, blocks_at, lines_at, count_at}
use Rattle.call_log.specs.Fed.{Fed, fed_to, fed, line_start, wrong_line}

-- refusal 27 (document 02, [13]): a line of the call log is bad
abbrev pub log_line_bad : ℕ
log_line_bad = 27

-- a fraction, at the end of a line
unfoldable pub share_text : ℕ → ℕ → List ℕ
share_text top bottom = item " share=" (digits top) ++ line_text "/" (digits bottom)

-- a slot and direction: its calls, bits and blocks, and their share of all bits
unfoldable pub row_text : ℕ → ℕ → ℕ → ℕ → ℕ → ℕ → List ℕ
row_text slot direction calls bits blocks all =
    item "slot=" (digits slot)
    ++ (item " dir=" (digits direction)
    ++ (item " calls=" (digits calls)
    ++ (item " bits=" (digits bits)
    ++ (item " blocks=" (digits blocks)
    ++ share_text (share_of bits all).top (share_of bits all).bottom))))

unfoldable pub count_text : ℕ → ℕ → List ℕ
count_text code count = item "code=" (digits code) ++ line_text " count=" (digits count)

unfoldable pub total_text : ℕ → ℕ → ℕ → ℕ → List ℕ
total_text lines calls bits blocks =
    item "lines=" (digits lines)
    ++ (item " calls=" (digits calls)
    ++ (item " bits=" (digits bits)
    ++ line_text " blocks=" (digits blocks)))

-- the text of i, of i + 1, ..: n of them
unfoldable pub texts : (ℕ → List ℕ) → ℕ → ℕ → List ℕ
texts text i zero = []
texts text i (suc n) = text i ++ texts text (i + 1) n

-- The figures of a month: a row's are those of the slot row / 2 + 1 and the direction row % 2 + 1; the total's row is that of all accepted calls.
pub record Sums : Type 0 where
  pub calls : ℕ → ℕ
  pub bits : ℕ → ℕ
  pub blocks : ℕ → ℕ
  pub count : ℕ → ℕ
  pub lines : ℕ

abbrev pub row_in : Sums → ℕ → List ℕ
row_in s row = row_text (row / 2 + 1) (row % 2 + 1) (s.calls row) (s.bits row) (s.blocks row) (s.bits total_row)

-- each slot and direction, then each refusal number, then all
unfoldable pub sheet_text : Sums → List ℕ
sheet_text s =
    texts (row_in s) 0 64
    ++ (texts (λ code. count_text code (s.count code)) 1 27
    ++ total_text s.lines (s.calls total_row) (s.bits total_row) (s.blocks total_row))

-- the figures by their places
abbrev pub sums_in : List ℕ → Sums
sums_in figures =
    record {
      calls = λ row. get_or figures (calls_at row) 0;
      bits = λ row. get_or figures (bits_at row) 0;
      blocks = λ row. get_or figures (blocks_at row) 0;
      count = λ code. get_or figures (count_at code) 0;
      lines = get_or figures lines_at 0;
    }

unfoldable pub wrong_line_text : ℕ → List ℕ
wrong_line_text line = item "refused=" (digits log_line_bad) ++ line_text " line=" (digits line)

-- what is printed of a log that is read: the sheet, or the first line that is wrong
unfoldable pub printed_text : Fed → List ℕ
printed_text f = pick (eqb (wrong_line f.month) 0) (sheet_text (sums_in f.figures)) (wrong_line_text (wrong_line f.month))

-- a whole log, read from its first byte with all figures 0
unfoldable pub whole_log : List ℕ → Fed
whole_log log = fed (fed_to (line_start 1) (tabulate (λ k. 0) 0 figure_count)) log

-- no share, no line of a row, of a count or of the total is longer, nor what is printed
abbrev pub longest_share : ℕ
longest_share = 49

abbrev pub longest_row : ℕ
longest_row = 180

abbrev pub longest_count : ℕ
longest_count = 54

abbrev pub longest_total : ℕ
longest_total = 108

abbrev pub sheet_room : ℕ
sheet_room = 13086

-- what the call answers, and what the buffer holds after it
unfoldable pub printed_length : Fed → List ℕ → ℕ
printed_length f buffer = pick (ltb (length buffer) sheet_room) 0 (length (printed_text f))

unfoldable pub printed_buffer : Fed → List ℕ → List ℕ
printed_buffer f buffer = pick (ltb (length buffer) sheet_room) buffer (at_front (printed_text f) buffer)
