-- What is printed of a log, said of its lines alone (document 02, [13]). Assumes nothing: these are definitions.
use Rattle.std.specs.Prelude.{List, [], ◌++◌, ◌≡◌, ℕ, ◌+◌, ◌≤◌, ◌<◌, length}
use Rattle.logged_calls.specs.declared.Call.{Call}
use Rattle.logged_calls.specs.Log.{GoodCall, AllGood, call_text, log_text, most_lines}
use Rattle.month_sheet.specs.Sheet.{sheet_text, wrong_line_text}
use Rattle.month_sums.specs.Sums.{sums_over}

-- a text does not begin with a good line
pub record NoGoodLine (text : List ℕ) : Type 0 where
  pub none : (c : Call) (rest : List ℕ) → GoodCall c → text ≡ call_text c ++ rest → ⊥

-- a log whose lines are all good
pub record GoodLog (log printed : List ℕ) : Type 0 where
  pub calls : List Call
  pub is : log ≡ log_text calls
  pub good : AllGood calls
  pub few : length calls ≤ most_lines
  pub sheet : printed ≡ sheet_text (sums_over calls)

-- a log of which some lines are good, and then, while there is more, comes none; or there are as many good lines as a log may have, and more
pub record BadLog (log printed : List ℕ) : Type 0 where
  pub calls : List Call
  pub rest : List ℕ
  pub is : log ≡ log_text calls ++ rest
  pub good : AllGood calls
  pub few : length calls ≤ most_lines
  pub more : rest ≡ [] → ⊥
  pub first : length calls < most_lines → NoGoodLine rest
  pub line : printed ≡ wrong_line_text (length calls + 1)
