-- There are as many figures after a byte as before it. Assumes nothing.
use mathlib.Core.Bool.{Bool, true, false}
use mathlib.Core.List.{List, [], ◌∷◌}
use mathlib.Core.Path.{◌≡◌, refl, ◌∙◌}
use Prim.Native.Nat.{ℕ, ◌+◌}
use lib.ListN.{length, length-set}
use Rattle.laws.specs.Choice.{pick}
use Rattle.logged_calls.specs.declared.Call.{Call}
use Rattle.call_log.specs.declared.Month.{Month}
use Rattle.logged_calls.specs.Log.{is_accepted}
use Rattle.logged_calls.specs.Figures.{row_of, total_row, calls_at, bits_at, blocks_at, lines_at, count_at, plus, into_row, added_accepted, added_refused, added}
use Rattle.call_log.specs.Fed.{Fed, fed_to, line_start, stopped, call_of, taken, ended, ends_line, in_line, fed_byte, fed}

pub plus-size : (f : List ℕ) (i n : ℕ) → length (plus f i n) ≡ length f
unfolding plus
plus-size f i n = length-set f i _

row-size : (f : List ℕ) (row b k : ℕ) → length (into_row f row b k) ≡ length f
unfolding into_row
row-size f row b k = plus-size _ (blocks_at row) k ∙ (plus-size _ (bits_at row) b ∙ plus-size f (calls_at row) 1)

accepted-size : (f : List ℕ) (row b k : ℕ) → length (added_accepted f row b k) ≡ length f
unfolding added_accepted
accepted-size f row b k = plus-size _ lines_at 1 ∙ (row-size _ total_row b k ∙ row-size f row b k)

refused-size : (f : List ℕ) (code : ℕ) → length (added_refused f code) ≡ length f
unfolding added_refused
refused-size f code = plus-size _ lines_at 1 ∙ plus-size f (count_at code) 1

pub added-size : (f : List ℕ) (c : Call) → length (added f c) ≡ length f
unfolding added
added-size f c = go (is_accepted c)
  where
    go : (t : Bool) → length (pick t (added_accepted f (row_of c.slot c.direction) c.bits c.blocks) (added_refused f c.code)) ≡ length f
    go true = accepted-size f (row_of c.slot c.direction) c.bits c.blocks
    go false = refused-size f c.code

ended-size : (m : Month) (f : List ℕ) → length (ended m f).figures ≡ length f
unfolding ended
ended-size m f = go (taken m)
  where
    go : (t : Bool) → length (pick t (fed_to (line_start (m.line + 1)) (added f (call_of m))) (fed_to (stopped m.line) f)).figures ≡ length f
    go true = added-size f (call_of m)
    go false = refl

pub byte-size : (f : Fed) (b : ℕ) → length (fed_byte f b).figures ≡ length f.figures
unfolding fed_byte
byte-size f b = go f.month.good (ends_line f.month b)
  where
    go : (t u : Bool) → length (pick t (pick u (ended f.month f.figures) (fed_to (in_line f.month b) f.figures)) f).figures ≡ length f.figures
    go true true = ended-size f.month f.figures
    go true false = refl
    go false u = refl

pub fed-size : (f : Fed) (bytes : List ℕ) → length (fed f bytes).figures ≡ length f.figures
unfolding fed
fed-size f [] = refl
fed-size f (b ∷ bytes) = fed-size (fed_byte f b) bytes ∙ byte-size f b
