-- What is printed, at the front of a buffer. Assumes nothing.
use mathlib.Core.Path.{◌≡◌, ap, ◌∙◌}
use mathlib.Core.Bool.{Bool, true, false}
use mathlib.Core.List.{List, ◌++◌}
use Prim.Native.Nat.{ℕ, ◌≤◌}
use native.Mathlib.Nat.{zero-add}
use native.Mathlib.Omega.{arith}
use lib.Dec.{ltb}
use lib.ListN.{length, drop, replicate, length-append, length-replicate, get_or-replicate}
use lib.Seq.{sets-eq}
use borrow.Author.Tests.{le-ltb, eq-eqb, ne_eqb}
use Rattle.laws.specs.Choice.{pick}
use Rattle.laws.specs.Lists.{tabulate}
use Rattle.laws.proofs.Lists.{tabulate-ext}
use Rattle.writing.specs.Writing.{Put, at_front}
use Rattle.logged_calls.specs.Figures.{figure_count}
use Rattle.call_log.specs.Fed.{Fed, wrong_line}
use Rattle.month_sheet.specs.Sheet.{sheet_text, sums_in, wrong_line_text, printed_text, sheet_room, printed_length, printed_buffer}

-- the text, by the line that is wrong

module _ (f : Fed) where
  pub printed-sheet : wrong_line f.month ≡ 0 → printed_text f ≡ sheet_text (sums_in f.figures)
  unfolding printed_text
  printed-sheet e = rw (eq-eqb (wrong_line f.month) 0 e)

  pub printed-refused : (wrong_line f.month ≡ 0 → ⊥) → printed_text f ≡ wrong_line_text (wrong_line f.month)
  unfolding printed_text
  printed-refused n = rw (ne_eqb (wrong_line f.month) 0 n)

pub printed : (f : Fed) (b : List ℕ) → sheet_room ≤ length b → {b' : List ℕ} {n : ℕ} → n ≤ sheet_room → Put b 0 (printed_text f) b' n
    → (n ≡ printed_length f b) × (b' ≡ printed_buffer f b)
unfolding printed_length printed_buffer
printed f b h short p =
    let t = printed_text f in
    rw (le-ltb (length b) sheet_room h) (
      p.ends ∙ zero-add (length t),
      p.holds ∙ sets-eq t b 0 (omega (arith, p.ends)) ∙ ap (λ (k : ℕ). t ++ drop k b) (zero-add (length t)),
    )

-- what the call answers lies within the buffer
pub printed-within : (f : Fed) (b : List ℕ) {b' : List ℕ} {n : ℕ} → (n ≡ printed_length f b) × (b' ≡ printed_buffer f b) → n ≤ length b'
unfolding printed_length printed_buffer
printed-within f b e =
    let h = go (ltb (length b) sheet_room) in
    omega (arith, e.0, ap length e.1)
  where
    go : (t : Bool) → pick t 0 (length (printed_text f)) ≤ length (pick t b (at_front (printed_text f) b))
    go true = omega arith
    go false = omega (arith, length-append (printed_text f) (drop (length (printed_text f)) b))

-- figures that are all 0
pub zeros-are : replicate {A = ℕ} 223 0 ≡ tabulate (λ k. 0) 0 figure_count
zeros-are = tabulate-ext (λ k. 0) 0 223 0 (replicate {A = ℕ} 223 0) (length-replicate {A = ℕ} 223 0) (λ k h. get_or-replicate 223 k 0 0 h)
