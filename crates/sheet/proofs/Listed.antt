-- A listing at the front of a buffer. Assumes nothing.
use mathlib.Core.Path.{◌≡◌, ap, ◌∙◌}
use mathlib.Core.Bool.{Bool, true, false}
use mathlib.Core.List.{List, ◌++◌}
use Prim.Native.Nat.{ℕ, ◌≤◌}
use native.Mathlib.Nat.{zero-add}
use native.Mathlib.Omega.{arith}
use lib.Dec.{ltb}
use lib.ListN.{length, drop, length-append}
use lib.Seq.{sets-eq}
use borrow.Author.Tests.{le-ltb}
use Rattle.laws.specs.Choice.{pick}
use Rattle.writing.specs.Writing.{Put, at_front}
use Rattle.sheet.specs.Sheet.{listing, room, listed_length, listed_buffer}

pub listed : (sheet b : List ℕ) → room ≤ length b → {b' : List ℕ} {n : ℕ} → n ≤ room → Put b 0 (listing sheet) b' n
    → (n ≡ listed_length sheet b) × (b' ≡ listed_buffer sheet b)
unfolding listed_length listed_buffer
listed sheet b h short p =
    let t = listing sheet in
    rw (le-ltb (length b) room h) (
      p.ends ∙ zero-add (length t),
      p.holds ∙ sets-eq t b 0 (omega (arith, p.ends)) ∙ ap (λ (k : ℕ). t ++ drop k b) (zero-add (length t)),
    )

-- what the call answers lies within the buffer
pub listed-within : (sheet b : List ℕ) {b' : List ℕ} {n : ℕ} → (n ≡ listed_length sheet b) × (b' ≡ listed_buffer sheet b) → n ≤ length b'
unfolding listed_length listed_buffer
listed-within sheet b e =
    let h = go (ltb (length b) room) in
    omega (arith, e.0, ap length e.1)
  where
    go : (t : Bool) → pick t 0 (length (listing sheet)) ≤ length (pick t b (at_front (listing sheet) b))
    go true = omega arith
    go false = omega (arith, length-append (listing sheet) (drop (length (listing sheet)) b))
