-- One run and then another, by turns: what the buffer holds, and how many blocks are made. Assumes nothing.
use mathlib.Core.Path.{◌≡◌, refl, sym, ap, ◌∙◌}
use mathlib.Core.List.{List, [], ◌∷◌}
use Prim.Native.Nat.{ℕ, zero, suc, ◌+◌, ◌-◌, ◌/◌, ◌<◌, ◌≤◌, max}
use native.Mathlib.Omega.{arith}
use lib.ListN.{length, get_or}
use Rattle.block_counts.specs.Counts.{blocks_used, block_after}
use Rattle.block_counts.proofs.Blocks.{after-used, after-early, both_used}
use Rattle.keystream.specs.declared.Run.{Run}
use Rattle.keystream.specs.Work.{Fits, Later, through_run, blocks_over}

one_up : (t : ℕ) → t + 1 ≡ suc t
one_up t = omega arith

module _ (p q : Run) where
  -- the run of a turn
  abbrev pub run_at : ℕ → Run
  run_at zero = p
  run_at (suc t) = q

  -- the number after the last block's, and the blocks made, before a turn
  abbrev pub next_at : ℕ → ℕ
  next_at zero = 0
  next_at (suc t) = block_after (next_at t) (run_at t).skip (run_at t).n

  abbrev pub made_at : ℕ → ℕ
  made_at zero = 0
  made_at (suc t) = made_at t + (next_at (suc t) - max (next_at t) ((run_at t).skip / 256))

  -- it is the next of the two
  pub run-is : (none : Run) (t : ℕ) → t < 2 → get_or (p ∷ q ∷ []) t none ≡ run_at t
  run-is none zero h = refl
  run-is none (suc zero) h = refl
  run-is none (suc (suc t)) h = absurd (omega arith)

  pub next-after : (t : ℕ) → next_at (t + 1) ≡ block_after (next_at t) (run_at t).skip (run_at t).n
  next-after t = ap next_at (one_up t)

  pub made_after : (t : ℕ) → made_at (t + 1) ≡ made_at t + (next_at (t + 1) - max (next_at t) ((run_at t).skip / 256))
  made_after t = ap made_at (one_up t) ∙ ap (λ (m : ℕ). made_at t + (m - max (next_at t) ((run_at t).skip / 256))) (sym (next-after t))

  pub fits-at : (buf : List ℕ) → Fits buf p → Fits buf q → (t : ℕ) → Fits buf (run_at t)
  fits-at buf hp hq zero = hp
  fits-at buf hp hq (suc t) = hq

  -- the second run starts in the block that the first reached last, or later
  pub early-at : Later p q → (t : ℕ) → t < 2 → 0 < (run_at t).n → next_at t ≤ (run_at t).skip / 256 + 1
  early-at later zero h some = omega arith
  early-at later (suc zero) h some = after-early p.skip p.n q.skip (later some)
  early-at later (suc (suc t)) h some = absurd (omega arith)

  -- after both
  pub both-made : Later p q → made_at 2 ≡ blocks_over p q
  both-made later =
      ap (λ (m : ℕ). m + (next_at 2 - max (next_at 1) (q.skip / 256))) first ∙ both_used p.skip p.n q.skip q.n later
    where
      first : made_at 1 ≡ blocks_used p.skip p.n
      first = omega (arith, after-used p.skip p.n)

  module _ (k : ℕ → ℕ) (buf : List ℕ) where
    abbrev pub buf_at : ℕ → List ℕ
    buf_at zero = buf
    buf_at (suc t) = through_run (buf_at t) k (run_at t)

    pub buf-after : (t : ℕ) → buf_at (t + 1) ≡ through_run (buf_at t) k (run_at t)
    buf-after t = ap buf_at (one_up t)

-- a run that fits a buffer fits one of that length
pub fits-long : (a b : List ℕ) (p : Run) → length a ≡ length b → Fits b p → Fits a p
fits-long a b p e h = let inside = h.inside in record { inside = omega (arith, e, inside); streamed = h.streamed }
