-- The pieces of an accepted plan are runs that the keystream can be xored into. Assumes nothing.
use mathlib.Core.Bool.{true, false, true≢false, ◌&&◌}
use mathlib.Core.Path.{◌≡◌, sym, ap, ◌∙◌}
use mathlib.Core.List.{List}
use Prim.Native.Nat.{ℕ, ◌*◌, ◌<◌, ◌≤◌}
use native.Mathlib.Omega.{arith}
use borrow.Author.Tests.{eqb-true}
use lib.Dec.{eqb}
use lib.ListN.{length}
use Rattle.laws.proofs.Cases.{and_left, and_right}
use Rattle.span.specs.Span.{xored}
use Rattle.span.proofs.Laws.{Bytes, xored-none, xored-same}
use Rattle.block_counts.proofs.Blocks.{used-none, both-none, both-pos}
use Rattle.plan.specs.declared.Piece.{Piece}
use Rattle.plan.specs.declared.Plan.{Plan}
use Rattle.plan.proofs.Sound.{Taken, Sound, none, one, two}
use Rattle.keystream.specs.Work.{Fits, Later}
use Rattle.whole.specs.Whole.{run_of, has_no_piece, ciphered, plan_blocks}

taken-fits : (buf : List ℕ) (l : ℕ) (p : Piece) → l ≤ 8 * length buf → Taken l p → Fits buf (run_of p)
taken-fits buf l p h t = let inside = t.inside in record { inside = omega (arith, inside); streamed = t.streamed }

none-fits : (buf : List ℕ) → Fits buf (record { start = 0; n = 0; skip = 0 })
none-fits buf = record { inside = omega arith; streamed = omega arith }

pub pieces-fit : (buf : List ℕ) (l : ℕ) (p q : Piece) → l ≤ 8 * length buf → Sound l p q
    → Fits buf (run_of p) × Fits buf (run_of q) × Later (run_of p) (run_of q)
pieces-fit buf l p q h none = (none-fits buf, none-fits buf, λ k. absurd (omega arith))
pieces-fit buf l p q h (one t) = (taken-fits buf l p h t, none-fits buf, λ k. absurd (omega arith))
pieces-fit buf l p q h (two t u b) = (taken-fits buf l p h t, taken-fits buf l q h u, λ k. b.stream)

-- a piece has a block; no piece: no block, and no bit changes

module _ (p : Plan) where
  empty-first : has_no_piece p ≡ true → p.first.length ≡ 0
  empty-first e = eqb-true p.first.length 0 (and_left (eqb p.first.length 0) (eqb p.second.length 0) e)

  empty-second : has_no_piece p ≡ true → p.second.length ≡ 0
  empty-second e = eqb-true p.second.length 0 (and_right (eqb p.first.length 0) (eqb p.second.length 0) e)

  pub some-blocks : has_no_piece p ≡ false → 0 < plan_blocks p
  some-blocks e =
      both-pos p.first.skip p.first.length p.second.skip p.second.length
      (λ a b. true≢false (sym (λ i. eqb (a i) 0 && eqb (b i) 0) ∙ e))

  pub none-blocks : has_no_piece p ≡ true → plan_blocks p ≡ 0
  none-blocks e =
      rw (empty-second e) (both-none p.first.skip p.first.length p.second.skip ∙ used-none p.first.skip p.first.length (empty-first e))

  -- no bit depends on the keystream
  pub none-same : (buf : List ℕ) (k l : ℕ → ℕ) → has_no_piece p ≡ true → ciphered buf k p ≡ ciphered buf l p
  none-same buf k l e =
      let f = p.first in
      let s = p.second in
      rw (empty-first e, empty-second e)
      (ap (λ (b : List ℕ). xored b k s.start s.skip 0) (xored-same buf k l f.start f.skip f.skip 0 (λ i h. absurd (omega (arith, h))))
      ∙ xored-same (xored buf l f.start f.skip 0) k l s.start s.skip s.skip 0 (λ i h. absurd (omega (arith, h))))

  pub none-ciphered : (buf : List ℕ) (k : ℕ → ℕ) → Bytes buf → has_no_piece p ≡ true → ciphered buf k p ≡ buf
  none-ciphered buf k small e =
      rw (empty-first e, empty-second e)
      (ap (λ (l : List ℕ). xored l k p.second.start p.second.skip 0) (xored-none buf k p.first.start p.first.skip small)
      ∙ xored-none buf k p.second.start p.second.skip small)
