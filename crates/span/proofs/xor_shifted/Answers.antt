-- The bits of bytes 0 to y - 1 are xored with the bits of z. Assumes nothing.
use mathlib.Core.Path.{◌≡◌, sym, ap, ◌∙◌}
use Prim.Native.Nat.{◌+◌, ◌*◌}
use native.Mathlib.Omega.{arith}
use borrow.Author.Rules.{rules}
use lib.Bits.{xor_comm, xor_lt}
use lib.ListN.{get_or, set, length-set}
use Rattle.laws.specs.Bits.{bit_at}
use Rattle.laws.proofs.Bits.{at_lt, byte-lt, byte-ext}
use Rattle.span.proofs.Laws.{xored-none}
use Rattle.span.proofs.Stores.{pair-at, xored-more}
use Rattle.span.proofs.xor_shifted.Goals as goal

pub loop-y-init : goal.loop-y-init
loop-y-init c =
    (search rules, search rules, sym (xored-none c.args.s.now _ 0 _ (λ q. omega (arith, c.slice_known-1.given q))))

pub overflow_cast-s-in-loop-y : goal.overflow_cast-s-in-loop-y
overflow_cast-s-in-loop-y c =
    let l = c.loop-y in
    record { fits = xor_lt 8 c.eight.result (get_or l.s l.y 0) (rw c.eight.ensures (byte-lt _ (λ t. at_lt _ _))) (search rules) }

pub loop-y-preserved : goal.loop-y-preserved
loop-y-preserved c =
    let a = c.args in
    let l = c.loop-y in
    let from = 8 * a.d + a.o in (
      search rules,
      simp length-set l.invariant.1,
      ap (set l.s l.y) (xor_comm c.eight.result (get_or l.s l.y 0))
          ∙ xored-more a.s.now l.s (bit_at a.z) from l.y c.eight.result (at_lt a.z) (omega arith) l.invariant.2
          (c.eight.ensures
          ∙ byte-ext _ _
          (λ t h.
          let e : 8 * (a.d + l.y) + (a.o + t) ≡ from + 8 * l.y + t = omega arith in
          pair-at a.z (a.d + l.y) (a.o + t) (omega arith) ∙ ap (bit_at a.z) e)),
    )

pub returns : goal.returns
returns c =
    let all : c.loop-y.y ≡ c.args.count = omega arith in
    rw all at c.loop-y.invariant.2
