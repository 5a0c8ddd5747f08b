-- One block more, in order: the laws of the loop over a run. Assumes nothing.
use mathlib.Core.Path.{◌≡◌, refl, sym, subst, ◌∙◌}
use mathlib.Core.Logic.{⊎_elim}
use mathlib.Core.List.{List, []}
use Prim.Native.Nat.{ℕ, ◌+◌, ◌-◌, ◌/◌, ◌%◌, ◌<◌, ◌≤◌, min, max}
use native.Mathlib.Omega.{arith}
use borrow.Author.Tests.{eqb-true, eqb-false}
use lib.Dec.{eqb}
use lib.ListN.{length, get_or, set, length-set}
use lib.Seq.{get_or-set_same}
use Rattle.laws.proofs.Cases.{pick-cases, lt-or-le}
use Rattle.block_counts.specs.Counts.{block_after}
use Rattle.block_counts.proofs.Blocks.{after_none, after-some}
use Rattle.tea.specs.declared.mode.Mode.{Mode}
use Rattle.tea.specs.Keystream.{block_of}
use Rattle.keystream.specs.declared.Work.{Work}
use Rattle.keystream.specs.Work.{at_block, Held}

-- block j is put in its place
pub put-held : (mode : Mode) (j : ℕ) (kept : List (List ℕ)) → length kept ≡ 2 → Held mode (j + 1) (set kept (j % 2) (block_of mode j))
put-held mode j kept two =
    let d : j + 1 - 1 ≡ j = omega arith in
    record {
      two = length-set kept (j % 2) (block_of mode j) ∙ two;
      last = λ h. rw d (get_or-set_same kept (j % 2) (block_of mode j) [] (omega (arith, two)));
    }

-- and found there
pub held_at : (mode : Mode) (j : ℕ) (kept : List (List ℕ)) → Held mode (j + 1) kept → get_or kept (j % 2) [] ≡ block_of mode j
held_at mode j kept held =
    let d : j + 1 - 1 ≡ j = omega arith in
    subst (λ (i : ℕ). get_or kept (i % 2) [] ≡ block_of mode i) d (held.last (omega arith))

module _ (work : Work) (j : ℕ) where
  pub at-schedules : (at_block work j).schedules ≡ work.schedules
  at-schedules = pick-cases (λ (r : Work). r.schedules ≡ work.schedules) (eqb work.next (j + 1)) (λ e. refl) (λ e. refl)

  pub at_next : (at_block work j).next ≡ j + 1
  at_next = pick-cases (λ (r : Work). r.next ≡ j + 1) (eqb work.next (j + 1)) (eqb-true work.next (j + 1)) (λ e. refl)

  pub at-blocks : work.next ≤ j + 1 → (at_block work j).blocks ≡ work.blocks + min 1 (j + 1 - work.next)
  at-blocks h =
      pick-cases (λ (r : Work). r.blocks ≡ work.blocks + min 1 (j + 1 - work.next)) (eqb work.next (j + 1))
      (λ t. let e : work.next ≡ j + 1 = eqb-true work.next (j + 1) t in omega arith)
      (λ t. let e = eqb-false work.next (j + 1) t in omega (arith, e))

  pub at-few : work.blocks ≤ work.next → work.next ≤ j + 1 → (at_block work j).blocks ≤ (at_block work j).next
  at-few few h = omega (arith, at_next, at-blocks h, few)

-- from m on, as far as block b and then as far as block j, which is b or the next
one_more : (m b j : ℕ) → m ≤ b + 1 → b ≤ j → j ≤ b + 1 → b + 1 - m + min 1 (j + 1 - (b + 1)) ≡ j + 1 - m
one_more m b j h lo hi = omega arith

-- a run of `done` bits, and then `some` bits more of one block: the number after the last block's, and the blocks made for the run
module _ (first skip done some : ℕ) (in_block : (skip + done) % 256 + some ≤ 256) (more : 0 < some) where
  pub next-later : (skip + done) / 256 + 1 ≡ block_after first skip (done + some)
  next-later = sym (after-some first skip (done + some) (omega arith) ∙ omega arith)

  module _ (next : ℕ) (e : next ≡ block_after first skip done) (h : first ≤ skip / 256 + 1) where
    pub next_small : next ≤ (skip + done) / 256 + 1
    next_small =
        ⊎_elim
        (λ z. let n : next ≡ (skip + done - 1) / 256 + 1 = e ∙ after-some first skip done z in omega arith)
        (λ z. let n : next ≡ first = e ∙ after_none first skip done (omega arith) in omega arith)
        (lt-or-le 0 done)

    pub made-later : next - max first (skip / 256) + min 1 ((skip + done) / 256 + 1 - next) ≡ (skip + done) / 256 + 1 - max first (skip / 256)
    made-later =
        ⊎_elim
        (λ z.
        let b = (skip + done - 1) / 256 in
        let low : max first (skip / 256) ≤ b + 1 = omega arith in
        let n : next ≡ b + 1 = e ∙ after-some first skip done z in
        rw n (one_more (max first (skip / 256)) b ((skip + done) / 256) low (omega arith) (omega arith)))
        (λ z. let n : next ≡ first = e ∙ after_none first skip done (omega arith) in omega arith)
        (lt-or-le 0 done)
