-- One round more; one column more of a block. Assumes nothing.
use mathlib.Core.Path.{◌≡◌, refl, ap, ◌∙◌}
use mathlib.Core.List.{List}
use Prim.Native.Nat.{ℕ, ◌+◌, ◌-◌, ◌*◌, ◌/◌, ◌%◌, ◌<◌, ◌≤◌}
use native.Mathlib.Omega.{arith}
use native.Mathlib.Numerals.{add-one}
use lib.Dec.{lit<}
use lib.ListN.{set}
use Rattle.laws.specs.Lists.{cell, Filled}
use Rattle.laws.proofs.Lists.{fill-at, fill-to}
use Rattle.round_steps.specs.Steps.{round_of}
use Rattle.rijndael.specs.Cipher.{rounds}

next : (w : List ℕ) (s : List (List ℕ)) (m : ℕ) → round_of w (m + 1) (rounds w s m) ≡ rounds w s (m + 1)
unfolding rounds
next w s m = rw add-one

pub rounds-more : (w : List ℕ) (s : List (List ℕ)) (n : ℕ) → 1 ≤ n → round_of w n (rounds w s (n - 1)) ≡ rounds w s (n + 1 - 1)
rounds-more w s n h =
    let e : n ≡ n - 1 + 1 = omega arith in
    let f : n - 1 + 1 ≡ n + 1 - 1 = omega arith in
    ap (λ (m : ℕ). round_of w m (rounds w s (n - 1))) e ∙ next w s (n - 1) ∙ ap (rounds w s) f

-- byte 4 c + r of a block is cell (r, c)
at : (s : List (List ℕ)) (r c k : ℕ) → r < 4 → k ≡ 4 * c + r → cell s r c ≡ cell s (k % 4) (k / 4)
at s r c k h e =
    let p : r ≡ k % 4 = omega arith in
    let q : c ≡ k / 4 = omega arith in
    λ i. cell s (p i) (q i)

pub quarter-more : (s : List (List ℕ)) (c : ℕ) {b : List ℕ} → c < 8 → Filled (λ k. cell s (k % 4) (k / 4)) 0 32 b (4 * c)
    → Filled (λ k. cell s (k % 4) (k / 4)) 0 32 (set (set (set (set b (4 * c) (cell s 0 c)) (4 * c + 1) (cell s 1 c)) (4 * c + 2) (cell s 2 c)) (4 * c + 3) (cell s 3 c)) (4 * (c + 1))
quarter-more s c h g =
    fill-to
    (fill-at
    (fill-at
    (fill-at
    (fill-at g (omega arith) (4 * c) refl _ (at s 0 c (4 * c) (lit< tt) (omega arith)))
    (omega arith) (4 * c + 1) (omega arith) _ (at s 1 c (4 * c + 1) (lit< tt) refl))
    (omega arith) (4 * c + 2) (omega arith) _ (at s 2 c (4 * c + 2) (lit< tt) refl))
    (omega arith) (4 * c + 3) (omega arith) _ (at s 3 c (4 * c + 3) (lit< tt) refl))
    (omega arith)
