-- `blocks_used` is the number of different blocks that hold a used bit, and `blocks_of_both` that of two runs; how large they get. Assumes nothing.
use mathlib.Core.Path.{◌≡◌, refl, sym, ap, ◌∙◌}
use mathlib.Core.Logic.{◌⊎◌, inl, inr, ⊎_elim}
use mathlib.Core.Bool.{Bool, true, false, not, ◌&&◌}
use mathlib.Core.List.{List}
use Prim.Native.Nat.{ℕ, ◌+◌, ◌-◌, ◌*◌, ◌/◌, ◌<◌, ◌≤◌, max}
use native.Mathlib.Nat.{zero-add}
use native.Mathlib.Omega.{arith}
use borrow.Author.Tests.{eq-eqb, ne_eqb, lt-ltb, le-ltb}
use lib.Dec.{eqb, ltb}
use lib.ListN.{length, get_or}
use Rattle.laws.specs.Choice.{pick}
use Rattle.laws.specs.Lists.{tabulate}
use Rattle.laws.proofs.Cases.{lt-or-le, eq-or-ne, pick-cases}
use Rattle.laws.proofs.Lists.{length-tabulate, get_d_tabulate}
use Rattle.span.specs.Span.{longest_stream}
use Rattle.block_counts.specs.Counts.{blocks_used, block_after, share_block, blocks_of_both, most_blocks}

pub used-none : (skip n : ℕ) → n ≡ 0 → blocks_used skip n ≡ 0
unfolding blocks_used
used-none skip n e = rw (eq-eqb n 0 e)

pub used-some : (skip n : ℕ) → (n ≡ 0 → ⊥) → blocks_used skip n ≡ (skip + n - 1) / 256 - skip / 256 + 1
unfolding blocks_used
used-some skip n e = rw (ne_eqb n 0 e)

pub used_pos : (skip n : ℕ) → 0 < n → 0 < blocks_used skip n
used_pos skip n h = let u = used-some skip n (λ e. omega arith) in omega (arith, u)

-- block r holds one of the n bits from `skip` on
abbrev pub UsedBlock : ℕ → ℕ → ℕ → Type 0
UsedBlock skip n r = (i : ℕ) × (i < n) × ((skip + i) / 256 ≡ r)

-- the blocks that do are those from the first bit's block to the last bit's

pub used-between : (skip n r : ℕ) → UsedBlock skip n r → (0 < n) × (skip / 256 ≤ r) × (r ≤ (skip + n - 1) / 256)
used-between skip n r u =
    let i = u.0 in
    let h : i < n = u.1 in
    let e : (skip + i) / 256 ≡ r = u.2 in
    (omega arith, omega arith, omega arith)

pub between-used : (skip n r : ℕ) → 0 < n → skip / 256 ≤ r → r ≤ (skip + n - 1) / 256 → UsedBlock skip n r
between-used skip n r h lo hi =
    ⊎_elim
    (λ u. (0, h, omega arith))
    (λ u. (256 * r - skip, omega arith, omega arith))
    (lt-or-le (256 * r) skip)

-- l has each number that P holds of, once, and no other
pub record Enumerates (P : ℕ → Type 0) (l : List ℕ) : Type 0 where
  pub only : (i : ℕ) → i < length l → P (get_or l i 0)
  pub each : (r : ℕ) → P r → (i : ℕ) × (i < length l) × (get_or l i 0 ≡ r)
  pub once : (i j : ℕ) → i < length l → j < length l → get_or l i 0 ≡ get_or l j 0 → i ≡ j

-- such a list of the blocks that hold a used bit has `blocks_used skip n` entries: that is their number
pub blocks-counted : (skip n : ℕ) → (l : List ℕ) × (length l ≡ blocks_used skip n) × Enumerates (UsedBlock skip n) l
blocks-counted skip n = (blocks, long, record { only = only; each = each; once = once })
  where
    blocks : List ℕ
    blocks = tabulate (λ r. r) (skip / 256) (blocks_used skip n)

    long : length blocks ≡ blocks_used skip n
    long = length-tabulate _ (skip / 256) (blocks_used skip n)

    entry : (i : ℕ) → i < length blocks → get_or blocks i 0 ≡ skip / 256 + i
    entry i h = get_d_tabulate _ (skip / 256) (blocks_used skip n) i 0 (omega (arith, long))

    only : (i : ℕ) → i < length blocks → UsedBlock skip n (get_or blocks i 0)
    only i h =
        rw (entry i h)
        (⊎_elim
        (λ e. absurd (omega (arith, long, used-none skip n e)))
        (λ e. between-used skip n (skip / 256 + i) (omega (arith, e)) (omega arith) (omega (arith, e, long, used-some skip n e)))
        (eq-or-ne n 0))

    each : (r : ℕ) → UsedBlock skip n r → (i : ℕ) × (i < length blocks) × (get_or blocks i 0 ≡ r)
    each r u =
        let b = used-between skip n r u in
        let some : 0 < n = b.0 in
        let lo : skip / 256 ≤ r = b.1 in
        let hi : r ≤ (skip + n - 1) / 256 = b.2 in
        let h : r - skip / 256 < length blocks = omega (arith, long, used-some skip n (λ e. omega arith)) in
        (r - skip / 256, h, entry (r - skip / 256) h ∙ omega arith)

    once : (i j : ℕ) → i < length blocks → j < length blocks → get_or blocks i 0 ≡ get_or blocks j 0 → i ≡ j
    once i j hi hj e = omega (arith, entry i hi, entry j hj)

-- the number after the last block's

pub after_none : (next skip n : ℕ) → n ≡ 0 → block_after next skip n ≡ next
unfolding block_after
after_none next skip n e = rw (eq-eqb n 0 e)

pub after-some : (next skip n : ℕ) → 0 < n → block_after next skip n ≡ (skip + n - 1) / 256 + 1
unfolding block_after
after-some next skip n h = rw (ne_eqb n 0 (λ e. omega arith))

-- the blocks of a run from the first bit's on
pub after-used : (skip n : ℕ) → block_after 0 skip n - skip / 256 ≡ blocks_used skip n
after-used skip n =
    ⊎_elim
    (λ h. let a = after-some 0 skip n h in let u = used-some skip n (λ e. omega arith) in omega (arith, a, u))
    (λ h. let z : n ≡ 0 = omega arith in let a = after_none 0 skip n z in let u = used-none skip n z in omega (arith, a, u))
    (lt-or-le 0 n)

-- a run behind another starts in the block that the first reached last, or later
pub after-early : (skip n skip₂ : ℕ) → skip + n ≤ skip₂ → block_after 0 skip n ≤ skip₂ / 256 + 1
after-early skip n skip₂ h =
    ⊎_elim
    (λ k. let a = after-some 0 skip n k in omega (arith, a))
    (λ k. let a = after_none 0 skip n (omega arith) in omega (arith, a))
    (lt-or-le 0 n)

-- a run behind another: its blocks are those from the number on that the first did not reach
pub both_used : (skip n skip₂ n₂ : ℕ) → (0 < n₂ → skip + n ≤ skip₂)
    → blocks_used skip n + (block_after (block_after 0 skip n) skip₂ n₂ - max (block_after 0 skip n) (skip₂ / 256)) ≡ blocks_of_both skip n skip₂ n₂
unfolding blocks_of_both
both_used skip n skip₂ n₂ later =
    ⊎_elim
    (λ h₂.
    let a₂ = after-some (block_after 0 skip n) skip₂ n₂ h₂ in
    let u₂ = used-some skip₂ n₂ (λ e. omega arith) in
    ⊎_elim
    (λ h.
    let a = after-some 0 skip n h in
    let l = later h₂ in
    ⊎_elim
    (λ e. rw (ne_eqb n 0 (λ z. omega arith), ne_eqb n₂ 0 (λ z. omega arith), eq-eqb ((skip + n - 1) / 256) (skip₂ / 256) e, a₂, u₂, a) (omega arith))
    (λ e.
    let b = (skip + n - 1) / 256 in
    let up : b ≤ skip₂ / 256 = omega arith in
    rw (ne_eqb n 0 (λ z. omega arith), ne_eqb n₂ 0 (λ z. omega arith), ne_eqb b (skip₂ / 256) e, a₂, u₂, a)
    (apart b (skip₂ / 256) ((skip₂ + n₂ - 1) / 256) (blocks_used skip n) (omega (arith, e, up)) (omega arith)))
    (eq-or-ne ((skip + n - 1) / 256) (skip₂ / 256)))
    (λ h.
    let z : n ≡ 0 = omega arith in
    rw (eq-eqb n 0 z, a₂, u₂, after_none 0 skip n z, used-none skip n z) (omega arith))
    (lt-or-le 0 n))
    (λ h₂.
    let z : n₂ ≡ 0 = omega arith in
    rw (eq-eqb n₂ 0 z, after_none (block_after 0 skip n) skip₂ n₂ z, used-none skip₂ n₂ z) (none-shared (eqb n 0) (block_after 0 skip n)))
    (lt-or-le 0 n₂)
  where
    apart : (b a e u : ℕ) → b < a → a ≤ e → u + (e + 1 - max (b + 1) a) ≡ u + (e - a + 1) - 0
    apart b a e u h k = omega arith

    none-shared : (t : Bool) (a : ℕ) → blocks_used skip n + (a - max a (skip₂ / 256)) ≡ blocks_used skip n + 0 - pick (not t && not true && eqb ((skip + n - 1) / 256) (skip₂ / 256)) 1 0
    none-shared true a = omega arith
    none-shared false a = omega arith

-- a second run of no bits adds none
pub both-none : (skip n skip₂ : ℕ) → blocks_of_both skip n skip₂ 0 ≡ blocks_used skip n
both-none skip n skip₂ =
    let a = after_none (block_after 0 skip n) skip₂ 0 refl in
    sym (both_used skip n skip₂ 0 (λ h. absurd (omega arith))) ∙ rw a (omega arith)

-- a run of some bits uses a block
pub both-pos : (skip n skip₂ n₂ : ℕ) → (n ≡ 0 → n₂ ≡ 0 → ⊥) → 0 < blocks_of_both skip n skip₂ n₂
unfolding blocks_of_both
both-pos skip n skip₂ n₂ some =
    ⊎_elim
    (λ e. rw (eq-eqb n 0 e, used-none skip n e) (let u = used_pos skip₂ n₂ (pos n₂ (some e)) in omega (arith, u)))
    (λ ne.
    let u = used_pos skip n (pos n ne) in
    ⊎_elim
    (λ e. rw (ne_eqb n 0 ne, eq-eqb n₂ 0 e, used-none skip₂ n₂ e) (omega (arith, u)))
    (λ ne₂.
    let u₂ = used_pos skip₂ n₂ (pos n₂ ne₂) in
    pick-cases (λ (x : ℕ). 0 < blocks_used skip n + blocks_used skip₂ n₂ - x) (share_block skip n skip₂ n₂) (λ t. omega (arith, u, u₂)) (λ t. omega (arith, u, u₂)))
    (eq-or-ne n₂ 0))
    (eq-or-ne n 0)
  where
    pos : (m : ℕ) → (m ≡ 0 → ⊥) → 0 < m
    pos m ne = omega (arith, ne)

-- how many blocks n bits use at most, and that they do from bit 255 of a block on

pub used-bound : (skip n : ℕ) → 0 < n → blocks_used skip n ≤ most_blocks n
used-bound skip n h = let u = used-some skip n (λ e. omega arith) in omega (arith, u)

pub used-most : (n : ℕ) → 0 < n → blocks_used 255 n ≡ most_blocks n
used-most n h = let u = used-some 255 n (λ e. omega arith) in omega (arith, u)

-- more than 8,033 bits do not fit the keystream from bit 255 on; as far as its end they use all of its 33 blocks, and never more
pub used-beyond : (skip n : ℕ) → 8033 < n → skip + n ≤ longest_stream → blocks_used skip n ≤ 33
used-beyond skip n h fits = let u = used-some skip n (λ e. omega arith) in omega (arith, u)

pub used-to-end : (n : ℕ) → 8033 < n → n ≤ longest_stream → blocks_used (longest_stream - n) n ≡ 33
used-to-end n h fits = let u = used-some (longest_stream - n) n (λ e. omega arith) in omega (arith, u)

-- two runs within the keystream use no more than its blocks
pub both-bound : (skip n skip₂ n₂ : ℕ) → (0 < n₂ → skip + n ≤ skip₂) → skip + n ≤ longest_stream → skip₂ + n₂ ≤ longest_stream → blocks_of_both skip n skip₂ n₂ ≤ 33
both-bound skip n skip₂ n₂ later h h₂ = rw (← both_used skip n skip₂ n₂ later) bound
  where
    next : ℕ
    next = block_after 0 skip n

    low : next ≤ 33
    low = ⊎_elim (λ k. let a = after-some 0 skip n k in omega (arith, a)) (λ k. let a = after_none 0 skip n (omega arith) in omega (arith, a)) (lt-or-le 0 n)

    high : block_after next skip₂ n₂ ≤ 33
    high = ⊎_elim (λ k. let a = after-some next skip₂ n₂ k in omega (arith, a)) (λ k. let a = after_none next skip₂ n₂ (omega arith) in omega (arith, a, low)) (lt-or-le 0 n₂)

    some : blocks_used skip n ≤ next
    some = let u = after-used skip n in omega (arith, u)

    sum : (u a b c : ℕ) → u ≤ a → a ≤ 33 → b ≤ 33 → u + (b - max a c) ≤ 33
    sum u a b c p q r = omega arith

    bound : blocks_used skip n + (block_after next skip₂ n₂ - max next (skip₂ / 256)) ≤ 33
    bound = sum (blocks_used skip n) next (block_after next skip₂ n₂) (skip₂ / 256) some low high

-- the numbers of two stretches, one behind the other
abbrev Stretches : ℕ → ℕ → ℕ → ℕ → ℕ → Type 0
Stretches a b c d r = ((a ≤ r) × (r < b)) ⊎ ((c ≤ r) × (r < d))

module _ (a b c d : ℕ) (ab : a ≤ b) (bc : b ≤ c) where
  place : ℕ → ℕ
  place i = pick (ltb i (b - a)) (a + i) (c + (i - (b - a)))

  numbers : List ℕ
  numbers = tabulate place 0 (b - a + (d - c))

  count : length numbers ≡ b - a + (d - c)
  unfolding numbers
  count = length-tabulate place 0 (b - a + (d - c))

  at_place : (i : ℕ) → i < b - a + (d - c) → get_or numbers i 0 ≡ place i
  unfolding numbers
  at_place i h = get_d_tabulate place 0 (b - a + (d - c)) i 0 h ∙ ap place (zero-add i)

  first_entry : (i : ℕ) → i < b - a → get_or numbers i 0 ≡ a + i
  unfolding place
  first_entry i u = at_place i (omega arith) ∙ rw (lt-ltb i (b - a) u)

  second-entry : (i : ℕ) → b - a ≤ i → i < b - a + (d - c) → get_or numbers i 0 ≡ c + (i - (b - a))
  unfolding place
  second-entry i u h = at_place i h ∙ rw (le-ltb i (b - a) u)

  -- an entry is in the first stretch or in the second
  entry : (i : ℕ) → i < length numbers → ((i < b - a) × (get_or numbers i 0 ≡ a + i)) ⊎ ((b - a ≤ i) × (get_or numbers i 0 ≡ c + (i - (b - a))))
  entry i h = ⊎_elim (λ u. inl (u, first_entry i u)) (λ u. inr (u, second-entry i u (omega (arith, count)))) (lt-or-le i (b - a))

  stretches : (l : List ℕ) × (length l ≡ b - a + (d - c)) × Enumerates (Stretches a b c d) l
  stretches = (numbers, count, record { only = only; each = each; once = once })
    where
      only : (i : ℕ) → i < length numbers → Stretches a b c d (get_or numbers i 0)
      only i h =
          ⊎_elim
          (λ u. inl (omega (arith, u.0, u.1), omega (arith, u.0, u.1)))
          (λ u. inr (omega (arith, u.0, u.1), omega (arith, u.0, u.1, count)))
          (entry i h)

      each : (r : ℕ) → Stretches a b c d r → (i : ℕ) × (i < length numbers) × (get_or numbers i 0 ≡ r)
      each r s =
          ⊎_elim
          (λ u.
          let lo : a ≤ r = u.0 in
          let hi : r < b = u.1 in
          (r - a, omega (arith, count), first_entry (r - a) (omega arith) ∙ omega arith))
          (λ u.
          let lo : c ≤ r = u.0 in
          let hi : r < d = u.1 in
          (b - a + (r - c), omega (arith, count), second-entry (b - a + (r - c)) (omega arith) (omega arith) ∙ omega arith))
          s

      once : (i j : ℕ) → i < length numbers → j < length numbers → get_or numbers i 0 ≡ get_or numbers j 0 → i ≡ j
      once i j hi hj e =
          ⊎_elim
          (λ u. ⊎_elim (λ v. omega (arith, e, u.1, v.1)) (λ v. absurd (omega (arith, e, u.0, u.1, v.1))) (entry j hj))
          (λ u. ⊎_elim (λ v. absurd (omega (arith, e, v.0, u.1, v.1))) (λ v. omega (arith, e, u.0, v.0, u.1, v.1)) (entry j hj))
          (entry i hi)

-- the same numbers, said in another way
renamed : (P Q : ℕ → Type 0) (l : List ℕ) → ((r : ℕ) → P r → Q r) → ((r : ℕ) → Q r → P r) → Enumerates P l → Enumerates Q l
renamed P Q l f g e = record { only = λ i h. f _ (e.only i h); each = λ r q. e.each r (g r q); once = e.once }

-- a list of the different blocks that hold a bit of one of two runs has `blocks_of_both` entries: that is their number
pub both-counted : (skip n skip₂ n₂ : ℕ) → (0 < n₂ → skip + n ≤ skip₂)
    → (l : List ℕ) × (length l ≡ blocks_of_both skip n skip₂ n₂) × Enumerates (λ r. UsedBlock skip n r ⊎ UsedBlock skip₂ n₂ r) l
both-counted skip n skip₂ n₂ later =
    let found = stretches (next - blocks_used skip n) next behind end (omega arith) (omega arith) in
    (found.0, found.1 ∙ size, renamed _ _ found.0 used listed found.2)
  where
    next : ℕ
    next = block_after 0 skip n

    behind : ℕ
    behind = max next (skip₂ / 256)

    end : ℕ
    end = block_after next skip₂ n₂

    back : next - (next - blocks_used skip n) ≡ blocks_used skip n
    back = let f = after-used skip n in omega (arith, f)

    some_first : (r : ℕ) → r < next → 0 < n
    some_first r h = ⊎_elim (λ k. k) (λ k. let e = after_none 0 skip n (omega arith) in absurd (omega (arith, e))) (lt-or-le 0 n)

    some-second : (r : ℕ) → behind ≤ r → r < end → 0 < n₂
    some-second r lo hi = ⊎_elim (λ k. k) (λ k. let e = after_none next skip₂ n₂ (omega arith) in absurd (omega (arith, e))) (lt-or-le 0 n₂)

    size : next - (next - blocks_used skip n) + (end - behind) ≡ blocks_of_both skip n skip₂ n₂
    size = ap (λ (m : ℕ). m + (end - behind)) back ∙ both_used skip n skip₂ n₂ later

    used : (r : ℕ) → Stretches (next - blocks_used skip n) next behind end r → UsedBlock skip n r ⊎ UsedBlock skip₂ n₂ r
    used r s =
        ⊎_elim
        (λ u.
        let lo : next - blocks_used skip n ≤ r = u.0 in
        let hi : r < next = u.1 in
        let k = some_first r hi in
        let e = after-some 0 skip n k in
        let w = after-used skip n in
        inl (between-used skip n r k (omega (arith, e, w)) (omega (arith, e))))
        (λ u.
        let lo : behind ≤ r = u.0 in
        let hi : r < end = u.1 in
        let k = some-second r lo hi in
        let e = after-some next skip₂ n₂ k in
        inr (between-used skip₂ n₂ r k (omega arith) (omega (arith, e))))
        s

    listed : (r : ℕ) → UsedBlock skip n r ⊎ UsedBlock skip₂ n₂ r → Stretches (next - blocks_used skip n) next behind end r
    listed r s =
        ⊎_elim
        (λ u.
        let w = used-between skip n r u in
        let lo : skip / 256 ≤ r = w.1 in
        let hi : r ≤ (skip + n - 1) / 256 = w.2 in
        let e = after-some 0 skip n w.0 in
        let f = after-used skip n in
        inl (omega (arith, e, f), omega (arith, e)))
        (λ u.
        let w = used-between skip₂ n₂ r u in
        let lo : skip₂ / 256 ≤ r = w.1 in
        let hi : r ≤ (skip₂ + n₂ - 1) / 256 = w.2 in
        let e = after-some next skip₂ n₂ w.0 in
        let order : skip + n ≤ skip₂ = later w.0 in
        ⊎_elim
        (λ v.
        let k = some_first r v in
        let g = after-some 0 skip n k in
        let f = after-used skip n in
        inl (omega (arith, g, f), v))
        (λ v. inr (omega arith, omega (arith, e)))
        (lt-or-le r next))
        s
