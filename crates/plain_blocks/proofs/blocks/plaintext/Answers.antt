-- `plain_blocks::blocks::plaintext`: the mode value in front, and the tag behind it. Assumes nothing.
use mathlib.Core.List.{List, ◌++◌}
use mathlib.Core.Path.{◌≡◌, refl}
use Prim.Native.Nat.{ℕ, ◌+◌, ◌≤◌}
use native.Mathlib.Omega.{arith}
use borrow.Author.Rules.{rules}
use borrow.Rule.Slice.PartMut.{put_mid}
use lib.ListN.{length, length-append}
use Rattle.std.proofs.lemmas.Slice.{overwrites}
use Rattle.plain_blocks.proofs.blocks.plaintext.Goals as goal

behind : (xs zs ys : List ℕ) → length xs ≡ 24 → length zs ≡ 8 → length ys ≡ 8 → put_mid 24 8 (xs ++ zs) ys ≡ xs ++ ys
behind xs zs ys e f g =
    let whole : length (xs ++ zs) ≤ 24 + 8 = simp length-append (omega arith) in
    search (rules, overwrites)

pub returns : goal.returns
returns c =
    let ivm : length c.args.ivm ≡ 24 = search rules in
    rw (c.copy_from_slice.ensures.after, c.copy_from_slice-2.ensures.after) (behind c.args.ivm _ c.args.tag ivm refl (search rules))
