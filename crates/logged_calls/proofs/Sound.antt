-- What the tests of a line say of its numbers. Assumes nothing.
use mathlib.Core.Bool.{true}
use mathlib.Core.Path.{◌≡◌}
use Prim.Native.Nat.{ℕ, ◌≤◌}
use lib.Dec.{leb}
use borrow.Author.Tests.{leb-true, eq-eqb, ne_eqb}
use Rattle.laws.proofs.Cases.{and_left, and_right}
use Rattle.fields.specs.Fields.{between}
use Rattle.fields.proofs.Ranges.{between-low, between-high}
use Rattle.logged_calls.specs.declared.Call.{Call}
use Rattle.logged_calls.specs.Log.{is_sound, sound_accepted, sound_refused, most_bits, largest_blocks, largest_code}

-- an accepted call's numbers
pub record Ranges (slot direction bits blocks : ℕ) : Type 0 where
  pub slot-low : 1 ≤ slot
  pub slot-high : slot ≤ 32
  pub direction-low : 1 ≤ direction
  pub direction-high : direction ≤ 2
  pub bits-high : bits ≤ most_bits
  pub blocks-high : blocks ≤ largest_blocks

ranges : (s d b k : ℕ) → sound_accepted s d b k ≡ true → Ranges s d b k
unfolding sound_accepted
ranges s d b k e =
    let slot = and_left (between 1 s 32) _ e in
    let e1 = and_right (between 1 s 32) _ e in
    let direction = and_left (between 1 d 2) _ e1 in
    let e2 = and_right (between 1 d 2) _ e1 in
    let e3 = and_right (leb b most_bits) _ e2 in
    record {
      slot-low = between-low 1 s 32 slot;
      slot-high = between-high 1 s 32 slot;
      direction-low = between-low 1 d 2 direction;
      direction-high = between-high 1 d 2 direction;
      bits-high = leb-true b most_bits (and_left (leb b most_bits) _ e2);
      blocks-high = leb-true k largest_blocks (and_left (leb k largest_blocks) _ e3);
    }

pub accepted-ranges : (c : Call) → is_sound c ≡ true → c.code ≡ 0 → Ranges c.slot c.direction c.bits c.blocks
unfolding is_sound
accepted-ranges c e z = ranges c.slot c.direction c.bits c.blocks (rw (eq-eqb c.code 0 z) at e)

refused : (c : Call) → is_sound c ≡ true → (c.code ≡ 0 → ⊥) → sound_refused c.bits c.blocks c.code ≡ true
unfolding is_sound
refused c e z = rw (ne_eqb c.code 0 z) at e

pub refused-code : (c : Call) → is_sound c ≡ true → (c.code ≡ 0 → ⊥) → c.code ≤ largest_code
unfolding sound_refused
refused-code c e z = leb-true c.code largest_code (and_left (leb c.code largest_code) _ (refused c e z))
