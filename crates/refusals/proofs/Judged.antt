-- What was judged is done where its number is 0. Assumes nothing.
use Rattle.std.specs.Prelude.{◌≡◌, ◌<◌, false, eqb, Result, Ok, Err}
use Rattle.std.specs.Result.{is_ok}
use mathlib.Core.Path.{refl, sym}
use native.Mathlib.Omega.{arith}
use borrow.Author.Tests.{ne_eqb}
use Rattle.refusals.specs.declared.Refusal.{Refusal}
use Rattle.refusals.specs.Numbers.{done}
use Rattle.refusals.specs.Refused.{number, number_of}
use Rattle.refusals.proofs.Tags.{number-tag}

pub number-above_0 : (refusal : Refusal) → 0 < number refusal
number-above_0 refusal = omega (arith, number-tag refusal)

pub refused-not_done : (refusal : Refusal) → eqb (number refusal) done ≡ false
refused-not_done refusal = ne_eqb (number refusal) done (λ z. omega (arith, number-above_0 refusal))

pub ok-by_number : {A : Type 0} (judged : Result A Refusal) → is_ok judged ≡ eqb (number_of judged) done
ok-by_number (Ok _) = refl
ok-by_number (Err refusal) = sym (refused-not_done refusal)

-- what a refusal that was given says of a pick by its number
pub ruleset judged_steps = (number-above_0)
