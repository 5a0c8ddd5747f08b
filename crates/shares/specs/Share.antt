-- A share as a fraction in lowest terms. Assumes nothing: these are definitions.
use Rattle.std.specs.Prelude.{◌≡◌, ℕ, zero, suc, ◌*◌, ◌<◌, ◌/◌, ◌%◌, eqb}
use Rattle.std.specs.Int.{◌∣◌}
use Rattle.laws.specs.Choice.{pick}
use Rattle.shares.specs.declared.Share.{Share}

-- the greatest common divisor by Euclid's algorithm. The first argument only bounds how many steps there are
unfoldable pub gcd_within : ℕ → ℕ → ℕ → ℕ
gcd_within zero a b = a
gcd_within (suc k) a b = pick (eqb b 0) a (gcd_within k b (a % b))

unfoldable pub gcd : ℕ → ℕ → ℕ
gcd a b = gcd_within b a b

abbrev pub fraction_of : ℕ → ℕ → Share
fraction_of top bottom = record { top = top; bottom = bottom }

-- the share of a part in a whole: 0/1 where the whole is 0
unfoldable pub share_of : ℕ → ℕ → Share
share_of part whole =
    pick (eqb whole 0) (fraction_of 0 1) (fraction_of (part / gcd part whole) (whole / gcd part whole))

-- a fraction is a share in lowest terms: it times the whole is the part, and above and below have no common divisor but 1
pub record LowestShare (part whole top bottom : ℕ) : Type 0 where
  pub exact : top * whole ≡ part * bottom
  pub some : 0 < bottom
  pub lowest : (d : ℕ) → d ∣ top → d ∣ bottom → d ≡ 1
