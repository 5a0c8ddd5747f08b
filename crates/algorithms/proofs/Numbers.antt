-- What a number picks is what its algorithm picks. Assumes nothing.
use mathlib.Core.Bool.{Bool, true, false}
use mathlib.Core.Path.{◌≡◌, refl, ap, ◌∙◌}
use Prim.Native.Nat.{ℕ}
use lib.Dec.{eqb}
use Rattle.laws.specs.Choice.{pick}
use Rattle.algorithms.specs.declared.Algorithm.{Algorithm}
use Rattle.algorithms.specs.declared.Algorithm.TheVariants.{Tea5, Tea6, Tea7}
use Rattle.algorithms.specs.Algorithm.{by_algorithm}
use Rattle.algorithms.specs.Numbers.{of_number}

abbrev pub of_algorithm : {A : Type 0} → Algorithm → A → A → A → A
of_algorithm Tea5 five six seven = five
of_algorithm Tea6 five six seven = six
of_algorithm Tea7 five six seven = seven

tested : {A : Type 0} (s t : Bool) (five six seven : A) → of_algorithm (pick s Tea5 (pick t Tea6 Tea7)) five six seven ≡ pick s five (pick t six seven)
tested true t five six seven = refl
tested false true five six seven = refl
tested false false five six seven = refl

pub picked : {A : Type 0} {algorithm : Algorithm} (number : ℕ) (five six seven : A) → algorithm ≡ of_number number
    → of_algorithm algorithm five six seven ≡ by_algorithm number five six seven
picked number five six seven e =
    ap (λ a. of_algorithm a five six seven) e ∙ tested (eqb number 5) (eqb number 6) five six seven
