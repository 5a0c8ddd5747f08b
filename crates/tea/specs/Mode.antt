-- The mode key and the mode value (ETSI TS 104 053-2, clauses 5.3, 6.3, 7.3), once, over the table of f. Assumes nothing: these are definitions.
use Rattle.std.specs.Prelude.{List, ℕ, ◌+◌, ◌*◌, ◌/◌, ◌%◌, get_or}
use Rattle.laws.specs.Lists.{tabulate}
use Rattle.tea.specs.declared.mode.Mode.{Mode}
use Rattle.algorithms.specs.Algorithm.{combining, digit_of}
use Rattle.tea.specs.Mixing.{mixed_value}

-- f of a high half and a low half
abbrev pub combined : List ℕ → ℕ → ℕ → ℕ
combined f high low = get_or f (high * 16 + low) 0

-- f of four bits 2 k of CK and of IVX: the high halves of their bytes k
abbrev pub first_of : List ℕ → List ℕ → List ℕ → ℕ → ℕ
first_of f ck ivx k = combined f (get_or ck k 0 / 16) (get_or ivx k 0 / 16)

-- f of four bits 2 k + 1 of CK and of IVX: the low halves
abbrev pub second_of : List ℕ → List ℕ → List ℕ → ℕ → ℕ
second_of f ck ivx k = combined f (get_or ck k 0 % 16) (get_or ivx k 0 % 16)

-- CKM: the high halves of the results
unfoldable pub mode_key : List ℕ → List ℕ → List ℕ → List ℕ
mode_key f ck ivx = tabulate (λ k. first_of f ck ivx k / 16 * 16 + second_of f ck ivx k / 16) 0 24

-- IVM: the low halves
unfoldable pub mode_value : List ℕ → List ℕ → List ℕ → List ℕ
mode_value f ck ivx = tabulate (λ k. first_of f ck ivx k % 16 * 16 + second_of f ck ivx k % 16) 0 24

unfoldable pub mode_by : List ℕ → ℕ → List ℕ → List ℕ → Mode
mode_by f digit ck ivx = record { key = mode_key f ck ivx; value = mode_value f ck ivx; digit = digit }

-- the mode of a key and an initial value
unfoldable pub mode_of : ℕ → List ℕ → List ℕ → Mode
mode_of algorithm ck iv = mode_by (combining algorithm) (digit_of algorithm) ck (mixed_value iv)
