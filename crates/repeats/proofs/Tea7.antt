-- Under TEA7, whose table breaks the row rule as it is printed, a key and two initial values that differ have one mode value: the mode value
-- alone does not tell the initial value. Assumes nothing.
use mathlib.Core.Path.{◌≡◌, refl, sym, ap, subst}
use mathlib.Core.Logic.{⊎_elim}
use mathlib.Core.List.{List, [], ◌∷◌}
use Prim.Native.Nat.{ℕ, ◌<◌, zero-le}
use native.Mathlib.Omega.{arith}
use borrow.Author.Tests.{ltb-true}
use lib.Dec.{T, ltb, lit<}
use lib.ListN.{length, get_or, get_or-eq_default}
use Rattle.laws.specs.Lists.{tabulate, window, sequence}
use Rattle.laws.proofs.Cases.{lt-or-le}
use Rattle.laws.proofs.Tests.{all, holds}
use Rattle.gf256.specs.Field.{times}
use Rattle.algorithms.specs.Combining.{f_tea7}
use Rattle.algorithms.specs.Algorithm.{combining}
use Rattle.tea.specs.Mixing.{expanded_byte, mixed_value}
use Rattle.tea.specs.Mode.{mode_value, mode_by, mode_of}
use Rattle.repeats.specs.Repeats.{Bytes, InitialValue}

abbrev pub key : List ℕ
key =
    0x46 ∷ 0xe0 ∷ 0x97 ∷ 0x2e ∷ 0x61 ∷ 0x02 ∷ 0x1a ∷ 0x0a ∷ 0x30 ∷ 0xd6 ∷ 0x03 ∷ 0x50 ∷ 0x00 ∷ 0x00 ∷ 0xe5 ∷ 0x04 ∷ 0x43 ∷ 0x40 ∷ 0x30 ∷ 0x00 ∷ 0x10 ∷ 0x1d ∷ 0xeb ∷ 0x05 ∷ []

abbrev pub one : List ℕ
one = 0x45 ∷ 0x6b ∷ 0xf0 ∷ 0x8a ∷ 0x0a ∷ 0x75 ∷ 0x09 ∷ 0x4e ∷ 0xd3 ∷ 0xfa ∷ []

abbrev pub other : List ℕ
other = 0x94 ∷ 0xb5 ∷ 0x03 ∷ 0xeb ∷ 0x6d ∷ 0x9f ∷ 0xb8 ∷ 0x60 ∷ 0xff ∷ 0x57 ∷ []

pub same-value : (mode_of 7 key one).value ≡ (mode_of 7 key other).value
unfolding mode_of mode_by mode_value combining f_tea7 mixed_value expanded_byte sequence window tabulate times
same-value = refl

pub not_same : one ≡ other → ⊥
not_same e = let z : ◌≡◌ {A = ℕ} 0x45 0x94 = ap (λ (l : List ℕ). get_or l 0 0) e in omega arith

bytes-by : (l : List ℕ) → T (all (λ k. ltb (get_or l k 0) 256) 0 (length l)) → Bytes l
bytes-by l t k =
    ⊎_elim (λ (h : k < length l). ltb-true (get_or l k 0) 256 (holds (λ k. ltb (get_or l k 0) 256) 0 (length l) t k zero-le (omega arith)))
    (λ h. subst (λ (x : ℕ). x < 256) (sym (get_or-eq_default l 0 h)) (lit< tt)) (lt-or-le k (length l))

-- So what holds under TEA5 and TEA6 does not hold under TEA7.
pub tea7-values-not-apart : ((ck x y : List ℕ) → Bytes ck → InitialValue x → InitialValue y → (mode_of 7 ck x).value ≡ (mode_of 7 ck y).value → x ≡ y) → ⊥
tea7-values-not-apart apart =
    not_same (apart key one other (bytes-by key tt) (record { long = refl; bytes = bytes-by one tt }) (record { long = refl; bytes = bytes-by other tt }) same-value)
