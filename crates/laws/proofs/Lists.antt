-- Laws of `tabulate`: a list that is given by its entries; and of a loop that fills such a list from the front.
-- Assumes nothing.
use mathlib.Core.Path.{◌≡◌, refl, sym, ap, subst, ◌∙◌}
use mathlib.Core.Logic.{◌⊎◌, inl, inr}
use mathlib.Core.List.{List, [], ◌∷◌}
use Prim.Native.Nat.{ℕ, zero, suc, ◌+◌, ◌<◌, ◌≤◌, zero-le}
use native.Mathlib.Nat.{add-zero, add-suc, suc-add, zero-add, le_of_suc-le-suc, not-suc-le-zero, eq-or-lt_of_le}
use native.Mathlib.Omega.{arith}
use lib.ListN.{length, get_or, set, length-set}
use lib.Seq.{ext_get_or, get_or-set_same, get_or-set_other}
use Rattle.laws.specs.Lists.{tabulate, Filled}

pub length-tabulate : {A : Type 0} (f : ℕ → A) (i n : ℕ) → length (tabulate f i n) ≡ n
unfolding tabulate
length-tabulate f i zero = refl
length-tabulate f i (suc n) = ap suc (length-tabulate f (suc i) n)

pub get_d_tabulate : {A : Type 0} (f : ℕ → A) (i n k : ℕ) (d : A) → k < n → get_or (tabulate f i n) k d ≡ f (i + k)
unfolding tabulate
get_d_tabulate f i zero k d h = absurd (not-suc-le-zero h)
get_d_tabulate f i (suc n) zero d h = rw add-zero
get_d_tabulate f i (suc n) (suc k) d h =
    get_d_tabulate f (suc i) n k d (le_of_suc-le-suc h) ∙ ap f (suc-add i k ∙ sym (add-suc i k))

pub tabulate-ext : {A : Type 0} (f : ℕ → A) (i n : ℕ) (d : A) (l : List A) → length l ≡ n
    → ((k : ℕ) → k < n → get_or l k d ≡ f (i + k)) → l ≡ tabulate f i n
tabulate-ext f i n d l e h =
    ext_get_or d l (tabulate f i n) (e ∙ sym (length-tabulate f i n))
    (λ k lt. let q : k < n = subst (λ (m : ℕ). k < m) e lt in h k q ∙ sym (get_d_tabulate f i n k d q))

-- one more store, at i
pub filled : {A : Type 0} (f : ℕ → A) (d : A) (b : List A) (i : ℕ) (v : A) → i < length b → ((k : ℕ) → k < i → get_or b k d ≡ f k) → v ≡ f i
    → (k : ℕ) → k < i + 1 → get_or (set b i v) k d ≡ f k
filled {A} f d b i v hi h e k lt = go (eq-or-lt_of_le {n = k} {m = i} (omega arith))
  where
    go : (k ≡ i) ⊎ (k < i) → get_or (set b i v) k d ≡ f k
    go (inl q) = rw q (get_or-set_same b i v d hi ∙ e)
    go (inr l) = get_or-set_other b i k v d (λ q. let z : k ≡ i = q in omega arith) ∙ h k l

pub fill_none : {A : Type 0} {f : ℕ → A} {d : A} {n : ℕ} {b : List A} → length b ≡ n → Filled f d n b 0
fill_none e = record { upto = zero-le; size = e; entries = λ k h. absurd (not-suc-le-zero h) }

pub fill_more : {A : Type 0} {f : ℕ → A} {d : A} {n : ℕ} {b : List A} {i : ℕ} → Filled f d n b i → i < n → (v : A) → v ≡ f i → Filled f d n (set b i v) (i + 1)
fill_more {A} {f} {d} {n} {b} {i} g h v e =
    let s : length b ≡ n = g.size in
    let l : i < length b = omega arith in
    record { upto = omega arith; size = simp length-set s; entries = filled f d b i v l g.entries e }

-- the same count, written another way
pub fill-to : {A : Type 0} {f : ℕ → A} {d : A} {n : ℕ} {b : List A} {i j : ℕ} → Filled f d n b i → i ≡ j → Filled f d n b j
fill-to {A} {f} {d} {n} {b} g q = subst (λ (m : ℕ). Filled f d n b m) q g

-- one more store, at an index that is written another way
pub fill-at : {A : Type 0} {f : ℕ → A} {d : A} {n : ℕ} {b : List A} {i : ℕ} → Filled f d n b i → i < n → (j : ℕ) → i ≡ j → (v : A) → v ≡ f j → Filled f d n (set b j v) (j + 1)
fill-at {A} {f} {d} {n} {b} {i} g h j q v e = fill_more (fill-to g q) (subst (λ (m : ℕ). m < n) q h) v e

pub fill-all : {A : Type 0} {f : ℕ → A} {d : A} {n : ℕ} {b : List A} {i : ℕ} → Filled f d n b i → n ≤ i → b ≡ tabulate f 0 n
fill-all {A} {f} {d} {n} {b} {i} g h =
    tabulate-ext f 0 n d b g.size (λ k l. let z : k < i = omega arith in rw zero-add (g.entries k z))

-- the same, where f is g on the whole range
pub fill-are : {A : Type 0} {f g : ℕ → A} {d : A} {n : ℕ} {b : List A} {i : ℕ} → Filled f d n b i → n ≤ i → ((k : ℕ) → k < n → f k ≡ g k) → b ≡ tabulate g 0 n
fill-are {A} {f} {g} {d} {n} {b} {i} w h e =
    tabulate-ext g 0 n d b w.size (λ k l. let z : k < i = omega arith in rw zero-add (w.entries k z ∙ e k l))

-- an entry of what is known to be a table
pub tabulate-at : {A : Type 0} (f : ℕ → A) (d : A) {n : ℕ} {b : List A} → b ≡ tabulate f 0 n → (k : ℕ) → k < n → get_or b k d ≡ f k
tabulate-at {A} f d {n} {b} e k h = ap (λ (l : List A). get_or l k d) e ∙ get_d_tabulate f 0 n k d h ∙ ap f (zero-add k)

-- a list is its entries
pub tabulate-entries : {A : Type 0} (d : A) (l : List A) (n : ℕ) → length l ≡ n → tabulate (λ k. get_or l k d) 0 n ≡ l
tabulate-entries d l n e = sym (tabulate-ext (λ k. get_or l k d) 0 n d l e (λ k h. ap (λ (j : ℕ). get_or l j d) (sym (zero-add k))))

-- four rows, each by its equation
pub four : {A : Type 0} {a b c d a' b' c' d' : A} → a ≡ a' → b ≡ b' → c ≡ c' → d ≡ d' → a ∷ b ∷ c ∷ d ∷ [] ≡ a' ∷ b' ∷ c' ∷ d' ∷ []
four p q r s = λ i. p i ∷ q i ∷ r i ∷ s i ∷ []

-- a loop that copies a list entry by entry

-- b is filled with the entries of s below i
abbrev pub Copied : List ℕ → ℕ → List ℕ → ℕ → Type 0
Copied s n b i = Filled (λ k. get_or s k 0) 0 n b i

pub copied_all : {s b : List ℕ} {n i : ℕ} → Copied s n b i → n ≤ i → length s ≡ n → b ≡ s
copied_all {s} {b} {n} g h e = fill-all g h ∙ tabulate-entries 0 s n e
