-- Lists by their entries, and sequences by a window. Assumes nothing: these are definitions.
use Rattle.std.specs.Prelude.{List, [], ◌∷◌, ◌++◌, ◌≡◌, ℕ, zero, suc, ◌<◌, ◌≤◌, length, get_or, drop}

-- f i, f (i + 1), ..: n of them
unfoldable pub tabulate : {A : Type 0} → (ℕ → A) → ℕ → ℕ → List A
tabulate f i zero = []
tabulate f i (suc n) = f i ∷ tabulate f (suc i) n

-- b has n entries, of which the first i are f's: what a loop over i has filled
pub record Filled {A : Type 0} (f : ℕ → A) (d : A) (n : ℕ) (b : List A) (i : ℕ) : Type 0 where
  pub upto : i ≤ n
  pub size : length b ≡ n
  pub entries : (k : ℕ) → k < i → get_or b k d ≡ f k

-- what stands in row r, column c
abbrev pub cell : List (List ℕ) → ℕ → ℕ → ℕ
cell s r c = get_or (get_or s r []) c 0

-- m rows of n columns, with f r c in row r, column c
unfoldable pub grid : ℕ → ℕ → (ℕ → ℕ → ℕ) → List (List ℕ)
grid m n f = tabulate (λ r. tabulate (f r) 0 n) 0 m

-- A sequence whose entries each come from those just before: `window step init i` is entries i, i + 1, .., as many as `init` has, and
-- `step i` makes of these the entry that follows them.
unfoldable pub window : (ℕ → List ℕ → ℕ) → List ℕ → ℕ → List ℕ
window step init zero = init
window step init (suc i) = drop 1 (window step init i) ++ (step i (window step init i) ∷ [])

-- entry i of that sequence
unfoldable pub sequence : (ℕ → List ℕ → ℕ) → List ℕ → ℕ → ℕ
sequence step init i = get_or (window step init i) 0 0
