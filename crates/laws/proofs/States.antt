-- A loop that stores into a state of four rows by eight columns, one cell after the other, in an order: the one law of Rijndael's steps.
-- `place r c` is the number of cell (r, c) in that order. Assumes nothing.
use mathlib.Core.Path.{◌≡◌, refl, sym, ap, subst, ◌∙◌}
use mathlib.Core.Logic.{⊎_elim}
use mathlib.Core.List.{List, [], ◌∷◌}
use Prim.Native.Nat.{ℕ, zero, suc, ◌+◌, ◌*◌, ◌<◌, ◌≤◌, zero-le}
use native.Mathlib.Nat.{zero-add, eq-or-lt_of_le, le_of_suc-le-suc, not-suc-le-zero}
use native.Mathlib.Omega.{arith}
use lib.Dec.{lit<}
use lib.ListN.{length, get_or, set, length-set, replicate, get_or-replicate}
use lib.Seq.{get_or-set_same, get_or-set_other}
use denote.Array.{Array, each}
use denote.Laws.{Is}
use denote.Plain.{UInt}
use denote.Shadow.{shadow}
use mir.Syntax.{w8}
use mir.Val.{Val}
use Rattle.laws.specs.Lists.{tabulate, cell, grid}
use Rattle.laws.proofs.Lists.{tabulate-ext, tabulate-at}
use Rattle.laws.proofs.Cases.{eq-or-ne}

-- what the store `t[r][c] = v` makes of t
abbrev pub put : List (List ℕ) → ℕ → ℕ → ℕ → List (List ℕ)
put t r c v = set t r (set (get_or t r []) c v)

pub record Shape (t : List (List ℕ)) : Type 0 where
  pub rows : length t ≡ 4
  pub row : (r : ℕ) → r < 4 → length (get_or t r []) ≡ 8

-- `[[0u8; 8]; 4]` has the shape
pub zero-shape : Shape (replicate 4 (replicate 8 0))
zero-shape = record { rows = refl; row = λ r h. ap length (get_or-replicate 4 r (replicate 8 0) [] h) }

-- a parameter `[[u8; 8]; 4]` has the shape: `state-shape c.good.0` at the function's entry
each_row : (xs : List (List ℕ)) (us : List Val) → shadow (each (List ℕ) (Array (UInt w8) 8).own_val xs us) → (r : ℕ) → r < length xs → length (get_or xs r []) ≡ 8
each_row [] us p r h = absurd (not-suc-le-zero h)
each_row (x ∷ xs) [] p r h = absurd p
each_row (x ∷ xs) (u ∷ us) p zero h = p.0.1.0.1
each_row (x ∷ xs) (u ∷ us) p (suc r) h = each_row xs us p.1 r (le_of_suc-le-suc h)

pub state-shape : {t : List (List ℕ)} {vs : List Val} → Is (Array (Array (UInt w8) 8) 4) t vs → Shape t
state-shape {t} {vs} p =
    let e : length t ≡ 4 = p.1.0.1 in
    record { rows = e; row = λ r h. each_row t p.0 p.1.1 r (omega arith) }

-- the first n cells of the order are f's
pub record Placed (place : ℕ → ℕ → ℕ) (f : ℕ → ℕ → ℕ) (t : List (List ℕ)) (n : ℕ) : Type 0 where
  pub upto : n ≤ 32
  pub shape : Shape t
  pub cells : (r c : ℕ) → r < 4 → c < 8 → place r c < n → cell t r c ≡ f r c

lt_of_ne : (a b : ℕ) → a < b + 1 → (a ≡ b → ⊥) → a < b
lt_of_ne a b h z = ⊎_elim (λ e. absurd (z e)) (λ l. l) (eq-or-lt_of_le {n = a} {m = b} (omega arith))

-- an order: no two cells have the same place
abbrev pub Apart : (ℕ → ℕ → ℕ) → Type 0
Apart place = (r c i k : ℕ) → r < 4 → c < 8 → i < 4 → k < 8 → place i k ≡ place r c → (i ≡ r) × (k ≡ c)

row_put : (t : List (List ℕ)) (r c v : ℕ) → Shape t → r < 4 → (i : ℕ) → i < 4 → length (get_or (put t r c v) i []) ≡ 8
row_put t r c v s hr i hi = ⊎_elim same other (eq-or-ne i r)
  where
    l : r < length t
    l = let z : length t ≡ 4 = s.rows in omega arith

    same : i ≡ r → length (get_or (put t r c v) i []) ≡ 8
    same e = rw (e, get_or-set_same t r (set (get_or t r []) c v) [] l, length-set (get_or t r []) c v) (s.row r hr)

    other : (i ≡ r → ⊥) → length (get_or (put t r c v) i []) ≡ 8
    other ne = rw (get_or-set_other t r i (set (get_or t r []) c v) [] ne) (s.row i hi)

pub shape-put : (t : List (List ℕ)) (r c v : ℕ) → Shape t → r < 4 → Shape (put t r c v)
shape-put t r c v s h = record { rows = length-set t r (set (get_or t r []) c v) ∙ s.rows; row = row_put t r c v s h }

-- the cell that was stored, and each other one
cell_same : (t : List (List ℕ)) (r c v : ℕ) → Shape t → r < 4 → c < 8 → cell (put t r c v) r c ≡ v
cell_same t r c v s hr hc =
    let a : length t ≡ 4 = s.rows in
    let b : length (get_or t r []) ≡ 8 = s.row r hr in
    ap (λ (w : List ℕ). get_or w c 0) (get_or-set_same t r (set (get_or t r []) c v) [] (omega arith))
    ∙ get_or-set_same (get_or t r []) c v 0 (omega arith)

cell_other : (t : List (List ℕ)) (r c v i k : ℕ) → Shape t → r < 4 → ((i ≡ r) × (k ≡ c) → ⊥) → cell (put t r c v) i k ≡ cell t i k
cell_other t r c v i k s hr ne = ⊎_elim same other (eq-or-ne i r)
  where
    l : r < length t
    l = let z : length t ≡ 4 = s.rows in omega arith

    same : i ≡ r → cell (put t r c v) i k ≡ cell t i k
    same e = rw (e, get_or-set_same t r (set (get_or t r []) c v) [] l) (get_or-set_other (get_or t r []) c k v 0 (λ q. ne (e, q)))

    other : (i ≡ r → ⊥) → cell (put t r c v) i k ≡ cell t i k
    other d = ap (λ (w : List ℕ). get_or w k 0) (get_or-set_other t r i (set (get_or t r []) c v) [] d)

-- one more store, at the next place
pub place-more : {place : ℕ → ℕ → ℕ} {f : ℕ → ℕ → ℕ} {t : List (List ℕ)} {n : ℕ} → Apart place → Placed place f t n
    → (r c : ℕ) → r < 4 → c < 8 → n < 32 → n ≡ place r c → (v : ℕ) → v ≡ f r c → Placed place f (put t r c v) (n + 1)
place-more {place} {f} {t} {n} apart g r c hr hc hn e v q =
    record { upto = omega arith; shape = shape-put t r c v g.shape hr; cells = at }
  where
    at : (i k : ℕ) → i < 4 → k < 8 → place i k < n + 1 → cell (put t r c v) i k ≡ f i k
    at i k hi hk h = ⊎_elim new old (eq-or-ne (place i k) n)
      where
        new : place i k ≡ n → cell (put t r c v) i k ≡ f i k
        new z = let w = apart r c i k hr hc hi hk (z ∙ e) in rw (w.0, w.1) (cell_same t r c v g.shape hr hc ∙ q)

        old : (place i k ≡ n → ⊥) → cell (put t r c v) i k ≡ f i k
        old z =
            cell_other t r c v i k g.shape hr (λ w. z (rw (w.0, w.1) (sym e)))
            ∙ g.cells i k hi hk (lt_of_ne (place i k) n h z)

pub place_none : {place : ℕ → ℕ → ℕ} {f : ℕ → ℕ → ℕ} {t : List (List ℕ)} → Shape t → Placed place f t 0
place_none s = record { upto = zero-le; shape = s; cells = λ r c hr hc h. absurd (omega arith) }

pub place-all : {place : ℕ → ℕ → ℕ} {f : ℕ → ℕ → ℕ} {t : List (List ℕ)} {n : ℕ} → Placed place f t n
    → ((r c : ℕ) → r < 4 → c < 8 → place r c < n) → t ≡ grid 4 8 f
unfolding grid
place-all {place} {f} {t} {n} g h =
    tabulate-ext (λ r. tabulate (f r) 0 8) 0 4 [] t g.shape.rows (λ r hr. row r hr ∙ ap (λ (m : ℕ). tabulate (f m) 0 8) (sym (zero-add r)))
  where
    row : (r : ℕ) → r < 4 → get_or t r [] ≡ tabulate (f r) 0 8
    row r hr =
        tabulate-ext (f r) 0 8 0 (get_or t r []) (g.shape.row r hr)
        (λ c hc. g.cells r c hr hc (h r c hr hc) ∙ ap (f r) (sym (zero-add c)))

-- column by column: columns below c are f's
abbrev pub by_column : ℕ → ℕ → ℕ
by_column r c = 4 * c + r

column_apart : Apart by_column
column_apart r c i k hr hc hi hk e = (omega arith, omega arith)

abbrev pub Columns : (ℕ → ℕ → ℕ) → List (List ℕ) → ℕ → Type 0
Columns f t c = Placed by_column f t (4 * c)

pub columns-none : {f : ℕ → ℕ → ℕ} {t : List (List ℕ)} → Shape t → Columns f t 0
columns-none = place_none

pub columns-more : {f : ℕ → ℕ → ℕ} {t : List (List ℕ)} {c : ℕ} → Columns f t c → c < 8 → (v w x y : ℕ) → v ≡ f 0 c → w ≡ f 1 c → x ≡ f 2 c → y ≡ f 3 c
    → Columns f (put (put (put (put t 0 c v) 1 c w) 2 c x) 3 c y) (c + 1)
columns-more {f} {t} {c} g h v w x y p q r s =
    subst (λ (n : ℕ). Placed by_column f (put (put (put (put t 0 c v) 1 c w) 2 c x) 3 c y) n) (omega arith)
    (place-more column_apart
    (place-more column_apart
    (place-more column_apart
    (place-more column_apart g 0 c (lit< tt) h (omega arith) (omega arith) v p)
    1 c (lit< tt) h (omega arith) (omega arith) w q)
    2 c (lit< tt) h (omega arith) (omega arith) x r)
    3 c (lit< tt) h (omega arith) (omega arith) y s)

pub columns-all : {f : ℕ → ℕ → ℕ} {t : List (List ℕ)} {c : ℕ} → Columns f t c → 8 ≤ c → t ≡ grid 4 8 f
columns-all {f} {t} {c} g h = place-all g (λ r k hr hk. omega arith)

-- row by row: rows below r, and row r below c, are f's
abbrev pub by_row : ℕ → ℕ → ℕ
by_row r c = 8 * r + c

row_apart : Apart by_row
row_apart r c i k hr hc hi hk e = (omega arith, omega arith)

abbrev pub Rows : (ℕ → ℕ → ℕ) → List (List ℕ) → ℕ → ℕ → Type 0
Rows f t r c = Placed by_row f t (8 * r + c)

pub rows_none : {f : ℕ → ℕ → ℕ} {t : List (List ℕ)} → Shape t → Rows f t 0 0
rows_none = place_none

pub rows_more : {f : ℕ → ℕ → ℕ} {t : List (List ℕ)} {r c : ℕ} → Rows f t r c → r < 4 → c < 8 → (v : ℕ) → v ≡ f r c → Rows f (put t r c v) r (c + 1)
rows_more {f} {t} {r} {c} g hr hc v e =
    subst (λ (n : ℕ). Placed by_row f (put t r c v) n) (omega arith) (place-more row_apart g r c hr hc (omega arith) refl v e)

-- a whole row is passed
pub rows_next : {f : ℕ → ℕ → ℕ} {t : List (List ℕ)} (r c : ℕ) → Rows f t r c → c ≡ 8 → Rows f t (r + 1) 0
rows_next {f} {t} r c g e = subst (λ (n : ℕ). Placed by_row f t n) (omega arith) g

pub rows_all : {f : ℕ → ℕ → ℕ} {t : List (List ℕ)} {r : ℕ} → Rows f t r 0 → 4 ≤ r → t ≡ grid 4 8 f
rows_all {f} {t} {r} g h = place-all g (λ i k hi hk. omega arith)

-- a cell of what is known to be a grid
pub grid-at : (f : ℕ → ℕ → ℕ) {t : List (List ℕ)} → t ≡ grid 4 8 f → (r c : ℕ) → r < 4 → c < 8 → cell t r c ≡ f r c
unfolding grid
grid-at f e r c hr hc = tabulate-at (f r) 0 (tabulate-at (λ r. tabulate (f r) 0 8) [] e r hr) c hc
