-- Forms of text: how a text is read byte by byte, and where reading stops. Assumes nothing: these are definitions.
use Rattle.std.specs.Prelude.{List, [], ◌∷◌, Bool, ◌&&◌, ◌||◌, ℕ, suc, eqb, ltb, length, get_or}
use Prim.Native.String.{String}
use Rattle.laws.specs.Choice.{pick}
use Rattle.writing.specs.Text.{ascii}

infixr 20 ◌>>=◌
-- a value, with no more bytes; or the bytes that may stand next, and for each how it goes on
pub data Form (A : Type 0) : Type 0 where
  done : A → Form A
  next : (ℕ → Bool) → (ℕ → Form A) → Form A

-- a value and the place after its text; or the place of the first byte that may not stand there, or at which the text ends too early
pub data Outcome (A : Type 0) : Type 0 where
  found : A → ℕ → Outcome A
  wrong : ℕ → Outcome A

-- a byte stands at the place p of the text s, and it may
abbrev pub stands : (ℕ → Bool) → List ℕ → ℕ → Bool
stands may s p = ltb p (length s) && may (get_or s p 0)

-- the text s, read from the place p
unfoldable pub read_at : {A : Type 0} → Form A → List ℕ → ℕ → Outcome A
read_at (done v) s p = found v p
read_at (next may then) s p = pick (stands may s p) (read_at (then (get_or s p 0)) s (suc p)) (wrong p)

-- one form, and then another that may depend on its value
unfoldable pub ◌>>=◌ : {A B : Type 0} → Form A → (A → Form B) → Form B
◌>>=◌ (done v) g = g v
◌>>=◌ (next may then) g = next may (λ b. then b >>= g)

-- by one form or by another, where neither is done before the other: a byte that may stand next in either, and then those that take it
unfoldable pub either : {A : Type 0} → Form A → Form A → Form A
either (done v) g = done v
either (next may then) (done v) = done v
either (next may then) (next may' then') =
    next (λ b. may b || may' b) (λ b. pick (may b) (pick (may' b) (either (then b) (then' b)) (then b)) (then' b))

-- these bytes, for the value 0
unfoldable pub literal : List ℕ → Form ℕ
literal [] = done 0
literal (c ∷ cs) = next (λ b. eqb b c) (λ b. literal cs)

-- these bytes, and then a value
abbrev pub named : {A : Type 0} → List ℕ → Form A → Form A
named cs value = literal cs >>= λ _. value

-- a line: its name, and then its value, whose form ends with LF
abbrev pub line : {A : Type 0} → String → Form A → Form A
line name value = named (ascii name) value
