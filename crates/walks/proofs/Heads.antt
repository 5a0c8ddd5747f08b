-- The one machine value of a list of one, in the calculus' terms. Assumes nothing.
use mathlib.Core.List.{List, [], ◌∷◌}
use mathlib.Core.Path.{◌≡◌, ap}
use mir.Val.{Val, vunit}

head : List Val → Val
head [] = vunit
head (v ∷ vs) = v

pub same-value : (v w : Val) → (v ∷ []) ≡ (w ∷ []) → v ≡ w
unfolding head
same-value v w e = ap head e
