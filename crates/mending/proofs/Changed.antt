-- How long the changes are, and what a mended sheet takes. Assumes nothing.
use mathlib.Core.Path.{◌≡◌, refl, sym, ap}
use mathlib.Core.Bool.{Bool, true, false, not}
use mathlib.Core.List.{List, [], ◌∷◌, ◌++◌}
use Prim.Native.Nat.{ℕ, ◌+◌, ◌≤◌}
use native.Mathlib.Omega.{arith}
use lib.ListN.{length, length-append}
use Rattle.writing.specs.Text.{ascii, lf}
use Rattle.writing.specs.Writing.{Room, Put}
use Rattle.writing.proofs.Puts.{put_as, room_as}
use Rattle.line_faults.specs.declared.Fault.TheVariants.{Crlf, Hex, Zeros, Spaces}
use Rattle.sheet_faults.specs.Sheet.{is_form_two, any_fault, in_order_from}
use Rattle.mending.specs.Changes.{change_text, changes_text}

pub change-made : (name : List ℕ) → change_text true name ≡ ascii "changed=" ++ (name ++ (lf ∷ []))
unfolding change_text
change-made name = refl

pub change-none : (name : List ℕ) → change_text false name ≡ []
unfolding change_text
change-none name = refl

change-short : (made : Bool) (name : List ℕ) → length (change_text made name) ≤ 9 + length name
unfolding change_text
change-short true name = omega (arith, length-append name (lf ∷ []))
change-short false name = omega arith

pub changes-short : (lines : List (List ℕ)) → length (changes_text lines) ≤ 81
unfolding changes_text
changes-short lines =
    let crlf = change_text (any_fault Crlf lines) (ascii "crlf") in
    let hex = change_text (any_fault Hex lines) (ascii "hex") in
    let zeros = change_text (any_fault Zeros lines) (ascii "zeros") in
    let spaces = change_text (any_fault Spaces lines) (ascii "spaces") in
    let order = change_text (not (in_order_from 0 lines)) (ascii "order") in
    let form = change_text (not (is_form_two lines)) (ascii "form") in
    omega (
      arith,
      length-append crlf (hex ++ (zeros ++ (spaces ++ (order ++ form)))),
      length-append hex (zeros ++ (spaces ++ (order ++ form))),
      length-append zeros (spaces ++ (order ++ form)),
      length-append spaces (order ++ form),
      length-append order form,
      change-short (any_fault Crlf lines) (ascii "crlf"),
      change-short (any_fault Hex lines) (ascii "hex"),
      change-short (any_fault Zeros lines) (ascii "zeros"),
      change-short (any_fault Spaces lines) (ascii "spaces"),
      change-short (not (in_order_from 0 lines)) (ascii "order"),
      change-short (not (is_form_two lines)) (ascii "form"),
    )

-- whether a change was made, as it is tested
module _ {b : List ℕ} {at : ℕ} (name : List ℕ) {made is_made : Bool} (e : made ≡ is_made) where
  pub made-room : Room b at (change_text is_made name) → Room b at (change_text made name)
  made-room h = room_as (ap (λ (t : Bool). change_text t name) (sym e)) h

  pub made-put : {b' : List ℕ} {end : ℕ} → Put b at (change_text made name) b' end → Put b at (change_text is_made name) b' end
  made-put p = put_as (ap (λ (t : Bool). change_text t name) e) p
