-- A line that is made of a name and a value with spaces beside the `=` and with or without a CR: its name, its value, and whether spaces
-- and a CR are seen in it. Assumes nothing.
use mathlib.Core.Bool.{Bool, true, false, not, ◌&&◌, ◌||◌}
use mathlib.Core.List.{List, [], ◌∷◌, ◌++◌, append-nil}
use mathlib.Core.Path.{◌≡◌, refl, ap, ◌∙◌}
use Prim.Native.Nat.{ℕ, suc, ◌+◌, ◌-◌, ◌≤◌, ◌<◌}
use native.Mathlib.Omega.{arith}
use lib.Dec.{ltb}
use lib.ListN.{length, take, drop, replicate, length-append, length-replicate}
use lib.Seq.{take_at, drop_at}
use borrow.Author.Tests.{ne_eqb, ltb-true, lt-ltb}
use Rattle.laws.specs.Choice.{pick}
use Rattle.laws.proofs.Cases.{and_left, and_right}
use Rattle.writing.specs.Text.{lf}
use Rattle.lines.specs.Line.{space, index_of}
use Rattle.line_parts.specs.Line.{cr, equals, ends_with, leading, trailing, bare, before_equals, after_equals, has_equals, name_in, value_in, is_spaced}
use Rattle.mends.proofs.Bytes.{every, every_append, every-same, every-then, is_other, index-after, leading-none, leading-more, trailing-after, ends-after, ends-other, front-is}

-- what names and values are made of: bytes above the space, without `=`
abbrev pub is_mark : ℕ → Bool
is_mark b = ltb space b && is_other equals b

pub mark-above : (c b : ℕ) → c ≤ space → is_mark b ≡ true → is_other c b ≡ true
mark-above c b h e = ap not (ne_eqb b c (λ z. omega (arith, ltb-true space b (and_left (ltb space b) _ e))))

mark-unequal : (b : ℕ) → is_mark b ≡ true → is_other equals b ≡ true
mark-unequal b e = and_right (ltb space b) (is_other equals b) e

-- no byte up to the space is among marks
pub marks-without : (c : ℕ) (s : List ℕ) → c ≤ space → every is_mark s ≡ true → every (is_other c) s ≡ true
marks-without c s h e = every-then is_mark (is_other c) s (λ b. mark-above c b h) e

module _ (name value : List ℕ) (before after : ℕ) where
  abbrev pub named : List ℕ
  named = name ++ replicate before space

  abbrev pub valued : List ℕ
  valued = replicate after space ++ value

  abbrev pub body : List ℕ
  body = named ++ (equals ∷ valued)

abbrev pub closed : Bool → List ℕ → List ℕ
closed end s = s ++ pick end (cr ∷ []) []

-- a CR after a text that does not end with one
module _ (s : List ℕ) (none : ends_with cr s ≡ false) where
  pub closed-end : (end : Bool) → ends_with cr (closed end s) ≡ end
  unfolding ends_with
  closed-end true = ends-after cr s (cr ∷ []) (omega arith)
  closed-end false = ap (ends_with cr) (append-nil s) ∙ none

  pub closed-bare : (end : Bool) → bare (closed end s) ≡ s
  unfolding bare
  closed-bare true = rw (closed-end true) (front-is s cr)
  closed-bare false = rw (closed-end false) (append-nil s)

-- what is seen of a line
pub record Seen (line name value : List ℕ) (before after : ℕ) (end : Bool) : Type 0 where
  pub ends : ends_with cr line ≡ end
  pub named : name_in line ≡ name
  pub says : value_in line ≡ value
  pub spaced : is_spaced line ≡ ltb 0 before || ltb 0 after
  pub whole : every (is_other lf) line ≡ true

-- a line made so
module _ (name value : List ℕ) (before after : ℕ) (end : Bool) (name-marks : every is_mark name ≡ true) (value-marks : every is_mark value ≡ true)
    (some : 0 < length value) where
  abbrev line : List ℕ
  line = closed end (body name value before after)

  body_end : ends_with cr (body name value before after) ≡ false
  body_end =
      ends-after cr (named name value before after) (equals ∷ valued name value before after) (omega arith)
      ∙ ends-after cr (equals ∷ replicate after space) value some
      ∙ ends-other cr value (marks-without cr value (omega arith) value-marks)

  line-end : ends_with cr line ≡ end
  line-end = closed-end (body name value before after) body_end end

  line-bare : bare line ≡ body name value before after
  line-bare = closed-bare (body name value before after) body_end end

  named-size : length (named name value before after) ≡ length name + before
  named-size = omega (arith, length-append name (replicate before space), length-replicate before space)

  at-equals : index_of equals (bare line) ≡ length (named name value before after)
  at-equals =
      ap (index_of equals) line-bare
      ∙ index-after equals (named name value before after) (valued name value before after)
      (every_append (is_other equals) name (replicate before space) (every-then is_mark (is_other equals) name mark-unequal name-marks)
      (every-same (is_other equals) space before refl))

  before-is : before_equals line ≡ named name value before after
  unfolding before_equals
  before-is = (λ i. take (at-equals i) (line-bare i)) ∙ take_at (named name value before after) _ _ refl

  after_is : after_equals line ≡ valued name value before after
  unfolding after_equals
  after_is =
      (λ i. drop (suc (at-equals i)) (line-bare i)) ∙ dropped (named name value before after) (valued name value before after)
    where
      dropped : (s t : List ℕ) → drop (suc (length s)) (s ++ (equals ∷ t)) ≡ t
      dropped [] t = refl
      dropped (x ∷ s) t = dropped s t

  has-equals : has_equals line ≡ true
  unfolding has_equals
  has-equals =
      let l : length (named name value before after) < length (body name value before after) =
      omega (arith, length-append (named name value before after) (equals ∷ valued name value before after)) in
      (λ i. ltb (at-equals i) (length (line-bare i))) ∙ lt-ltb (length (named name value before after)) (length (body name value before after)) l

  spaces-before : trailing space (before_equals line) ≡ before
  spaces-before = ap (trailing space) before-is ∙ trailing-after space before name (marks-without space name (omega arith) name-marks)

  spaces-after : leading space (after_equals line) ≡ after
  spaces-after =
      omega (
        arith,
        ap (leading space) after_is,
        leading-more space after value,
        leading-none space value (marks-without space value (omega arith) value-marks),
      )

  line-name : name_in line ≡ name
  unfolding name_in
  line-name =
      rw has-equals
      ((λ i. take (length (before-is i) - spaces-before i) (before-is i))
      ∙ take_at name (replicate before space) (length (named name value before after) - before) (omega (arith, named-size)))

  line-value : value_in line ≡ value
  unfolding value_in
  line-value = (λ i. drop (spaces-after i) (after_is i)) ∙ drop_at (replicate after space) value after (length-replicate after space)

  line-spaced : is_spaced line ≡ ltb 0 before || ltb 0 after
  unfolding is_spaced
  line-spaced = λ i. ltb 0 (spaces-before i) || ltb 0 (spaces-after i)

  -- no LF stands in it
  line-whole : every (is_other lf) line ≡ true
  line-whole =
      every_append (is_other lf) (body name value before after) (pick end (cr ∷ []) [])
      (every_append (is_other lf) (named name value before after) (equals ∷ valued name value before after)
      (every_append (is_other lf) name (replicate before space) (marks-without lf name (omega arith) name-marks) (every-same (is_other lf) space before refl))
      (every_append (is_other lf) (replicate after space) value (every-same (is_other lf) space after refl) (marks-without lf value (omega arith) value-marks)))
      (last end)
    where
      last : (end : Bool) → every (is_other lf) (pick end (cr ∷ []) []) ≡ true
      last true = refl
      last false = refl

  pub line-seen : Seen line name value before after end
  line-seen = record { ends = line-end; named = line-name; says = line-value; spaced = line-spaced; whole = line-whole }
