-- The laws of forms, for every form at once: the texts that a form spells are read, nothing else is, and where reading stops no text of the
-- form goes on. Assumes nothing.
use mathlib.Core.Path.{◌≡◌, refl, sym, ap, subst, ◌∙◌}
use mathlib.Core.Logic.{⊎_elim}
use mathlib.Core.List.{List, [], ◌∷◌, ◌++◌}
use mathlib.Core.Bool.{Bool, true, false, true≢false}
use Prim.Native.Nat.{ℕ, suc, ◌+◌, ◌-◌, ◌≤◌, ◌<◌}
use native.Mathlib.Omega.{arith}
use lib.Dec.{ltb}
use lib.ListN.{length, get_or, drop, length-append, length-drop, drop_of_length-le}
use lib.Seq.{drop-cons}
use borrow.Author.Tests.{ltb-true, lt-ltb, eqb-true, eq-eqb}
use Rattle.laws.specs.Choice.{pick}
use Rattle.laws.proofs.Cases.{lt-or-le, and_left, and_right}
use Prim.Native.String.{String}
use Rattle.writing.specs.Text.{ascii}
use Rattle.forms.specs.Form.{Form, done, next, Outcome, found, wrong, stands, read_at, literal, line, ◌>>=◌}

-- the form f spells the value v as the bytes w
abbrev pub Spells : {A : Type 0} → Form A → A → List ℕ → Type 0
Spells (done x) v [] = x ≡ v
Spells (done x) v (b ∷ w) = ⊥
Spells (next may then) v [] = ⊥
Spells (next may then) v (b ∷ w) = (may b ≡ true) × Spells (then b) v w

-- one byte

pub stands-yes : (may : ℕ → Bool) (s : List ℕ) (p : ℕ) → p < length s → may (get_or s p 0) ≡ true → stands may s p ≡ true
stands-yes may s p h e = rw (lt-ltb p (length s) h) e

pub stands-is : (may : ℕ → Bool) (s : List ℕ) (p : ℕ) → stands may s p ≡ true → (p < length s) × (may (get_or s p 0) ≡ true)
stands-is may s p e =
    (ltb-true p (length s) (and_left (ltb p (length s)) _ e), and_right (ltb p (length s)) _ e)

-- the byte b stands at the place p of s, and then t
pub record Ahead (s : List ℕ) (p b : ℕ) (t : List ℕ) : Type 0 where
  pub within : p < length s
  pub byte : get_or s p 0 ≡ b
  pub rest : drop (suc p) s ≡ t

pub ahead : (s : List ℕ) (p b : ℕ) (t : List ℕ) → drop p s ≡ b ∷ t → Ahead s p b t
ahead s p b t e = ⊎_elim near far (lt-or-le p (length s))
  where
    near : p < length s → Ahead s p b t
    near h = let d = drop-cons s p 0 h in record { within = h; byte = cc; rest = cc }

    far : length s ≤ p → Ahead s p b t
    far h = let d = drop_of_length-le s h in let z : ◌≡◌ {A = ℕ} 0 1 = cc in absurd (omega arith)

-- what a form spells is read

pub reads : {A : Type 0} (f : Form A) (s : List ℕ) (p : ℕ) (v : A) (w r : List ℕ) → Spells f v w → drop p s ≡ w ++ r
    → read_at f s p ≡ found v (p + length w)
unfolding read_at
reads (done x) s p v [] r h d = let z : p ≡ p + 0 = omega arith in λ i. found (h i) (z i)
reads (done x) s p v (b ∷ w) r h d = absurd h
reads (next may then) s p v [] r h d = absurd h
reads (next may then) s p v (b ∷ w) r h d =
    let a = ahead s p b (w ++ r) d in
    let z : suc p + length w ≡ p + suc (length w) = omega arith in
    rw (stands-yes may s p a.within (ap may a.byte ∙ h.0))
    (ap (λ (c : ℕ). read_at (then c) s (suc p)) a.byte ∙ reads (then b) s (suc p) v w r h.1 a.rest ∙ ap (found v) z)

-- what is read is spelt by the form

pub record Spelt {A : Type 0} (f : Form A) (s : List ℕ) (p : ℕ) (v : A) (q : ℕ) : Type 0 where
  pub text : List ℕ
  pub spells : Spells f v text
  pub splits : drop p s ≡ text ++ drop q s
  pub after : q ≡ p + length text

pub spelt : {A : Type 0} (f : Form A) (s : List ℕ) (p : ℕ) (v : A) (q : ℕ) → read_at f s p ≡ found v q → Spelt f s p v q
unfolding read_at
spelt (done x) s p v q e =
    let a : x ≡ v = cc in
    let b : p ≡ q = cc in
    record { text = []; spells = a; splits = ap (λ (n : ℕ). drop n s) b; after = omega arith }
spelt {A} (next may then) s p v q e = go (stands may s p) refl e (spelt (then (get_or s p 0)) s (suc p) v q)
  where
    go : (t : Bool) → stands may s p ≡ t → pick t (read_at (then (get_or s p 0)) s (suc p)) (wrong p) ≡ found v q
        → (read_at (then (get_or s p 0)) s (suc p) ≡ found v q → Spelt (then (get_or s p 0)) s (suc p) v q) → Spelt (next may then) s p v q
    go false h e rec = let z : ◌≡◌ {A = ℕ} 0 1 = cc in absurd (omega arith)
    go true h e rec =
        let a = stands-is may s p h in
        let r = rec e in
        record {
          text = get_or s p 0 ∷ r.text;
          spells = (a.1, r.spells);
          splits = drop-cons s p 0 a.0 ∙ ap (λ (t : List ℕ). get_or s p 0 ∷ t) r.splits;
          after = omega (arith, r.after);
        }

-- a form that is nowhere at a loss: whatever bytes it took, it spells a value that goes on from there

abbrev pub Live : {A : Type 0} → Form A → Type 0
Live (done v) = Unit
Live (next may then) = (b : ℕ) × (may b ≡ true) × ((c : ℕ) → may c ≡ true → Live (then c))

pub record Some {A : Type 0} (f : Form A) : Type 0 where
  pub value : A
  pub text : List ℕ
  pub spells : Spells f value text

pub some : {A : Type 0} (f : Form A) → Live f → Some f
some (done v) l = record { value = v; text = []; spells = refl }
some (next may then) l =
    let r = some (then l.0) (l.2 l.0 l.1) in
    record { value = r.value; text = l.0 ∷ r.text; spells = (l.1, r.spells) }

-- where reading stops: the bytes before that place begin a text of the form; with the byte there, if there is one, they begin none

pub record Stop {A : Type 0} (f : Form A) (s : List ℕ) (p q : ℕ) : Type 0 where
  pub front : List ℕ
  pub splits : drop p s ≡ front ++ drop q s
  pub place : q ≡ p + length front
  pub value : A
  pub more : List ℕ
  pub spells : Spells f value (front ++ more)
  pub stuck : (b : ℕ) (r : List ℕ) → drop q s ≡ b ∷ r → (v : A) (u : List ℕ) → Spells f v (front ++ b ∷ u) → ⊥

pub stops : {A : Type 0} (f : Form A) → Live f → (s : List ℕ) (p q : ℕ) → read_at f s p ≡ wrong q → Stop f s p q
unfolding read_at
stops (done x) l s p q e = let z : ◌≡◌ {A = ℕ} 0 1 = cc in absurd (omega arith)
stops {A} (next may then) l s p q e = go (stands may s p) refl e (λ a. stops (then (get_or s p 0)) (l.2 (get_or s p 0) a) s (suc p) q)
  where
    go : (t : Bool) → stands may s p ≡ t → pick t (read_at (then (get_or s p 0)) s (suc p)) (wrong p) ≡ wrong q
        → (may (get_or s p 0) ≡ true → read_at (then (get_or s p 0)) s (suc p) ≡ wrong q → Stop (then (get_or s p 0)) s (suc p) q)
        → Stop (next may then) s p q
    go true h e rec =
        let a = stands-is may s p h in
        let r = rec a.1 e in
        record {
          front = get_or s p 0 ∷ r.front;
          splits = drop-cons s p 0 a.0 ∙ ap (λ (t : List ℕ). get_or s p 0 ∷ t) r.splits;
          place = omega (arith, r.place);
          value = r.value;
          more = r.more;
          spells = (a.1, r.spells);
          stuck = λ b t d v u k. r.stuck b t d v u k.1;
        }
    go false h e rec =
        let b : p ≡ q = cc in
        let c = some (next may then) l in
        record {
          front = [];
          splits = ap (λ (n : ℕ). drop n s) b;
          place = omega arith;
          value = c.value;
          more = c.text;
          spells = c.spells;
          stuck = λ x t d v u k.
              let a = ahead s p x t (ap (λ (n : ℕ). drop n s) b ∙ d) in
              let y : stands may s p ≡ true = stands-yes may s p a.within (ap may a.byte ∙ k.0) in
              let z : ◌≡◌ {A = Bool} true false = sym y ∙ h in absurd (true≢false z);
        }

-- a place at which reading stops lies in the text
pub stop-within : {A : Type 0} {f : Form A} {s : List ℕ} {p q : ℕ} → Stop f s p q → p ≤ length s → q ≤ length s
stop-within {A} {f} {s} {p} {q} r h =
    let a : length (r.front ++ drop q s) ≡ length s - p = sym (ap length r.splits) ∙ length-drop p s in
    let b : length (r.front ++ drop q s) ≡ length r.front + length (drop q s) = length-append r.front (drop q s) in
    omega (arith, r.place)

-- one form and then another

abbrev pub onto : {A B : Type 0} → Outcome A → (A → ℕ → Outcome B) → Outcome B
onto (found v q) k = k v q
onto (wrong q) k = wrong q

pub both_read : {A B : Type 0} (f : Form A) (g : A → Form B) (s : List ℕ) (p : ℕ) → read_at (f >>= g) s p ≡ onto (read_at f s p) (λ v q. read_at (g v) s q)
unfolding read_at ◌>>=◌
both_read (done v) g s p = refl
both_read {A} {B} (next may then) g s p = go (stands may s p) (both_read (then (get_or s p 0)) g s (suc p))
  where
    go : (t : Bool) → read_at (then (get_or s p 0) >>= g) s (suc p) ≡ onto (read_at (then (get_or s p 0)) s (suc p)) (λ v q. read_at (g v) s q)
        → pick t (read_at (then (get_or s p 0) >>= g) s (suc p)) (wrong p) ≡ onto (pick t (read_at (then (get_or s p 0)) s (suc p)) (wrong p)) (λ v q. read_at (g v) s q)
    go true h = h
    go false h = refl

pub both-spell : {A B : Type 0} (f : Form A) (g : A → Form B) (v : A) (x : B) (w u : List ℕ) → Spells f v w → Spells (g v) x u → Spells (f >>= g) x (w ++ u)
unfolding ◌>>=◌
both-spell (done y) g v x [] u h k = subst (λ (z : _). Spells (g z) x u) (sym h) k
both-spell (done y) g v x (b ∷ w) u h k = absurd h
both-spell (next may then) g v x [] u h k = absurd h
both-spell (next may then) g v x (b ∷ w) u h k = (h.0, both-spell (then b) g v x w u h.1 k)

pub record Parts {A B : Type 0} (f : Form A) (g : A → Form B) (x : B) (w : List ℕ) : Type 0 where
  pub value : A
  pub one : List ℕ
  pub two : List ℕ
  pub joined : w ≡ one ++ two
  pub first : Spells f value one
  pub second : Spells (g value) x two

pub parts : {A B : Type 0} (f : Form A) (g : A → Form B) (x : B) (w : List ℕ) → Spells (f >>= g) x w → Parts f g x w
unfolding ◌>>=◌
parts (done v) g x w h = record { value = v; one = []; two = w; joined = refl; first = refl; second = h }
parts (next may then) g x [] h = absurd h
parts (next may then) g x (b ∷ w) h =
    let r = parts (then b) g x w h.1 in
    record {
      value = r.value;
      one = b ∷ r.one;
      two = r.two;
      joined = ap (λ (t : List ℕ). b ∷ t) r.joined;
      first = (h.0, r.first);
      second = r.second;
    }

pub both-live : {A B : Type 0} (f : Form A) (g : A → Form B) → Live f → ((v : A) → Live (g v)) → Live (f >>= g)
unfolding ◌>>=◌
both-live (done v) g l m = m v
both-live (next may then) g l m = (l.0, l.1, λ c e. both-live (then c) g (l.2 c e) m)

pub both-assoc : {A B C : Type 0} (f : Form A) (g : A → Form B) (h : B → Form C) → (f >>= g) >>= h ≡ f >>= λ v. (g v >>= h)
unfolding ◌>>=◌
both-assoc (done v) g h = refl
both-assoc (next may then) g h = λ i. next may (λ b. both-assoc (then b) g h i)

-- a form, and then a value that is made of its value

pub made-spells : {A B : Type 0} (f : Form A) (make : A → B) (v : A) (w : List ℕ) → Spells f v w → Spells (f >>= λ x. done (make x)) (make v) w
unfolding ◌>>=◌
made-spells (done x) make v [] h = ap make h
made-spells (done x) make v (b ∷ w) h = absurd h
made-spells (next may then) make v [] h = absurd h
made-spells (next may then) make v (b ∷ w) h = (h.0, made-spells (then b) make v w h.1)

pub record Made {A B : Type 0} (f : Form A) (make : A → B) (y : B) (w : List ℕ) : Type 0 where
  pub value : A
  pub spells : Spells f value w
  pub is : make value ≡ y

pub made : {A B : Type 0} (f : Form A) (make : A → B) (y : B) (w : List ℕ) → Spells (f >>= λ x. done (make x)) y w → Made f make y w
unfolding ◌>>=◌
made (done x) make y [] h = record { value = x; spells = refl; is = h }
made (done x) make y (b ∷ w) h = absurd h
made (next may then) make y [] h = absurd h
made (next may then) make y (b ∷ w) h =
    let r = made (then b) make y w h.1 in
    record { value = r.value; spells = (h.0, r.spells); is = r.is }

-- given bytes

pub literal-spells : (cs : List ℕ) → Spells (literal cs) 0 cs
unfolding literal
literal-spells [] = refl
literal-spells (c ∷ cs) = (eq-eqb c c refl, literal-spells cs)

pub literal-is : (cs w : List ℕ) (v : ℕ) → Spells (literal cs) v w → w ≡ cs
unfolding literal
literal-is [] [] v h = refl
literal-is [] (b ∷ w) v h = absurd h
literal-is (c ∷ cs) [] v h = absurd h
literal-is (c ∷ cs) (b ∷ w) v h = λ i. eqb-true b c h.0 i ∷ literal-is cs w v h.1 i

pub literal-live : (cs : List ℕ) → Live (literal cs)
unfolding literal
literal-live [] = tt
literal-live (c ∷ cs) = (c, eq-eqb c c refl, λ b e. literal-live cs)

-- a form that spells exactly the good values, each as its text

pub record Means {A : Type 0} (f : Form A) (good : A → Type 0) (text : A → List ℕ) : Type 0 where
  pub spells : (v : A) → good v → Spells f v (text v)
  pub only : (v : A) (w : List ℕ) → Spells f v w → good v × (w ≡ text v)
  pub live : Live f

pub line-means : {A : Type 0} {good : A → Type 0} {text : A → List ℕ} (name : String) (f : Form A) → Means f good text
    → Means (line name f) good (λ v. ascii name ++ text v)
line-means {A} {good} {text} name f m =
    record {
      spells = λ v g. both-spell (literal (ascii name)) (λ _. f) 0 v (ascii name) (text v) (literal-spells (ascii name)) (m.spells v g);
      only = λ v w h.
          let p = parts (literal (ascii name)) (λ _. f) v w h in
          let r = m.only v p.two p.second in
          (r.0, p.joined ∙ (λ i. literal-is (ascii name) p.one p.value p.first i ++ r.1 i));
      live = both-live (literal (ascii name)) (λ _. f) (literal-live (ascii name)) (λ _. m.live);
    }

-- A form whose value is one part of a whole, and then a form of the whole that knows this part: how a record of several lines is put
-- together. `Known` is what the lines before have fixed of the whole.

module _ {A B : Type 0} {good : A → Type 0} {text : A → List ℕ} (f : Form A) (part : B → A) (m : Means f good text) where
  pub then-means : {Known Rest : B → Type 0} {tail : B → List ℕ} (g : A → Form B)
      → ((v : A) → Means (g v) (λ x. Rest x × (Known x × (part x ≡ v))) tail)
      → Means (f >>= g) (λ x. (good (part x) × Rest x) × Known x) (λ x. text (part x) ++ tail x)
  then-means {Known} {Rest} {tail} g n =
      record {
        spells = λ x h. both-spell f g (part x) x _ _ (m.spells (part x) h.0.0) ((n (part x)).spells x (h.0.1, (h.1, refl)));
        only = only;
        live = both-live f g m.live (λ v. (n v).live);
      }
    where
      only : (x : B) (w : List ℕ) → Spells (f >>= g) x w → ((good (part x) × Rest x) × Known x) × (w ≡ text (part x) ++ tail x)
      only x w h =
          let p = parts f g x w h in
          let a = m.only p.value p.one p.first in
          let b = (n p.value).only x p.two p.second in
          let e : p.value ≡ part x = sym b.0.1.1 in
          (((subst good e a.0, b.0.0), b.0.1.0), p.joined ∙ (λ i. (a.1 ∙ ap text e) i ++ b.1 i))

  pub last-means : {Known : B → Type 0} (make : A → B) → ((v : A) → Known (make v)) → ((v : A) → part (make v) ≡ v)
      → ((x : B) → Known x → make (part x) ≡ x) → Means (f >>= λ v. done (make v)) (λ x. good (part x) × Known x) (λ x. text (part x))
  last-means {Known} make known back whole =
      record {
        spells = λ x h.
            subst (λ (y : B). Spells (f >>= λ v. done (make v)) y (text (part x))) (whole x h.1)
            (made-spells f make (part x) _ (m.spells (part x) h.0));
        only = only;
        live = both-live f (λ v. done (make v)) m.live (λ v. tt);
      }
    where
      only : (x : B) (w : List ℕ) → Spells (f >>= λ v. done (make v)) x w → (good (part x) × Known x) × (w ≡ text (part x))
      only x w h =
          let p = made f make x w h in
          let a = m.only p.value w p.spells in
          let e : p.value ≡ part x = sym (back p.value) ∙ ap part p.is in
          ((subst good e a.0, subst Known p.is (known p.value)), a.1 ∙ ap text e)
