-- Texts put into a buffer one after the other. Assumes nothing.
use mathlib.Core.Path.{◌≡◌, refl, sym, ap, subst, ◌∙◌}
use mathlib.Core.List.{List, [], ◌∷◌, ◌++◌, append_assoc}
use Prim.Native.Nat.{ℕ, suc, ◌+◌, ◌*◌, ◌≤◌, ◌<◌, ◌/◌, ◌%◌}
use native.Mathlib.Numerals.{add-one}
use native.Mathlib.Omega.{arith}
use lib.ListN.{length, get_or, take, drop, set, drop_of_length-le, length-append}
use lib.Seq.{drop-cons, take-suc, take_all, length-take-le, sets, length-sets, set_comm}
use Rattle.writing.specs.Text.{digits, hex_digit, hex_text}
use Rattle.writing.specs.Writing.{Room, Put}
use Rattle.writing.proofs.Digits.{digits-one, digits-ten}

-- of a text t, i bytes are put
module _ (b : List ℕ) (at : ℕ) (t : List ℕ) (i : ℕ) where
  pub put-more : i < length t → sets b (at + i) (drop i t) ≡ sets (set b (at + i) (get_or t i 0)) (at + (i + 1)) (drop (i + 1) t)
  put-more h =
      let z : suc (at + i) ≡ at + (i + 1) = omega arith in
      let y : suc i ≡ i + 1 = omega arith in
      ap (sets b (at + i)) (drop-cons t i 0 h) ∙ (λ k. sets (set b (at + i) (get_or t i 0)) (z k) (drop (y k) t))

  pub put_all : length t ≤ i → sets b (at + i) (drop i t) ≡ b
  put_all h = ap (sets b (at + i)) (drop_of_length-le t h)

-- a text and then another

sets-append : (b : List ℕ) (at : ℕ) (s t : List ℕ) → sets b at (s ++ t) ≡ sets (sets b at s) (at + length s) t
sets-append b at [] t = let z : at ≡ at + 0 = omega arith in ap (λ (k : ℕ). sets b k t) z
sets-append b at (x ∷ s) t =
    let z : suc at + length s ≡ at + suc (length s) = omega arith in
    sets-append (set b at x) (suc at) s t ∙ ap (λ (k : ℕ). sets (sets (set b at x) (suc at) s) k t) z

pub put-none : (b : List ℕ) (at : ℕ) → Put b at [] b at
put-none b at = record { holds = refl; ends = omega arith }

pub room-first : {b : List ℕ} {at : ℕ} {s : List ℕ} (t : List ℕ) → Room b at (s ++ t) → Room b at s
room-first {b} {at} {s} t h = record { fits = omega (arith, length-append s t, h.fits) }

module _ {b b' : List ℕ} {at end : ℕ} {s : List ℕ} (p : Put b at s b' end) where
  pub put-length : length b' ≡ length b
  put-length = ap length p.holds ∙ length-sets b at s

  pub put_then : {b'' : List ℕ} {t : List ℕ} {last : ℕ} → Put b' end t b'' last → Put b at (s ++ t) b'' last
  put_then {b''} {t} {last} q =
      record {
        holds = q.holds ∙ (λ i. sets (p.holds i) (p.ends i) t) ∙ sym (sets-append b at s t);
        ends = omega (arith, p.ends, q.ends, length-append s t);
      }

  -- where both fit, so does the second after the first
  pub room-then : {t : List ℕ} → Room b at (s ++ t) → Room b' end t
  room-then {t} h = record { fits = omega (arith, p.ends, put-length, length-append s t, h.fits) }

-- the same text, written another way
pub put_as : {b b' : List ℕ} {at end : ℕ} {s t : List ℕ} → s ≡ t → Put b at s b' end → Put b at t b' end
put_as {b} {b'} {at} {end} e p = subst (λ (x : List ℕ). Put b at x b' end) e p

pub room_as : {b : List ℕ} {at : ℕ} {s t : List ℕ} → s ≡ t → Room b at s → Room b at t
room_as {b} {at} e h = subst (Room b at) e h

-- digits, the last one first

set_after : (b : List ℕ) (at : ℕ) (s : List ℕ) (i v : ℕ) → at + length s ≤ i → set (sets b at s) i v ≡ sets (set b i v) at s
set_after b at [] i v h = refl
set_after b at (x ∷ s) i v h =
    set_after (set b at x) (suc at) s i v (omega arith)
    ∙ ap (λ (l : List ℕ). sets l (suc at) s) (set_comm b at i x v (λ e. let z : at ≡ i = e in omega arith))

pub put_last : (b : List ℕ) (at n : ℕ) → n < 10 → sets b at (digits n) ≡ set b at (48 + n)
put_last b at n h = ap (sets b at) (digits-one n h)

pub put-digit : (b : List ℕ) (at n i : ℕ) → 10 ≤ n → i ≡ at + length (digits (n / 10))
    → sets b at (digits n) ≡ sets (set b i (48 + n % 10)) at (digits (n / 10))
put-digit b at n i h e =
    ap (sets b at) (digits-ten n h) ∙ sets-append b at (digits (n / 10)) ((48 + n % 10) ∷ [])
    ∙ ap (λ (k : ℕ). set (sets b at (digits (n / 10))) k (48 + n % 10)) (sym e)
    ∙ set_after b at (digits (n / 10)) i (48 + n % 10) (omega arith)

-- hex digits

pub length-hex : (l : List ℕ) → length (hex_text l) ≡ 2 * length l
unfolding hex_text
length-hex [] = refl
length-hex (b ∷ l) = omega (arith, length-hex l)

hex-append : (k l : List ℕ) → hex_text (k ++ l) ≡ hex_text k ++ hex_text l
unfolding hex_text
hex-append [] l = refl
hex-append (b ∷ k) l = ap (λ (t : List ℕ). hex_digit (b / 16) ∷ hex_digit (b % 16) ∷ t) (hex-append k l)

hex-more : (key : List ℕ) (i : ℕ) → i < length key → hex_text (take (i + 1) key) ≡ hex_text (take i key) ++ hex_text (get_or key i 0 ∷ [])
hex-more key i h =
    ap (λ (n : ℕ). hex_text (take n key)) (add-one i) ∙ ap hex_text (take-suc key i 0 h) ∙ hex-append (take i key) (get_or key i 0 ∷ [])

-- bytes by hex digits, of which i are put
module _ {b b' : List ℕ} {at end : ℕ} (l : List ℕ) (i : ℕ) (room : Room b at (hex_text l)) (some : Put b at (hex_text (take i l)) b' end) where
  pub hex-room : (x : ℕ) → i < length l → Room b' end (hex_text (x ∷ []))
  hex-room x h =
      record {
        fits =
            omega (
              arith,
              some.ends,
              put-length some,
              length-hex (take i l),
              length-take-le i l (omega arith),
              length-hex l,
              length-hex (x ∷ []),
              room.fits,
            );
      }

  pub hex-next : i < length l → {b'' : List ℕ} {last : ℕ} → Put b' end (hex_text (get_or l i 0 ∷ [])) b'' last → Put b at (hex_text (take (i + 1) l)) b'' last
  hex-next h p = put_as (sym (hex-more l i h)) (put_then some p)

  pub hex-whole : length l ≤ i → Put b at (hex_text l) b' end
  hex-whole h = put_as (ap hex_text (take_all i l h)) some

-- a line: the name and the value, and then its end
module _ (name value end : List ℕ) where
  pub ended-first : {b : List ℕ} {at : ℕ} → Room b at (name ++ (value ++ end)) → Room b at (name ++ value)
  ended-first h = room-first end (room_as (sym (append_assoc name value end)) h)

  pub ended-then : {b c : List ℕ} {at e : ℕ} → Put b at (name ++ value) c e → Room b at (name ++ (value ++ end)) → Room c e end
  ended-then p h = room-then p (room_as (sym (append_assoc name value end)) h)

  pub ended-put : {b c d : List ℕ} {at e r : ℕ} → Put b at (name ++ value) c e → Put c e end d r → Put b at (name ++ (value ++ end)) d r
  ended-put p q = put_as (append_assoc name value end) (put_then p q)
