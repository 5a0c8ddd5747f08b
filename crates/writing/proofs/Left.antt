-- Of a text that goes into a buffer piece by piece: what is left to put, and the room for it. Assumes nothing.
use mathlib.Core.Path.{◌≡◌, refl, sym, subst, ◌∙◌}
use mathlib.Core.List.{List, [], ◌++◌}
use Prim.Native.Nat.{ℕ, ◌+◌}
use native.Mathlib.Omega.{arith}
use lib.ListN.{length, length-append}
use lib.Seq.{sets}
use Rattle.writing.specs.Writing.{Room, Put}
use Rattle.writing.proofs.Puts.{put_then, put-length, room-first}

-- the text t goes into b from the place at; so far the buffer is b', and u is left, from the place end on
pub record Left (b : List ℕ) (at : ℕ) (t b' : List ℕ) (end : ℕ) (u : List ℕ) : Type 0 where
  pub holds : sets b at t ≡ sets b' end u
  pub ends : at + length t ≡ end + length u
  pub size : length b' ≡ length b

pub left-all : {b : List ℕ} {at : ℕ} {t : List ℕ} → Left b at t b at t
left-all = record { holds = refl; ends = refl; size = refl }

module _ {b : List ℕ} {at : ℕ} {t b' : List ℕ} {end : ℕ} where
  pub left_as : {u v : List ℕ} → u ≡ v → Left b at t b' end u → Left b at t b' end v
  left_as e l = subst (Left b at t b' end) e l

  pub left-room : {u : List ℕ} → Room b at t → Left b at t b' end u → Room b' end u
  left-room r l = record { fits = omega (arith, l.ends, l.size, r.fits) }

  pub next-room : {s : List ℕ} (u : List ℕ) → Room b at t → Left b at t b' end (s ++ u) → Room b' end s
  next-room u r l = room-first u (left-room r l)

  pub left-next : {s u b'' : List ℕ} {last : ℕ} → Left b at t b' end (s ++ u) → Put b' end s b'' last → Left b at t b'' last u
  left-next {s} {u} {b''} {last} l p =
      let rest : Put b'' last u (sets b'' last u) (last + length u) = record { holds = refl; ends = refl } in
      record {
        holds = l.holds ∙ sym (put_then p rest).holds;
        ends = omega (arith, l.ends, p.ends, length-append s u);
        size = put-length p ∙ l.size;
      }

  pub left-last : {u b'' : List ℕ} {last : ℕ} → Left b at t b' end u → Put b' end u b'' last → Put b at t b'' last
  left-last l p = record { holds = p.holds ∙ sym l.holds; ends = omega (arith, p.ends, l.ends) }

  pub left-none : Left b at t b' end [] → Put b at t b' end
  left-none l = record { holds = sym l.holds; ends = omega (arith, l.ends) }
