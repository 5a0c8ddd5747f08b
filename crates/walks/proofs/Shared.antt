-- A `&κ mut [T]` that is lent as a `&κ' [T]` for a lifetime κ' of a call, and comes back as it was. It says nothing of the crate, and can be copied as it stands.
--     LentShared       what the holder keeps meanwhile: the lender's part at κ', and its own borrow at κ, open, with both halves of its ghost variable
--     lends_shared     own (the `&κ mut [T]` ((b, o), γ, ys)) ∗ [κ]_q  ⊢ ⇛ (own (the `&κ' [T]` ((b, o), ys)) ∗ LentShared), with T's law of sharing, whose tokens come back
--     shared_back      given `Room`:  [†κ'] ∗ LentShared  ⊢ ⇛ (own (the `&κ mut [T]` ((b, o), γ, ys)) ∗ [κ]_q)
--     lends-read, read_back    the two as steps of a walk, before and after a call: the first makes the lifetime of the call, the second ends it. T holds no `&mut`, so the new lifetime's token is all that its law asks
-- Assumes `Logic`.
use mathlib.Core.Path.{refl}
use Prim.Native.Nat.{ℕ}
use mathlib.Core.List.{List, [], ◌∷◌}
use lib.ListN.{length}
use seplogic.Ra.Ura.{Ura}
use base.Fraction.{full_share}
use mir.Syntax.{Lifetime}
use mir.Val.{Val}
use base.Logic.{ent, sep}
use base.Fml.{Lft, GName, Share, Fml, Incl, Incl-refl, fsep, flft, fdead, fobs, fauth, flent, fobor}
use contract.BorrowLft.{⊑_static}
use ghost.Rules.{Toks, span}
use types.Logic.{Logic, sem, lfts}
use types.Kit.{Item, Goal, Seq, Soaks, ‵, raw, ◌⊛◌, later, ◌$◌, ◌∵◌, !, qed, move, use2, use3, drop, split, join, fsplit, fjoin, feq_i, frame, await, updating, now as at_once, done}
use types.Tokens.{lft_new, lft_end, lent_back}
use types.Share.{arr_parts}
use denote.RattleType.{RattleType}
use denote.Shadow.{pure_l, pure_i}
use denote.Memory.{shares}
use denote.Ref.{Bor, MutBor}
use denote.Shares.{Shares}
use denote.Slice.{slice_val, MutSlice, ShrSlice, heres, Room, mut_slice_at, coded_holeys}
use denote.Lend.{Held, lends_shr_slice}
use denote.Index.{opens_slice, closes_slice}

module _ (R : RattleType) (κ κ' : Lft) (q : Share) (γ : GName) (b o : ℕ) where
  abbrev at-list : GName → List R.Denot → MutBor (List R.Denot)
  at-list δ ys = record { ref_ptr = (b, o); ghost_name = δ; now = ys }

  abbrev seen : List R.Denot → Bor (List R.Denot)
  seen ys = record { ref_ptr = (b, o); now = ys }

  abbrev Lent : List R.Denot → Fml
  Lent ys = flent κ' ((arr_parts (shares R) (length ys)).part full_share ys b o)

  abbrev pub LentShared : List R.Denot → Fml
  LentShared ys = fsep (Lent ys) (fsep (fobor κ q (Held R (length ys) b o γ)) (fsep (fobs γ ((coded_holeys R).code (heres R ys))) (fauth γ ((coded_holeys R).code (heres R ys)))))

  module _ {M : Type 1} {𝓤 : Ura M} (𝓛 : Logic 𝓤) (ℓ ℓ' : Lifetime) (ys : List R.Denot) where
    open 𝓛 use {H, A}

    abbrev vals : List Val
    vals = slice_val (b, o) (length ys) ∷ []

    pub lends_shared : (l : Lft) → Shares 𝓛 R l → (ts : Toks) → Incl (span ts) l → Incl (span ts) κ'
        → ent 𝓤 (sep 𝓤 (sem 𝓛 ((MutSlice ℓ κ R).own_val (at-list γ ys) vals)) (sep 𝓤 (A.lft κ q) (lfts 𝓛 ts)))
        (H.⇛ (sep 𝓤 (sem 𝓛 ((ShrSlice ℓ' κ' R).own_val (seen ys) vals)) (sep 𝓤 (sem 𝓛 (LentShared ys)) (lfts 𝓛 ts))))
    lends_shared l s ts inc sp =
        qed 𝓛 (‵ ((MutSlice ℓ κ R).own_val (at-list γ ys) vals) ∷ ‵ (flft κ q) ∷ raw (lfts 𝓛 ts) ∷ []) ∵ updating ! $ fsplit ! $ pure_l ! (mut_slice_at R (at-list γ ys) vals) (λ p. fsplit ! $ opens_slice ! tt R ys b o $
        feq_i ! ℕ (length ys) (length ys) refl $ fjoin ! $ move ! (0 ∷ 4 ∷ []) $
        use2 𝓛 (later ((‵ ((ShrSlice ℓ' κ' R).own_val (seen ys) vals) ⊛ ‵ (Lent ys)) ⊛ raw (lfts 𝓛 ts))) (lends_shr_slice 𝓛 R ℓ' κ' full_share ys b o p.1 l s ts inc sp) $ await ! tt $ split ! $ split ! $
        -- [the shared slice; the lender's part at κ'; the tokens; the open borrow at κ; obs γ; auth γ]
        at_once ! $ frame ! $ move ! (3 ∷ 4 ∷ []) $ fjoin ! $ move ! (3 ∷ 0 ∷ []) $ fjoin ! $ move ! (1 ∷ 0 ∷ []) $ fjoin ! $ join ! $ done !)

    pub shared_back : Room R (length ys) → ent 𝓤 (sep 𝓤 (A.dead κ') (sem 𝓛 (LentShared ys))) (H.⇛ (sep 𝓤 (sem 𝓛 ((MutSlice ℓ κ R).own_val (at-list γ ys) vals)) (A.lft κ q)))
    shared_back room =
        qed 𝓛 (‵ (fdead κ') ∷ ‵ (LentShared ys) ∷ []) ∵ updating ! $ move ! (1 ∷ []) $ fsplit ! $ move ! (2 ∷ 0 ∷ []) $ lent_back ! tt $ fsplit ! $ drop ! $
        move ! (1 ∷ []) $ fsplit ! $ move ! (1 ∷ []) $ fsplit ! $ move ! (3 ∷ 2 ∷ 0 ∷ 1 ∷ []) $ closes_slice ! tt R ys ys refl b o $ at_once ! $
        fjoin ! $ pure_i ! (mut_slice_at R (at-list γ ys) vals) (tt, (tt, tt)) (refl, room) $ fjoin ! $ done !

module _ (R : RattleType) (ℓ : Lifetime) (κ : Lft) (q : Share) (γ : GName) (b o : ℕ) (ys : List R.Denot) where
  -- what its holder owns, and what the callee is lent
  abbrev Own : Fml
  Own = (MutSlice ℓ κ R).own_val (record { ref_ptr = (b, o); ghost_name = γ; now = ys }) (slice_val (b, o) (length ys) ∷ [])

  abbrev pub Read : ℕ → Fml
  Read α = (ShrSlice ℓ (α ∷ []) R).own_val (record { ref_ptr = (b, o); now = ys }) (slice_val (b, o) (length ys) ∷ [])

  module _ {M : Type 1} {𝓤 : Ura M} {𝓛 : Logic 𝓤} {K : Type 0} {Γ : List (Item 𝓤)} {G : Goal 𝓤 𝓛.H} where
    pub lends-read : K → Soaks G → Shares 𝓛 R [] → ((α : ℕ) → Seq K 𝓛 (‵ (Read α) ∷ ‵ (flft (α ∷ []) full_share) ∷ ‵ (LentShared R κ (α ∷ []) q γ b o ys) ∷ Γ) G)
        → Seq K 𝓛 (‵ Own ∷ ‵ (flft κ q) ∷ Γ) G
    lends-read t a s k =
        lft_new t a (λ α. move t (1 ∷ 2 ∷ 0 ∷ []) $
        use3 𝓛 (later (‵ (Read α) ⊛ (‵ (LentShared R κ (α ∷ []) q γ b o ys) ⊛ ‵ (flft (α ∷ []) full_share))))
        (lends_shared R κ (α ∷ []) q γ b o 𝓛 ℓ ℓ ys [] s ((α ∷ [], full_share) ∷ []) (⊑_static (α ∷ [])) (Incl-refl (α ∷ []))) $
        await t a $ split t $ move t (1 ∷ []) $ split t $ move t (2 ∷ 1 ∷ 0 ∷ []) $ k α)

    pub read_back : K → Soaks G → (α : ℕ) → Room R (length ys) → Seq K 𝓛 (‵ Own ∷ ‵ (flft κ q) ∷ Γ) G
        → Seq K 𝓛 (‵ (flft (α ∷ []) full_share) ∷ ‵ (LentShared R κ (α ∷ []) q γ b o ys) ∷ Γ) G
    read_back t a α room k =
        lft_end t a $ use2 𝓛 (later (‵ Own ⊛ ‵ (flft κ q))) (shared_back R κ (α ∷ []) q γ b o 𝓛 ℓ ℓ ys room) $ await t a $ split t $ k
