-- Two rules for a call in a walk, in the calculus of `types.Kit`. They say nothing of the crate, and can be copied as they stand.
--     plain        what a callee asks whose parameters are plain values: it is made of nothing
--     calls-fn     a call of a function by its clauses: the caller is handed the result r at its machine value v, the last values ws, and what the callee's `ensures` says of both
-- Assumes `Logic`.
use mathlib.Core.List.{List, [], ◌∷◌}
use seplogic.Ra.Ura.{Ura}
use mir.Syntax.{Callee, Place, Opd as Operand, Body, seq, call}
use mir.Val.{Val}
use base.Logic.{SProp, ent, sep, emp, via, emp∗, mono∗, id⊢}
use contract.Monad.{fact}
use prog.Wp.{Env, Calls, Loops}
use types.Logic.{Logic, sem}
use sound.WpLaws.{FmC}
use types.Kit.{Item, Post, Seq, ‵, raw, some, later, ◌⊛◌, ◌$◌, runs, lands, move, use1, split, pick, await}
use types.Run.{Opds}
use denote.RattleType.{RattleType, Denots, Valss, owns}
use denote.Laws.{Is, Ises, Are, Makess, shows, owns_make}
use denote.Signature.{type_at}
use denote.Steps.{heard, facts}
use denote.Triple.Call.{calls_at}
use denote.Triple.Clauses.{Ended, Clauses, Lasts, at_exit, lasts, closing}
use denote.Triple.Entry.{Res, alive}
use denote.Triple.Spec.{triple_of}
use denote.Triple.Statement.{Contract, Triple}

module _ {M : Type 1} {𝓤 : Ura M} (𝓛 : Logic 𝓤) where
  pub plain : (Rs : List RattleType) → Makess 𝓛 Rs (Ises Rs) → (a : Denots Rs) (vss : Valss Rs) → Are Rs (Ises Rs) a vss → {Q : SProp 𝓤} → ent 𝓤 (emp 𝓤) Q
      → ent 𝓤 (emp 𝓤) (sep 𝓤 (sep 𝓤 (emp 𝓤) (sem 𝓛 (owns Rs a vss))) Q)
  plain Rs mk a vss are q =
      via 𝓤 (sep 𝓤 (emp 𝓤) (emp 𝓤)) (emp∗ 𝓤 (emp 𝓤))
      (mono∗ 𝓤 (via 𝓤 (sep 𝓤 (emp 𝓤) (emp 𝓤)) (emp∗ 𝓤 (emp 𝓤)) (mono∗ 𝓤 (id⊢ 𝓤 (emp 𝓤)) (owns_make 𝓛 Rs (Ises Rs) mk a vss are))) q)

  -- a function's contract
  abbrev pub Of : (T : Ended) → Clauses 𝓤 T → Contract 𝓤
  Of T c = triple_of 𝓛 T.signature (closing 𝓛 T c)

module _ {M : Type 1} {𝓤 : Ura M} {𝓛 : Logic 𝓤} {K : Type 0} {Γ : List (Item 𝓤)} {E : Env 𝓤 𝓛.H} {C : Calls 𝓤 𝓛.H} {Λ : Loops 𝓤 𝓛.H} {q : Post 𝓤 𝓛.H} {f : Callee} {xs : List Operand} {d : Place} {rest : Body} where
  open 𝓛 use {H}

  pub calls-fn : K → FmC 𝓤 H 𝓛.laws C → (T : Ended) (c : Clauses 𝓤 T) → Triple 𝓤 (C f) (Of 𝓛 T c) → (y : (Of 𝓛 T c).Ghost)
      → (φ : Res T.signature y.0.0 → Lasts T y.0.0 y.0.3 → Type 0)
      → ((r : Res T.signature y.0.0) (ws : Lasts T y.0.0 y.0.3) → ent 𝓤 ((c y.0.0 y.0.3).ensures y.1 r (at_exit T y.0.0 y.0.3 ws)) (fact 𝓤 (φ r ws)))
      → Opds K 𝓛 (raw ((Of 𝓛 T c).pre y) ∷ Γ) E xs ((Of 𝓛 T c).args y)
      → ((v : Val) (r : Res T.signature y.0.0) (ws : Lasts T y.0.0 y.0.3) → φ r ws → Is (type_at T.signature.result y.0.0) r (v ∷ [])
      → Seq K 𝓛 (raw (alive 𝓛 T.signature y.0.0 y.0.1) ∷ ‵ (lasts T y.0.0 y.0.3 ws) ∷ Γ) (lands C Λ E d v rest q))
      → Seq K 𝓛 (raw ((Of 𝓛 T c).pre y) ∷ Γ) (runs C Λ E (seq (call f xs d) rest) q)
  calls-fn t fm T c known y φ says os k =
      let P : RattleType = type_at T.signature.result y.0.0 in
      calls_at t fm (Of 𝓛 T c) known y os (λ v.
      use1 𝓛 (later (some (λ (r : Res T.signature y.0.0). (raw (alive 𝓛 T.signature y.0.0 y.0.1) ⊛ ‵ (P.own_val r (v ∷ [])))
      ⊛ some (λ (ws : Lasts T y.0.0 y.0.3). ‵ (lasts T y.0.0 y.0.3 ws) ⊛ raw ((c y.0.0 y.0.3).ensures y.1 r (at_exit T y.0.0 y.0.3 ws)))))) (id⊢ 𝓤 _) $
      await t tt $ pick t (λ r. split t $ move t (1 ∷ []) $ pick t (λ ws. split t $ move t (1 ∷ []) $ use1 𝓛 (raw (fact 𝓤 (φ r ws))) (says r ws) $ heard t (φ r ws) (λ e.
      -- [the last values; the tokens and the result]
      move t (1 ∷ []) $ split t $ move t (1 ∷ []) $ facts t P (Is P) (shows 𝓛 P) r (v ∷ []) (λ is. k v r ws e is)))))
