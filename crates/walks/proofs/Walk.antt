-- What the walks by hand cite of the logic, passed on under one module: a walk has one `use` line for it.
-- Assumes nothing.
pub use Prim.Native.Nat.{◌<◌, ◌^◌, ℕ}
pub use base.Fml.{Fml, GName, Lft, Share, fat, fbor, fdies, flft, fobs, froom, ftrue}
pub use base.Logic.{SProp, emp, ent, fst∗, id⊢, sep, via}
pub use borrow.Author.Tests.{le-ltb, lt-ltb}
pub use contract.Monad.{Fun}
pub use contract.Running.{tables}
unfoldable pub use contract.Running.{tables_of}
pub use denote.Array.{Array}
pub use denote.Builtin.{u16, u64, u8, usize}
pub use denote.Exit.{yes}
pub use denote.Index.{closes_slice, elem_back, elem_out, elem_put, looks_slice, opens_slice, place_is, shuts_slice}
pub use denote.Laws.{Is, shows}
pub use denote.Lend.{Held}
pub use denote.Memory.{pointee}
pub use denote.Plain.{uint_Lawful, uint_Makes, uint_Tells, uint_vals}
pub use denote.RattleType.{RattleType, owns}
pub use denote.Ref.{MutRef, Bor, MutBor, ShrRef, mut_Tells, shr_vals, mut_vals, shr_Tells}
pub use denote.Shadow.{pure_i}
pub use denote.Signature.{plain as plainly, shr_ref_to, shr_slice_of}
pub use denote.Slice.{MutSlice, Room, ShrSlice, shr_slice_at, mut_slice_at, coded_holeys, finally, heres, mut_slice_Tells, shr_slice_Tells, shr_slice_vals, mut_slice_vals, slice_ty, slice_val}
pub use denote.Steps.{nothing, owned}
pub use denote.Triple.Clauses.{lasts}
pub use denote.Triple.Entry.{Vals, on_entry}
pub use denote.Triple.Spec.{Meets, triple_of}
pub use denote.Triple.Statement.{Contract, Triple}
pub use denote.Triple.Table.{cited, entered}
pub use denote.Triple.Walked.{Stays, ends_at, gave_ref, gave_slice, Goes-dropped, Goes-gave_ref, Goes-gave_slice, Goes-none_slice, Goes-slice, says, stay_dropped, stay_none_slice, stay_slice, walk_Meets, walk_of, walked}
pub use ghost.Atoms.{Atoms}
pub use base.Fraction.{full_share}
pub use seplogic.Ra.Ura.{Ura}
pub use lib.Dec.{T as Holds, eqb→eq, lit<}
pub use lib.ListN.{get_or, length, length-set, set}
pub use mathlib.Core.Bool.{Bool}
pub use mathlib.Core.List.{List, [], ◌∷◌}
pub use mathlib.Core.Logic.{⊎_elim}
pub use mathlib.Core.Path.{◌∙◌, ◌≡◌, ap, refl, subst, sym}
pub use mir.Syntax.{Ty, imm, mut, named, ty_bool, ty_int, ty_ptr, ty_ref, w16, w64, w8}
pub use mir.Val.{Val, vbool, vint, vptr}
pub use native.Mathlib.Nat.{eq-or-lt_of_le}
pub use native.Mathlib.Omega.{arith}
pub use prog.Memory.{Memory}
pub use prog.Routine.{Routine}
pub use prog.Wp.{Calls, Env, Heap, Loops, Tables, Wp, WpFn, after_block, after_seq, at_return}
unfoldable pub use prog.Wp.{after_turn}
pub use sound.WpLaws.{FmC, WpFn-mono, fm_of}
pub use types.Logic.{Logic, sem}
pub use types.Kit.{ !, Item, Sq, ◌$◌, ◌∵◌, ◌⊛◌, any_q, at_ret, await, by, done, drop, feq_l, fjoin, frame, fsplit, join, keep, later, move, pick, qed, raw, rewrite, runs, some, split, suffices, use0, use1, use2, ‵, ⋆}
pub use types.Part.{agg, look_in, sub, whole}
pub use types.Run.{Below, addr, again, alloc0, alloc1, and_then, assigns, assigns_last, bin, blocks, branches, enter, exec, first, fld, forget, free0, free1, from, hop, init, land, leaves_loop, lit, load, look, look_raw, loops, no_more, of_opd, params1, pass0, pass1, returns, skips, stays, stop, store, store_raw}
pub use types.Tokens.{lft_end, lft_new}
