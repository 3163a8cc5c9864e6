-- The names that the walks cite.
pub use base.Fml.{Fml, ftrue, fsep, flft, froom, Incl-trans, fhide, GName}
pub use base.Fraction.{full_share}
pub use base.Logic.{SProp, emp, ent}
pub use borrow.Table.OneValue.{part_in}
pub use contract.BorrowLft.{◌⊑◌}
pub use contract.Monad.{fact, fact_i}
pub use contract.Running.{tables}
pub use denote.Array.{Array}
pub use denote.Builtin.{RefOf, usize}
pub use denote.Exit.{yes, no}
pub use denote.Follow.{follows}
pub use denote.Laws.{Is}
pub use denote.Memory.{mem, part_at, hidden_shr}
pub use denote.Opens.{hide, unhide}
pub use denote.Plain.{uint_vals, uint_Tells}
pub use denote.RattleType.{owns, RattleType}
pub use denote.RawPtr.{null_ptr, Ptr, block_ptr, ptr_val, in_a_block}
pub use denote.Ref.{shr_vals, shr_Tells, MutBor, mut_vals, mut_Tells, Bor}
pub use denote.Signature.{plain, types_at, mut_ref_to}
pub use denote.Slice.{elements_shared, slice_val, MutSlice, ShrSlice, Room}
pub use denote.Steps.{nothing, owned}
pub use denote.Struct.Lending.{lent_out}
pub use denote.Struct.Struct.{Struct, Struct-Makes}
pub use denote.Struct.Tuple.{Tuple}
pub use denote.Triple.Call.{calls_at, calls_at_last}
pub use denote.Triple.Table.{framed}
pub use denote.Triple.Walked.{Stays, stay_dropped, walk_of, Goes-dropped, stay_ref, Goes-ref, Goes-spent_ref}
pub use mir.MapTy.{inst_fn}
pub use mir.Syntax.{named, Ty, Body, ty_unit, ty_array}
pub use mir.Val.{Val, vptr, vint, vstruct, vcons, vnil, WT, vunit, has_ty}
pub use prog.Capped.{capped_fits}
pub use prog.Memory.{align, capped}
pub use prog.Wp.{Wp, after_seq, at_return, WpFn}
pub use types.ByLocal.{alloc_all, pass_all, free_all, look_at, get, sets, get_in, get_tag, is, sets_last, lands_as, env, lands_last, through}
pub use types.Kit.{‵, raw, ◌⊛◌, ◌$◌, ◌∵◌, !, qed, by, keep, split, use0, fjoin, Post as After, any_q, given, later, at_ret, move, drop, use1, use2, join, learn, fsplit, fjoin3, rewrite, await, Sq, prop, group, fsplit3, feq_i, split3, flt_i, flt_l, some, pick}
pub use types.Match.{live, vrt, in_variant}
pub use types.Part.{agg, whole, sub, look_in}
pub use types.Run.{lit, no_more, and_then, returns, enter, stop, fld, size_word, align_word, of_opd, bin, first, switches_on, exec, branches, skips, unit_lit, blocks, load, init, size_lit, assigns_last, look}
pub use types.SemTy.{cells}
pub use Rattle.std.proofs.Common.{◌≡◌, ℕ, [], ◌∷◌, refl, arith, ◌+◌, ◌*◌, ◌^◌, ◌<◌, true, false, sym, ap, subst, lit<, w64, zero-mul, IfOk, Ok, Err, T, ltb→lt, List, length, suc, ◌-◌, ◌≤◌, ◌++◌, take, length-append, length-take-le, ◌∙◌, ◌⊎◌}
pub use Rattle.std.proofs.RawLayout.{as_raw, as_written}
pub use Rattle.std.proofs.RcSteps.{Ptr-Good}
pub use Rattle.std.proofs.ResultValues.{ok_of, err_of}
pub use Rattle.std.proofs.VecSteps.Shapes.{after, head, arm_body}
pub use Rattle.std.proofs.alloc.Calls.{Al, token, Answer-typed, Takes, at_takes, Answered, Takes-goes, Takes-gives, answers, Gives, at_gives, Gives-goes, Gives-Gives}
pub use Rattle.std.proofs.mem.Param.{El, R, elτ, lawful, one, Good}
pub use Rattle.std.proofs.ptr.Rows.{times_below, one_below}
pub use Rattle.std.specs.Vec.Ownership.{FitsInBlock}
