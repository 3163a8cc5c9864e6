-- `free` hands the room back to the allocator.
use Rattle.lists.proofs.Steps.{◌≡◌, ℕ, ◌+◌, ◌*◌, ◌^◌, ◌<◌, T, ltb→lt, List, [], ◌∷◌, length, sym, refl, ap, subst, arith, w64, Ty, named, ty_unit, ty_array, Val, vunit, vint, vptr, has_ty, WT, inst_fn, SProp, Fml, ftrue, fsep, froom, flft, Incl-trans, align, capped, capped_fits, Sq, prop, ‵, raw, ◌⊛◌, given, later, at_ret, group, ◌$◌, ◌∵◌, !, qed, by, move, keep, drop, use1, use2, split, join, learn, rewrite, fsplit, fsplit3, fjoin, fjoin3, feq_i, await, whole, sub, stop, lit, branches, skips, fld, unit_lit, size_word, align_word, no_more, and_then, of_opd, bin, first, blocks, exec, returns, enter, alloc_all, pass_all, free_all, look_at, get, get_in, is, sets, lands_last, env, ◌⊑◌, fact, tables, yes, no, RattleType, owns, plain, types_at, RefOf, usize, Ptr, block_ptr, ptr_val, shr_vals, shr_Tells, uint_vals, uint_Tells, nothing, calls_at_last, framed, Stays, stay_dropped, walk_of, Goes-dropped, El, elτ, Al, token, Gives, at_gives, Gives-goes, Gives-Gives, after, as_raw, as_written, Ptr-Good}
use Rattle.lists.proofs.Fields.{sz, uncapped, block_ty, block_size, block_align, args, P, Br, block_val, block_Good, data_val, block_places}
use Rattle.lists.proofs.ArenaRoom.{numbers_to_room}
use Rattle.lists.proofs.Walks.{proved, leaves}
use Rattle.lists.specs.contracts.block.Block.free.{ended, clauses}
use Rattle.lists.specs.contracts.block.Block.free.Key.{name as #self}
use Rattle.lists.proofs.block.Block.free.Statement.{statement}
use Rattle.lists.proofs.block.Block.free.Code as code

pub free_spec : {M : Type 1} → statement M
free_spec 𝓤 𝓛 𝓜 𝓡 wired X U L LU g d dd met _ =
    let H = 𝓛.H in let 𝓣 = tables 𝓤 H 𝓜 𝓡 𝓡.env in let En = ended X U g d dd in
    let E : El = record { row = X; laws = L } in let Z : Al = record { row = U; laws = LU; g = g; d = d; drops = dd } in let fn = inst_fn (args E Z) code.function in
    let Row : RattleType = Br E Z in let heap = RefOf (0 ∷ []) tt (plain (λ _. P E Z)) (λ _. tt) in let c = clauses X U g d dd 𝓛 𝓜.mem 𝓡.returns in
    let hs : Stays En.signature.params En.kept = (stay_dropped (plain (λ _. Row)) no, (stay_dropped heap yes, (stay_dropped (plain (λ _. usize)) yes, tt))) in
    proved 𝓛 En hs c 𝓜 𝓡 (Goes-dropped 𝓛 3 (plain (λ _. Row)) no (λ κs x f. refl), (Goes-dropped 𝓛 3 heap yes (λ κs x f. refl), (Goes-dropped 𝓛 3 (plain (λ _. usize)) yes (λ κs x f. refl), tt)))
    (#self (args E Z)) fn (code.unfolded 𝓤 H 𝓜 𝓡 wired (X, (U, tt)) d dd)
    (λ κs. ((λ x. block_val x.ptr ∷ []), (shr_vals, (uint_vals w64, tt)))) (λ κs. ((λ x vs is. data_val E Z x.ptr vs is.0), (shr_Tells (named 0) κs.0 (P E Z), (uint_Tells w64, tt)))) (λ κs qs bounds a gh are.
    let κ = κs.0 in let q = qs.0 in let D : Row.Denot = a.0 in let p : Ptr = D.ptr in let hp : ℕ × ℕ = a.1.0.ref_ptr in let h : U.Denot = a.1.0.now in let n : ℕ = a.1.1.0 in
    let s : ℕ = sz E in let al : ℕ = capped (align (elτ E)) in let τ : Ty = block_ty E n in let k : ℕ = length D.numbers in
    let y : (walk_of 𝓛 En hs c).Ghost = ((κs, qs, bounds, a, (block_val p ∷ [], (vptr hp.0 hp.1 ∷ [], (vint w64 n ∷ [], tt)))), gh) in let Post : Val → SProp 𝓤 = (walk_of 𝓛 En hs c).post y in
    let others : Fml = fsep (flft κs.1.0 qs.1.0) (fsep (flft κs.1.1.0 qs.1.1.0) ftrue) in
    let out : Sq 𝓛 (‵ (flft κ q) ∷ ‵ others ∷ []) (prop (Post vunit)) =
    join ! $ nothing ! $ feq_i ! (List Val) (vunit ∷ []) (vunit ∷ []) refl $ nothing ! $ nothing ! $ fjoin ! $ nothing ! $ nothing ! $ fjoin3 ! $
    keep ! (3 ∷ 0 ∷ 1 ∷ 2 ∷ []) $ by ! (leaves 𝓛 En hs c y vunit tt (tt, (tt, (tt, tt))) (tt, (tt, (tt, tt)))) in
    qed 𝓛 (((‵ (flft κ q) ⊛ ‵ others) ⊛ ‵ (owns (types_at En.signature.params κs) a y.0.4)) ∷ raw (fact 𝓤 _) ∷ given (κs.1.1.0 ⊑ U.lives) (‵ ftrue) ∷ given ((k + D.spare ≡ n) × (D.alloc ≡ h)) (‵ ftrue) ∷ []) ∵
    keep ! (2 ∷ 3 ∷ 0 ∷ []) $ learn ! (λ within. drop ! $ learn ! (λ asked. drop ! $ split ! $ split ! $ move ! (2 ∷ []) $ fsplit3 ! $ fsplit ! $ drop ! $ move ! (1 ∷ []) $ fsplit ! $ keep ! (2 ∷ 1 ∷ 4 ∷ 5 ∷ []) $
    -- [what the block owns; the allocator; its token; the other tokens]
    enter ! 𝓣.C 𝓣.Λ fn (block_val p ∷ vptr hp.0 hp.1 ∷ vint w64 n ∷ []) Post $ alloc_all ! (λ l. pass_all ! refl (block_Good p, ((tt, tt), ((tt, record { fits = are.1.1.0.1 }), tt))) $ let Ev = env fn.locals l in
    sets ! (of_opd ! (get_in ! (fld ! refl (stop !)) (sub ! 0 refl (whole !)))) refl (Ptr-Good p) $ sets ! (bin ! (lit ! tt) (get ! refl) tt) refl (tt, tt) $
    first ! $ branches ! (get ! refl)
    (λ big. let some : 0 < n = ltb→lt 0 n big in
    block_places E Z ! D (subst (λ (j : ℕ). 0 < j) (sym asked.0) some) (λ b o at fit.
    let small : n * s < 2 ^ 63 = subst (λ (j : ℕ). j * s < 2 ^ 63) asked.0 fit in let bytes : n * s < 2 ^ 64 = omega arith in
    let t : (Gives Z 𝓛 𝓜.mem 𝓡.returns).Ghost = at_gives Z 𝓛 𝓜.mem 𝓡.returns κ q hp h b o (n * s) al τ in
    move ! (1 ∷ []) $ as_written ! (ty_array (elτ E) D.spare) b (k * s + o) $ move ! (1 ∷ 0 ∷ []) $ use2 𝓛 (‵ (froom (ty_array (elτ E) (k + D.spare)) b o)) (numbers_to_room E 𝓛 b D.numbers D.spare o) $
    rewrite ! 0 (λ (j : ℕ). ‵ (froom (ty_array (elτ E) j) b o)) asked.0 refl $ as_raw ! (ty_array (elτ E) n) b o $
    rewrite ! 1 (λ (r : ℕ × U.Denot). ‵ (token Z r.1 (block_ty E r.0) (block_ptr b o))) {x = (n, h)} {y = (k + D.spare, D.alloc)} (λ i. (asked.0 i, asked.1 i)) refl $
    blocks ! $ sets ! (is ! (of_opd ! (get ! refl)) (ap ptr_val at)) refl (tt, tt) $
    sets ! (is ! (bin ! (get ! refl) (size_word !) (record { fits = subst (λ (j : ℕ). j < 2 ^ 64) (sym (uncapped n s bytes)) bytes })) (ap (vint w64) (uncapped n s bytes))) refl (tt, record { fits = bytes }) $
    group ! 4 $ use1 𝓛 (raw ((Gives Z 𝓛 𝓜.mem 𝓡.returns).pre t))
    (Gives-goes Z 𝓛 𝓜.mem 𝓡.returns κ q hp h (Incl-trans bounds.0 within) b o (n * s) al τ (block_size E n bytes) (block_align E n) bytes (capped_fits (align (elτ E)))) $
    calls_at_last ! (framed 𝓤 H 𝓜 𝓣) (Gives Z 𝓛 𝓜.mem 𝓡.returns) (met.deallocate dd) t (and_then ! (get ! refl) (and_then ! (get ! refl) (and_then ! (get ! refl) (and_then ! (align_word !) (no_more !))))) (λ v.
    use1 𝓛 (later (given (v ≡ vunit) (‵ (flft κ q)))) (Gives-Gives Z 𝓛 𝓜.mem 𝓡.returns κ q hp h b o (n * s) al τ v) $ await ! tt $ learn ! (λ e.
    lands_last ! refl (subst (λ (u : Val). T (has_ty ty_unit u) × WT u) (sym e) (tt, tt)) $ exec ! 𝓣.C 𝓣.Λ Ev (after 3 fn.body) (at_ret Ev Post) $
    sets ! (of_opd ! (unit_lit !)) refl (tt, tt) $ returns ! (look_at ! 0 refl) $ free_all ! refl $ out))))
    (λ none. skips ! $ exec ! 𝓣.C 𝓣.Λ Ev (after 3 fn.body) (at_ret Ev Post) $ sets ! (of_opd ! (unit_lit !)) refl (tt, tt) $ returns ! (look_at ! 0 refl) $ free_all ! refl $ keep ! (2 ∷ 3 ∷ []) $ out)))))
