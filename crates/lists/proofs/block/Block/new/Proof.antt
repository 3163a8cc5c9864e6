-- `new` asks the allocator for an array, and keeps what comes back.
use Rattle.lists.proofs.Steps.{◌≡◌, ℕ, ◌+◌, ◌*◌, ◌^◌, ◌<◌, true, false, [], ◌∷◌, sym, refl, ap, subst, arith, lit<, w64, zero-mul, IfOk, Ok, Err, Ty, Body, named, Val, vint, vptr, vstruct, vcons, vnil, WT, inst_fn, SProp, emp, Fml, ftrue, fsep, froom, flft, Incl-trans, align, capped, capped_fits, Wp, after_seq, at_return, After, any_q, ‵, raw, ◌⊛◌, given, later, at_ret, ◌$◌, ◌∵◌, !, qed, by, move, keep, drop, use0, use1, use2, split, join, learn, fsplit, fjoin3, rewrite, await, whole, agg, live, vrt, in_variant, stop, fld, lit, size_word, align_word, no_more, and_then, of_opd, bin, first, switches_on, exec, returns, enter, alloc_all, pass_all, free_all, look_at, get, get_in, get_tag, is, sets, sets_last, lands_as, env, ◌⊑◌, fact, fact_i, tables, yes, RattleType, owns, plain, types_at, RefOf, usize, Ptr, block_ptr, shr_vals, shr_Tells, uint_vals, uint_Tells, nothing, calls_at, framed, Stays, stay_dropped, walk_of, Goes-dropped, El, R, elτ, Al, token, Answer-typed, Takes, at_takes, Answered, Takes-goes, Takes-gives, answers, after, head, arm_body, ok_of, err_of, FitsInBlock, Is, owned, Struct, Struct-Makes}
use Rattle.std.specs.contracts.result.Result as RS
use Rattle.std.specs.contracts.alloc.AllocError as AE
use Rattle.lists.proofs.Fields.{sz, uncapped, block_ty, block_size, block_align, args, P, Br, block_val, block_Good, block_from_parts}
use Rattle.lists.proofs.Walks.{proved, leaves}
use Rattle.lists.specs.contracts.block.Block.new.{ended, clauses}
use Rattle.lists.specs.contracts.block.Block.new.Key.{name as #self}
use Rattle.lists.proofs.block.Block.new.Statement.{statement}
use Rattle.lists.proofs.block.Block.new.Code as code
use denote.Struct.Declared as Declared

pub new_spec : {M : Type 1} → statement M
new_spec 𝓤 𝓛 𝓜 𝓡 wired X U L LU g d dd met _ =
    let H = 𝓛.H in let 𝓣 = tables 𝓤 H 𝓜 𝓡 𝓡.env in let W : RattleType = P (record { row = X; laws = L }) (record { row = U; laws = LU; g = g; d = d; drops = dd }) in let En = ended X U g d dd in
    let E : El = record { row = X; laws = L } in let Z : Al = record { row = U; laws = LU; g = g; d = d; drops = dd } in let fn = inst_fn (args E Z) code.function in
    let Row : RattleType = Br E Z in let heap = RefOf (0 ∷ []) tt (plain (λ _. W)) (λ _. tt) in let c = clauses X U g d dd 𝓛 𝓜.mem 𝓡.returns in
    let hs : Stays En.signature.params En.kept = (stay_dropped heap yes, (stay_dropped (plain (λ _. usize)) yes, tt)) in let Out : RattleType = RS.the_row Row AE.the_row in
    proved 𝓛 En hs c 𝓜 𝓡 (Goes-dropped 𝓛 3 heap yes (λ κs x f. refl), (Goes-dropped 𝓛 3 (plain (λ _. usize)) yes (λ κs x f. refl), tt)) (#self (args E Z)) fn (code.unfolded 𝓤 H 𝓜 𝓡 wired (X, (U, tt)) d dd)
    (λ κs. (shr_vals, (uint_vals w64, tt))) (λ κs. (shr_Tells (named 0) κs.0 W, (uint_Tells w64, tt))) (λ κs qs bounds a gh are.
    let κ = κs.0 in let q = qs.0 in let hp : ℕ × ℕ = a.0.ref_ptr in let h : U.Denot = a.0.now in let n : ℕ = a.1.0 in let s : ℕ = sz E in let al : ℕ = capped (align (elτ E)) in let τ : Ty = block_ty E n in
    let y : (walk_of 𝓛 En hs c).Ghost = ((κs, qs, bounds, a, (vptr hp.0 hp.1 ∷ [], (vint w64 n ∷ [], tt))), gh) in let Post : Val → SProp 𝓤 = (walk_of 𝓛 En hs c).post y in
    let others : Fml = fsep (flft κs.1.0 qs.1.0) (fsep (flft κs.1.1.0 qs.1.1.0) ftrue) in
    let Told : Out.Denot → Type 0 = λ r. IfOk r (λ k. (k.numbers ≡ []) × (k.spare ≡ n) × (k.alloc ≡ h)) in
    qed 𝓛 (((‵ (flft κ q) ⊛ ‵ others) ⊛ ‵ (owns (types_at En.signature.params κs) a y.0.4)) ∷ raw (fact 𝓤 _) ∷ given (κs.1.1.0 ⊑ U.lives) (‵ ftrue) ∷ given (FitsInBlock (R E) n) (‵ ftrue) ∷ []) ∵
    keep ! (2 ∷ 3 ∷ 0 ∷ []) $ learn ! (λ within. drop ! $ learn ! (λ fits. drop ! $ split ! $ split ! $ move ! (2 ∷ []) $ fsplit ! $ fsplit ! $ keep ! (1 ∷ 3 ∷ 4 ∷ []) $
    let small : n * s < 2 ^ 63 = fits.0 in let bytes : n * s < 2 ^ 64 = omega arith in
    enter ! 𝓣.C 𝓣.Λ fn (vptr hp.0 hp.1 ∷ vint w64 n ∷ []) Post $ alloc_all ! (λ l. pass_all ! refl ((tt, tt), ((tt, record { fits = are.1.0.1 }), tt)) $ let Ev = env fn.locals l in
    let both : Body = head (after 2 fn.body) in
    let Then : After 𝓤 H = any_q (after_seq 𝓤 H (Wp 𝓤 H 𝓣.C 𝓣.Λ Ev (after 3 fn.body) (at_return 𝓤 H Ev Post)) (at_return 𝓤 H Ev Post)) in
    let t : (Takes Z 𝓛 𝓜.mem 𝓡.returns).Ghost = at_takes Z 𝓛 𝓜.mem 𝓡.returns κ q hp h (n * s) al τ in
    sets ! (is ! (bin ! (get ! refl) (size_word !) (record { fits = subst (λ (k : ℕ). k < 2 ^ 64) (sym (uncapped n s bytes)) bytes })) (ap (vint w64) (uncapped n s bytes))) refl (tt, record { fits = bytes }) $
    use2 𝓛 (raw ((Takes Z 𝓛 𝓜.mem 𝓡.returns).pre t))
    (Takes-goes Z 𝓛 𝓜.mem 𝓡.returns κ q hp h (Incl-trans bounds.0 within) (n * s) al τ (block_size E n bytes) (block_align E n) bytes (capped_fits (align (elτ E)))) $
    calls_at ! (framed 𝓤 H 𝓜 𝓣) (Takes Z 𝓛 𝓜.mem 𝓡.returns) (met.allocate dd) t (and_then ! (get ! refl) (and_then ! (get ! refl) (and_then ! (align_word !) (no_more !)))) (λ v.
    use1 𝓛 (later (raw (Answered Z 𝓛 𝓜.mem 𝓡.returns h τ v) ⊛ ‵ (flft κ q))) (Takes-gives Z 𝓛 𝓜.mem 𝓡.returns κ q hp h (n * s) al τ v) $ await ! tt $ split ! $
    move ! (1 ∷ 2 ∷ []) $ join ! $ move ! (1 ∷ []) $ answers Z ! 𝓜.mem 𝓡.returns h τ v
    (λ b o e. let p : Ptr = block_ptr b o in let new : Row.Denot = record { ptr = p; by = record {}; numbers = []; spare = n; alloc = h } in let u : Val = block_val p in let good = block_Good p in
    let r : Val = live 0 (vcons u vnil) in let all : WT r = (record { fits = lit< tt }, (good.1, tt)) in
    lands_as ! e refl (Answer-typed true b o) $ first ! $ switches_on ! (get_tag ! (vrt ! refl (fld ! refl (stop !))) (whole !)) $ exec ! 𝓣.C 𝓣.Λ Ev (arm_body 0 both) Then $
    sets ! (of_opd ! (get_in ! (vrt ! refl (fld ! refl (stop !))) (in_variant ! 0 0 refl refl (whole !)))) refl (tt, tt) $ sets ! (of_opd ! (get ! refl)) refl (tt, tt) $
    sets ! (agg ! (no_more !)) refl (tt, tt) $ sets ! (agg ! (and_then ! (get ! refl) (and_then ! (get ! refl) (no_more !)))) refl good $
    sets_last ! (agg ! (and_then ! (lit ! tt) (and_then ! (get ! refl) (no_more !)))) refl (tt, all) $
    exec ! 𝓣.C 𝓣.Λ Ev (after 3 fn.body) (at_ret Ev Post) $ sets ! (of_opd ! (get ! refl)) refl (tt, all) $
    let here : o ≡ 0 * s + o = omega (arith, zero-mul s) in let count : n ≡ 0 + n = omega arith in
    rewrite ! 0 (λ (k : ℕ). ‵ (froom (block_ty E n) b k)) here refl $ rewrite ! 1 (λ (k : ℕ). ‵ (token Z h (block_ty E k) (block_ptr b o))) count refl $ nothing ! $
    block_from_parts E Z ! new b o refl (subst (λ (k : ℕ). k * s < 2 ^ 63) count small) $
    use1 𝓛 (‵ (Out.own_val (Ok new) (r ∷ []))) (ok_of 𝓛 Row AE.the_row new u) $
    use0 𝓛 (raw (fact 𝓤 (Told (Ok new)))) (fact_i 𝓤 (Told (Ok new)) (emp 𝓤) (refl, refl, refl)) $ nothing ! $ nothing ! $ nothing ! $ fjoin3 ! $
    returns ! (look_at ! 0 refl) $ free_all ! refl $ keep ! (3 ∷ 0 ∷ 2 ∷ 1 ∷ []) $ by ! (leaves 𝓛 En hs c y r (Ok new) (tt, (tt, tt)) (tt, (tt, tt))))
    (λ e. let u : Val = vstruct vnil in let r : Val = live 1 (vcons u vnil) in let none : WT r = (record { fits = lit< tt }, (tt, tt)) in
    lands_as ! e refl (Answer-typed false 0 0) $ first ! $ switches_on ! (get_tag ! (vrt ! refl (fld ! refl (stop !))) (whole !)) $ exec ! 𝓣.C 𝓣.Λ Ev (arm_body 1 both) Then $
    sets ! (of_opd ! (get_in ! (vrt ! refl (fld ! refl (stop !))) (in_variant ! 1 0 refl refl (whole !)))) refl (tt, tt) $
    sets_last ! (agg ! (and_then ! (lit ! tt) (and_then ! (get ! refl) (no_more !)))) refl (tt, none) $
    exec ! 𝓣.C 𝓣.Λ Ev (after 3 fn.body) (at_ret Ev Post) $ sets ! (of_opd ! (get ! refl)) refl (tt, none) $
    owned ! (Struct (Declared.shape AE.the_type)) (Is (Struct (Declared.shape AE.the_type))) (Struct-Makes 𝓛 (Declared.shape AE.the_type) tt) tt (u ∷ []) (tt, (refl, tt)) $
    use1 𝓛 (‵ (Out.own_val (Err (record {})) (r ∷ []))) (err_of 𝓛 Row AE.the_row (record {}) u) $
    use0 𝓛 (raw (fact 𝓤 (Told (Err (record {}))))) (fact_i 𝓤 (Told (Err (record {}))) (emp 𝓤) tt) $ nothing ! $ nothing ! $ nothing ! $ fjoin3 ! $
    returns ! (look_at ! 0 refl) $ free_all ! refl $ keep ! (3 ∷ 0 ∷ 2 ∷ 1 ∷ []) $ by ! (leaves 𝓛 En hs c y r (Err (record {})) (tt, (tt, tt)) (tt, (tt, tt)))))))))
