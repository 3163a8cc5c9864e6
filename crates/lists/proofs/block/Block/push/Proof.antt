-- `push` makes the numbers from `count` on room, and writes one there.
use Rattle.lists.proofs.Steps.{◌≡◌, ℕ, suc, ◌+◌, ◌-◌, ◌*◌, ◌^◌, ◌<◌, ◌≤◌, List, [], ◌∷◌, ◌++◌, length, take, length-append, length-take-le, sym, refl, ap, ◌∙◌, subst, arith, w64, Ty, ty_array, Val, vunit, vint, vptr, inst_fn, full_share, SProp, ent, emp, Fml, ftrue, fsep, flft, froom, WpFn, ‵, raw, ◌⊛◌, given, at_ret, ◌$◌, ◌∵◌, !, qed, by, move, keep, drop, split, split3, join, fsplit, fsplit3, fjoin, fjoin3, learn, use0, use2, rewrite, feq_i, stop, fld, load, init, unit_lit, size_lit, of_opd, bin, first, blocks, exec, assigns_last, returns, enter, alloc_all, pass_all, free_all, look_at, get, through, sets, is, env, sub, whole, look_in, cells, fact, fact_i, tables, yes, no, RattleType, owns, types_at, plain, block_ptr, ptr_val, mem, part_at, usize, nothing, Stays, stay_dropped, stay_ref, walk_of, Goes-dropped, Goes-ref, part_in, El, R, elτ, lawful, one, Good, Al, token, times_below, one_below, after, as_raw, as_written}
use Rattle.lists.proofs.Walks.{proved_at, leaves}
use Rattle.lists.proofs.Fields.{sz, block_ty, args, Br, block_opens, block_closes}
use Rattle.lists.proofs.ArenaRoom.{cut_place, fill_place, behind}
use Rattle.lists.specs.contracts.block.Block.push.{ended, clauses}
use Rattle.lists.specs.contracts.block.Block.push.Key.{name as #self}
use Rattle.lists.proofs.block.Block.push.Statement.{statement}
use Rattle.lists.proofs.block.Block.push.Code as code

pub push_spec : {M : Type 1} → statement M
push_spec 𝓤 𝓛 𝓜 𝓡 wired X U L LU g d dd _ _ =
    let H = 𝓛.H in let 𝓣 = tables 𝓤 H 𝓜 𝓡 𝓡.env in let En = ended X U g d dd in
    let E : El = record { row = X; laws = L } in let Z : Al = record { row = U; laws = LU; g = g; d = d; drops = dd } in let fn = inst_fn (args E Z) code.function in
    let Row : RattleType = Br E Z in let self = plain (λ _. Row) in let c = clauses X U g d dd 𝓛 𝓜.mem 𝓡.returns in
    let hs : Stays En.signature.params En.kept = (stay_ref (0 ∷ []) tt self, (stay_dropped (plain (λ _. usize)) yes, (stay_dropped (plain (λ _. R E)) no, tt))) in
    proved_at 𝓛 En hs c 𝓜 𝓡 (Goes-ref 𝓛 3 0 tt self, (Goes-dropped 𝓛 3 (plain (λ _. usize)) yes (λ κs x f. refl), (Goes-dropped 𝓛 3 (plain (λ _. R E)) no (λ κs x f. refl), tt)))
    (#self (args E Z)) fn (code.unfolded 𝓤 H 𝓜 𝓡 wired (X, (U, tt)) d dd) (λ y₀ are. let κs = y₀.0.0 in let qs = y₀.0.1 in let a = y₀.0.3 in
    let rb : ℕ = a.0.ref_ptr.0 in let ro : ℕ = a.0.ref_ptr.1 in let h : Row.Denot = a.0.now in let k : ℕ = a.1.0 in let x : X.Denot = a.1.1.0 in
    let xs : List X.Denot = h.numbers in let m : ℕ = h.spare in let s : ℕ = sz E in let τ : Ty = elτ E in
    let got = one E y₀.0.4.1.1.0 ((lawful E 𝓛).typed x y₀.0.4.1.1.0 are.1.1.0) in let v : Val = got.0 in let tv : Good E v = got.2 in
    let At : List Val × (List Val × (List Val × Unit {0})) → (walk_of 𝓛 En hs c).Ghost = λ vss. ((κs, qs, y₀.0.2, a, vss), y₀.1) in
    let y : (walk_of 𝓛 En hs c).Ghost = At (vptr rb ro ∷ [], (vint w64 k ∷ [], (v ∷ [], tt))) in let Post : Val → SProp 𝓤 = (walk_of 𝓛 En hs c).post y in
    let others : Fml = fsep (flft κs.1.0 qs.1.0) (fsep (flft κs.1.1.0 qs.1.1.0) ftrue) in
    subst (λ (vss : List Val × (List Val × (List Val × Unit {0}))). ent 𝓤 ((walk_of 𝓛 En hs c).pre (At vss)) (WpFn 𝓤 H 𝓣.C 𝓣.Λ fn ((walk_of 𝓛 En hs c).args (At vss)) ((walk_of 𝓛 En hs c).post (At vss))))
    (λ i. (sym are.0.0 i, (sym are.1.0.0 i, (sym got.1 i, tt)))) (
    qed 𝓛 (((‵ (flft κs.0 qs.0) ⊛ ‵ others) ⊛ ‵ (owns (types_at En.signature.params κs) a y.0.4)) ∷ raw (fact 𝓤 _) ∷ raw (fact 𝓤 _) ∷ given ((k ≤ length xs) × (k < length xs + m)) (‵ ftrue) ∷ []) ∵
    keep ! (3 ∷ 0 ∷ []) $ learn ! (λ asked. drop ! $ split ! $ split ! $ move ! (2 ∷ []) $ fsplit3 ! $ move ! (2 ∷ []) $ fsplit ! $ move ! (2 ∷ []) $ fsplit3 ! $ keep ! (1 ∷ 2 ∷ 6 ∷ 7 ∷ 3 ∷ []) $
    let m' : ℕ = length xs + m - (k + 1) in let places : length xs + m ≡ k + suc m' = omega (arith, asked.1) in
    let ys : List X.Denot = take k xs ++ x ∷ [] in let shorter : length (take k xs) ≡ k = length-take-le k xs asked.0 in
    let longer : length ys ≡ suc k = length-append (take k xs) (x ∷ []) ∙ omega (arith, shorter) in
    let all : length xs + m ≡ length ys + m' = omega (arith, places, longer) in
    let new : Row.Denot = record { ptr = h.ptr; by = h.by; numbers = ys; spare = m'; alloc = h.alloc } in
    enter ! 𝓣.C 𝓣.Λ fn (vptr rb ro ∷ vint w64 k ∷ v ∷ []) Post $ alloc_all ! (λ l. pass_all ! refl ((tt, tt), ((tt, record { fits = are.1.0.1 }), (tv, tt))) $ let Ev = env fn.locals l in
    block_opens E Z ! tt h rb ro (omega (arith, asked.1)) (λ b o at fit.
    let e : ℕ = k * s + o in let tiny : s < 2 ^ 64 = omega (arith, one_below (length xs + m) s (2 ^ 63) (omega (arith, asked.1)) fit) in
    let bytes : k * s < 2 ^ 64 = omega (arith, times_below k (length xs + m) s (2 ^ 63) (omega (arith, asked.1)) fit) in
    move ! (1 ∷ []) $ as_written ! (ty_array τ m) b (length xs * s + o) $ move ! (1 ∷ 0 ∷ []) $
    use2 𝓛 (‵ (cells (mem (R E)) (take k xs) b o) ⊛ ‵ (froom τ b e) ⊛ ‵ (froom (ty_array τ m') b (e + s))) (cut_place E 𝓛 b xs k m m' o asked.0 places) $ split3 ! $ move ! (1 ∷ []) $
    -- [the place; the numbers kept; the room behind; what frees it; the fields; the open borrow;
    -- obs; auth; the other tokens; the number]
    first ! $ blocks ! $ sets ! (is ! (of_opd ! (load ! (through ! refl (fld ! refl (stop !))) (look_in ! 4 (sub ! 0 refl (whole !))))) (ap ptr_val at)) refl (tt, tt) $
    sets ! (bin ! (get ! refl) (size_lit ! (record { fits = tiny })) (record { fits = bytes })) refl (tt, record { fits = bytes }) $ sets ! (bin ! (get ! refl) (get ! refl) tt) refl (tt, tt) $
    sets ! (of_opd ! (get ! refl)) refl tv $ assigns_last ! (of_opd ! (get ! refl)) (through ! refl (stop !)) (init ! 0 refl tv) $ exec ! 𝓣.C 𝓣.Λ Ev (after 1 fn.body) (at_ret Ev Post) $ sets ! (of_opd ! (unit_lit !)) refl (tt, tt) $
    move ! (0 ∷ 9 ∷ []) $ use2 𝓛 (‵ (part_at (R E) full_share x b e)) (part_in 𝓛 (R E) refl full_share x b e v) $ move ! (1 ∷ 0 ∷ []) $
    use2 𝓛 (‵ (cells (mem (R E)) ys b o)) (fill_place E 𝓛 b (take k xs) x o e (ap (λ (j : ℕ). j * s + o) (sym shorter))) $
    move ! (1 ∷ []) $ rewrite ! 0 (λ (j : ℕ). ‵ (froom (ty_array τ m') b j)) (behind k (length ys) s o longer) refl $ as_raw ! (ty_array τ m') b (length ys * s + o) $
    move ! (2 ∷ []) $ rewrite ! 0 (λ (j : ℕ). ‵ (token Z h.alloc (block_ty E j) (block_ptr b o))) all refl $ move ! (2 ∷ 1 ∷ 0 ∷ []) $
    block_closes E Z ! tt new b o rb ro at (subst (λ (j : ℕ). j * s < 2 ^ 63) all fit) $ feq_i ! (List Val) (vptr rb ro ∷ []) (vptr rb ro ∷ []) refl $ fjoin3 ! $
    nothing ! $ nothing ! $ fjoin ! $ nothing ! $ fjoin ! $ move ! (1 ∷ 0 ∷ []) $ fjoin ! $ move ! (1 ∷ 2 ∷ []) $ join ! $
    let Told : Type 0 = (ys ≡ take k xs ++ x ∷ []) × (length ys + m' ≡ length xs + m) × (h.alloc ≡ h.alloc) in
    use0 𝓛 (raw (fact 𝓤 Told)) (fact_i 𝓤 Told (emp 𝓤) (refl, sym all, refl)) $ feq_i ! (List Val) (vunit ∷ []) (vunit ∷ []) refl $
    returns ! (look_at ! 0 refl) $ free_all ! refl $ keep ! (2 ∷ 3 ∷ 0 ∷ 1 ∷ []) $ by ! (leaves 𝓛 En hs c y vunit tt (new, (tt, (tt, tt))) (tt, (tt, (tt, tt)))))))))
