-- `slice` shows a part of the numbers that a `&` to the block holds.
use Rattle.lists.proofs.Steps.{◌≡◌, ℕ, ◌+◌, ◌*◌, ◌^◌, ◌<◌, ◌≤◌, List, [], ◌∷◌, length, sym, refl, ap, subst, arith, w64, named, Val, vint, vptr, inst_fn, SProp, emp, Fml, ftrue, fsep, fhide, flft, ‵, raw, ◌⊛◌, given, at_ret, ◌$◌, ◌∵◌, !, qed, by, move, keep, drop, split, join, fsplit, fjoin, learn, use0, use1, feq_i, flt_i, flt_l, stop, fld, load, look, size_lit, of_opd, bin, no_more, and_then, first, blocks, exec, returns, enter, alloc_all, pass_all, free_all, look_at, get, through, sets, sets_last, env, agg, fact, fact_i, tables, yes, RattleType, owns, types_at, plain, block_ptr, in_a_block, hidden_shr, RefOf, usize, hide, unhide, uint_vals, uint_Tells, shr_vals, shr_Tells, elements_shared, slice_val, nothing, lent_out, Stays, stay_dropped, walk_of, Goes-dropped, El, R, Al, times_below, one_below, after}
use Rattle.std.specs.contracts.marker.PhantomData as marker
use Rattle.lists.specs.Ownership.{block_lent}
use Rattle.lists.specs.Parts.{part}
use Rattle.lists.specs.contracts.block.Block as C
use Rattle.lists.proofs.Lists.{length-part}
use Rattle.lists.proofs.Walks.{proved, leaves}
use Rattle.lists.proofs.Fields.{sz, args, P, Br, Data, none_at_null}
use Rattle.lists.proofs.Views.{part_view, pointer_in, pointer_out}
use Rattle.lists.specs.contracts.block.Block.slice.{ended, clauses}
use Rattle.lists.specs.contracts.block.Block.slice.Key.{name as #self}
use Rattle.lists.proofs.block.Block.slice.Statement.{statement}
use Rattle.lists.proofs.block.Block.slice.Code as code

pub slice_spec : {M : Type 1} → statement M
slice_spec 𝓤 𝓛 𝓜 𝓡 wired X U L LU g d dd _ _ =
    let H = 𝓛.H in let 𝓣 = tables 𝓤 H 𝓜 𝓡 𝓡.env in let En = ended X U g d dd in
    let E : El = record { row = X; laws = L } in let Z : Al = record { row = U; laws = LU; g = g; d = d; drops = dd } in let fn = inst_fn (args E Z) code.function in
    let Row : RattleType = Br E Z in let self = RefOf (0 ∷ []) tt (plain (λ _. Row)) (λ _. tt) in let c = clauses X U g d dd 𝓛 𝓜.mem 𝓡.returns in
    let hs : Stays En.signature.params En.kept = (stay_dropped self yes, (stay_dropped (plain (λ _. usize)) yes, (stay_dropped (plain (λ _. usize)) yes, tt))) in
    proved 𝓛 En hs c 𝓜 𝓡 (Goes-dropped 𝓛 3 self yes (λ κs x f. refl), (Goes-dropped 𝓛 3 (plain (λ _. usize)) yes (λ κs x f. refl), (Goes-dropped 𝓛 3 (plain (λ _. usize)) yes (λ κs x f. refl), tt)))
    (#self (args E Z)) fn (code.unfolded 𝓤 H 𝓜 𝓡 wired (X, (U, tt)) d dd)
    (λ κs. (shr_vals, (uint_vals w64, (uint_vals w64, tt)))) (λ κs. (shr_Tells (named 0) κs.0 Row, (uint_Tells w64, (uint_Tells w64, tt)))) (λ κs qs bounds a gh are.
    let rb : ℕ = a.0.ref_ptr.0 in let ro : ℕ = a.0.ref_ptr.1 in let h : Row.Denot = a.0.now in let i : ℕ = a.1.0 in let n : ℕ = a.1.1.0 in let κ = κs.0 in let s : ℕ = sz E in
    let y : (walk_of 𝓛 En hs c).Ghost = ((κs, qs, bounds, a, (vptr rb ro ∷ [], (vint w64 i ∷ [], (vint w64 n ∷ [], tt)))), gh) in let Post : Val → SProp 𝓤 = (walk_of 𝓛 En hs c).post y in
    let others : Fml = fsep (flft κs.1.0 qs.1.0) (fsep (flft κs.1.1.0 qs.1.1.0) ftrue) in
    qed 𝓛 (((‵ (flft κ qs.0) ⊛ ‵ others) ⊛ ‵ (owns (types_at En.signature.params κs) a y.0.4)) ∷ raw (fact 𝓤 _) ∷ raw (fact 𝓤 _) ∷ given ((0 < n) × (i + n ≤ length h.numbers)) (‵ ftrue) ∷ []) ∵
    keep ! (3 ∷ 0 ∷ []) $ learn ! (λ asked. drop ! $ split ! $ split ! $ move ! (2 ∷ []) $ fsplit ! $ fsplit ! $ drop ! $
    let w : List X.Denot = part i n h.numbers in let lw : length w ≡ n = length-part i n h.numbers asked.1 in let all : ℕ = length h.numbers + h.spare in
    use1 𝓛 (‵ (hidden_shr (Data E Z) κ (h.ptr, (tt, tt)) rb ro) ⊛ ‵ (fhide (C.the_lent (R E) (P E Z) g h (block_ptr rb ro) κ)))
    (lent_out 𝓛 (C.struct (R E) (P E Z) g) (C.the_codes X.Denot U.Denot (R E).coded (P E Z).coded (marker.the_row (P E Z)).coded) (C.the_heap (R E) (P E Z) g) (C.the_lent (R E) (P E Z) g) κ h rb ro) $ split ! $
    unhide ! $ fsplit ! $ fsplit ! $ keep ! (0 ∷ 3 ∷ 5 ∷ 6 ∷ []) $ hide ! $ move ! (1 ∷ []) $ unhide ! $
    in_a_block ! h.ptr (λ p. block_lent (R E) p h.numbers h.spare κ) (none_at_null 𝓛 all (omega (arith, asked.0, asked.1))) (λ b o at. fsplit ! $ flt_l ! (λ fit.
    let e : ℕ = i * s + o in let tiny : s < 2 ^ 64 = omega (arith, one_below all s (2 ^ 63) (omega (arith, asked.0, asked.1)) fit) in
    let bytes : i * s < 2 ^ 64 = omega (arith, times_below i all s (2 ^ 63) (omega (arith, asked.1)) fit) in
    let room : length w * s < 2 ^ 63 = subst (λ (j : ℕ). j * s < 2 ^ 63) (sym lw) (times_below n all s (2 ^ 63) (omega (arith, asked.1)) fit) in
    use1 𝓛 (‵ (elements_shared (R E) w b e κ)) (part_view E 𝓛 b κ h.numbers i n o (omega (arith, asked.1))) $ hide ! $ move ! (1 ∷ 2 ∷ []) $
    -- [the pointer; the token; the part; the other tokens]
    enter ! 𝓣.C 𝓣.Λ fn (vptr rb ro ∷ vint w64 i ∷ vint w64 n ∷ []) Post $ alloc_all ! (λ l. pass_all ! refl ((tt, tt), ((tt, record { fits = are.1.0.1 }), ((tt, record { fits = are.1.1.0.1 }), tt))) $ let Ev = env fn.locals l in
    first ! $ blocks ! $ pointer_in ! tt h.ptr b o at rb (ro + 0) (λ q'.
    sets ! (of_opd ! (load ! (through ! refl (fld ! refl (stop !))) (look ! 0 refl))) refl (tt, tt) $ pointer_out ! tt h.ptr b o at rb (ro + 0) $
    sets ! (bin ! (get ! refl) (size_lit ! (record { fits = tiny })) (record { fits = bytes })) refl (tt, record { fits = bytes }) $ sets ! (bin ! (get ! refl) (get ! refl) tt) refl (tt, tt) $
    sets_last ! (agg ! (and_then ! (get ! refl) (and_then ! (get ! refl) (no_more !)))) refl (tt, (tt, (record { fits = are.1.1.0.1 }, tt))) $
    exec ! 𝓣.C 𝓣.Λ Ev (after 1 fn.body) (at_ret Ev Post) $ sets ! (of_opd ! (get ! refl)) refl (tt, (tt, (record { fits = are.1.1.0.1 }, tt))) $
    move ! (1 ∷ []) $ flt_i ! (length w * s) (2 ^ 63) room $ flt_i ! (length w) (2 ^ 64) (subst (λ (j : ℕ). j < 2 ^ 64) (sym lw) are.1.1.0.1) $ fjoin ! $
    feq_i ! (List Val) (slice_val (b, e) n ∷ []) (slice_val (b, e) (length w) ∷ []) (ap (λ (j : ℕ). slice_val (b, e) j ∷ []) (sym lw)) $ fjoin ! $ fjoin ! $ move ! (1 ∷ 2 ∷ []) $ join ! $
    use0 𝓛 (raw (fact 𝓤 (w ≡ w))) (fact_i 𝓤 (w ≡ w) (emp 𝓤) refl) $ nothing ! $ nothing ! $ fjoin ! $ nothing ! $ fjoin ! $ nothing ! $ fjoin ! $
    returns ! (look_at ! 0 refl) $ free_all ! refl $ keep ! (2 ∷ 0 ∷ 3 ∷ 1 ∷ []) $ by ! (leaves 𝓛 En hs c y (slice_val (b, e) n) (record { ref_ptr = (b, e); now = w }) (tt, (tt, (tt, tt))) (tt, (tt, (tt, tt))))))))))
