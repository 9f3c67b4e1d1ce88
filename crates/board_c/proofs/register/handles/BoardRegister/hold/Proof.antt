-- `hold` stores the pointer and the state, and the handle then owns what the box owned. Assumes `Logic`.
use Rattle.std.proofs.Common.{List, [], ◌∷◌, ◌++◌, refl, sym, subst, lit<}
use base.Fraction.{full_share}
use base.Logic.{SProp, ent, id⊢}
use base.Fml.{ftrue, flft}
use mir.Val.{Val, vptr, vunit}
use prog.Wp.{WpFn}
use contract.Running.{tables}
use types.Kit.{‵, ◌⊛◌, ◌$◌, ◌∵◌, !, qed, done, move, keep, drop, use0, split, join, fsplit, fsplit3, fjoin, rewrite, suffices, frame, group, feq_i}
use types.Run.{enter, of_opd, lit, unit_lit, stop, fld, returns, assigns}
use types.ByLocal.{alloc_all, pass_all, free_all, look_at, through, get, get_in, sets}
use types.Part.{whole, sub, store_in}
use denote.Exit.{yes}
use denote.RattleType.{RattleType, owns}
use denote.Laws.{Is, shows}
use denote.Memory.{cell_at}
use denote.RawPtr.{Ptr, block_ptr}
use denote.Signature.{plain, types_at}
use denote.Steps.{nothing, opens, closes, peeks}
use denote.Triple.Walked.{Stays, walk_of, says, stay_ref, Goes-ref, stay_dropped, ends_at}
use Rattle.core.proofs.alloc.Calls.{Goes-blank}
use Rattle.std.proofs.raw_atomic.Walks.{proved_at}
use Rattle.std.specs.contracts.alloc.Global as heap
use Rattle.std.proofs.alloc.Global.TheLaws as heap_laws
use Rattle.std.specs.contracts.impls.GlobalAllocator.TheImpl.{ghosts}
use Rattle.council_core.specs.contracts.published.PublishedRegister as register
use Rattle.board_c.specs.contracts.register.handles.BoardRegister.hold as f
use Rattle.board_c.proofs.register.handles.BoardRegister.hold.Statement.{statement}
use Rattle.board_c.proofs.register.handles.BoardRegister.hold.Code as code
use Rattle.board_c.proofs.Fields.{R, Data, word, told, made}
use Rattle.board_c.proofs.Values.{both, Loose, loose_good, loose_out}

abbrev Z : RattleType
Z = heap.the_row

abbrev Rr : RattleType
Rr = register.the_row

abbrev Lr : RattleType
Lr = Loose Rr Z heap_laws.the_row_laws ghosts

abbrev stayed : Stays f.ended.signature.params f.ended.kept
stayed = (stay_ref (0 ∷ []) tt (plain (λ _. R)), (stay_dropped (plain (λ _. Lr)) yes, tt))

pub hold_spec : {M : Type 1} → statement M
hold_spec 𝓤 𝓛 𝓜 𝓡 wired =
    let H = 𝓛.H in let c = f.clauses 𝓛 𝓜.mem 𝓡.returns in let W = walk_of 𝓛 f.ended stayed c in let 𝓣 = tables 𝓤 H 𝓜 𝓡 𝓡.env in
    proved_at 𝓛 f.ended stayed c 𝓜 𝓡 (Goes-ref 𝓛 1 0 tt (plain (λ _. R)), (Goes-blank 𝓛 1 (plain (λ _. Lr)) yes (λ κs x g. tt), tt))
    f.Key.name code.function (code.unfolded 𝓤 H 𝓜 𝓡 wired) (λ z are.
    let κs = z.0.0 in let qs = z.0.1 in let a = z.0.3 in let m = a.0 in let b = m.ref_ptr.0 in let o = m.ref_ptr.1 in let h = m.now in let d = a.1.0 in
    let Post : Val → SProp 𝓤 = W.post z in let Run : List Val → SProp 𝓤 = λ ws. WpFn 𝓤 H 𝓣.C 𝓣.Λ code.function ws Post in
    let Cell = λ (ws : List Val). ‵ (cell_at full_share R.mir ws b o) in
    qed 𝓛 (((‵ (flft κs.0 qs.0) ⊛ ‵ ftrue) ⊛ ‵ (owns (types_at f.signature.params κs) a z.0.4)) ∷ ‵ ftrue ∷ []) ∵
    split ! $ split ! $ move ! (2 ∷ []) $ fsplit ! $ move ! (1 ∷ []) $ fsplit ! $
    loose_out Rr Z heap_laws.the_row_laws ghosts ! d z.0.4.1.0 (λ pb po hv e ws fits.
    -- [what the box owned; the handle of the heap; nothing; the reference; the token; ..]
    keep ! (0 ∷ 3 ∷ 4 ∷ []) $ let args : List Val = vptr b o ∷ both (vptr pb po) hv ∷ [] in let to : Ptr = block_ptr pb po in
    suffices ! (Run args) (subst (λ (us : List Val). ent 𝓤 (Run args) (Run us)) (sym (λ i. are.0.0 i ++ (ws i ++ []))) (id⊢ 𝓤 (Run args))) $
    enter ! 𝓣.C 𝓣.Λ code.function args Post $ alloc_all ! (λ l. pass_all ! refl ((tt, tt), (loose_good Rr Z heap_laws.the_row_laws ghosts pb po hv fits, tt)) $
    sets ! (of_opd ! (get_in ! (fld ! refl (stop !)) (sub ! 0 refl (whole !)))) refl (tt, tt) $
    sets ! (of_opd ! (get ! refl)) refl (tt, tt) $
    move ! (1 ∷ []) $ fsplit3 ! $ move ! (1 ∷ 2 ∷ 4 ∷ []) $ opens ! tt R b o (λ us.
    move ! (1 ∷ []) $ fsplit ! $ peeks ! Data (Is Data) (shows 𝓛 Data) (h.at, (h.state, tt)) us (λ is.
    -- [what the fields own; what the handle kept; its cell; the open borrow, in three entries; the equation; the box]
    rewrite ! 2 Cell (told h.at h.state us is).0 refl $
    assigns ! (of_opd ! (get ! refl)) (through ! refl (fld ! refl (stop !))) (store_in ! 2 (sub ! 0 refl (whole !)) (tt, tt)) $
    assigns ! (of_opd ! (lit ! tt)) (through ! refl (fld ! refl (stop !))) (store_in ! 2 (sub ! 1 refl (whole !)) (tt, record { fits = lit< tt })) $
    sets ! (of_opd ! (unit_lit !)) refl (tt, tt) $
    drop ! $ drop ! $ let h' : R.Denot = record { at = to; state = 1; register = d.value } in
    move ! (5 ∷ []) $ use0 𝓛 (‵ (Data.own_val (to, (1, tt)) (word to 1 ∷ []))) (made 𝓛 to 1 (lit< tt)) $ fjoin ! $ move ! (1 ∷ []) $ closes ! tt R h' (word to 1 ∷ []) b o $
    returns ! (look_at ! 0 refl) $ free_all ! refl $ move ! (3 ∷ []) $
    suffices ! _ (ends_at 𝓛 f.ended stayed c z vunit tt (h', (tt, tt)) (tt, (tt, tt))) $ says ! (refl, refl) $
    group ! 3 $ nothing ! $ nothing ! $ join ! $ move ! (1 ∷ 0 ∷ []) $ join ! $ nothing ! $ move ! (2 ∷ 0 ∷ []) $ join ! $ frame ! $ frame ! $
    feq_i ! _ (vunit ∷ []) _ refl $ done !)))))
