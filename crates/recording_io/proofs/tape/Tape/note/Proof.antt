-- An empty body. The borrow is opened and closed at another ghost value.
use Rattle.std.proofs.Common.{[], ◌∷◌, ◌++◌, refl, w64, take}
use Rattle.std.proofs.raw_atomic.Walks.{proved}
use mir.Syntax.{named}
use mir.Val.{vunit}
use base.Logic.{id⊢}
use base.Fml.{ftrue, flft}
use types.Kit.{‵, ◌⊛◌, ◌$◌, ◌∵◌, !, qed, move, keep, use1, split, join, fsplit3, feq_i, suffices, frame, group, done}
use types.Run.{unit_lit, of_opd, returns, enter}
use types.ByLocal.{alloc_all, pass_all, free_all, look_at, sets}
use denote.Builtin.{bool, u8, usize}
use denote.Plain.{bool_vals, bool_Tells, uint_vals, uint_Tells}
use denote.Exit.{yes}
use denote.Ref.{MutRef, mut_vals, mut_Tells}
use denote.Signature.{plain}
use denote.Slice.{ShrSlice, shr_slice_vals, shr_slice_Tells}
use denote.Steps.{opens, closes}
use denote.Triple.Walked.{says, Stays, stay_ref, stay_none_slice, stay_none, Goes-none, Goes-ref, Goes-none_slice, walk_of, ends_at}
use Rattle.recording_io.specs.Tapes.{after_call, is_last}
use Rattle.recording_io.specs.contracts.tape.Tape as T
use Rattle.recording_io.specs.contracts.tape.Tape.note as f
use Rattle.recording_io.proofs.tape.Tape.note.Statement.{statement}
use Rattle.recording_io.proofs.tape.Tape.note.Code as code

abbrev stayed : Stays f.ended.signature.params f.ended.kept
stayed = (stay_ref (0 ∷ []) tt (plain (λ _. T.the_row)), (stay_none_slice (1 ∷ []) tt (plain (λ _. u8)) yes, (stay_none (λ _. usize) yes, (stay_none (λ _. bool) yes, tt))))

pub note_spec : {M : Type 1} → statement M
note_spec 𝓤 𝓛 𝓜 𝓡 wired =
    let c = f.clauses 𝓛 𝓜.mem 𝓡.returns in
    proved 𝓛 f.ended stayed c 𝓜 𝓡 (Goes-ref 𝓛 2 0 tt (plain (λ _. T.the_row)), (Goes-none_slice 𝓛 2 (1 ∷ []) tt (plain (λ _. u8)) yes, (Goes-none 𝓛 2 (λ _. usize) yes (λ κs x f. refl), (Goes-none 𝓛 2 (λ _. bool) yes (λ κs x f. refl), tt))))
    f.Key.name code.function (code.unfolded 𝓤 𝓛.H 𝓜 𝓡 wired)
    (λ κs. (mut_vals, (shr_slice_vals, (uint_vals w64, (bool_vals, tt))))) (λ κs. (mut_Tells (named 0) κs.0 T.the_row, (shr_slice_Tells (named 1) κs.1.0 u8, (uint_Tells w64, (bool_Tells, tt))))) (λ κs qs bounds a _ are.
    let b = a.0.ref_ptr.0 in let o = a.0.ref_ptr.1 in let h = a.0.now in let vs = mut_vals a.0 in let ws = shr_slice_vals a.1.0 in
    let n = a.1.1.0 in let ns = uint_vals w64 n in let t = a.1.1.1.0 in let ts = bool_vals t in
    let grown : (T.the_row).Denot = record { bytes = h.bytes ++ take n a.1.0.now; ended = is_last a.1.0.now n; calls = after_call h.calls n t } in
    let y : (walk_of 𝓛 f.ended stayed c).Ghost = ((κs, qs, bounds, a, (vs, (ws, (ns, (ts, tt))))), tt) in
    qed 𝓛 (((‵ (flft κs.0 qs.0) ⊛ ‵ (flft κs.1.0 qs.1.0) ⊛ ‵ ftrue) ⊛ ‵ ((MutRef (named 0) κs.0 T.the_row).own_val a.0 vs) ⊛ ‵ ((ShrSlice (named 1) κs.1.0 u8).own_val a.1.0 ws) ⊛ ‵ (usize.own_val n ns) ⊛ ‵ (bool.own_val t ts) ⊛ ‵ ftrue) ∷ ‵ ftrue ∷ []) ∵
    split ! $ keep ! (0 ∷ 1 ∷ []) $ split ! $ move ! (2 ∷ []) $ split ! $ move ! (0 ∷ 2 ∷ []) $
    -- [the borrow; its token; the slice; the slice's token]
    enter ! _ _ _ _ _ $ alloc_all ! (λ l. pass_all ! refl ((tt, tt), ((tt, (tt, (record { fits = are.1.0.0.1.0 }, tt))), ((tt, record { fits = are.1.1.0.1 }), ((tt, tt), tt)))) $
    fsplit3 ! $ move ! (1 ∷ 2 ∷ 3 ∷ []) $ opens ! tt T.the_row {h = h} b o (λ us.
    sets ! (of_opd ! (unit_lit !)) refl (tt, tt) $
    move ! (1 ∷ []) $ use1 𝓛 (‵ ((T.the_row).own_val grown us)) (id⊢ 𝓤 _) $ move ! (1 ∷ 0 ∷ []) $ closes ! tt T.the_row grown us b o $
    returns ! (look_at ! 0 refl) $ free_all ! refl $ move ! (3 ∷ []) $
    suffices ! _ (ends_at 𝓛 f.ended stayed c y vunit tt (grown, (tt, (tt, (tt, tt)))) (tt, (tt, (tt, (tt, tt))))) $ says ! (refl, refl, refl) $
    group ! 3 $ move ! (1 ∷ 3 ∷ []) $ join ! $ frame ! $ join ! $ frame ! $ feq_i ! _ (vunit ∷ []) _ refl $ done !)))
