-- An empty body. The borrow is opened and closed at another ghost value.
use Rattle.transcripts.proofs.Steps.{[], ◌∷◌, ◌++◌, refl, proved, id⊢, ftrue, flft, named, vunit, ‵, ◌⊛◌, ◌$◌, ◌∵◌, !, qed, done, move, keep, use1, split, join, fsplit3, feq_i, suffices, frame, group, enter, of_opd, unit_lit, returns, alloc_all, pass_all, free_all, look_at, sets, yes, owns, MutRef, mut_vals, mut_Tells, ShrRef, shr_vals, shr_Tells, plain, opens, closes, Stays, walk_of, stay_ref, Goes-ref, stay_none_ref, Goes-none_ref, ends_at, says_both}
use Rattle.text_writer.specs.contracts.noted.GhostBytes.{the_row as N}
use Rattle.transcripts.specs.Heard.{Files}
use Rattle.transcripts.specs.declared.transcript.Transcript.{Transcript}
use Rattle.transcripts.specs.contracts.transcript.Transcript.{the_row as R}
use Rattle.transcripts.specs.contracts.transcript.Transcript.hears_files as f
use Rattle.transcripts.proofs.transcript.Transcript.hears_files.Statement.{statement}
use Rattle.transcripts.proofs.transcript.Transcript.hears_files.Code as code

abbrev stayed : Stays f.ended.signature.params f.ended.kept
stayed = (stay_ref (0 ∷ []) tt (plain (λ _. R)), (stay_none_ref (1 ∷ []) tt (plain (λ _. N)) yes, (stay_none_ref (2 ∷ []) tt (plain (λ _. N)) yes, (stay_none_ref (3 ∷ []) tt (plain (λ _. N)) yes, tt))))

pub hears_files_spec : {M : Type 1} → statement M
hears_files_spec 𝓤 𝓛 𝓜 𝓡 wired =
    let c = f.clauses 𝓛 𝓜.mem 𝓡.returns in let W = walk_of 𝓛 f.ended stayed c in
    proved 𝓛 f.ended stayed c 𝓜 𝓡
    (Goes-ref 𝓛 4 0 tt (plain (λ _. R)), (Goes-none_ref 𝓛 4 (1 ∷ []) tt (plain (λ _. N)) yes, (Goes-none_ref 𝓛 4 (2 ∷ []) tt (plain (λ _. N)) yes, (Goes-none_ref 𝓛 4 (3 ∷ []) tt (plain (λ _. N)) yes, tt))))
    f.Key.name code.function (code.unfolded 𝓤 𝓛.H 𝓜 𝓡 wired)
    (λ κs. (mut_vals, (shr_vals, (shr_vals, (shr_vals, tt))))) (λ κs. (mut_Tells (named 0) κs.0 R, (shr_Tells (named 1) κs.1.0 N, (shr_Tells (named 2) κs.1.1.0 N, (shr_Tells (named 3) κs.1.1.1.0 N, tt))))) (λ κs qs bounds a _ are.
    let b = a.0.ref_ptr.0 in let o = a.0.ref_ptr.1 in let h = a.0.now in let vs = mut_vals a.0 in
    let config = shr_vals a.1.0 in let scalars = shr_vals a.1.1.0 in let vectors = shr_vals a.1.1.1.0 in
    let h' : Transcript = record h { heard = h.heard ++ Files a.1.0.now.bytes a.1.1.0.now.bytes a.1.1.1.0.now.bytes ∷ [] } in
    let y : W.Ghost = ((κs, qs, bounds, a, (vs, (config, (scalars, (vectors, tt))))), tt) in
    qed 𝓛 (((‵ (flft κs.0 qs.0) ⊛ ‵ (flft κs.1.0 qs.1.0) ⊛ ‵ (flft κs.1.1.0 qs.1.1.0) ⊛ ‵ (flft κs.1.1.1.0 qs.1.1.1.0) ⊛ ‵ ftrue) ⊛ ‵ ((MutRef (named 0) κs.0 R).own_val a.0 vs)
    ⊛ ‵ (owns (ShrRef (named 1) κs.1.0 N ∷ ShrRef (named 2) κs.1.1.0 N ∷ ShrRef (named 3) κs.1.1.1.0 N ∷ []) a.1 (config, (scalars, (vectors, tt))))) ∷ ‵ ftrue ∷ []) ∵
    split ! $ split ! $ move ! (2 ∷ []) $ split ! $ keep ! (0 ∷ 1 ∷ 2 ∷ 3 ∷ []) $
    -- [self; the files; the token of self's lifetime; the other tokens]
    enter ! _ _ _ _ _ $ alloc_all ! (λ l. pass_all ! refl ((tt, tt), ((tt, tt), ((tt, tt), ((tt, tt), tt)))) $
    fsplit3 ! $ move ! (1 ∷ 2 ∷ 4 ∷ []) $ opens ! tt R b o (λ ws.
    sets ! (of_opd ! (unit_lit !)) refl (tt, tt) $
    move ! (1 ∷ []) $ use1 𝓛 (‵ (R.own_val h' ws)) (id⊢ 𝓤 _) $ move ! (1 ∷ 0 ∷ []) $ closes ! tt R h' ws b o $
    -- [two parts of self; its token; self's first part; the files; the other tokens]
    returns ! (look_at ! 0 refl) $ free_all ! refl $ keep ! (3 ∷ 0 ∷ 1 ∷ 4 ∷ 2 ∷ 5 ∷ []) $
    suffices ! _ (ends_at 𝓛 f.ended stayed c y vunit tt (h', (tt, (tt, (tt, tt)))) (tt, (tt, (tt, (tt, tt))))) $ says_both ! refl refl $
    group ! 3 $ move ! (2 ∷ 3 ∷ []) $ join ! $ frame ! $ join ! $ frame ! $
    feq_i ! _ (vunit ∷ []) _ refl $ done !)))
