-- An empty body. The borrow is opened and closed at another ghost value.
use Rattle.transcripts.proofs.Steps.{[], ◌∷◌, ◌++◌, refl, proved, id⊢, ftrue, flft, named, vunit, ‵, ◌⊛◌, ◌$◌, ◌∵◌, !, qed, done, move, keep, use1, split, join, fsplit3, feq_i, suffices, frame, group, enter, of_opd, unit_lit, returns, alloc_all, pass_all, free_all, look_at, sets, MutRef, mut_vals, mut_Tells, plain, opens, closes, Stays, walk_of, says_both, stay_ref, Goes-ref, ends_at}
use Rattle.transcripts.specs.declared.asked.AskedLine.TheVariants.{TooLong}
use Rattle.transcripts.specs.declared.transcript.Transcript.{Transcript}
use Rattle.transcripts.specs.contracts.transcript.Transcript.{the_row as R}
use Rattle.transcripts.specs.contracts.transcript.Transcript.asks_too_long as f
use Rattle.transcripts.proofs.transcript.Transcript.asks_too_long.Statement.{statement}
use Rattle.transcripts.proofs.transcript.Transcript.asks_too_long.Code as code

abbrev stayed : Stays f.ended.signature.params f.ended.kept
stayed = (stay_ref (0 ∷ []) tt (plain (λ _. R)), tt)

pub asks_too_long_spec : {M : Type 1} → statement M
asks_too_long_spec 𝓤 𝓛 𝓜 𝓡 wired =
    let c = f.clauses 𝓛 𝓜.mem 𝓡.returns in let W = walk_of 𝓛 f.ended stayed c in
    proved 𝓛 f.ended stayed c 𝓜 𝓡 (Goes-ref 𝓛 1 0 tt (plain (λ _. R)), tt)
    f.Key.name code.function (code.unfolded 𝓤 𝓛.H 𝓜 𝓡 wired)
    (λ κs. (mut_vals, tt)) (λ κs. (mut_Tells (named 0) κs.0 R, tt)) (λ κs qs bounds a _ are.
    let b = a.0.ref_ptr.0 in let o = a.0.ref_ptr.1 in let h = a.0.now in let vs = mut_vals a.0 in
    let h' : Transcript = record h { asked = h.asked ++ TooLong ∷ [] } in
    let y : W.Ghost = ((κs, qs, bounds, a, (vs, tt)), tt) in
    qed 𝓛 (((‵ (flft κs.0 qs.0) ⊛ ‵ ftrue) ⊛ ‵ ((MutRef (named 0) κs.0 R).own_val a.0 vs) ⊛ ‵ ftrue) ∷ ‵ ftrue ∷ []) ∵
    split ! $ split ! $ move ! (2 ∷ []) $ split ! $ keep ! (0 ∷ 1 ∷ 2 ∷ 3 ∷ []) $
    -- [self; the other parameters; the token of its lifetime; the other tokens]
    enter ! _ _ _ _ _ $ alloc_all ! (λ l. pass_all ! refl ((tt, tt), tt) $
    fsplit3 ! $ move ! (1 ∷ 2 ∷ 4 ∷ []) $ opens ! tt R b o (λ us.
    sets ! (of_opd ! (unit_lit !)) refl (tt, tt) $
    move ! (1 ∷ []) $ use1 𝓛 (‵ (R.own_val h' us)) (id⊢ 𝓤 _) $ move ! (1 ∷ 0 ∷ []) $ closes ! tt R h' us b o $
    -- [two parts of self; the token; self's first part; the other parameters; the other tokens]
    returns ! (look_at ! 0 refl) $ free_all ! refl $ keep ! (3 ∷ 0 ∷ 1 ∷ 4 ∷ 2 ∷ 5 ∷ []) $
    suffices ! _ (ends_at 𝓛 f.ended stayed c y vunit tt (h', tt) (tt, tt)) $ says_both ! refl refl $
    group ! 3 $ move ! (2 ∷ 3 ∷ []) $ join ! $ frame ! $ join ! $ frame ! $
    feq_i ! _ (vunit ∷ []) _ refl $ done !)))
