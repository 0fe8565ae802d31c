-- `new` makes a value with nothing asked or heard.
use Rattle.transcripts.proofs.Steps.{[], ◌∷◌, refl, proved, vstruct, vcons, vnil, raw, ◌$◌, ◌∵◌, !, qed, done, keep, join, suffices, enter, no_more, and_then, returns, agg, alloc_all, pass_all, free_all, look_at, get, sets, pure_i, nothing, on_entry, says_both, ends_at}
use Rattle.transcripts.specs.declared.transcript.Transcript.{Transcript}
use Rattle.transcripts.specs.contracts.transcript.Transcript.{the_row as R}
use Rattle.transcripts.specs.contracts.transcript.Transcript.new as f
use Rattle.transcripts.proofs.transcript.Transcript.new.Statement.{statement}
use Rattle.transcripts.proofs.transcript.Transcript.new.Code as code

pub new_spec : {M : Type 1} → statement M
new_spec 𝓤 𝓛 𝓜 𝓡 wired =
    let c = f.clauses 𝓛 𝓜.mem 𝓡.returns in
    proved 𝓛 f.ended tt c 𝓜 𝓡 tt
    f.Key.name code.function (code.unfolded 𝓤 𝓛.H 𝓜 𝓡 wired)
    (λ κs. tt) (λ κs. tt) (λ κs qs bounds a g _.
    let v = vstruct (vcons (vstruct vnil) vnil) in
    let r : Transcript = record { marker = record {}; asked = []; heard = [] } in
    qed 𝓛 (raw (on_entry 𝓛 f.signature κs qs a tt) ∷ raw ((c κs a).requires g) ∷ []) ∵ keep ! [] $
    enter ! _ _ _ _ _ $ alloc_all ! (λ l. pass_all ! refl tt $
    sets ! (agg ! (no_more !)) refl (tt, tt) $ sets ! (agg ! (and_then ! (get ! refl) (no_more !))) refl (tt, (tt, tt)) $
    returns ! (look_at ! 0 refl) $ free_all ! refl $
    pure_i ! (R.own_val r (v ∷ [])) ((λ vss. (tt, ((λ uss. (tt, tt)), tt))), tt) (((vstruct vnil ∷ [], tt), (refl, ((tt, (refl, tt)), tt))), tt) $
    suffices ! _ (ends_at 𝓛 f.ended tt c ((κs, qs, bounds, a, tt), g) v r tt tt) $ says_both ! refl refl $
    nothing ! $ join ! $ nothing ! $ done !))
