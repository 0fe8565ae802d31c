-- What was created in a line is found by the module that it made.
use Rattle.std.proofs.Common.{◌≡◌, ℕ, ◌+◌, ◌≤◌, ◌<◌, ◌==◌, Bool, true, false, ◌&&◌, List, [], ◌∷◌, ◌++◌, Option, Some, None, refl, ap, ◌∙◌, arith, bytes_eq, if◌then◌else◌}
use Rattle.std.proofs.lemmas.Bool.{eq-eqb, eqb-true}
use Rattle.std.proofs.lemmas.Slice.Eq.{bytes_eq-Decides}
use Rattle.inside_keys.specs.declared.key.Module.{Module}
use Rattle.inside_keys.specs.Keys.{same_module}
use Rattle.model_questions.specs.declared.record.Origin.{Origin}
use Rattle.model_questions.specs.declared.record.Origin.TheVariants as origin
use Rattle.model_questions.specs.declared.record.Record.{Record}
use Rattle.model_questions.specs.Records.{Lineage}
use Rattle.module_api.specs.declared.reply.Plan.{Plan}
use Rattle.model_settings.specs.declared.created.Creation.{Creation}
use Rattle.model_settings.specs.Created.{creation_at, planned_by, stands_by}
use Rattle.model_settings.specs.Standings.{setting_of}
use Rattle.model_answers.specs.Lines.{CreatedStand, counted, created_in, creations_in, made_in, maybe_site, planned_as, site_of, stands_in}

-- all of them are numbered up to that
abbrev AreUpTo : ℕ → List Creation → Type 0
AreUpTo n [] = Unit {0}
AreUpTo n (c ∷ cs) = (c.site.created ≤ n) × AreUpTo n cs

up_to_more : (n k : ℕ) (cs : List Creation) → n ≤ k → AreUpTo n cs → AreUpTo k cs
up_to_more n k [] l h = tt
up_to_more n k (c ∷ cs) l h = let first : c.site.created ≤ n = h.0 in (omega (arith, first, l), up_to_more n k cs l h.1)

up_to_both : (n : ℕ) (cs ds : List Creation) → AreUpTo n cs → AreUpTo n ds → AreUpTo n (cs ++ ds)
up_to_both n [] ds h k = k
up_to_both n (c ∷ cs) ds h k = (h.0, up_to_both n cs ds h.1 k)

-- those of a line are numbered up to how many were created
numbered : (rs : Lineage) → AreUpTo (created_in rs) (creations_in rs)
numbered [] = tt
numbered (r ∷ rs) = by r.origin (numbered rs)
  where
    by : (o : Origin) → AreUpTo (created_in rs) (creations_in rs)
        → AreUpTo (counted o (created_in rs)) (creations_in rs ++ made_in (maybe_site rs) (record { created = counted o (created_in rs); path = (site_of (r ∷ rs)).path }) r o)
    by origin.Built h = up_to_both (created_in rs) (creations_in rs) [] h tt
    by (origin.Created plan) h = up_to_both (created_in rs + 1) (creations_in rs) _ (up_to_more (created_in rs) (created_in rs + 1) (creations_in rs) (omega arith) h) (omega arith, tt)

same_self : (m : Module) → same_module m m ≡ true
same_self m = ap (λ b. b && bytes_eq m.path m.path) (eq-eqb m.created m.created refl) ∙ (bytes_eq-Decides m.path m.path).1 refl

-- one that is numbered above all others is found behind them
found_last : (n : ℕ) (cs : List Creation) (c : Creation) → AreUpTo n cs → n < c.site.created → creation_at (cs ++ c ∷ []) c.site ≡ Some c
found_last n [] c h l = ap (λ b. if b then Some c else None) (same_self c.site)
found_last n (d ∷ cs) c h l = by (d.site.created == c.site.created) refl (found_last n cs c h.1 l)
  where
    by : (b : Bool) → (d.site.created == c.site.created) ≡ b → creation_at (cs ++ c ∷ []) c.site ≡ Some c
        → (if b && bytes_eq d.site.path c.site.path then Some d else creation_at (cs ++ c ∷ []) c.site) ≡ Some c
    by true e later = let same : d.site.created ≡ c.site.created = eqb-true d.site.created c.site.created e in let first : d.site.created ≤ n = h.0 in absurd (omega (arith, same, first, l))
    by false e later = later

found_created : (r : Record) (rs : Lineage) (plan : Plan) → r.origin ≡ origin.Created plan
    → creation_at (creations_in (r ∷ rs)) (site_of (r ∷ rs)) ≡ Some (record { site = site_of (r ∷ rs); stands = stands_in (maybe_site rs) r; planned = planned_as plan })
found_created r rs plan e =
    let c : Creation = record { site = site_of (r ∷ rs); stands = stands_in (maybe_site rs) r; planned = planned_as plan } in
    let more : (site_of (r ∷ rs)).created ≡ created_in rs + 1 = ap (λ (o : Origin). counted o (created_in rs)) e in
    ap (λ (o : Origin). creation_at (creations_in rs ++ made_in (maybe_site rs) (site_of (r ∷ rs)) r o) (site_of (r ∷ rs))) e
    ∙ found_last (created_in rs) (creations_in rs) c (numbered rs) (omega (arith, more))

pub created_stand : CreatedStand
created_stand m r rs plan e = record {
  stands_so = ap (λ (o : Option Creation). stands_by o ((setting_of m).stands (site_of (r ∷ rs)))) (found_created r rs plan e);
  planned_so = ap planned_by (found_created r rs plan e);
}
