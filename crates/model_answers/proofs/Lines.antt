-- Lines of records, and what was created in them.
use Rattle.std.proofs.Common.{◌≡◌, ◌≢◌, ℕ, zero, suc, ◌-◌, true, List, [], ◌∷◌, ◌++◌, Option, Some, None, is_some, refl, ap, sym, subst, ◌∙◌, arith, append-nil, append_assoc}
use Rattle.ned_trees.specs.declared.declarations.TypeDeclaration.{TypeDeclaration}
use Rattle.model_keeping.specs.Held.{AreRight}
use Rattle.model_keeping.specs.declared.values.ReadValues.{ReadValues}
use Rattle.inside_keys.specs.declared.found.Found.{Found}
use Rattle.inside_keys.specs.declared.key.Key.{Key}
use Rattle.inside_keys.specs.declared.key.Module.{Module}
use Rattle.inside_keys.specs.Settings.{ModuleRules}
use Rattle.inside_keys.specs.Values.{rules_of}
use Rattle.model_data.specs.declared.model.Model.{Model}
use Rattle.model_questions.specs.declared.record.Origin.{Origin}
use Rattle.model_questions.specs.declared.record.Origin.TheVariants as origin
use Rattle.model_questions.specs.declared.record.Record.{Record}
use Rattle.model_questions.specs.Records.{Lineage, lineage_up, path_along, record_at, record_there, untyped, with_those_around}
use Rattle.model_settings.specs.declared.created.Creation.{Creation}
use Rattle.model_settings.specs.declared.created.RunSetting.{RunSetting}
use Rattle.model_settings.specs.Created.{rules_by, rules_with}
use Rattle.model_settings.specs.Standings.{setting_of}
use Rattle.model_settings.proofs.Before.{none_created}
use Rattle.model_questions.specs.declared.answer.Answer.TheVariants as answer
use Rattle.model_questions.specs.Answers.{with_values}
use Rattle.model_inside.specs.declared.hops.Way.{Way}
use Rattle.model_answers.specs.Answering.{class_there, declared_there, gates_there, hop_there, inside_there, names_there, type_there, value_there}
use Rattle.model_answers.specs.Insides.{gates_answer, hop_answer, inside_answer}
use Rattle.model_answers.specs.Keyed.{class_answer, declared_answer, parameters_by, type_at_number, type_in, type_of}
use Rattle.model_answers.specs.Lines.{counted, created_in, creations_in, made_in, maybe_site, rules_at, site_in, site_of}
use Rattle.model_answers.specs.Reading.{StandsAt, settings_of}
use Rattle.model_answers.specs.declared.placed.PlacedModule.{PlacedModule}
use Rattle.model_answers.specs.declared.reading.Sources.{Sources}

-- one record, and those around it
pub line_step : (depth : ℕ) (records : List Record) (id : ℕ) → depth ≢ 0 → lineage_up depth records id ≡ with_those_around (lineage_up (depth - 1) records) (record_at records id)
line_step zero records id ne = absurd (ne refl)
line_step (suc depth) records id ne = ap (λ d. with_those_around (lineage_up d records) (record_at records id)) less
  where
    less : depth ≡ suc depth - 1
    less = omega arith

-- a module, by the one around it
pub site_next : (r : Record) (rs : Lineage) → site_of (r ∷ rs) ≡ site_in (maybe_site rs) r
site_next r [] = refl
site_next r (s ∷ rs) = refl

-- a line, by the record that it begins with
module _ (depth : ℕ) (records : List Record) (id : ℕ) (r : Record) (ne : depth ≢ 0) (there : record_at records id ≡ Some r) where
  line_of : lineage_up depth records id ≡ r ∷ lineage_up (depth - 1) records r.parent
  line_of = line_step depth records id ne ∙ ap (with_those_around (lineage_up (depth - 1) records)) there

  pub created_step : created_in (lineage_up depth records id) ≡ counted r.origin (created_in (lineage_up (depth - 1) records r.parent))
  created_step = ap created_in line_of

  pub site_step : maybe_site (lineage_up depth records id) ≡ Some (site_in (maybe_site (lineage_up (depth - 1) records r.parent)) r)
  site_step = ap maybe_site line_of ∙ ap (λ (m : Module). Some m) (site_next r (lineage_up (depth - 1) records r.parent))

  pub creations_step : creations_in (lineage_up depth records id)
      ≡ creations_in (lineage_up (depth - 1) records r.parent) ++ made_in (maybe_site (lineage_up (depth - 1) records r.parent)) (site_in (maybe_site (lineage_up (depth - 1) records r.parent)) r) r r.origin
  creations_step =
      ap creations_in line_of
      ∙ ap (λ (m : Module). creations_in (lineage_up (depth - 1) records r.parent) ++ made_in (maybe_site (lineage_up (depth - 1) records r.parent)) m r r.origin)
      (site_next r (lineage_up (depth - 1) records r.parent))

  -- by what is found of the line around it
  pub counted_up : (n : ℕ) → n ≡ created_in (lineage_up (depth - 1) records r.parent) → counted r.origin n ≡ created_in (lineage_up depth records id)
  counted_up n e = ap (counted r.origin) e ∙ sym created_step

  pub site_up : (around : Option Module) (site : Module) → around ≡ maybe_site (lineage_up (depth - 1) records r.parent) → site ≡ site_in around r → Some site ≡ maybe_site (lineage_up depth records id)
  site_up around site e f = ap (λ (m : Module). Some m) (f ∙ ap (λ (a : Option Module). site_in a r) e) ∙ sym site_step

  pub creations_up : (around : Option Module) (site : Module) (before middle whole : List Creation) → around ≡ maybe_site (lineage_up (depth - 1) records r.parent) → site ≡ site_in around r
      → middle ≡ before ++ creations_in (lineage_up (depth - 1) records r.parent) → whole ≡ middle ++ made_in around site r r.origin → whole ≡ before ++ creations_in (lineage_up depth records id)
  creations_up around site before middle whole e f g h =
      let up : Lineage = lineage_up (depth - 1) records r.parent in
      h ∙ ap (λ (m : Module). middle ++ made_in around m r r.origin) f ∙ ap (λ (a : Option Module). middle ++ made_in a (site_in a r) r r.origin) e
      ∙ ap (λ (cs : List Creation). cs ++ made_in (maybe_site up) (site_in (maybe_site up) r) r r.origin) g
      ∙ append_assoc before (creations_in up) (made_in (maybe_site up) (site_in (maybe_site up) r) r r.origin) ∙ ap (λ (cs : List Creation). before ++ cs) (sym creations_step)

-- and one that begins with none
pub line_none : (depth : ℕ) (records : List Record) (id : ℕ) → record_at records id ≡ None → lineage_up depth records id ≡ []
line_none zero records id e = refl
line_none (suc depth) records id e = ap (with_those_around (lineage_up depth records)) e

pub line_there : (records : List Record) (id : ℕ) (r : Record) → record_at records id ≡ Some r → is_some (record_there (lineage_up 32 records id)) ≡ true
line_there records id r e = ap (λ o. is_some (record_there (with_those_around (lineage_up 31 records) o))) e

-- a line has the module that it is found to have
pub no_site : (line : Lineage) → maybe_site line ≡ None → line ≡ []
no_site [] e = refl
no_site (r ∷ rs) e = cc

pub some_there : (line : Lineage) (m : Module) → maybe_site line ≡ Some m → is_some (record_there line) ≡ true
some_there [] m e = cc
some_there (r ∷ rs) m e = refl

pub some_site : (line : Lineage) (m : Module) → maybe_site line ≡ Some m → m ≡ site_of line
some_site [] m e = cc
some_site (r ∷ rs) m e = let same : site_of (r ∷ rs) ≡ m = cc in sym same

-- a module of a line in which none was created
pub built_site : (line : Lineage) (m : Module) → created_in line ≡ 0 → m.created ≡ 0 → m.path ≡ path_along line → m ≡ site_of line
built_site line m none e f = ap (λ (c : ℕ). record { created = c; path = m.path }) (e ∙ sym none) ∙ ap (λ (p : List ℕ). record { created = created_in line; path = p }) f

-- what is kept of a model are values where none was created
pub kept_there : (r : RunSetting) (m : Model) (v : ReadValues) → r.model.now ≡ m → r.created ≡ [] → AreRight (setting_of m) v → AreRight (rules_by r) v
kept_there r m v e f right =
    subst (λ (s : ModuleRules). AreRight s v)
    (sym (ap (λ (n : Model). rules_with n r.created) e ∙ ap (rules_with m) f ∙ none_created m)) right

-- ---- lines in which none was created

pub none_created_in : (p : Lineage) → created_in p ≡ 0 → creations_in p ≡ []
none_created_in [] e = refl
none_created_in (r ∷ rs) e = by (none_created_in rs) r.origin e
  where
    by : (created_in rs ≡ 0 → creations_in rs ≡ []) → (o : Origin) → counted o (created_in rs) ≡ 0 → creations_in rs ++ made_in (maybe_site rs) (site_of (r ∷ rs)) r o ≡ []
    by rest origin.Built h = append-nil (creations_in rs) ∙ rest h
    by rest (origin.Created plan) h = absurd (omega (arith, h))

-- ---- modules as the code has them

pub built_stands : (p : PlacedModule) (m : Model) (line : Lineage) → is_some (record_there line) ≡ true → created_in line ≡ 0 → p.site.created ≡ 0 → p.site.path ≡ path_along line
    → p.setting.model.now ≡ m → p.setting.created ≡ [] → StandsAt p m line
built_stands p m line there none zeroth path model made = record {
  there = there;
  site_is = built_site line p.site none zeroth path;
  model_is = model;
  created_is = made ∙ sym (none_created_in line none);
}

pub created_stands : (p : PlacedModule) (m : Model) (line : Lineage) → Some p.site ≡ maybe_site line → p.setting.model.now ≡ m → p.setting.created ≡ creations_in line → StandsAt p m line
created_stands p m line e model made = record {
  there = some_there line p.site (sym e);
  site_is = some_site line p.site (sym e);
  model_is = model;
  created_is = made;
}

-- ---- a class is no matter of what was created

untyped_site : (p : Lineage) → site_of (untyped p) ≡ site_of p
untyped_site [] = refl
untyped_site (r ∷ []) = refl
untyped_site (r ∷ (s ∷ rs)) = refl

untyped_made : (around : Option Module) (site : Module) (r : Record) (o : Origin) → made_in around site (record r { class = None }) o ≡ made_in around site r o
untyped_made around site r origin.Built = refl
untyped_made around site r (origin.Created plan) = refl

untyped_creations : (p : Lineage) → creations_in (untyped p) ≡ creations_in p
untyped_creations [] = refl
untyped_creations (r ∷ rs) =
    ap (λ xs. creations_in rs ++ xs)
    (ap (λ (m : Module). made_in (maybe_site rs) m (record r { class = None }) r.origin) (untyped_site (r ∷ rs))
    ∙ untyped_made (maybe_site rs) (site_of (r ∷ rs)) r r.origin)

pub untyped_class : (m : Model) (p : Lineage) → class_there m (untyped p) ≡ class_there m p
untyped_class m p =
    ap (λ (cs : List Creation). class_answer (rules_with m cs) (site_of (untyped p)) ((rules_with m cs).planned (site_of (untyped p)))) (untyped_creations p)
    ∙ ap (λ (x : Module). class_answer (rules_at m p) x ((rules_at m p).planned x)) (untyped_site p)

-- ---- what is answered of a module of a line

rules_same : (p : PlacedModule) (m : Model) (line : Lineage) → StandsAt p m line → rules_by p.setting ≡ rules_at m line
rules_same p m line h = ap (λ (n : Model). rules_with n p.setting.created) h.model_is ∙ ap (rules_with m) h.created_is

typed_there : (s : ModuleRules) (line : Lineage) → is_some (record_there line) ≡ true → type_in s line ≡ type_of s (site_of line)
typed_there s [] e = cc
typed_there s (r ∷ rs) e = refl

pub at_place : {A : Type 0} (f : ModuleRules → Module → Option TypeDeclaration → A) (p : PlacedModule) (m : Model) (line : Lineage) → StandsAt p m line
    → f (rules_by p.setting) p.site (type_of (rules_by p.setting) p.site) ≡ f (rules_at m line) (site_of line) (type_in (rules_at m line) line)
at_place f p m line h =
    ap (λ (s : ModuleRules). f s p.site (type_of s p.site)) (rules_same p m line h)
    ∙ ap (λ (x : Module). f (rules_at m line) x (type_of (rules_at m line) x)) h.site_is
    ∙ ap (f (rules_at m line) (site_of line)) (sym (typed_there (rules_at m line) line h.there))

-- the same, by what its values are read of
pub at_sources : {A : Type 0} (f : ModuleRules → Module → Option TypeDeclaration → A) (from : Sources) (p : PlacedModule) (m : Model) (line : Lineage) → from.setting.now ≡ p.setting → StandsAt p m line
    → f (settings_of from) p.site (type_of (settings_of from) p.site) ≡ f (rules_at m line) (site_of line) (type_in (rules_at m line) line)
at_sources f from p m line e h = ap (λ (r : RunSetting). f (rules_by r) p.site (type_of (rules_by r) p.site)) e ∙ at_place f p m line h

-- the same of each answer; there is none where there is no such module
module _ (from : Sources) (p : PlacedModule) (m : Model) (line : Lineage) (same : from.setting.now ≡ p.setting) (stands : StandsAt p m line) where
  pub class_told : class_answer (settings_of from) p.site ((settings_of from).planned p.site) ≡ class_there m (untyped line)
  class_told = at_sources (λ s x t. class_answer s x (s.planned x)) from p m line same stands ∙ sym (untyped_class m line)

  pub inside_told : inside_answer (settings_of from) p.site (type_of (settings_of from) p.site) ≡ inside_there m line
  inside_told = at_sources inside_answer from p m line same stands

  pub declared_told : (name : List ℕ) → declared_answer (settings_of from) p.site (type_of (settings_of from) p.site) name ≡ declared_there m line name
  declared_told name = at_sources (λ s x t. declared_answer s x t name) from p m line same stands

  pub parameters_told : parameters_by (settings_of from) p.site (type_of (settings_of from) p.site) ≡ with_values (value_there m line) (names_there m line)
  parameters_told = at_sources parameters_by from p m line same stands

  pub gates_told : gates_answer (settings_of from) p.site (type_of (settings_of from) p.site) ≡ gates_there m line
  gates_told = at_sources gates_answer from p m line same stands

  pub hop_told : (way : Way) (name : List ℕ) (index : ℕ) → hop_answer (settings_of from) way p.site (type_of (settings_of from) p.site) name index ≡ hop_there m way line name index
  hop_told way name index = at_sources (λ s x t. hop_answer s way x t name index) from p m line same stands

  pub type_told : (n : Option ℕ) → type_at_number (settings_of from).types n ≡ type_of (settings_of from) p.site → type_at_number (setting_of m).types n ≡ type_there m line
  type_told n e =
      ap (λ (x : Model). type_at_number (setting_of x).types n) (sym (ap (λ (r : RunSetting). r.model.now) same ∙ stands.model_is))
      ∙ e ∙ at_sources (λ s x t. t) from p m line same stands

module _ (m : Model) (line : Lineage) (none : line ≡ []) where
  pub no_class : answer.Absent ≡ class_there m (untyped line)
  no_class = ap (λ (l : Lineage). class_there m (untyped l)) (sym none)

  pub no_inside : answer.Absent ≡ inside_there m line
  no_inside = ap (inside_there m) (sym none)

  pub none_declared : (name : List ℕ) → answer.Absent ≡ declared_there m line name
  none_declared name = ap (λ (l : Lineage). declared_there m l name) (sym none)

  pub no_parameters : [] ≡ with_values (value_there m line) (names_there m line)
  no_parameters = ap (λ (l : Lineage). with_values (value_there m l) (names_there m l)) (sym none)

  pub no_gates : [] ≡ gates_there m line
  no_gates = ap (gates_there m) (sym none)

  pub no_hop : (way : Way) (name : List ℕ) (index : ℕ) → answer.Absent ≡ hop_there m way line name index
  no_hop way name index = ap (λ (l : Lineage). hop_there m way l name index) (sym none)

  pub no_type : None ≡ type_there m line
  no_type = ap (type_there m) (sym none)
