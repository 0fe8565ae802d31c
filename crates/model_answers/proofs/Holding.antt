-- Values that another model holds as well.
use Rattle.std.proofs.Common.{◌≡◌, ◌∙◌, ℕ, List, sym, subst}
use Rattle.ini_index.specs.declared.index.EntryIndex.{EntryIndex}
use Rattle.ini_index.specs.IndexOf.{IsIndexOf}
use Rattle.ini_trees.specs.declared.lines.IniLine.{IniLine}
use Rattle.model_settings.specs.declared.tables.ModelTables.{ModelTables}
use Rattle.model_settings.specs.declared.tables.TypeTables.{TypeTables}
use Rattle.model_settings.specs.Tables.{AreOfTypes, AreTablesOf}
use Rattle.ned_trees.specs.declared.declarations.TypeDeclaration.{TypeDeclaration}
use Rattle.inside_keys.specs.Settings.{ModuleRules}
use Rattle.inside_keys.specs.Values.{rules_of}
use Rattle.model_data.specs.declared.model.Model.{Model}
use Rattle.model_data.specs.Models.{network_of}
use Rattle.model_keeping.specs.declared.held.HeldValues.{HeldValues}
use Rattle.model_keeping.specs.Held.{AreValuesOf, HoldsValues}
use Rattle.model_settings.specs.Standings.{setting_of}
use Rattle.param_engine.specs.Tables.{IsKept}
use Rattle.param_keeping.specs.Stores.{IsStored, store_of}

-- of models whose values rest on the same and that run the same network the one holds what the other
-- holds
pub held_same : (m n : Model) (h place : HeldValues) → n.types ≡ m.types → network_of n ≡ network_of m → setting_of n ≡ setting_of m → place ≡ h → HoldsValues m h → HoldsValues n place
held_same m n h place types network same is holds =
    let first = holds.found.0 in
    let are = holds.found.1 in
    subst (HoldsValues n) (sym is) (record {
      found = (
        first,
        record {
          first_are = are.first_are;
          edited = record { types = types ∙ are.edited.types; network = network ∙ are.edited.network };
          closed_are = record {
            steps = are.closed_are.steps;
            few = are.closed_are.few;
            stored = subst (λ (s : ModuleRules). IsStored (rules_of s) are.closed_are.steps (store_of h.store.value.kept h.closed)) (sym same) are.closed_are.stored;
          };
          since_are = subst (λ (s : ModuleRules). IsKept (rules_of s) h.since.entries) (sym same) are.since_are;
        },
      );
      read_are = subst (λ (s : ModuleRules). AreValuesOf s (store_of h.store.value.kept h.read)) (sym same) holds.read_are;
    })

-- and so are the tables that they share
pub tables_same : (m n : Model) (shared own : ModelTables) → n.types ≡ m.types → n.ini ≡ m.ini → n.chain ≡ m.chain → own.types.value ≡ shared.types.value → own.entries.value ≡ shared.entries.value
    → AreTablesOf m shared → AreTablesOf n own
tables_same m n shared own types ini chain t e are = record {
  types_are = subst (λ (x : TypeTables). AreOfTypes n.types x) (sym t) (subst (λ (ts : List TypeDeclaration). AreOfTypes ts shared.types.value) (sym types) are.types_are);
  entries_are =
      subst (λ (x : EntryIndex). IsIndexOf n.ini n.chain x) (sym e)
      (subst (λ (ls : List IniLine). IsIndexOf ls n.chain shared.entries.value) (sym ini) (subst (λ (ns : List (List ℕ)). IsIndexOf m.ini ns shared.entries.value) (sym chain) are.entries_are));
}
