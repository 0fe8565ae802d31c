-- Where an edit makes a model no refusal has a reason, and it makes no other.
use Rattle.std.proofs.Common.{◌≡◌, ℕ, Bool, true, false, List, Option, Some, None, is_some, IsSome, Result, Ok, Err, IfOk, IfErr, OnOk, OnErr, refl, sym, ap, ◌∙◌, subst}
use Rattle.sim_values.specs.Memory.{no_memory}
use Rattle.file_edits.specs.declared.changes.TypedFiles.{TypedFiles}
use Rattle.file_edits.specs.declared.error.FileError.{FileError}
use Rattle.file_edits.specs.declared.error.FileError.TheVariants as file_errors
use Rattle.file_edits.specs.Changes.{AnswersChange, AreTypesOf, IsChanged}
use Rattle.file_edits.specs.Changes as ned
use Rattle.file_edits.proofs.ChangeLaws.{change_ruled_out, one_change}
use Rattle.ini_config.specs.declared.error.EditError.{EditError}
use Rattle.ini_config.specs.declared.error.EditError.TheVariants as errors
use Rattle.ini_trees.specs.declared.lines.IniLine.{IniLine}
use Rattle.ini_config.specs.Edits.{AnswersEdit, IsEdited, Refused}
use Rattle.ini_config.specs.Edits as change
use Rattle.ini_trees.specs.Sections.{IsChain, is_section}
use Rattle.ini_trees.proofs.LineLaws.{one_chain_law}
use Rattle.model_data.specs.declared.model.Model.{Model}
use Rattle.model_data.specs.Models.{network_of}
use Rattle.ned_scopes.specs.Scopes.{types_of}
use Rattle.ned_inheritance.specs.Inheritance.{flat_types}
use Rattle.ned_trees.specs.declared.declarations.NedFile.{NedFile}
use Rattle.ned_trees.specs.declared.declarations.TypeDeclaration.{TypeDeclaration}
use Rattle.model_edits.specs.declared.edit.Edit.{Edit}
use Rattle.model_edits.specs.declared.edit.Edit.TheVariants as edit
use Rattle.model_edits.specs.declared.edit.Refusal.{Refusal}
use Rattle.model_data.specs.declared.faults.ConfigFault.TheVariants as configs
use Rattle.model_edits.specs.declared.edit.Refusal.TheVariants as refusal
use Rattle.model_edits.specs.Edited.{AreBehind, AreFilesBehind, AreLinesBehind, HasNoModel, IsEditOf, IsOnlyEditOf, IsRuledOut, IsTextEditOf, IsWith, Parts, Refuses, RefusesChange, RefusesFiles, RefusesParts, RefusesText, change_of, file_change_of, parts_of, selected}
use Rattle.model_edits.specs.Steps.{Comes, ComesOfFiles, ComesOfText, RefusesChain, Takes, TakesChanged, TakesMade, has_network, parts, told_as, told_of, with_files, with_lines}

-- ---- one model

one_with : (m : Model) (p : Parts) (config : List ℕ) (a b : Model) → IsWith m p config a → IsWith m p config b → a ≡ b
one_with m p config a b one other =
    one.rest ∙ ap (λ (k : List (List ℕ)). record m { files = p.files; types = p.types; ini = p.lines; config = config; chain = k }) (one_chain_law p.lines config a.chain b.chain one.chained other.chained)
    ∙ sym other.rest

-- ---- no refusal has a reason

truth_apart : (b : Bool) → b ≡ true → b ≡ false → ⊥
truth_apart true p q = absurd cc
truth_apart false p q = absurd cc

no_network : (o : Option TypeDeclaration) → o ≡ None → IsSome o → ⊥
no_network None e is = cc
no_network (Some x) e is = cc

parts_ruled_out : (m : Model) (p : Parts) (config : List ℕ) (r : Refusal) → RefusesParts m p config r
    → (new : Model) → IsWith m p config new → IsSome (network_of new) → r ≡ refusal.NoMemory no_memory
parts_ruled_out m p config (refusal.Config configs.NoSuchConfig) why new is net = absurd (truth_apart (is_section config p.lines) is.exists why)
parts_ruled_out m p config (refusal.Config configs.ChainFault) why new is net = absurd (why.1 new.chain is.chained)
parts_ruled_out m p config (refusal.Config configs.NoSuchNetwork) why new is net =
    absurd (no_network (network_of new) (ap network_of (one_with m p config new why.0 is why.1) ∙ why.2) net)
parts_ruled_out m p config (refusal.NoMemory _) why new is net = refl
parts_ruled_out m p config refusal.TooLarge why new is net = absurd why
parts_ruled_out m p config refusal.NoSuchLine why new is net = absurd why
parts_ruled_out m p config refusal.NoSuchInjection why new is net = absurd why
parts_ruled_out m p config refusal.NoSuchFile why new is net = absurd why
parts_ruled_out m p config refusal.NoSuchType why new is net = absurd why
parts_ruled_out m p config refusal.NoSuchConnection why new is net = absurd why
parts_ruled_out m p config (refusal.NedSyntax line) why new is net = absurd why
parts_ruled_out m p config (refusal.IniSyntax line reason) why new is net = absurd why
parts_ruled_out m p config (refusal.Types fault) why new is net = absurd why

-- ---- parts that make no model

pub chain_refused : (m : Model) (p : Parts) (config : List ℕ) (r : Refusal) → RefusesChain p.lines config r → RefusesParts m p config r
chain_refused m p config (refusal.Config configs.NoSuchConfig) why = why
chain_refused m p config (refusal.Config configs.ChainFault) why = why
chain_refused m p config (refusal.NoMemory _) why = tt
chain_refused m p config (refusal.Config configs.NoSuchNetwork) why = absurd why
chain_refused m p config refusal.TooLarge why = absurd why
chain_refused m p config refusal.NoSuchLine why = absurd why
chain_refused m p config refusal.NoSuchInjection why = absurd why
chain_refused m p config refusal.NoSuchFile why = absurd why
chain_refused m p config refusal.NoSuchType why = absurd why
chain_refused m p config refusal.NoSuchConnection why = absurd why
chain_refused m p config (refusal.NedSyntax line) why = absurd why
chain_refused m p config (refusal.IniSyntax line reason) why = absurd why
chain_refused m p config (refusal.Types fault) why = absurd why

none_of : (o : Option TypeDeclaration) → is_some o ≡ false → o ≡ None
none_of None e = refl
none_of (Some x) e = cc

pub no_network_with : (m : Model) (p : Parts) (config : List ℕ) (chain : List (List ℕ)) → IsChain p.lines config chain → is_section config p.lines ≡ true
    → has_network p.types p.lines chain ≡ false → RefusesParts m p config (refusal.Config configs.NoSuchNetwork)
no_network_with m p config chain chained exists none = (
  record m { files = p.files; types = p.types; ini = p.lines; config = config; chain = chain },
  record { rest = refl; exists = exists; chained = chained },
  none_of (network_of (record m { files = p.files; types = p.types; ini = p.lines; config = config; chain = chain })) none,
)

no_model : (m : Model) (e : Edit) (p : Parts) (r : Refusal) → AreBehind m e p → RefusesParts m p (selected e m.config) r → RefusesText m e r
no_model m e p (refusal.Config kind) behind why = record { parts = p; behind = behind; refused = why }
no_model m e p (refusal.NoMemory _) behind why = tt
no_model m e p refusal.TooLarge behind why = absurd why
no_model m e p refusal.NoSuchLine behind why = absurd why
no_model m e p refusal.NoSuchInjection behind why = absurd why
no_model m e p refusal.NoSuchFile behind why = absurd why
no_model m e p refusal.NoSuchType behind why = absurd why
no_model m e p refusal.NoSuchConnection behind why = absurd why
no_model m e p (refusal.NedSyntax line) behind why = absurd why
no_model m e p (refusal.IniSyntax line reason) behind why = absurd why
no_model m e p (refusal.Types fault) behind why = absurd why

no_model_of_files : (m : Model) (e : Edit) (c : ned.Change) (p : Parts) (r : Refusal) → AreBehind m e p → RefusesParts m p (selected e m.config) r → RefusesFiles m e c r
no_model_of_files m e c p (refusal.Config kind) behind why = record { parts = p; behind = behind; refused = why }
no_model_of_files m e c p (refusal.NoMemory _) behind why = tt
no_model_of_files m e c p refusal.TooLarge behind why = absurd why
no_model_of_files m e c p refusal.NoSuchLine behind why = absurd why
no_model_of_files m e c p refusal.NoSuchInjection behind why = absurd why
no_model_of_files m e c p refusal.NoSuchFile behind why = absurd why
no_model_of_files m e c p refusal.NoSuchType behind why = absurd why
no_model_of_files m e c p refusal.NoSuchConnection behind why = absurd why
no_model_of_files m e c p (refusal.NedSyntax line) behind why = absurd why
no_model_of_files m e c p (refusal.IniSyntax line reason) behind why = absurd why
no_model_of_files m e c p (refusal.Types fault) behind why = absurd why

-- ---- parts that are those after an edit, and no others are

-- the same parts give the same model
made_of : (m : Model) (e : Edit) (p : Parts) → ((others : Parts) → AreBehind m e others → others ≡ p) → (other : Model) (is : IsTextEditOf m e other)
    → IsWith m p (selected e m.config) other
made_of m e p one other is = subst (λ (q : Parts). IsWith m q (selected e m.config) other) (one is.parts is.behind) is.made

parts_same : (f g : List NedFile) (t u : List TypeDeclaration) (a b : List IniLine) → f ≡ g → t ≡ u → a ≡ b → parts f t a ≡ parts g u b
parts_same f g t u a b p q r = cc

-- ---- edits of the ini text and of the configuration

comes_of : (m : Model) (e : Edit) (p : Parts) → AreBehind m e p → ((others : Parts) → AreBehind m e others → others ≡ p)
    → (new : Model) (result : Result Unit Refusal) → Takes m p (selected e m.config) new result → ComesOfText m e new result
comes_of m e p behind one new (Ok u) took = (
  record { parts = p; behind = behind; made = took.0; network = took.1 },
  λ other is. one_with m p (selected e m.config) other new (made_of m e p one other is) took.0,
)
comes_of m e p behind one new (Err r) took = (
  took.0,
  no_model m e p r behind took.1,
  λ other is. parts_ruled_out m p (selected e m.config) r took.1 other (made_of m e p one other is) is.network,
)

pub comes_selected : (m : Model) (name : List ℕ) (new : Model) (result : Result Unit Refusal) → Takes m (parts_of m) name new result
    → Comes m (edit.SelectConfig name) new result
comes_selected m name new (Ok u) took =
    comes_of m (edit.SelectConfig name) (parts_of m) ((refl, refl), refl) (λ others same. parts_same _ _ _ _ _ _ same.0.0 same.0.1 same.1) new (Ok u) took
comes_selected m name new (Err r) took =
    comes_of m (edit.SelectConfig name) (parts_of m) ((refl, refl), refl) (λ others same. parts_same _ _ _ _ _ _ same.0.0 same.0.1 same.1) new (Err r) took

-- the same of an edit that changes lines and no files
changed : (m : Model) (e : Edit) (c : change.Edit) → file_change_of e ≡ None → change_of e m.ini ≡ Some c → selected e m.config ≡ m.config
    → (made : Result (List IniLine) EditError) → IfOk made (λ lines. IsEdited c lines)
    → ((lines : List IniLine) → IsEdited c lines → AnswersEdit lines made) → Refused c made
    → (new : Model) (result : Result Unit Refusal) → TakesMade m made new result → ComesOfText m e new result
changed m e c no_file is_change same (Ok lines) edited complete refused new result took =
    comes_of m e (with_lines m lines) behind one new result (subst (λ (s : List ℕ). Takes m (with_lines m lines) s new result) (sym same) took)
  where
    behind : AreBehind m e (with_lines m lines)
    behind = (
      subst (λ (o : Option ned.Change). AreFilesBehind o (parts_of m) (with_lines m lines)) (sym no_file) (refl, refl),
      subst (λ (o : Option change.Edit). AreLinesBehind o m.ini lines) (sym is_change) edited,
    )

    one : (others : Parts) → AreBehind m e others → others ≡ with_lines m lines
    one others are =
        let files = subst (λ (o : Option ned.Change). AreFilesBehind o (parts_of m) others) no_file are.0 in
        parts_same _ _ _ _ _ _ files.0 files.1 (sym (complete others.lines (subst (λ (o : Option change.Edit). AreLinesBehind o m.ini others.lines) is_change are.1)))
changed m e c no_file is_change same (Err why) edited complete refused new (Ok u) took = absurd cc
changed m e c no_file is_change same (Err why) edited complete refused new (Err r) took = rw told (took.0, due why refused, ruled why complete)
  where
    told : r ≡ told_as why
    told = cc

    due : (w : EditError) → Refused c (Err w) → RefusesText m e (told_as w)
    due errors.TooLarge is = subst (λ (o : Option change.Edit). RefusesChange o refusal.TooLarge) (sym is_change) is
    due errors.NoSuchLine is = subst (λ (o : Option change.Edit). RefusesChange o refusal.NoSuchLine) (sym is_change) is
    due (errors.IniSyntax line reason) is = subst (λ (o : Option change.Edit). RefusesChange o (refusal.IniSyntax line reason)) (sym is_change) is
    due (errors.NoMemory error) is = tt

    lines_of : (other : Model) (is : IsTextEditOf m e other) → IsEdited c is.parts.lines
    lines_of other is = subst (λ (o : Option change.Edit). AreLinesBehind o m.ini is.parts.lines) is_change is.behind.1

    ruled : (w : EditError) → ((lines : List IniLine) → IsEdited c lines → AnswersEdit lines (Err w)) → (other : Model) → IsTextEditOf m e other → told_as w ≡ refusal.NoMemory no_memory
    ruled errors.TooLarge all other is = absurd (all is.parts.lines (lines_of other is))
    ruled errors.NoSuchLine all other is = absurd (all is.parts.lines (lines_of other is))
    ruled (errors.IniSyntax line reason) all other is = absurd (all is.parts.lines (lines_of other is))
    ruled (errors.NoMemory error) all other is = refl

pub comes_inserted : (m : Model) (line : ℕ) (text : List ℕ) (c : change.Edit) → change_of (edit.InsertIni line text) m.ini ≡ Some c
    → (made : Result (List IniLine) EditError) → IfOk made (λ lines. IsEdited c lines)
    → ((lines : List IniLine) → IsEdited c lines → AnswersEdit lines made) → Refused c made
    → (new : Model) (result : Result Unit Refusal) → TakesMade m made new result → Comes m (edit.InsertIni line text) new result
comes_inserted m line text c is_change made edited complete refused new (Ok u) took = changed m (edit.InsertIni line text) c refl is_change refl made edited complete refused new (Ok u) took
comes_inserted m line text c is_change made edited complete refused new (Err r) took = changed m (edit.InsertIni line text) c refl is_change refl made edited complete refused new (Err r) took

pub comes_replaced : (m : Model) (line : ℕ) (text : List ℕ) (c : change.Edit) → change_of (edit.ReplaceIni line text) m.ini ≡ Some c
    → (made : Result (List IniLine) EditError) → IfOk made (λ lines. IsEdited c lines)
    → ((lines : List IniLine) → IsEdited c lines → AnswersEdit lines made) → Refused c made
    → (new : Model) (result : Result Unit Refusal) → TakesMade m made new result → Comes m (edit.ReplaceIni line text) new result
comes_replaced m line text c is_change made edited complete refused new (Ok u) took = changed m (edit.ReplaceIni line text) c refl is_change refl made edited complete refused new (Ok u) took
comes_replaced m line text c is_change made edited complete refused new (Err r) took = changed m (edit.ReplaceIni line text) c refl is_change refl made edited complete refused new (Err r) took

pub comes_removed : (m : Model) (line : ℕ) (c : change.Edit) → change_of (edit.RemoveIni line) m.ini ≡ Some c
    → (made : Result (List IniLine) EditError) → IfOk made (λ lines. IsEdited c lines)
    → ((lines : List IniLine) → IsEdited c lines → AnswersEdit lines made) → Refused c made
    → (new : Model) (result : Result Unit Refusal) → TakesMade m made new result → Comes m (edit.RemoveIni line) new result
comes_removed m line c is_change made edited complete refused new (Ok u) took = changed m (edit.RemoveIni line) c refl is_change refl made edited complete refused new (Ok u) took
comes_removed m line c is_change made edited complete refused new (Err r) took = changed m (edit.RemoveIni line) c refl is_change refl made edited complete refused new (Err r) took

-- ---- edits of the NED files

-- types are those of one list of files
types_same : (f g : List NedFile) (t u : List TypeDeclaration) → f ≡ g → AreTypesOf f t → AreTypesOf g u → t ≡ u
types_same f g t u p of_f of_g = of_f.0 ∙ ap (λ (fs : List NedFile). flat_types (types_of fs)) p ∙ sym of_g.0

comes_of_files : (m : Model) (e : Edit) (c : ned.Change) (p : Parts) → AreBehind m e p → ((others : Parts) → AreBehind m e others → others ≡ p)
    → (new : Model) (result : Result Unit Refusal) → Takes m p (selected e m.config) new result → ComesOfFiles m e c new result
comes_of_files m e c p behind one new (Ok u) took = (
  record { parts = p; behind = behind; made = took.0; network = took.1 },
  λ other is. one_with m p (selected e m.config) other new (made_of m e p one other is) took.0,
)
comes_of_files m e c p behind one new (Err r) took = (
  took.0,
  no_model_of_files m e c p r behind took.1,
  λ other is. parts_ruled_out m p (selected e m.config) r took.1 other (made_of m e p one other is) is.network,
)

-- an edit that changes files and no lines
files_changed : (m : Model) (e : Edit) (c : ned.Change) → file_change_of e ≡ Some c → change_of e m.ini ≡ None → selected e m.config ≡ m.config
    → (made : Result TypedFiles FileError) → AnswersChange c m.files made
    → (new : Model) (result : Result Unit Refusal) → TakesChanged m made new result → ComesOfFiles m e c new result
files_changed m e c is_change no_line same (Ok made) answers new result took =
    comes_of_files m e c (with_files m made) behind one new result (subst (λ (s : List ℕ). Takes m (with_files m made) s new result) (sym same) took)
  where
    behind : AreBehind m e (with_files m made)
    behind = (
      subst (λ (o : Option ned.Change). AreFilesBehind o (parts_of m) (with_files m made)) (sym is_change) answers,
      subst (λ (o : Option change.Edit). AreLinesBehind o m.ini m.ini) (sym no_line) refl,
    )

    one : (others : Parts) → AreBehind m e others → others ≡ with_files m made
    one others are =
        let files = subst (λ (o : Option ned.Change). AreFilesBehind o (parts_of m) others) is_change are.0 in
        let same_files = one_change c m.files others.files made.files files.0 answers.0 in
        parts_same _ _ _ _ _ _ same_files (types_same others.files made.files others.types made.types same_files files.1 answers.1)
        (subst (λ (o : Option change.Edit). AreLinesBehind o m.ini others.lines) no_line are.1)
files_changed m e c is_change no_line same (Err why) answers new (Ok u) took = absurd cc
files_changed m e c is_change no_line same (Err why) answers new (Err r) took = rw told (took.0, due why answers, ruled why answers)
  where
    told : r ≡ told_of why
    told = cc

    due : (w : FileError) → ned.Refuses c m.files w → RefusesFiles m e c (told_of w)
    due file_errors.TooLarge is = is
    due file_errors.NoSuchFile is = is
    due file_errors.NoSuchType is = is
    due file_errors.NoSuchConnection is = is
    due (file_errors.NedSyntax line) is = is
    due (file_errors.Types fault) is = is
    due (file_errors.NoMemory error) is = tt

    ruled : (w : FileError) → ned.Refuses c m.files w → (other : Model) → IsTextEditOf m e other → told_of w ≡ refusal.NoMemory no_memory
    ruled w is other edited =
        let files = subst (λ (o : Option ned.Change). AreFilesBehind o (parts_of m) edited.parts) is_change edited.behind.0 in
        ap told_of (change_ruled_out c m.files edited.parts.files w is files.0 files.1.1)

pub comes_replaced_file : (m : Model) (number : ℕ) (text : List ℕ) (made : Result TypedFiles FileError) → AnswersChange (ned.Replaced number text) m.files made
    → (new : Model) (result : Result Unit Refusal) → TakesChanged m made new result → Comes m (edit.ReplaceNed number text) new result
comes_replaced_file m number text made answers new (Ok u) took = files_changed m (edit.ReplaceNed number text) (ned.Replaced number text) refl refl refl made answers new (Ok u) took
comes_replaced_file m number text made answers new (Err r) took = files_changed m (edit.ReplaceNed number text) (ned.Replaced number text) refl refl refl made answers new (Err r) took

pub comes_inserted_item : (m : Model) (name : List ℕ) (place : ℕ) (text : List ℕ) (made : Result TypedFiles FileError) → AnswersChange (ned.Inserted name place text) m.files made
    → (new : Model) (result : Result Unit Refusal) → TakesChanged m made new result → Comes m (edit.AddConnection name place text) new result
comes_inserted_item m name place text made answers new (Ok u) took = files_changed m (edit.AddConnection name place text) (ned.Inserted name place text) refl refl refl made answers new (Ok u) took
comes_inserted_item m name place text made answers new (Err r) took = files_changed m (edit.AddConnection name place text) (ned.Inserted name place text) refl refl refl made answers new (Err r) took

pub comes_removed_item : (m : Model) (name : List ℕ) (place : ℕ) (made : Result TypedFiles FileError) → AnswersChange (ned.Removed name place) m.files made
    → (new : Model) (result : Result Unit Refusal) → TakesChanged m made new result → Comes m (edit.RemoveConnection name place) new result
comes_removed_item m name place made answers new (Ok u) took = files_changed m (edit.RemoveConnection name place) (ned.Removed name place) refl refl refl made answers new (Ok u) took
comes_removed_item m name place made answers new (Err r) took = files_changed m (edit.RemoveConnection name place) (ned.Removed name place) refl refl refl made answers new (Err r) took

-- ---- what comes of an edit, clause by clause

pub accepted : (m : Model) (e : Edit) (new : Model) (result : Result Unit Refusal) → Comes m e new result → OnOk result (IsEditOf m e new)
accepted m e new (Ok u) is = is.0
accepted m e new (Err r) is = tt

pub only : (m : Model) (e : Edit) (new : Model) (result : Result Unit Refusal) → Comes m e new result → OnOk result (IsOnlyEditOf m e new)
only m e new (Ok u) is = is.1
only m e new (Err r) is = tt

pub refused : (m : Model) (e : Edit) (new : Model) (result : Result Unit Refusal) → Comes m e new result → IfErr result (λ r. Refuses m e r)
refused m e new (Ok u) is = tt
refused m e new (Err r) is = is.1

pub complete : (m : Model) (e : Edit) (new : Model) (result : Result Unit Refusal) → Comes m e new result → IfErr result (λ r. IsRuledOut m e r)
complete m e new (Ok u) is = tt
complete m e new (Err r) is = is.2

pub unchanged : (m : Model) (e : Edit) (new : Model) (result : Result Unit Refusal) → Comes m e new result → OnErr result (new ≡ m)
unchanged m e new (Ok u) is = tt
unchanged m e new (Err r) is = is.0
