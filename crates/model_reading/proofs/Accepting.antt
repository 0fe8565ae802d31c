-- Where there is a model no refusal has a reason.
use Rattle.std.proofs.Common.{◌≡◌, ℕ, zero, suc, Bool, true, false, List, [], ◌∷◌, Option, Some, None, IsSome, Result, Ok, Err, IfOk, IfErr, refl, sym, ap, ◌∙◌, subst, slice_get}
use Rattle.ned_tokens.specs.Lines.{tokens_of}
use Rattle.ned_tokens.proofs.Whole as whole
use Rattle.ned_trees.specs.declared.declarations.NedFile.{NedFile}
use Rattle.ned_trees.specs.declared.declarations.TypeDeclaration.{TypeDeclaration}
use Rattle.ned_syntax.specs.Grammar.{file}
use Rattle.ned_syntax.specs.NedText.{IsNedFile}
use Rattle.ned_syntax.proofs.GrammarLaws.{file-lawful}
use Rattle.ned_inheritance.specs.declared.table.TypeFault.{TypeFault}
use Rattle.model_data.specs.declared.faults.ConfigFault.TheVariants as configs
use Rattle.ned_scopes.specs.Scopes.{types_of}
use Rattle.ned_inheritance.specs.Inheritance.{flat_types}
use Rattle.ned_inheritance.specs.Building.{fault_of}
use Rattle.ini_trees.specs.declared.lines.IniLine.{IniLine}
use Rattle.ini_trees.specs.Sections.{IsChain, is_section}
use Rattle.ini_trees.proofs.LineLaws.{one_chain_law}
use Rattle.ini_config.proofs.MeaningLaws.{bad_text, text_same}
use Rattle.model_injections.specs.declared.injection.Injection.{Injection}
use Rattle.model_data.specs.declared.model.Model.{Model}
use Rattle.model_data.specs.Models.{network_of}
use Rattle.model_reading.specs.declared.begin.BeginFault.{BeginFault}
use Rattle.model_reading.specs.declared.begin.BeginFault.TheVariants as fault
use Rattle.model_reading.specs.Models.{AreNedFiles, AreRead, AreApart, IsModelOf, IsReadAs, Refuses, IsRuledOut, is_too_large}

-- ---- texts mean one thing

file_same : (bytes : List ℕ) (f g : NedFile) → IsNedFile bytes f → IsNedFile bytes g → f ≡ g
file_same bytes f g p q = whole.one_meaning file file-lawful (tokens_of bytes) f g p.spells q.spells

files_same : (ts : List (List ℕ)) (fs gs : List NedFile) → AreNedFiles ts fs → AreNedFiles ts gs → fs ≡ gs
files_same [] [] [] p q = refl
files_same [] [] (g ∷ gs) p q = absurd q
files_same [] (f ∷ fs) gs p q = absurd p
files_same (t ∷ ts) [] gs p q = absurd p
files_same (t ∷ ts) (f ∷ fs) [] p q = absurd q
files_same (t ∷ ts) (f ∷ fs) (g ∷ gs) p q =
    ap (λ (x : NedFile). x ∷ fs) (file_same t f g p.0 q.0) ∙ ap (λ (l : List NedFile). g ∷ l) (files_same ts fs gs p.1 q.1)

-- a text at a place declares something
file_at : (ts : List (List ℕ)) (n : ℕ) (t : List ℕ) (fs : List NedFile) → slice_get ts n ≡ Some t → AreNedFiles ts fs → (f : NedFile) × IsNedFile t f
file_at [] n t fs e p = absurd cc
file_at (u ∷ ts) n t [] e p = absurd p
file_at (u ∷ ts) zero t (f ∷ fs) e p = let same : u ≡ t = cc in (f, subst (λ (b : List ℕ). IsNedFile b f) same p.0)
file_at (u ∷ ts) (suc n) t (f ∷ fs) e p = file_at ts n t fs e p.1

lines_same : (texts : List (List ℕ)) (ini : List ℕ) (r s : AreRead texts ini) → r.lines ≡ s.lines
lines_same texts ini r s = text_same ini r.lines s.lines r.said s.said

-- ---- they make one model

model_same : (f g : List NedFile) (t u : List TypeDeclaration) (a b : List IniLine) (c d : List ℕ) (k l : List (List ℕ)) (is js : List Injection) (x y : ℕ) → f ≡ g → t ≡ u → a ≡ b → c ≡ d → k ≡ l → is ≡ js → x ≡ y
    → ◌≡◌ {A = Model} (record { files = f; types = t; ini = a; config = c; chain = k; injections = is; last_injection = x }) (record { files = g; types = u; ini = b; config = d; chain = l; injections = js; last_injection = y })
model_same f g t u a b c d k l is js x y o p q r s i n = cc

pub one_model : (texts : List (List ℕ)) (ini config : List ℕ) (m n : Model) → IsReadAs texts ini config m → IsReadAs texts ini config n → m ≡ n
one_model texts ini config m n p q =
    let files : m.files ≡ n.files = p.files ∙ files_same texts p.read.files q.read.files p.read.declared q.read.declared ∙ sym q.files in
    let lines = lines_same texts ini p.read q.read in
    let chained : IsChain q.read.lines config m.chain = subst (λ (l : List IniLine). IsChain l config m.chain) lines p.chained in
    model_same m.files n.files m.types n.types m.ini n.ini m.config n.config m.chain n.chain m.injections n.injections m.last_injection n.last_injection
    files
    (p.types ∙ ap (λ (fs : List NedFile). flat_types (types_of fs)) files ∙ sym q.types)
    (p.lines ∙ lines ∙ sym q.lines)
    (p.selected ∙ sym q.selected)
    (one_chain_law q.read.lines config m.chain n.chain chained q.chained)
    (p.outside ∙ sym q.outside)
    (p.unused ∙ sym q.unused)

-- ---- no refusal has a reason

truth_apart : (b : Bool) → b ≡ true → b ≡ false → ⊥
truth_apart true p q = absurd cc
truth_apart false p q = absurd cc

some_apart : {T : Type 0} (o : Option T) (x : T) → o ≡ Some x → o ≡ None → ⊥
some_apart None x p q = absurd cc
some_apart (Some y) x p q = absurd cc

no_network : (o : Option TypeDeclaration) → o ≡ None → IsSome o → ⊥
no_network None e is = cc
no_network (Some x) e is = cc

together : (texts : List (List ℕ)) (ini : List ℕ) (why : TypeFault) → AreRead texts ini → AreApart texts ini why → ⊥
together texts ini why r w =
    let same = files_same texts w.files r.files w.declared r.declared in
    some_apart (fault_of (types_of r.files)) why (sym (ap (λ (fs : List NedFile). fault_of (types_of fs)) same) ∙ w.apart) r.together

pub ruled_out : (texts : List (List ℕ)) (ini config : List ℕ) (f : BeginFault) → Refuses texts ini config f → IsRuledOut texts ini config f
ruled_out texts ini config (fault.NoMemory _) why m is = refl
ruled_out texts ini config fault.TooLarge why m is = absurd (truth_apart (is_too_large texts ini) why is.read.read.small)
ruled_out texts ini config (fault.NedSyntax at line) why m is =
    let here = file_at texts at why.1.text is.read.read.files why.1.here is.read.read.declared in
    absurd (why.1.none here.0 here.1)
ruled_out texts ini config (fault.IniSyntax line reason) why m is = absurd (bad_text line reason ini is.read.read.lines why.1.blamed is.read.read.said)
ruled_out texts ini config (fault.Types kind) why m is = absurd (together texts ini kind is.read.read why.1)
ruled_out texts ini config (fault.Config configs.NoSuchConfig) why m is =
    let lines = lines_same texts ini why.read is.read.read in
    absurd (truth_apart (is_section config is.read.read.lines) is.read.exists (sym (ap (λ (l : List IniLine). is_section config l) lines) ∙ why.missing))
ruled_out texts ini config (fault.Config configs.ChainFault) why m is =
    let lines = lines_same texts ini why.read is.read.read in
    absurd (why.none m.chain (subst (λ (l : List IniLine). IsChain l config m.chain) (sym lines) is.read.chained))
ruled_out texts ini config (fault.Config configs.NoSuchNetwork) why m is =
    let same = one_model texts ini config why.model m why.read is.read in
    absurd (no_network (network_of m) (sym (ap network_of same) ∙ why.none) is.network)

-- ---- what an answer says

pub rules_out : (texts : List (List ℕ)) (ini config : List ℕ) (r : Result Model BeginFault) → IfErr r (λ f. Refuses texts ini config f) → IfErr r (λ f. IsRuledOut texts ini config f)
rules_out texts ini config (Ok m) why = tt
rules_out texts ini config (Err f) why = ruled_out texts ini config f why

pub is_only : (texts : List (List ℕ)) (ini config : List ℕ) (r : Result Model BeginFault) → IfOk r (λ m. IsModelOf texts ini config m) → IfOk r (λ m. (n : Model) → IsModelOf texts ini config n → n ≡ m)
is_only texts ini config (Ok m) is = λ n other. one_model texts ini config n m other.read is.read
is_only texts ini config (Err f) is = tt
