-- Types lack nothing of their interfaces exactly where they have all members of them.
use Rattle.std.proofs.Common.{◌≡◌, inl, inr, ℕ, Bool, true, false, not, ◌&&◌, List, [], ◌∷◌, Option, Some, None, refl, sym, ap, subst, ◌∙◌, if◌then◌else◌}
use Rattle.std.specs.List.{list_any, slice_get}
use Rattle.std.specs.Str.{bytes_eq}
use Rattle.std.proofs.lemmas.Bool.{false≢true, or_parts}
use Rattle.std.proofs.lemmas.List.Folds.{list_any_at}
use Rattle.std.proofs.lemmas.Option.{get_or_from_slice_get, slice_get_within}
use Rattle.ned_trees.specs.declared.declarations.Declaration.{Declaration}
use Rattle.ned_trees.specs.declared.declarations.GateDeclaration.{GateDeclaration}
use Rattle.ned_trees.specs.declared.declarations.GateDirection.{GateDirection}
use Rattle.ned_trees.specs.declared.declarations.GateDirection.TheVariants as direction
use Rattle.ned_trees.specs.declared.declarations.GateLine.{GateLine}
use Rattle.ned_trees.specs.declared.declarations.GateLine.TheVariants as gate
use Rattle.ned_trees.specs.declared.declarations.ParameterWord.{ParameterWord}
use Rattle.ned_trees.specs.declared.declarations.ParameterWord.TheVariants as word
use Rattle.ned_trees.specs.declared.declarations.SectionLine.{SectionLine}
use Rattle.ned_trees.specs.declared.declarations.SectionLine.TheVariants as line
use Rattle.ned_trees.specs.declared.declarations.TypeDeclaration.{TypeDeclaration}
use Rattle.ned_inheritance.specs.Interfaces as i
use Rattle.ned_types.specs.Types as t
use Rattle.ned_types.specs.Types.{is_vector}
use Rattle.ned_types.specs.WellFormed.{IsAmong, StandsBefore, HasMembers}
use Rattle.ned_inheritance.proofs.WellFormedLaws.{any_found, any_is, any_made, any_told, false_not, names_same, not_false, or_false, same_names, type_is}

-- ---- words, directions and vectors

and_both : (x y : Bool) → (x && y) ≡ true → (x ≡ true) × (y ≡ true)
and_both true y h = (refl, h)
and_both false y h = absurd (false≢true h)

both_and : (x y : Bool) → x ≡ true → y ≡ true → (x && y) ≡ true
both_and x y h k = ap (λ b. b && y) h ∙ k

word_is : (a b : ParameterWord) → i.is_word a b ≡ true → a ≡ b
word_is word.Bool word.Bool h = refl
word_is word.Bool word.Int h = absurd (false≢true h)
word_is word.Bool word.Text h = absurd (false≢true h)
word_is word.Bool word.Double h = absurd (false≢true h)
word_is word.Int word.Bool h = absurd (false≢true h)
word_is word.Int word.Int h = refl
word_is word.Int word.Text h = absurd (false≢true h)
word_is word.Int word.Double h = absurd (false≢true h)
word_is word.Text word.Bool h = absurd (false≢true h)
word_is word.Text word.Int h = absurd (false≢true h)
word_is word.Text word.Text h = refl
word_is word.Text word.Double h = absurd (false≢true h)
word_is word.Double word.Bool h = absurd (false≢true h)
word_is word.Double word.Int h = absurd (false≢true h)
word_is word.Double word.Text h = absurd (false≢true h)
word_is word.Double word.Double h = refl

word_same : (a : ParameterWord) → i.is_word a a ≡ true
word_same word.Bool = refl
word_same word.Int = refl
word_same word.Text = refl
word_same word.Double = refl

direction_is : (a b : GateDirection) → i.is_direction a b ≡ true → a ≡ b
direction_is direction.Input direction.Input h = refl
direction_is direction.Input direction.Output h = absurd (false≢true h)
direction_is direction.Input direction.Inout h = absurd (false≢true h)
direction_is direction.Output direction.Input h = absurd (false≢true h)
direction_is direction.Output direction.Output h = refl
direction_is direction.Output direction.Inout h = absurd (false≢true h)
direction_is direction.Inout direction.Input h = absurd (false≢true h)
direction_is direction.Inout direction.Output h = absurd (false≢true h)
direction_is direction.Inout direction.Inout h = refl

direction_same : (a : GateDirection) → i.is_direction a a ≡ true
direction_same direction.Input = refl
direction_same direction.Output = refl
direction_same direction.Inout = refl

alike_told : (x y : Bool) → (if x then y else not y) ≡ true → x ≡ y
alike_told true y h = sym h
alike_told false true h = absurd (false≢true h)
alike_told false false h = refl

alike_made : (x y : Bool) → x ≡ y → (if x then y else not y) ≡ true
alike_made true true h = refl
alike_made true false h = absurd (false≢true (sym h))
alike_made false true h = absurd (false≢true h)
alike_made false false h = refl

-- ---- parameters

abbrev HasParameter : List SectionLine → Declaration → Type 0
HasParameter lines d = (e : Declaration) × IsAmong (line.Declaration e) lines × (e.name ≡ d.name) × (e.word ≡ d.word)

declared_as : (d : Declaration) (l : SectionLine) (lines : List SectionLine) → IsAmong l lines → i.declares_as d l ≡ true → HasParameter lines d
declared_as d (line.Declaration e) lines is h = let p = and_both (bytes_eq e.name d.name) _ h in (e, is, same_names e.name d.name p.0, word_is e.word d.word p.1)
declared_as d (line.Assignment a) lines is h = absurd (false≢true h)
declared_as d (line.Statistic s) lines is h = absurd (false≢true h)
declared_as d (line.Class c) lines is h = absurd (false≢true h)
declared_as d line.Ignored lines is h = absurd (false≢true h)

parameter_told : (lines : List SectionLine) (d : Declaration) → i.has_parameter lines d ≡ true → HasParameter lines d
parameter_told lines d h = let found = any_found (λ l. i.declares_as d l) lines h in declared_as d found.0 lines found.1 found.2

parameter_made : (lines : List SectionLine) (d : Declaration) → HasParameter lines d → i.has_parameter lines d ≡ true
parameter_made lines d h =
    let same : i.is_word h.0.word d.word ≡ true = ap (i.is_word h.0.word) (sym h.3) ∙ word_same h.0.word in
    any_is (λ l. i.declares_as d l) lines (line.Declaration h.0) h.1 (both_and (bytes_eq h.0.name d.name) _ (names_same h.0.name d.name h.2) same)

lacks_none : (lines : List SectionLine) (l : SectionLine) → ((d : Declaration) → l ≡ line.Declaration d → HasParameter lines d) → i.lacks_parameter lines l ≡ false
lacks_none lines (line.Declaration d) h = false_not _ (parameter_made lines d (h d refl))
lacks_none lines (line.Assignment a) h = refl
lacks_none lines (line.Statistic s) h = refl
lacks_none lines (line.Class c) h = refl
lacks_none lines line.Ignored h = refl

-- ---- gates

abbrev HasGate : List GateLine → GateDeclaration → Type 0
HasGate gates d = (e : GateDeclaration) × IsAmong (gate.Declaration e) gates × (e.name ≡ d.name) × (e.direction ≡ d.direction) × (is_vector e.size ≡ is_vector d.size)

gate_declared_as : (d : GateDeclaration) (g : GateLine) (gates : List GateLine) → IsAmong g gates → i.declares_gate_as d g ≡ true → HasGate gates d
gate_declared_as d (gate.Declaration e) gates is h =
    let p = and_both (bytes_eq e.name d.name) _ h in
    let q = and_both (i.is_direction e.direction d.direction) _ p.1 in
    (e, is, same_names e.name d.name p.0, direction_is e.direction d.direction q.0, alike_told (is_vector e.size) (is_vector d.size) q.1)
gate_declared_as d (gate.Refinement r) gates is h = absurd (false≢true h)

gate_told : (gates : List GateLine) (d : GateDeclaration) → i.has_gate gates d ≡ true → HasGate gates d
gate_told gates d h = let found = any_found (λ g. i.declares_gate_as d g) gates h in gate_declared_as d found.0 gates found.1 found.2

gate_made : (gates : List GateLine) (d : GateDeclaration) → HasGate gates d → i.has_gate gates d ≡ true
gate_made gates d h =
    let same : i.is_direction h.0.direction d.direction ≡ true = ap (i.is_direction h.0.direction) (sym h.3) ∙ direction_same h.0.direction in
    any_is (λ g. i.declares_gate_as d g) gates (gate.Declaration h.0) h.1 (both_and (bytes_eq h.0.name d.name) _ (names_same h.0.name d.name h.2) (both_and (i.is_direction h.0.direction d.direction) _ same (alike_made (is_vector h.0.size) (is_vector d.size) h.4)))

lacks_no_gate : (gates : List GateLine) (g : GateLine) → ((d : GateDeclaration) → g ≡ gate.Declaration d → HasGate gates d) → i.lacks_gate gates g ≡ false
lacks_no_gate gates (gate.Declaration d) h = false_not _ (gate_made gates d (h d refl))
lacks_no_gate gates (gate.Refinement r) h = refl

-- ---- what is looked at

-- a line that is found declares it: one of the lines does
any_at : {X : Type 0} (test : X → Bool) (xs : List X) (n : ℕ) (x : X) → slice_get xs n ≡ Some x → test x ≡ true → list_any test xs ≡ true
any_at test xs n x here h =
    list_any_at test xs n x (slice_get_within xs n x here) (ap test (get_or_from_slice_get xs n x x here) ∙ h)

pub parameter_at : (lines : List SectionLine) (n : ℕ) (l : SectionLine) (d : Declaration) → slice_get lines n ≡ Some l → i.declares_as d l ≡ true → i.has_parameter lines d ≡ true
parameter_at lines n l d here h = any_at (λ (x : SectionLine). i.declares_as d x) lines n l here h

pub gate_at : (gates : List GateLine) (n : ℕ) (g : GateLine) (d : GateDeclaration) → slice_get gates n ≡ Some g → i.declares_gate_as d g ≡ true → i.has_gate gates d ≡ true
gate_at gates n g d here h = any_at (λ (x : GateLine). i.declares_gate_as d x) gates n g here h

-- ---- members

members_told : (a b : TypeDeclaration) → i.lacks_members a b ≡ false → HasMembers a b
members_told a b h =
    let parts = or_parts (list_any (λ l. i.lacks_parameter a.lines l) b.lines) (list_any (λ g. i.lacks_gate a.gates g) b.gates) h in
    record {
      parameters = λ d is. parameter_told a.lines d (not_false _ (any_told (λ l. i.lacks_parameter a.lines l) b.lines parts.0 (line.Declaration d) is));
      gates = λ d is. gate_told a.gates d (not_false _ (any_told (λ g. i.lacks_gate a.gates g) b.gates parts.1 (gate.Declaration d) is));
    }

members_made : (a b : TypeDeclaration) → HasMembers a b → i.lacks_members a b ≡ false
members_made a b m =
    or_false (list_any (λ l. i.lacks_parameter a.lines l) b.lines) _
    (any_made (λ l. i.lacks_parameter a.lines l) b.lines (λ l is. lacks_none a.lines l (λ d e. m.parameters d (subst (λ (x : SectionLine). IsAmong x b.lines) e is))))
    (any_made (λ g. i.lacks_gate a.gates g) b.gates (λ g is. lacks_no_gate a.gates g (λ d e. m.gates d (subst (λ (x : GateLine). IsAmong x b.gates) e is))))

-- ---- interfaces of types

abbrev AreApart : List TypeDeclaration → Type 0
AreApart types = (a b : TypeDeclaration) → StandsBefore a b types → a.name ≡ b.name → ⊥

pub kept_told : (types : List TypeDeclaration) → AreApart types → i.has_broken types ≡ false → (a : TypeDeclaration) → IsAmong a types → (b : TypeDeclaration) → IsAmong b types → IsAmong b.name a.interfaces → HasMembers a b
kept_told types apart none a in-types b also named =
    let found = type_is types b apart also in
    members_told a b (ap (i.lacks_any a) (sym found) ∙ any_told (λ n. i.lacks_any a (t.type_named n types)) a.interfaces (any_told (λ x. i.breaks_interface types x) types none a in-types) b.name named)

-- what is found has the name
found_named : (types : List TypeDeclaration) (name : List ℕ) (u : TypeDeclaration) → t.type_named name types ≡ Some u → IsAmong u types × (u.name ≡ name)
found_named [] name u e = cc
found_named (a ∷ behind) name u e = by (bytes_eq a.name name) refl e (found_named behind name u)
  where
    by : (b : Bool) → bytes_eq a.name name ≡ b → (if b then Some a else t.type_named name behind) ≡ Some u → (t.type_named name behind ≡ Some u → IsAmong u behind × (u.name ≡ name)) → IsAmong u (a ∷ behind) × (u.name ≡ name)
    by true p e later = let same : u ≡ a = cc in (inl same, ap (λ (x : TypeDeclaration). x.name) same ∙ same_names a.name name p)
    by false p e later = let found = later e in (inr found.0, found.1)

pub kept_made : (types : List TypeDeclaration) → ((a : TypeDeclaration) → IsAmong a types → (b : TypeDeclaration) → IsAmong b types → IsAmong b.name a.interfaces → HasMembers a b) → i.has_broken types ≡ false
kept_made types kept = any_made (λ x. i.breaks_interface types x) types (λ a in-types. any_made (λ n. i.lacks_any a (t.type_named n types)) a.interfaces (λ n named. one a in-types n named (t.type_named n types) refl))
  where
    one : (a : TypeDeclaration) → IsAmong a types → (n : List ℕ) → IsAmong n a.interfaces → (o : Option TypeDeclaration) → t.type_named n types ≡ o → i.lacks_any a o ≡ false
    one a in-types n named None e = refl
    one a in-types n named (Some b) e =
        let found = found_named types n b e in
        members_made a b (kept a in-types b found.0 (subst (λ (m : List ℕ). IsAmong m a.interfaces) (sym found.1) named))
