-- What a text declares can be declared.
use Rattle.std.proofs.Common.{◌≡◌, ℕ, zero, suc, true, List, [], ◌∷◌, Option, Some, None, refl, sym, ap, subst}
use Rattle.std.specs.Prelude.{is_some}
use Rattle.std.proofs.lemmas.Bool.{false≢true}
use Rattle.ned_tokens.specs.declared.token.Keyword.{Keyword}
use Rattle.ned_tokens.specs.declared.token.Keyword.TheVariants as k
use Rattle.ned_tokens.specs.declared.token.Mark.TheVariants as m
use Rattle.ned_tokens.specs.declared.token.Token.{Token}
use Rattle.ned_tokens.specs.declared.token.Token.TheVariants as token
use Rattle.ned_tokens.specs.Rule.{Rule}
use Rattle.ned_read_back.specs.Tokens.{IsName}
use Rattle.ned_read_back.proofs.SoundTokens.{IsSound, AreSound, have_spelling}
use Rattle.ned_read_back.proofs.ExpressionTokens.{none_stray, angle_spelled}
use Rattle.ned_trees.specs.declared.expressions.Expression.{Expression}
use Rattle.ned_expressions.specs.Spelling.{expression_tokens}
use Rattle.ned_trees.specs.declared.declarations.Submodule.{Submodule}
use Rattle.ned_trees.specs.declared.declarations.SectionLine.{SectionLine}
use Rattle.ned_trees.specs.declared.declarations.GateLine.{GateLine}
use Rattle.ned_syntax.specs.declared.heads.Head.{Head}
use Rattle.ned_trees.specs.declared.declarations.TypeKind.{TypeKind}
use Rattle.ned_trees.specs.declared.declarations.TypeKind.TheVariants as kinds
use Rattle.ned_trees.specs.declared.declarations.TypeDeclaration.{TypeDeclaration}
use Rattle.ned_trees.specs.declared.declarations.NestedType.{NestedType, out-NestedType, roll-NestedType, the_lemmas}
use Rattle.ned_trees.specs.declared.declarations.NestedType.TheOpen.{NestedType-F}
use Rattle.ned_trees.specs.declared.declarations.NedFile.{NedFile}
use Rattle.ned_syntax.specs.Grammar.{base_name, optional_base, next_dotted, dotted_list, names_behind, optional_names, head, gated_block, simple, body_parts, braced_body, no_body, any_body, submodule_body, angle_value, optional_value, angles, interface_name, parametric, submodule_type, optional_condition, submodule_rest, submodule, submodules, lone, inner_types, inside, compound_block, compound_kind_of, compound_kind, compound_of, compound, module_type, section_block, channel, interface_kind_of, interface_kind, channel_or_interface, any_type, no_type, type_within, silent, silent_entry, entry, types_in, file, word, mark, name, angle_expression, default_value, bracketed_expression, optional_brackets, optional_semi, declared, max_blocks, gates, connections, no_connections, interface}
use Rattle.ned_read_back.proofs.Spellable.{Each, IfThere, CanBeLine, CanBeGate, CanBeAngle, CanBeAngles, CanBeConnections, HasRoom, CanBeBody, CanBeSubmoduleType, CanBeSubmodule, CanBeParts, CanBeType, CanBeTypes, CanBeLayer, CanBeFile, CanBeNested}
use Rattle.ned_trees.specs.declared.connections.ConnectionSection.{ConnectionSection}
use Rattle.ned_read_back.proofs.Keeps.{Keeps, anything, one, then, mapped, before, after, choice, perhaps, each, keeps_name, keeps_expression, keeps_section, keeps_dotted, keeps_body_section, listed_can, keeps_size_value, keeps_gates}
use Rattle.ned_read_back.proofs.KeepsConnections.{keeps_condition, keeps_connections}

-- ---- submodules

-- an expression for angles: its tokens are those that were read
keeps_angle : Keeps angle_expression CanBeAngle
keeps_angle = record { kept = λ ts e h is. by ts e h is (angle_spelled ts e is) }
  where
    by : (ts : List Token) (e : Expression) → AreSound ts → angle_expression.Is ts e → ts ≡ expression_tokens e → CanBeAngle e
    by ts e h is same = record {
      spelled = have_spelling (expression_tokens e) (subst AreSound same h) (none_stray e);
      is = subst (λ (l : List Token). angle_expression.Is l e) same is;
    }

-- a value between angles
keeps_angle_value : Keeps angle_value CanBeAngles
unfolding angle_value default_value
keeps_angle_value = choice (before (word k.Default) (before (mark m.LeftParen) (after (mark m.RightParen) (mapped (λ e h. h) keeps_expression)))) (mapped (λ e h. h) keeps_angle)

-- the value, where there is one
keeps_angles : Keeps angles (IfThere CanBeAngles)
unfolding angles optional_value
keeps_angles = before (mark m.Less) (after (mark m.Greater) (perhaps keeps_angle_value))

-- the type of a submodule
keeps_submodule_type : Keeps submodule_type CanBeSubmoduleType
unfolding submodule_type parametric interface_name
keeps_submodule_type = choice (mapped (λ t h. h) (mapped (λ p h. h) (then keeps_angles (before (word k.Like) keeps_dotted)))) (mapped (λ text h. h) keeps_dotted)

-- where a block may be opened lines and gates have room
has_room : (n : ℕ) (ls : List SectionLine) (gs : List GateLine) → HasRoom (suc n) ls gs
has_room n ls gs = tt

-- no body
keeps_no_body : (n : ℕ) → Keeps no_body (CanBeBody n)
unfolding no_body
keeps_no_body zero = mapped (λ x h. (tt, tt, (refl, refl))) (anything (mark m.Semi))
keeps_no_body (suc n) = mapped (λ x h. (tt, tt, tt)) (anything (mark m.Semi))

-- a body in braces
keeps_braced_body : (n : ℕ) → Keeps braced_body (CanBeBody (suc n))
unfolding braced_body body_parts
keeps_braced_body n = after optional_semi (before (mark m.Open) (after (mark m.Close) (mapped (λ p h. (h.0, h.1, tt)) (then keeps_body_section keeps_gates))))

-- the body of a submodule
keeps_submodule_body : (n : ℕ) → Keeps (submodule_body n) (CanBeBody n)
unfolding submodule_body any_body
keeps_submodule_body zero = keeps_no_body zero
keeps_submodule_body (suc n) = choice (keeps_no_body (suc n)) (keeps_braced_body n)

-- a submodule
keeps_submodule : (n : ℕ) → Keeps (submodule n) (CanBeSubmodule n)
unfolding submodule submodule_rest optional_brackets bracketed_expression optional_condition
keeps_submodule n = mapped (λ p h. (h.0, h.1.0, h.1.1.0, h.1.1.1.0, h.1.1.1.1)) (then keeps_name (then (perhaps (before (mark m.LeftBracket) keeps_size_value)) (before (mark m.Colon) (then keeps_submodule_type (then (perhaps keeps_condition) (keeps_submodule_body n))))))

-- the submodules
keeps_submodules : (n : ℕ) → Keeps (submodules n) (Each (CanBeSubmodule n))
unfolding submodules
keeps_submodules n = mapped (listed_can (CanBeSubmodule n)) (perhaps (before (word k.Submodules) (before (mark m.Colon) (each (keeps_submodule n)))))

-- ---- heads and types

-- what it extends
keeps_base : Keeps optional_base (IfThere IsName)
unfolding optional_base base_name
keeps_base = perhaps (before (word k.Extends) keeps_dotted)

-- names after a word, or none
keeps_names : (w : Keyword) → Keeps (optional_names w) (Each IsName)
unfolding optional_names names_behind dotted_list next_dotted
keeps_names w = mapped (listed_can IsName) (perhaps (before (word w) (mapped (λ p h. (h.0, h.1)) (then keeps_dotted (each (before (mark m.Comma) keeps_dotted))))))

-- a name, a base and interfaces
abbrev CanBeHead : Head → Type 0
CanBeHead h = IsName h.name × IfThere IsName h.base × Each IsName h.interfaces

-- the head of a type
keeps_head : Keeps head CanBeHead
unfolding head
keeps_head = mapped (λ p h. (h.0, h.1.0, h.1.1)) (then keeps_name (then keeps_base (keeps_names k.Like)))

-- a simple module
keeps_simple : (n : ℕ) → Keeps simple (CanBeType n)
unfolding simple gated_block
keeps_simple n = mapped (λ p h. (h.0.0, (h.0.1, h.0.2, h.1.0, h.1.1, refl, refl))) (before (word k.Simple) (then keeps_head (before (mark m.Open) (after (mark m.Close) (then keeps_section keeps_gates)))))

-- the types within a type
keeps_inner_types : (inner : Rule NestedType) (P : NestedType → Type 0) → Keeps inner P → Keeps (inner_types inner) (Each P)
unfolding inner_types
keeps_inner_types inner P h = mapped (listed_can P) (perhaps (before (word k.Types) (before (mark m.Colon) (each h))))

-- a type whose layer can be so
abbrev CanBeOpened : ℕ → (NestedType → Type 0) → NestedType → Type 0
CanBeOpened n P t = CanBeLayer n P (out-NestedType t)

-- the layer that a type is made of
opened_again : (x : NestedType-F NestedType) → out-NestedType (roll-NestedType x) ≡ x
opened_again x = search the_lemmas

made_can : (n : ℕ) (P : NestedType → Type 0) (x : NestedType-F NestedType) → CanBeLayer n P x → CanBeOpened n P (roll-NestedType x)
made_can n P x h = subst (CanBeLayer n P) (sym (opened_again x)) h

-- the kind of a type with an inside
abbrev IsCompoundKind : TypeKind → Type 0
IsCompoundKind kinds.Module = Unit {0}
IsCompoundKind kinds.Network = Unit {0}
IsCompoundKind _ = ⊥

-- its word says its kind
keeps_compound_kind : Keeps compound_kind IsCompoundKind
unfolding compound_kind
keeps_compound_kind = one compound_kind_of IsCompoundKind go
  where
    go : (t : Token) (x : TypeKind) → IsSound t → compound_kind_of t ≡ Some x → IsCompoundKind x
    go (token.Word k.Module) x h e = let same : kinds.Module ≡ x = cc in subst IsCompoundKind same tt
    go (token.Word k.Network) x h e = let same : kinds.Network ≡ x = cc in subst IsCompoundKind same tt
    go (token.Word _) x h e = absurd (false≢true (ap is_some e))
    go _ x h e = absurd (false≢true (ap is_some e))

-- a type of these parts
abbrev compound_with : TypeKind → Head → List SectionLine → List GateLine → List Submodule → ConnectionSection → TypeDeclaration
compound_with kind h ls gs ss cs = record { kind = kind; name = h.name; base = h.base; interfaces = h.interfaces; lines = ls; gates = gs; submodules = ss; connections = cs }

-- a module or a network of these parts
compound_can : (n : ℕ) (P : NestedType → Type 0) (kind : TypeKind) (h : Head) (ls : List SectionLine) (gs : List GateLine) (ts : List NestedType) (ss : List Submodule) (cs : ConnectionSection) → IsCompoundKind kind → CanBeHead h → Each CanBeLine ls → Each CanBeGate gs → Each P ts → Each (CanBeSubmodule n) ss → CanBeConnections n cs → CanBeOpened n P (compound_of kind h ls gs ts ss cs)
compound_can n P kinds.Module h ls gs ts ss cs is head_is l g t s c = made_can n P (record { declared = compound_with kinds.Module h ls gs ss cs; types = ts }) ((head_is.0, (head_is.1, head_is.2, l, g, s, c)), t)
compound_can n P kinds.Network h ls gs ts ss cs is head_is l g t s c = made_can n P (record { declared = compound_with kinds.Network h ls gs ss cs; types = ts }) ((head_is.0, (head_is.1, head_is.2, l, g, s, c)), t)
compound_can n P _ h ls gs ts ss cs is head_is l g t s c = absurd is

-- a module or a network
keeps_compound : (n : ℕ) (inner : Rule NestedType) (P : NestedType → Type 0) → Keeps inner P → Keeps (compound n inner) (CanBeOpened n P)
unfolding compound compound_block inside
keeps_compound n inner P h = mapped (λ p h. compound_can n P p.0 p.1.0 p.1.1.0 p.1.1.1.0 p.1.1.1.1.0 p.1.1.1.1.1.0 p.1.1.1.1.1.1 h.0 h.1.0 h.1.1.0 h.1.1.1.0 h.1.1.1.1.0 h.1.1.1.1.1.0 h.1.1.1.1.1.1) (then keeps_compound_kind (then keeps_head (before (mark m.Open) (after (mark m.Close) (then keeps_section (then keeps_gates (then (keeps_inner_types inner P h) (then (keeps_submodules n) (keeps_connections n)))))))))

-- no types within
no_types_can : (kind : TypeKind) (P : NestedType → Type 0) → CanBeTypes kind P []
no_types_can kinds.Module P = tt
no_types_can kinds.Network P = tt
no_types_can _ P = refl

-- a type that declares none
lone_can : (n : ℕ) (P : NestedType → Type 0) (d : TypeDeclaration) → CanBeType n d → CanBeOpened n P (lone d)
lone_can n P d h = made_can n P (record { declared = d; types = [] }) (h, no_types_can d.kind P)

-- a type of channels
keeps_channel : (n : ℕ) → Keeps channel (CanBeType n)
unfolding channel section_block
keeps_channel n = mapped (λ p h. (h.0.0, (h.0.1, h.0.2, h.1, refl, refl, refl))) (before (word k.Channel) (then keeps_head (before (mark m.Open) (after (mark m.Close) keeps_section))))

-- the kind of an interface
abbrev IsInterfaceKind : TypeKind → Type 0
IsInterfaceKind kinds.ModuleInterface = Unit {0}
IsInterfaceKind kinds.ChannelInterface = Unit {0}
IsInterfaceKind _ = ⊥

-- the word of an interface says its kind
keeps_interface_kind : Keeps interface_kind IsInterfaceKind
unfolding interface_kind
keeps_interface_kind = one interface_kind_of IsInterfaceKind go
  where
    go : (t : Token) (x : TypeKind) → IsSound t → interface_kind_of t ≡ Some x → IsInterfaceKind x
    go (token.Word k.ModuleInterface) x h e = let same : kinds.ModuleInterface ≡ x = cc in subst IsInterfaceKind same tt
    go (token.Word k.ChannelInterface) x h e = let same : kinds.ChannelInterface ≡ x = cc in subst IsInterfaceKind same tt
    go (token.Word _) x h e = absurd (false≢true (ap is_some e))
    go _ x h e = absurd (false≢true (ap is_some e))

-- an interface of either kind
interface_can : (n : ℕ) (kind : TypeKind) (text : List ℕ) (names : List (List ℕ)) (ls : List SectionLine) (gs : List GateLine) → IsInterfaceKind kind → Each IsName names → Each CanBeLine ls → Each CanBeGate gs → CanBeParts n kind (record { kind = kind; name = text; base = None; interfaces = names; lines = ls; gates = gs; submodules = []; connections = no_connections })
interface_can n kinds.ModuleInterface text names ls gs h k l g = (k, l, g, refl, refl, refl)
interface_can n kinds.ChannelInterface text names ls gs h k l g = (k, l, g, refl, refl, refl)
interface_can n _ text names ls gs h k l g = absurd h

-- an interface
keeps_interface : (n : ℕ) → Keeps interface (CanBeType n)
unfolding interface gated_block
keeps_interface n = mapped (λ p h. (h.1.0, interface_can n p.0 p.1.0 p.1.1.0 p.1.1.1.0 p.1.1.1.1 h.0 h.1.1.0 h.1.1.1.0 h.1.1.1.1)) (then keeps_interface_kind (then keeps_name (then (keeps_names k.Extends) (before (mark m.Open) (after (mark m.Close) (then keeps_section keeps_gates))))))

-- a type of any kind
keeps_any_type : (n : ℕ) (inner : Rule NestedType) (P : NestedType → Type 0) → Keeps inner P → Keeps (any_type n inner) (CanBeOpened n P)
unfolding any_type module_type channel_or_interface
keeps_any_type n inner P h = choice (choice (mapped (lone_can n P) (keeps_simple n)) (keeps_compound n inner P h)) (mapped (lone_can n P) (choice (keeps_channel n) (keeps_interface n)))

-- a type with at most n blocks open at once
keeps_type : (n : ℕ) → Keeps (type_within n) (CanBeNested n)
unfolding type_within no_type CanBeNested
keeps_type zero = one (λ _. None) (CanBeNested zero) (λ t x h e. absurd (false≢true (ap is_some e)))
keeps_type (suc n) = keeps_any_type n (type_within n) (CanBeNested n) (keeps_type n)

-- a type, or what has no effect
keeps_entry : Keeps entry (IfThere (CanBeNested max_blocks))
unfolding entry silent_entry
keeps_entry = choice (mapped (λ x h. tt) (anything silent)) (mapped (λ d h. h) (keeps_type max_blocks))

-- the types of a file
types_can : (es : List (Option NestedType)) → Each (IfThere (CanBeNested max_blocks)) es → Each (CanBeNested max_blocks) (types_in es)
types_can [] h = tt
types_can (None ∷ es) h = types_can es h.1
types_can (Some d ∷ es) h = (h.0, types_can es h.1)

-- a file
keeps_file : Keeps file CanBeFile
unfolding file
keeps_file = mapped (λ es h. types_can es h) (each keeps_entry)

-- what a text declares can be declared
pub file_can : (ts : List Token) (f : NedFile) → AreSound ts → file.Is ts f → CanBeFile f
file_can ts f h is = keeps_file.kept ts f h is
