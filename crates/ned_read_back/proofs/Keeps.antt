-- What a text says of parameters and gates can be said.
use Rattle.std.proofs.Common.{◌≡◌, ℕ, Bool, true, List, [], ◌∷◌, ◌++◌, Option, Some, None, inl, inr, refl, sym, subst}
use Rattle.std.specs.Prelude.{unwrap_or}
use Rattle.sim_values.specs.declared.value.Dimension.{Dimension}
use Rattle.ned_tokens.specs.declared.token.Keyword.TheVariants as k
use Rattle.ned_tokens.specs.declared.token.Mark.TheVariants as m
use Rattle.ned_tokens.specs.declared.token.Token.{Token}
use Rattle.ned_tokens.specs.declared.token.Token.TheVariants as token
use Rattle.ned_tokens.specs.Rule.{Rule, token as one_token, ◌⊗◌, ◌◁◌, ◌▷◌, made, such_that, either, optional, many, many_is, optional_is, fold_left}
use Rattle.ned_tokens.specs.Balanced.{balanced}
use Rattle.ned_tokens.specs.Units.{unit_of}
use Rattle.ned_read_back.specs.Tokens.{IsName}
use Rattle.ned_read_back.proofs.SoundTokens.{IsSound, AreSound, have_spelling}
use Rattle.ned_read_back.proofs.ExpressionTokens.{none_stray, expression_spelled}
use Rattle.ned_trees.specs.declared.expressions.Expression.{Expression}
use Rattle.ned_expressions.specs.Spelling.{expression_tokens}
use Rattle.ned_trees.specs.declared.declarations.ParameterWord.{ParameterWord}
use Rattle.ned_trees.specs.declared.declarations.ParameterWord.TheVariants as words
use Rattle.ned_trees.specs.declared.declarations.Declaration.{Declaration}
use Rattle.ned_trees.specs.declared.declarations.SectionLine.{SectionLine}
use Rattle.ned_trees.specs.declared.declarations.GateSize.{GateSize}
use Rattle.ned_parameters.specs.declared.properties.PropertyName.{PropertyName}
use Rattle.ned_parameters.specs.declared.properties.PropertyName.TheVariants as names
use Rattle.ned_parameters.specs.declared.properties.Effect.{Effect}
use Rattle.ned_parameters.specs.declared.properties.Effect.TheVariants as effects
use Rattle.ned_sections.specs.declared.statistics.Part.{Part}
use Rattle.ned_sections.specs.declared.statistics.Part.TheVariants as part_is
use Rattle.ned_sections.specs.declared.statistics.Except.TheVariants as except_is
use Rattle.ned_sections.specs.declared.statistics.Said.{Said}
use Rattle.ned_parameters.specs.declared.lines.Valued.{Valued}
use Rattle.ned_parameters.specs.declared.lines.Tail.{Tail}
use Rattle.ned_syntax.specs.Grammar.{index, word, mark, name, expression, name_of, in_parens, default_value, value_rule, bracketed, body, property, valued, tail, parameter_word, volatile, any_declaration, declaration, assignment, heading, dotted, closed_expression, bracketed_expression, optional_brackets, ignored_property, assigned_or_ignored, any_body_line, body_line, body_section, turn_of, unit_effect, said_by_word, said, effect_of, value_in, unit_in, is_measured_word, listed, modes, loose_text, no_value, source_value, record_value, source_tail, record_tail, source_word, record_word, source_part, record_part, other_part, record_or_other, any_part, part, next_part, statistic_body, optional_body, indexed_statistic, unnamed_statistic, named_or_not, statistic_tail, statistic_word, statistic, plain_name, plain_line, property_text, property_line, assigned_or_said, any_line, section_line, section, direction, open_size, size_tail, vector_size, gate_size, declared_gate, refined_gate, any_gate, gate_line, gate_section, gates, part_or_other, nothing_said, over, over_all, statistic_line, line_or_ignored, line_of, size_or_single}
use Rattle.ned_read_back.proofs.Spellable.{Each, IfThere, CanBeExpression, CanBeGiven, CanBeUnit, CanBeDeclaration, CanBeAssignment, CanBeLine, CanBeBodyLine, CanBeSize, CanBeGate}

-- what sound tokens spell by the rule is so
pub record Keeps {X : Type 0} (r : Rule X) (P : X → Type 0) : Type 0 where
  pub kept : (ts : List Token) (x : X) → AreSound ts → r.Is ts x → P x

-- nothing is asked
abbrev pub Any : {X : Type 0} → X → Type 0
Any x = Unit {0}

-- ---- rules put together

-- the front of sound tokens is sound
pub sound_front : (ts us : List Token) → AreSound (ts ++ us) → AreSound ts
sound_front [] us h = tt
sound_front (t ∷ ts) us h = (h.0, sound_front ts us h.1)

-- the back of sound tokens is sound
pub sound_back : (ts us : List Token) → AreSound (ts ++ us) → AreSound us
sound_back [] us h = h
sound_back (t ∷ ts) us h = sound_back ts us h.1

-- a rule of which nothing is asked
pub anything : {X : Type 0} (r : Rule X) → Keeps r Any
anything r = record { kept = λ ts x h is. tt }

-- one token
pub one : {X : Type 0} (f : Token → Option X) (P : X → Type 0) → ((t : Token) (x : X) → IsSound t → f t ≡ Some x → P x) → Keeps (one_token f) P
one f P h = record { kept = λ ts x sound is. h is.0 x (subst AreSound is.1 sound).0 is.2 }

-- one after the other
pub then : {X Y : Type 0} {a : Rule X} {b : Rule Y} {P : X → Type 0} {Q : Y → Type 0} → Keeps a P → Keeps b Q → Keeps (a ⊗ b) (λ p. P p.0 × Q p.1)
then p q = record { kept = λ ts x h is. let sound = subst AreSound is.2 h in (p.kept is.0 x.0 (sound_front is.0 is.1 sound) is.3, q.kept is.1 x.1 (sound_back is.0 is.1 sound) is.4) }

-- a value made of the value read
pub mapped : {X Y : Type 0} {f : X → Y} {r : Rule X} {P : X → Type 0} {Q : Y → Type 0} → ((x : X) → P x → Q (f x)) → Keeps r P → Keeps (made f r) Q
mapped {Q = Q} g p = record { kept = λ ts y h is. subst Q (sym is.2) (g is.0 (p.kept ts is.0 h is.1)) }

-- the value of the second
pub before : {X Y : Type 0} {b : Rule Y} {Q : Y → Type 0} (a : Rule X) → Keeps b Q → Keeps (a ▷ b) Q
before a q = mapped (λ x h. h.1) (then (anything a) q)

-- the value of the first
pub after : {X Y : Type 0} {a : Rule X} {P : X → Type 0} (b : Rule Y) → Keeps a P → Keeps (a ◁ b) P
after b p = mapped (λ x h. h.0) (then p (anything b))

-- one or the other
pub choice : {X : Type 0} {a b : Rule X} {P : X → Type 0} → Keeps a P → Keeps b P → Keeps (either a b) P
choice {a = a} {b = b} {P = P} p q = record { kept = go }
  where
    go : (ts : List Token) (x : _) → AreSound ts → (either a b).Is ts x → P x
    go ts x h (inl is) = p.kept ts x h is
    go ts x h (inr is) = q.kept ts x h is

-- a value or nothing
pub perhaps : {X : Type 0} {r : Rule X} {P : X → Type 0} → Keeps r P → Keeps (optional r) (IfThere P)
perhaps {r = r} {P = P} p = record { kept = go }
  where
    go : (ts : List Token) (x : Option _) → AreSound ts → optional_is r.Is ts x → IfThere P x
    go ts None h is = tt
    go ts (Some x) h is = p.kept ts x h is

-- any number
pub each : {X : Type 0} {r : Rule X} {P : X → Type 0} → Keeps r P → Keeps (many r) (Each P)
each {r = r} {P = P} p = record { kept = λ ts xs h is. go xs ts h is }
  where
    go : (xs : List _) (ts : List Token) → AreSound ts → many_is r.Is xs ts → Each P xs
    go [] ts h is = tt
    go (x ∷ xs) ts h is = let sound = subst AreSound is.2 h in (p.kept is.0 x (sound_front is.0 is.1 sound) is.3, go xs is.1 (sound_back is.0 is.1 sound) is.4)

-- a value that passes the test
pub checked : {X : Type 0} {p : X → Bool} {r : Rule X} {P : X → Type 0} → Keeps r P → Keeps (such_that p r) (λ x. P x × (p x ≡ true))
checked q = record { kept = λ ts x h is. (q.kept ts x h is.0, is.1) }

-- less of the value
pub weaker : {X : Type 0} {r : Rule X} {P Q : X → Type 0} → ((x : X) → P x → Q x) → Keeps r P → Keeps r Q
weaker g p = record { kept = λ ts x h is. g x (p.kept ts x h is) }

-- ---- tokens

-- a name is a name
pub keeps_name : Keeps name IsName
unfolding name
keeps_name = one name_of IsName go
  where
    go : (t : Token) (x : List ℕ) → IsSound t → name_of t ≡ Some x → IsName x
    go (token.Name text) x h e = let same : text ≡ x = cc in subst IsName same (h refl)
    go _ x h e = absurd cc

-- ---- values

-- an expression: its tokens are those that were read
pub keeps_expression : Keeps expression CanBeExpression
keeps_expression = record { kept = λ ts e h is. by ts e h is (expression_spelled ts e is) }
  where
    by : (ts : List Token) (e : Expression) → AreSound ts → expression.Is ts e → ts ≡ expression_tokens e → CanBeExpression e
    by ts e h is same = record {
      spelled = have_spelling (expression_tokens e) (subst AreSound same h) (none_stray e);
      is = subst (λ (l : List Token). expression.Is l e) same is;
    }

-- a value, or `default(..)`
pub keeps_given : Keeps value_rule CanBeGiven
unfolding value_rule default_value
keeps_given = choice (before (word k.Default) (before (mark m.LeftParen) (after (mark m.RightParen) (mapped (λ e h. h) keeps_expression)))) (mapped (λ e h. h) keeps_expression)

-- ---- properties

-- a class is a name
abbrev pub CanBeEffect : Effect → Type 0
CanBeEffect (effects.Class text) = IsName text
CanBeEffect _ = Unit {0}

-- tokens in parentheses are sound
pub keeps_parens : Keeps in_parens AreSound
unfolding in_parens
keeps_parens = before (mark m.LeftParen) (after (mark m.RightParen) inner)
  where
    inner : Keeps (balanced turn_of) AreSound
    inner = record { kept = λ ts xs h is. subst AreSound (sym is.0) h }

-- so are those of a body
pub keeps_body : Keeps body (IfThere AreSound)
unfolding body
keeps_body = perhaps keeps_parens

-- a unit
pub unit_can : (o : Option (Dimension × ℕ)) → CanBeEffect (unit_effect o)
unit_can None = tt
unit_can (Some u) = tt

-- what one token says
pub word_can : (property : PropertyName) (t : Token) → IsSound t → CanBeEffect (said_by_word property t)
word_can names.Class (token.Name text) h = h refl
word_can names.Unit (token.Name text) h = unit_can (unit_of text)
word_can _ _ h = tt

-- what a body says
pub said_can : (property : PropertyName) (ts : List Token) → AreSound ts → CanBeEffect (said property ts)
said_can property [] h = tt
said_can property (t ∷ []) h = word_can property t h.0
said_can property (t ∷ u ∷ ts) h = tt

-- what a property says
pub effect_can : (property : PropertyName) (text : Option (List ℕ)) (tokens : Option (List Token)) → IfThere AreSound tokens → CanBeEffect (effect_of property text tokens)
effect_can names.Unit None (Some ts) h = said_can names.Unit ts h
effect_can names.Class None (Some ts) h = said_can names.Class ts h
effect_can names.Statistic None (Some ts) h = said_can names.Statistic ts h
effect_can names.Other None (Some ts) h = said_can names.Other ts h
effect_can _ _ _ h = tt

-- a property as a line
pub line_can : (e : Effect) → CanBeEffect e → CanBeLine (line_of e)
line_can (effects.Class text) h = h
line_can _ h = tt

-- a property but a statistic, as a line
pub keeps_plain_line : Keeps plain_line CanBeLine
unfolding plain_line
keeps_plain_line = mapped line_can (mapped (λ p h. effect_can p.0 p.1.0 p.1.1 h.1.1) (then (anything plain_name) (then (anything index) keeps_body)))

-- ---- statistics

-- a source is a name
abbrev pub CanBePart : Part → Type 0
CanBePart (part_is.Source text) = IsName text
CanBePart _ = Unit {0}

-- a part, or what has none
pub part_can : (p : Option Part) → IfThere CanBePart p → CanBePart (part_or_other p)
part_can None h = tt
part_can (Some p) h = h

-- a key without a value
pub keeps_no_value : Keeps no_value CanBePart
unfolding no_value
keeps_no_value = mapped (λ x h. tt) (anything (loose_text except_is.Equals))

-- a source
pub keeps_source : Keeps source_part CanBePart
unfolding source_part source_tail source_value
keeps_source = mapped part_can (before source_word (perhaps (choice (mapped (λ text h. h) (before (mark m.Equals) keeps_name)) keeps_no_value)))

-- modes
pub keeps_record : Keeps record_part CanBePart
unfolding record_part record_tail record_value
keeps_record = mapped part_can (before record_word (perhaps (choice (mapped (λ list h. tt) (before (mark m.Equals) (anything modes))) keeps_no_value)))

-- other text
pub keeps_other : Keeps other_part CanBePart
unfolding other_part
keeps_other = mapped (λ x h. tt) (anything (loose_text except_is.Keys))

-- a part
pub keeps_part : Keeps part (IfThere CanBePart)
unfolding part any_part record_or_other
keeps_part = perhaps (choice keeps_source (choice keeps_record keeps_other))

-- a part after a `;`
pub keeps_next_part : Keeps next_part (IfThere CanBePart)
unfolding next_part
keeps_next_part = before (mark m.Semi) keeps_part

-- a source that is said is a name
abbrev pub CanBeSaid : Said → Type 0
CanBeSaid s = IfThere IsName s.source

-- what a part says over those after it
pub over_can : (p : Option Part) (later : Said) → IfThere CanBePart p → CanBeSaid later → CanBeSaid (over p later)
over_can (Some (part_is.Source text)) later h k = h
over_can (Some (part_is.Record list)) later h k = k
over_can (Some part_is.Other) later h k = k
over_can None later h k = k

-- what parts say
pub over_all_can : (ps : List (Option Part)) → Each (IfThere CanBePart) ps → CanBeSaid (over_all ps nothing_said)
over_all_can [] h = tt
over_all_can (p ∷ ps) h = over_can p (over_all ps nothing_said) h.0 (over_all_can ps h.1)

-- what a body says
pub keeps_said : Keeps optional_body (IfThere CanBeSaid)
unfolding optional_body statistic_body
keeps_said = perhaps (before (mark m.LeftParen) (after (mark m.RightParen) (mapped (λ p h. over_all_can (p.0 ∷ p.1) h) (then keeps_part (each keeps_next_part)))))

-- the source, or else the name
pub source_can : (text : List ℕ) (source : Option (List ℕ)) → IsName text → IfThere IsName source → IsName (unwrap_or source text)
source_can text None h k = h
source_can text (Some source) h k = k

-- a statistic
pub statistic_can : (text : List ℕ) (s : Option Said) → IsName text → IfThere CanBeSaid s → CanBeLine (statistic_line text s)
statistic_can text None h k = (h, h)
statistic_can text (Some s) h k = (h, source_can text s.source h k)

-- `[name]`
pub keeps_bracketed : Keeps bracketed IsName
unfolding bracketed
keeps_bracketed = before (mark m.LeftBracket) (after (mark m.RightBracket) keeps_name)

-- a line, or one without effect
pub ignored_can : (line : Option SectionLine) → IfThere CanBeLine line → CanBeLine (line_or_ignored line)
ignored_can None h = tt
ignored_can (Some line) h = h

-- a statistic as a line
pub keeps_statistic : Keeps statistic CanBeLine
unfolding statistic statistic_tail named_or_not indexed_statistic unnamed_statistic
keeps_statistic = before statistic_word (mapped ignored_can (perhaps (choice (mapped (λ p h. statistic_can p.0 p.1 h.0 h.1) (then keeps_bracketed keeps_said)) (mapped (λ x h. tt) (anything in_parens)))))

-- a property as a line
pub keeps_property_line : Keeps property_line CanBeLine
unfolding property_line property_text
keeps_property_line = before (mark m.At) (choice keeps_statistic keeps_plain_line)

-- ---- the lines of a section

-- the value after `=`
abbrev pub CanBeValued : Valued → Type 0
CanBeValued v = CanBeGiven v.value

-- the value of a tail
pub keeps_tail : Keeps tail (λ t. IfThere CanBeValued t.valued)
unfolding tail valued
keeps_tail = mapped (λ p h. h.1) (then (anything (many property)) (perhaps (mapped (λ p h. h.0) (then (before (mark m.Equals) keeps_given) (anything (many property))))))

-- the value, where there is one
pub value_can : (v : Option Valued) → IfThere CanBeValued v → IfThere CanBeGiven (value_in v)
value_can None h = tt
value_can (Some v) h = h

-- a unit, before it is asked whether a `double` has one
abbrev pub MayBeUnit : ParameterWord → Option Dimension → Type 0
MayBeUnit words.Bool unit = unit ≡ None
MayBeUnit words.Text unit = unit ≡ None
MayBeUnit _ unit = Unit {0}

-- the unit that a tail says
pub unit_may : (w : ParameterWord) (t : Tail) → MayBeUnit w (unit_in w t)
unit_may words.Bool t = refl
unit_may words.Int t = tt
unit_may words.Text t = refl
unit_may words.Double t = tt

-- a unit that passes the test
pub unit_can_be : (w : ParameterWord) (unit : Option Dimension) → MayBeUnit w unit → is_measured_word w unit ≡ true → CanBeUnit w unit
unit_can_be words.Bool unit h e = h
unit_can_be words.Int unit h e = tt
unit_can_be words.Text unit h e = h
unit_can_be words.Double unit h e = e

-- a declaration, before that is asked
abbrev pub MayBeDeclaration : Declaration → Type 0
MayBeDeclaration d = IsName d.name × MayBeUnit d.word d.unit × IfThere CanBeGiven d.value

-- a declaration, before that is asked
pub keeps_any_declaration : Keeps any_declaration MayBeDeclaration
unfolding any_declaration
keeps_any_declaration = mapped (λ p h. (h.1.0, unit_may p.0 p.1.1, value_can p.1.1.valued h.1.1)) (before volatile (then (anything parameter_word) (then keeps_name keeps_tail)))

-- a declaration
pub keeps_declaration : Keeps declaration CanBeDeclaration
unfolding declaration
keeps_declaration = weaker (λ d h. (h.0.0, unit_can_be d.word d.unit h.0.1 h.1, h.0.2)) (checked keeps_any_declaration)

-- an assignment
pub keeps_assignment : Keeps assignment CanBeAssignment
unfolding assignment
keeps_assignment = mapped (λ p h. (h.0, value_can p.1.valued h.1)) (then keeps_name keeps_tail)

-- a line
pub keeps_line : Keeps any_line CanBeLine
unfolding any_line assigned_or_said
keeps_line = choice (mapped (λ d h. h) keeps_declaration) (choice (mapped (λ a h. h) keeps_assignment) keeps_property_line)

-- the lines of a section
pub keeps_section : Keeps section (Each CanBeLine)
unfolding section section_line
keeps_section = before heading (each (after (mark m.Semi) keeps_line))

-- the last of names
pub last_can : (first : List ℕ) (others : List (Unit {0} × List ℕ)) → IsName first → Each (λ p. Any p.0 × IsName p.1) others → IsName (fold_left (λ _ _ last. last) first others)
last_can first [] h all = h
last_can first (p ∷ ps) h all = last_can p.1 ps all.0.1 all.1

-- the last part of a dotted name
pub keeps_dotted : Keeps dotted IsName
unfolding dotted
keeps_dotted = mapped (λ p h. last_can p.0 p.1 h.0 h.1) (then keeps_name (each (then (anything (mark m.Dot)) keeps_name)))

-- a line of a body
pub keeps_body_line : Keeps any_body_line CanBeBodyLine
unfolding any_body_line assigned_or_ignored ignored_property
keeps_body_line = choice (mapped (λ d h. h) keeps_declaration) (choice (mapped (λ a h. h) keeps_assignment) (mapped (λ x h. tt) (anything property)))

-- the lines of a body
pub keeps_body_section : Keeps body_section (Each CanBeBodyLine)
unfolding body_section body_line
keeps_body_section = before heading (each (after (mark m.Semi) keeps_body_line))

-- what is listed, or nothing
pub listed_can : {X : Type 0} (P : X → Type 0) (xs : Option (List X)) → IfThere (Each P) xs → Each P (listed xs)
listed_can P None h = tt
listed_can P (Some xs) h = h

-- the size of a vector
pub keeps_size_value : Keeps closed_expression CanBeExpression
unfolding closed_expression
keeps_size_value = after (mark m.RightBracket) keeps_expression

-- a size, or that of a single gate
pub single_can : (size : Option GateSize) → IfThere CanBeSize size → CanBeSize (size_or_single size)
single_can None h = tt
single_can (Some size) h = h

-- the size of a gate
pub keeps_gate_size : Keeps gate_size CanBeSize
unfolding gate_size vector_size size_tail open_size
keeps_gate_size = mapped single_can (perhaps (before (mark m.LeftBracket) (choice (mapped (λ x h. tt) (anything (mark m.RightBracket))) (mapped (λ e h. h) keeps_size_value))))

-- the size that a refinement says
pub keeps_refined_size : Keeps optional_brackets (IfThere CanBeExpression)
unfolding optional_brackets bracketed_expression
keeps_refined_size = perhaps (before (mark m.LeftBracket) keeps_size_value)

-- a gate
pub keeps_gate : Keeps any_gate CanBeGate
unfolding any_gate declared_gate refined_gate
keeps_gate = choice
    (mapped (λ p h. (h.1.0, h.1.1.0)) (then (anything direction) (then keeps_name (then keeps_gate_size (anything (many property))))))
    (mapped (λ p h. (h.0, h.1.0)) (then keeps_name (then keeps_refined_size (anything (many property)))))

-- the gates
pub keeps_gates : Keeps gates (Each CanBeGate)
unfolding gates gate_section gate_line
keeps_gates = mapped (listed_can CanBeGate) (perhaps (before (word k.Gates) (before (mark m.Colon) (each (after (mark m.Semi) keeps_gate)))))

-- what an expression's text says can be said
pub expression_can : (ts : List Token) (e : Expression) → AreSound ts → expression.Is ts e → CanBeExpression e
expression_can ts e h is = keeps_expression.kept ts e h is
