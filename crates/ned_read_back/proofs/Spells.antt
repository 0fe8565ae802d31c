-- The standard tokens of parameters and gates say them.
use Rattle.std.proofs.Common.{◌≡◌, ℕ, Bool, true, false, List, [], ◌∷◌, ◌++◌, Option, Some, None, inl, inr, refl, sym, subst, append-nil, codes}
use Rattle.sim_values.specs.declared.value.Dimension.{Dimension}
use Rattle.sim_values.specs.declared.value.Dimension.TheVariants as dimension
use Rattle.ned_tokens.specs.declared.token.Keyword.{Keyword}
use Rattle.ned_tokens.specs.declared.token.Keyword.TheVariants as k
use Rattle.ned_tokens.specs.declared.token.Mark.{Mark}
use Rattle.ned_tokens.specs.declared.token.Mark.TheVariants as m
use Rattle.ned_tokens.specs.declared.token.Token.{Token}
use Rattle.ned_tokens.specs.declared.token.Token.TheVariants as token
use Rattle.ned_tokens.specs.Rule.{Rule, token as one_token, ◌⊗◌, ◌◁◌, ◌▷◌, made, such_that, either, optional, many}
use Rattle.sim_values.specs.Units.{time_unit}
use Rattle.ned_tokens.specs.Units.{unit_of, rate_unit, length_unit}
use Rattle.ned_read_back.specs.Tokens.{unit_text}
use Rattle.ned_trees.specs.declared.expressions.Expression.{Expression}
use Rattle.ned_expressions.specs.Spelling.{expression_tokens}
use Rattle.ned_trees.specs.declared.declarations.ParameterValue.{ParameterValue}
use Rattle.ned_trees.specs.declared.declarations.ParameterValue.TheVariants as given
use Rattle.ned_trees.specs.declared.declarations.ParameterWord.{ParameterWord}
use Rattle.ned_trees.specs.declared.declarations.ParameterWord.TheVariants as words
use Rattle.ned_trees.specs.declared.declarations.Declaration.{Declaration}
use Rattle.ned_trees.specs.declared.declarations.Assignment.{Assignment}
use Rattle.ned_trees.specs.declared.modes.Mode.{Mode}
use Rattle.ned_trees.specs.declared.modes.Mode.TheVariants as modes_are
use Rattle.ned_trees.specs.declared.declarations.RecordedMode.{RecordedMode}
use Rattle.ned_trees.specs.declared.declarations.Statistic.{Statistic}
use Rattle.ned_trees.specs.declared.declarations.SectionLine.{SectionLine}
use Rattle.ned_trees.specs.declared.declarations.SectionLine.TheVariants as lines
use Rattle.ned_trees.specs.declared.declarations.GateDirection.{GateDirection}
use Rattle.ned_trees.specs.declared.declarations.GateDirection.TheVariants as directions
use Rattle.ned_trees.specs.declared.declarations.GateSize.{GateSize}
use Rattle.ned_trees.specs.declared.declarations.GateSize.TheVariants as sizes
use Rattle.ned_trees.specs.declared.declarations.GateLine.{GateLine}
use Rattle.ned_trees.specs.declared.declarations.GateLine.TheVariants as gate_lines
use Rattle.ned_trees.specs.Modes.{mode_name}
use Rattle.ned_parameters.specs.declared.properties.Effect.{Effect}
use Rattle.ned_parameters.specs.declared.properties.Effect.TheVariants as effects
use Rattle.ned_parameters.specs.declared.properties.PropertyName.TheVariants as names
use Rattle.ned_sections.specs.declared.statistics.Part.{Part}
use Rattle.ned_sections.specs.declared.statistics.Part.TheVariants as part_is
use Rattle.ned_parameters.specs.declared.lines.Valued.{Valued}
use Rattle.ned_tokens.specs.Words.{or_else}
use Rattle.ned_tokens.specs.Balanced.{balanced}
use Rattle.ned_syntax.specs.Grammar.{word, mark, name, expression, is_word, is_mark, in_parens, default_value, value_rule, property_name, bracketed, index, body, property, valued, tail, parameter_word, volatile, any_declaration, declaration, assignment, heading, dotted, closed_expression, bracketed_expression, optional_brackets, ignored_property, assigned_or_ignored, any_body_line, body_line, body_section, optional_semi, turn_of, effect_of, first_unit, says_loose, value_in, unit_behind, unit_in, is_measured_word, mode_word, question, mode_rule, next_mode, modes, no_value, source_value, record_value, source_tail, record_tail, source_word, record_word, source_part, record_part, other_part, record_or_other, any_part, part, next_part, statistic_body, optional_body, indexed_statistic, unnamed_statistic, named_or_not, statistic_tail, statistic_word, statistic, plain_name, plain_line, property_text, property_line, assigned_or_said, any_line, section_line, section, direction, open_size, size_tail, vector_size, gate_size, declared_gate, refined_gate, any_gate, gate_line, gate_section, gates, said_in, statistic_line}
use Rattle.ned_read_back.specs.Declarations.{listed_tokens, given_tokens, valued_tokens, unit_tokens, parameter_keyword, declaration_tokens, assignment_tokens, question_tokens, mode_tokens, next_mode_tokens, record_tokens, statistic_tokens, line_tokens, section_line_tokens, section_tokens, direction_keyword, size_tokens, refined_size_tokens, loose_tokens, gate_tokens, gate_line_tokens, gates_tokens}
use Rattle.ned_read_back.proofs.Spellable.{Each, IfThere, CanBeExpression, CanBeGiven, CanBeUnit, CanBeDeclaration, CanBeAssignment, CanBeLine, CanBeBodyLine, CanBeSize, CanBeGate}

-- these tokens spell this value by the rule
pub record Spells {X : Type 0} (r : Rule X) (ts : List Token) (x : X) : Type 0 where
  pub is : r.Is ts x

-- ---- rules put together

-- one token
pub one : {X : Type 0} {f : Token → Option X} {x : X} (t : Token) → f t ≡ Some x → Spells (one_token f) (t ∷ []) x
one t e = record { is = (t, refl, e) }

-- one after the other
pub then : {X Y : Type 0} {a : Rule X} {b : Rule Y} {ts us : List Token} {x : X} {y : Y} → Spells a ts x → Spells b us y → Spells (a ⊗ b) (ts ++ us) (x, y)
then {ts = ts} {us = us} p q = record { is = (ts, us, refl, p.is, q.is) }

-- a value made of the value spelled
pub mapped : {X Y : Type 0} {f : X → Y} {r : Rule X} {ts : List Token} {x : X} → Spells r ts x → Spells (made f r) ts (f x)
mapped {x = x} p = record { is = (x, p.is, refl) }

-- the value of the second
pub before : {X Y : Type 0} {a : Rule X} {b : Rule Y} {ts us : List Token} {x : X} {y : Y} → Spells a ts x → Spells b us y → Spells (a ▷ b) (ts ++ us) y
before p q = mapped (then p q)

-- the value of the first
pub after : {X Y : Type 0} {a : Rule X} {b : Rule Y} {ts us : List Token} {x : X} {y : Y} → Spells a ts x → Spells b us y → Spells (a ◁ b) (ts ++ us) x
after p q = mapped (then p q)

-- the first of two ways
pub this : {X : Type 0} {a : Rule X} {ts : List Token} {x : X} (b : Rule X) → Spells a ts x → Spells (either a b) ts x
this b p = record { is = inl p.is }

-- the second of two ways
pub that : {X : Type 0} {b : Rule X} {ts : List Token} {x : X} (a : Rule X) → Spells b ts x → Spells (either a b) ts x
that a p = record { is = inr p.is }

-- a value, where it is optional
pub some : {X : Type 0} {r : Rule X} {ts : List Token} {x : X} → Spells r ts x → Spells (optional r) ts (Some x)
some p = record { is = p.is }

-- no value, where it is optional
pub nothing : {X : Type 0} (r : Rule X) → Spells (optional r) [] None
nothing r = record { is = refl }

-- a value that passes the test
pub checked : {X : Type 0} {p : X → Bool} {r : Rule X} {ts : List Token} {x : X} → Spells r ts x → p x ≡ true → Spells (such_that p r) ts x
checked q e = record { is = (q.is, e) }

-- none of any number
pub none : {X : Type 0} (r : Rule X) → Spells (many r) [] []
none r = record { is = refl }

-- one, and others
pub more : {X : Type 0} {r : Rule X} {ts us : List Token} {x : X} {xs : List X} → Spells r ts x → Spells (many r) us xs → Spells (many r) (ts ++ us) (x ∷ xs)
more {ts = ts} {us = us} p q = record { is = (ts, us, refl, p.is, q.is) }

-- just one
pub only : {X : Type 0} {ts : List Token} {x : X} (r : Rule X) → Spells r ts x → Spells (many r) ts (x ∷ [])
only {ts = ts} {x = x} r p = subst (λ (us : List Token). Spells (many r) us (x ∷ [])) (append-nil ts) (more p (none r))

-- nothing after it
pub then_none : {X Y : Type 0} {a : Rule X} {ts : List Token} {x : X} (r : Rule Y) → Spells a ts x → Spells (a ⊗ many r) ts (x, [])
then_none {a = a} {ts = ts} {x = x} r p = subst (λ (us : List Token). Spells (a ⊗ many r) us (x, [])) (append-nil ts) (then p (none r))

-- the value that is made
pub to : {X : Type 0} {r : Rule X} {ts : List Token} {x y : X} → Spells r ts x → x ≡ y → Spells r ts y
to {r = r} {ts = ts} p e = subst (λ (z : _). Spells r ts z) e p

-- any number, each of which is spelled
pub each : {X : Type 0} (r : Rule X) (f : X → List Token) (P : X → Type 0) → ((x : X) → P x → Spells r (f x) x) → (xs : List X) → Each P xs → Spells (many r) (listed_tokens f xs) xs
each r f P h [] all = none r
each r f P h (x ∷ xs) all = more (h x all.0) (each r f P h xs all.1)

-- ---- tokens

-- a word is itself
pub same_word_is : (w : Keyword) → is_word w (token.Word w) ≡ Some tt
same_word_is k.Package = refl
same_word_is _ = refl

-- a mark is itself
pub same_mark_is : (w : Mark) → is_mark w (token.Mark w) ≡ Some tt
same_mark_is m.Open = refl
same_mark_is _ = refl

-- a word
pub a_word : (w : Keyword) → Spells (word w) (token.Word w ∷ []) tt
unfolding word
a_word w = one (token.Word w) (same_word_is w)

-- a mark
pub a_mark : (w : Mark) → Spells (mark w) (token.Mark w ∷ []) tt
unfolding mark
a_mark w = one (token.Mark w) (same_mark_is w)

-- a name
pub a_name : (text : List ℕ) → Spells name (token.Name text ∷ []) text
unfolding name
a_name text = one (token.Name text) refl

-- ---- values

-- an expression
pub an_expression : (e : Expression) → CanBeExpression e → Spells expression (expression_tokens e) e
an_expression e h = record { is = h.is }

-- a value, or `default(..)`
pub a_given : (g : ParameterValue) → CanBeGiven g → Spells value_rule (given_tokens g) g
unfolding value_rule default_value
a_given (given.Fixed e) h = that default_value (mapped (an_expression e h))
a_given (given.Default e) h = this (made given.Fixed expression) (before (a_word k.Default) (before (a_mark m.LeftParen) (after (mapped (an_expression e h)) (a_mark m.RightParen))))

-- ---- properties

-- one name between parentheses
pub a_body : (text : List ℕ) → Spells in_parens (token.Mark m.LeftParen ∷ token.Name text ∷ token.Mark m.RightParen ∷ []) (token.Name text ∷ [])
unfolding in_parens
a_body text = before (a_mark m.LeftParen) (after inner (a_mark m.RightParen))
  where
    inner : Spells (balanced turn_of) (token.Name text ∷ []) (token.Name text ∷ [])
    inner = record { is = (refl, tt) }

-- `@unit` with the smallest unit says its dimension
pub unit_said : (d : Dimension) → effect_of names.Unit None (Some (token.Name (unit_text d) ∷ [])) ≡ effects.Unit d
unfolding unit_text unit_of time_unit rate_unit length_unit
unit_said dimension.Time = refl
unit_said dimension.Rate = refl
unit_said dimension.Length = refl

-- `@unit` with the smallest unit
pub a_unit : (d : Dimension) → Spells property (unit_tokens (Some d)) (effects.Unit d)
unfolding property property_name index body
a_unit d = to (before (a_mark m.At) (mapped (then unit_name (then (nothing bracketed) (some (a_body (unit_text d))))))) (unit_said d)
  where
    unit_name : Spells property_name (token.Name (codes "unit") ∷ []) names.Unit
    unit_name = one (token.Name (codes "unit")) refl

-- ---- the lines of a section

-- what the properties in front of the value say
abbrev pub effects_in : Option Dimension → List Effect
effects_in None = []
effects_in (Some d) = effects.Unit d ∷ []

-- the unit, where there is one
pub units : (unit : Option Dimension) → Spells (many property) (unit_tokens unit) (effects_in unit)
units None = none property
units (Some d) = only property (a_unit d)

-- the value, with no properties after it
abbrev pub valued_in : Option ParameterValue → Option Valued
valued_in None = None
valued_in (Some g) = Some (record { value = g; behind = [] })

-- `= ..`, where there is a value
pub a_valued : (g : Option ParameterValue) → IfThere CanBeGiven g → Spells (optional valued) (valued_tokens g) (valued_in g)
unfolding valued
a_valued None h = nothing valued
a_valued (Some g) h = some (mapped (then_none property (before (a_mark m.Equals) (a_given g h))))

-- unit and value
pub a_tail : (unit : Option Dimension) (g : Option ParameterValue) → IfThere CanBeGiven g → Spells tail (unit_tokens unit ++ valued_tokens g) (record { before = effects_in unit; valued = valued_in g })
unfolding tail
a_tail unit g h = mapped (then (units unit) (a_valued g h))

-- the value is the one that was given
pub value_same : (g : Option ParameterValue) → value_in (valued_in g) ≡ g
value_same None = refl
value_same (Some g) = refl

-- no unit is after the value
pub no_unit_behind : (g : Option ParameterValue) → unit_behind (valued_in g) ≡ None
no_unit_behind None = refl
no_unit_behind (Some g) = refl

-- the first unit is the one in front
pub unit_found : (unit : Option Dimension) (g : Option ParameterValue) → or_else (first_unit (effects_in unit)) (unit_behind (valued_in g)) ≡ unit
unit_found None g = no_unit_behind g
unit_found (Some d) g = refl

-- the unit is the one that was given
pub unit_same : (w : ParameterWord) (unit : Option Dimension) (g : Option ParameterValue) → CanBeUnit w unit → unit_in w (record { before = effects_in unit; valued = valued_in g }) ≡ unit
unit_same words.Bool unit g h = sym h
unit_same words.Int unit g h = unit_found unit g
unit_same words.Text unit g h = sym h
unit_same words.Double unit g h = unit_found unit g

-- a `double` has its unit
pub measured_is : (w : ParameterWord) (unit : Option Dimension) → CanBeUnit w unit → is_measured_word w unit ≡ true
measured_is words.Bool unit h = refl
measured_is words.Int unit h = refl
measured_is words.Text unit h = refl
measured_is words.Double unit h = h

-- the word of a parameter
pub a_parameter_word : (w : ParameterWord) → Spells parameter_word (token.Word (parameter_keyword w) ∷ []) w
unfolding parameter_word
a_parameter_word words.Bool = one (token.Word k.Bool) refl
a_parameter_word words.Int = one (token.Word k.Int) refl
a_parameter_word words.Text = one (token.Word k.Text) refl
a_parameter_word words.Double = one (token.Word k.Double) refl

-- no `volatile`
pub not_volatile : Spells volatile [] tt
unfolding volatile
not_volatile = mapped (nothing (word k.Volatile))

-- a declaration
pub a_declaration : (d : Declaration) → CanBeDeclaration d → Spells declaration (declaration_tokens d) d
unfolding declaration any_declaration
a_declaration d h =
    let unit = unit_same d.word d.unit d.value h.1 in
    let value = value_same d.value in
    checked (to (mapped (before not_volatile (then (a_parameter_word d.word) (then (a_name d.name) (a_tail d.unit d.value h.2))))) (λ i. record { name = d.name; word = d.word; unit = unit i; value = value i })) (measured_is d.word d.unit h.1)

-- an assignment
pub an_assignment : (a : Assignment) → CanBeAssignment a → Spells assignment (assignment_tokens a) a
unfolding assignment
an_assignment a h =
    let value = value_same a.value in
    to (mapped (then (a_name a.name) (a_tail None a.value h.1))) (λ i. record { name = a.name; value = value i })

-- ---- statistics

-- the name of a mode
pub a_mode_word : (w : Mode) → Spells mode_word (token.Name (mode_name w) ∷ []) w
unfolding mode_word
a_mode_word modes_are.Count = one (token.Name (codes "count")) refl
a_mode_word modes_are.Sum = one (token.Name (codes "sum")) refl
a_mode_word modes_are.Min = one (token.Name (codes "min")) refl
a_mode_word modes_are.Max = one (token.Name (codes "max")) refl
a_mode_word modes_are.Last = one (token.Name (codes "last")) refl
a_mode_word modes_are.Vector = one (token.Name (codes "vector")) refl

-- `?`, or nothing
pub a_question : (b : Bool) → Spells question (question_tokens b) b
unfolding question
a_question true = mapped (some (a_mark m.Question))
a_question false = mapped (nothing (mark m.Question))

-- a mode
pub a_mode : (r : RecordedMode) → Spells mode_rule (mode_tokens r) r
unfolding mode_rule
a_mode r = mapped (then (a_mode_word r.mode) (a_question r.optional))

-- a mode after a comma
pub a_next_mode : (r : RecordedMode) → Spells next_mode (next_mode_tokens r) r
unfolding next_mode
a_next_mode r = before (a_mark m.Comma) (a_mode r)

-- nothing is asked of any
pub any_of : {X : Type 0} (xs : List X) → Each (λ x. Unit {0}) xs
any_of [] = tt
any_of (x ∷ xs) = (tt, any_of xs)

-- modes
pub the_modes : (r : RecordedMode) (rs : List RecordedMode) → Spells modes (mode_tokens r ++ listed_tokens next_mode_tokens rs) (r ∷ rs)
unfolding modes
the_modes r rs = mapped (then (a_mode r) (each next_mode next_mode_tokens (λ r. Unit {0}) (λ r h. a_next_mode r) rs (any_of rs)))

-- `source`
pub source_key : Spells source_word (token.Name (codes "source") ∷ []) tt
unfolding source_word
source_key = one (token.Name (codes "source")) refl

-- `record`
pub record_key : Spells record_word (token.Name (codes "record") ∷ []) tt
unfolding record_word
record_key = one (token.Name (codes "record")) refl

-- `source = ..`
pub a_source : (text : List ℕ) → Spells part (token.Name (codes "source") ∷ token.Mark m.Equals ∷ token.Name text ∷ []) (Some (part_is.Source text))
unfolding part any_part source_part source_tail source_value
a_source text = some (this record_or_other (mapped (before source_key (some (this no_value (mapped (before (a_mark m.Equals) (a_name text))))))))

-- `; record = ..`
pub a_record : (r : RecordedMode) (rs : List RecordedMode) → Spells next_part (record_tokens (r ∷ rs)) (Some (part_is.Record (r ∷ rs)))
unfolding next_part part any_part record_or_other record_part record_tail record_value
a_record r rs = before (a_mark m.Semi) (some (that source_part (this other_part (mapped (before record_key (some (this no_value (mapped (before (a_mark m.Equals) (the_modes r rs))))))))))

-- the parts after the source
abbrev pub parts_in : List RecordedMode → List (Option Part)
parts_in [] = []
parts_in (r ∷ rs) = Some (part_is.Record (r ∷ rs)) ∷ []

-- the modes, where there are some
pub the_records : (rs : List RecordedMode) → Spells (many next_part) (record_tokens rs) (parts_in rs)
the_records [] = none next_part
the_records (r ∷ rs) = only next_part (a_record r rs)

-- source and modes in parentheses
pub a_statistic_body : (text : List ℕ) (rs : List RecordedMode) → Spells statistic_body (token.Mark m.LeftParen ∷ token.Name (codes "source") ∷ token.Mark m.Equals ∷ token.Name text ∷ (record_tokens rs ++ token.Mark m.RightParen ∷ [])) (said_in (Some (part_is.Source text) ∷ parts_in rs))
unfolding statistic_body
a_statistic_body text rs = before (a_mark m.LeftParen) (after (mapped (then (a_source text) (the_records rs))) (a_mark m.RightParen))

-- `[name]`
pub a_bracketed : (text : List ℕ) → Spells bracketed (token.Mark m.LeftBracket ∷ token.Name text ∷ token.Mark m.RightBracket ∷ []) text
unfolding bracketed
a_bracketed text = before (a_mark m.LeftBracket) (after (a_name text) (a_mark m.RightBracket))

-- `statistic`
pub statistic_key : Spells statistic_word (token.Name (codes "statistic") ∷ []) tt
unfolding statistic_word
statistic_key = one (token.Name (codes "statistic")) refl

-- the statistic is the one that was given
pub statistic_same : (text source : List ℕ) (rs : List RecordedMode) → statistic_line text (Some (said_in (Some (part_is.Source source) ∷ parts_in rs))) ≡ lines.Statistic (record { name = text; source = source; modes = rs })
statistic_same text source [] = refl
statistic_same text source (r ∷ rs) = refl

-- a statistic
pub a_statistic : (s : Statistic) → Spells property_line (statistic_tokens s) (lines.Statistic s)
unfolding property_line property_text statistic statistic_tail named_or_not indexed_statistic optional_body
a_statistic s = to (before (a_mark m.At) (this plain_line (before statistic_key (mapped (some (this unnamed_statistic (mapped (then (a_bracketed s.name) (some (a_statistic_body s.source s.modes)))))))))) (statistic_same s.name s.source s.modes)

-- `@class(..)`
pub a_class : (text : List ℕ) → Spells property_line (line_tokens (lines.Class text)) (lines.Class text)
unfolding property_line property_text plain_line plain_name index body
a_class text = before (a_mark m.At) (that statistic (mapped (mapped (then class_name (then (nothing bracketed) (some (a_body text)))))))
  where
    class_name : Spells plain_name (token.Name (codes "class") ∷ []) names.Class
    class_name = one (token.Name (codes "class")) refl

-- `@ignored`
pub an_ignored : Spells property_line (line_tokens lines.Ignored) lines.Ignored
unfolding property_line property_text plain_line plain_name index body
an_ignored = before (a_mark m.At) (that statistic (mapped (mapped (then other_name (then (nothing bracketed) (nothing in_parens))))))
  where
    other_name : Spells plain_name (token.Name (codes "ignored") ∷ []) names.Other
    other_name = one (token.Name (codes "ignored")) refl

-- a line
pub a_line : (line : SectionLine) → CanBeLine line → Spells any_line (line_tokens line) line
unfolding any_line assigned_or_said
a_line (lines.Declaration d) h = this assigned_or_said (mapped (a_declaration d h))
a_line (lines.Assignment a) h = that (made lines.Declaration declaration) (this property_line (mapped (an_assignment a h)))
a_line (lines.Statistic s) h = that (made lines.Declaration declaration) (that (made lines.Assignment assignment) (a_statistic s))
a_line (lines.Class text) h = that (made lines.Declaration declaration) (that (made lines.Assignment assignment) (a_class text))
a_line lines.Ignored h = that (made lines.Declaration declaration) (that (made lines.Assignment assignment) an_ignored)

-- a line with its `;`
pub a_section_line : (line : SectionLine) → CanBeLine line → Spells section_line (section_line_tokens line) line
unfolding section_line
a_section_line line h = after (a_line line h) (a_mark m.Semi)

-- `parameters:`
pub a_heading : Spells heading (token.Word k.Parameters ∷ token.Mark m.Colon ∷ []) tt
unfolding heading
a_heading = mapped (some (before (a_word k.Parameters) (a_mark m.Colon)))

-- the lines of a section
pub a_section : (ls : List SectionLine) → Each CanBeLine ls → Spells section (section_tokens ls) ls
unfolding section
a_section ls h = before a_heading (each section_line section_line_tokens CanBeLine a_section_line ls h)

-- ---- types

-- a name, as a dotted one of one part
pub a_dotted : (text : List ℕ) → Spells dotted (token.Name text ∷ []) text
unfolding dotted
a_dotted text = mapped (then_none (mark m.Dot ⊗ name) (a_name text))

-- `@ignored` in a body
pub an_ignored_property : Spells ignored_property (line_tokens lines.Ignored) lines.Ignored
unfolding ignored_property property property_name index body
an_ignored_property = mapped (before (a_mark m.At) (mapped (then other_name (then (nothing bracketed) (nothing in_parens)))))
  where
    other_name : Spells property_name (token.Name (codes "ignored") ∷ []) names.Other
    other_name = one (token.Name (codes "ignored")) refl

-- a line of a body
pub a_body_line : (line : SectionLine) → CanBeBodyLine line → Spells any_body_line (line_tokens line) line
unfolding any_body_line assigned_or_ignored
a_body_line (lines.Declaration d) h = this assigned_or_ignored (mapped (a_declaration d h))
a_body_line (lines.Assignment a) h = that (made lines.Declaration declaration) (this ignored_property (mapped (an_assignment a h)))
a_body_line (lines.Statistic s) h = absurd h
a_body_line (lines.Class text) h = absurd h
a_body_line lines.Ignored h = that (made lines.Declaration declaration) (that (made lines.Assignment assignment) an_ignored_property)

-- a line of a body with its `;`
pub a_whole_body_line : (line : SectionLine) → CanBeBodyLine line → Spells body_line (section_line_tokens line) line
unfolding body_line
a_whole_body_line line h = after (a_body_line line h) (a_mark m.Semi)

-- the lines of a body
pub a_body_section : (ls : List SectionLine) → Each CanBeBodyLine ls → Spells body_section (section_tokens ls) ls
unfolding body_section
a_body_section ls h = before a_heading (each body_line section_line_tokens CanBeBodyLine a_whole_body_line ls h)

-- the direction of a gate
pub a_direction : (d : GateDirection) → Spells direction (token.Word (direction_keyword d) ∷ []) d
unfolding direction
a_direction directions.Input = one (token.Word k.Input) refl
a_direction directions.Output = one (token.Word k.Output) refl
a_direction directions.Inout = one (token.Word k.Inout) refl

-- the size of a vector, after its `[`
pub a_size_value : (e : Expression) → CanBeExpression e → Spells closed_expression (expression_tokens e ++ token.Mark m.RightBracket ∷ []) e
unfolding closed_expression
a_size_value e h = after (an_expression e h) (a_mark m.RightBracket)

-- the size of a gate
pub a_size : (size : GateSize) → CanBeSize size → Spells gate_size (size_tokens size) size
unfolding gate_size vector_size size_tail open_size
a_size sizes.Single h = mapped (nothing vector_size)
a_size sizes.Open h = mapped (some (before (a_mark m.LeftBracket) (this (made sizes.Sized closed_expression) (mapped (a_mark m.RightBracket)))))
a_size (sizes.Sized e) h = mapped (some (before (a_mark m.LeftBracket) (that open_size (mapped (a_size_value e h)))))

-- the size that a refinement says
pub a_refined_size : (size : Option Expression) → IfThere CanBeExpression size → Spells optional_brackets (refined_size_tokens size) size
unfolding optional_brackets bracketed_expression
a_refined_size None h = nothing bracketed_expression
a_refined_size (Some e) h = some (before (a_mark m.LeftBracket) (a_size_value e h))

-- `@loose`
pub a_loose : Spells property (loose_tokens true) effects.Loose
unfolding property property_name index body
a_loose = before (a_mark m.At) (mapped (then loose_name (then (nothing bracketed) (nothing in_parens))))
  where
    loose_name : Spells property_name (token.Name (codes "loose") ∷ []) names.Loose
    loose_name = one (token.Name (codes "loose")) refl

-- what the properties of a gate say
abbrev pub loose_effects : Bool → List Effect
loose_effects true = effects.Loose ∷ []
loose_effects false = []

-- `@loose`, where the gate may stay unconnected
pub the_loose : (b : Bool) → Spells (many property) (loose_tokens b) (loose_effects b)
the_loose true = only property a_loose
the_loose false = none property

-- they say what was given
pub loose_same : (b : Bool) → says_loose (loose_effects b) ≡ b
loose_same true = refl
loose_same false = refl

-- a gate
pub a_gate : (g : GateLine) → CanBeGate g → Spells any_gate (gate_tokens g) g
unfolding any_gate declared_gate refined_gate
a_gate (gate_lines.Declaration g) h =
    let loose = loose_same g.loose in
    this refined_gate (to (mapped (then (a_direction g.direction) (then (a_name g.name) (then (a_size g.size h.1) (the_loose g.loose))))) (λ i. gate_lines.Declaration (record { name = g.name; direction = g.direction; size = g.size; loose = loose i })))
a_gate (gate_lines.Refinement g) h =
    let loose = loose_same g.loose in
    that declared_gate (to (mapped (then (a_name g.name) (then (a_refined_size g.size h.1) (the_loose g.loose)))) (λ i. gate_lines.Refinement (record { name = g.name; size = g.size; loose = loose i })))

-- a gate with its `;`
pub a_gate_line : (g : GateLine) → CanBeGate g → Spells gate_line (gate_line_tokens g) g
unfolding gate_line
a_gate_line g h = after (a_gate g h) (a_mark m.Semi)

-- the gates
pub the_gates : (gs : List GateLine) → Each CanBeGate gs → Spells gates (gates_tokens gs) gs
unfolding gates gate_section
the_gates [] h = mapped (nothing gate_section)
the_gates (g ∷ gs) h = mapped (some (before (a_word k.Gates) (before (a_mark m.Colon) (each gate_line gate_line_tokens CanBeGate a_gate_line (g ∷ gs) h))))

-- no `;` after a body
pub no_semi : Spells optional_semi [] tt
unfolding optional_semi
no_semi = mapped (nothing (mark m.Semi))

-- the standard tokens of an expression spell it
pub expression_is : (e : Expression) → CanBeExpression e → expression.Is (expression_tokens e) e
expression_is e h = (an_expression e h).is
