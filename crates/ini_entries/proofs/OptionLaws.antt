-- Laws of what options say.
use Rattle.std.proofs.Common.{◌≡◌, ℕ, Bool, true, false, cond, ◌||◌, List, [], ◌∷◌, ◌++◌, Option, Some, None, refl, sym, ap, subst, ◌∙◌, append_assoc}
use Rattle.std.specs.Prelude.{option_map}
use Rattle.std.specs.List.{list_all}
use Rattle.std.specs.Str.{bytes_eq}
use Rattle.ned_tokens.specs.Lines.{tokens_of}
use Rattle.ned_tokens.proofs.Whole as whole
use Rattle.ned_trees.specs.declared.expressions.Expression.{Expression}
use Rattle.ned_expressions.proofs.ExpressionLaws.{expression-lawful}
use Rattle.ned_expressions.specs.ExpressionText.{IsExpressionText}
use Rattle.ned_expressions.specs.Grammar as grammar
use Rattle.ini_trees.specs.declared.entry.ModeItem.{ModeItem}
use Rattle.ini_trees.specs.declared.entry.ObjectOption.{ObjectOption}
use Rattle.ini_trees.specs.declared.entry.ObjectOption.TheVariants as object
use Rattle.ini_entries.specs.Meaning.{Tells}
use Rattle.ini_entries.specs.Names.{is_config_name}
use Rattle.ini_entries.specs.Options.{IsObjectOption, config_names, mode_item, mode_items, recording_words, time_literal, truth_word, word_modes}
use Rattle.ini_entries.specs.Texts.{Bytes, is_among, items_of}

modes_not_recording : (name : Bytes) → name ≡ word_modes → is_among name recording_words ≡ true → ⊥
unfolding is_among
modes_not_recording name e h = let bad : is_among word_modes recording_words ≡ true = subst (λ (n : Bytes). is_among n recording_words ≡ true) e h in absurd cc

modes_not_other : (name : Bytes) → name ≡ word_modes → is_among name (word_modes ∷ recording_words) ≡ false → ⊥
unfolding is_among
modes_not_other name e h = let bad : is_among word_modes (word_modes ∷ recording_words) ≡ false = subst (λ (n : Bytes). is_among n (word_modes ∷ recording_words) ≡ false) e h in absurd cc

recording_not_other : (name : Bytes) → is_among name recording_words ≡ true → is_among name (word_modes ∷ recording_words) ≡ false → ⊥
unfolding is_among
recording_not_other name h k = go (is_among name recording_words) (bytes_eq name word_modes) h k
  where
    go : (x y : Bool) → x ≡ true → (y || x) ≡ false → ⊥
    go true true p q = absurd cc
    go true false p q = absurd cc
    go false y p q = absurd cc

pub truth_same : (bytes : Bytes) (a b : Bool) → bytes ≡ truth_word a → bytes ≡ truth_word b → a ≡ b
truth_same bytes true true p q = refl
truth_same bytes false false p q = refl
truth_same bytes true false p q = let bad : truth_word true ≡ truth_word false = sym p ∙ q in absurd cc
truth_same bytes false true p q = let bad : truth_word true ≡ truth_word false = sym q ∙ p in absurd cc

items_same : (a b : List ModeItem) → Some a ≡ Some b → a ≡ b
items_same a b e = cc

-- a per-object option says one thing at most
pub option_same : (name bytes : Bytes) (x y : ObjectOption) → IsObjectOption name bytes x → IsObjectOption name bytes y → x ≡ y
option_same name bytes (object.Modes a) (object.Modes b) p q = ap object.Modes (items_same a b (sym p.1 ∙ q.1))
option_same name bytes (object.Modes a) (object.Recording b) p q = absurd (modes_not_recording name p.0 q.0)
option_same name bytes (object.Modes a) object.Other p q = absurd (modes_not_other name p.0 q)
option_same name bytes (object.Recording a) (object.Modes b) p q = absurd (modes_not_recording name q.0 p.0)
option_same name bytes (object.Recording a) (object.Recording b) p q = ap object.Recording (truth_same bytes a b p.1 q.1)
option_same name bytes (object.Recording a) object.Other p q = absurd (recording_not_other name p.0 q)
option_same name bytes object.Other (object.Modes b) p q = absurd (modes_not_other name q.0 p)
option_same name bytes object.Other (object.Recording b) p q = absurd (recording_not_other name q.0 p)
option_same name bytes object.Other object.Other p q = refl

-- an option of whether something is recorded, whose value is no truth, says nothing
pub no_recording : (name bytes : Bytes) → is_among name recording_words ≡ true → ((on : Bool) → bytes ≡ truth_word on → ⊥) → (o : ObjectOption) → IsObjectOption name bytes o → ⊥
no_recording name bytes h none (object.Modes a) is = modes_not_recording name is.0 h
no_recording name bytes h none (object.Recording on) is = none on is.1
no_recording name bytes h none object.Other is = recording_not_other name h is

-- a list of recording modes that is none says nothing
pub no_modes : (bytes : Bytes) → mode_items (items_of bytes) ≡ None → (o : ObjectOption) → IsObjectOption word_modes bytes o → ⊥
no_modes bytes none (object.Modes a) is = let some = is.1 in absurd cc
no_modes bytes none (object.Recording on) is = modes_not_recording word_modes refl is.0
no_modes bytes none object.Other is = modes_not_other word_modes refl is

-- what is found of an option is the only thing it says
pub only_option : (name bytes : Bytes) (x : ObjectOption) → IsObjectOption name bytes x → Tells (IsObjectOption name bytes) (Some x)
only_option name bytes x is = (is, λ y other. option_same name bytes y x other is)

pub other_option : (name bytes : Bytes) → bytes_eq name word_modes ≡ false → is_among name recording_words ≡ false → Tells (IsObjectOption name bytes) (Some object.Other)
unfolding is_among
other_option name bytes a b = only_option name bytes object.Other (rw a b)

-- a text is at most one expression
pub one_expression : (text : Bytes) (e f : Expression) → IsExpressionText text e → IsExpressionText text f → e ≡ f
one_expression text e f p q = whole.one_meaning grammar.expression expression-lawful (tokens_of text) e f p.spells q.spells

-- a text is the time of one limit at most
pub limit_same : (bytes : Bytes) (a b : ℕ) → IsExpressionText bytes (time_literal a) → IsExpressionText bytes (time_literal b) → a ≡ b
limit_same bytes a b p q = let e : time_literal a ≡ time_literal b = one_expression bytes (time_literal a) (time_literal b) p q in cc

-- ---- lists

-- the first items, and those that follow, where there are such
abbrev pub joined : {X : Type 0} → List X → Option (List X) → Option (List X)
joined front None = None
joined front (Some rest) = Some (front ++ rest)

joined_more : {X : Type 0} (front : List X) (x : X) (rest : Option (List X)) → joined front (option_map (λ more. x ∷ more) rest) ≡ joined (front ++ x ∷ []) rest
joined_more front x None = refl
joined_more front x (Some rest) = ap Some (sym (append_assoc front (x ∷ []) rest))

pub name_step : (front : List Bytes) (name : Bytes) (names : List Bytes) → is_config_name name ≡ true → joined front (config_names (name ∷ names)) ≡ joined (front ++ name ∷ []) (config_names names)
name_step front name names h = rw h (go (list_all is_config_name names))
  where
    go : (t : Bool) → joined front (cond t (Some (name ∷ names)) None) ≡ joined (front ++ name ∷ []) (cond t (Some names) None)
    go true = ap Some (sym (append_assoc front (name ∷ []) names))
    go false = refl

pub name_stops : (front : List Bytes) (name : Bytes) (names : List Bytes) → is_config_name name ≡ false → joined front (config_names (name ∷ names)) ≡ None
name_stops front name names h = rw h refl

pub item_step : (front : List ModeItem) (text : Bytes) (texts : List Bytes) (item : ModeItem) → mode_item text ≡ Some item → joined front (mode_items (text ∷ texts)) ≡ joined (front ++ item ∷ []) (mode_items texts)
item_step front text texts item h = rw h (joined_more front item (mode_items texts))

pub item_stops : (front : List ModeItem) (text : Bytes) (texts : List Bytes) → mode_item text ≡ None → joined front (mode_items (text ∷ texts)) ≡ None
item_stops front text texts h = rw h refl

pub joined_none : {X : Type 0} (rest : Option (List X)) → rest ≡ joined [] rest
joined_none None = refl
joined_none (Some rest) = refl

-- the names of a list are found as they are
pub names_found : (names found : List Bytes) → config_names names ≡ Some found → (found ≡ names) × (list_all is_config_name found ≡ true)
names_found names found e = go (list_all is_config_name names) refl e
  where
    go : (t : Bool) → list_all is_config_name names ≡ t → cond t (Some names) None ≡ Some found → (found ≡ names) × (list_all is_config_name found ≡ true)
    go true h e = let same : names ≡ found = cc in (sym same, rw (sym same) h)
    go false h e = absurd cc
