-- Laws of what entries say.
use Rattle.std.proofs.Common.{◌≡◌, ◌≢◌, ℕ, eqb, Bool, true, false, not, ◌&&◌, ◌||◌, List, Option, Some, None, Err, refl, sym, ap, subst, ◌∙◌}
use Rattle.std.specs.Prelude.{IsSome, if◌then◌else◌, is_some}
use Rattle.std.specs.List.{list_all}
use Rattle.std.specs.Str.{bytes_eq, chars}
use Rattle.std.proofs.lemmas.Bool.{eqb-false, false≢true, true≢false}
use Rattle.std.proofs.lemmas.Slice.Eq.{bytes_eq-Decides}
use Rattle.ini_pattern.specs.declared.piece.Piece.{Piece}
use Rattle.ini_pattern.specs.PatternOf.{pattern_of}
use Rattle.ned_expressions.specs.ExpressionText.{IsExpressionText}
use Rattle.ini_trees.specs.declared.entry.EntryMeaning.{EntryMeaning}
use Rattle.ini_trees.specs.declared.entry.EntryMeaning.TheVariants as meaning
use Rattle.ini_trees.specs.declared.entry.EntryValue.{EntryValue}
use Rattle.ini_trees.specs.declared.entry.EntryValue.TheVariants as value
use Rattle.ini_trees.specs.declared.entry.ObjectEntry.{ObjectEntry}
use Rattle.ini_trees.specs.declared.entry.ObjectOption.{ObjectOption}
use Rattle.ini_trees.specs.declared.entry.ParameterEntry.{ParameterEntry}
use Rattle.ini_entries.specs.Keys.{KeyKind, OptionKey, ObjectKey, TypeKey, ParameterKey, kind_of, last_part_from, has_hyphen_from, is_closed_from}
use Rattle.ini_entries.specs.Meaning.{Finds, FindsMeaning, IsEntryMeaning, IsEntryValue, IsPatternAndValue, Tells}
use Rattle.ini_entries.specs.Reasons.{entry_reason, kind_reason, object_reason, option_reason, pattern_reason}
use Rattle.ini_entries.specs.declared.reason.Reason.{Reason}
use Rattle.ini_entries.specs.declared.reason.Reason.TheVariants as reason
use Rattle.ini_entries.specs.declared.reason.Unread.{Unread}
use Rattle.ini_entries.specs.declared.reason.Unread.TheVariants as unread
use Rattle.ini_entries.specs.Names.{is_config_name, is_dotted_name}
use Rattle.ini_entries.specs.Options.{IsObjectOption, config_names, is_only_value, is_other_option, time_literal, words_left_out, words_with_effect, word_network, word_extends, word_time_limit}
use Rattle.ini_entries.specs.Texts.{Bytes, is_among, items_of}
use Rattle.ini_entries.proofs.OptionLaws.{one_expression, option_same, limit_same}

-- ---- which meanings a key can have

-- a number for each kind of meaning
abbrev number : EntryMeaning → ℕ
number (meaning.Network name) = 0
number (meaning.Extends names) = 1
number (meaning.TimeLimit ps) = 2
number meaning.Other = 3
number (meaning.Object o) = 4
number (meaning.Type p) = 5
number (meaning.Parameter p) = 6

-- two numbers of kinds that differ
apart : {a b : ℕ} → eqb a b ≡ false → a ≡ b → ⊥
apart {a} {b} differ e = eqb-false a b differ e

abbrev kind_number : KeyKind → ℕ
kind_number OptionKey = 3
kind_number (ObjectKey name) = 4
kind_number TypeKey = 5
kind_number ParameterKey = 6

abbrev key_number : Bytes → ℕ
key_number key = if bytes_eq key word_network then 0 else (if bytes_eq key word_extends then 1 else (if bytes_eq key word_time_limit then 2 else kind_number (kind_of key)))

-- words with effect are no keys of other kinds
kinds : (key : Bytes) (kind : KeyKind) → kind_of key ≡ kind → kind ≢ OptionKey → (bytes_eq key word_network ≡ false) × (bytes_eq key word_extends ≡ false) × (bytes_eq key word_time_limit ≡ false)
unfolding last_part_from has_hyphen_from is_closed_from
kinds key kind e other = (not_it word_network refl, not_it word_extends refl, not_it word_time_limit refl)
  where
    not_it : (word : Bytes) → kind_of word ≡ OptionKey → bytes_eq key word ≡ false
    not_it word h = go (bytes_eq key word) refl
      where
        go : (t : Bool) → bytes_eq key word ≡ t → t ≡ false
        go true b = absurd (other (sym e ∙ ap kind_of ((bytes_eq-Decides key word).0 b) ∙ h))
        go false b = refl

effects : (key bytes : Bytes) → is_other_option key bytes ≡ true → (bytes_eq key word_network ≡ false) × (bytes_eq key word_extends ≡ false) × (bytes_eq key word_time_limit ≡ false)
unfolding is_other_option is_among
effects key bytes h = go (bytes_eq key word_network) (bytes_eq key word_extends) (bytes_eq key word_time_limit) (not (is_among key words_left_out) && is_only_value key bytes) h
  where
    go : (x y z t : Bool) → (not (x || (y || (z || false))) && t) ≡ true → (x ≡ false) × (y ≡ false) × (z ≡ false)
    go true y z t h = absurd (false≢true h)
    go false true z t h = absurd (false≢true h)
    go false false true t h = absurd (false≢true h)
    go false false false t h = (refl, refl, refl)

pub numbered : (key bytes : Bytes) (m : EntryMeaning) → IsEntryMeaning key bytes m → number m ≡ key_number key
numbered key bytes (meaning.Network name) h = rw h.0 refl
numbered key bytes (meaning.Extends names) h = rw h.0 refl
numbered key bytes (meaning.TimeLimit ps) h = rw h.0 refl
numbered key bytes meaning.Other h = let e = effects key bytes h.1 in rw e.0 (rw e.1 (rw e.2 (rw h.0 refl)))
numbered key bytes (meaning.Object o) h = let e = kinds key (ObjectKey o.option) h.0 (λ x. absurd cc) in rw e.0 (rw e.1 (rw e.2 (rw h.0 refl)))
numbered key bytes (meaning.Type p) h = let e = kinds key TypeKey h.0 (λ x. absurd cc) in rw e.0 (rw e.1 (rw e.2 (rw h.0 refl)))
numbered key bytes (meaning.Parameter p) h = let e = kinds key ParameterKey h.0 (λ x. absurd cc) in rw e.0 (rw e.1 (rw e.2 (rw h.0 refl)))

-- ---- meanings of one kind

pub value_same : (text : Bytes) (v w : EntryValue) → IsEntryValue text v → IsEntryValue text w → v ≡ w
value_same text value.Default value.Default p q = refl
value_same text value.Default (value.Given f) p q = absurd (q.0 p)
value_same text (value.Given e) value.Default p q = absurd (p.0 q)
value_same text (value.Given e) (value.Given f) p q = ap value.Given (one_expression text e f p.1 q.1)

pattern_same : (x : Option (List Piece)) (p q : List Piece) → x ≡ Some p → x ≡ Some q → p ≡ q
pattern_same x p q e f = cc

name_same : (x : KeyKind) (a b : Bytes) → x ≡ ObjectKey a → x ≡ ObjectKey b → a ≡ b
name_same x a b e f = cc

pub entry_same : (key text : Bytes) (a b : ParameterEntry) → IsPatternAndValue key text a → IsPatternAndValue key text b → a ≡ b
entry_same key text a b p q = made a.pattern b.pattern a.value b.value (pattern_same (pattern_of (chars key)) a.pattern b.pattern p.0 q.0) (value_same text a.value b.value p.1 q.1)
  where
    made : (k l : List Piece) (v w : EntryValue) → k ≡ l → v ≡ w → ◌≡◌ {A = ParameterEntry} (record { pattern = k; value = v }) (record { pattern = l; value = w })
    made k l v w p q = cc

abbrev IsObject : Bytes → Bytes → ObjectEntry → Type 0
IsObject key text o = (kind_of key ≡ ObjectKey o.option) × (pattern_of (chars key) ≡ Some o.pattern) × IsObjectOption o.option text o.says

object_same : (key text : Bytes) (a b : ObjectEntry) → IsObject key text a → IsObject key text b → a ≡ b
object_same key text a b p q =
    let names : a.option ≡ b.option = name_same (kind_of key) a.option b.option p.0 q.0 in
    let says : IsObjectOption b.option text a.says = subst (λ (n : Bytes). IsObjectOption n text a.says) names p.2 in
    made a.pattern b.pattern a.option b.option a.says b.says (pattern_same (pattern_of (chars key)) a.pattern b.pattern p.1 q.1) names (option_same b.option text a.says b.says says q.2)
  where
    made : (k l : List Piece) (v w : Bytes) (s t : ObjectOption) → k ≡ l → v ≡ w → s ≡ t → ◌≡◌ {A = ObjectEntry} (record { pattern = k; option = v; says = s }) (record { pattern = l; option = w; says = t })
    made k l v w s t p q r = cc

-- ---- one meaning

-- two meanings of one number that the same entry has
same_of : (key text : Bytes) (m n : EntryMeaning) → number m ≡ number n → IsEntryMeaning key text m → IsEntryMeaning key text n → m ≡ n
same_of key text (meaning.Network a) (meaning.Network b) e p q = ap meaning.Network (p.1 ∙ sym q.1)
same_of key text (meaning.Network a) (meaning.Extends b) e p q = absurd (apart refl e)
same_of key text (meaning.Network a) (meaning.TimeLimit b) e p q = absurd (apart refl e)
same_of key text (meaning.Network a) meaning.Other e p q = absurd (apart refl e)
same_of key text (meaning.Network a) (meaning.Object b) e p q = absurd (apart refl e)
same_of key text (meaning.Network a) (meaning.Type b) e p q = absurd (apart refl e)
same_of key text (meaning.Network a) (meaning.Parameter b) e p q = absurd (apart refl e)
same_of key text (meaning.Extends a) (meaning.Network b) e p q = absurd (apart refl e)
same_of key text (meaning.Extends a) (meaning.Extends b) e p q = ap meaning.Extends (p.1 ∙ sym q.1)
same_of key text (meaning.Extends a) (meaning.TimeLimit b) e p q = absurd (apart refl e)
same_of key text (meaning.Extends a) meaning.Other e p q = absurd (apart refl e)
same_of key text (meaning.Extends a) (meaning.Object b) e p q = absurd (apart refl e)
same_of key text (meaning.Extends a) (meaning.Type b) e p q = absurd (apart refl e)
same_of key text (meaning.Extends a) (meaning.Parameter b) e p q = absurd (apart refl e)
same_of key text (meaning.TimeLimit a) (meaning.Network b) e p q = absurd (apart refl e)
same_of key text (meaning.TimeLimit a) (meaning.Extends b) e p q = absurd (apart refl e)
same_of key text (meaning.TimeLimit a) (meaning.TimeLimit b) e p q = ap meaning.TimeLimit (limit_same text a b p.1 q.1)
same_of key text (meaning.TimeLimit a) meaning.Other e p q = absurd (apart refl e)
same_of key text (meaning.TimeLimit a) (meaning.Object b) e p q = absurd (apart refl e)
same_of key text (meaning.TimeLimit a) (meaning.Type b) e p q = absurd (apart refl e)
same_of key text (meaning.TimeLimit a) (meaning.Parameter b) e p q = absurd (apart refl e)
same_of key text meaning.Other (meaning.Network b) e p q = absurd (apart refl e)
same_of key text meaning.Other (meaning.Extends b) e p q = absurd (apart refl e)
same_of key text meaning.Other (meaning.TimeLimit b) e p q = absurd (apart refl e)
same_of key text meaning.Other meaning.Other e p q = refl
same_of key text meaning.Other (meaning.Object b) e p q = absurd (apart refl e)
same_of key text meaning.Other (meaning.Type b) e p q = absurd (apart refl e)
same_of key text meaning.Other (meaning.Parameter b) e p q = absurd (apart refl e)
same_of key text (meaning.Object a) (meaning.Network b) e p q = absurd (apart refl e)
same_of key text (meaning.Object a) (meaning.Extends b) e p q = absurd (apart refl e)
same_of key text (meaning.Object a) (meaning.TimeLimit b) e p q = absurd (apart refl e)
same_of key text (meaning.Object a) meaning.Other e p q = absurd (apart refl e)
same_of key text (meaning.Object a) (meaning.Object b) e p q = ap meaning.Object (object_same key text a b p q)
same_of key text (meaning.Object a) (meaning.Type b) e p q = absurd (apart refl e)
same_of key text (meaning.Object a) (meaning.Parameter b) e p q = absurd (apart refl e)
same_of key text (meaning.Type a) (meaning.Network b) e p q = absurd (apart refl e)
same_of key text (meaning.Type a) (meaning.Extends b) e p q = absurd (apart refl e)
same_of key text (meaning.Type a) (meaning.TimeLimit b) e p q = absurd (apart refl e)
same_of key text (meaning.Type a) meaning.Other e p q = absurd (apart refl e)
same_of key text (meaning.Type a) (meaning.Object b) e p q = absurd (apart refl e)
same_of key text (meaning.Type a) (meaning.Type b) e p q = ap meaning.Type (entry_same key text a b p.1 q.1)
same_of key text (meaning.Type a) (meaning.Parameter b) e p q = absurd (apart refl e)
same_of key text (meaning.Parameter a) (meaning.Network b) e p q = absurd (apart refl e)
same_of key text (meaning.Parameter a) (meaning.Extends b) e p q = absurd (apart refl e)
same_of key text (meaning.Parameter a) (meaning.TimeLimit b) e p q = absurd (apart refl e)
same_of key text (meaning.Parameter a) meaning.Other e p q = absurd (apart refl e)
same_of key text (meaning.Parameter a) (meaning.Object b) e p q = absurd (apart refl e)
same_of key text (meaning.Parameter a) (meaning.Type b) e p q = absurd (apart refl e)
same_of key text (meaning.Parameter a) (meaning.Parameter b) e p q = ap meaning.Parameter (entry_same key text a b p.1 q.1)

pub meaning_same : (key text : Bytes) (m n : EntryMeaning) → IsEntryMeaning key text m → IsEntryMeaning key text n → m ≡ n
meaning_same key text m n p q = same_of key text m n (numbered key text m p ∙ sym (numbered key text n q)) p q

-- ---- no meaning

-- the number of a key that is no option with effect
kind_tells : (key : Bytes) (kind : KeyKind) → kind_of key ≡ kind → (bytes_eq key word_network ≡ false) × (bytes_eq key word_extends ≡ false) × (bytes_eq key word_time_limit ≡ false) → key_number key ≡ kind_number kind
kind_tells key kind h e = rw e.0 (rw e.1 (rw e.2 (rw h refl)))

without_effect : (key : Bytes) → is_among key words_with_effect ≡ false → (bytes_eq key word_network ≡ false) × (bytes_eq key word_extends ≡ false) × (bytes_eq key word_time_limit ≡ false)
unfolding is_among
without_effect key h = go (bytes_eq key word_network) (bytes_eq key word_extends) (bytes_eq key word_time_limit) h
  where
    go : (x y z : Bool) → (x || (y || (z || false))) ≡ false → (x ≡ false) × (y ≡ false) × (z ≡ false)
    go true y z h = absurd (true≢false h)
    go false true z h = absurd (true≢false h)
    go false false true h = absurd (true≢false h)
    go false false false h = (refl, refl, refl)

-- such an entry says nothing
no_network_by : (text : Bytes) → is_dotted_name text ≡ false → (m : EntryMeaning) → number m ≡ 0 → IsEntryMeaning word_network text m → ⊥
no_network_by text none (meaning.Network a) e is = let good = is.2 in absurd cc
no_network_by text none (meaning.Extends a) e is = absurd (apart refl e)
no_network_by text none (meaning.TimeLimit a) e is = absurd (apart refl e)
no_network_by text none meaning.Other e is = absurd (apart refl e)
no_network_by text none (meaning.Object a) e is = absurd (apart refl e)
no_network_by text none (meaning.Type a) e is = absurd (apart refl e)
no_network_by text none (meaning.Parameter a) e is = absurd (apart refl e)

pub no_network : (text : Bytes) → is_dotted_name text ≡ false → (m : EntryMeaning) → IsEntryMeaning word_network text m → ⊥
no_network text none m is = no_network_by text none m (numbered word_network text m is) is

not_names : (names said : List Bytes) → config_names names ≡ None → said ≡ names → list_all is_config_name said ≡ true → ⊥
not_names names said none e h = let good : list_all is_config_name names ≡ true = subst (λ (l : List Bytes). list_all is_config_name l ≡ true) e h in let found : config_names names ≡ Some names = rw good refl in absurd cc

-- such an entry says nothing
no_extends_by : (text : Bytes) → config_names (items_of text) ≡ None → (m : EntryMeaning) → number m ≡ 1 → IsEntryMeaning word_extends text m → ⊥
no_extends_by text none (meaning.Network a) e is = absurd (apart refl e)
no_extends_by text none (meaning.Extends a) e is = not_names (items_of text) a none is.1 is.2
no_extends_by text none (meaning.TimeLimit a) e is = absurd (apart refl e)
no_extends_by text none meaning.Other e is = absurd (apart refl e)
no_extends_by text none (meaning.Object a) e is = absurd (apart refl e)
no_extends_by text none (meaning.Type a) e is = absurd (apart refl e)
no_extends_by text none (meaning.Parameter a) e is = absurd (apart refl e)

pub no_extends : (text : Bytes) → config_names (items_of text) ≡ None → (m : EntryMeaning) → IsEntryMeaning word_extends text m → ⊥
no_extends text none m is = no_extends_by text none m (numbered word_extends text m is) is

-- such an entry says nothing
no_limit_by : (text : Bytes) → ((ps : ℕ) → IsExpressionText text (time_literal ps) → ⊥) → (m : EntryMeaning) → number m ≡ 2 → IsEntryMeaning word_time_limit text m → ⊥
no_limit_by text none (meaning.Network a) e is = absurd (apart refl e)
no_limit_by text none (meaning.Extends a) e is = absurd (apart refl e)
no_limit_by text none (meaning.TimeLimit a) e is = none a is.1
no_limit_by text none meaning.Other e is = absurd (apart refl e)
no_limit_by text none (meaning.Object a) e is = absurd (apart refl e)
no_limit_by text none (meaning.Type a) e is = absurd (apart refl e)
no_limit_by text none (meaning.Parameter a) e is = absurd (apart refl e)

pub no_limit : (text : Bytes) → ((ps : ℕ) → IsExpressionText text (time_literal ps) → ⊥) → (m : EntryMeaning) → IsEntryMeaning word_time_limit text m → ⊥
no_limit text none m is = no_limit_by text none m (numbered word_time_limit text m is) is

-- such an entry says nothing
no_other_by : (key text : Bytes) → kind_of key ≡ OptionKey → is_among key words_with_effect ≡ false → (is_other_option key text ≡ true → IsSome (pattern_of (chars key)) → ⊥) → (m : EntryMeaning) → number m ≡ 3 → IsEntryMeaning key text m → ⊥
no_other_by key text kind plain none (meaning.Network a) e is = absurd (apart refl e)
no_other_by key text kind plain none (meaning.Extends a) e is = absurd (apart refl e)
no_other_by key text kind plain none (meaning.TimeLimit a) e is = absurd (apart refl e)
no_other_by key text kind plain none meaning.Other e is = none is.1 is.2
no_other_by key text kind plain none (meaning.Object a) e is = absurd (apart refl e)
no_other_by key text kind plain none (meaning.Type a) e is = absurd (apart refl e)
no_other_by key text kind plain none (meaning.Parameter a) e is = absurd (apart refl e)

pub no_other : (key text : Bytes) → kind_of key ≡ OptionKey → is_among key words_with_effect ≡ false → (is_other_option key text ≡ true → IsSome (pattern_of (chars key)) → ⊥) → (m : EntryMeaning) → IsEntryMeaning key text m → ⊥
no_other key text kind plain none m is = no_other_by key text kind plain none m (numbered key text m is ∙ kind_tells key OptionKey kind (without_effect key plain)) is

-- such an entry says nothing
no_object_by : (key name text : Bytes) → kind_of key ≡ ObjectKey name → ((pattern : List Piece) (o : ObjectOption) → pattern_of (chars key) ≡ Some pattern → IsObjectOption name text o → ⊥) → (m : EntryMeaning) → number m ≡ 4 → IsEntryMeaning key text m → ⊥
no_object_by key name text kind none (meaning.Network a) e is = absurd (apart refl e)
no_object_by key name text kind none (meaning.Extends a) e is = absurd (apart refl e)
no_object_by key name text kind none (meaning.TimeLimit a) e is = absurd (apart refl e)
no_object_by key name text kind none meaning.Other e is = absurd (apart refl e)
no_object_by key name text kind none (meaning.Object a) e is = none a.pattern a.says is.1 (subst (λ (n : Bytes). IsObjectOption n text a.says) (name_same (kind_of key) a.option name is.0 kind) is.2)
no_object_by key name text kind none (meaning.Type a) e is = absurd (apart refl e)
no_object_by key name text kind none (meaning.Parameter a) e is = absurd (apart refl e)

pub no_object : (key name text : Bytes) → kind_of key ≡ ObjectKey name → ((pattern : List Piece) (o : ObjectOption) → pattern_of (chars key) ≡ Some pattern → IsObjectOption name text o → ⊥) → (m : EntryMeaning) → IsEntryMeaning key text m → ⊥
no_object key name text kind none m is = no_object_by key name text kind none m (numbered key text m is ∙ kind_tells key (ObjectKey name) kind (kinds key (ObjectKey name) kind (λ x. absurd cc))) is

-- such an entry says nothing
no_type_by : (key text : Bytes) → kind_of key ≡ TypeKey → ((p : ParameterEntry) → IsPatternAndValue key text p → ⊥) → (m : EntryMeaning) → number m ≡ 5 → IsEntryMeaning key text m → ⊥
no_type_by key text kind none (meaning.Network a) e is = absurd (apart refl e)
no_type_by key text kind none (meaning.Extends a) e is = absurd (apart refl e)
no_type_by key text kind none (meaning.TimeLimit a) e is = absurd (apart refl e)
no_type_by key text kind none meaning.Other e is = absurd (apart refl e)
no_type_by key text kind none (meaning.Object a) e is = absurd (apart refl e)
no_type_by key text kind none (meaning.Type a) e is = none a is.1
no_type_by key text kind none (meaning.Parameter a) e is = absurd (apart refl e)

pub no_type : (key text : Bytes) → kind_of key ≡ TypeKey → ((p : ParameterEntry) → IsPatternAndValue key text p → ⊥) → (m : EntryMeaning) → IsEntryMeaning key text m → ⊥
no_type key text kind none m is = no_type_by key text kind none m (numbered key text m is ∙ kind_tells key TypeKey kind (kinds key TypeKey kind (λ x. absurd cc))) is

-- such an entry says nothing
no_parameter_by : (key text : Bytes) → kind_of key ≡ ParameterKey → ((p : ParameterEntry) → IsPatternAndValue key text p → ⊥) → (m : EntryMeaning) → number m ≡ 6 → IsEntryMeaning key text m → ⊥
no_parameter_by key text kind none (meaning.Network a) e is = absurd (apart refl e)
no_parameter_by key text kind none (meaning.Extends a) e is = absurd (apart refl e)
no_parameter_by key text kind none (meaning.TimeLimit a) e is = absurd (apart refl e)
no_parameter_by key text kind none meaning.Other e is = absurd (apart refl e)
no_parameter_by key text kind none (meaning.Object a) e is = absurd (apart refl e)
no_parameter_by key text kind none (meaning.Type a) e is = absurd (apart refl e)
no_parameter_by key text kind none (meaning.Parameter a) e is = none a is.1

pub no_parameter : (key text : Bytes) → kind_of key ≡ ParameterKey → ((p : ParameterEntry) → IsPatternAndValue key text p → ⊥) → (m : EntryMeaning) → IsEntryMeaning key text m → ⊥
no_parameter key text kind none m is = no_parameter_by key text kind none m (numbered key text m is ∙ kind_tells key ParameterKey kind (kinds key ParameterKey kind (λ x. absurd cc))) is

-- what is found of an entry is the only thing it says
pub only_meaning : (key text : Bytes) (m : EntryMeaning) → IsEntryMeaning key text m → Tells (IsEntryMeaning key text) (Some m)
only_meaning key text m is = (is, λ n other. meaning_same key text n m other is)

-- the pattern of a key and a value are the only ones
pub only_entry : (key text : Bytes) (p : ParameterEntry) → IsPatternAndValue key text p → Tells (IsPatternAndValue key text) (Some p)
only_entry key text p is = (is, λ q other. entry_same key text q p other is)

-- ---- reasons

-- the reason of a key that is no option with effect
told_by : (key text : Bytes) (kind : KeyKind) → kind_of key ≡ kind → (bytes_eq key word_network ≡ false) × (bytes_eq key word_extends ≡ false) × (bytes_eq key word_time_limit ≡ false) → entry_reason key text ≡ kind_reason key text kind
told_by key text kind h e = rw e.0 (rw e.1 (rw e.2 (rw h refl)))

kind_told : (key text : Bytes) (kind : KeyKind) → kind_of key ≡ kind → kind ≢ OptionKey → entry_reason key text ≡ kind_reason key text kind
kind_told key text kind h other = told_by key text kind h (kinds key kind h other)

pattern_told : (key : Bytes) (pattern : List Piece) (why : Reason) → pattern_of (chars key) ≡ Some pattern → pattern_reason key why ≡ why
pattern_told key pattern why found = rw found refl

pub pattern_lacked : (key : Bytes) (why : Reason) → pattern_of (chars key) ≡ None → pattern_reason key why ≡ reason.BadPattern
pattern_lacked key why none = rw none refl

object_told : (key name text : Bytes) (pattern : List Piece) → kind_of key ≡ ObjectKey name → pattern_of (chars key) ≡ Some pattern → entry_reason key text ≡ object_reason name
object_told key name text pattern kind found = kind_told key text (ObjectKey name) kind (λ x. absurd cc) ∙ pattern_told key pattern (object_reason name) found

pub object_lacked : (key name text : Bytes) → kind_of key ≡ ObjectKey name → pattern_of (chars key) ≡ None → reason.BadPattern ≡ entry_reason key text
object_lacked key name text kind none = sym (kind_told key text (ObjectKey name) kind (λ x. absurd cc) ∙ pattern_lacked key (object_reason name) none)

-- why an option without effect says nothing
pub option_told : (key text : Bytes) → kind_of key ≡ OptionKey → is_among key words_with_effect ≡ false → is_other_option key text ≡ false → option_reason key ≡ entry_reason key text
option_told key text kind plain bad = sym (told_by key text OptionKey kind (without_effect key plain) ∙ rw bad refl)

pub option_lacked : (key text : Bytes) → kind_of key ≡ OptionKey → is_among key words_with_effect ≡ false → is_other_option key text ≡ true → reason.BadPattern ≡ entry_reason key text
option_lacked key text kind plain good = sym (told_by key text OptionKey kind (without_effect key plain) ∙ rw good refl)

-- ---- what is refused of a part is refused of the whole

pub refused_object : (key name text : Bytes) (pattern : List Piece) (e : Unread) → kind_of key ≡ ObjectKey name → pattern_of (chars key) ≡ Some pattern → Finds (IsObjectOption name text) (λ why. why ≡ object_reason name) (Err e) → FindsMeaning key text (Err e)
refused_object key name text pattern (unread.MeansNothing why) kind found none = (no_object key name text kind (λ p o some is. none.0 o is), none.1 ∙ sym (object_told key name text pattern kind found))
refused_object key name text pattern (unread.NoMemory error) kind found none = tt

pub refused_type : (key text : Bytes) (e : Unread) → kind_of key ≡ TypeKey → Finds (IsPatternAndValue key text) (λ why. why ≡ pattern_reason key reason.BadExpression) (Err e) → FindsMeaning key text (Err e)
refused_type key text (unread.MeansNothing why) kind none = (no_type key text kind none.0, none.1 ∙ sym (kind_told key text TypeKey kind (λ x. absurd cc)))
refused_type key text (unread.NoMemory error) kind none = tt

pub refused_parameter : (key text : Bytes) (e : Unread) → kind_of key ≡ ParameterKey → Finds (IsPatternAndValue key text) (λ why. why ≡ pattern_reason key reason.BadExpression) (Err e) → FindsMeaning key text (Err e)
refused_parameter key text (unread.MeansNothing why) kind none = (no_parameter key text kind none.0, none.1 ∙ sym (kind_told key text ParameterKey kind (λ x. absurd cc)))
refused_parameter key text (unread.NoMemory error) kind none = tt
