-- A change of files leaves at most one list of files, and where it leaves one no refusal has a
-- reason.
use Rattle.std.proofs.Common.{◌≡◌, ℕ, ◌≤◌, ◌<◌, Bool, true, false, List, ◌∷◌, ◌++◌, length, drop, nat_lt, remove, slice_set, take, Option, Some, None, arith, refl, sym, ap, ◌∙◌, subst}
use Rattle.std.proofs.lemmas.Bool.Decides.{nat_tests}
use Rattle.sim_values.specs.Limits.{max_length}
use Rattle.sim_values.specs.Memory.{no_memory}
use Rattle.ned_tokens.specs.Lines.{tokens_of}
use Rattle.ned_tokens.proofs.Whole as whole
use Rattle.ned_connections.specs.ConnectionText.{IsConnectionText}
use Rattle.ned_connections.specs.Grammar.{whole_item}
use Rattle.ned_connections.proofs.GrammarLaws.{whole_item-lawful}
use Rattle.ned_trees.specs.declared.connections.ConnectionItem.{ConnectionItem}
use Rattle.ned_trees.specs.declared.declarations.NedFile.{NedFile}
use Rattle.ned_syntax.specs.Grammar.{file}
use Rattle.ned_syntax.specs.NedText.{IsNedFile}
use Rattle.ned_syntax.proofs.GrammarLaws.{file-lawful}
use Rattle.ned_scopes.specs.Scopes.{types_of}
use Rattle.ned_inheritance.specs.declared.table.TypeFault.{TypeFault}
use Rattle.ned_inheritance.specs.Building.{fault_of}
use Rattle.file_edits.specs.declared.error.FileError.{FileError}
use Rattle.file_edits.specs.declared.error.FileError.TheVariants as error
use Rattle.file_edits.specs.Changes.{Change, Inserted, Removed, Replaced, is_large, AreApart, HasNoItem, HasNoPlace, IsChanged, IsInserted, IsRemoved, IsReplaced, Refuses, RefusesInsertion, RefusesRemoval, RefusesReplacement}
use Rattle.file_edits.specs.Items.{files_with, items_of}

-- ---- one list of files

file_same : (bytes : List ℕ) (f g : NedFile) → IsNedFile bytes f → IsNedFile bytes g → f ≡ g
file_same bytes f g p q = whole.one_meaning file file-lawful (tokens_of bytes) f g p.spells q.spells

item_same : (bytes : List ℕ) (a b : ConnectionItem) → IsConnectionText bytes a → IsConnectionText bytes b → a ≡ b
item_same bytes a b p q = whole.one_meaning whole_item whole_item-lawful (tokens_of bytes) a b p.spells q.spells

some_same : {T : Type 0} (o : Option T) (x y : T) → o ≡ Some x → o ≡ Some y → x ≡ y
some_same None x y p q = absurd cc
some_same (Some z) x y p q = cc

pub one_change : (c : Change) (old a b : List NedFile) → IsChanged c old a → IsChanged c old b → a ≡ b
one_change (Replaced number text) old a b p q =
    p.rest ∙ ap (λ (f : NedFile). slice_set old number f) (file_same text p.declared q.declared p.means q.means) ∙ sym q.rest
one_change (Inserted name place text) old a b p q =
    let items = some_same (items_of name old) p.items q.items p.own q.own in
    p.rest ∙ ap (λ (i : ConnectionItem). files_with name (take place p.items ++ i ∷ drop place p.items) old) (item_same text p.item q.item p.means q.means)
    ∙ ap (λ (is : List ConnectionItem). files_with name (take place is ++ q.item ∷ drop place is) old) items ∙ sym q.rest
one_change (Removed name place) old a b p q =
    p.rest ∙ ap (λ (is : List ConnectionItem). files_with name (remove is place) old) (some_same (items_of name old) p.items q.items p.own q.own) ∙ sym q.rest

-- ---- no refusal has a reason

truth_apart : (b : Bool) → b ≡ true → b ≡ false → ⊥
truth_apart true p q = absurd cc
truth_apart false p q = absurd cc

some_apart : {T : Type 0} (o : Option T) (x : T) → o ≡ Some x → o ≡ None → ⊥
some_apart None x p q = absurd cc
some_apart (Some y) x p q = absurd cc

none_there : (number count : ℕ) → number < count → count ≤ number → ⊥
none_there number count p q = omega (arith, p, q)

not_above : (m n : ℕ) → n ≤ m → nat_lt m n ≡ false
not_above m n h = grind (arith, nat_tests, h)

small_enough : (text : List ℕ) (declared : NedFile) → IsNedFile text declared → is_large text ≡ false
small_enough text declared means = not_above max_length (length text) means.small

types_ruled_out : (c : Change) (old new : List NedFile) (why : TypeFault) → AreApart c old why → IsChanged c old new → fault_of (types_of new) ≡ None → ⊥
types_ruled_out c old new why w is together =
    some_apart (fault_of (types_of new)) why (ap (λ (fs : List NedFile). fault_of (types_of fs)) (one_change c old new w.files is w.changed) ∙ w.apart) together

replacement_ruled_out : (number : ℕ) (text : List ℕ) (old new : List NedFile) (e : FileError) → RefusesReplacement number text old e
    → IsReplaced number text old new → fault_of (types_of new) ≡ None → e ≡ error.NoMemory no_memory
replacement_ruled_out number text old new error.TooLarge why is together =
    absurd (truth_apart (is_large text) why (small_enough text is.declared is.means))
replacement_ruled_out number text old new error.NoSuchFile why is together = absurd (none_there number (length old) is.there why.1)
replacement_ruled_out number text old new (error.NedSyntax line) why is together = absurd (why.3 is.declared is.means)
replacement_ruled_out number text old new (error.Types fault) why is together = absurd (types_ruled_out (Replaced number text) old new fault why is together)
replacement_ruled_out number text old new (error.NoMemory _) why is together = refl
replacement_ruled_out number text old new error.NoSuchType why is together = absurd why
replacement_ruled_out number text old new error.NoSuchConnection why is together = absurd why

small_item : (text : List ℕ) (item : ConnectionItem) → IsConnectionText text item → is_large text ≡ false
small_item text item means = not_above max_length (length text) means.small

above_none : (place count : ℕ) → place ≤ count → count < place → ⊥
above_none place count p q = omega (arith, p, q)

no_place : (name : List ℕ) (place : ℕ) (old : List NedFile) (items : List ConnectionItem) → items_of name old ≡ Some items → place ≤ length items → HasNoPlace name place old → ⊥
no_place name place old items own there why =
    above_none place (length items) there (subst (λ (is : List ConnectionItem). length is < place) (some_same (items_of name old) why.items items why.own own) why.none)

no_item : (name : List ℕ) (place : ℕ) (old : List NedFile) (items : List ConnectionItem) → items_of name old ≡ Some items → place < length items → HasNoItem name place old → ⊥
no_item name place old items own there why =
    none_there place (length items) there (subst (λ (is : List ConnectionItem). length is ≤ place) (some_same (items_of name old) why.items items why.own own) why.none)

insertion_ruled_out : (name : List ℕ) (place : ℕ) (text : List ℕ) (old new : List NedFile) (e : FileError) → RefusesInsertion name place text old e
    → IsInserted name place text old new → fault_of (types_of new) ≡ None → e ≡ error.NoMemory no_memory
insertion_ruled_out name place text old new error.TooLarge why is together = absurd (truth_apart (is_large text) why (small_item text is.item is.means))
insertion_ruled_out name place text old new error.NoSuchType why is together = absurd (some_apart (items_of name old) is.items is.own why.1)
insertion_ruled_out name place text old new error.NoSuchConnection why is together = absurd (no_place name place old is.items is.own is.there why.1)
insertion_ruled_out name place text old new (error.NedSyntax line) why is together = absurd (why.1.none is.item is.means)
insertion_ruled_out name place text old new (error.Types fault) why is together = absurd (types_ruled_out (Inserted name place text) old new fault why is together)
insertion_ruled_out name place text old new (error.NoMemory _) why is together = refl
insertion_ruled_out name place text old new error.NoSuchFile why is together = absurd why

removal_ruled_out : (name : List ℕ) (place : ℕ) (old new : List NedFile) (e : FileError) → RefusesRemoval name place old e
    → IsRemoved name place old new → fault_of (types_of new) ≡ None → e ≡ error.NoMemory no_memory
removal_ruled_out name place old new error.NoSuchType why is together = absurd (some_apart (items_of name old) is.items is.own why)
removal_ruled_out name place old new error.NoSuchConnection why is together = absurd (no_item name place old is.items is.own is.there why)
removal_ruled_out name place old new (error.Types fault) why is together = absurd (types_ruled_out (Removed name place) old new fault why is together)
removal_ruled_out name place old new (error.NoMemory _) why is together = refl
removal_ruled_out name place old new error.TooLarge why is together = absurd why
removal_ruled_out name place old new error.NoSuchFile why is together = absurd why
removal_ruled_out name place old new (error.NedSyntax line) why is together = absurd why

pub change_ruled_out : (c : Change) (old new : List NedFile) (e : FileError) → Refuses c old e → IsChanged c old new
    → fault_of (types_of new) ≡ None → e ≡ error.NoMemory no_memory
change_ruled_out (Replaced number text) old new e why is together = replacement_ruled_out number text old new e why is together
change_ruled_out (Inserted name place text) old new e why is together = insertion_ruled_out name place text old new e why is together
change_ruled_out (Removed name place) old new e why is together = removal_ruled_out name place old new e why is together
