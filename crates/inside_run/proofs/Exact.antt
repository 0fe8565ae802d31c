-- Keys that are the same are one, and each is the same as itself.
use Rattle.std.proofs.Common.{◌≡◌, ℤ, ◌==◌, Bool, true, ◌&&◌, List, ℕ, refl, ap, ◌∙◌, bytes_eq}
use Rattle.std.specs.Cmp.Lexicographic.{pointwise}
use Rattle.std.specs.Ordering.{int_eq}
use Rattle.std.proofs.lemmas.Bool.{eq-eqb}
use Rattle.std.proofs.lemmas.Bool.Decides.{Decides-int_eq}
use Rattle.std.proofs.lemmas.Slice.Eq.{bytes_eq-Decides, slice_eq-Decides}
use Rattle.param_following.specs.Laws.{IsExact}
use Rattle.inside_keys.specs.declared.key.ChannelAt.{ChannelAt}
use Rattle.inside_keys.specs.declared.key.Key.{Key}
use Rattle.inside_keys.specs.declared.key.Module.{Module}
use Rattle.inside_keys.specs.declared.key.What.{What}
use Rattle.inside_keys.specs.declared.key.What.TheVariants as what
use Rattle.inside_keys.specs.Keys.{same_channel, same_key, same_module, same_what, same_written}
use Rattle.inside_keys.specs.Settings.{ModuleRules}
use Rattle.inside_keys.specs.Values.{rules_of}
use Rattle.inside_run.specs.Same.{same_are_one}

and : (a b : Bool) → a ≡ true → b ≡ true → (a && b) ≡ true
and a b h k = ap (λ x. x && b) h ∙ k

bytes : (x : List ℕ) → bytes_eq x x ≡ true
bytes x = (bytes_eq-Decides x x).1 refl

number : (k : ℤ) → int_eq k k ≡ true
number k = (Decides-int_eq k k).1 refl

modules : (a : Module) → same_module a a ≡ true
modules a = and (a.created == a.created) (bytes_eq a.path a.path) (eq-eqb a.created a.created refl) (bytes a.path)

channels : (c : ChannelAt) → same_channel c c ≡ true
channels c =
    let turn : pointwise int_eq c.turn c.turn ≡ true = (slice_eq-Decides Decides-int_eq c.turn c.turn (pointwise int_eq c.turn c.turn) refl).1 refl in
    let written : same_written c.written c.written ≡ true =
    and (c.written.items == c.written.items) (c.written.lines == c.written.lines) (eq-eqb c.written.items c.written.items refl) (eq-eqb c.written.lines c.written.lines refl) in
    and (bytes_eq c.path c.path) (same_written c.written c.written && pointwise int_eq c.turn c.turn) (bytes c.path)
    (and (same_written c.written c.written) (pointwise int_eq c.turn c.turn) written turn)

whats : (w : What) → same_what w w ≡ true
whats what.Type = refl
whats (what.Param x) = bytes x
whats (what.Condition x) = bytes x
whats (what.VectorSize x) = bytes x
whats (what.Declared x) = bytes x
whats (what.GateSize x) = bytes x
whats (what.Sizeof x) = bytes x
whats (what.Exists x) = bytes x
whats (what.ExistsAt x k) = and (bytes_eq x x) (int_eq k k) (bytes x) (number k)
whats (what.Member t x) = and (bytes_eq t t) (bytes_eq x x) (bytes t) (bytes x)
whats (what.Element t k x) = and (bytes_eq t t) (int_eq k k && bytes_eq x x) (bytes t) (and (int_eq k k) (bytes_eq x x) (number k) (bytes x))
whats (what.Channel c x) = and (same_channel c c) (bytes_eq x x) (channels c) (bytes x)
whats (what.Carrier c) = channels c
whats what.Joined = refl
whats what.Inside = refl

same_self : (a : Key) → same_key a a ≡ true
same_self a = and (same_module a.site a.site) (same_what a.what a.what) (modules a.site) (whats a.what)

pub exact : (s : ModuleRules) → IsExact (rules_of s)
exact s = record { same = same_are_one; self = same_self }
