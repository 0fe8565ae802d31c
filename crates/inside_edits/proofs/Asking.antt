-- What a key asks rests on one entry of the ini text.
use Rattle.std.proofs.Common.{◌≡◌, refl, ap, ℕ, List, Option, Some, None}
use Rattle.ini_trees.specs.declared.entry.EntryValue.{EntryValue}
use Rattle.ned_trees.specs.declared.connections.Channel.{Channel}
use Rattle.ned_trees.specs.declared.declarations.Declaration.{Declaration}
use Rattle.ned_trees.specs.declared.declarations.SectionLine.{SectionLine}
use Rattle.ned_trees.specs.declared.declarations.TypeDeclaration.{TypeDeclaration}
use Rattle.ned_types.specs.Flat.{declaration_named}
use Rattle.param_values.specs.Values.{first_given}
use Rattle.inside_wiring.specs.declared.wiring.ChannelKind.{ChannelKind}
use Rattle.inside_keys.specs.declared.key.ChannelAt.{ChannelAt}
use Rattle.inside_keys.specs.declared.key.Module.{Module}
use Rattle.inside_keys.specs.declared.key.What.{What}
use Rattle.inside_keys.specs.declared.key.What.TheVariants as what
use Rattle.inside_keys.specs.Asked.{KeyAsking}
use Rattle.inside_keys.specs.Channels.{channel_check, channel_kind, lines_of}
use Rattle.inside_keys.specs.Given.{FoundLine, channel_posed, channel_posed_as, channel_posed_at, channel_posed_by}
use Rattle.inside_keys.specs.Given.{channel_posed_in, channel_posed_over, channel_parameter_path, connection_at, given_to_channel, scope_at}
use Rattle.inside_keys.specs.Kinds.{kind_of}
use Rattle.inside_keys.specs.Places.{Scope}
use Rattle.inside_keys.specs.Settings.{ModuleRules, Posed, type_names}
use Rattle.inside_keys.specs.Values.{asking_by, posed_asking, typed_then}
use Rattle.inside_edits.specs.Reads.{AsksAsBefore, SaysTheSame, path_read_by, with_entries}

-- what gives a parameter of a channel its value
module _ (s : ModuleRules) (after : List ℕ → Option EntryValue) (m : Module) (c : ChannelAt) (x : List ℕ)
    (h : after (channel_parameter_path c x) ≡ s.entry (channel_parameter_path c x)) where
  by_declaration : (k : ChannelKind) (lines block : List SectionLine) (scope : Scope) (d : Option Declaration)
      → channel_posed_by (with_entries after s) m c k lines block scope x d ≡ channel_posed_by s m c k lines block scope x d
  by_declaration k lines block scope None = refl
  by_declaration k lines block scope (Some d) =
      ap (λ (o : Option EntryValue). channel_posed_as s m c (channel_check k x (kind_of d)) scope (first_given (given_to_channel lines block x) o)) h

  over_lines : (k : ChannelKind) (lines : Option (List SectionLine)) (block : List SectionLine) (scope : Scope)
      → channel_posed_over (with_entries after s) m c k lines block scope x ≡ channel_posed_over s m c k lines block scope x
  over_lines k None block scope = refl
  over_lines k (Some lines) block scope = by_declaration k lines block scope (declaration_named x lines)

  in_channel : (channel : Option Channel) (scope : Scope) → channel_posed_in (with_entries after s) m c channel scope x ≡ channel_posed_in s m c channel scope x
  in_channel None scope = refl
  in_channel (Some channel) scope = over_lines (channel_kind (type_names s) s.types channel) (lines_of (type_names s) s.types channel) channel.lines scope

  at_line : (f : Option FoundLine) → channel_posed_at (with_entries after s) m c f x ≡ channel_posed_at s m c f x
  at_line None = refl
  at_line (Some f) = in_channel f.connection.channel (scope_at f.clauses c.turn)

  pub posed_as_before : (t : TypeDeclaration) → channel_posed (with_entries after s) m c t x ≡ channel_posed s m c t x
  posed_as_before t = at_line (connection_at c.written t.connections.items)

  pub channel_asked : asking_by (with_entries after s) m (what.Channel c x) ≡ asking_by s m (what.Channel c x)
  channel_asked = ap (λ (posed : TypeDeclaration → Option Posed). typed_then s m (λ n t. posed_asking (posed t))) (λ j t. posed_as_before t j)

module _ (s : ModuleRules) (after : List ℕ → Option EntryValue) (m : Module) where
  -- what a key asks, where the text says this of every path
  abbrev asked : What → Option EntryValue → KeyAsking
  asked w o = asking_by (with_entries (λ path. o) s) m w

  pub asked_as_before : (w : What) → SaysTheSame s.entry after (path_read_by m w) → asking_by (with_entries after s) m w ≡ asking_by s m w
  asked_as_before what.Type h = ap (asked what.Type) h
  asked_as_before (what.Param x) h = ap (asked (what.Param x)) h
  asked_as_before (what.Condition x) h = refl
  asked_as_before (what.VectorSize x) h = refl
  asked_as_before (what.Declared x) h = refl
  asked_as_before (what.GateSize x) h = refl
  asked_as_before (what.Sizeof x) h = refl
  asked_as_before (what.Exists x) h = refl
  asked_as_before (what.ExistsAt x k) h = refl
  asked_as_before (what.Member t x) h = refl
  asked_as_before (what.Element t k x) h = refl
  asked_as_before (what.Channel c x) h = channel_asked s after m c x h
  asked_as_before (what.Carrier c) h = refl
  asked_as_before what.Joined h = refl
  asked_as_before what.Inside h = refl

pub asks : AsksAsBefore
asks s after k h = asked_as_before s after k.site k.what h
