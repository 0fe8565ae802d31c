-- The words of the language: none of them is a name, but each may name a property (OMNeT++
-- Simulation Manual, "Reserved Words").
use Rattle.std.specs.Prelude.{Option, Some, None, if◌then◌else◌, codes}
use Rattle.std.specs.Str.{bytes_eq}
use Rattle.ned_tokens.specs.declared.token.Keyword.{Keyword}
use Rattle.ned_tokens.specs.declared.token.Keyword.TheVariants as k
use Rattle.ned_tokens.specs.Runs.{Bytes}

-- this one, or else that
abbrev pub or_else : {X : Type 0} → Option X → Option X → Option X
or_else None other = other
or_else (Some x) other = Some x

-- the words that begin a type, or stand in its head or before it
unfoldable pub head_word : Bytes → Option Keyword
head_word word =
    if bytes_eq word (codes "package") then Some k.Package
    else (if bytes_eq word (codes "import") then Some k.Import
    else (if bytes_eq word (codes "simple") then Some k.Simple
    else (if bytes_eq word (codes "module") then Some k.Module
    else (if bytes_eq word (codes "network") then Some k.Network
    else (if bytes_eq word (codes "channel") then Some k.Channel
    else (if bytes_eq word (codes "moduleinterface") then Some k.ModuleInterface
    else (if bytes_eq word (codes "channelinterface") then Some k.ChannelInterface
    else (if bytes_eq word (codes "extends") then Some k.Extends
    else (if bytes_eq word (codes "like") then Some k.Like
    else None)))))))))

-- the words that begin a section, or a line of one
unfoldable pub section_word : Bytes → Option Keyword
section_word word =
    if bytes_eq word (codes "parameters") then Some k.Parameters
    else (if bytes_eq word (codes "gates") then Some k.Gates
    else (if bytes_eq word (codes "types") then Some k.Types
    else (if bytes_eq word (codes "submodules") then Some k.Submodules
    else (if bytes_eq word (codes "connections") then Some k.Connections
    else (if bytes_eq word (codes "allowunconnected") then Some k.AllowUnconnected
    else (if bytes_eq word (codes "if") then Some k.If
    else (if bytes_eq word (codes "for") then Some k.For
    else None)))))))

-- the words that declare a parameter or a gate
unfoldable pub member_word : Bytes → Option Keyword
member_word word =
    if bytes_eq word (codes "volatile") then Some k.Volatile
    else (if bytes_eq word (codes "bool") then Some k.Bool
    else (if bytes_eq word (codes "int") then Some k.Int
    else (if bytes_eq word (codes "string") then Some k.Text
    else (if bytes_eq word (codes "double") then Some k.Double
    else (if bytes_eq word (codes "default") then Some k.Default
    else (if bytes_eq word (codes "input") then Some k.Input
    else (if bytes_eq word (codes "output") then Some k.Output
    else (if bytes_eq word (codes "inout") then Some k.Inout
    else None))))))))

-- the words that stand in expressions
unfoldable pub value_word : Bytes → Option Keyword
value_word word =
    if bytes_eq word (codes "true") then Some k.True
    else (if bytes_eq word (codes "false") then Some k.False
    else (if bytes_eq word (codes "this") then Some k.This
    else (if bytes_eq word (codes "parent") then Some k.Parent
    else (if bytes_eq word (codes "index") then Some k.Index
    else (if bytes_eq word (codes "parentIndex") then Some k.ParentIndex
    else (if bytes_eq word (codes "sizeof") then Some k.Sizeof
    else (if bytes_eq word (codes "exists") then Some k.Exists
    else None)))))))

-- the word that these bytes spell
unfoldable pub keyword_of : Bytes → Option Keyword
keyword_of word = or_else (head_word word)
    (or_else (section_word word) (or_else (member_word word) (value_word word)))
