-- What ties the tables and hints to the list of connections.
use Rattle.std.specs.Prelude.{◌≡◌, ℕ, ◌<◌, false, nat_eq, List, unwrap_or}
use Rattle.std.specs.HashMap.{HashMap, get}
use Rattle.inside_wiring.specs.declared.wiring.Link.{Link}
use Rattle.inside_wiring.specs.declared.wiring.Role.{Role}
use Rattle.inside_wiring.specs.declared.wiring.Role.TheVariants.{Source, Target, Both}
use Rattle.inside_wiring.specs.Wired.{Key, same_key, link_from, link_to, is_free}

-- no gate of a vector below its hint is free
abbrev pub IsHint : {S : Type 0} → List Link → Role → HashMap ℕ ℕ S → Type 0
IsHint links role hints = (v i : ℕ) → i < unwrap_or (get nat_eq hints v) 0
    → is_free links role (v, i) ≡ false

pub record IsIndexed {S : Type 0} (links : List Link) (sources targets : HashMap Key Link S)
    (source_hints target_hints both_hints : HashMap ℕ ℕ S) : Type 0 where
  pub from_table : (q : Key) → get same_key sources q ≡ link_from links q
  pub to_table : (q : Key) → get same_key targets q ≡ link_to links q
  pub source_hint : IsHint links Source source_hints
  pub target_hint : IsHint links Target target_hints
  pub both_hint : IsHint links Both both_hints
