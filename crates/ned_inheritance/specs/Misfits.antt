-- Lines that can't stand in a body or in the block of a channel.
use Rattle.std.specs.Prelude.{ℕ, List, [], Option, Some, None}
use Rattle.std.specs.Option.{option_map}
use Rattle.ned_trees.specs.declared.declarations.SectionLine.{SectionLine}
use Rattle.ned_types.specs.Flat.{or_else}
use Rattle.ned_types.specs.Types.{is_refixed, is_unfit}
use Rattle.ned_inheritance.specs.declared.bodies.Misfit.{Misfit}
use Rattle.ned_inheritance.specs.declared.bodies.Misfit.TheVariants.{Unfit, Again}
use Rattle.ned_inheritance.specs.declared.places.Member.{Member}
use Rattle.ned_inheritance.specs.Places.{first_again, first_from}

-- the first line of a body that clashes with these lines of its type, and why
abbrev pub misfit_in : List SectionLine → List SectionLine → Option Misfit
misfit_in lines body =
    or_else (option_map Unfit (first_from (λ l. is_unfit lines l) 0 body))
    (option_map Again (first_again is_refixed [] 0 body))

-- what a misfit tells of a type, where these are the members for each reason
abbrev pub told_of : (ℕ → Member) → (ℕ → Member) → Option Misfit → Option Member
told_of unfit again None = None
told_of unfit again (Some (Unfit at)) = Some (unfit at)
told_of unfit again (Some (Again at)) = Some (again at)
