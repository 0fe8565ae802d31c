-- What gives a parameter its value (OMNeT++ Simulation Manual, "Assigning Values to Parameters").
use Rattle.std.specs.Prelude.{Option, Some, None}
use Rattle.ned_trees.specs.declared.expressions.Expression.{Expression}
use Rattle.ini_trees.specs.declared.entry.EntryValue.{EntryValue}
use Rattle.ini_trees.specs.declared.entry.EntryValue.TheVariants as entry
use Rattle.param_values.specs.declared.scene.Section.TheVariants as section
use Rattle.param_values.specs.Settings.{Written, Given, Fixed, Default}

-- an expression of the ini text: names in it are those of the module whose parameter is asked for
abbrev pub of_entry : Expression → Written
of_entry e = record { section = section.OfType; expression = e }

-- WHAT GIVES A PARAMETER ITS VALUE, the first that exists of: the fixed value; the expression of
-- the first matching entry, where `default` means the next case; the default
abbrev pub first_given : Option Given → Option EntryValue → Option Written
first_given (Some (Fixed w)) found = Some w
first_given (Some (Default w)) (Some (entry.Given e)) = Some (of_entry e)
first_given (Some (Default w)) (Some entry.Default) = Some w
first_given (Some (Default w)) None = Some w
first_given None (Some (entry.Given e)) = Some (of_entry e)
first_given None (Some entry.Default) = None
first_given None None = None
