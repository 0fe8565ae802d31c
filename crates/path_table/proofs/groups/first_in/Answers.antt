use Rattle.std.proofs.Common.{◌∙◌}
use Rattle.path_table.proofs.Numbers.{first_place}
use Rattle.path_table.proofs.groups.first_in.Goals as goal

pub returns : goal.returns
returns c = λ path is.
    c.copied.ensures ∙ c.get.ensures.value ∙ first_place c.args.modules.now path c.args.group.now.numbers c.front_in-front.result is.all (c.front_in-front.ensures.dead path is) c.front_in-front.ensures.stops
