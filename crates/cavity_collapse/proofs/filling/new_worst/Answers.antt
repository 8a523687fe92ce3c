use Rattle.std.proofs.Common.{◌≡◌, ℕ, [], Option, Some, None, refl, ◌∙◌}
use Rattle.std.specs.Option.{unwrap_or}
use Rattle.cavity_collapse.specs.Steps.{least_with}
use Rattle.cavity_collapse.proofs.Worsts.{worst_of_set}
use Rattle.cavity_collapse.proofs.filling.new_worst.Goals as goal

told : (o : Option ℕ) → unwrap_or o 0 ≡ least_with o []
told (Some n) = refl
told None = refl

pub returns : goal.returns
returns c = c.unwrap_or.ensures ∙ told c.worst_if_any.result ∙ c.worst_if_any.ensures ∙ worst_of_set c.args.a c.args.v c.args.star.now
