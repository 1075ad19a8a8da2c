-- The values that stand in the place of a list.
use Rattle.std.specs.Prelude.{List, [], ◌∷◌}
use Rattle.liberty_groups.specs.declared.tree.Value.{Value}
use Rattle.liberty_groups.specs.declared.values.HeldValues.{HeldValues}
use Rattle.liberty_groups.specs.declared.values.HeldValues.TheVariants.{Nothing, One, Two, Three, Several}

abbrev pub held_values : HeldValues → List Value
held_values Nothing = []
held_values (One value) = value ∷ []
held_values (Two values) = values
held_values (Three values) = values
held_values (Several values) = values.value.items
