use Rattle.std.proofs.Common.{◌≡◌, drop, ◌++◌, map}
use Rattle.liberty_groups.specs.declared.tree.Value.{Value}
use Rattle.bus_texts.proofs.vectors.add_names.Given as goal

abbrev pub invariant-loop-value : goal.invariant-loop-value
invariant-loop-value l =
    l.found ++ map (λ (value : Value). value.bytes) (drop l.value-index l.values) ≡ l.initial.found ++ map (λ (value : Value). value.bytes) l.values
