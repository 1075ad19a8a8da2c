use Rattle.std.proofs.Common.{◌≡◌, drop, ◌++◌, map}
use Rattle.std.specs.Prelude.{flat_map}
use Rattle.bank_cells.specs.Expanded.{bus_part}
use Rattle.bank_cells.proofs.timings.add_buses.Given as goal

abbrev pub invariant-loop-word : goal.invariant-loop-word
invariant-loop-word l =
    l.text.items ++ flat_map (bus_part l.vectors) (map (λ word. word.now) (drop l.word-index l.words))
    ≡ l.initial.text.items ++ flat_map (bus_part l.vectors) (map (λ word. word.now) l.words)
