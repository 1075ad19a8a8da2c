use Rattle.std.proofs.Common.{◌≡◌, drop, ◌++◌, map}
use Rattle.std.specs.Prelude.{flat_map}
use Rattle.bank_cells.specs.Expanded.{related_part}
use Rattle.bank_cells.proofs.timings.add_members_at.Given as goal

abbrev pub invariant-loop-word : goal.invariant-loop-word
invariant-loop-word l =
    l.text.items ++ flat_map (related_part l.vectors l.at) (map (λ word. word.now) (drop l.word-index l.words))
    ≡ l.initial.text.items ++ flat_map (related_part l.vectors l.at) (map (λ word. word.now) l.words)
