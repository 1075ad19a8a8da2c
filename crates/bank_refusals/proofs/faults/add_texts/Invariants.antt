use Rattle.std.proofs.Common.{◌≡◌, drop, ◌++◌, map}
use Rattle.bank_refusals.specs.Faults.{text_faults}
use Rattle.bank_refusals.proofs.faults.add_texts.Given as goal

abbrev pub invariant-loop-name : goal.invariant-loop-name
invariant-loop-name l =
    l.found.items
    ++ text_faults l.place.vectors.now l.place.position (map (λ name. name.now) (drop l.name-index l.names)) (map (λ item. item.now) l.items)
    ≡ l.initial.found.items
    ++ text_faults l.place.vectors.now l.place.position (map (λ name. name.now) l.names) (map (λ item. item.now) l.items)
