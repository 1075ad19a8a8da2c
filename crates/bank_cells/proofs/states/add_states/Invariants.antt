use Rattle.std.proofs.Common.{◌≡◌, drop, map}
use Rattle.std.specs.List.{fold}
use Rattle.bus_texts.specs.Vectors.{shown_bank}
use Rattle.bank_cells.specs.Expanded.{bank_item}
use Rattle.bank_cells.proofs.states.add_states.Given as goal

abbrev pub invariant-loop-bit : goal.invariant-loop-bit
invariant-loop-bit g l =
    fold g.S.ItemSink.after l.found (map (bank_item l.vectors l.group (shown_bank l.bank)) (drop l.bit-index l.bits))
    ≡ fold g.S.ItemSink.after l.initial.found (map (bank_item l.vectors l.group (shown_bank l.bank)) l.bits)
