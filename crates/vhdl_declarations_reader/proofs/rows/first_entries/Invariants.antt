use Rattle.std.proofs.Common.{◌≡◌, ◌+◌, length, take}
use Rattle.vhdl_declarations_reader.proofs.rows.first_entries.Given as goal

abbrev pub invariant-loop-turn : goal.invariant-loop-turn
invariant-loop-turn g l =
    (take l.count l.entries ≡ take l.count l.initial.entries) × (length l.entries + l._turn ≡ l._turn-end + l.count)
