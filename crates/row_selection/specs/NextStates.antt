-- The next states of a primitive from each state.
use Rattle.trit_cubes.specs.declared.trits.Trit.{Trit}
use Rattle.trit_cubes.specs.declared.trits.Trit.TheVariants.{Zero, One, Unknown}
use Rattle.row_selection.specs.declared.change_rows.NextStates.{NextStates}

-- what a function of the state gives from each
abbrev pub next_states : (Trit → Trit) → NextStates
next_states next = record { zero = next Zero; one = next One; unknown = next Unknown }
