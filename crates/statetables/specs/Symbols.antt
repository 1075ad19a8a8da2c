use Rattle.std.specs.Prelude.{Bool, true, false, not, ◌&&◌, Option, Some, None}
use Rattle.statetables.specs.declared.symbols.InSymbol.{InSymbol}
use Rattle.statetables.specs.declared.symbols.InSymbol.TheVariants as in_symbol
use Rattle.statetables.specs.declared.symbols.CurrentSymbol.{CurrentSymbol}
use Rattle.statetables.specs.declared.symbols.CurrentSymbol.TheVariants as current_symbol
use Rattle.statetables.specs.declared.symbols.NextSymbol.{NextSymbol}
use Rattle.statetables.specs.declared.symbols.NextSymbol.TheVariants as next_symbol

-- Whether an input with this value before a change and this value after it matches the symbol. L and H speak of the
-- value after the change, R and F of the change, ~R and ~F of all that is not that change, - of nothing.
-- (Liberty Reference Manual, "statetable" group.)
abbrev pub matches_in : InSymbol → Bool → Bool → Bool
matches_in in_symbol.Low before after = not after
matches_in in_symbol.High before after = after
matches_in in_symbol.Any before after = true
matches_in in_symbol.Rise before after = not before && after
matches_in in_symbol.Fall before after = before && not after
matches_in in_symbol.NotRise before after = not (not before && after)
matches_in in_symbol.NotFall before after = not (before && not after)

-- Whether a node with this present state matches the symbol. (Liberty Reference Manual, "statetable" group.)
abbrev pub matches_now : CurrentSymbol → Bool → Bool
matches_now current_symbol.Low state = not state
matches_now current_symbol.High state = state
matches_now current_symbol.Any state = true

-- The next state that a symbol gives a node with this present state: none where it is not known. N keeps the state.
-- (Liberty Reference Manual, "statetable" group.)
abbrev pub next_value : NextSymbol → Bool → Option Bool
next_value next_symbol.Low state = Some false
next_value next_symbol.High state = Some true
next_value next_symbol.Keep state = Some state
next_value next_symbol.Unknown state = None
