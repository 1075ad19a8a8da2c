use Rattle.std.specs.Prelude.{ℕ, nat_eq, List, [], ◌∷◌, codes, find, Option}
use Rattle.std.specs.Option.{option_map}
use lib.Pointwise.{pointwise}
use Rattle.statetables.specs.declared.written.Written.{Written}
use Rattle.statetables.specs.declared.written.Written.TheVariants as written
use Rattle.statetables.specs.declared.symbols.InSymbol.{InSymbol}
use Rattle.statetables.specs.declared.symbols.InSymbol.TheVariants as input
use Rattle.statetables.specs.declared.symbols.CurrentSymbol.{CurrentSymbol}
use Rattle.statetables.specs.declared.symbols.CurrentSymbol.TheVariants as current
use Rattle.statetables.specs.declared.symbols.NextSymbol.{NextSymbol}
use Rattle.statetables.specs.declared.symbols.NextSymbol.TheVariants as next

-- The words that each kind of symbol has: those of the two levels and of their halves.
abbrev pub level_words : {S : Type 0} → S → S → List (List ℕ × Written S)
level_words low high = (codes "L", written.Whole low)
    ∷ (codes "H", written.Whole high)
    ∷ (codes "L/H", written.Halves low high)
    ∷ (codes "H/L", written.Halves high low)
    ∷ []

-- The words that may stand for an input, and what each stands for.
-- (Liberty Reference Manual, "table" attribute: input node values.)
abbrev pub in_words : List (List ℕ × Written InSymbol)
in_words = (codes "-", written.Whole input.Any)
    ∷ (codes "R", written.Whole input.Rise)
    ∷ (codes "F", written.Whole input.Fall)
    ∷ (codes "~R", written.Whole input.NotRise)
    ∷ (codes "~F", written.Whole input.NotFall)
    ∷ level_words input.Low input.High

-- The words that may stand for a node's present state, and what each stands for.
-- (Liberty Reference Manual, "table" attribute: current internal node values.)
abbrev pub current_words : List (List ℕ × Written CurrentSymbol)
current_words = (codes "-", written.Whole current.Any) ∷ level_words current.Low current.High

-- The words that may stand for a node's next state, and what each stands for.
-- (Liberty Reference Manual, "table" attribute: next internal node values. That - is not known is this project's rule.)
abbrev pub next_words : List (List ℕ × Written NextSymbol)
next_words = (codes "N", written.Whole next.Keep)
    ∷ (codes "X", written.Whole next.Unknown)
    ∷ (codes "-", written.Whole next.Unknown)
    ∷ level_words next.Low next.High

-- What a word stands for by a list of words.
abbrev pub meaning : {S : Type 0} → List (List ℕ × Written S) → List ℕ → Option (Written S)
meaning words word = option_map (λ entry. entry.1) (find (λ entry. pointwise nat_eq entry.0 word) words)

abbrev pub in_symbol : List ℕ → Option (Written InSymbol)
in_symbol word = meaning in_words word

abbrev pub current_symbol : List ℕ → Option (Written CurrentSymbol)
current_symbol word = meaning current_words word

abbrev pub next_symbol : List ℕ → Option (Written NextSymbol)
next_symbol word = meaning next_words word
