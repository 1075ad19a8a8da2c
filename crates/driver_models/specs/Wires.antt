-- The declarations of the wires of a driver, in any language: of those to the inputs of its buffers, and of those to their
-- enables, each numbered from 1. (IEEE 1364-2005, 3.3; IEEE 1076-1993, 4.3.1.2; the names and their order are this project's
-- form.)
use Rattle.std.specs.Prelude.{ℕ, ◌+◌, Bool, ◌&&◌, nat_eq, nat_lt, if◌then◌else◌, List, ◌++◌, Option, Some, None, decimal}
use Rattle.grammar_rules.specs.Rule as r
use Rattle.grammar_reader.specs.Words.{Grammar, ◌>>=◌, expect, begins, known, go_on_where}
use Rattle.grammar_reader.specs.Rests.{with_end}
use Rattle.driver_models.specs.declared.wires.Wires.{Wires}

-- the name of a word with a number
abbrev pub numbered : List ℕ → ℕ → List ℕ
numbered word n = word ++ decimal n

-- no wires
abbrev pub no_wires : Wires
no_wires = record { values = 0; enables = 0 }

module _ (is_name : List ℕ → Bool) (is_same : List ℕ → List ℕ → Bool) (value enable : List ℕ) where
  -- What is declared with the wire of this name: the next to an input, while there is none to an enable, or the next to an
  -- enable, while there are fewer of them.
  abbrev pub next_wire : Wires → List ℕ → Option Wires
  next_wire found x =
      if nat_eq found.enables 0 && is_same x (numbered value (found.values + 1))
      then Some (record { values = found.values + 1; enables = 0 })
      else (if nat_lt found.enables found.values && is_same x (numbered enable (found.enables + 1))
      then Some (record { values = found.values; enables = found.enables + 1 })
      else None)

  -- one more wire, behind its word: its name, and the words behind it
  unfoldable pub declared_wire : List (List ℕ) → Wires → Grammar Wires
  declared_wire tail found = do
    more ← known is_name (next_wire found)
    with_end is_same tail more

  -- WORD NAME TAIL { WORD NAME TAIL }: how many wires to inputs there are, and as many to enables
  unfoldable pub declared_wires : List ℕ → List (List ℕ) → Grammar ℕ
  declared_wires word tail = do
    _ ← expect is_same word
    first ← declared_wire tail no_wires
    all ← r.Many (λ _. begins is_same word) (λ found _. declared_wire tail found) first
    _ ← go_on_where (nat_eq all.values all.enables)
    r.Gives all.values
