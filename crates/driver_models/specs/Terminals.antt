-- The terminals of the instance of a core, in any language, by the order of its ports: an input's own name; an output's own name,
-- or where it is driven the next wire to a buffer's input; and behind them the wires to the enables. (IEEE 1364-2005, 12.3.5;
-- IEEE 1076-1993, 4.3.2.2, positional association.)
use Rattle.std.specs.Prelude.{ℕ, zero, suc, ◌+◌, Bool, true, false, nat_eq, if◌then◌else◌, List, [], ◌∷◌, ◌++◌, length, Option}
use Rattle.std.specs.Prelude.{Some, None, codes}
use Rattle.grammar_rules.specs.Rule as r
use Rattle.grammar_reader.specs.Words.{Grammar, ◌>>=◌, expect, begins, known, this_name, is_among}
use Rattle.udp_tables.specs.declared.models.VPort.{VPort}
use Rattle.driver_models.specs.declared.terminals.Terminals.{Terminals}
use Rattle.driver_models.specs.Wires.{numbered}

-- no terminals
abbrev pub no_terminals : Terminals
no_terminals = record { outputs = 0; drives = [] }

-- behind the terminal of one more output, which is driven or not
abbrev pub with_output : Terminals → Bool → Terminals
with_output found driven =
    record { outputs = found.outputs + 1; drives = (if driven then found.drives ++ found.outputs ∷ [] else found.drives) }

-- the names of a word with the numbers from 1 on, so many
abbrev pub all_numbered : List ℕ → ℕ → List (List ℕ)
all_numbered word zero = []
all_numbered word (suc n) = all_numbered word n ++ numbered word (suc n) ∷ []

module _ (is_name : List ℕ → Bool) (is_same : List ℕ → List ℕ → Bool) (value enable : List ℕ) (count : ℕ) where
  -- Whether an output is driven that has this name at its terminal, where so many are driven before it: a wire to a buffer's
  -- input has to be the next one, also where a port has its name, and any other name the output's own.
  abbrev pub is_driven_by : List ℕ → ℕ → List ℕ → Option Bool
  is_driven_by own before x =
      if is_among is_same (all_numbered value count) x
      then (if is_same x (numbered value (before + 1)) then Some true else None)
      else (if is_same x own then Some false else None)

  -- the terminal of an output of this name, behind others
  unfoldable pub output_terminal : List ℕ → Terminals → Grammar Terminals
  output_terminal own found = do
    driven ← known is_name (is_driven_by own (length found.drives))
    r.Gives (with_output found driven)

  -- the terminal of an input of this name, behind others
  unfoldable pub input_terminal : List ℕ → Terminals → Grammar Terminals
  input_terminal own found = do
    _ ← this_name is_name is_same (Some own)
    r.Gives found

  abbrev pub terminal_by : Bool → List ℕ → Terminals → Grammar Terminals
  terminal_by true own found = input_terminal own found
  terminal_by false own found = output_terminal own found

  -- the terminal of a port, behind others
  abbrev pub port_terminal : VPort → Terminals → Grammar Terminals
  port_terminal port found = terminal_by port.input port.name found

  -- { "," NAME }: the terminals of these ports, behind others
  abbrev pub more_terminals : List VPort → Terminals → Grammar Terminals
  more_terminals [] found = r.Gives found
  more_terminals (port ∷ ports) found =
      expect is_same (codes ",") >>= λ _. port_terminal port found >>= λ more. more_terminals ports more

  -- NAME { "," NAME }: the terminals of these ports
  abbrev pub port_terminals : List VPort → Grammar Terminals
  port_terminals [] = r.Gives no_terminals
  port_terminals (port ∷ ports) = port_terminal port no_terminals >>= λ first. more_terminals ports first

  -- the name of the wire to an enable, which stands only behind all wires to inputs
  abbrev pub enable_name : Bool → ℕ → Option (List ℕ)
  enable_name ready number = if ready then Some (numbered enable number) else None

  -- { "," NAME }: so many wires to enables, from a number on
  abbrev pub more_enables : Bool → ℕ → ℕ → Grammar (Unit {0})
  more_enables ready number zero = r.Gives tt
  more_enables ready number (suc n) =
      expect is_same (codes ",") >>= λ _. this_name is_name is_same (enable_name ready number) >>= λ _. more_enables ready
      (number + 1) n

  -- no further terminal: behind a "," no name is known
  unfoldable pub no_terminal : Grammar (Unit {0})
  no_terminal = r.Choice (begins is_same (codes ",")) (λ _. this_name is_name is_same None) (r.Gives tt)

  -- the terminals of a core with these ports: the places among its outputs that are driven
  unfoldable pub core_terminals : List VPort → Grammar (List ℕ)
  core_terminals ports = do
    found ← port_terminals ports
    _ ← more_enables (nat_eq (length found.drives) count) 1 count
    _ ← no_terminal
    r.Gives found.drives
