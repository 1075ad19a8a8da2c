-- The wait at the end of a process, which stands there where no port is an input.
use Rattle.std.proofs.Common.{◌≡◌, Bool, true, false, ◌||◌, cond, List, [], ◌∷◌, refl}
use Rattle.std.specs.List.{filter, list_any}
use Rattle.grammar_rules.specs.Rule as r
use Rattle.vhdl_declarations_reader.specs.udp_tables.declared.models.VPort.{VPort}
use Rattle.vhdl_declarations_reader.specs.vhdl_grammar.VhdlDeclarations.{input_names, port_names}
use Rattle.vhdl_declarations_reader.specs.vhdl_grammar.VhdlText.{last_wait}

abbrev is_input : VPort → Bool
is_input port = port.input

pub no_input : (ports : List VPort) → list_any is_input ports ≡ false → input_names ports ≡ []
no_input [] e = refl
no_input (port ∷ ports) e = by port.input (no_input ports) e
  where
    by : (b : Bool) → (list_any is_input ports ≡ false → input_names ports ≡ []) → (b || list_any is_input ports) ≡ false
        → port_names (cond b (port ∷ filter is_input ports) (filter is_input ports)) ≡ []
    by true others f = absurd cc
    by false others f = others f

pub some_input : (ports : List VPort) → list_any is_input ports ≡ true → last_wait (input_names ports) ≡ r.Gives tt
some_input [] e = absurd cc
some_input (port ∷ ports) e = by port.input (some_input ports) e
  where
    by : (b : Bool) → (list_any is_input ports ≡ true → last_wait (input_names ports) ≡ r.Gives tt)
        → (b || list_any is_input ports) ≡ true
        → last_wait (port_names (cond b (port ∷ filter is_input ports) (filter is_input ports))) ≡ r.Gives tt
    by true others f = refl
    by false others f = others f
