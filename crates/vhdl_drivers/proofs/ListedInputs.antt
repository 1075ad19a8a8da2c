-- The inputs in a list of names.
use Rattle.std.proofs.Common.{◌≡◌, Bool, true, false, if◌then◌else◌, List, [], ◌∷◌, ◌++◌, refl, ap}
use Rattle.std.specs.List.{flat_map, filter}
use Rattle.udp_tables.specs.declared.models.VPort.{VPort}
use Rattle.vhdl_grammar.specs.VhdlDeclarations.{port_names, input_names}
use Rattle.driver_texts.specs.NumberedNames.{next_name_text}
use Rattle.vhdl_drivers.specs.DriverText.{next_input_text}

abbrev is_input : VPort → Bool
is_input port = port.input

one_more : (port : VPort) (ports : List VPort) → flat_map next_input_text ports ≡ flat_map next_name_text (input_names ports)
    → (b : Bool)
    → (if b then next_name_text port.name else []) ++ flat_map next_input_text ports
    ≡ flat_map next_name_text (port_names (if b then port ∷ filter is_input ports else filter is_input ports))
one_more port ports e true = ap (λ text. next_name_text port.name ++ text) e
one_more port ports e false = e

pub inputs_listed : (ports : List VPort) → flat_map next_input_text ports ≡ flat_map next_name_text (input_names ports)
inputs_listed [] = refl
inputs_listed (port ∷ ports) = one_more port ports (inputs_listed ports) port.input
