-- Which names of a cell library are kept in VHDL text, and what takes the place of the others. This project's rules.
use Rattle.std.specs.Prelude.{ℕ, ◌+◌, Bool, not, ◌&&◌, ◌||◌, List, ◌++◌, codes, decimal, length, is_some, if◌then◌else◌}
use Rattle.std.specs.List.{list_any}
use Rattle.std.specs.Str.{str_eq_ignore_ascii_case}
use Rattle.bool_functions.specs.NameList.{number_of}
use Rattle.vhdl_tokens.specs.Kept.{is_identifier, is_plain, is_numbered, is_free, lowered}
use Rattle.vital_tables.specs.udp_tables.declared.models.VPort.{VPort}

-- The name of a cell is kept, where the entities before it have these names in lower case.
unfoldable pub is_kept_entity_name : List (List ℕ) → List ℕ → Bool
is_kept_entity_name given name =
    is_identifier name && (is_free name
    && (not (is_numbered (codes "cell") name) && not (is_some (number_of given (lowered name)))))

-- a name where it is kept, else a word and a number
abbrev pub name_or_numbered : Bool → List ℕ → List ℕ → ℕ → List ℕ
name_or_numbered kept name word number = if kept then name else word ++ decimal number

-- The name of the entity of the cell with this number: the cell's, or `cell` and its number where that is not kept.
abbrev pub entity_name : ℕ → List (List ℕ) → List ℕ → List ℕ
entity_name number given name = name_or_numbered (is_kept_entity_name given name) name (codes "cell") number

-- The name of a cell is kept for the entity of its three-state drivers, whose architecture is called `driven`.
abbrev pub is_kept_driver_name : List (List ℕ) → List ℕ → Bool
is_kept_driver_name given name = is_kept_entity_name given name && not (str_eq_ignore_ascii_case name (codes "driven"))

-- The name of the entity of a cell's three-state drivers, of the cell with this number: the cell's, or `vitalz` and its number
-- where that is not kept.
abbrev pub driver_name : ℕ → List (List ℕ) → List ℕ → List ℕ
driver_name number given name = name_or_numbered (is_kept_driver_name given name) name (codes "vitalz") number

-- The name is that of the entity or of one of these ports, whatever the case of its letters.
abbrev pub is_taken : List ℕ → List VPort → List ℕ → Bool
is_taken entity ports name =
    str_eq_ignore_ascii_case entity name || list_any (λ (port : VPort). str_eq_ignore_ascii_case port.name name) ports

-- The name of a port is kept, where the entity has this name and these ports stand before it.
unfoldable pub is_kept_port_name : List ℕ → List VPort → List ℕ → Bool
is_kept_port_name entity ports name = is_plain name && (is_free name && not (is_taken entity ports name))

-- The name of the port after these: the pin's, or `pin` and the port's number, from 1, where that is not kept.
abbrev pub port_name : List ℕ → List VPort → List ℕ → List ℕ
port_name entity ports name = if is_kept_port_name entity ports name then name else codes "pin" ++ decimal (length ports + 1)
