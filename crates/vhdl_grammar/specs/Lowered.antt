-- Names that are found whatever the case of their letters: lists of them in lower case.
use Rattle.std.specs.Prelude.{◌≡◌, ℕ, List, map, drop}
use Rattle.std.specs.List.{list_any}
use Rattle.std.specs.Str.{bytes_eq}
use Rattle.udp_tables.specs.declared.models.VPort.{VPort}
use Rattle.vital_tables.specs.Sound.{output_ports_from}
use Rattle.vhdl_tokens.specs.Kept.{lowered}
use Rattle.vhdl_grammar.specs.VhdlDeclarations.{port_names}

-- these names in lower case
abbrev pub all_lowered : List (List ℕ) → List (List ℕ)
all_lowered names = map lowered names

-- a name is among the first exactly where it is one of the others in lower case
abbrev pub HaveSame : List (List ℕ) → List (List ℕ) → Type 0
HaveSame names others = (name : List ℕ) → list_any (bytes_eq name) names ≡ list_any (bytes_eq name) (all_lowered others)

-- what is kept beside ports: the names in lower case of those behind the first 16, and the numbers of the outputs, both in order
pub record AreKeptOf (ports : List VPort) (names : List (List ℕ)) (outputs : List ℕ) : Type 0 where
  pub named : names ≡ all_lowered (port_names (drop 16 ports))
  pub counted : outputs ≡ output_ports_from 0 ports
