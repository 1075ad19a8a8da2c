-- Drivers that are read from Verilog text have ports of different names.
use Rattle.std.proofs.Common.{◌≡◌, ℕ, true, List, [], ◌∷◌, refl, sym, subst, ◌∙◌}
use Rattle.std.specs.Str.{bytes_eq}
use Rattle.std.specs.List.{IsDistinct}
use Rattle.std.proofs.lemmas.List.{map_push}
use Rattle.std.proofs.lemmas.Map.Keys.{IsDistinct-push}
use Rattle.std.proofs.lemmas.Cmp.{nat_list_eq_equiv as bytes_equivalence}
use Rattle.grammar_rules.proofs.Promises.{Promises, gives, in_turn, many, choice}
use Rattle.udp_tables.specs.declared.models.VPort.{VPort}
use Rattle.verilog_tokens.specs.Tokens.{is_name}
use Rattle.verilog_grammar.specs.VerilogModules.{port_name, port_names, plain_port, next_port, more_ports, some_ports, Inputs}
use Rattle.verilog_grammar.specs.VerilogModules.{input_at, declared_input, declared_inputs}
use Rattle.verilog_grammar.specs.WellFormed.{AreApart}
use Rattle.verilog_grammar.proofs.ReadHeaders.{HasNames, input_named}
use Rattle.file_models.specs.driver_models.Cores.{Core}
use Rattle.driver_texts.specs.Sections.{section}
use Rattle.file_models.proofs.driver_texts.SoundCores.{AnyToken, behind, known_values}
use Rattle.file_models.proofs.driver_texts.StandingCores.{new_names}
use Rattle.verilog_drivers.specs.DriverSections.{driver_header, driver_ports, section_front, core_call, section_body}
use Rattle.verilog_drivers.specs.DriverSections.{section_rest, verilog_section_grammar}
use Rattle.verilog_drivers.proofs.StandingDrivers.{section_ends}
use Rattle.model_replay.proofs.NamedDrivers.{IsNamed, ReadsNamed, reads_named, declared_names, core_names}

-- Headers.

abbrev AreNamed : List VPort → Type 0
AreNamed ports = AreApart (port_names ports)

one_port : (ports : List VPort) → AreNamed ports → Promises AnyToken (next_port ports) AreNamed
unfolding next_port
one_port ports h =
    in_turn (new_names is_name bytes_eq (port_names ports)) (λ name new.
    gives (subst AreApart (sym (map_push port_name ports (plain_port name)))
    (IsDistinct-push bytes_equivalence (port_names ports) name h new)))

all_ports : (ports : List VPort) → AreNamed ports → Promises AnyToken (more_ports ports) AreNamed
unfolding more_ports
all_ports ports h = many h (λ found x a q p e. one_port found q)

no_ports : AreNamed []
unfolding IsDistinct
no_ports = tt

first_alone : (name : List ℕ) → AreNamed (plain_port name ∷ [])
unfolding IsDistinct
first_alone name = (tt, tt)

any_ports : Promises AnyToken some_ports AreNamed
unfolding some_ports
any_ports = choice (λ x a p e. all_ports (plain_port a ∷ []) (first_alone a)) (gives no_ports)

headers : Promises AnyToken driver_header AreNamed
unfolding driver_header
headers = behind (λ a. behind (λ b. in_turn any_ports (λ ports h. behind (λ c. behind (λ d. gives h)))))

-- Ports that are declared inputs keep their names.

one_input : (ports : List VPort) (found : Inputs) → HasNames ports found
    → Promises AnyToken (declared_input found) (HasNames ports)
unfolding declared_input
one_input ports found h =
    in_turn (known_values is_name (input_at found)) (λ more f. behind (λ a. gives (input_named found f.0 more f.1 ∙ h)))

inputs : (ports : List VPort) (found : Inputs) → HasNames ports found → Promises AnyToken (declared_inputs found) (HasNames ports)
unfolding declared_inputs
inputs ports found h = many h (λ w x a q p e. one_input ports w q)

ports_named : Promises AnyToken driver_ports AreNamed
unfolding driver_ports
ports_named =
    in_turn headers (λ plain h. in_turn (inputs plain (record { ports = plain; behind = 0 }) refl) (λ found same.
    behind (λ a. gives (subst AreApart (sym same) h))))

-- Sections.

fronts : (names : List (List ℕ)) → Promises AnyToken (section_front names) (λ front. (is_name front.name ≡ true)
    × AreNamed front.ports)
unfolding section_front
fronts names =
    behind (λ a. behind (λ b. in_turn (declared_names is_name bytes_eq names)
    (λ name is. in_turn ports_named (λ ports h. gives (is, h)))))

calls : (cores : List Core) (ports : List VPort) (driven : ℕ)
    → Promises AnyToken (core_call cores ports driven) (λ call. is_name call.core ≡ true)
unfolding core_call
calls cores ports driven =
    in_turn (core_names is_name bytes_eq cores ports driven) (λ core is.
    behind (λ a. behind (λ b. behind (λ drives. behind (λ c. behind (λ d. gives is))))))

bodies : (cores : List Core) (ports : List VPort)
    → Promises AnyToken (section_body cores ports) (λ body. is_name body.call.core ≡ true)
unfolding section_body
bodies cores ports = behind (λ driven. in_turn (calls cores ports driven) (λ call is. behind (λ a. behind (λ paths. gives is))))

named_sections : (names : List (List ℕ)) (cores : List Core)
    → Promises AnyToken (section verilog_section_grammar names cores) (IsNamed is_name bytes_eq)
unfolding section section_rest
named_sections names cores =
    in_turn (fronts names) (λ front h. in_turn (bodies cores front.ports)
    (λ body is. behind (λ a. gives (record { name = h.0; core = is; ports = h.1 }))))

-- the driver of a section has ports of different names
pub text_is_named : ReadsNamed verilog_section_grammar is_name bytes_eq
text_is_named = reads_named verilog_section_grammar is_name bytes_eq section_ends named_sections
