-- Drivers that are read from VHDL text have ports of different names, whatever the case of their letters.
use Rattle.std.proofs.Common.{◌≡◌, ℕ, Bool, true, false, ◌||◌, if◌then◌else◌, List, [], ◌∷◌, ◌++◌, sym, subst}
use Rattle.std.specs.Str.{str_eq_ignore_ascii_case}
use Rattle.std.specs.List.{IsDistinct}
use Rattle.std.proofs.lemmas.List.{map_push}
use Rattle.grammar_rules.specs.Rule.{Verdict, Fits, Foul, Misfit}
use Rattle.grammar_rules.proofs.Promises.{Promises, token, gives, in_turn, many}
use Rattle.grammar_reader.specs.declared.refusal.Refusal.{Refusal}
use Rattle.grammar_reader.specs.declared.refusal.Refusal.TheVariants.{Syntax, Undefined, Twice}
use Rattle.grammar_reader.specs.Words.{is_among}
use Rattle.grammar_reader.proofs.Passing.{fits_if, fits_unless}
use Rattle.udp_tables.specs.declared.models.VPort.{VPort}
use Rattle.vhdl_tokens.specs.Tokens.{is_name}
use Rattle.vhdl_tokens.specs.Spelling.{is_same}
use Rattle.vhdl_grammar.specs.VhdlDeclarations.{name_of_port, port_names, has_underscore, port_by, next_port, port_list}
use Rattle.vhdl_grammar.specs.WellFormed.{AreApart}
use Rattle.model_replay.proofs.SameNames.{push_apart}
use Rattle.file_models.specs.driver_models.Cores.{Core}
use Rattle.driver_texts.specs.Sections.{section}
use Rattle.file_models.proofs.driver_texts.SoundCores.{AnyToken, behind}
use Rattle.vhdl_drivers.specs.DriverSections.{driver_name, driver_ports, section_front, core_call, section_core}
use Rattle.vhdl_drivers.specs.DriverSections.{section_process, section_rest, vhdl_section_grammar}
use Rattle.vhdl_drivers.proofs.StandingDrivers.{section_ends}
use Rattle.model_replay.proofs.NamedDrivers.{IsNamed, ReadsNamed, reads_named, declared_names, core_names}

-- Ports.

abbrev AreNamed : List VPort → Type 0
AreNamed ports = AreApart (port_names ports)

record IsNewPort (ports : List VPort) (x : List ℕ) : Type 0 where
  token : is_name x ≡ true
  new : is_among is_same (port_names ports) x ≡ false

fits_else : {A : Type 0} (b : Bool) (v : Verdict A Refusal) (k : Refusal) (a : A) → (if b then Misfit k else v) ≡ Fits a
    → v ≡ Fits a
fits_else true v k a e = absurd cc
fits_else false v k a e = e

other : (a b : Bool) → (a || b) ≡ false → b ≡ false
other true b e = absurd cc
other false b e = e

new_port : (ports : List VPort) (x name : List ℕ) → (if is_name x then port_by [] ports x else Misfit Syntax) ≡ Fits name
    → IsNewPort ports name
new_port ports x name e =
    let n = fits_if (is_name x) (port_by [] ports x) Syntax name e in
    let u = fits_else (has_underscore x) (if is_among is_same ([] ∷ port_names ports) x then Foul Twice x else Fits x) Undefined
    name n.1 in
    let f = fits_unless (is_among is_same ([] ∷ port_names ports) x) Twice x name u in
    subst (IsNewPort ports) f.1 (record { token = n.0; new = other (is_same x []) (is_among is_same (port_names ports) x) f.0 })

push_port : (ports : List VPort) (name : List ℕ) (input : Bool) → AreNamed ports → IsNewPort ports name
    → AreNamed (ports ++ record { name = name; input = input } ∷ [])
push_port ports name input h new =
    subst AreApart (sym (map_push name_of_port ports (record { name = name; input = input })))
    (push_apart (port_names ports) name h new.token new.new)

one_port : (ports : List VPort) → AreNamed ports → Promises AnyToken (next_port [] ports) AreNamed
unfolding next_port
one_port ports h =
    in_turn (token (λ x name p e. new_port ports x name e)) (λ name new.
    behind (λ a. behind (λ input. behind (λ b. gives (push_port ports name input h new)))))

no_ports : AreNamed []
unfolding IsDistinct
no_ports = tt

ports_named : Promises AnyToken driver_ports AreNamed
unfolding driver_ports port_list
ports_named =
    behind (λ a. behind (λ b. in_turn (one_port [] no_ports) (λ first f.
    in_turn (many f (λ w x a q p e. one_port w q)) (λ ports h.
    behind (λ c. gives h)))))

-- Sections.

fronts : (names : List (List ℕ)) → Promises AnyToken (section_front names) (λ front. (is_name front.name ≡ true)
    × AreNamed front.ports)
unfolding section_front driver_name
fronts names =
    behind (λ a. behind (λ b. in_turn (behind (λ c. declared_names is_name is_same names)) (λ name is.
    behind (λ d. in_turn ports_named (λ ports h. behind (λ f. gives (is, h)))))))

cores_named : (cores : List Core) (ports : List VPort)
    → Promises AnyToken (section_core cores ports) (λ call. is_name call.core ≡ true)
unfolding section_core core_call
cores_named cores ports =
    behind (λ driven. behind (λ a. in_turn (core_names is_name is_same cores ports driven)
    (λ core is. behind (λ drives. gives is))))

named_sections : (names : List (List ℕ)) (cores : List Core)
    → Promises AnyToken (section vhdl_section_grammar names cores) (IsNamed is_name str_eq_ignore_ascii_case)
unfolding section section_rest section_process
named_sections names cores =
    in_turn (fronts names) (λ front h. in_turn (cores_named cores front.ports) (λ call is.
    behind (λ paths. behind (λ a. gives (record { name = h.0; core = is; ports = h.1 })))))

-- the driver of a section has ports of different names
pub text_is_named : ReadsNamed vhdl_section_grammar is_name str_eq_ignore_ascii_case
text_is_named = reads_named vhdl_section_grammar is_name str_eq_ignore_ascii_case section_ends named_sections
