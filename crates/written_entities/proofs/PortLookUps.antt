-- The ports of a written entity by their names.
use Rattle.std.proofs.Common.{◌≡◌, ℕ, Bool, true, false, ◌||◌, IsTrue, List, [], ◌∷◌, ◌++◌, Some, slice_get, refl}
use Rattle.std.proofs.Common.{sym, ap, ◌∙◌, subst}
use Rattle.std.specs.List.{IsDistinct, list_any, position}
use Rattle.std.specs.Option.{option_map}
use Rattle.std.proofs.lemmas.List.{map-append}
use Rattle.std.proofs.lemmas.List.Elements.{recursion_from_All}
use Rattle.std.proofs.lemmas.Option.{slice_get-map}
use Rattle.udp_tables.specs.declared.models.VPort.{VPort}
use Rattle.vital_models.specs.declared.model.VEntity.{VEntity}
use Rattle.udp_tables.specs.Ports.{is_input_port}
use Rattle.vhdl_tokens.specs.Spelling.{is_same}
use Rattle.vhdl_grammar.specs.VhdlRules.{is_among}
use Rattle.vhdl_grammar.specs.VhdlDeclarations.{name_of_port, port_names}
use Rattle.vhdl_grammar.specs.VhdlNames.{kept, port_of, input_of, an_input}
use Rattle.vhdl_grammar.specs.WellFormed.{IsPortName, AreApart, IsWellFormedEntity}
use Rattle.vhdl_writer.specs.Names.{port_at}
use Rattle.grammar_reader.proofs.Derivations.{Reads}
use Rattle.grammar_reader.proofs.ItemPlaces.{item_at, all_at, passing}
use Rattle.written_entities.proofs.Names.{IsNamed, port_named, same_self}
use Rattle.written_entities.proofs.NameReading.{known_as, is_new, first_place}

pub apart_rest : (x : List ℕ) (xs : List (List ℕ)) → AreApart (x ∷ xs) → AreApart xs
unfolding IsDistinct
apart_rest x xs h = h.1

-- the name of a port is one
pub port_is : (e : VEntity) → IsWellFormedEntity e → (p : ℕ) (port : VPort) → slice_get e.ports p ≡ Some port
    → IsPortName port.name
port_is e w p port h =
    all_at IsPortName (port_names e.ports) p port.name (recursion_from_All IsPortName (port_names e.ports) w.ports)
    (slice_get-map name_of_port e.ports p ∙ ap (option_map name_of_port) h)

among_ports : (x : List ℕ) (ports : List VPort)
    → list_any (λ (port : VPort). is_same x port.name) ports ≡ is_among (port_names ports) x
among_ports x [] = refl
among_ports x (port ∷ ports) = ap (λ (t : Bool). is_same x port.name || t) (among_ports x ports)

-- a port's name stands at its place
port_place : (e : VEntity) → IsWellFormedEntity e → (p : ℕ) (port : VPort) → slice_get e.ports p ≡ Some port
    → port_of e.ports port.name ≡ Some p
port_place e w p port h =
    let at = item_at e.ports p port h in
    let split : port_names e.ports ≡ port_names at.before ++ port.name ∷ port_names at.after =
    ap port_names at.split ∙ map-append name_of_port at.before (port ∷ at.after) in
    let new : is_among (port_names at.before) port.name ≡ false =
    is_new (port_names at.before) port.name (port_names at.after) (port_named port.name (port_is e w p port h))
    (subst AreApart split (apart_rest e.name (port_names e.ports) w.apart)) in
    ap (λ (l : List VPort). position (λ (q : VPort). is_same port.name q.name) l) at.split
    ∙ first_place (λ (q : VPort). is_same port.name q.name) at.before port at.after (among_ports port.name at.before ∙ new)
    (same_self port.name)
    ∙ ap (λ (n : ℕ). Some n) at.place

pub port_at_is : (e : VEntity) (p : ℕ) (port : VPort) → slice_get e.ports p ≡ Some port → port_at e p ≡ port.name
port_at_is e p port h = rw h refl

-- the name of an input, and what it stands for
pub input_is : (e : VEntity) → IsWellFormedEntity e → (p : ℕ) → IsTrue (is_input_port e.ports p) → IsPortName (port_at e p)
input_is e w p h =
    let at = passing (λ (port : VPort). port.input) (slice_get e.ports p) h in
    subst IsPortName (sym (port_at_is e p at.0 at.1)) (port_is e w p at.0 at.1)

pub input_named : (e : VEntity) → IsWellFormedEntity e → (p : ℕ) → IsTrue (is_input_port e.ports p) → IsNamed (port_at e p)
input_named e w p h = port_named (port_at e p) (input_is e w p h)

pub kept_one : (test : ℕ → Bool) (n : ℕ) → test n ≡ true → kept test (Some n) ≡ Some n
kept_one test n h = rw h refl

pub input_found : (e : VEntity) → IsWellFormedEntity e → (p : ℕ) → IsTrue (is_input_port e.ports p)
    → input_of e.ports (port_at e p) ≡ Some p
input_found e w p h =
    let at = passing (λ (port : VPort). port.input) (slice_get e.ports p) h in
    ap (kept (is_input_port e.ports)) (ap (port_of e.ports) (port_at_is e p at.0 at.1) ∙ port_place e w p at.0 at.1)
    ∙ kept_one (is_input_port e.ports) p h

pub input_read : (e : VEntity) → IsWellFormedEntity e → (p : ℕ) {s : List (List ℕ)} → IsTrue (is_input_port e.ports p)
    → Reads (an_input e.ports) (port_at e p ∷ s) p s
unfolding an_input
input_read e w p h = known_as (input_of e.ports) (input_named e w p h) (input_found e w p h)
