-- Modules that are read: the names of their headers and declarations.
use Rattle.std.proofs.Common.{◌≡◌, ℕ, suc, ◌+◌, ◌<◌, Bool, true, List, [], ◌∷◌, ◌++◌, length, drop, get_or, slice_set, inl, inr}
use Rattle.std.proofs.Common.{Option, Some, None, refl, sym, ap, subst, ◌∙◌, arith, append_assoc}
use Rattle.std.specs.Str.{bytes_eq}
use Rattle.std.specs.Option.{option_map}
use Rattle.std.specs.List.{position_from}
use Rattle.std.proofs.lemmas.Bool.{cases_Bool}
use Rattle.std.proofs.lemmas.List.{append-nil, map_push, get_or-drop}
use Rattle.std.proofs.lemmas.Slice.Eq.{bytes_eq-Decides}
use Rattle.std.proofs.Math.Seq.{map-set_same}
use Rattle.grammar_rules.specs.Rule.{Fits}
use Rattle.grammar_rules.proofs.Promises.{Promises, gives, in_turn, many, choice}
use Rattle.udp_tables.specs.declared.table.Udp.{Udp}
use Rattle.udp_tables.specs.declared.models.VPort.{VPort}
use Rattle.specify_blocks.specs.declared.model.VModule.{VModule}
use Rattle.verilog_tokens.specs.Tokens.{is_name}
use Rattle.udp_tables.specs.VerilogRules.{place_from}
use Rattle.verilog_grammar.specs.VerilogModules.{port_name, port_names, plain_port, input_port, next_port, more_ports, some_ports}
use Rattle.verilog_grammar.specs.VerilogModules.{header, Inputs, with_input, input_at, declared_input, declared_inputs}
use Rattle.verilog_grammar.specs.VerilogModules.{declared_wire, declared_wires, declared_notifier, notifier, declarations}
use Rattle.verilog_grammar.specs.WellFormed.{register_names, inner_names}
use Rattle.verilog_grammar.proofs.ReadNames.{IsSpelled, AreNames, a_name, push_name, no_names, one_name, fits_same, some_if}
use Rattle.verilog_grammar.proofs.ReadNames.{new_names, known_values, behind}

-- Headers, whose ports are names of which none stands twice.

abbrev AreNamed : List VPort → Type 0
AreNamed ports = AreNames (port_names ports)

one_port : (ports : List VPort) → AreNamed ports → Promises IsSpelled (next_port ports) AreNamed
unfolding next_port
one_port ports h =
    in_turn (new_names (port_names ports)) (λ name new.
    gives (subst AreNames (sym (map_push port_name ports (plain_port name))) (push_name (port_names ports) name h new)))

all_ports : (ports : List VPort) → AreNamed ports → Promises IsSpelled (more_ports ports) AreNamed
unfolding more_ports
all_ports ports h = many h (λ found x a q p e. one_port found q)

any_ports : Promises IsSpelled some_ports AreNamed
unfolding some_ports
any_ports =
    choice
    (λ x a p e.
    let f = some_if (is_name x) (Fits x) (Fits a) e in
    subst (λ name. Promises IsSpelled (more_ports (plain_port name ∷ [])) AreNamed) (fits_same x a f.1)
    (all_ports (plain_port x ∷ []) (one_name x (a_name x p f.0))))
    (gives no_names)

headers : Promises IsSpelled header AreNamed
unfolding header
headers =
    behind (λ a. in_turn any_ports (λ ports named. behind (λ b. behind (λ c. gives named))))

-- Ports that are declared inputs keep their names.

abbrev Place : {X : Type 0} → (X → Bool) → ℕ → List X → ℕ → Type 0
Place test i xs p = (k : ℕ) × (p ≡ i + k) × (k < length xs) × ((d : _) → test (get_or xs k d) ≡ true)

place_of : {X : Type 0} (test : X → Bool) (i : ℕ) (xs : List X) (p : ℕ) → position_from test i xs ≡ Some p → Place test i xs p
place_of test i [] p e = absurd cc
place_of test i (x ∷ xs) p e =
    elim (cases_Bool (test x)) [
      | inl t ↦
          let here : Some i ≡ Some p = rw t at e in
          let same : i ≡ p = cc in
          (0, omega (arith, same), omega arith, λ d. t)
      | inr t ↦
          let rest : position_from test (i + 1) xs ≡ Some p = rw t at e in
          let found = place_of test (i + 1) xs p rest in
          let same = found.1 in
          let below = found.2 in
          (suc found.0, omega (arith, same), omega (arith, below), found.3)
    ]

mapped : {A B : Type 0} (f : A → B) (o : Option A) (b : B) → option_map f o ≡ Some b → (a : A) × (o ≡ Some a) × (f a ≡ b)
mapped f None b e = absurd cc
mapped f (Some a) b e = (a, refl, cc)

set_named : (x : List ℕ) (ports : List VPort) (from p : ℕ)
    → place_from (λ (port : VPort). bytes_eq x port.name) from ports ≡ Some p
    → port_names (slice_set ports p (input_port x)) ≡ port_names ports
set_named x ports from p e =
    let found = place_of (λ (port : VPort). bytes_eq x port.name) from (drop from ports) p e in
    let at : get_or (drop from ports) found.0 (plain_port x) ≡ get_or ports (from + found.0) (plain_port x) =
    get_or-drop from ports found.0 (plain_port x) in
    let named : x ≡ (get_or (drop from ports) found.0 (plain_port x)).name =
    (bytes_eq-Decides x (get_or (drop from ports) found.0 (plain_port x)).name).0 (found.3 (plain_port x)) in
    map-set_same port_name ports p (input_port x) (plain_port x)
    (named ∙ ap port_name at ∙ ap (λ k. (get_or ports k (plain_port x)).name) (sym found.1))

pub input_named : (found : Inputs) (x : List ℕ) (more : Inputs) → input_at found x ≡ Some more
    → port_names more.ports ≡ port_names found.ports
input_named found x more e =
    let place = mapped (with_input x found.ports) (place_from (λ (port : VPort). bytes_eq x port.name) found.behind found.ports)
    more e in
    ap (λ (i : Inputs). port_names i.ports) (sym place.2) ∙ set_named x found.ports found.behind place.0 place.1

abbrev pub HasNames : List VPort → Inputs → Type 0
HasNames ports found = port_names found.ports ≡ port_names ports

one_input : (ports : List VPort) (found : Inputs) → HasNames ports found
    → Promises IsSpelled (declared_input found) (HasNames ports)
unfolding declared_input
one_input ports found h =
    in_turn (known_values (input_at found)) (λ more f. behind (λ a. gives (input_named found f.0 more f.1 ∙ h)))

inputs : (ports : List VPort) (found : Inputs) → HasNames ports found
    → Promises IsSpelled (declared_inputs found) (HasNames ports)
unfolding declared_inputs
inputs ports found h = many h (λ w x a q p e. one_input ports w q)

-- Wires and the register.

abbrev AreWires : List VPort → List (List ℕ) → Type 0
AreWires ports wires = AreNames (port_names ports ++ wires)

one_wire : (ports : List VPort) (wires : List (List ℕ)) → AreWires ports wires
    → Promises IsSpelled (declared_wire ports wires) (AreWires ports)
unfolding declared_wire
one_wire ports wires h =
    in_turn (new_names (port_names ports ++ wires))
    (λ name new. behind (λ a. gives
    (subst AreNames (append_assoc (port_names ports) wires (name ∷ [])) (push_name (port_names ports ++ wires) name h new))))

all_wires : (ports : List VPort) → AreNamed ports → Promises IsSpelled (declared_wires ports) (AreWires ports)
unfolding declared_wires
all_wires ports h = many (subst AreNames (sym (append-nil (port_names ports))) h) (λ wires x a q p e. one_wire ports wires q)

abbrev AreInner : List VPort → List (List ℕ) → Option (List ℕ) → Type 0
AreInner ports wires register = AreNames (port_names ports ++ wires ++ register_names register)

one_notifier : (ports : List VPort) (wires : List (List ℕ)) → AreWires ports wires
    → Promises IsSpelled (declared_notifier ports wires) (AreInner ports wires)
unfolding declared_notifier
one_notifier ports wires h =
    in_turn (new_names (port_names ports ++ wires))
    (λ name new. behind (λ a. gives (push_name (port_names ports ++ wires) name h new)))

notifiers : (ports : List VPort) (wires : List (List ℕ)) → AreWires ports wires
    → Promises IsSpelled (notifier ports wires) (AreInner ports wires)
unfolding notifier
notifiers ports wires h =
    choice (λ x a p e. one_notifier ports wires h)
    (gives (subst AreNames (sym (append-nil (port_names ports ++ wires))) h))

-- a module of which only the declarations were read
pub record IsBare (name : List ℕ) (udps : List Udp) (m : VModule) : Type 0 where
  pub named : m.name ≡ name
  pub primitives : m.udps ≡ udps
  pub inner : AreNames (inner_names m)
  pub no_instances : m.instances ≡ []
  pub no_paths : m.paths ≡ []
  pub no_checks : m.checks ≡ []

pub bare_modules : (name : List ℕ) (udps : List Udp) → Promises IsSpelled (declarations name udps) (IsBare name udps)
unfolding declarations
bare_modules name udps =
    in_turn headers (λ plain named.
    in_turn (inputs plain (record { ports = plain; behind = 0 }) refl) (λ found same.
    behind (λ a. in_turn (all_wires found.ports (subst AreNames (sym same) named)) (λ wires h.
    in_turn (notifiers found.ports wires h) (λ register inner.
    gives (record { named = refl; primitives = refl; inner = inner; no_instances = refl; no_paths = refl; no_checks = refl }))))))
