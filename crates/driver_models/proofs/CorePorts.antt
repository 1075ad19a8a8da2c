-- The test of the ports of a core.
use Rattle.std.proofs.Common.{◌≡◌, ◌↔◌, ℕ, Bool, true, false, not, nat_eq, List, [], ◌∷◌, length, replicate, refl, sym, ap, ◌∙◌}
use Rattle.std.proofs.Common.{eqb-true}
use Rattle.std.specs.List.{list_all}
use Rattle.std.specs.Bool.{beq}
use Rattle.std.proofs.lemmas.Bool.{and_from, and_parts, eq-eqb, not-true as output_alone}
use Rattle.std.proofs.lemmas.List.{length-map, length-replicate}
use Rattle.udp_tables.specs.declared.models.VPort.{VPort}
use Rattle.driver_models.specs.Models.{directions, are_core_ports, AreCorePorts}
use Rattle.driver_models.specs.Laws.{CorePortsAreDecided}

abbrev is_output : VPort → Bool
is_output port = not port.input

-- ports that are all outputs
outputs_alone : (core : List VPort) → list_all is_output core ≡ true → directions core ≡ replicate (length core) false
outputs_alone [] e = refl
outputs_alone (port ∷ core) e =
    let parts = and_parts (not port.input) (list_all is_output core) e in
    ap (λ b. b ∷ directions core) (output_alone port.input parts.0) ∙ ap (λ rest. false ∷ rest) (outputs_alone core parts.1)

abbrev first_of : List Bool → Bool
first_of [] = false
first_of (b ∷ bs) = b

abbrev others_of : List Bool → List Bool
others_of [] = []
others_of (b ∷ bs) = bs

are_outputs : (core : List VPort) → directions core ≡ replicate (length core) false → list_all is_output core ≡ true
are_outputs [] e = refl
are_outputs (port ∷ core) e = and_from (not port.input) (list_all is_output core) (ap (λ bs. not (first_of bs)) e)
    (are_outputs core (ap others_of e))

behind : (driven : ℕ) (core : List VPort) → (are_core_ports [] driven core ≡ true) ↔ (directions core ≡ replicate driven false)
behind driven core = (forth, back)
  where
    forth : are_core_ports [] driven core ≡ true → directions core ≡ replicate driven false
    forth e =
        let parts = and_parts (nat_eq (length core) driven) (list_all is_output core) e in
        outputs_alone core parts.1 ∙ ap (λ (n : ℕ). replicate n false) (eqb-true (length core) driven parts.0)

    back : directions core ≡ replicate driven false → are_core_ports [] driven core ≡ true
    back e =
        let long : length core ≡ driven = sym (length-map core (λ (port : VPort). port.input)) ∙ ap (length {A = Bool}) e
        ∙ length-replicate driven false in
        and_from (nat_eq (length core) driven) (list_all is_output core) (eq-eqb (length core) driven long)
        (are_outputs core (e ∙ ap (λ (n : ℕ). replicate n false) (sym long)))

same : (a b : Bool) → beq a b ≡ true → a ≡ b
same true true e = refl
same false false e = refl
same true false e = absurd cc
same false true e = absurd cc

are_same : (a b : Bool) → a ≡ b → beq a b ≡ true
are_same true true e = refl
are_same false false e = refl
are_same true false e = absurd cc
are_same false true e = absurd cc

one_more : (port first : VPort) (ports : List VPort) (driven : ℕ) (core : List VPort)
    → ((are_core_ports ports driven core ≡ true) ↔ AreCorePorts ports driven core) →
    (are_core_ports (port ∷ ports) driven (first ∷ core) ≡ true) ↔ AreCorePorts (port ∷ ports) driven (first ∷ core)
one_more port first ports driven core others = (forth, back)
  where
    forth : are_core_ports (port ∷ ports) driven (first ∷ core) ≡ true → AreCorePorts (port ∷ ports) driven (first ∷ core)
    forth e =
        let parts = and_parts (beq first.input port.input) (are_core_ports ports driven core) e in
        ap (λ b. b ∷ directions core) (same first.input port.input parts.0) ∙ ap (λ rest. port.input ∷ rest) (others.0 parts.1)

    back : AreCorePorts (port ∷ ports) driven (first ∷ core) → are_core_ports (port ∷ ports) driven (first ∷ core) ≡ true
    back e =
        and_from (beq first.input port.input) (are_core_ports ports driven core) (are_same first.input port.input (ap first_of e))
        (others.1 (ap others_of e))

pub core_ports_are_decided : CorePortsAreDecided
core_ports_are_decided [] driven core = behind driven core
core_ports_are_decided (port ∷ ports) driven [] = ((λ e. absurd cc), (λ e. absurd cc))
core_ports_are_decided (port ∷ ports) driven (first ∷ core) =
    one_more port first ports driven core (core_ports_are_decided ports driven core)
