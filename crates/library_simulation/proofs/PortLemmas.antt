-- Lists of ports that are the same.
use Rattle.std.proofs.Common.{◌≡◌, ◌≢◌, Bool, true, false, List, [], ◌∷◌, length, refl, sym, ap, ◌∙◌}
use Rattle.std.proofs.lemmas.Bool.{and_parts}
use Rattle.std.proofs.lemmas.List.{length-map}
use Rattle.driver_models.specs.Models.{is_input, directions}
use Rattle.stimulus.specs.Differences.{same_fact}
use Rattle.stimulus.proofs.Compared.{same_fact-is}
use Rattle.udp_tables.specs.declared.models.VPort.{VPort}
use Rattle.library_simulation.specs.declared.same_ports.Spelling.{Spelling}
use Rattle.library_simulation.specs.SamePorts.{same_name, same_port, same_ports}

-- ports that are the same have the same directions

same_way : (spelling : Spelling) (one other : VPort) → same_port spelling one other ≡ true → one.input ≡ other.input
same_way spelling one other e =
    same_fact-is one.input other.input (and_parts (same_name spelling one.name other.name) (same_fact one.input other.input) e).1

pub same_directions : (spelling : Spelling) (ports others : List VPort) → same_ports spelling ports others ≡ true
    → directions ports ≡ directions others
same_directions spelling [] [] e = refl
same_directions spelling [] (other ∷ others) e = absurd cc
same_directions spelling (port ∷ ports) [] e = absurd cc
same_directions spelling (port ∷ ports) (other ∷ others) e =
    let parts = and_parts (same_port spelling port other) (same_ports spelling ports others) e in
    let way = same_way spelling port other parts.0 in
    let more = same_directions spelling ports others parts.1 in
    λ i. way i ∷ more i

-- so there are as many of them
same_length : (spelling : Spelling) (ports others : List VPort) → same_ports spelling ports others ≡ true
    → length ports ≡ length others
same_length spelling ports others e =
    sym (length-map ports is_input) ∙ ap length (same_directions spelling ports others e) ∙ length-map others is_input

pub other_length : (spelling : Spelling) (ports others : List VPort) → length ports ≢ length others
    → false ≡ same_ports spelling ports others
other_length spelling ports others h = by (same_ports spelling ports others) refl
  where
    by : (b : Bool) → same_ports spelling ports others ≡ b → false ≡ b
    by true e = absurd (h (same_length spelling ports others e))
    by false e = refl
