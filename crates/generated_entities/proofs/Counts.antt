-- The entity of a cell has few parts: the limits of cells are far below those of texts.
use Rattle.std.proofs.Common.{◌≡◌, ℕ, zero, suc, ◌+◌, ◌*◌, ◌^◌, ◌≤◌, Bool, true, false, List, [], ◌∷◌, ◌++◌, length, map, arith}
use Rattle.std.proofs.Common.{nat_le, nat_eq, Option, Some, None, if◌then◌else◌, length-append}
use Rattle.std.specs.Prelude.{filter, flat_map}
use Rattle.std.specs.List.{list_any}
use Rattle.std.proofs.lemmas.Bool.{and_parts, leb-true}
use Rattle.std.proofs.lemmas.List.{length-map}
use Rattle.std.proofs.lemmas.List.Sums.{length-filter, count_by-le-length}
use Rattle.bool_functions.specs.declared.tree.Node.{Node}
use Rattle.bool_functions.specs.SameTrees.{same_tree}
use Rattle.cell_machine.specs.declared.pins.Pin.{Pin}
use Rattle.cell_machine.specs.declared.checks.Check.{Check}
use Rattle.cell_machine.specs.declared.arcs.Arc.{Arc}
use Rattle.cell_machine.specs.CellData.{CellData}
use Rattle.cell_machine.specs.CellTrace.{same_pins}
use Rattle.udp_tables.specs.Edges.{each_below}
use Rattle.udp_tables.specs.Conditions.{condition_list, conditions_beside, conditions_by, arc_conditions, used_conditions, added}
use Rattle.udp_tables.specs.Conditions.{added_all, conditions_of}
use Rattle.udp_tables.specs.declared.models.VPort.{VPort}
use Rattle.vital_models.specs.Ports.{is_port, port_after, ports_after}
use Rattle.vital_models.specs.Generated.{state_of, condition_of, path_of, paths_to, check_of, entity_of}
use Rattle.vhdl_grammar.specs.WellFormed.{IsCount, part_count}
use Rattle.specify_blocks.proofs.cell_tables.CellParts.{Rules}
use Rattle.generated_modules.proofs.CellParts.{few_pins, few_groups}

-- Conditions.

added_few : (trees : List Node) (f : Node) → length (added trees f) ≤ length trees + 1
added_few trees f = by (list_any (same_tree f) trees)
  where
    by : (b : Bool) → length (if b then trees else trees ++ f ∷ []) ≤ length trees + 1
    by true = omega arith
    by false = omega (arith, length-append trees (f ∷ []))

all_few : (trees fs : List Node) → length (added_all trees fs) ≤ length trees + length fs
all_few trees [] = omega arith
all_few trees (f ∷ fs) = omega (arith, all_few (added trees f) fs, added_few trees f)

listed_few : (o : Option Node) → length (condition_list o) ≤ 1
listed_few None = omega arith
listed_few (Some f) = omega arith

ones : {X : Type 0} (f : X → List Node) (xs : List X) → ((x : X) → length (f x) ≤ 1) → length (flat_map f xs) ≤ length xs
ones f [] h = omega arith
ones f (x ∷ xs) h = omega (arith, length-append (f x) (flat_map f xs), h x, ones f xs h)

many : {X : Type 0} (f : X → List Node) (xs : List X) → ((x : X) → length (f x) ≤ 1024)
    → length (flat_map f xs) ≤ length xs * 1024
many f [] h = omega arith
many f (x ∷ xs) h = omega (arith, length-append (f x) (flat_map f xs), h x, many f xs h)

beside_few : (arcs : List Arc) (arc : Arc) → length (conditions_beside arcs arc) ≤ length arcs
beside_few arcs arc =
    let some = ones (λ (other : Arc). condition_list other.condition) (filter (same_pins arc) arcs)
    (λ other. listed_few other.condition) in
    omega (arith, some, length-filter (same_pins arc) arcs, count_by-le-length (same_pins arc) arcs)

by_few : (arcs : List Arc) (arc : Arc) (o : Option Node) → length arcs ≤ 1024 → length (conditions_by arcs arc o) ≤ 1024
by_few arcs arc None h = omega (arith, h, beside_few arcs arc)
by_few arcs arc (Some f) h = omega arith

used_few : (cell : CellData) → length cell.checks ≤ 256 → length cell.arcs ≤ 1024
    → length (used_conditions cell) ≤ 256 + 1024 * 1024
used_few cell h k =
    omega (
      arith,
      length-append (flat_map (λ (k : Check). condition_list k.condition) cell.checks)
          (flat_map (arc_conditions cell.arcs) cell.arcs),
      ones (λ (k : Check). condition_list k.condition) cell.checks (λ k. listed_few k.condition),
      many (arc_conditions cell.arcs) cell.arcs (λ arc. by_few cell.arcs arc arc.condition k),
      h,
      k,
    )

-- Other parts.

either_few : (b : Bool) (more same : List VPort) (n : ℕ) → length more ≤ n → length same ≤ n
    → length (if b then more else same) ≤ n
either_few true more same n h k = h
either_few false more same n h k = k

ports_few : (entity : List ℕ) (ports : List VPort) (pins : List Pin)
    → length (ports_after entity ports pins) ≤ length ports + length pins
ports_few entity ports [] = omega arith
ports_few entity ports (pin ∷ pins) =
    either_few (is_port pin) (ports_after entity (ports ++ port_after entity ports pin ∷ []) pins) (ports_after entity ports pins)
    (length ports + suc (length pins))
    (omega (
      arith,
      ports_few entity (ports ++ port_after entity ports pin ∷ []) pins,
      length-append ports
          (port_after entity ports pin ∷ []),
    ))
    (omega (arith, ports_few entity ports pins))

below_few : {X : Type 0} (f : ℕ → X) (n : ℕ) → length (each_below (λ i. f i ∷ []) n) ≤ n
below_few f zero = omega arith
below_few f (suc n) = omega (arith, length-append (each_below (λ i. f i ∷ []) n) (f n ∷ []), below_few f n)

module _ (cell : CellData) (h : Rules cell) where
  few_checks : length cell.checks ≤ 256
  few_checks = leb-true (length cell.checks) 256 (and_parts (nat_le (length cell.checks) 256) _ h.of_checks).0

  pub few_arcs : length cell.arcs ≤ 1024
  few_arcs = leb-true (length cell.arcs) 1024 (and_parts (nat_le (length cell.arcs) 1024) _ h.of_arcs).0

  pub few_parts : (name : List ℕ) → IsCount (part_count (entity_of cell name))
  few_parts name =
      let ports = ports_few name [] cell.pins in
      let pins = few_pins cell h in
      let states = below_few (state_of cell) (length cell.groups) in
      let groups = few_groups cell h in
      let conditions : length (map (condition_of cell.pins) (conditions_of cell)) ≡ length (conditions_of cell) =
      length-map (conditions_of cell) (condition_of cell.pins) in
      let all = all_few [] (used_conditions cell) in
      let used = used_few cell few_checks few_arcs in
      let checks : length (map (check_of cell) cell.checks) ≡ length cell.checks = length-map cell.checks (check_of cell) in
      let few = few_checks in
      omega (arith, ports, pins, states, groups, conditions, all, used, checks, few)

  pub few_paths : (p : ℕ) → length (paths_to cell p) ≤ 10 ^ 15
  few_paths p =
      let all : length (paths_to cell p) ≡ length (filter (λ (arc : Arc). nat_eq arc.to p) cell.arcs) =
      length-map (filter (λ (arc : Arc). nat_eq arc.to p) cell.arcs) (path_of cell) in
      let some = length-filter (λ (arc : Arc). nat_eq arc.to p) cell.arcs in
      let fewer = count_by-le-length (λ (arc : Arc). nat_eq arc.to p) cell.arcs in
      let arcs = few_arcs in
      omega (arith, all, some, fewer, arcs)
