-- The conditions that a generated entity looks up are those that its cell uses, in their order.
use Rattle.std.proofs.Common.{◌≡◌, ℕ, zero, suc, ◌+◌, ◌<◌, Bool, true, false, List, [], ◌∷◌, ◌++◌, length, map, inl, inr, refl}
use Rattle.std.proofs.Common.{sym, ap, ◌∙◌, subst, arith, IsTrue, Option, Some, None, option_map, if◌then◌else◌}
use Rattle.std.specs.Prelude.{flat_map, filter}
use Rattle.std.proofs.lemmas.Bool.{and_parts}
use Rattle.std.proofs.lemmas.List.{map-append, length-map}
use Rattle.std.proofs.lemmas.List.Folds.{flat_map-map as flat_map_map}
use Rattle.trit_cubes.proofs.ListLemmas.{Among}
use Rattle.bool_functions.specs.declared.tree.Node.{Node}
use Rattle.cell_machine.specs.declared.pins.Pin.{Pin}
use Rattle.cell_machine.specs.declared.checks.Check.{Check}
use Rattle.cell_machine.specs.declared.arcs.Arc.{Arc}
use Rattle.cell_machine.specs.declared.outputs.OutputPin.{OutputPin}
use Rattle.cell_machine.specs.Supports.{AllAbove, Ascending}
use Rattle.cell_machine.specs.CellData.{CellData}
use Rattle.cell_machine.specs.CellRules.{is_output, is_input_pin, is_output_pin, output_pins_from, is_arc, is_in_order}
use Rattle.udp_tables.specs.Conditions.{condition_list, conditions_by, arc_conditions, used_conditions, conditions_of}
use Rattle.udp_tables.specs.Ports.{event_of}
use Rattle.specify_blocks.proofs.OutputPins.{outputs_are_pins}
use Rattle.udp_tables.specs.declared.timing_checks.TimingCheck.{TimingCheck}
use Rattle.vital_models.specs.Generated.{condition_of, place_of, all_zero, gate_by, path_of, output_of, check_of, entity_of}
use Rattle.specify_blocks.proofs.cell_tables.ConditionUses.{all-among}
use Rattle.vhdl_grammar.specs.WellFormed.{conditions_of_check, conditions_of_gate, conditions_of_path, conditions_of_output}
use Rattle.vhdl_grammar.specs.WellFormed.{looked_up, looks_up_in_order}
use Rattle.specify_blocks.proofs.cell_tables.CellParts.{Rules, arcs_hold}
use Rattle.generated_entities.proofs.ListLemmas.{flat_flat}
use Rattle.generated_entities.proofs.LookedUp.{in_order}
use Rattle.generated_entities.proofs.ArcOrder.{ends_at, by_ends, arcs_by_ends}

-- the output pins of a cell ascend, and each is among them
above_pins : (x k : ℕ) (pins : List Pin) → x < k → AllAbove x (output_pins_from k pins)
above_pins x k [] h = tt
above_pins x k (pin ∷ pins) h = by (is_output pin.direction) (above_pins x (k + 1) pins (omega (arith, h)))
  where
    by : (b : Bool) → AllAbove x (output_pins_from (k + 1) pins)
        → AllAbove x (if b then k ∷ output_pins_from (k + 1) pins else output_pins_from (k + 1) pins)
    by true rest = (h, rest)
    by false rest = rest

pins_ascend : (k : ℕ) (pins : List Pin) → Ascending (output_pins_from k pins)
pins_ascend k [] = tt
pins_ascend k (pin ∷ pins) = by (is_output pin.direction) (pins_ascend (k + 1) pins)
  where
    by : (b : Bool) → Ascending (output_pins_from (k + 1) pins)
        → Ascending (if b then k ∷ output_pins_from (k + 1) pins else output_pins_from (k + 1) pins)
    by true rest = (above_pins k (k + 1) pins (omega arith), rest)
    by false rest = rest

pin_among : (k : ℕ) (pins : List Pin) (p : ℕ) → IsTrue (is_output_pin pins p) → Among (k + p) (output_pins_from k pins)
pin_among k [] p h = absurd cc
pin_among k (pin ∷ pins) zero h = by (is_output pin.direction) h
  where
    by : (b : Bool) → IsTrue b → Among (k + 0) (if b then k ∷ output_pins_from (k + 1) pins else output_pins_from (k + 1) pins)
    by true e = let same : k ≡ k + 0 = omega arith in inl same
    by false e = absurd cc
pin_among k (pin ∷ pins) (suc p) h = by (is_output pin.direction) (pin_among (k + 1) pins p h)
  where
    place : (b : Bool) → Among (k + suc p) (output_pins_from (k + 1) pins)
        → Among (k + suc p) (if b then k ∷ output_pins_from (k + 1) pins else output_pins_from (k + 1) pins)
    place true m = inr m
    place false m = m

    by :
        (b : Bool) → Among (k + 1 + p) (output_pins_from (k + 1) pins)
        → Among (k + suc p) (if b then k ∷ output_pins_from (k + 1) pins else output_pins_from (k + 1) pins)
    by b m = place b (let same : k + 1 + p ≡ k + suc p = omega arith
        in subst (λ n. Among n (output_pins_from (k + 1) pins)) same m)

-- what functions make of the elements, joined
flat_made :
    {X Y Z : Type 0} (make : Y → Z) (f : X → List Z) (g : X → List Y) → ((x : X) → f x ≡ map make (g x)) → (xs : List X)
    → flat_map f xs ≡ map make (flat_map g xs)
flat_made make f g h [] = refl
flat_made make f g h (x ∷ xs) =
    ap (λ l. l ++ flat_map f xs) (h x) ∙ ap (λ l. map make (g x) ++ l) (flat_made make f g h xs)
    ∙ sym (map-append make (g x) (flat_map g xs))

module _ (cell : CellData) (h : Rules cell) where
  check_with : Check → Option Node → TimingCheck
  check_with k o =
      record {
        kind = k.kind;
        first = event_of cell.pins k.first;
        second = event_of cell.pins k.second;
        limit = k.limit;
        condition = option_map (place_of cell) o;
      }

  check_looked : (k : Check) (o : Option Node) → conditions_of_check (check_with k o) ≡ map (place_of cell) (condition_list o)
  unfolding check_with
  check_looked k None = refl
  check_looked k (Some f) = refl

  zero_looked : (is : List ℕ) → conditions_of_gate (all_zero is) ≡ is
  zero_looked [] = refl
  zero_looked (i ∷ is) = refl

  gate_looked : (arc : Arc) (o : Option Node)
      → conditions_of_gate (gate_by cell arc o) ≡ map (place_of cell) (conditions_by cell.arcs arc o)
  gate_looked arc None = zero_looked (map (place_of cell) (conditions_by cell.arcs arc None))
  gate_looked arc (Some f) = refl

  checks_looked :
      flat_map conditions_of_check (map (check_of cell) cell.checks)
      ≡ map (place_of cell) (flat_map (λ (k : Check). condition_list k.condition) cell.checks)
  unfolding check_with
  checks_looked =
      flat_map_map conditions_of_check (check_of cell) cell.checks
      ∙ flat_made (place_of cell) (λ k. conditions_of_check (check_of cell k)) (λ (k : Check). condition_list k.condition)
      (λ k. check_looked k k.condition) cell.checks

  abbrev ended : OutputPin → List Arc
  ended output = filter (ends_at output.pin) cell.arcs

  output_looked : (output : OutputPin)
      → conditions_of_output (output_of cell output) ≡ map (place_of cell) (flat_map (arc_conditions cell.arcs) (ended output))
  output_looked output =
      flat_map_map conditions_of_path (path_of cell) (ended output)
      ∙ flat_made (place_of cell) (λ arc. conditions_of_path (path_of cell arc)) (arc_conditions cell.arcs)
      (λ arc. gate_looked arc arc.condition) (ended output)

  pins_of_outputs : map (λ (output : OutputPin). output.pin) cell.outputs ≡ output_pins_from 0 cell.pins
  pins_of_outputs = outputs_are_pins cell.pins cell.groups cell.outputs h.of_outputs

  arcs_ordered : IsTrue (is_in_order (map (λ (arc : Arc). arc.to) cell.arcs))
  arcs_ordered = (and_parts _ (is_in_order (map (λ (arc : Arc). arc.to) cell.arcs)) (and_parts _ _ h.of_arcs).1).1

  arc_ends : (arc : Arc) → Among arc cell.arcs → Among arc.to (output_pins_from 0 cell.pins)
  arc_ends arc m =
      let rule = all-among (is_arc cell.pins) cell.arcs arc (arcs_hold cell h) m in
      let ends = (and_parts (is_output_pin cell.pins arc.to) _ (and_parts (is_input_pin cell.pins arc.from) _ rule).1).0 in
      let same : 0 + arc.to ≡ arc.to = omega arith in
      subst (λ n. Among n (output_pins_from 0 cell.pins)) same (pin_among 0 cell.pins arc.to ends)

  arcs_ended : flat_map ended cell.outputs ≡ cell.arcs
  arcs_ended =
      sym (flat_map_map (λ p. filter (ends_at p) cell.arcs) (λ (output : OutputPin). output.pin) cell.outputs)
      ∙ ap (λ pins. by_ends pins cell.arcs) pins_of_outputs
      ∙ arcs_by_ends (output_pins_from 0 cell.pins) cell.arcs (pins_ascend 0 cell.pins) arcs_ordered arc_ends

  outputs_looked :
      flat_map conditions_of_output (map (output_of cell) cell.outputs) ≡ map (place_of cell)
      (flat_map (arc_conditions cell.arcs) cell.arcs)
  outputs_looked =
      flat_map_map conditions_of_output (output_of cell) cell.outputs
      ∙ flat_made (place_of cell) (λ output. conditions_of_output (output_of cell output))
      (λ output. flat_map (arc_conditions cell.arcs) (ended output))
      output_looked cell.outputs
      ∙ ap (map (place_of cell))
      (flat_flat (arc_conditions cell.arcs) ended cell.outputs ∙ ap (flat_map (arc_conditions cell.arcs)) arcs_ended)

  looked_up_used : (name : List ℕ) → looked_up (entity_of cell name) ≡ map (place_of cell) (used_conditions cell)
  looked_up_used name =
      ap (λ l. l ++ flat_map conditions_of_output (map (output_of cell) cell.outputs)) checks_looked
      ∙ ap (λ l. map (place_of cell) (flat_map (λ (k : Check). condition_list k.condition) cell.checks) ++ l) outputs_looked
      ∙ sym (map-append (place_of cell) (flat_map (λ (k : Check). condition_list k.condition) cell.checks)
      (flat_map (arc_conditions cell.arcs) cell.arcs))

  pub looked_up_in_order :
      (name : List ℕ) → IsTrue (looks_up_in_order (length (map (condition_of cell.pins) (conditions_of cell))) 0
      (looked_up (entity_of cell name)))
  looked_up_in_order name =
      ap (λ n. looks_up_in_order n 0 (looked_up (entity_of cell name))) (length-map (conditions_of cell) (condition_of cell.pins))
      ∙ ap (looks_up_in_order (length (conditions_of cell)) 0) (looked_up_used name)
      ∙ in_order (conditions_of cell) [] (used_conditions cell) refl
