-- The entity of a cell is well formed.
use Rattle.std.proofs.Common.{◌≡◌, ℕ, zero, suc, ◌+◌, ◌<◌, ◌≤◌, Bool, true, false, ◌&&◌, IsTrue, List, [], ◌∷◌, length, map, inl}
use Rattle.std.proofs.Common.{inr, refl, subst, arith, nat_lt, nat_le, nat_eq, slice_get, Option, Some, None, if◌then◌else◌}
use Rattle.std.specs.Prelude.{All, filter}
use Rattle.std.specs.List.{list_all}
use Rattle.std.specs.Option.{option_map_or}
use Rattle.std.proofs.lemmas.Bool.{and_parts, lt-ltb, ltb-true}
use Rattle.std.proofs.lemmas.List.{length-map}
use Rattle.trit_cubes.proofs.ListLemmas.{Among, among-map, among-filter}
use Rattle.bool_functions.specs.declared.tree.Node.{Node}
use Rattle.bool_functions.specs.Tree.{value_of}
use Rattle.bool_functions.specs.Support.{support_of}
use Rattle.cell_machine.specs.declared.pins.Pin.{Pin}
use Rattle.cell_machine.specs.declared.groups.StateGroup.{StateGroup}
use Rattle.cell_machine.specs.declared.outputs.OutputPin.{OutputPin}
use Rattle.cell_machine.specs.declared.arcs.Arc.{Arc}
use Rattle.cell_machine.specs.Names.{source_name}
use Rattle.cell_machine.specs.Values.{no_values}
use Rattle.cell_machine.specs.Outputs.{output_at, condition_at}
use Rattle.cell_machine.specs.Supports.{Ascending}
use Rattle.cell_machine.specs.CellRules.{is_input_pin, is_ascending, is_support, is_group, are_groups_from, is_source}
use Rattle.cell_machine.specs.CellRules.{is_output_of, is_check, is_arc}
use Rattle.cell_machine.specs.CellData.{CellData}
use Rattle.cell_machine.specs.CellTrace.{support_at, step_at}
use Rattle.cell_machine.proofs.StepLemmas.{ascending}
use Rattle.cell_machine.proofs.RuleLemmas.{rules_of}
use Rattle.udp_tables.specs.CellPrimitives.{has_sources}
use Rattle.udp_tables.specs.Conditions.{conditions_of, conditions_beside}
use Rattle.udp_tables.proofs.CubeLemmas.{below-among}
use Rattle.specify_blocks.proofs.cell_tables.ConditionLemmas.{support-ascending}
use Rattle.udp_tables.specs.declared.timing_checks.TimingCheck.{TimingCheck}
use Rattle.vital_models.specs.declared.model.OutValue.TheVariants as value
use Rattle.vital_models.specs.Kept.{entity_name}
use Rattle.vital_models.specs.Ports.{ports_of, port_number}
use Rattle.vital_models.specs.Generated.{has_violation, ports_at, state_of, states_of, condition_of, source_at, output_table}
use Rattle.vital_models.specs.Generated.{value_of_output, place_of, all_zero, gate_by, path_of, output_of, check_of, entity_of}
use Rattle.specify_blocks.proofs.cell_tables.ConditionUses.{all-among, condition-over}
use Rattle.vital_models.proofs.Soundness.{entity_is_sound}
use Rattle.vhdl_grammar.specs.VhdlDeclarations.{port_names}
use Rattle.vhdl_grammar.specs.WellFormed.{IsPortName, IsWrittenState, IsWrittenTruth, IsWrittenLookup, IsWrittenValue, IsNumber}
use Rattle.vhdl_grammar.specs.WellFormed.{names_condition, IsWrittenPath, IsWrittenOutput, IsWellFormedEntity}
use Rattle.specify_blocks.proofs.cell_tables.CellParts.{Rules, outputs_hold, checks_hold, arcs_hold}
use Rattle.generated_modules.proofs.CellParts.{few_pins, group_support, arc_numbers, check_number}
use Rattle.generated_modules.proofs.Conditions.{condition_placed}
use Rattle.generated_entities.specs.Laws.{EntityIsWellFormed}
use Rattle.generated_entities.proofs.ListLemmas.{all_from}
use Rattle.generated_entities.proofs.Tables.{rows_have_one_edge, states_have_rows, truths_have_rows}
use Rattle.generated_entities.proofs.PortNumbers.{apart_pins, apart_sources}
use Rattle.generated_entities.proofs.Names.{IsGivenName, entity_named}
use Rattle.generated_entities.proofs.PortNames.{ports_are_named}
use Rattle.generated_entities.proofs.Conditions.{looked_up_in_order}
use Rattle.generated_entities.proofs.Counts.{few_parts, few_paths}

-- the support of each group ascends, of input pins
supports :
    (pins : List Pin) (name : ℕ) (groups : List StateGroup) (g : ℕ)
    → IsTrue (are_groups_from pins name groups)
    → Ascending (option_map_or (λ (group : StateGroup). group.support) (slice_get groups g) [])
    × IsTrue (list_all (is_input_pin pins) (option_map_or (λ (group : StateGroup). group.support) (slice_get groups g) []))
supports pins name [] g h = (tt, refl)
supports pins name (x ∷ xs) zero h =
    let group = and_parts (is_group pins name x) (are_groups_from pins (name + 2) xs) h in
    let support = and_parts (is_support pins x.support) _ group.0 in
    let inputs : Bool = list_all (is_input_pin pins) x.support in
    let some = and_parts (nat_lt 0 (length x.support)) (nat_le (length x.support) 8 && (is_ascending x.support && inputs))
    support.0 in
    let few = and_parts (nat_le (length x.support) 8) (is_ascending x.support && inputs) some.1 in
    let parts = and_parts (is_ascending x.support) inputs few.1 in
    (ascending x.support parts.0, parts.1)
supports pins name (x ∷ xs) (suc g) h =
    supports pins (name + 2) xs g (and_parts (is_group pins name x) (are_groups_from pins (name + 2) xs) h).1

-- a path names a condition where it counts where conditions are 0
names_one : (is : List ℕ) → IsTrue (names_condition (all_zero is))
names_one [] = refl
names_one (i ∷ is) = lt-ltb 0 (length (i ∷ is)) (omega arith)

module _ (cell : CellData) (h : Rules cell) where
  state_written : (g : ℕ) → g < length cell.groups → IsWrittenState (state_of cell g)
  state_written g within =
      record {
        rows = states_have_rows (has_violation cell) (length (support_at cell g)) (step_at cell g);
        columns = by (has_violation cell);
        width = few (has_violation cell);
        edges = rows_have_one_edge (has_violation cell) (length (support_at cell g)) (step_at cell g);
        apart = apart_pins cell.pins (support_at cell g) facts.0 facts.1;
      }
    where
      facts : Ascending (support_at cell g) × IsTrue (list_all (is_input_pin cell.pins) (support_at cell g))
      facts =
          supports cell.pins (length cell.pins) cell.groups g
          (and_parts (nat_le (length cell.groups) 16) (are_groups_from cell.pins (length cell.pins) cell.groups) h.of_groups).1

      some : 1 ≤ length (ports_at cell.pins (support_at cell g))
      some =
          let least = (group_support cell h g within).least in
          let long : length (ports_at cell.pins (support_at cell g)) ≡ length (support_at cell g)
          = length-map (support_at cell g) (port_number cell.pins) in
          omega (arith, least, long)

      by : (b : Bool) → 1 ≤ (if b then length (ports_at cell.pins (support_at cell g)) + 1
          else length (ports_at cell.pins (support_at cell g)))
      by true = omega arith
      by false = some

      most : length (ports_at cell.pins (support_at cell g)) ≤ 8
      most =
          let within_eight = (group_support cell h g within).most in
          let long : length (ports_at cell.pins (support_at cell g)) ≡ length (support_at cell g)
          = length-map (support_at cell g) (port_number cell.pins) in
          omega (arith, within_eight, long)

      few : (b : Bool) → IsNumber (if b then length (ports_at cell.pins (support_at cell g)) + 1
          else length (ports_at cell.pins (support_at cell g)))
      few true = omega (arith, most)
      few false = omega (arith, most)

  states_written : All IsWrittenState (states_of cell)
  states_written =
      all_from IsWrittenState (states_of cell)
      (λ state m.
      let r = below-among (λ g. state_of cell g ∷ []) (length cell.groups) state m in
      elim r.2 [ inl e ↦ subst IsWrittenState e (state_written r.0 r.1) | inr k ↦ absurd k ])

  truth_written : (f : Node) → Among f (conditions_of cell) → IsWrittenTruth (condition_of cell.pins f)
  truth_written f m =
      record {
        rows = truths_have_rows (length (support_of f)) (condition_at (support_of f) f);
        columns = some;
        apart = apart_pins cell.pins (support_of f) (support-ascending f)
            (condition-over cell (checks_hold cell h) (arcs_hold cell h) f m);
      }
    where
      some : 1 ≤ length (ports_at cell.pins (support_of f))
      some =
          let placed = condition_placed cell (checks_hold cell h) (arcs_hold cell h) f m in
          let parts = and_parts (nat_lt 0 (length (support_of f))) (nat_le (length (support_of f)) 10) placed in
          let least : 0 < length (support_of f) = ltb-true 0 (length (support_of f)) parts.0 in
          let long : length (ports_at cell.pins (support_of f)) ≡ length (support_of f) =
          length-map (support_of f) (port_number cell.pins) in
          omega (arith, least, long)

  conditions_written : All IsWrittenTruth (map (condition_of cell.pins) (conditions_of cell))
  conditions_written =
      all_from IsWrittenTruth (map (condition_of cell.pins) (conditions_of cell))
      (λ truth m. let r = among-map (condition_of cell.pins) truth (conditions_of cell) m
      in subst IsWrittenTruth r.1 (truth_written r.0 r.2))

  lookup_written :
      (output : OutputPin) → IsTrue (is_output_of cell.pins cell.groups output) → 0 < length output.support
      → IsWrittenLookup (output_table cell output) (map (source_at cell.pins) output.support)
  lookup_written output k some =
      let held : List ℕ = map (source_name (length cell.pins)) output.support in
      let few = and_parts (nat_le (length held) 10) _ k in
      let sources = and_parts (list_all (is_source cell.pins cell.groups) output.support) _ few.1 in
      let order = and_parts (is_ascending held) _ sources.1 in
      let long : length (map (source_at cell.pins) output.support) ≡ length output.support =
      length-map output.support (source_at cell.pins) in
      record {
        rows = truths_have_rows (length output.support) (output_at (length cell.pins) cell.groups output);
        columns = omega (arith, some, long);
        apart = apart_sources cell.pins cell.groups output.support (ascending held order.0) sources.0;
      }

  value_written : (output : OutputPin) → IsTrue (is_output_of cell.pins cell.groups output)
      → IsWrittenValue (value_of_output cell output)
  value_written output k = by (has_sources output) refl
    where
      by :
          (b : Bool) → has_sources output ≡ b
          → IsWrittenValue (if b then value.Table (output_table cell output) (map (source_at cell.pins) output.support)
          else value.Constant (value_of no_values output.function))
      by true e = lookup_written output k (ltb-true 0 (length output.support) e)
      by false e = tt

  gate_written : (arc : Arc) (o : Option Node) → IsTrue (names_condition (gate_by cell arc o))
  gate_written arc None = names_one (map (place_of cell) (conditions_beside cell.arcs arc))
  gate_written arc (Some f) = refl

  path_written : (arc : Arc) → Among arc cell.arcs → IsWrittenPath (path_of cell arc)
  path_written arc m =
      let numbers = arc_numbers cell.pins arc (all-among (is_arc cell.pins) cell.arcs arc (arcs_hold cell h) m) in
      record { rise = numbers.0; fall = numbers.1; gated = gate_written arc arc.condition }

  output_written : (output : OutputPin) → Among output cell.outputs → IsWrittenOutput (output_of cell output)
  output_written output m =
      record {
        valued = value_written output (all-among (is_output_of cell.pins cell.groups) cell.outputs output
            (outputs_hold cell h) m);
        paths =
            all_from IsWrittenPath (output_of cell output).paths
            (λ path k.
            let ends = λ (arc : Arc). nat_eq arc.to output.pin in
            let r = among-map (path_of cell) path (filter ends cell.arcs) k in
            subst IsWrittenPath r.1 (path_written r.0 (among-filter ends r.0 cell.arcs r.2).0));
        few = few_paths cell h output.pin;
      }

  outputs_written : All IsWrittenOutput (map (output_of cell) cell.outputs)
  outputs_written =
      all_from IsWrittenOutput (map (output_of cell) cell.outputs)
      (λ output m. let r = among-map (output_of cell) output cell.outputs m in subst IsWrittenOutput r.1 (output_written r.0 r.2))

  limits_short : All (λ (k : TimingCheck). IsNumber k.limit) (map (check_of cell) cell.checks)
  limits_short =
      all_from (λ (k : TimingCheck). IsNumber k.limit) (map (check_of cell) cell.checks)
      (λ k m.
      let r = among-map (check_of cell) k cell.checks m in
      subst (λ (k : TimingCheck). IsNumber k.limit) r.1
      (check_number cell.pins r.0 (all-among (is_check cell.pins) cell.checks r.0 (checks_hold cell h) r.2)))

  pub named_well_formed : (name : List ℕ) → IsGivenName name → IsWellFormedEntity (entity_of cell name)
  named_well_formed name given =
      let named = ports_are_named name cell.pins given (few_pins cell h) in
      record {
        name = given.named;
        ports = all_from IsPortName (port_names (ports_of name cell.pins)) named.named;
        apart = named.apart;
        sound = entity_is_sound cell name h;
        states = states_written;
        conditions = conditions_written;
        in_order = looked_up_in_order cell h name;
        outputs = outputs_written;
        limits = limits_short;
        few = few_parts cell h name;
      }

pub entity-well-formed : EntityIsWellFormed
entity-well-formed cell given h =
    named_well_formed cell (rules_of cell.name cell.pins cell.groups cell.outputs cell.checks cell.arcs h.rules)
    (entity_name cell.number given cell.name) (entity_named cell.number given cell.name h.number)
