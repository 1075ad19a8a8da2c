-- The entity of a cell is sound.
use Rattle.std.proofs.Common.{◌≡◌, ℕ, zero, suc, ◌+◌, ◌<◌, Bool, true, false, ◌&&◌, All, List, [], ◌∷◌, length, map, inl, inr}
use Rattle.std.proofs.Common.{refl, sym, ap, ◌∙◌, subst, arith, IsTrue, Option, Some, None, option_map, slice_get, slice_index_or}
use Rattle.std.proofs.Common.{nat_eq, nat_lt, nat_le, if◌then◌else◌}
use Rattle.std.specs.Prelude.{filter}
use Rattle.std.specs.List.{list_all}
use Rattle.std.specs.Option.{option_map_or}
use Rattle.std.proofs.lemmas.List.{length-map}
use Rattle.std.proofs.lemmas.List.Elements.{Contains-get_or}
use Rattle.std.proofs.lemmas.Slice.Eq.{bytes_eq-Decides}
use Rattle.std.proofs.lemmas.Bool.{and_parts, and_from, lt-ltb, ltb-true}
use Rattle.trit_cubes.proofs.ListLemmas.{Among, contains-among, among-map, among-filter}
use Rattle.trit_cubes.proofs.NumberTests.{same_under}
use Rattle.bool_functions.specs.declared.tree.Node.{Node}
use Rattle.bool_functions.specs.Tree.{value_of}
use Rattle.bool_functions.specs.Support.{support_of}
use Rattle.cell_machine.specs.declared.pins.Pin.{Pin}
use Rattle.cell_machine.specs.declared.groups.StateGroup.{StateGroup}
use Rattle.cell_machine.specs.declared.outputs.Source.{Source}
use Rattle.cell_machine.specs.declared.outputs.Source.TheVariants as source
use Rattle.cell_machine.specs.declared.outputs.OutputPin.{OutputPin}
use Rattle.cell_machine.specs.declared.checks.CheckKind.{CheckKind}
use Rattle.cell_machine.specs.declared.checks.CheckKind.TheVariants as check_kind
use Rattle.cell_machine.specs.declared.checks.Check.{Check}
use Rattle.cell_machine.specs.declared.arcs.Arc.{Arc}
use Rattle.cell_machine.specs.Values.{no_values}
use Rattle.cell_machine.specs.Outputs.{output_at, condition_at}
use Rattle.cell_machine.specs.CellRules as rule
use Rattle.cell_machine.specs.CellRules.{is_input_pin, output_pins_from, is_support, is_ascending, is_group, are_groups_from}
use Rattle.cell_machine.specs.CellRules.{is_source, is_output_of, is_any_edge, are_opposite, is_check, is_arc}
use Rattle.cell_machine.proofs.RuleLemmas.{check_parts}
use Rattle.cell_machine.specs.CellData.{CellData}
use Rattle.vital_tables.specs.udp_tables.Conditions.{conditions_of, conditions_beside, conditions_by, condition_list}
use Rattle.cell_machine.specs.CellTrace.{support_at, step_at}
use Rattle.vital_tables.specs.udp_tables.CellPrimitives.{has_sources}
use Rattle.cell_tables.proofs.CellParts.{Rules, groups_hold, outputs_hold, checks_hold, arcs_hold}
use Rattle.cell_tables.proofs.EachBelow.{below-length}
use Rattle.vital_tables.proofs.udp_tables.CubeLemmas.{below-among}
use Rattle.vital_tables.specs.declared.model.OutValue.TheVariants as value
use Rattle.vital_tables.specs.declared.model.VOutput.{VOutput}
use Rattle.vital_tables.specs.declared.model.VEntity.{VEntity}
use Rattle.vital_models.specs.Ports.{port_number, ports_of}
use Rattle.vital_models.specs.Generated.{has_violation, ports_at, state_of, states_of, condition_of, source_at, output_table}
use Rattle.vital_models.specs.Generated.{value_of_output, place_of, all_zero, gate_by, path_of, output_of, check_of, entity_of}
use Rattle.vital_tables.specs.Sound.{IsState, IsTruth, feeds, IsValue, is_condition_number, is_gate, IsPath, IsOutput, has_events}
use Rattle.vital_tables.specs.Sound.{is_enabling, IsCheck, IsSound}
use Rattle.vital_tables.specs.udp_tables.Ports.{is_input_port}
use Rattle.vital_models.proofs.PortFacts.{input_port, output_ports}
use Rattle.vital_models.proofs.Widths.{truth-width, width, state-width}
use Rattle.cell_tables.proofs.ConditionUses.{all-among, check-numbered, arc-numbered, condition-over}

-- what holds of each element
all-from : {X : Type 0} (P : X → Type 0) (xs : List X) → ((x : X) → Among x xs → P x) → All P xs
all-from P xs h k d within = h (slice_index_or xs k d) (contains-among _ xs (Contains-get_or xs k d within))

-- the support of each group
support_inputs : (pins : List Pin) (support : List ℕ) → IsTrue (is_support pins support)
    → IsTrue (list_all (is_input_pin pins) support)
support_inputs pins support h =
    let inputs : Bool = list_all (is_input_pin pins) support in
    let some = and_parts (nat_lt 0 (length support)) (nat_le (length support) 8 && (is_ascending support && inputs)) h in
    let few = and_parts (nat_le (length support) 8) (is_ascending support && inputs) some.1 in
    (and_parts (is_ascending support) inputs few.1).1

group_support-at :
    (pins : List Pin) (name : ℕ) (groups : List StateGroup) (g : ℕ)
    → IsTrue (are_groups_from pins name groups)
    → IsTrue (list_all (is_input_pin pins) (option_map_or (λ (group : StateGroup). group.support) (slice_get groups g) []))
group_support-at pins name [] g h = refl
group_support-at pins name (x ∷ xs) zero h =
    let parts = and_parts (is_group pins name x) (are_groups_from pins (name + 2) xs) h in
    support_inputs pins x.support (and_parts (is_support pins x.support) _ parts.0).0
group_support-at pins name (x ∷ xs) (suc g) h =
    group_support-at pins (name + 2) xs g (and_parts (is_group pins name x) (are_groups_from pins (name + 2) xs) h).1

-- numbers made of others
all-map : {X Y : Type 0} (t : Y → Bool) (p : X → Bool) (g : X → Y) → ((x : X) → IsTrue (p x) → IsTrue (t (g x))) → (xs : List X)
    → IsTrue (list_all p xs) → IsTrue (list_all t (map g xs))
all-map t p g h [] k = refl
all-map t p g h (x ∷ xs) k =
    let parts = and_parts (p x) (list_all p xs) k in
    and_from (t (g x)) (list_all t (map g xs)) (h x parts.0) (all-map t p g h xs parts.1)

all-made : {X Y : Type 0} (t : Y → Bool) (g : X → Y) (xs : List X) → ((x : X) → Among x xs → IsTrue (t (g x)))
    → IsTrue (list_all t (map g xs))
all-made t g [] h = refl
all-made t g (x ∷ xs) h = and_from (t (g x)) (list_all t (map g xs)) (h x (inl refl)) (all-made t g xs (λ y m. h y (inr m)))

gate-all : (e : VEntity) (is : List ℕ) → IsTrue (list_all (is_condition_number e) is) → IsTrue (is_gate e (all_zero is))
gate-all e [] h = refl
gate-all e (i ∷ is) h = h

module _ (cell : CellData) (name : List ℕ) (h : Rules cell) where
  abbrev entity : VEntity
  entity = entity_of cell name

  -- input pins stand for input ports
  pins_feed : (support : List ℕ) → IsTrue (list_all (is_input_pin cell.pins) support)
      → IsTrue (list_all (is_input_port (ports_of name cell.pins)) (ports_at cell.pins support))
  pins_feed support k = all-map (is_input_port (ports_of name cell.pins)) (is_input_pin cell.pins) (port_number cell.pins)
      (input_port name cell.pins) support k

  state_is : (g : ℕ) → IsState entity (state_of cell g)
  state_is g =
      record {
        rows = all-from _ (state_of cell g).table.rows
            (λ row m.
            state-width (has_violation cell) (length (support_at cell g)) (step_at cell g) row m
            ∙ ap (width (has_violation cell)) (sym (length-map (support_at cell g) (port_number cell.pins))));
        fed = pins_feed (support_at cell g) (group_support-at cell.pins (length cell.pins) cell.groups g (groups_hold cell h));
        violated = by (has_violation cell) refl;
      }
    where
      by : (b : Bool) → has_violation cell ≡ b → IsTrue (if b then nat_lt 0 (length (map (check_of cell) cell.checks)) else true)
      by false e = refl
      by true e = ap (λ n. nat_lt 0 n) (length-map cell.checks (check_of cell)) ∙ e

  states_are : All (IsState entity) (states_of cell)
  states_are =
      all-from (IsState entity) (states_of cell)
      (λ state m.
      let r = below-among (λ g. state_of cell g ∷ []) (length cell.groups) state m in
      elim r.2 [ inl e ↦ subst (IsState entity) e (state_is r.0) | inr k ↦ absurd k ])

  truth_is : (f : Node) → Among f (conditions_of cell) → IsTruth entity (condition_of cell.pins f)
  truth_is f m =
      record {
        rows = all-from _ (condition_of cell.pins f).table.rows
            (λ row k. truth-width (length (support_of f)) (condition_at (support_of f) f) row k
            ∙ sym (length-map (support_of f) (port_number cell.pins)));
        fed = pins_feed (support_of f) (condition-over cell (checks_hold cell h) (arcs_hold cell h) f m);
      }

  conditions_are : All (IsTruth entity) (map (condition_of cell.pins) (conditions_of cell))
  conditions_are =
      all-from (IsTruth entity) (map (condition_of cell.pins) (conditions_of cell))
      (λ truth m. let r = among-map (condition_of cell.pins) truth (conditions_of cell) m
      in subst (IsTruth entity) r.1 (truth_is r.0 r.2))

  -- conditions by their numbers
  numbered : (i : ℕ) → i < length (conditions_of cell) → IsTrue (is_condition_number entity i)
  numbered i l =
      let long : length (map (condition_of cell.pins) (conditions_of cell)) ≡ length (conditions_of cell) =
      length-map (conditions_of cell) (condition_of cell.pins) in
      lt-ltb i (length (map (condition_of cell.pins) (conditions_of cell))) (omega arith)

  source_feeds : (s : Source) → IsTrue (is_source cell.pins cell.groups s) → IsTrue (feeds entity (source_at cell.pins s))
  source_feeds (source.Pin p) k = input_port name cell.pins p k
  source_feeds (source.State g) k =
      let below : g < length cell.groups = ltb-true g (length cell.groups) k in
      let long : length (states_of cell) ≡ length cell.groups = below-length (state_of cell) (length cell.groups) in
      lt-ltb g (length (states_of cell)) (omega arith)

  table_is : (output : OutputPin) → IsTrue (is_output_of cell.pins cell.groups output)
      → IsValue entity (value.Table (output_table cell output) (map (source_at cell.pins) output.support))
  table_is output k =
      let few = and_parts _ _ k in
      let parts = and_parts (list_all (is_source cell.pins cell.groups) output.support) _ few.1 in (
        all-from _ (output_table cell output).rows
            (λ row m. truth-width (length output.support) (output_at (length cell.pins) cell.groups output) row m
            ∙ sym (length-map output.support (source_at cell.pins))),
        all-map (feeds entity) (is_source cell.pins cell.groups) (source_at cell.pins) source_feeds output.support parts.0,
      )

  value_is : (output : OutputPin) → IsTrue (is_output_of cell.pins cell.groups output)
      → IsValue entity (value_of_output cell output)
  value_is output k = by (has_sources output) (table_is output k)
    where
      by :
          (b : Bool) → IsValue entity (value.Table (output_table cell output) (map (source_at cell.pins) output.support))
          → IsValue entity (if b then value.Table (output_table cell output) (map (source_at cell.pins) output.support)
          else value.Constant (value_of no_values output.function))
      by true h = h
      by false h = tt

  gate_is : (arc : Arc) → Among arc cell.arcs → (o : Option Node) → arc.condition ≡ o
      → IsTrue (is_gate entity (gate_by cell arc o))
  gate_is arc m None e =
      gate-all entity (map (place_of cell) (conditions_beside cell.arcs arc))
      (all-made (is_condition_number entity) (place_of cell) (conditions_beside cell.arcs arc)
      (λ f k. numbered (place_of cell f)
      (arc-numbered cell arc f m (subst (λ o. Among f (conditions_by cell.arcs arc o)) (sym e) k))))
  gate_is arc m (Some f) e =
      numbered (place_of cell f) (arc-numbered cell arc f m
      (subst (λ o. Among f (conditions_by cell.arcs arc o)) (sym e) (inl refl)))

  path_is : (arc : Arc) → Among arc cell.arcs → IsPath entity (path_of cell arc)
  path_is arc m =
      let starts = (and_parts (is_input_pin cell.pins arc.from) _
      (all-among (is_arc cell.pins) cell.arcs arc (arcs_hold cell h) m)).0 in
      record { starts = input_port name cell.pins arc.from starts; gated = gate_is arc m arc.condition refl }

  output_is : (output : OutputPin) → Among output cell.outputs → IsOutput entity (output_of cell output)
  output_is output m =
      record {
        valued = value_is output (all-among (is_output_of cell.pins cell.groups) cell.outputs output (outputs_hold cell h) m);
        paths =
            all-from (IsPath entity) (output_of cell output).paths
            (λ path k.
            let ends = λ (arc : Arc). nat_eq arc.to output.pin in
            let r = among-map (path_of cell) path (filter ends cell.arcs) k in
            subst (IsPath entity) r.1 (path_is r.0 (among-filter ends r.0 cell.arcs r.2).0));
      }

  outputs_are : All (IsOutput entity) (map (output_of cell) cell.outputs)
  outputs_are =
      all-from (IsOutput entity) (map (output_of cell) cell.outputs)
      (λ output m. let r = among-map (output_of cell) output cell.outputs m in subst (IsOutput entity) r.1 (output_is r.0 r.2))

  -- the outputs are the output ports
  ports_driven : (outputs : List OutputPin)
      → map (λ (o : VOutput). o.port) (map (output_of cell) outputs) ≡ map (port_number cell.pins)
      (map (λ (o : OutputPin). o.pin) outputs)
  ports_driven [] = refl
  ports_driven (output ∷ outputs) = ap (λ ps. port_number cell.pins output.pin ∷ ps) (ports_driven outputs)

  pins_driven : map (λ (o : OutputPin). o.pin) cell.outputs ≡ output_pins_from 0 cell.pins
  pins_driven =
      (bytes_eq-Decides (map (λ (o : OutputPin). o.pin) cell.outputs) (output_pins_from 0 cell.pins)).0
      (and_parts _ (list_all (is_output_of cell.pins cell.groups) cell.outputs) h.of_outputs).0

  enabling_is : (k : Check) → Among k cell.checks → (o : Option Node) → k.condition ≡ o
      → IsTrue (is_enabling entity (option_map (place_of cell) o))
  enabling_is k m None e = refl
  enabling_is k m (Some f) e =
      numbered (place_of cell f) (check-numbered cell k f m (subst (λ o. Among f (condition_list o)) (sym e) (inl refl)))

  events_are : (k : Check) (kind : CheckKind) → IsTrue (rule.has_events k kind) → IsTrue (has_events (check_of cell k) kind)
  events_are k check_kind.Width e =
      same_under (port_number cell.pins) k.first.pin k.second.pin (are_opposite k.first.edge k.second.edge) e
  events_are k check_kind.Period e =
      same_under (port_number cell.pins) k.first.pin k.second.pin (is_any_edge k.first.edge && is_any_edge k.second.edge) e
  events_are k _ e = e

  check_is : (k : Check) → Among k cell.checks → IsCheck entity (check_of cell k)
  check_is k m =
      let holds = all-among (is_check cell.pins) cell.checks k (checks_hold cell h) m in
      let parts = check_parts cell.pins k holds in
      let first = and_parts (is_input_pin cell.pins k.first.pin) _ holds in
      let second = and_parts (is_input_pin cell.pins k.second.pin) _ first.1 in
      let events = and_parts (rule.has_events k k.kind) _ second.1 in
      record {
        first = input_port name cell.pins k.first.pin parts.first;
        second = input_port name cell.pins k.second.pin parts.second;
        events = events_are k k.kind events.0;
        enabled = enabling_is k m k.condition refl;
      }

  checks_are : All (IsCheck entity) (map (check_of cell) cell.checks)
  checks_are =
      all-from (IsCheck entity) (map (check_of cell) cell.checks)
      (λ k m. let r = among-map (check_of cell) k cell.checks m in subst (IsCheck entity) r.1 (check_is r.0 r.2))

  pub entity_is_sound : IsSound entity
  entity_is_sound =
      record {
        states = states_are;
        conditions = conditions_are;
        driven = ports_driven cell.outputs ∙ ap (map (port_number cell.pins)) pins_driven ∙ output_ports name cell.pins;
        outputs = outputs_are;
        checks = checks_are;
      }
