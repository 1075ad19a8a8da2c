-- The module of a cell fits it.
use Rattle.std.proofs.Common.{◌≡◌, ◌≢◌, ℕ, suc, ◌+◌, ◌<◌, Bool, true, false, not, ◌&&◌, ◌||◌, cond, List, [], ◌∷◌, ◌++◌, length}
use Rattle.std.proofs.Common.{map, get_or, set, inl, inr, refl, sym, ap, ◌∙◌, subst, arith, IsTrue, Option, Some, None, is_some}
use Rattle.std.proofs.Common.{option_map, slice_get, nat_eq, nat_lt, if◌then◌else◌}
use Rattle.std.specs.Prelude.{filter, position}
use Rattle.std.specs.List.{list_all, list_any, position_from}
use Rattle.std.specs.Option.{option_map_or}
use Rattle.std.proofs.lemmas.Bool.{and_parts, or_parts, ltb-true}
use Rattle.std.proofs.lemmas.List.{length-map, set-append_left}
use Rattle.std.proofs.lemmas.Option.{get_or_from_slice_get, slice_get_within as get-within}
use Rattle.trit_cubes.specs.declared.trits.Trit.{Trit}
use Rattle.trit_cubes.specs.declared.trits.Trit.TheVariants.{Zero, One, Unknown}
use Rattle.trit_cubes.specs.Resolution.{res}
use Rattle.trit_cubes.proofs.ListLemmas.{Among}
use Rattle.bool_functions.specs.declared.tree.Node.{Node}
use Rattle.bool_functions.specs.declared.tree.Node.TheVariants as node
use Rattle.bool_functions.specs.Tree.{value_of}
use Rattle.bool_functions.specs.Support.{support_of}
use Rattle.cell_machine.specs.declared.groups.StateGroup.{StateGroup}
use Rattle.cell_machine.specs.declared.outputs.Source.{Source}
use Rattle.cell_machine.specs.declared.outputs.Source.TheVariants as source
use Rattle.cell_machine.specs.declared.outputs.OutputPin.{OutputPin}
use Rattle.cell_machine.specs.declared.checks.Check.{Check}
use Rattle.cell_machine.specs.declared.arcs.Arc.{Arc}
use Rattle.cell_machine.specs.declared.changes.Change.{Change}
use Rattle.cell_machine.specs.CellData.{CellData}
use Rattle.cell_machine.specs.CellRules.{is_input_pin, is_output_pin, are_groups_from, is_source, is_check, is_arc, HoldsRules}
use Rattle.cell_machine.specs.Inputs.{pin_value, pin_values}
use Rattle.cell_machine.specs.Inputs as inputs
use Rattle.cell_machine.specs.Machine.{without, machine_step, forced}
use Rattle.cell_machine.specs.Values.{no_values}
use Rattle.cell_machine.specs.Outputs.{output_at, condition_at, is_one, is_zero}
use Rattle.cell_machine.specs.History.{value_before, is_event}
use Rattle.cell_machine.specs.CellTrace.{inputs_of, condition_value, condition_holds, NamedGroup, named_groups, named_from}
use Rattle.cell_machine.specs.CellTrace.{sources_at, place_in, moved_at, moved, same_pins}
use Rattle.cell_machine.specs.CellTrace as cell
use Rattle.udp_tables.specs.declared.parts.Part.TheVariants as part
use Rattle.udp_tables.specs.declared.models.VPort.{VPort}
use Rattle.udp_tables.specs.Primitive.{level_output}
use Rattle.udp_tables.specs.Sequential.{udp_next, noted}
use Rattle.udp_tables.specs.Conditions.{condition_list, conditions_by, conditions_of, condition_place}
use Rattle.udp_tables.specs.CellPrimitives.{has_notifier, group_primitive, condition_tree, condition_primitive, has_sources}
use Rattle.udp_tables.specs.CellPrimitives.{output_primitive}
use Rattle.udp_tables.specs.Laws.{PartsResolve, GroupsAreMachines, GroupsAreForced, ConditionsAreNumbered}
use Rattle.specify_blocks.specs.declared.model.VNet.{VNet}
use Rattle.specify_blocks.specs.declared.model.VNet.TheVariants as net
use Rattle.specify_blocks.specs.declared.model.Instance.TheVariants as instance
use Rattle.specify_blocks.specs.declared.model.Gate.TheVariants as gate
use Rattle.specify_blocks.specs.declared.model.VPath.{VPath}
use Rattle.specify_blocks.specs.declared.model.VModule.{VModule}
use Rattle.specify_blocks.specs.Sound.{IsSound}
use Rattle.specify_blocks.specs.Ports.{port_number, ports_of}
use Rattle.specify_blocks.specs.Generated.{condition_count, pin_net, source_net, notifier_nets, condition_wire, wire_of}
use Rattle.specify_blocks.specs.Generated.{each_from, group_instance, primitives_of, is_conditional, gate_by, path_of, check_of}
use Rattle.specify_blocks.specs.Generated.{module_of}
use Rattle.specify_blocks.proofs.OutputPins.{outputs_are_pins}
use Rattle.specify_blocks.proofs.PortLemmas.{input_port}
use Rattle.specify_blocks.proofs.PrimitiveLemmas.{group_primitive-at, condition_primitive-at}
use Rattle.vital_models.specs.Ports.{ports_of as vital_ports}
use Rattle.vital_models.proofs.PortFacts.{ports-sides, outputs-sides, output_ports as entity_output_ports}
use Rattle.vital_models.proofs.PortFacts as vital
use Rattle.model_traces.specs.declared.turns.Turned.TheVariants as turned
use Rattle.run_parts.specs.PortNumbers.{input_number, input_value, output_ports}
use Rattle.model_traces.specs.NetValues.{kept_state, source_value, primitive_value, instance_value, value_from, net_value}
use Rattle.model_traces.specs.Primitives.{is_turned, entry_value, next_at, primitive_next}
use Rattle.model_traces.specs.CheckReports.{is_enabled}
use Rattle.model_traces.specs.PathDelays.{is_off, is_quiet, is_active, path_at, is_between}
use Rattle.model_traces.specs.ModuleRun.{turn_of, toggled}
use Rattle.model_traces.specs.SequentialStates.{states_among}
use Rattle.model_traces.specs.ModuleFits.{FitsGroup, FitGroups, FitsCheck, FitsOutput, FitOutputs, ModuleFits}
use Rattle.model_traces.proofs.PlaceLemmas.{position-from, place-of-made, place-behind, set-last}
use Rattle.model_traces.proofs.PlaceLemmas.{apart}
use Rattle.model_traces.proofs.FitLemmas.{fit-made, measures-made}
use Rattle.model_traces.proofs.PinNumbers.{number-tied, count-tied, module-sides, outputs-by-sides, is_port_pin}
use Rattle.model_traces.proofs.PinNumbers.{output-pin-port, same-port, starts-at-port, ends-at-port, set-place}
use Rattle.model_traces.proofs.CellSteps.{IsNamed, named, support-is, step-is, IsSupport, supported, place-is, check-place}
use Rattle.model_traces.proofs.CellSteps.{arc-place, IsOutputPin, output-pin, all-passes, no-sources}
use Rattle.model_traces.proofs.ModuleParts.{condition-instance-at, output-instance-at, state-driver, condition-driver}
use Rattle.model_traces.proofs.ModuleParts.{output-driver, first-states, sequential-are}

-- what each entry of a list makes of the register, where there is one
noted-map : {X Y : Type 0} (f : VNet → Y) (make : X → VNet) (b : Bool) (xs : List X)
    → map f (map make xs ++ notifier_nets b) ≡ noted b (f net.Notifier) (map (λ x. f (make x)) xs)
noted-map f make false [] = refl
noted-map f make true [] = refl
noted-map f make false (x ∷ xs) = ap (λ r. f (make x) ∷ r) (noted-map f make false xs)
noted-map f make true (x ∷ xs) = ap (λ r. f (make x) ∷ r) (noted-map f make true xs)

noted-set : {X : Type 0} (b : Bool) (note : X) (xs : List X) (i : ℕ) (x : X)
    → i < length xs → set (noted b note xs) i x ≡ noted b note (set xs i x)
noted-set false note xs i x h = refl
noted-set true note xs i x h = set-append_left xs (note ∷ []) i x h

none-behind : (ports : List VPort) (i : ℕ) (b : Bool) (j : ℕ)
    → position_from (is_turned ports (turned.Input i)) j (notifier_nets b) ≡ None
none-behind ports i false j = refl
none-behind ports i true j = refl

differs : (a : Trit) → a ≢ toggled a
differs Zero = λ e. absurd cc
differs One = λ e. absurd cc
differs Unknown = λ e. absurd cc

module _ (parts_resolve : PartsResolve) (machines : GroupsAreMachines) (forces : GroupsAreForced)
    (numbered : ConditionsAreNumbered)
    (d : CellData) (rules : HoldsRules d.name d.pins d.groups d.outputs d.checks d.arcs) (sound : IsSound (module_of d)) where
  abbrev m : VModule
  m = module_of d

  groups-hold : IsTrue (are_groups_from d.pins (length d.pins) d.groups)
  groups-hold = (and_parts _ (are_groups_from d.pins (length d.pins) d.groups) rules.of_groups).1

  checks-hold : IsTrue (list_all (is_check d.pins) d.checks)
  checks-hold = (and_parts _ (list_all (is_check d.pins) d.checks) rules.of_checks).1

  arcs-hold : IsTrue (list_all (is_arc d.pins) d.arcs)
  arcs-hold = (and_parts _ _ (and_parts _ _ rules.of_arcs).1).0

  number : (p : ℕ) → input_number (ports_of d.pins) (port_number d.pins p) ≡ inputs.input_number d.pins p
  number = number-tied d.pins (ports_of d.pins) (module-sides 1 d.pins)

  pin-value : (v : List Trit) (p : ℕ) → input_value (ports_of d.pins) v (port_number d.pins p) ≡ pin_value d.pins v p
  pin-value v p = ap (λ i. get_or v i Unknown) (number p)

  -- the values of the nets of a support's pins
  values : (v : List Trit) (note : Trit) (support : List ℕ)
      → map (entry_value (ports_of d.pins) v note) (map (pin_net d.pins) support ++ notifier_nets (has_notifier d))
      ≡ noted (has_notifier d) note (pin_values d.pins v support)
  values v note support =
      noted-map (entry_value (ports_of d.pins) v note) (pin_net d.pins) (has_notifier d) support
      ∙ (λ i. noted (has_notifier d) note (map (λ p. pin-value v p i) support))

  -- the place of a changed input among the nets
  turned-place : (c : Change) (support : List ℕ) → IsTrue (list_all (is_input_pin d.pins) support)
      → position (is_turned (ports_of d.pins) (turned.Input c.pin))
      (map (pin_net d.pins) support ++ notifier_nets (has_notifier d))
      ≡ place_in d.pins support c
  turned-place c support h =
      position-from (is_turned (ports_of d.pins) (turned.Input c.pin))
      (map (pin_net d.pins) support ++ notifier_nets (has_notifier d))
      ∙ place-of-made (is_turned (ports_of d.pins) (turned.Input c.pin)) (λ p. nat_eq (inputs.input_number d.pins p) c.pin)
      (pin_net d.pins)
      (notifier_nets (has_notifier d)) 0 support
      (λ p among. λ i. input_port d.pins 1 p (all-passes (is_input_pin d.pins) support p h among) i && nat_eq (number p i) c.pin)
      (none-behind (ports_of d.pins) c.pin (has_notifier d))
      ∙ sym (position-from (λ p. nat_eq (inputs.input_number d.pins p) c.pin) support)

  -- the next state at a change of an input
  stepped : (g : ℕ) (group : NamedGroup) → IsNamed d g group → IsSupport d.pins group.group.support
      → (v : List Trit) (c : Change) (note s : Trit)
      → length v ≡ inputs_of d → c.pin < inputs_of d → is_event v c ≡ true
      → (place : Option ℕ) → place_in d.pins group.group.support c ≡ place
      → next_at place (group_primitive d g)
      (noted (has_notifier d) note (pin_values d.pins (set v c.pin c.to) group.group.support)) (value_before v c) s
      ≡ moved_at place group (pin_values d.pins (set v c.pin c.to) group.group.support) (value_before v c) c.to s
  stepped g group is support v c note s long inside event None e = refl
  stepped g group is support v c note s long inside event (Some p) e =
      let qs : List ℕ = group.group.support in
      let ys : List Trit = pin_values d.pins (set v c.pin c.to) qs in
      let (q, at, number, now) = set-place d.pins qs v c.pin p c.to e (omega (arith, long, inside)) in
      let within = get-within qs p q at in
      let many : length ys ≡ length qs = length-map qs (pin_value d.pins (set v c.pin c.to)) in
      let other : value_before v c ≢ get_or ys p Unknown =
      subst (λ t. value_before v c ≢ t) (sym now) (apart (value_before v c) c.to event) in
      ap (λ xs. udp_next (group_primitive d g).rows xs (noted (has_notifier d) note ys) s)
      (noted-set (has_notifier d) note ys p (value_before v c) (omega (arith, within, many)))
      ∙ machines d g p (value_before v c) ys note s (many ∙ ap length (sym (support-is d g group is)))
      (omega (arith, within, many)) other
      ∙ (λ i. machine_step (step-is d g group is i) p (value_before v c) (now i) (without p ys) s)

  -- an instance and its group
  fits-group : (g : ℕ) (group : NamedGroup) → IsNamed d g group → FitsGroup d m group (group_instance d g group.group)
  fits-group g group is =
      let qs : List ℕ = group.group.support in
      let nets : List VNet = map (pin_net d.pins) qs ++ notifier_nets (has_notifier d) in
      let support : IsSupport d.pins qs = supported d.pins (length d.pins) d.groups g group.group groups-hold is.at in
      let within = get-within d.groups g group.group is.at in
      record {
        steps =
            λ v c note s long inside event.
            ap (λ o. option_map_or (primitive_next (ports_of d.pins) (set v c.pin c.to) note (turn_of v c) nets s) o s)
            (group_primitive-at d g within)
            ∙ (λ i. next_at (turned-place c qs support.inputs i) (group_primitive d g) (values (set v c.pin c.to) note qs i)
            (value_before v c) s)
            ∙ stepped g group is support v c note s long inside event (place_in d.pins qs c) refl;
        forces =
            λ v note s long some.
            ap (λ o. option_map_or (primitive_next (ports_of d.pins) v (toggled note)
            (record { what = turned.Notifier; from = note }) nets s) o s)
            (group_primitive-at d g within)
            ∙ (λ i. next_at (position (is_turned (ports_of d.pins) turned.Notifier)
            (map (pin_net d.pins) qs ++ notifier_nets (some i))) (group_primitive d g) (values v (toggled note) qs i) note s)
            ∙ (λ i. next_at (noted-place qs i) (group_primitive d g) (noted (some i) (toggled note) (pin_values d.pins v qs)) note
            s)
            ∙ ap (λ xs. udp_next (group_primitive d g).rows xs (noted true (toggled note) (pin_values d.pins v qs)) s)
            (ap (λ k. set (noted true (toggled note) (pin_values d.pins v qs)) k note) (sym (length-map qs (pin_value d.pins v)))
            ∙ set-last (pin_values d.pins v qs) (toggled note) note)
            ∙ forces d g (pin_values d.pins v qs) note (toggled note) s some
            (length-map qs (pin_value d.pins v) ∙ ap length (sym (support-is d g group is))) (differs note)
            ∙ ap (λ step. forced step (pin_values d.pins v qs)) (step-is d g group is);
      }
    where
      noted-place : (qs : List ℕ) → position (is_turned (ports_of d.pins) turned.Notifier)
          (map (pin_net d.pins) qs ++ notifier_nets true) ≡ Some (length qs)
      noted-place qs =
          let here : 0 + length qs ≡ length qs = omega arith in
          position-from (is_turned (ports_of d.pins) turned.Notifier) (map (pin_net d.pins) qs ++ net.Notifier ∷ [])
          ∙ place-behind (is_turned (ports_of d.pins) turned.Notifier) (pin_net d.pins) net.Notifier 0 qs (λ p. refl) refl
          ∙ ap Some here

  fit-groups : (k name : ℕ) (groups : List StateGroup)
      → ((i : ℕ) (g : NamedGroup) → slice_get (named_from name groups) i ≡ Some g → IsNamed d (k + i) g)
      → FitGroups d m (named_from name groups) (each_from (group_instance d) k groups)
  fit-groups k name [] h = tt
  fit-groups k name (group ∷ groups) h =
      let here : k + 0 ≡ k = omega arith in (
        subst (λ n. FitsGroup d m (record { name = name; group = group }) (group_instance d n group)) here
            (fits-group (k + 0) (record { name = name; group = group }) (h 0 (record { name = name; group = group }) refl)),
        fit-groups (k + 1) (name + 2) groups
            (λ i g e. let moved : k + suc i ≡ (k + 1) + i = omega arith in subst (λ n. IsNamed d n g) moved (h (suc i) g e)),
      )

  -- the value of the net of a condition that is used
  condition-net : (v states : List Trit) (f : Node) → condition_place (conditions_of d) f < length (conditions_of d)
      → net_value m v states (net.Wire (wire_of d f)) ≡ condition_value d.pins v f
  condition-net v states f h =
      let i : ℕ = condition_place (conditions_of d) f in
      let at : slice_get (conditions_of d) i ≡ Some f = place-is f (conditions_of d) h in
      let tree : condition_tree d i ≡ f = get_or_from_slice_get (conditions_of d) i f node.Zero at in
      let read : List ℕ → List Trit = λ support. map (source_value m v states) (map (pin_net d.pins) support) in
      let state : Trit = get_or states (condition_wire d i) Unknown in
      ap (value_from m v states) (condition-driver d sound i f at)
      ∙ ap (λ o. option_map_or (instance_value m v states state) o Unknown) (condition-instance-at d sound i f at)
      ∙ ap (λ o. option_map_or (primitive_value m v states state (map (pin_net d.pins) (support_of f))) o Unknown)
      (condition_primitive-at d i h)
      ∙ ap (λ support. level_output (condition_primitive d i).rows (read support)) (ap support_of (sym tree))
      ∙ parts_resolve d (part.Condition i) (read (support_of (condition_tree d i)))
      (length-map (map (pin_net d.pins) (support_of (condition_tree d i))) (source_value m v states)
      ∙ length-map (support_of (condition_tree d i)) (pin_net d.pins))
      ∙ (λ n. res (condition_at (support_of (tree n)) (tree n)) (read (support_of (tree n))))
      ∙ ap (res (condition_at (support_of f) f)) (pins-read v states (support_of f))
    where
      pins-read : (v states : List Trit) (support : List ℕ)
          → map (source_value m v states) (map (pin_net d.pins) support) ≡ pin_values d.pins v support
      pins-read v states [] = refl
      pins-read v states (p ∷ support) = λ i. pin-value v p i ∷ pins-read v states support i

  fits-check : (k : Check) → Among k d.checks → FitsCheck d m k (check_of d k)
  fits-check k among =
      record {
        measures = measures-made d (ports_of d.pins) (wire_of d) k number;
        enabled = λ v states long many. enabled v states k.condition
            (λ f e. check-place numbered d k f among (subst (λ o. Among f (condition_list o)) (sym e) (inl refl)));
      }
    where
      enabled : (v states : List Trit) (o : Option Node)
          → ((f : Node) → o ≡ Some f → condition_place (conditions_of d) f < length (conditions_of d))
          → is_enabled m v states (option_map (wire_of d) o) ≡ condition_holds d.pins v o
      enabled v states None h = refl
      enabled v states (Some f) h = ap is_one (condition-net v states f (h f refl))

  -- the value of an output
  output-value :
      (k : ℕ) (output : OutputPin) → slice_get d.outputs k ≡ Some output → IsOutputPin d output
      → (v states : List Trit)
      → net_value m v states (pin_net d.pins output.pin) ≡ cell.output_value d.pins d.groups v (states_among m states) output
  output-value k output e is v states =
      let placed = output-instance-at d sound k output e in
      let state : Trit = get_or states (length d.groups + (condition_count d + k)) Unknown in
      ap (value_from m v states) (output-driver d sound k output e is.at)
      ∙ ap (λ o. option_map_or (instance_value m v states state) o Unknown) placed.1
      ∙ by placed.0 state (has_sources output) refl placed.2
    where
      sources-read : (sources : List Source) → IsTrue (list_all (is_source d.pins d.groups) sources)
          → map (source_value m v states) (map (source_net d.pins) sources)
          ≡ map (cell.source_value d.pins v (states_among m states)) sources
      sources-read [] h = refl
      sources-read (source.Pin p ∷ sources) h =
          let parts = and_parts (is_input_pin d.pins p) (list_all (is_source d.pins d.groups) sources) h in
          λ i. pin-value v p i ∷ sources-read sources parts.1 i
      sources-read (source.State g ∷ sources) h =
          let parts = and_parts (nat_lt g (length d.groups)) (list_all (is_source d.pins d.groups) sources) h in
          let within : g < length d.groups = ltb-true g (length d.groups) parts.0 in
          let here = ap (kept_state states) (state-driver d sound g within) ∙ sym (first-states d sound states g within) in
          λ i. here i ∷ sources-read sources parts.1 i

      by :
          (j : ℕ) (state : Trit) (b : Bool) → has_sources output ≡ b
          → (has_sources output ≡ true → slice_get (primitives_of d) j ≡ Some (output_primitive d k))
          → instance_value m v states state
          (if b then instance.Primitive j (pin_net d.pins output.pin) (map (source_net d.pins) output.support)
          else instance.Constant (pin_net d.pins output.pin) (value_of no_values output.function))
          ≡ cell.output_value d.pins d.groups v (states_among m states) output
      by j state true some primitive =
          let read : List Source → List Trit = λ sources. map (source_value m v states) (map (source_net d.pins) sources) in
          let support : sources_at d k ≡ output.support = ap (λ o. option_map_or (λ (x : OutputPin). x.support) o []) e in
          ap (λ o. option_map_or (primitive_value m v states state (map (source_net d.pins) output.support)) o Unknown)
          (primitive some)
          ∙ parts_resolve d (part.Output k) (read output.support)
          (length-map (map (source_net d.pins) output.support) (source_value m v states)
          ∙ length-map output.support (source_net d.pins) ∙ ap length (sym support))
          ∙ ap (λ f. res f (read output.support))
          (λ i point. option_map_or (λ (x : OutputPin). output_at (length d.pins) d.groups x point) (e i) Unknown)
          ∙ ap (res (output_at (length d.pins) d.groups output)) (sources-read output.support is.sources)
      by j state false some primitive =
          let none : output.support ≡ [] = no-sources output.support some in
          let made : List Source → OutputPin =
          λ sources. record { pin = output.pin; function = output.function; support = sources } in
          ap (λ sources. res (output_at (length d.pins) d.groups (made sources))
          (map (cell.source_value d.pins v (states_among m states)) sources)) (sym none)

  -- the conditions of the arcs
  arc-place-of : (arc : Arc) (f : Node) → Among arc d.arcs → arc.condition ≡ Some f
      → condition_place (conditions_of d) f < length (conditions_of d)
  arc-place-of arc f among e = arc-place numbered d arc f among
      (subst (λ o. Among f (conditions_by d.arcs arc o)) (sym e) (inl refl))

  off-same : (v states : List Trit) (arc : Arc) → Among arc d.arcs
      → is_off m v states (gate_by d arc arc.condition) ≡ cell.is_off d.pins v arc.condition
  off-same v states arc among = by arc.condition (λ f e. arc-place-of arc f among e)
    where
      by : (o : Option Node) → ((f : Node) → o ≡ Some f → condition_place (conditions_of d) f < length (conditions_of d))
          → is_off m v states (gate_by d arc o) ≡ cell.is_off d.pins v o
      by None h =
          elim (list_any (is_conditional arc) d.arcs) as (λ b. is_off m v states (if b then gate.IfNone else gate.Always) ≡ true) [
            | true ↦ refl
            | false ↦ refl
          ]
      by (Some f) h = ap is_zero (condition-net v states f (h f refl))

  -- the ends of an arc are ports
  from-port : (arc : Arc) → Among arc d.arcs → IsTrue (is_port_pin d.pins arc.from)
  from-port = starts-at-port d.pins d.arcs arcs-hold

  to-port : (arc : Arc) → Among arc d.arcs → IsTrue (is_port_pin d.pins arc.to)
  to-port = ends-at-port d.pins d.arcs arcs-hold

  quiet-same : (v states : List Trit) (arc other : Arc) → Among arc d.arcs → Among other d.arcs
      → is_quiet m v states (path_of d arc) (path_of d other) ≡ cell.is_quiet d.pins v arc other
  quiet-same v states arc other among beside =
      λ i.
      not (same-port d.pins arc.from other.from (from-port arc among) (from-port other beside) i
      && same-port d.pins arc.to other.to (to-port arc among) (to-port other beside) i)
      || off-same v states other beside i

  all-quiet : (v states : List Trit) (arc : Arc) → Among arc d.arcs → (arcs : List Arc)
      → ((other : Arc) → Among other arcs → Among other d.arcs)
      → list_all (is_quiet m v states (path_of d arc)) (map (path_of d) arcs) ≡ list_all (cell.is_quiet d.pins v arc) arcs
  all-quiet v states arc among [] h = refl
  all-quiet v states arc among (other ∷ arcs) h =
      λ i. quiet-same v states arc other among (h other (inl refl)) i && all-quiet v states arc among arcs (λ x k. h x (inr k)) i

  -- where no arc with a condition is beside it, all leave it active
  alone-quiet : (v : List Trit) (arc : Arc) (arcs : List Arc) → list_any (is_conditional arc) arcs ≡ false
      → true ≡ list_all (cell.is_quiet d.pins v arc) arcs
  alone-quiet v arc [] h = refl
  alone-quiet v arc (other ∷ arcs) h =
      let rest = alone-quiet v arc arcs (or_parts (is_conditional arc other) (list_any (is_conditional arc) arcs) h).1 in
      let first = by (same_pins arc other) other.condition
      (or_parts (is_conditional arc other) (list_any (is_conditional arc) arcs) h).0 in
      λ i. first i && rest i
    where
      by : (b : Bool) (o : Option Node) → (b && is_some o) ≡ false → true ≡ (not b || cell.is_off d.pins v o)
      by true None h = refl
      by true (Some f) h = absurd cc
      by false o h = refl

  active-same : (v states : List Trit) (arc : Arc) → Among arc d.arcs
      → is_active m v states (path_of d arc) (gate_by d arc arc.condition) ≡ cell.is_active d.pins d.arcs v arc arc.condition
  active-same v states arc among = by arc.condition (λ f e. arc-place-of arc f among e)
    where
      free : (b : Bool) → list_any (is_conditional arc) d.arcs ≡ b
          → is_active m v states (path_of d arc) (if b then gate.IfNone else gate.Always) ≡ list_all
          (cell.is_quiet d.pins v arc) d.arcs
      free true e = all-quiet v states arc among d.arcs (λ other k. k)
      free false e = alone-quiet v arc d.arcs e

      by : (o : Option Node) → ((f : Node) → o ≡ Some f → condition_place (conditions_of d) f < length (conditions_of d))
          → is_active m v states (path_of d arc) (gate_by d arc o) ≡ cell.is_active d.pins d.arcs v arc o
      by None h = free (list_any (is_conditional arc) d.arcs) refl
      by (Some f) h = ap (λ t. not (is_zero t)) (condition-net v states f (h f refl))

  -- the paths from an input to an output
  paths-same : (output : OutputPin) → IsOutputPin d output → (v states : List Trit) (input : ℕ) (arcs : List Arc)
      → ((arc : Arc) → Among arc arcs → Among arc d.arcs)
      → map (path_at m v states) (filter (is_between (ports_of d.pins) input (port_number d.pins output.pin))
      (map (path_of d) arcs))
      ≡ map (cell.path_of d.pins d.arcs v) (filter (cell.is_between d.pins input output.pin) arcs)
  paths-same output is v states input [] h = refl
  paths-same output is v states input (arc ∷ arcs) h =
      let among = h arc (inl refl) in
      let between : is_between (ports_of d.pins) input (port_number d.pins output.pin) (path_of d arc) ≡ cell.is_between d.pins
      input output.pin arc =
      λ i. nat_eq (number arc.from i) input
      && same-port d.pins arc.to output.pin (to-port arc among) (output-pin-port d.pins output.pin is.at) i in
      let rest = paths-same output is v states input arcs (λ x k. h x (inr k)) in
      let others : List VPath = filter (is_between (ports_of d.pins) input (port_number d.pins output.pin)) (map (path_of d) arcs)
      in
      let arcs_left : List Arc = filter (cell.is_between d.pins input output.pin) arcs in
      let active = active-same v states arc among in
      ap (λ b. map (path_at m v states) (cond b (path_of d arc ∷ others) others)) between
      ∙ elim (cell.is_between d.pins input output.pin arc) as (λ b.
      map (path_at m v states) (cond b (path_of d arc ∷ others) others) ≡ map (cell.path_of d.pins d.arcs v)
      (cond b (arc ∷ arcs_left) arcs_left)) [
        | true ↦ λ i. record { active = active i; rise = arc.rise; fall = arc.fall } ∷ rest i
        | false ↦ rest
      ]

  fits-output : (k : ℕ) (output : OutputPin) → slice_get d.outputs k ≡ Some output → IsOutputPin d output
      → FitsOutput d m output (port_number d.pins output.pin)
  fits-output k output e is =
      record {
        values = λ v states long many. output-value k output e is v states;
        paths = λ v states input long many. paths-same output is v states input d.arcs (λ arc among. among);
      }

  fit-outputs : (k : ℕ) (outputs : List OutputPin)
      → ((i : ℕ) (output : OutputPin) → slice_get outputs i ≡ Some output → slice_get d.outputs (k + i) ≡ Some output)
      → FitOutputs d m outputs (map (port_number d.pins) (map (λ (o : OutputPin). o.pin) outputs))
  fit-outputs k [] h = tt
  fit-outputs k (output ∷ outputs) h =
      let at = h 0 output refl in (
        fits-output (k + 0) output at (output-pin d rules (k + 0) output at),
        fit-outputs (k + 1) outputs
            (λ i o e. let moved : k + suc i ≡ (k + 1) + i = omega arith
            in subst (λ n. slice_get d.outputs n ≡ Some o) moved (h (suc i) o e)),
      )

  outputs-are : output_ports (ports_of d.pins) ≡ map (port_number d.pins) (map (λ (o : OutputPin). o.pin) d.outputs)
  outputs-are =
      outputs-by-sides 0 (ports_of d.pins)
      ∙ ap (vital.outputs_from 0) (module-sides 1 d.pins)
      ∙ sym (entity_output_ports [] d.pins ∙ outputs-sides 0 (vital_ports [] d.pins)
      ∙ ap (vital.outputs_from 0) (ports-sides [] [] d.pins))
      ∙ ap (map (port_number d.pins)) (sym (outputs_are_pins d.pins d.groups d.outputs rules.of_outputs))

  pub module-fits : ModuleFits d m
  module-fits =
      record {
        inputs = count-tied d.pins (ports_of d.pins) (module-sides 1 d.pins);
        groups =
            subst (λ instances. FitGroups d m (named_groups d) instances) (sym (sequential-are d sound))
            (fit-groups 0 (length d.pins) d.groups
            (λ i g e. let here : i ≡ 0 + i = omega arith in subst (λ n. IsNamed d n g) here (named d i g e)));
        checks = fit-made (FitsCheck d m) (check_of d) d.checks fits-check;
        outputs =
            subst (λ ps. FitOutputs d m d.outputs ps) (sym outputs-are)
            (fit-outputs 0 d.outputs (λ i o e. let here : i ≡ 0 + i = omega arith
            in subst (λ n. slice_get d.outputs n ≡ Some o) here e));
      }
