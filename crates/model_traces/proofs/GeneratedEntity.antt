-- The entity of a cell fits it.
use Rattle.std.proofs.Common.{◌≡◌, ◌≢◌, ℕ, suc, ◌+◌, ◌<◌, Bool, true, false, not, ◌&&◌, ◌||◌, cond, List, [], ◌∷◌, ◌++◌, length}
use Rattle.std.proofs.Common.{map, get_or, set, inl, inr, refl, sym, ap, ◌∙◌, subst, arith, IsTrue, Option, Some, None}
use Rattle.std.proofs.Common.{option_map, slice_get, nat_eq, eqb-true, flat_map, if◌then◌else◌}
use Rattle.std.specs.Prelude.{filter}
use Rattle.std.specs.List.{list_all}
use Rattle.std.specs.Option.{option_map_or}
use Rattle.std.proofs.lemmas.Bool.{and_parts, and_from, eq-eqb}
use Rattle.std.proofs.lemmas.List.{length-map}
use Rattle.std.proofs.lemmas.Option.{slice_get-map, slice_get_within as get-within}
use Rattle.trit_cubes.specs.declared.trits.Trit.{Trit}
use Rattle.trit_cubes.specs.declared.trits.Trit.TheVariants.{Zero, Unknown}
use Rattle.trit_cubes.specs.Resolution.{res}
use Rattle.trit_cubes.proofs.ListLemmas.{Among}
use Rattle.bool_functions.specs.declared.tree.Node.{Node}
use Rattle.bool_functions.specs.Tree.{value_of}
use Rattle.bool_functions.specs.Support.{support_of}
use Rattle.cell_machine.specs.declared.outputs.Source.{Source}
use Rattle.cell_machine.specs.declared.outputs.Source.TheVariants as source
use Rattle.cell_machine.specs.declared.outputs.OutputPin.{OutputPin}
use Rattle.cell_machine.specs.declared.checks.CheckKind.{CheckKind}
use Rattle.cell_machine.specs.declared.checks.CheckKind.TheVariants as check_kind
use Rattle.cell_machine.specs.declared.checks.Check.{Check}
use Rattle.cell_machine.specs.declared.arcs.Arc.{Arc}
use Rattle.cell_machine.specs.declared.changes.Change.{Change}
use Rattle.cell_machine.specs.CellData.{CellData}
use Rattle.cell_machine.specs.CellRules.{are_groups_from, is_any_edge, are_opposite, is_input_pin, is_check, HoldsRules}
use Rattle.cell_machine.specs.CellRules as rules_of_cells
use Rattle.cell_machine.specs.Inputs.{pin_value, pin_values}
use Rattle.cell_machine.specs.Inputs as inputs
use Rattle.cell_machine.specs.Machine.{without, machine_step, forced}
use Rattle.cell_machine.specs.Values.{no_values}
use Rattle.cell_machine.specs.Outputs.{output_at, condition_at, is_one, is_zero}
use Rattle.cell_machine.specs.History.{value_before, is_event}
use Rattle.cell_machine.specs.CellTrace.{inputs_of, condition_value as condition_of_cell, condition_holds, NamedGroup}
use Rattle.cell_machine.specs.CellTrace.{named_groups, place_in, moved_at, same_pins}
use Rattle.cell_machine.specs.CellTrace as cell
use Rattle.udp_tables.specs.Conditions.{condition_list, conditions_by, conditions_beside, conditions_of, condition_place}
use Rattle.udp_tables.specs.CellPrimitives.{has_sources}
use Rattle.udp_tables.specs.Laws.{ConditionsAreNumbered}
use Rattle.specify_blocks.proofs.PrimitiveLemmas.{below-length, below-get}
use Rattle.vital_models.specs.declared.model.VState.{VState}
use Rattle.vital_models.specs.declared.model.HPath.{HPath}
use Rattle.vital_models.specs.declared.model.VEntity.{VEntity}
use Rattle.vital_models.specs.declared.model.OutValue.TheVariants as value
use Rattle.vital_models.specs.LookUps.{lookup_state}
use Rattle.vital_models.specs.Rows.{violated}
use Rattle.vital_models.specs.Ports.{port_number, ports_of}
use Rattle.vital_models.specs.Sound.{has_events}
use Rattle.vital_models.specs.Generated.{has_violation, ports_at, state_table, state_of, states_of, condition_of, output_table}
use Rattle.vital_models.specs.Generated.{source_at, place_of, all_zero, gate_by, path_of, output_of, check_of, entity_of}
use Rattle.vital_models.specs.Laws.{StatesAreMachines, OutputsResolve, ConditionsResolve}
use Rattle.vital_models.proofs.PortFacts.{ports-sides}
use Rattle.run_parts.specs.PortNumbers.{input_number, input_value}
use Rattle.model_traces.specs.ProcessValues.{truth_value, condition_value, is_enabled, source_value, output_value}
use Rattle.model_traces.specs.GatedPaths.{gate_holds, path_at, begins_at}
use Rattle.model_traces.specs.ProcessRun.{columns}
use Rattle.model_traces.specs.EntityFits.{FitsGroup, FitGroups, FitsCheck, FitsOutput, EntityFits}
use Rattle.model_traces.proofs.PlaceLemmas.{position-from, apart}
use Rattle.model_traces.proofs.FitLemmas.{fit-made, measures-made}
use Rattle.model_traces.proofs.PinNumbers.{number-tied, count-tied, still-values, changed-values, set-place}
use Rattle.model_traces.proofs.CellSteps.{IsNamed, named, support-is, step-is, IsSupport, supported, place-is, check-place}
use Rattle.model_traces.proofs.CellSteps.{arc-place, all-passes, no-sources, length-named}

module _ (states_step : StatesAreMachines) (outputs_resolve : OutputsResolve) (conditions_resolve : ConditionsResolve)
    (numbered : ConditionsAreNumbered)
    (d : CellData) (rules : HoldsRules d.name d.pins d.groups d.outputs d.checks d.arcs) (name : List ℕ) where
  abbrev e : VEntity
  e = entity_of d name

  groups-hold : IsTrue (are_groups_from d.pins (length d.pins) d.groups)
  groups-hold = (and_parts _ (are_groups_from d.pins (length d.pins) d.groups) rules.of_groups).1

  checks-hold : IsTrue (list_all (is_check d.pins) d.checks)
  checks-hold = (and_parts _ (list_all (is_check d.pins) d.checks) rules.of_checks).1

  number : (p : ℕ) → input_number (ports_of name d.pins) (port_number d.pins p) ≡ inputs.input_number d.pins p
  number = number-tied d.pins (ports_of name d.pins) (ports-sides name [] d.pins)

  pin-value : (v : List Trit) (p : ℕ) → input_value (ports_of name d.pins) v (port_number d.pins p) ≡ pin_value d.pins v p
  pin-value v p = ap (λ i. get_or v i Unknown) (number p)

  pins-read : (v : List Trit) (support : List ℕ)
      → map (input_value (ports_of name d.pins) v) (ports_at d.pins support) ≡ pin_values d.pins v support
  pins-read v [] = refl
  pins-read v (p ∷ support) = λ i. pin-value v p i ∷ pins-read v support i

  -- the columns of a group's table
  columns-are : (i : ℕ) (g : NamedGroup) → IsNamed d i g → (violation : Trit) (v : List Trit)
      → columns (ports_of name d.pins) violation v (state_of d i) ≡ violated (has_violation d) violation
      (pin_values d.pins v g.group.support)
  columns-are i g is violation v =
      ap (λ support. violated (has_violation d) violation (map (input_value (ports_of name d.pins) v) (ports_at d.pins support)))
      (support-is d i g is)
      ∙ ap (violated (has_violation d) violation) (pins-read v g.group.support)

  -- the next state without a violation
  stepped : (i : ℕ) (g : NamedGroup) → IsNamed d i g → IsSupport d.pins g.group.support
      → (v : List Trit) (c : Change) (violation s : Trit)
      → length v ≡ inputs_of d → c.pin < inputs_of d → is_event v c ≡ true
      → (place : Option ℕ) → place_in d.pins g.group.support c ≡ place
      → lookup_state (state_table d i).rows (violated (has_violation d) violation (pin_values d.pins v g.group.support))
      (violated (has_violation d) Zero (pin_values d.pins (set v c.pin c.to) g.group.support)) s
      ≡ moved_at place g (pin_values d.pins (set v c.pin c.to) g.group.support) (value_before v c) c.to s
  stepped i g is support v c violation s long inside event None at =
      let qs : List ℕ = g.group.support in
      let none = sym (position-from (λ q. nat_eq (inputs.input_number d.pins q) c.pin) qs) ∙ at in
      let ys : List Trit = pin_values d.pins (set v c.pin c.to) qs in
      ap (λ xs. lookup_state (state_table d i).rows (violated (has_violation d) violation xs) (violated (has_violation d) Zero ys)
      s)
      (still-values d.pins v c.pin c.to 0 qs none)
      ∙ (states_step d i).keeps ys violation s
      (length-map qs (pin_value d.pins (set v c.pin c.to)) ∙ ap length (sym (support-is d i g is)))
  stepped i g is support v c violation s long inside event (Some p) at =
      let qs : List ℕ = g.group.support in
      let ys : List Trit = pin_values d.pins (set v c.pin c.to) qs in
      let first = sym (position-from (λ q. nat_eq (inputs.input_number d.pins q) c.pin) qs) ∙ at in
      let there : p ≡ 0 + p = omega arith in
      let (q, pin-at, number, now) = set-place d.pins qs v c.pin p c.to at (omega (arith, long, inside)) in
      let within = get-within qs p q pin-at in
      let many : length ys ≡ length qs = length-map qs (pin_value d.pins (set v c.pin c.to)) in
      let other : value_before v c ≢ get_or ys p Unknown =
      subst (λ t. value_before v c ≢ t) (sym now) (apart (value_before v c) c.to event) in
      ap (λ xs. lookup_state (state_table d i).rows (violated (has_violation d) violation xs) (violated (has_violation d) Zero ys)
      s)
      (changed-values d.pins v c.pin c.to 0 p qs support.inputs support.ascends (first ∙ ap Some there))
      ∙ (states_step d i).steps p (value_before v c) ys violation s (many ∙ ap length (sym (support-is d i g is)))
      (omega (arith, within, many)) other
      ∙ (λ n. machine_step (step-is d i g is n) p (value_before v c) (now n) (without p ys) s)

  -- a state and its group
  fits-group : (i : ℕ) (g : NamedGroup) → IsNamed d i g → FitsGroup d e g (state_of d i)
  fits-group i g is =
      let qs : List ℕ = g.group.support in
      let support : IsSupport d.pins qs = supported d.pins (length d.pins) d.groups i g.group groups-hold is.at in
      record {
        steps =
            λ v c violation s long inside event.
            (λ n. lookup_state (state_table d i).rows (columns-are i g is violation v n)
            (columns-are i g is Zero (set v c.pin c.to) n) s)
            ∙ stepped i g is support v c violation s long inside event (place_in d.pins qs c) refl;
        forces =
            λ v c violation s long inside event some.
            let xs : List Trit = pin_values d.pins v qs in
            let ys : List Trit = pin_values d.pins (set v c.pin c.to) qs in
            let many : length ys ≡ length qs = length-map qs (pin_value d.pins (set v c.pin c.to)) in
            let as_many : length (violation ∷ xs) ≡ suc (length ys) = ap suc (length-map qs (pin_value d.pins v) ∙ sym many) in
            (λ n. lookup_state (state_table d i).rows (columns-are i g is violation v n)
            (columns-are i g is Unknown (set v c.pin c.to) n) s)
            ∙ (λ n. lookup_state (state_table d i).rows (violated (some n) violation xs) (violated (some n) Unknown ys) s)
            ∙ (states_step d i).forces (violation ∷ xs) ys s some (many ∙ ap length (sym (support-is d i g is))) as_many
            ∙ ap (λ step. forced step ys) (step-is d i g is);
      }

  fit-each : (gs : List NamedGroup) (ss : List VState) → length gs ≡ length ss
      → ((i : ℕ) (g : NamedGroup) (s : VState) → slice_get gs i ≡ Some g → slice_get ss i ≡ Some s → FitsGroup d e g s)
      → FitGroups d e gs ss
  fit-each [] [] long h = tt
  fit-each [] (s ∷ ss) long h = absurd (omega arith)
  fit-each (g ∷ gs) [] long h = absurd (omega arith)
  fit-each (g ∷ gs) (s ∷ ss) long h = (h 0 g s refl refl, fit-each gs ss (omega arith) (λ i x y a b. h (suc i) x y a b))

  fit-groups : FitGroups d e (named_groups d) (states_of d)
  fit-groups =
      fit-each (named_groups d) (states_of d)
      (length-named (length d.pins) d.groups ∙ sym (below-length (state_of d) (length d.groups)))
      (λ i g s at made.
      let is = named d i g at in
      let within = get-within d.groups i g.group is.at in
      let same : Some (state_of d i) ≡ Some s = sym (below-get (state_of d) (length d.groups) i within) ∙ made in
      let equal : state_of d i ≡ s = cc in
      subst (FitsGroup d e g) equal (fits-group i g is))

  -- the value of a condition that is used
  condition-is : (v : List Trit) (f : Node) → condition_place (conditions_of d) f < length (conditions_of d)
      → condition_value e v (place_of d f) ≡ condition_of_cell d.pins v f
  condition-is v f h =
      let i : ℕ = condition_place (conditions_of d) f in
      let at : slice_get (conditions_of d) i ≡ Some f = place-is f (conditions_of d) h in
      ap (λ o. option_map_or (truth_value (ports_of name d.pins) v) o Unknown)
      (slice_get-map (condition_of d.pins) (conditions_of d) i ∙ ap (option_map (condition_of d.pins)) at)
      ∙ conditions_resolve f (map (input_value (ports_of name d.pins) v) (ports_at d.pins (support_of f)))
      (length-map (ports_at d.pins (support_of f)) (input_value (ports_of name d.pins) v)
      ∙ length-map (support_of f) (port_number d.pins))
      ∙ ap (res (condition_at (support_of f) f)) (pins-read v (support_of f))

  -- the events of a check
  events-are : (k : Check) (kind : CheckKind) → IsTrue (rules_of_cells.has_events k kind)
      → IsTrue (has_events (check_of d k) kind)
  events-are k check_kind.Setup h = h
  events-are k check_kind.Hold h = h
  events-are k check_kind.Recovery h = h
  events-are k check_kind.Removal h = h
  events-are k check_kind.Width h =
      let parts = and_parts (nat_eq k.first.pin k.second.pin) (are_opposite k.first.edge k.second.edge) h in
      and_from (nat_eq (port_number d.pins k.first.pin) (port_number d.pins k.second.pin))
      (are_opposite k.first.edge k.second.edge)
      (eq-eqb _ _ (ap (port_number d.pins) (eqb-true k.first.pin k.second.pin parts.0))) parts.1
  events-are k check_kind.Period h =
      let edges : Bool = is_any_edge k.first.edge && is_any_edge k.second.edge in
      let parts = and_parts (nat_eq k.first.pin k.second.pin) edges h in
      and_from (nat_eq (port_number d.pins k.first.pin) (port_number d.pins k.second.pin)) edges
      (eq-eqb _ _ (ap (port_number d.pins) (eqb-true k.first.pin k.second.pin parts.0))) parts.1

  fits-check : (k : Check) → Among k d.checks → FitsCheck d e k (check_of d k)
  fits-check k among =
      let rule = all-passes (is_check d.pins) d.checks k checks-hold among in
      let second = (and_parts (is_input_pin d.pins k.first.pin) _ rule).1 in
      let events = (and_parts (is_input_pin d.pins k.second.pin) _ second).1 in
      record {
        events = events-are k k.kind (and_parts (rules_of_cells.has_events k k.kind) _ events).0;
        measures = measures-made d (ports_of name d.pins) (place_of d) k number;
        enabled = λ v long. enabled v k.condition
            (λ f at. check-place numbered d k f among (subst (λ o. Among f (condition_list o)) (sym at) (inl refl)));
      }
    where
      enabled : (v : List Trit) (o : Option Node)
          → ((f : Node) → o ≡ Some f → condition_place (conditions_of d) f < length (conditions_of d))
          → is_enabled e v (option_map (place_of d) o) ≡ condition_holds d.pins v o
      enabled v None h = refl
      enabled v (Some f) h = ap is_one (condition-is v f (h f refl))

  -- the value of an output
  sources-read : (v states : List Trit) (sources : List Source)
      → map (source_value (ports_of name d.pins) v states) (map (source_at d.pins) sources) ≡ map
      (cell.source_value d.pins v states) sources
  sources-read v states [] = refl
  sources-read v states (source.Pin p ∷ sources) = λ i. pin-value v p i ∷ sources-read v states sources i
  sources-read v states (source.State g ∷ sources) = ap (λ r. get_or states g Unknown ∷ r) (sources-read v states sources)

  output-value : (v states : List Trit) (output : OutputPin)
      → output_value e v states (output_of d output).value ≡ cell.output_value d.pins d.groups v states output
  output-value v states output = by (has_sources output) refl
    where
      by : (b : Bool) → has_sources output ≡ b
          → output_value e v states (if b then value.Table (output_table d output) (map (source_at d.pins) output.support)
          else value.Constant (value_of no_values output.function))
          ≡ cell.output_value d.pins d.groups v states output
      by true some =
          outputs_resolve d output (map (source_value (ports_of name d.pins) v states) (map (source_at d.pins) output.support))
          (length-map (map (source_at d.pins) output.support) (source_value (ports_of name d.pins) v states)
          ∙ length-map output.support (source_at d.pins))
          ∙ ap (res (output_at (length d.pins) d.groups output)) (sources-read v states output.support)
      by false some =
          let none : output.support ≡ [] = no-sources output.support some in
          let made : List Source → OutputPin =
          λ sources. record { pin = output.pin; function = output.function; support = sources } in
          ap (λ sources. res (output_at (length d.pins) d.groups (made sources))
          (map (cell.source_value d.pins v states) sources)) (sym none)

  -- the conditions of the arcs
  arc-place-of : (arc : Arc) (f : Node) → Among arc d.arcs → arc.condition ≡ Some f
      → condition_place (conditions_of d) f < length (conditions_of d)
  arc-place-of arc f among at = arc-place numbered d arc f among
      (subst (λ o. Among f (conditions_by d.arcs arc o)) (sym at) (inl refl))

  zero-all : (v : List Trit) (is : List ℕ) → gate_holds e v (all_zero is) ≡ list_all (λ i. is_zero (condition_value e v i)) is
  zero-all v [] = refl
  zero-all v (i ∷ is) = refl

  beside-quiet : (v : List Trit) (arc : Arc) (arcs : List Arc) → ((other : Arc) → Among other arcs → Among other d.arcs)
      → list_all (λ i. is_zero (condition_value e v i))
      (map (place_of d) (flat_map (λ (other : Arc). condition_list other.condition) (filter (same_pins arc) arcs)))
      ≡ list_all (cell.is_quiet d.pins v arc) arcs
  beside-quiet v arc [] h = refl
  beside-quiet v arc (other ∷ arcs) h =
      by (same_pins arc other) other.condition refl (beside-quiet v arc arcs (λ x k. h x (inr k)))
    where
      by : (b : Bool) (o : Option Node) → other.condition ≡ o
          → list_all (λ i. is_zero (condition_value e v i))
          (map (place_of d) (flat_map (λ (other : Arc). condition_list other.condition) (filter (same_pins arc) arcs)))
          ≡ list_all (cell.is_quiet d.pins v arc) arcs
          → list_all (λ i. is_zero (condition_value e v i))
          (map (place_of d) (flat_map (λ (other : Arc). condition_list other.condition)
          (cond b (other ∷ filter (same_pins arc) arcs) (filter (same_pins arc) arcs))))
          ≡ ((not b || cell.is_off d.pins v other.condition) && list_all (cell.is_quiet d.pins v arc) arcs)
      by false o at rest = rest
      by true None at rest =
          let others : List Node = flat_map (λ (other : Arc). condition_list other.condition) (filter (same_pins arc) arcs) in
          ap (λ o. list_all (λ i. is_zero (condition_value e v i)) (map (place_of d) (condition_list o ++ others))) at
          ∙ rest
          ∙ ap (λ o. (false || cell.is_off d.pins v o) && list_all (cell.is_quiet d.pins v arc) arcs) (sym at)
      by true (Some f) at rest =
          let others : List Node = flat_map (λ (other : Arc). condition_list other.condition) (filter (same_pins arc) arcs) in
          ap (λ o. list_all (λ i. is_zero (condition_value e v i)) (map (place_of d) (condition_list o ++ others))) at
          ∙ (λ n. is_zero (condition-is v f (arc-place-of other f (h other (inl refl)) at) n) && rest n)
          ∙ ap (λ o. (false || cell.is_off d.pins v o) && list_all (cell.is_quiet d.pins v arc) arcs) (sym at)

  active-same : (v : List Trit) (arc : Arc) → Among arc d.arcs
      → gate_holds e v (gate_by d arc arc.condition) ≡ cell.is_active d.pins d.arcs v arc arc.condition
  active-same v arc among = by arc.condition (λ f at. arc-place-of arc f among at)
    where
      by : (o : Option Node) → ((f : Node) → o ≡ Some f → condition_place (conditions_of d) f < length (conditions_of d))
          → gate_holds e v (gate_by d arc o) ≡ cell.is_active d.pins d.arcs v arc o
      by None h = zero-all v (map (place_of d) (conditions_beside d.arcs arc)) ∙ beside-quiet v arc d.arcs (λ other k. k)
      by (Some f) h = ap (λ t. not (is_zero t)) (condition-is v f (h f refl))

  -- the paths from an input to an output
  paths-same : (p : ℕ) (v : List Trit) (input : ℕ) (arcs : List Arc) → ((arc : Arc) → Among arc arcs → Among arc d.arcs)
      → map (path_at e v) (filter (begins_at (ports_of name d.pins) input)
      (map (path_of d) (filter (λ (arc : Arc). nat_eq arc.to p) arcs)))
      ≡ map (cell.path_of d.pins d.arcs v) (filter (cell.is_between d.pins input p) arcs)
  paths-same p v input [] h = refl
  paths-same p v input (arc ∷ arcs) h =
      let begins : begins_at (ports_of name d.pins) input (path_of d arc) ≡ nat_eq (inputs.input_number d.pins arc.from) input =
      ap (λ n. nat_eq n input) (number arc.from) in
      let rest = paths-same p v input arcs (λ x k. h x (inr k)) in
      let left : List Arc = filter (λ (arc : Arc). nat_eq arc.to p) arcs in
      let others : List HPath = filter (begins_at (ports_of name d.pins) input) (map (path_of d) left) in
      let beyond : List Arc = filter (cell.is_between d.pins input p) arcs in
      let active = active-same v arc (h arc (inl refl)) in
      elim (nat_eq arc.to p) as (λ b.
      map (path_at e v) (filter (begins_at (ports_of name d.pins) input) (map (path_of d) (cond b (arc ∷ left) left)))
      ≡ map (cell.path_of d.pins d.arcs v) (cond (nat_eq (inputs.input_number d.pins arc.from) input && b) (arc ∷ beyond) beyond)) [
        | true ↦
            ap (λ b. map (path_at e v) (cond b (path_of d arc ∷ others) others)) begins
            ∙ elim (nat_eq (inputs.input_number d.pins arc.from) input) as (λ b.
            map (path_at e v) (cond b (path_of d arc ∷ others) others) ≡ map (cell.path_of d.pins d.arcs v)
            (cond (b && true) (arc ∷ beyond) beyond)) [
              | true ↦ λ i. record { active = active i; rise = arc.rise; fall = arc.fall } ∷ rest i
              | false ↦ rest
            ]
        | false ↦
            rest
            ∙ elim (nat_eq (inputs.input_number d.pins arc.from) input) as (λ b.
            map (cell.path_of d.pins d.arcs v) beyond ≡ map (cell.path_of d.pins d.arcs v)
            (cond (b && false) (arc ∷ beyond) beyond)) [
              | true ↦ refl
              | false ↦ refl
            ]
      ]

  pub entity-fits : EntityFits d e
  entity-fits =
      record {
        inputs = count-tied d.pins (ports_of name d.pins) (ports-sides name [] d.pins);
        groups = fit-groups;
        checks = fit-made (FitsCheck d e) (check_of d) d.checks fits-check;
        outputs =
            fit-made (FitsOutput d e) (output_of d) d.outputs
            (λ output among.
            record {
              values = λ v states long many. output-value v states output;
              paths = λ v input long. paths-same output.pin v input d.arcs (λ arc among. among);
            });
      }
