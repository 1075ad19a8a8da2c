-- The module of a cell is sound.
use Rattle.std.proofs.Common.{◌≡◌, ℕ, zero, suc, ◌+◌, ◌<◌, ◌≤◌, Bool, true, false, not, ◌&&◌, List, [], ◌∷◌, ◌++◌, length, map}
use Rattle.std.proofs.Common.{inl, refl, sym, ap, ◌∙◌, subst, arith, IsTrue, Option, Some, None, is_some, option_map, slice_get}
use Rattle.std.proofs.Common.{get_or, nat_eq, nat_lt, All, codes, length-append, if◌then◌else◌}
use Rattle.std.specs.List.{list_any, list_all}
use Rattle.std.specs.Option.{option_map_or}
use Rattle.std.proofs.lemmas.List.{length-map, append-nil}
use Rattle.std.proofs.lemmas.List.Elements.{All-nil, All-cons, All-map, All-append}
use Rattle.std.proofs.lemmas.List.Folds.{list_any-append, list_all-append}
use Rattle.std.proofs.lemmas.Option.{slice_get_within, get_or_from_slice_get, slice_get-get_or, slice_get-map}
use Rattle.std.proofs.lemmas.Bool.{and_parts, and_from, lt-ltb, ltb-true, ltb-false, eq-eqb}
use Rattle.bool_functions.specs.declared.tree.Node.{Node}
use Rattle.trit_cubes.proofs.ListLemmas.{Among}
use Rattle.trit_cubes.proofs.NumberTests.{same_under}
use Rattle.bool_functions.specs.declared.tree.Node.TheVariants as node
use Rattle.bool_functions.specs.Tree.{value_of}
use Rattle.bool_functions.specs.Support.{support_of}
use Rattle.cell_machine.specs.declared.pins.Pin.{Pin}
use Rattle.cell_machine.specs.declared.groups.StateGroup.{StateGroup}
use Rattle.cell_machine.specs.declared.outputs.Source.{Source}
use Rattle.cell_machine.specs.declared.outputs.Source.TheVariants as source
use Rattle.cell_machine.specs.declared.outputs.OutputPin.{OutputPin}
use Rattle.cell_machine.specs.declared.checks.CheckKind.{CheckKind}
use Rattle.cell_machine.specs.declared.checks.CheckKind.TheVariants as check_kind
use Rattle.cell_machine.specs.declared.checks.Check.{Check}
use Rattle.cell_machine.specs.declared.arcs.Arc.{Arc}
use Rattle.cell_machine.specs.Names.{source_name}
use Rattle.cell_machine.specs.Values.{no_values}
use Rattle.cell_machine.specs.CellRules.{is_ascending, is_input_pin, is_output_pin, output_pins_from, is_output, is_support}
use Rattle.cell_machine.specs.CellRules.{is_group, are_groups_from, is_source, is_output_of, has_events, are_opposite}
use Rattle.cell_machine.specs.CellRules.{is_any_edge, is_check, is_arc}
use Rattle.cell_machine.proofs.OutputFacts.{all-at}
use Rattle.cell_machine.proofs.StepLemmas.{ascending}
use Rattle.cell_machine.proofs.RuleLemmas.{check_parts}
use Rattle.udp_tables.specs.declared.table.Udp.{Udp}
use Rattle.udp_tables.specs.Edges.{each_below}
use Rattle.cell_machine.specs.CellData.{CellData}
use Rattle.udp_tables.specs.Conditions.{conditions_of, condition_place, condition_list, conditions_by}
use Rattle.cell_machine.specs.CellTrace.{support_at, sources_at, output_value_at}
use Rattle.udp_tables.specs.CellPrimitives.{has_notifier, group_inputs, group_primitive, condition_tree, condition_primitive}
use Rattle.udp_tables.specs.CellPrimitives.{has_sources, output_primitive, primitive_name, output_number, condition_number}
use Rattle.cell_tables.proofs.CellParts.{Rules, group_support-at, groups_hold, outputs_hold, checks_hold, arcs_hold}
use Rattle.cell_tables.proofs.TableLemmas.{primitive-combinational}
use Rattle.cell_tables.proofs.CellLaws.{groups_are_sequential-lem}
use Rattle.cell_machine.specs.Outputs.{condition_at}
use Rattle.specify_blocks.specs.declared.model.VNet.{VNet}
use Rattle.specify_blocks.specs.declared.model.VNet.TheVariants as net
use Rattle.specify_blocks.specs.declared.model.Instance.{Instance}
use Rattle.specify_blocks.specs.declared.model.Instance.TheVariants as instance
use Rattle.specify_blocks.specs.declared.model.Gate.TheVariants as gate
use Rattle.specify_blocks.specs.Nets.{same_net, are_apart, is_sequential, is_driven, net_driven, has_state, is_state, is_value}
use Rattle.specify_blocks.specs.Nets.{feeds_state, feeds_value, drivers}
use Rattle.specify_blocks.specs.Sound.{IsTable, IsInstance, AreInstances, is_gate, IsPath, has_written_events, is_enabling}
use Rattle.specify_blocks.specs.Sound.{IsCheck, IsSound}
use Rattle.specify_blocks.specs.Names.{notifier_name, state_wires, condition_wires}
use Rattle.specify_blocks.specs.Ports.{port_number}
use Rattle.specify_blocks.specs.Generated.{condition_count, wires_of, notifier_of, pin_net, source_net, notifier_nets}
use Rattle.specify_blocks.specs.Generated.{condition_wire, each_from, group_instance, condition_instance, output_instances}
use Rattle.specify_blocks.specs.Generated.{instances_of, output_primitives, group_primitives, condition_primitives, primitives_of}
use Rattle.specify_blocks.specs.Generated.{wire_of, is_conditional, gate_by, path_of, check_of, module_of}
use Rattle.specify_blocks.proofs.OutputPins.{outputs_are_pins}
use Rattle.specify_blocks.proofs.PortLemmas.{input_port, output_port, hits, output_once}
use Rattle.specify_blocks.proofs.InstanceLemmas.{drivers-append, or-left, or-right, is_state-more, no_port, wire_before}
use Rattle.specify_blocks.proofs.InstanceLemmas.{wire_after, wire_once, no_wire, port_hits, are-append, each_are, any_each}
use Rattle.specify_blocks.proofs.PrimitiveLemmas.{numbered-length, inputs-length, group_primitive-at, condition_primitive-at}
use Rattle.specify_blocks.proofs.PrimitiveLemmas.{output_primitive-at}
use Rattle.specify_blocks.proofs.ApartLemmas.{apart_pins, apart_sources, wire_apart, wire_apart_all, apart_noted, output_apart}
use Rattle.cell_tables.proofs.ConditionLemmas.{support-ascending}
use Rattle.cell_tables.proofs.ConditionUses.{condition-over, check-numbered, arc-numbered}
use Rattle.cell_tables.proofs.OutputLemmas.{among-at}

-- what is made of each element of which a test holds
all-made :
    {X Y : Type 0} (P : Y → Type 0) (make : X → Y) (test : X → Bool) (xs : List X) → IsTrue (list_all test xs)
    → ((k : ℕ) (x : X) → k < length xs → slice_get xs k ≡ Some x → IsTrue (test x) → P (make x)) → All P (map make xs)
all-made P make test xs h each =
    All-map P make xs
    (λ k d within.
    let at : slice_get xs k ≡ Some (get_or xs k d) = slice_get-get_or xs k d within in
    each k (get_or xs k d) within at (all-at test xs k (get_or xs k d) h at))

-- each of the output pins is one
outputs_pass :
    (pins : List Pin) (k : ℕ) (t : ℕ → Bool) → ((i : ℕ) → IsTrue (is_output_pin pins i) → IsTrue (t (k + i)))
    → IsTrue (list_all t (output_pins_from k pins))
outputs_pass [] k t h = refl
outputs_pass (pin ∷ pins) k t h =
    by (is_output pin.direction) (λ e. let same : k + 0 ≡ k = omega arith in subst (λ n. IsTrue (t n)) same (h 0 e))
    (outputs_pass pins (k + 1) t (λ i e. let moved : k + suc i ≡ (k + 1) + i = omega arith
    in subst (λ n. IsTrue (t n)) moved (h (suc i) e)))
  where
    by :
        (b : Bool) → (IsTrue b → IsTrue (t k)) → IsTrue (list_all t (output_pins_from (k + 1) pins))
        → IsTrue (list_all t (if b then k ∷ output_pins_from (k + 1) pins else output_pins_from (k + 1) pins))
    by true here rest = and_from (t k) (list_all t (output_pins_from (k + 1) pins)) (here refl) rest
    by false here rest = rest

-- nets of pins that feed an instance
pins_feed :
    (pins : List Pin) (t : VNet → Bool) → ((p : ℕ) → IsTrue (is_input_pin pins p) → IsTrue (t (pin_net pins p)))
    → (support : List ℕ) → IsTrue (list_all (is_input_pin pins) support) → IsTrue (list_all t (map (pin_net pins) support))
pins_feed pins t h [] k = refl
pins_feed pins t h (p ∷ support) k =
    let parts = and_parts (is_input_pin pins p) (list_all (is_input_pin pins) support) k in
    and_from (t (pin_net pins p)) (list_all t (map (pin_net pins) support)) (h p parts.0) (pins_feed pins t h support parts.1)

sources_feed :
    (pins : List Pin) (groups : List StateGroup) (t : VNet → Bool)
    → ((s : Source) → IsTrue (is_source pins groups s) → IsTrue (t (source_net pins s)))
    → (support : List Source) → IsTrue (list_all (is_source pins groups) support)
    → IsTrue (list_all t (map (source_net pins) support))
sources_feed pins groups t h [] k = refl
sources_feed pins groups t h (s ∷ support) k =
    let parts = and_parts (is_source pins groups s) (list_all (is_source pins groups) support) k in
    and_from (t (source_net pins s)) (list_all t (map (source_net pins) support)) (h s parts.0)
    (sources_feed pins groups t h support parts.1)

noted_length : (b : Bool) (nets : List VNet) (n : ℕ) → length nets ≡ n
    → length (nets ++ notifier_nets b) ≡ (if b then n + 1 else n)
noted_length false nets n h = ap length (append-nil nets) ∙ h
noted_length true nets n h = let whole = length-append nets (net.Notifier ∷ []) in omega (arith, whole, h)

module _ (cell : CellData) (h : Rules cell) where
  wires_long : length (wires_of cell) ≡ length cell.groups + condition_count cell
  wires_long =
      let whole = length-append (state_wires (length cell.groups)) (condition_wires (condition_count cell)) in
      omega (
        arith,
        whole,
        numbered-length (codes "lib_s") (length cell.groups),
        numbered-length (codes "lib_c")
            (condition_count cell),
      )

  -- an input pin's port feeds instances with and without a state
  port_feeds : (before : List Instance) (p : ℕ) → IsTrue (is_input_pin cell.pins p)
      → IsTrue (feeds_value (module_of cell) before (pin_net cell.pins p))
  port_feeds before p k = input_port cell.pins 1 p k

  port_feeds_state : (p : ℕ) → IsTrue (is_input_pin cell.pins p) → IsTrue (feeds_state (module_of cell) (pin_net cell.pins p))
  port_feeds_state p k = input_port cell.pins 1 p k

  notifier_feeds : (b : Bool) → has_notifier cell ≡ b → IsTrue (list_all (feeds_state (module_of cell)) (notifier_nets b))
  notifier_feeds false e = refl
  notifier_feeds true e =
      and_from (is_some (notifier_of cell)) true (ap (λ b. is_some (if b then Some notifier_name else None)) e) refl

  group_is : (g : ℕ) (group : StateGroup) (before : List Instance) → slice_get cell.groups g ≡ Some group
      → IsInstance (module_of cell) before (group_instance cell g group)
  group_is g group before e =
      let within : g < length cell.groups = slice_get_within cell.groups g group e in
      let support = group_support-at cell.pins (length cell.pins) cell.groups g group (groups_hold cell h) e in
      let some = and_parts _ _ support in
      let few = and_parts _ _ some.1 in
      let parts = and_parts (is_ascending group.support) (list_all (is_input_pin cell.pins) group.support) few.1 in
      let nets : List VNet = map (pin_net cell.pins) group.support in
      let held : support_at cell g ≡ group.support = ap (λ o. option_map_or (λ (x : StateGroup). x.support) o []) e in
      let long : length nets ≡ length (support_at cell g) = length-map group.support (pin_net cell.pins) ∙ ap length (sym held)
      in (
        group_primitive cell g,
        group_primitive-at cell g within,
        record {
          entries = noted_length (has_notifier cell) nets (length (support_at cell g)) long
              ∙ sym (inputs-length (group_inputs cell g));
          apart =
              and_from (not (list_any (same_net (net.Wire g)) (nets ++ notifier_nets (has_notifier cell))))
              (are_apart (nets ++ notifier_nets (has_notifier cell)))
              (ap not (wire_apart_all g cell.pins group.support (has_notifier cell)))
              (apart_noted cell.pins group.support (has_notifier cell)
              (apart_pins cell.pins group.support (ascending group.support parts.0) parts.1));
          drives = lt-ltb g (length (wires_of cell)) (omega (arith, wires_long));
          fed =
              list_all-append (feeds_state (module_of cell)) nets (notifier_nets (has_notifier cell))
              ∙ and_from (list_all (feeds_state (module_of cell)) nets)
              (list_all (feeds_state (module_of cell)) (notifier_nets (has_notifier cell)))
              (pins_feed cell.pins (feeds_state (module_of cell)) port_feeds_state group.support parts.1)
              (notifier_feeds (has_notifier cell) refl);
        },
      )

  condition_is : (i : ℕ) (f : Node) (before : List Instance) → slice_get (conditions_of cell) i ≡ Some f
      → IsInstance (module_of cell) before (condition_instance cell i f)
  condition_is i f before e =
      let within : i < condition_count cell = slice_get_within (conditions_of cell) i f e in
      let named : IsTrue (list_all (is_input_pin cell.pins) (support_of f)) =
      condition-over cell (checks_hold cell h) (arcs_hold cell h) f (among-at (conditions_of cell) i f e) in
      let nets : List VNet = map (pin_net cell.pins) (support_of f) in
      let same : condition_tree cell i ≡ f = get_or_from_slice_get (conditions_of cell) i f node.Zero e in
      let long : length nets ≡ length (support_of (condition_tree cell i)) =
      length-map (support_of f) (pin_net cell.pins) ∙ ap (λ t. length (support_of t)) (sym same) in (
        condition_primitive cell i,
        condition_primitive-at cell i within,
        record {
          entries = long ∙ sym (inputs-length (length (support_of (condition_tree cell i))));
          apart =
              and_from (not (list_any (same_net (net.Wire (condition_wire cell i))) nets)) (are_apart nets)
              (ap not (wire_apart (condition_wire cell i) cell.pins (support_of f)))
              (apart_pins cell.pins (support_of f) (support-ascending f) named);
          drives = lt-ltb (condition_wire cell i) (length (wires_of cell)) (omega (arith, wires_long));
          fed = pins_feed cell.pins (feeds_value (module_of cell) before) (port_feeds before) (support_of f) named;
        },
      )

  -- the states of all groups are driven
  abbrev States : List Instance → Type 0
  States before = (g : ℕ) → g < length cell.groups → IsTrue (is_state (module_of cell) before g)

  source_feeds : (before : List Instance) → States before → (s : Source) → IsTrue (is_source cell.pins cell.groups s)
      → IsTrue (feeds_value (module_of cell) before (source_net cell.pins s))
  source_feeds before states (source.Pin p) k = port_feeds before p k
  source_feeds before states (source.State g) k = states g (ltb-true g (length cell.groups) k)

  output_is :
      (i j : ℕ) (output : OutputPin) (before : List Instance)
      → slice_get cell.outputs i ≡ Some output → slice_get (primitives_of cell) j ≡ Some (output_primitive cell i)
      → IsTrue (is_output_pin cell.pins output.pin) → States before
      → IsInstance (module_of cell) before
      (instance.Primitive j (pin_net cell.pins output.pin) (map (source_net cell.pins) output.support))
  output_is i j output before e at is states =
      let held : List ℕ = map (source_name (length cell.pins)) output.support in
      let rule = all-at (is_output_of cell.pins cell.groups) cell.outputs i output (outputs_hold cell h) e in
      let few = and_parts _ _ rule in
      let parts = and_parts (list_all (is_source cell.pins cell.groups) output.support) _ few.1 in
      let order = and_parts (is_ascending held) _ parts.1 in
      let nets : List VNet = map (source_net cell.pins) output.support in
      let same : sources_at cell i ≡ output.support = ap (λ o. option_map_or (λ (x : OutputPin). x.support) o []) e in
      let long : length nets ≡ length (sources_at cell i) =
      length-map output.support (source_net cell.pins) ∙ ap length (sym same) in (
        output_primitive cell i,
        at,
        record {
          entries = long ∙ sym (inputs-length (length (sources_at cell i)));
          apart =
              and_from (not (list_any (same_net (pin_net cell.pins output.pin)) nets)) (are_apart nets)
              (ap not (output_apart cell.pins cell.groups output.pin output.support is parts.0))
              (apart_sources cell.pins cell.groups output.support (ascending held order.0) parts.0);
          drives = output_port cell.pins 1 output.pin is;
          fed = sources_feed cell.pins cell.groups (feeds_value (module_of cell) before)
              (source_feeds before states) output.support parts.0;
        },
      )

  states-more : (before more : List Instance) → States before → States (before ++ more)
  states-more before more states g within = is_state-more (module_of cell) before more g (states g within)

  outputs_are :
      (i j : ℕ) (outputs : List OutputPin) (before : List Instance)
      → ((n : ℕ) (output : OutputPin) → slice_get outputs n ≡ Some output → slice_get cell.outputs (i + n) ≡ Some output)
      → ((n : ℕ) → slice_get (primitives_of cell) (j + n) ≡ slice_get (output_primitives cell i outputs) n)
      → ((n : ℕ) (output : OutputPin) → slice_get outputs n ≡ Some output → IsTrue (is_output_pin cell.pins output.pin))
      → States before
      → AreInstances (module_of cell) before (output_instances cell j outputs)
  outputs_are i j [] before at follow are states = tt
  outputs_are i j (output ∷ outputs) before at follow are states =
      by (has_sources output) refl (λ j instance next. outputs_are (i + 1) j outputs (before ++ instance ∷ []) later next
      (λ n o e. are (suc n) o e) (states-more before (instance ∷ []) states))
    where
      here : slice_get cell.outputs i ≡ Some output
      here = let same : i + 0 ≡ i = omega arith in subst (λ n. slice_get cell.outputs n ≡ Some output) same (at 0 output refl)

      later : (n : ℕ) (o : OutputPin) → slice_get outputs n ≡ Some o → slice_get cell.outputs ((i + 1) + n) ≡ Some o
      later n o e = let moved : i + suc n ≡ (i + 1) + n = omega arith
          in subst (λ m. slice_get cell.outputs m ≡ Some o) moved (at (suc n) o e)

      followed : (b : Bool) → has_sources output ≡ b → (n : ℕ)
          → slice_get (primitives_of cell) (j + n) ≡ slice_get
          (if b then output_primitive cell i ∷ output_primitives cell (i + 1) outputs else output_primitives cell (i + 1) outputs)
          n
      followed b e n = follow n ∙ ap (λ c. slice_get (if c then output_primitive cell i ∷ output_primitives cell (i + 1) outputs
          else output_primitives cell (i + 1) outputs) n) e

      by :
          (b : Bool) → has_sources output ≡ b
          → ((j : ℕ) (instance : Instance)
          → ((n : ℕ) → slice_get (primitives_of cell) (j + n) ≡ slice_get (output_primitives cell (i + 1) outputs) n)
          → AreInstances (module_of cell) (before ++ instance ∷ []) (output_instances cell j outputs))
          → AreInstances (module_of cell) before
          ((if b then instance.Primitive j (pin_net cell.pins output.pin) (map (source_net cell.pins) output.support)
          else instance.Constant (pin_net cell.pins output.pin) (value_of no_values output.function))
          ∷ output_instances cell (if b then j + 1 else j) outputs)
      by true e again =
          let first : j + 0 ≡ j = omega arith in (
            output_is i j output before here
                (subst (λ n. slice_get (primitives_of cell) n ≡ Some (output_primitive cell i)) first (followed true e 0))
                (are 0 output refl) states,
            again (j + 1) _
                (λ n. let moved : (j + 1) + n ≡ j + suc n = omega arith
                in ap (slice_get (primitives_of cell)) moved ∙ followed true e (suc n)),
          )
      by false e again = (output_port cell.pins 1 output.pin (are 0 output refl), again j _ (followed false e))

  -- the states of the groups
  groups_drive : States (each_from (group_instance cell) 0 cell.groups)
  groups_drive g within =
      let group : StateGroup = get_or cell.groups g (some_group cell.groups g within) in
      let at : slice_get cell.groups g ≡ Some group = slice_get-get_or cell.groups g (some_group cell.groups g within) within in
      any_each (λ i. has_state (primitives_of cell) i && same_net (net_driven i) (net.Wire g)) (group_instance cell) 0 cell.groups
      g group at
      (let same : g ≡ 0 + g = omega arith in
      subst (λ n. IsTrue (has_state (primitives_of cell) (group_instance cell n group) && same_net (net.Wire n) (net.Wire g)))
      same
      (and_from (is_sequential (primitives_of cell) g) (nat_eq g g)
      (ap (λ o. option_map_or (λ (udp : Udp). udp.sequential) o false) (group_primitive-at cell g within)) (eq-eqb g g refl)))
    where
      some_group : (groups : List StateGroup) (g : ℕ) → g < length groups → StateGroup
      some_group [] g k = absurd (omega arith)
      some_group (x ∷ xs) g k = x

  output_pin-at : (n : ℕ) (output : OutputPin) → slice_get cell.outputs n ≡ Some output
      → IsTrue (is_output_pin cell.pins output.pin)
  output_pin-at n output e =
      let pin : OutputPin → ℕ = λ (o : OutputPin). o.pin in
      let all : IsTrue (list_all (is_output_pin cell.pins) (output_pins_from 0 cell.pins)) =
      outputs_pass cell.pins 0 (is_output_pin cell.pins) (λ i k. let same : i ≡ 0 + i = omega arith
      in subst (λ m. IsTrue (is_output_pin cell.pins m)) same k) in
      let listed : IsTrue (list_all (is_output_pin cell.pins) (map pin cell.outputs)) =
      subst (λ ps. IsTrue (list_all (is_output_pin cell.pins) ps))
      (sym (outputs_are_pins cell.pins cell.groups cell.outputs h.of_outputs)) all in
      all-at (is_output_pin cell.pins) (map pin cell.outputs) n output.pin listed
      (slice_get-map pin cell.outputs n ∙ ap (option_map pin) e)

  instances_are : AreInstances (module_of cell) [] (instances_of cell)
  instances_are =
      let groups : List Instance = each_from (group_instance cell) 0 cell.groups in
      let conditions : List Instance = each_from (condition_instance cell) 0 (conditions_of cell) in
      let first : ℕ = length cell.groups + condition_count cell in
      are-append (module_of cell) [] groups (conditions ++ output_instances cell first cell.outputs)
      (each_are (module_of cell) (group_instance cell) 0 cell.groups []
      (λ i group before e. let same : i ≡ 0 + i = omega arith
      in subst (λ n. IsInstance (module_of cell) before (group_instance cell n group)) same (group_is i group before e)))
      (are-append (module_of cell) groups conditions (output_instances cell first cell.outputs)
      (each_are (module_of cell) (condition_instance cell) 0 (conditions_of cell) groups
      (λ i f before e. let same : i ≡ 0 + i = omega arith
      in subst (λ n. IsInstance (module_of cell) before (condition_instance cell n f)) same (condition_is i f before e)))
      (outputs_are 0 first cell.outputs (groups ++ conditions)
      (λ n output e. let same : n ≡ 0 + n = omega arith in subst (λ m. slice_get cell.outputs m ≡ Some output) same e)
      (λ n. output_primitive-at cell n)
      output_pin-at
      (states-more groups conditions groups_drive)))

  group_wire : (k : ℕ) (group : StateGroup) → net_driven (group_instance cell k group) ≡ net.Wire (0 + k)
  group_wire k group = let same : k ≡ 0 + k = omega arith in ap net.Wire same

  condition_wires-are : (k : ℕ) (f : Node) → net_driven (condition_instance cell k f) ≡ net.Wire (length cell.groups + k)
  condition_wires-are k f = refl

  -- the instances by what they stand for
  drivers_parts :
      (n : VNet)
      → drivers (instances_of cell) n
      ≡ drivers (each_from (group_instance cell) 0 cell.groups) n
      + (drivers (each_from (condition_instance cell) 0 (conditions_of cell)) n
      + drivers (output_instances cell (length cell.groups + condition_count cell) cell.outputs) n)
  drivers_parts n =
      let groups : List Instance = each_from (group_instance cell) 0 cell.groups in
      let conditions : List Instance = each_from (condition_instance cell) 0 (conditions_of cell) in
      let outputs : List Instance = output_instances cell (length cell.groups + condition_count cell) cell.outputs in
      drivers-append groups (conditions ++ outputs) n ∙ ap (λ k. drivers groups n + k) (drivers-append conditions outputs n)

  driven_once : (n : VNet) → IsTrue (is_driven (module_of cell) n) → drivers (instances_of cell) n ≡ 1
  driven_once (net.Port q) k =
      let listed = port_hits cell (length cell.groups + condition_count cell) cell.outputs q in
      let once : hits (port_number cell.pins) q (map (λ (o : OutputPin). o.pin) cell.outputs) ≡ 1 =
      subst (λ ps. hits (port_number cell.pins) q ps ≡ 1) (sym (outputs_are_pins cell.pins cell.groups cell.outputs h.of_outputs))
      (output_once cell.pins q k) in
      omega (
        arith,
        drivers_parts (net.Port q),
        no_port (group_instance cell) 0 group_wire 0 cell.groups q,
        no_port (condition_instance cell) (length cell.groups) condition_wires-are 0 (conditions_of cell) q,
        listed,
        once,
      )
  driven_once (net.Wire w) k =
      let below : w < length (wires_of cell) = ltb-true w (length (wires_of cell)) k in
      by (nat_lt w (length cell.groups)) refl (omega (arith, below, wires_long))
    where
      by :
          (b : Bool) → nat_lt w (length cell.groups) ≡ b → w < length cell.groups + condition_count cell
          → drivers (instances_of cell) (net.Wire w) ≡ 1
      by true e below =
          let within : w < length cell.groups = ltb-true w (length cell.groups) e in
          omega (
            arith,
            drivers_parts (net.Wire w),
            wire_once (group_instance cell) 0 group_wire 0 cell.groups w (omega arith) (omega arith),
            wire_before (condition_instance cell) (length cell.groups) condition_wires-are 0 (conditions_of cell) w (omega arith),
            no_wire cell (length cell.groups + condition_count cell) cell.outputs w,
          )
      by false e below =
          let above : length cell.groups ≤ w = ltb-false w (length cell.groups) e in
          omega (
            arith,
            drivers_parts (net.Wire w),
            wire_after (group_instance cell) 0 group_wire 0 cell.groups w (omega arith),
            wire_once (condition_instance cell) (length cell.groups) condition_wires-are 0 (conditions_of cell) w (omega arith)
                (omega arith),
            no_wire cell (length cell.groups + condition_count cell) cell.outputs w,
          )
  driven_once net.Notifier k = absurd cc

  abbrev TableHolds : Udp → Type 0
  TableHolds udp = IsTable udp.sequential udp

  below_all : (f : ℕ → Udp) → ((i : ℕ) → TableHolds (f i)) → (n : ℕ) → All TableHolds (each_below (λ i. f i ∷ []) n)
  below_all f k zero = All-nil TableHolds
  below_all f k (suc n) = All-append TableHolds (each_below (λ i. f i ∷ []) n) (f n ∷ []) (below_all f k n)
      (All-cons TableHolds (f n) [] (k n) (All-nil TableHolds))

  outputs_all : (i : ℕ) (outputs : List OutputPin) → All TableHolds (output_primitives cell i outputs)
  outputs_all i [] = All-nil TableHolds
  outputs_all i (output ∷ outputs) = by (has_sources output) (outputs_all (i + 1) outputs)
    where
      by :
          (b : Bool) → All TableHolds (output_primitives cell (i + 1) outputs)
          → All TableHolds (if b then output_primitive cell i ∷ output_primitives cell (i + 1) outputs
          else output_primitives cell (i + 1) outputs)
      by true rest =
          All-cons TableHolds (output_primitive cell i) (output_primitives cell (i + 1) outputs)
          (primitive-combinational (primitive_name cell.number (output_number cell i)) (length (sources_at cell i))
          (output_value_at cell i)) rest
      by false rest = rest

  tables_hold : All TableHolds (primitives_of cell)
  tables_hold =
      All-append TableHolds (group_primitives cell) (condition_primitives cell ++ output_primitives cell 0 cell.outputs)
      (below_all (group_primitive cell) (groups_are_sequential-lem cell) (length cell.groups))
      (All-append TableHolds (condition_primitives cell) (output_primitives cell 0 cell.outputs)
      (below_all (condition_primitive cell)
      (λ i. primitive-combinational (primitive_name cell.number (condition_number cell i))
      (length (support_of (condition_tree cell i)))
      (condition_at (support_of (condition_tree cell i)) (condition_tree cell i)))
      (condition_count cell))
      (outputs_all 0 cell.outputs))

  -- the wire of a condition that has its number
  value_is : (f : Node) → condition_place (conditions_of cell) f < condition_count cell
      → IsTrue (is_value (module_of cell) (instances_of cell) (wire_of cell f))
  value_is f within =
      let i : ℕ = condition_place (conditions_of cell) f in
      let g : Node = get_or (conditions_of cell) i node.Zero in
      let at : slice_get (conditions_of cell) i ≡ Some g = slice_get-get_or (conditions_of cell) i node.Zero within in
      let test : Instance → Bool = λ x. not (has_state (primitives_of cell) x)
      && same_net (net_driven x) (net.Wire (condition_wire cell i)) in
      let groups : List Instance = each_from (group_instance cell) 0 cell.groups in
      let conditions : List Instance = each_from (condition_instance cell) 0 (conditions_of cell) in
      let outputs : List Instance = output_instances cell (length cell.groups + condition_count cell) cell.outputs in
      let same : i ≡ 0 + i = omega arith in
      let passes : IsTrue (test (condition_instance cell i g)) =
      and_from (not (is_sequential (primitives_of cell) (condition_wire cell i)))
      (nat_eq (condition_wire cell i) (condition_wire cell i))
      (ap (λ o. not (option_map_or (λ (udp : Udp). udp.sequential) o false)) (condition_primitive-at cell i within))
      (eq-eqb (condition_wire cell i) (condition_wire cell i) refl) in
      list_any-append test groups (conditions ++ outputs)
      ∙ or-right (list_any test groups) (list_any test (conditions ++ outputs))
      (list_any-append test conditions outputs
      ∙ or-left (list_any test conditions) (list_any test outputs)
      (any_each test (condition_instance cell) 0 (conditions_of cell) i g at
      (subst (λ n. IsTrue (test (condition_instance cell n g))) same passes)))

  gate_is :
      (k : ℕ) (arc : Arc) → slice_get cell.arcs k ≡ Some arc → (o : Option Node) → arc.condition ≡ o
      → IsTrue (is_gate (module_of cell) (gate_by cell arc o))
  gate_is k arc at None e = by (list_any (is_conditional arc) cell.arcs)
    where
      by : (b : Bool) → IsTrue (is_gate (module_of cell) (if b then gate.IfNone else gate.Always))
      by true = refl
      by false = refl
  gate_is k arc at (Some f) e = value_is f
      (arc-numbered cell arc f (among-at cell.arcs k arc at)
      (subst (λ o. Among f (conditions_by cell.arcs arc o)) (sym e) (inl refl)))

  paths_are : All (IsPath (module_of cell)) (map (path_of cell) cell.arcs)
  paths_are =
      all-made (IsPath (module_of cell)) (path_of cell) (is_arc cell.pins) cell.arcs (arcs_hold cell h)
      (λ k arc within at rule.
      let first = and_parts (is_input_pin cell.pins arc.from) _ rule in
      let second = and_parts (is_output_pin cell.pins arc.to) _ first.1 in
      record {
        starts = input_port cell.pins 1 arc.from first.0;
        ends = output_port cell.pins 1 arc.to second.0;
        gated = gate_is k arc at arc.condition refl;
      })

  enabling_is :
      (i : ℕ) (k : Check) → slice_get cell.checks i ≡ Some k → (o : Option Node) → k.condition ≡ o
      → IsTrue (is_enabling (module_of cell) (option_map (wire_of cell) o))
  enabling_is i k at None e = refl
  enabling_is i k at (Some f) e = value_is f
      (check-numbered cell k f (among-at cell.checks i k at) (subst (λ o. Among f (condition_list o)) (sym e) (inl refl)))

  written_is : (k : Check) (c : CheckKind) → IsTrue (has_events k c) → IsTrue (has_written_events (check_of cell k) c)
  written_is k check_kind.Width e =
      same_under (port_number cell.pins) k.first.pin k.second.pin (are_opposite k.first.edge k.second.edge) e
  written_is k check_kind.Period e =
      same_under (port_number cell.pins) k.first.pin k.second.pin (is_any_edge k.first.edge && is_any_edge k.second.edge) e
  written_is k _ e = refl

  notifier_is : (i : ℕ) → i < length cell.checks → IsTrue (is_some (notifier_of cell))
  notifier_is i within =
      let some : has_notifier cell ≡ true = lt-ltb 0 (length cell.checks) (omega arith) in
      ap (λ b. is_some (if b then Some notifier_name else None)) some

  checks_are : All (IsCheck (module_of cell)) (map (check_of cell) cell.checks)
  checks_are =
      all-made (IsCheck (module_of cell)) (check_of cell) (is_check cell.pins) cell.checks (checks_hold cell h)
      (λ i k within at rule.
      let parts = check_parts cell.pins k rule in
      let first = and_parts (is_input_pin cell.pins k.first.pin) _ rule in
      let second = and_parts (is_input_pin cell.pins k.second.pin) _ first.1 in
      let events = and_parts (has_events k k.kind) _ second.1 in
      record {
        first = input_port cell.pins 1 k.first.pin parts.first;
        second = input_port cell.pins 1 k.second.pin parts.second;
        written = written_is k k.kind events.0;
        enabled = enabling_is i k at k.condition refl;
        notified = notifier_is i within;
      })

  pub module_is_sound : IsSound (module_of cell)
  module_is_sound = record {
    tables = tables_hold;
    instances = instances_are;
    driven = driven_once;
    paths = paths_are;
    checks =
        checks_are;
  }
