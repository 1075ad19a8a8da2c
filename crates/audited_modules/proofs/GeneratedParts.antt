-- The instances of a generated module that stand for the parts of its cell, and what feeds them.
use Rattle.std.proofs.Common.{◌≡◌, ℕ, ◌+◌, ◌<◌, Bool, true, false, not, List, [], ◌∷◌, ◌++◌, length, map, refl, sym, ap, ◌∙◌}
use Rattle.std.proofs.Common.{subst, arith, IsTrue, Some, slice_get, nat_lt, if◌then◌else◌}
use Rattle.std.specs.List.{list_all}
use Rattle.std.specs.Option.{option_map_or}
use Rattle.std.proofs.lemmas.Bool.{and_parts, and_from, ltb-true}
use Rattle.std.proofs.lemmas.List.{length-map}
use Rattle.bool_functions.specs.declared.tree.Node.{Node}
use Rattle.bool_functions.specs.Support.{support_of}
use Rattle.bool_functions.specs.Tree.{value_of}
use Rattle.cell_machine.specs.declared.groups.StateGroup.{StateGroup}
use Rattle.cell_machine.specs.declared.outputs.Source.{Source}
use Rattle.cell_machine.specs.declared.outputs.Source.TheVariants as source
use Rattle.cell_machine.specs.declared.outputs.OutputPin.{OutputPin}
use Rattle.cell_machine.specs.CellData.{CellData}
use Rattle.cell_machine.specs.CellRules.{is_input_pin, is_source}
use Rattle.cell_machine.specs.Values.{no_values}
use Rattle.cell_machine.specs.CellTrace.{support_at, sources_at}
use Rattle.cell_machine.proofs.ArcDelays.{some_at}
use Rattle.udp_tables.specs.declared.table.Udp.{Udp}
use Rattle.udp_tables.specs.Conditions.{conditions_of, condition_place}
use Rattle.udp_tables.specs.CellPrimitives.{has_notifier, has_sources, output_primitive}
use Rattle.specify_blocks.specs.declared.model.VNet.{VNet}
use Rattle.specify_blocks.specs.declared.model.VNet.TheVariants as net
use Rattle.specify_blocks.specs.declared.model.Instance.TheVariants as instance
use Rattle.specify_blocks.specs.declared.model.VModule.{VModule}
use Rattle.specify_blocks.specs.Nets.{is_sequential, net_driven, are_apart}
use Rattle.specify_blocks.specs.Sound.{IsSound}
use Rattle.specify_blocks.specs.Generated.{pin_net, notifier_nets, condition_count, condition_wire, wire_of, each_from}
use Rattle.specify_blocks.specs.Generated.{group_instance, condition_instance, output_instance, output_instances, instances_of}
use Rattle.specify_blocks.specs.Generated.{primitives_of, module_of}
use Rattle.specify_blocks.specs.Generated as generated
use Rattle.specify_blocks.proofs.PrimitiveLemmas.{get-left, condition_primitive-at}
use Rattle.model_traces.proofs.PlaceLemmas.{get-within}
use Rattle.model_traces.proofs.CellSteps.{IsOutputPin, place-is, no-sources}
use Rattle.model_traces.proofs.ModuleParts.{group-instance-at, condition-instance-at, output-instance-at, condition-driver}
use Rattle.model_traces.proofs.ModuleParts.{output-driver, sequential-are, length-each}
use Rattle.table_audit.specs.module_terminals.Terminals.{sequential_instances, driving, nets_feeding, same_nets, group_nets}
use Rattle.table_audit.specs.module_terminals.Terminals.{condition_nets, state_net, source_net, output_nets, stands_for}
use Rattle.table_audit.specs.module_terminals.Feeding.{feeds_group, feeds_condition, output_net, feeds_output}
use Rattle.audited_modules.proofs.StateWires.{instance-at}
use Rattle.audited_modules.proofs.ApartNets.{found-at, same-nets}

-- an instance of a primitive without a state stands for a value of the nets that feed it, where there are some
stands :
    (m : VModule) (nets : List VNet) (number : ℕ) (output : VNet)
    → 0 < length nets → is_sequential m.udps number ≡ false → stands_for m nets (instance.Primitive number output nets) ≡ true
stands m [] number output some stateless = absurd (omega arith)
stands m (n ∷ ns) number output some stateless =
    and_from (not (is_sequential m.udps number)) (same_nets (n ∷ ns) (n ∷ ns)) (ap not stateless) (same-nets (n ∷ ns))

-- A condition that is used: it has a number, and names pins.
pub record IsUsed (d : CellData) (f : Node) : Type 0 where
  pub numbered : condition_place (conditions_of d) f < length (conditions_of d)
  pub some : 0 < length (support_of f)

module _ (d : CellData) (sound : IsSound (module_of d)) where
  abbrev m : VModule
  m = module_of d

  pub state-count : length (sequential_instances m) ≡ length d.groups
  state-count = ap length (sequential-are d sound) ∙ length-each (group_instance d) 0 d.groups

  -- the instance of a group
  pub group-at :
      (g : ℕ) (group : StateGroup) → slice_get d.groups g ≡ Some group
      → slice_get (sequential_instances m) g ≡ Some (group_instance d g group)
  group-at g group e =
      let within = get-within d.groups g group e in
      let long = length-each (group_instance d) 0 d.groups in
      ap (λ is. slice_get is g) (sequential-are d sound)
      ∙ sym (get-left (each_from (group_instance d) 0 d.groups)
      (each_from (condition_instance d) 0 (conditions_of d) ++ output_instances d
      (length d.groups + condition_count d) d.outputs) g
      (omega (arith, within, long)))
      ∙ group-instance-at d sound g group e

  pub group-support : (g : ℕ) (group : StateGroup) → slice_get d.groups g ≡ Some group → support_at d g ≡ group.support
  group-support g group e = ap (λ o. option_map_or (λ (x : StateGroup). x.support) o []) e

  pub group-feeds :
      (g : ℕ) (group : StateGroup) → slice_get d.groups g ≡ Some group
      → nets_feeding (group_instance d g group) ≡ group_nets d g
  group-feeds g group e = ap (λ ps. map (pin_net d.pins) ps ++ notifier_nets (has_notifier d)) (sym (group-support g group e))

  pub feeds-group : (g : ℕ) → g < length d.groups → IsTrue (feeds_group d m g)
  feeds-group g within =
      let there = some_at d.groups g within in
      ap (λ o. option_map_or (λ i. same_nets (nets_feeding i) (group_nets d g)) o false) (group-at g there.0 there.1)
      ∙ ap (λ ns. same_nets ns (group_nets d g)) (group-feeds g there.0 there.1)
      ∙ same-nets (group_nets d g)

  -- no net stands twice among the nets of a group
  pub group-apart : (g : ℕ) (group : StateGroup) → slice_get d.groups g ≡ Some group → IsTrue (are_apart (group_nets d g))
  group-apart g group e =
      let own = (instance-at m [] (instances_of d) g (group_instance d g group) sound.instances
      (group-instance-at d sound g group e)).1 in
      subst (λ ns. IsTrue (are_apart ns)) (group-feeds g group e)
      (and_parts _ (are_apart (nets_feeding (group_instance d g group))) ((own.2).apart)).1

  module _ (f : Node) (used : IsUsed d f) where
    abbrev pub place : ℕ
    place = condition_place (conditions_of d) f

    pub condition-at : slice_get (conditions_of d) place ≡ Some f
    condition-at = place-is f (conditions_of d) used.numbered

    pub condition-driving : driving m (net.Wire (wire_of d f)) ≡ Some (condition_instance d place f)
    condition-driving =
        found-at _ (instances_of d) (condition_wire d place) (condition-driver d sound place f condition-at)
        ∙ condition-instance-at d sound place f condition-at

    pub feeds-condition : IsTrue (feeds_condition d m (record { condition = f; wire = wire_of d f }))
    feeds-condition =
        let stateless : is_sequential (primitives_of d) (condition_wire d place) ≡ false =
        ap (λ o. option_map_or (λ (udp : Udp). udp.sequential) o false) (condition_primitive-at d place used.numbered) in
        let many : length (condition_nets d f) ≡ length (support_of f) = length-map (support_of f) (pin_net d.pins) in
        ap (λ o. option_map_or (stands_for m (condition_nets d f)) o false) condition-driving
        ∙ stands m (condition_nets d f) (condition_wire d place) (net.Wire (condition_wire d place))
        (omega (arith, many, used.some)) stateless

    -- no net stands twice among the nets of a condition
    pub condition-apart : IsTrue (are_apart (condition_nets d f))
    condition-apart =
        let own = (instance-at m [] (instances_of d) (condition_wire d place) (condition_instance d place f) sound.instances
        (condition-instance-at d sound place f condition-at)).1 in
        (and_parts _ (are_apart (condition_nets d f)) ((own.2).apart)).1

  -- the nets of sources, as the comparison and as the module names them
  state-nets :
      (g : ℕ) → g < length d.groups → state_net m g ≡ net.Wire g
  state-nets g within =
      let there = some_at d.groups g within in
      ap (λ o. option_map_or net_driven o net.Notifier) (group-at g there.0 there.1)

  source-nets :
      (sources : List Source) → IsTrue (list_all (is_source d.pins d.groups) sources)
      → map (generated.source_net d.pins) sources ≡ map (source_net d m) sources
  source-nets [] h = refl
  source-nets (source.Pin p ∷ sources) h =
      let parts = and_parts (is_input_pin d.pins p) (list_all (is_source d.pins d.groups) sources) h in
      ap (λ r. pin_net d.pins p ∷ r) (source-nets sources parts.1)
  source-nets (source.State g ∷ sources) h =
      let parts = and_parts (nat_lt g (length d.groups)) (list_all (is_source d.pins d.groups) sources) h in
      let here = sym (state-nets g (ltb-true g (length d.groups) parts.0)) in
      λ i. here i ∷ source-nets sources parts.1 i

  module _ (k : ℕ) (output : OutputPin) (at : slice_get d.outputs k ≡ Some output) (is : IsOutputPin d output) where
    pub output-support : sources_at d k ≡ output.support
    output-support = ap (λ o. option_map_or (λ (x : OutputPin). x.support) o []) at

    pub output-port : output_net d k ≡ pin_net d.pins output.pin
    output-port = ap (λ o. pin_net d.pins (option_map_or (λ (x : OutputPin). x.pin) o 0)) at

    pub output-feeds : map (generated.source_net d.pins) output.support ≡ output_nets d m k
    output-feeds = source-nets output.support is.sources ∙ ap (map (source_net d m)) (sym output-support)

    pub output-driving : driving m (output_net d k) ≡ Some (output_instance d (output-instance-at d sound k output at).0 output)
    output-driving =
        ap (driving m) output-port
        ∙ found-at _ (instances_of d) (length d.groups + (condition_count d + k)) (output-driver d sound k output at is.at)
        ∙ (output-instance-at d sound k output at).1

    output-length : length (output_nets d m k) ≡ length output.support
    output-length = length-map (sources_at d k) (source_net d m) ∙ ap length output-support

    pub feeds-output : IsTrue (feeds_output d m k)
    feeds-output =
        let placed = output-instance-at d sound k output at in
        ap (λ o. option_map_or (stands_for m (output_nets d m k)) o false) output-driving
        ∙ by placed.0 (has_sources output) refl placed.2
      where
        by :
            (j : ℕ) (b : Bool) → has_sources output ≡ b
            → (has_sources output ≡ true → slice_get (primitives_of d) j ≡ Some (output_primitive d k))
            → stands_for m (output_nets d m k) (if b then instance.Primitive j (pin_net d.pins output.pin)
            (map (generated.source_net d.pins) output.support) else instance.Constant (pin_net d.pins output.pin)
            (value_of no_values output.function))
            ≡ true
        by j true some primitive =
            let stateless : is_sequential (primitives_of d) j ≡ false =
            ap (λ o. option_map_or (λ (udp : Udp). udp.sequential) o false) (primitive some) in
            let more : 0 < length output.support = ltb-true 0 (length output.support) some in
            ap (λ ns. stands_for m (output_nets d m k) (instance.Primitive j (pin_net d.pins output.pin) ns)) output-feeds
            ∙ stands m (output_nets d m k) j (pin_net d.pins output.pin) (omega (arith, more, output-length)) stateless
        by j false some primitive =
            let none : output_nets d m k ≡ [] = ap (map (source_net d m)) (output-support ∙ no-sources output.support some) in
            ap (λ ns. stands_for m ns (instance.Constant (pin_net d.pins output.pin) (value_of no_values output.function))) none
