-- A sound module that matches a cell fits it.
use Rattle.std.proofs.Common.{◌≡◌, ℕ, false, length, map, sym, ap, ◌∙◌, subst, IsTrue, Option, Some, option_map, slice_get}
use Rattle.std.specs.List.{list_all}
use Rattle.std.specs.Option.{option_map_or}
use Rattle.std.proofs.lemmas.Bool.{and_parts}
use Rattle.std.proofs.lemmas.List.{length-map}
use Rattle.std.proofs.lemmas.Option.{slice_get-map}
use Rattle.cell_machine.specs.declared.outputs.OutputPin.{OutputPin}
use Rattle.cell_machine.specs.CellData.{CellData}
use Rattle.cell_machine.specs.CellRules.{are_groups_from, is_arc, HoldsRules}
use Rattle.cell_machine.specs.CellTrace.{NamedGroup, named_groups}
use Rattle.cell_machine.proofs.RuleLemmas.{rules_of}
use Rattle.udp_tables.specs.Ports.{port_number}
use Rattle.specify_blocks.specs.declared.model.Instance.{Instance}
use Rattle.specify_blocks.specs.declared.model.VModule.{VModule}
use Rattle.specify_blocks.specs.Nets.{has_state}
use Rattle.specify_blocks.specs.Sound.{IsSound}
use Rattle.model_traces.specs.ModuleFits.{FitsGroup, FitsCheck, FitsOutput, FitOutputs, ModuleFits}
use Rattle.model_traces.proofs.PlaceLemmas.{get-within}
use Rattle.model_traces.proofs.CellSteps.{IsNamed, named, supported, output-pin, length-named}
use Rattle.table_audit.specs.module_terminals.Terminals.{sequential_instances, nets_feeding, same_nets, group_nets}
use Rattle.table_audit.specs.module_shapes.SameShape.{HasShape}
use Rattle.table_audit.specs.module_tables.SameValues.{HasValues}
use Rattle.audited_modules.specs.Laws.{MatchingModulesFit}
use Rattle.audited_modules.proofs.ListLemmas.{fit-places, filtered-place}
use Rattle.audited_modules.proofs.PortSides.{count, outputs-are}
use Rattle.audited_modules.proofs.GroupFits.{fits-primitive}
use Rattle.audited_modules.proofs.StateWires.{IsStateful, stateful}
use Rattle.audited_modules.proofs.ConditionFits.{fits-check}
use Rattle.audited_modules.proofs.OutputFits.{fits-output}

module _ (d : CellData) (m : VModule) (rules : HoldsRules d.name d.pins d.groups d.outputs d.checks d.arcs) (sound : IsSound m)
    (shape : HasShape d m) (values : HasValues d m) where
  groups-hold : IsTrue (are_groups_from d.pins (length d.pins) d.groups)
  groups-hold = (and_parts _ (are_groups_from d.pins (length d.pins) d.groups) rules.of_groups).1

  arcs-hold : IsTrue (list_all (is_arc d.pins) d.arcs)
  arcs-hold = (and_parts _ _ (and_parts _ _ rules.of_arcs).1).0

  fits-group :
      (g : ℕ) (group : NamedGroup) (x : Instance)
      → slice_get (named_groups d) g ≡ Some group → slice_get (sequential_instances m) g ≡ Some x → FitsGroup d m group x
  fits-group g group x e at =
      let is : IsNamed d g group = named d g group e in
      let within = get-within d.groups g group.group is.at in
      let placed = filtered-place (has_state m.udps) m.instances g x at in
      let own : IsStateful m x = stateful m x placed.2 in
      let fed : IsTrue (same_nets (nets_feeding x) (group_nets d g)) =
      sym (ap (λ o. option_map_or (λ i. same_nets (nets_feeding i) (group_nets d g)) o false) at) ∙ shape.state_inputs g within in
      subst (FitsGroup d m group) (sym own.is)
      (fits-primitive d m shape.ports values g group is within
      (supported d.pins (length d.pins) d.groups g group.group groups-hold is.at).inputs own.number own.output own.nets own.udp
      (at ∙ ap Some own.is) own.at own.sequential
      (subst (λ i. IsTrue (same_nets (nets_feeding i) (group_nets d g))) own.is fed))

  outputs-fit : FitOutputs d m d.outputs (map (port_number d.pins) (map (λ (o : OutputPin). o.pin) d.outputs))
  outputs-fit =
      let pin : OutputPin → ℕ = λ (o : OutputPin). o.pin in
      fit-places (FitsOutput d m) d.outputs (map (port_number d.pins) (map pin d.outputs))
      (length-map (map pin d.outputs) (port_number d.pins) ∙ length-map d.outputs pin)
      (λ k output p e at.
      let same : p ≡ port_number d.pins output.pin =
      some-same p (port_number d.pins output.pin)
      (sym at ∙ slice_get-map (port_number d.pins) (map pin d.outputs) k
      ∙ ap (option_map (port_number d.pins)) (slice_get-map pin d.outputs k ∙ ap (option_map pin) e)) in
      subst (FitsOutput d m output) (sym same)
      (fits-output d m sound shape values arcs-hold k output e (output-pin d rules k output e)))
    where
      some-same : (a b : ℕ) → ◌≡◌ {A = Option ℕ} (Some a) (Some b) → a ≡ b
      some-same a b e = cc

  matching : ModuleFits d m
  matching =
      record {
        inputs = count d m shape.ports;
        groups =
            fit-places (FitsGroup d m) (named_groups d) (sequential_instances m)
            (shape.states ∙ sym (length-named (length d.pins) d.groups))
            fits-group;
        checks = fit-places (FitsCheck d m) d.checks m.checks shape.check_count (fits-check d m shape values);
        outputs = subst (FitOutputs d m d.outputs) (sym (outputs-are d m shape.ports rules)) outputs-fit;
      }

pub matching-fit : MatchingModulesFit
matching-fit d m is sound matches =
    matching d m (rules_of d.name d.pins d.groups d.outputs d.checks d.arcs is) sound matches.shape matches.values
