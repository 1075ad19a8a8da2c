-- The outputs of a module that matches a cell.
use Rattle.std.proofs.Common.{◌≡◌, ℕ, ◌<◌, List, [], ◌∷◌, length, map, refl, sym, ap, ◌∙◌, subst, arith, IsTrue, Some, slice_get}
use Rattle.std.proofs.Common.{nat_lt}
use Rattle.std.specs.List.{list_all}
use Rattle.std.specs.Option.{option_map_or}
use Rattle.std.proofs.lemmas.Bool.{and_parts, ltb-true}
use Rattle.std.proofs.lemmas.List.{length-map}
use Rattle.trit_cubes.specs.declared.trits.Trit.{Trit}
use Rattle.trit_cubes.specs.declared.trits.Trit.TheVariants.{Unknown}
use Rattle.trit_cubes.specs.Resolution.{res}
use Rattle.cell_machine.specs.declared.outputs.Source.{Source}
use Rattle.cell_machine.specs.declared.outputs.Source.TheVariants as source
use Rattle.cell_machine.specs.declared.outputs.OutputPin.{OutputPin}
use Rattle.cell_machine.specs.CellData.{CellData}
use Rattle.cell_machine.specs.CellRules.{is_input_pin, is_source, is_arc}
use Rattle.cell_machine.specs.Outputs.{output_at}
use Rattle.cell_machine.specs.CellTrace.{sources_at}
use Rattle.cell_machine.specs.CellTrace as cell
use Rattle.cell_machine.proofs.ArcDelays.{some_at}
use Rattle.udp_tables.specs.Ports.{port_number}
use Rattle.specify_blocks.specs.declared.model.VModule.{VModule}
use Rattle.specify_blocks.specs.Sound.{IsSound}
use Rattle.specify_blocks.specs.Generated.{pin_net}
use Rattle.model_traces.specs.NetValues.{source_value, net_value}
use Rattle.model_traces.specs.SequentialStates.{states_among}
use Rattle.model_traces.specs.ModuleFits.{FitsOutput}
use Rattle.model_traces.proofs.PlaceLemmas.{get-within}
use Rattle.model_traces.proofs.PinNumbers.{output-pin-port}
use Rattle.model_traces.proofs.CellSteps.{IsOutputPin}
use Rattle.table_audit.specs.module_terminals.Terminals.{sequential_instances, source_net, output_nets}
use Rattle.table_audit.specs.module_terminals.Feeding.{output_net}
use Rattle.table_audit.specs.module_shapes.SameShape.{HasShape}
use Rattle.table_audit.specs.module_tables.SameValues.{HasValues}
use Rattle.audited_modules.proofs.PortSides.{pin-value}
use Rattle.audited_modules.proofs.StateWires.{state-value}
use Rattle.audited_modules.proofs.PartValues.{part-value}
use Rattle.audited_modules.proofs.PathFits.{fits-paths}

module _ (d : CellData) (m : VModule) (sound : IsSound m) (shape : HasShape d m) (values : HasValues d m)
    (arcs-hold : IsTrue (list_all (is_arc d.pins) d.arcs)) where
  -- the values of the nets of an output's support
  sources-read :
      (v states : List Trit) (sources : List Source) → IsTrue (list_all (is_source d.pins d.groups) sources)
      → map (source_value m v states) (map (source_net d m) sources)
      ≡ map (cell.source_value d.pins v (states_among m states)) sources
  sources-read v states [] h = refl
  sources-read v states (source.Pin p ∷ sources) h =
      let parts = and_parts (is_input_pin d.pins p) (list_all (is_source d.pins d.groups) sources) h in
      λ i. pin-value d m shape.ports v p i ∷ sources-read v states sources parts.1 i
  sources-read v states (source.State g ∷ sources) h =
      let parts = and_parts (nat_lt g (length d.groups)) (list_all (is_source d.pins d.groups) sources) h in
      let within : g < length d.groups = ltb-true g (length d.groups) parts.0 in
      let there = some_at (sequential_instances m) g (omega (arith, within, shape.states)) in
      λ i. state-value m sound g there.0 there.1 v states i ∷ sources-read v states sources parts.1 i

  pub fits-output :
      (k : ℕ) (output : OutputPin) → slice_get d.outputs k ≡ Some output → IsOutputPin d output
      → FitsOutput d m output (port_number d.pins output.pin)
  fits-output k output e is =
      record {
        values = λ v states long many. valued v states;
        paths =
            λ v states input long many.
            fits-paths d m shape values arcs-hold output.pin (output-pin-port d.pins output.pin is.at) v states input;
      }
    where
      valued :
          (v states : List Trit)
          → net_value m v states (pin_net d.pins output.pin) ≡ cell.output_value d.pins d.groups v (states_among m states) output
      valued v states =
          let within = get-within d.outputs k output e in
          let read : List Source → List Trit = map (cell.source_value d.pins v (states_among m states)) in
          let support : sources_at d k ≡ output.support = ap (λ o. option_map_or (λ (x : OutputPin). x.support) o []) e in
          let port : output_net d k ≡ pin_net d.pins output.pin =
          ap (λ o. pin_net d.pins (option_map_or (λ (x : OutputPin). x.pin) o 0)) e in
          let sources : IsTrue (list_all (is_source d.pins d.groups) (sources_at d k)) =
          subst (λ ss. IsTrue (list_all (is_source d.pins d.groups) ss)) (sym support) is.sources in
          ap (net_value m v states) (sym port)
          ∙ part-value m v states (output_nets d m k) (read (sources_at d k)) (sources-read v states (sources_at d k) sources)
          (output_net d k) (shape.outputs k within)
          ∙ values.outputs k (read (sources_at d k)) within
          (length-map (sources_at d k) (cell.source_value d.pins v (states_among m states)))
          ∙ (λ i. res (λ point. option_map_or (λ (x : OutputPin). output_at (length d.pins) d.groups x point) (e i) Unknown)
          (read (support i)))
