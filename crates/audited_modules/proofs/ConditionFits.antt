-- The conditions and the checks of a module that matches a cell.
use Rattle.std.proofs.Common.{◌≡◌, ℕ, List, [], ◌∷◌, length, map, refl, ap, ◌∙◌, IsTrue, Option, Some, None, slice_get}
use Rattle.std.proofs.lemmas.List.{length-map}
use Rattle.trit_cubes.specs.declared.trits.Trit.{Trit}
use Rattle.bool_functions.specs.declared.tree.Node.{Node}
use Rattle.bool_functions.specs.Support.{support_of}
use Rattle.cell_machine.specs.declared.checks.Check.{Check}
use Rattle.cell_machine.specs.declared.checks.Event.{Event}
use Rattle.cell_machine.specs.CellData.{CellData}
use Rattle.cell_machine.specs.Inputs.{pin_value, pin_values}
use Rattle.cell_machine.specs.Outputs.{is_one}
use Rattle.cell_machine.specs.CellTrace.{condition_value, condition_holds}
use Rattle.cell_machine.specs.CellTrace as cell
use Rattle.udp_tables.specs.declared.timing_checks.TimingCheck.{TimingCheck}
use Rattle.udp_tables.specs.Ports.{event_of}
use Rattle.specify_blocks.specs.declared.model.VNet.TheVariants as net
use Rattle.specify_blocks.specs.declared.model.VModule.{VModule}
use Rattle.specify_blocks.specs.Generated.{pin_net}
use Rattle.model_traces.specs.PortNumbers.{input_event}
use Rattle.model_traces.specs.NetValues.{source_value, net_value}
use Rattle.model_traces.specs.CheckReports.{is_enabled}
use Rattle.model_traces.specs.ModuleFits.{FitsCheck}
use Rattle.table_audit.specs.module_terminals.Terminals.{condition_nets}
use Rattle.table_audit.specs.module_shapes.Shape.{cell_inputs, port_inputs, both_or_neither}
use Rattle.table_audit.specs.module_terminals.Feeding.{Gating, gating, gating_of, check_gating, feeds_condition}
use Rattle.table_audit.specs.module_tables.Tables.{cell_condition, model_condition}
use Rattle.table_audit.specs.module_shapes.SameShape.{SameCheck, HasShape}
use Rattle.table_audit.specs.module_tables.SameValues.{HasValues}
use Rattle.audited_modules.proofs.PortSides.{number, pin-value}
use Rattle.audited_modules.proofs.PartValues.{part-value}

module _ (d : CellData) (m : VModule) where
  -- the values of the ports of pins
  pins-read :
      port_inputs m ≡ cell_inputs d → (v states : List Trit) (support : List ℕ)
      → map (source_value m v states) (map (pin_net d.pins) support) ≡ pin_values d.pins v support
  pins-read ports v states [] = refl
  pins-read ports v states (p ∷ support) = λ i. pin-value d m ports v p i ∷ pins-read ports v states support i

  -- the value of the wire of a condition
  pub condition-net :
      port_inputs m ≡ cell_inputs d → (u : Gating) → IsTrue (feeds_condition d m u)
      → ((values : List Trit) → length values ≡ length (support_of u.condition)
      → model_condition d m u values ≡ cell_condition u.condition values)
      → (v states : List Trit) → net_value m v states (net.Wire u.wire) ≡ condition_value d.pins v u.condition
  condition-net ports u fed same v states =
      let support : List ℕ = support_of u.condition in
      part-value m v states (condition_nets d u.condition) (pin_values d.pins v support) (pins-read ports v states support)
      (net.Wire u.wire) fed
      ∙ same (pin_values d.pins v support) (length-map support (pin_value d.pins v))

  module _ (shape : HasShape d m) (values : HasValues d m) where
    -- the condition of a check
    check-gated :
        (i : ℕ) (k : Check) (j : TimingCheck) → slice_get d.checks i ≡ Some k → slice_get m.checks i ≡ Some j
        → (f : Node) (w : ℕ) → k.condition ≡ Some f → j.condition ≡ Some w
        → (v states : List Trit) → net_value m v states (net.Wire w) ≡ condition_value d.pins v f
    check-gated i k j at beside f w has wire v states =
        let u : Gating = record { condition = f; wire = w } in
        let is : check_gating d m i ≡ Some u =
        (λ n. gating_of (λ (k : Check). k.condition) (λ (k : TimingCheck). k.condition) (at n) (beside n))
        ∙ (λ n. gating (has n) (wire n)) in
        condition-net shape.ports u (shape.check_inputs i u is) (λ xs long. values.checks i u xs is long) v states

    event-tied : (e : Event) → input_event m.ports (event_of d.pins e) ≡ cell.input_event d.pins e
    event-tied e = λ i. record { pin = number d m shape.ports e.pin i; edge = e.edge }

    pub fits-check :
        (i : ℕ) (k : Check) (j : TimingCheck) → slice_get d.checks i ≡ Some k → slice_get m.checks i ≡ Some j → FitsCheck d m k j
    fits-check i k j at beside =
        let same : SameCheck d.pins k j = shape.checks i k j at beside in
        record {
          measures =
              record {
                kind = same.kind;
                first = ap (input_event m.ports) same.first ∙ event-tied k.first;
                second = ap (input_event m.ports) same.second ∙ event-tied k.second;
                limit = same.limit;
              };
          enabled = λ v states long many. by k.condition refl j.condition refl same.condition v states;
        }
      where
        by :
            (o : Option Node) → k.condition ≡ o → (w : Option ℕ) → j.condition ≡ w → IsTrue (both_or_neither o w)
            → (v states : List Trit) → is_enabled m v states w ≡ condition_holds d.pins v o
        by None e None n h v states = refl
        by None e (Some w) n h v states = absurd cc
        by (Some f) e None n h v states = absurd cc
        by (Some f) e (Some w) n h v states = ap is_one (check-gated i k j at beside f w e n v states)
