-- The paths of a module that matches a cell.
use Rattle.std.proofs.Common.{◌≡◌, ℕ, Bool, true, false, not, ◌&&◌, ◌||◌, cond, List, [], ◌∷◌, map, refl, ap, ◌∙◌, IsTrue, Option}
use Rattle.std.proofs.Common.{Some, None, is_some, slice_get, nat_eq}
use Rattle.std.specs.Prelude.{filter}
use Rattle.std.specs.List.{list_all, list_any}
use Rattle.std.proofs.lemmas.Bool.{or_parts}
use Rattle.trit_cubes.specs.declared.trits.Trit.{Trit}
use Rattle.trit_cubes.proofs.ListLemmas.{Among}
use Rattle.bool_functions.specs.declared.tree.Node.{Node}
use Rattle.cell_machine.specs.declared.arcs.Arc.{Arc}
use Rattle.cell_machine.specs.CellData.{CellData}
use Rattle.cell_machine.specs.CellRules.{is_arc}
use Rattle.cell_machine.specs.Inputs as inputs
use Rattle.cell_machine.specs.Outputs.{is_zero}
use Rattle.cell_machine.specs.CellTrace.{condition_value, same_pins}
use Rattle.cell_machine.specs.CellTrace as cell
use Rattle.udp_tables.specs.Ports.{port_number}
use Rattle.specify_blocks.specs.declared.model.VNet.TheVariants as net
use Rattle.specify_blocks.specs.declared.model.Gate.{Gate}
use Rattle.specify_blocks.specs.declared.model.Gate.TheVariants as gate
use Rattle.specify_blocks.specs.declared.model.VPath.{VPath}
use Rattle.specify_blocks.specs.declared.model.VModule.{VModule}
use Rattle.specify_blocks.specs.Generated.{is_conditional}
use Rattle.model_traces.specs.FitLists.{FitEach}
use Rattle.model_traces.specs.PortNumbers.{input_number}
use Rattle.model_traces.specs.NetValues.{net_value}
use Rattle.model_traces.specs.PathDelays.{is_off, is_quiet, is_active, path_at, is_between, paths_between}
use Rattle.model_traces.proofs.PinNumbers.{is_port_pin, same-port, starts-at-port, ends-at-port}
use Rattle.table_audit.specs.module_shapes.Shape.{gated_by}
use Rattle.table_audit.specs.module_terminals.Feeding.{gate_wire, Gating, gating, gating_of, path_gating}
use Rattle.table_audit.specs.module_shapes.SameShape.{SamePath, HasShape}
use Rattle.table_audit.specs.module_tables.SameValues.{HasValues}
use Rattle.audited_modules.proofs.ListLemmas.{among-place, fit-places}
use Rattle.audited_modules.proofs.PortSides.{number}
use Rattle.audited_modules.proofs.ConditionFits.{condition-net}

-- where no arc with a condition has the two pins of one, all leave it active
alone-quiet :
    (d : CellData) (v : List Trit) (arc : Arc) (arcs : List Arc)
    → list_any (is_conditional arc) arcs ≡ false → true ≡ list_all (cell.is_quiet d.pins v arc) arcs
alone-quiet d v arc [] h = refl
alone-quiet d v arc (other ∷ arcs) h =
    let parts = or_parts (is_conditional arc other) (list_any (is_conditional arc) arcs) h in
    let first = by (same_pins arc other) other.condition parts.0 in
    λ i. first i && alone-quiet d v arc arcs parts.1 i
  where
    by : (b : Bool) (o : Option Node) → (b && is_some o) ≡ false → true ≡ (not b || cell.is_off d.pins v o)
    by true None h = refl
    by true (Some f) h = absurd cc
    by false o h = refl

-- a path beside its arc: the arc is one of the cell, and a wire that gates the path has the value of the arc's condition
record IsBeside (d : CellData) (m : VModule) (arc : Arc) (path : VPath) : Type 0 where
  pub same : SamePath d arc path
  pub among : Among arc d.arcs
  pub gated :
      (f : Node) (w : ℕ) → arc.condition ≡ Some f → path.gate ≡ gate.If w
      → (v states : List Trit) → net_value m v states (net.Wire w) ≡ condition_value d.pins v f

module _ (d : CellData) (m : VModule) (shape : HasShape d m) (values : HasValues d m)
    (arcs-hold : IsTrue (list_all (is_arc d.pins) d.arcs)) where
  -- the condition of an arc
  path-gated :
      (i : ℕ) (arc : Arc) (path : VPath) → slice_get d.arcs i ≡ Some arc → slice_get m.paths i ≡ Some path
      → (f : Node) (w : ℕ) → arc.condition ≡ Some f → path.gate ≡ gate.If w
      → (v states : List Trit) → net_value m v states (net.Wire w) ≡ condition_value d.pins v f
  path-gated i arc path at beside f w has wire v states =
      let u : Gating = record { condition = f; wire = w } in
      let is : path_gating d m i ≡ Some u =
      (λ n. gating_of (λ (arc : Arc). arc.condition) (λ (path : VPath). gate_wire path.gate) (at n) (beside n))
      ∙ (λ n. gating (has n) (gate_wire (wire n))) in
      condition-net d m shape.ports u (shape.path_inputs i u is) (λ xs long. values.paths i u xs is long) v states

  all-beside : FitEach (IsBeside d m) d.arcs m.paths
  all-beside =
      fit-places (IsBeside d m) d.arcs m.paths shape.path_count
      (λ i arc path at beside.
      record {
        same = shape.paths i arc path at beside;
        among = among-place d.arcs i arc at;
        gated = path-gated i arc path at beside;
      })

  from-port : (arc : Arc) → Among arc d.arcs → IsTrue (is_port_pin d.pins arc.from)
  from-port = starts-at-port d.pins d.arcs arcs-hold

  to-port : (arc : Arc) → Among arc d.arcs → IsTrue (is_port_pin d.pins arc.to)
  to-port = ends-at-port d.pins d.arcs arcs-hold

  off-same :
      (v states : List Trit) (arc : Arc) (path : VPath) → IsBeside d m arc path
      → is_off m v states path.gate ≡ cell.is_off d.pins v arc.condition
  off-same v states arc path is = by (list_any (is_conditional arc) d.arcs) arc.condition path.gate is.same.gate is.gated
    where
      by :
          (b : Bool) (o : Option Node) (g : Gate) → IsTrue (gated_by b o g)
          → ((f : Node) (w : ℕ) → o ≡ Some f → g ≡ gate.If w → (v states : List Trit)
          → net_value m v states (net.Wire w) ≡ condition_value d.pins v f)
          → is_off m v states g ≡ cell.is_off d.pins v o
      by b (Some f) (gate.If w) t gated = ap is_zero (gated f w refl refl v states)
      by b (Some f) gate.Always t gated = absurd cc
      by b (Some f) gate.IfNone t gated = absurd cc
      by true None (gate.If w) t gated = absurd cc
      by false None (gate.If w) t gated = absurd cc
      by b None gate.Always t gated = refl
      by b None gate.IfNone t gated = refl

  quiet-same :
      (v states : List Trit) (arc other : Arc) (path beside : VPath) → IsBeside d m arc path → IsBeside d m other beside
      → is_quiet m v states path beside ≡ cell.is_quiet d.pins v arc other
  quiet-same v states arc other path beside is near =
      (λ i. not (nat_eq (is.same.from i) (near.same.from i) && nat_eq (is.same.to i) (near.same.to i))
      || off-same v states other beside near i)
      ∙ (λ i.
      not (same-port d.pins arc.from other.from (from-port arc is.among) (from-port other near.among) i
      && same-port d.pins arc.to other.to (to-port arc is.among) (to-port other near.among) i)
      || cell.is_off d.pins v other.condition)

  all-quiet :
      (v states : List Trit) (arc : Arc) (path : VPath) → IsBeside d m arc path
      → (arcs : List Arc) (paths : List VPath) → FitEach (IsBeside d m) arcs paths
      → list_all (is_quiet m v states path) paths ≡ list_all (cell.is_quiet d.pins v arc) arcs
  all-quiet v states arc path is [] [] all = refl
  all-quiet v states arc path is [] (x ∷ paths) all = absurd all
  all-quiet v states arc path is (x ∷ arcs) [] all = absurd all
  all-quiet v states arc path is (other ∷ arcs) (beside ∷ paths) all =
      λ i. quiet-same v states arc other path beside is all.0 i && all-quiet v states arc path is arcs paths all.1 i

  active-same :
      (v states : List Trit) (arc : Arc) (path : VPath) → IsBeside d m arc path
      → is_active m v states path path.gate ≡ cell.is_active d.pins d.arcs v arc arc.condition
  active-same v states arc path is =
      by (list_any (is_conditional arc) d.arcs) refl arc.condition path.gate is.same.gate is.gated
    where
      by :
          (b : Bool) → list_any (is_conditional arc) d.arcs ≡ b → (o : Option Node) (g : Gate) → IsTrue (gated_by b o g)
          → ((f : Node) (w : ℕ) → o ≡ Some f → g ≡ gate.If w → (v states : List Trit)
          → net_value m v states (net.Wire w) ≡ condition_value d.pins v f)
          → is_active m v states path g ≡ cell.is_active d.pins d.arcs v arc o
      by b e (Some f) (gate.If w) t gated = ap (λ x. not (is_zero x)) (gated f w refl refl v states)
      by b e (Some f) gate.Always t gated = absurd cc
      by b e (Some f) gate.IfNone t gated = absurd cc
      by true e None (gate.If w) t gated = absurd cc
      by false e None (gate.If w) t gated = absurd cc
      by true e None gate.IfNone t gated = all-quiet v states arc path is d.arcs m.paths all-beside
      by false e None gate.IfNone t gated = absurd cc
      by true e None gate.Always t gated = absurd cc
      by false e None gate.Always t gated = alone-quiet d v arc d.arcs e

  -- the paths from an input to the port of a pin
  paths-same :
      (p : ℕ) → IsTrue (is_port_pin d.pins p) → (v states : List Trit) (input : ℕ)
      → (arcs : List Arc) (paths : List VPath) → FitEach (IsBeside d m) arcs paths
      → map (path_at m v states) (filter (is_between m.ports input (port_number d.pins p)) paths)
      ≡ map (cell.path_of d.pins d.arcs v) (filter (cell.is_between d.pins input p) arcs)
  paths-same p port v states input [] [] all = refl
  paths-same p port v states input [] (x ∷ paths) all = absurd all
  paths-same p port v states input (x ∷ arcs) [] all = absurd all
  paths-same p port v states input (arc ∷ arcs) (path ∷ paths) all =
      let is : IsBeside d m arc path = all.0 in
      let between : is_between m.ports input (port_number d.pins p) path ≡ cell.is_between d.pins input p arc =
      (λ i. nat_eq (number-of is i) input && nat_eq (is.same.to i) (port_number d.pins p))
      ∙ (λ i. nat_eq (inputs.input_number d.pins arc.from) input && same-port d.pins arc.to p (to-port arc is.among) port i) in
      let rest = paths-same p port v states input arcs paths all.1 in
      let others : List VPath = filter (is_between m.ports input (port_number d.pins p)) paths in
      let arcs_left : List Arc = filter (cell.is_between d.pins input p) arcs in
      let active = active-same v states arc path is in
      ap (λ b. map (path_at m v states) (cond b (path ∷ others) others)) between
      ∙ elim (cell.is_between d.pins input p arc) as (λ b.
      map (path_at m v states) (cond b (path ∷ others) others)
      ≡ map (cell.path_of d.pins d.arcs v) (cond b (arc ∷ arcs_left) arcs_left)) [
        | true ↦ λ i. record { active = active i; rise = is.same.rise i; fall = is.same.fall i } ∷ rest i
        | false ↦ rest
      ]
    where
      number-of : IsBeside d m arc path → input_number m.ports path.from ≡ inputs.input_number d.pins arc.from
      number-of is = ap (input_number m.ports) is.same.from ∙ number d m shape.ports arc.from

  pub fits-paths :
      (p : ℕ) → IsTrue (is_port_pin d.pins p) → (v states : List Trit) (input : ℕ)
      → paths_between m v states input (port_number d.pins p) ≡ cell.paths_between d.pins d.arcs v input p
  fits-paths p port v states input = paths-same p port v states input d.arcs m.paths all-beside
