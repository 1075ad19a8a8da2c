-- The module of a cell has its shape.
use Rattle.std.proofs.Common.{◌≡◌, ℕ, ◌<◌, Bool, true, false, List, [], ◌∷◌, length, map, inl, refl, sym, ap, ◌∙◌, subst, IsTrue}
use Rattle.std.proofs.Common.{Option, Some, None, option_map, slice_get, nat_lt, nat_le, if◌then◌else◌}
use Rattle.std.specs.List.{list_all, list_any}
use Rattle.std.proofs.lemmas.Bool.{and_parts, ltb-true}
use Rattle.std.proofs.lemmas.List.{length-map}
use Rattle.std.proofs.lemmas.Option.{slice_get-map}
use Rattle.trit_cubes.proofs.ListLemmas.{Among}
use Rattle.bool_functions.specs.declared.tree.Node.{Node}
use Rattle.bool_functions.specs.Support.{support_of}
use Rattle.cell_machine.specs.declared.checks.Check.{Check}
use Rattle.cell_machine.specs.declared.arcs.Arc.{Arc}
use Rattle.cell_machine.specs.CellData.{CellData}
use Rattle.cell_machine.specs.CellRules.{is_input_pin, is_output_pin, is_condition, has_events, longest_time, is_check, is_arc}
use Rattle.cell_machine.specs.CellRules.{HoldsRules}
use Rattle.cell_machine.proofs.ArcDelays.{some_at}
use Rattle.udp_tables.specs.declared.timing_checks.TimingCheck.{TimingCheck}
use Rattle.udp_tables.specs.Conditions.{condition_list, conditions_by}
use Rattle.specify_blocks.proofs.cell_tables.CellLaws.{conditions_are_numbered-lem}
use Rattle.specify_blocks.specs.declared.model.Gate.TheVariants as gate
use Rattle.specify_blocks.specs.declared.model.VPath.{VPath}
use Rattle.specify_blocks.specs.Sound.{IsSound}
use Rattle.specify_blocks.specs.Generated.{wire_of, is_conditional, gate_by, path_of, check_of, module_of}
use Rattle.model_traces.proofs.PinNumbers.{module-sides}
use Rattle.model_traces.proofs.CellSteps.{check-place, arc-place, output-pin, all-passes}
use Rattle.table_audit.specs.module_shapes.Shape.{both_or_neither, gated_by}
use Rattle.table_audit.specs.module_terminals.Feeding.{gate_wire, Gating, gating, gating_of, check_gating, path_gating}
use Rattle.table_audit.specs.module_terminals.Feeding.{feeds_condition}
use Rattle.table_audit.specs.module_shapes.SameShape.{SameCheck, SamePath, HasShape}
use Rattle.audited_modules.proofs.ListLemmas.{among-place}
use Rattle.audited_modules.proofs.PortSides.{sides-are}
use Rattle.audited_modules.proofs.GeneratedParts.{IsUsed, state-count, feeds-group, feeds-condition, feeds-output}

-- what is made of an entry of a list
made-of : {X Y : Type 0} (make : X → Y) (xs : List X) (i : ℕ) (x : X) (y : Y)
    → slice_get xs i ≡ Some x → slice_get (map make xs) i ≡ Some y → make x ≡ y
made-of {X} {Y} make xs i x y e f = some (make x) y (sym (slice_get-map make xs i ∙ ap (option_map make) e) ∙ f)
  where
    some : (a b : Y) → Some a ≡ Some b → a ≡ b
    some a b h = cc

-- A condition of a check or of an arc, with its wire: it is used, and its wire is the module's.
pub record IsGating (d : CellData) (u : Gating) : Type 0 where
  pub names : Node
  pub used : IsUsed d names
  pub is : record { condition = names; wire = wire_of d names } ≡ u

module _ (d : CellData) (rules : HoldsRules d.name d.pins d.groups d.outputs d.checks d.arcs) where
  -- the conditions of checks and of arcs are used, and name pins
  condition-some : (apart : List ℕ) (f : Node) → IsTrue (is_condition d.pins apart (Some f)) → 0 < length (support_of f)
  condition-some apart f h = ltb-true 0 (length (support_of f)) (and_parts (nat_lt 0 (length (support_of f))) _ h).0

  check-condition : (k : Check) → IsTrue (is_check d.pins k)
      → IsTrue (is_condition d.pins (k.first.pin ∷ k.second.pin ∷ []) k.condition)
  check-condition k h =
      let second = (and_parts (is_input_pin d.pins k.first.pin) _ h).1 in
      let events = (and_parts (is_input_pin d.pins k.second.pin) _ second).1 in
      let limit = (and_parts (has_events k k.kind) _ events).1 in
      let bound = (and_parts (nat_lt 0 k.limit) _ limit).1 in
      (and_parts (nat_le k.limit longest_time) _ bound).1

  arc-condition : (arc : Arc) → IsTrue (is_arc d.pins arc) → IsTrue (is_condition d.pins (arc.from ∷ []) arc.condition)
  arc-condition arc h =
      let to = (and_parts (is_input_pin d.pins arc.from) _ h).1 in
      let rise = (and_parts (is_output_pin d.pins arc.to) _ to).1 in
      let fall = (and_parts (nat_le arc.rise longest_time) _ rise).1 in
      (and_parts (nat_le arc.fall longest_time) _ fall).1

  check-used : (k : Check) → Among k d.checks → (f : Node) → k.condition ≡ Some f → IsUsed d f
  check-used k among f e =
      let checks-hold : IsTrue (list_all (is_check d.pins) d.checks) =
      (and_parts _ (list_all (is_check d.pins) d.checks) rules.of_checks).1 in
      record {
        numbered = check-place conditions_are_numbered-lem d k f among
            (subst (λ o. Among f (condition_list o)) (sym e) (inl refl));
        some =
            condition-some (k.first.pin ∷ k.second.pin ∷ []) f
            (subst (λ o. IsTrue (is_condition d.pins (k.first.pin ∷ k.second.pin ∷ []) o)) e
            (check-condition k (all-passes (is_check d.pins) d.checks k checks-hold among)));
      }

  arc-used : (arc : Arc) → Among arc d.arcs → (f : Node) → arc.condition ≡ Some f → IsUsed d f
  arc-used arc among f e =
      let arcs-hold : IsTrue (list_all (is_arc d.pins) d.arcs) = (and_parts _ _ (and_parts _ _ rules.of_arcs).1).0 in
      record {
        numbered = arc-place conditions_are_numbered-lem d arc f among
            (subst (λ o. Among f (conditions_by d.arcs arc o)) (sym e) (inl refl));
        some =
            condition-some (arc.from ∷ []) f
            (subst (λ o. IsTrue (is_condition d.pins (arc.from ∷ []) o)) e
            (arc-condition arc (all-passes (is_arc d.pins) d.arcs arc arcs-hold among)));
      }

  pub check-gates : (i : ℕ) (u : Gating) → check_gating d (module_of d) i ≡ Some u → IsGating d u
  check-gates i u h =
      by (slice_get d.checks i) refl (ap (gating_of (λ (k : Check). k.condition) (λ (k : TimingCheck). k.condition)
      (slice_get d.checks i)) (sym (slice_get-map (check_of d) d.checks i)) ∙ h)
    where
      gates : (o : Option Node) → gating o (option_map (wire_of d) o) ≡ Some u → ((f : Node) → o ≡ Some f → IsUsed d f)
          → IsGating d u
      gates None e used = absurd cc
      gates (Some f) e used =
          let is : record { condition = f; wire = wire_of d f } ≡ u = cc in
          record { names = f; used = used f refl; is = is }

      by :
          (o : Option Check) → slice_get d.checks i ≡ o
          → gating_of (λ (k : Check). k.condition) (λ (k : TimingCheck). k.condition) o (option_map (check_of d) o) ≡ Some u
          → IsGating d u
      by None at e = absurd cc
      by (Some k) at e = gates k.condition e (check-used k (among-place d.checks i k at))

  pub path-gates : (i : ℕ) (u : Gating) → path_gating d (module_of d) i ≡ Some u → IsGating d u
  path-gates i u h =
      by (slice_get d.arcs i) refl (ap (gating_of (λ (arc : Arc). arc.condition) (λ (path : VPath). gate_wire path.gate)
      (slice_get d.arcs i)) (sym (slice_get-map (path_of d) d.arcs i)) ∙ h)
    where
      gates : (arc : Arc) (o : Option Node) → gating o (gate_wire (gate_by d arc o)) ≡ Some u
          → ((f : Node) → o ≡ Some f → IsUsed d f) → IsGating d u
      gates arc None e used = absurd cc
      gates arc (Some f) e used =
          let is : record { condition = f; wire = wire_of d f } ≡ u = cc in
          record { names = f; used = used f refl; is = is }

      by :
          (o : Option Arc) → slice_get d.arcs i ≡ o
          → gating_of (λ (arc : Arc). arc.condition) (λ (path : VPath). gate_wire path.gate) o (option_map (path_of d) o)
          ≡ Some u → IsGating d u
      by None at e = absurd cc
      by (Some arc) at e = gates arc arc.condition e (arc-used arc (among-place d.arcs i arc at))

  same-check : (k : Check) → SameCheck d.pins k (check_of d k)
  same-check k =
      record { kind = refl; first = refl; second = refl; limit = refl; condition = by k.condition }
    where
      by : (o : Option Node) → IsTrue (both_or_neither o (option_map (wire_of d) o))
      by None = refl
      by (Some f) = refl

  same-path : (arc : Arc) → SamePath d arc (path_of d arc)
  same-path arc = record { from = refl; to = refl; rise = refl; fall = refl; gate = by arc.condition }
    where
      beside : (b : Bool) → IsTrue (gated_by b None (if b then gate.IfNone else gate.Always))
      beside true = refl
      beside false = refl

      by : (o : Option Node) → IsTrue (gated_by (list_any (is_conditional arc) d.arcs) o (gate_by d arc o))
      by None = beside (list_any (is_conditional arc) d.arcs)
      by (Some f) = refl

  pub has-shape : IsSound (module_of d) → HasShape d (module_of d)
  has-shape sound =
      record {
        ports = module-sides 1 d.pins ∙ sym (sides-are d.pins);
        states = state-count d sound;
        state_inputs = feeds-group d sound;
        check_count = length-map d.checks (check_of d);
        checks = λ i k j at beside. subst (SameCheck d.pins k) (made-of (check_of d) d.checks i k j at beside) (same-check k);
        path_count = length-map d.arcs (path_of d);
        paths = λ i arc path at beside. subst (SamePath d arc) (made-of (path_of d) d.arcs i arc path at beside) (same-path arc);
        check_inputs = λ i u e. fed u (check-gates i u e);
        path_inputs = λ i u e. fed u (path-gates i u e);
        outputs =
            λ k within.
            let there = some_at d.outputs k within in
            feeds-output d sound k there.0 there.1 (output-pin d rules k there.0 there.1);
      }
    where
      fed : (u : Gating) → IsGating d u → IsTrue (feeds_condition d (module_of d) u)
      fed u gates = subst (λ u. IsTrue (feeds_condition d (module_of d) u)) gates.is
          (feeds-condition d sound gates.names gates.used)
