-- The tables of the module of a cell give its values.
use Rattle.std.proofs.Common.{◌≡◌, ◌≢◌, ℕ, ◌+◌, ◌<◌, Bool, true, false, List, [], ◌∷◌, ◌++◌, length, map, get_or, set, refl, sym}
use Rattle.std.proofs.Common.{ap, ◌∙◌, subst, arith, IsTrue, Some, option_map, slice_get, length-append, append-nil}
use Rattle.std.proofs.Common.{if◌then◌else◌}
use Rattle.std.specs.Prelude.{position}
use Rattle.std.specs.Option.{option_map_or}
use Rattle.std.proofs.lemmas.Bool.{and_parts}
use Rattle.std.proofs.lemmas.List.{length-map, set-append_left}
use Rattle.std.proofs.lemmas.Option.{slice_get-map, slice_get-get_or, get_or_from_slice_get}
use Rattle.trit_cubes.specs.declared.trits.Trit.{Trit}
use Rattle.trit_cubes.specs.declared.trits.Trit.TheVariants.{Zero, One, Unknown}
use Rattle.trit_cubes.specs.Resolution.{res}
use Rattle.bool_functions.specs.declared.tree.Node.{Node}
use Rattle.bool_functions.specs.declared.tree.Node.TheVariants as node
use Rattle.bool_functions.specs.Support.{support_of}
use Rattle.bool_functions.specs.Tree.{value_of}
use Rattle.cell_machine.specs.declared.outputs.Source.{Source}
use Rattle.cell_machine.specs.declared.outputs.OutputPin.{OutputPin}
use Rattle.cell_machine.specs.CellData.{CellData}
use Rattle.cell_machine.specs.CellRules.{HoldsRules}
use Rattle.cell_machine.specs.Outputs.{output_at, condition_at}
use Rattle.cell_machine.specs.Values.{no_values}
use Rattle.cell_machine.specs.CellTrace.{support_at, sources_at}
use Rattle.cell_machine.proofs.ArcDelays.{some_at}
use Rattle.udp_tables.specs.declared.table.Udp.{Udp}
use Rattle.udp_tables.specs.declared.parts.Part.TheVariants as part
use Rattle.udp_tables.specs.Primitive.{level_output}
use Rattle.udp_tables.specs.Sequential.{udp_next, noted}
use Rattle.udp_tables.specs.Conditions.{conditions_of, condition_place}
use Rattle.udp_tables.specs.CellPrimitives.{has_notifier, group_primitive, condition_tree, condition_primitive, has_sources}
use Rattle.udp_tables.specs.CellPrimitives.{output_primitive}
use Rattle.specify_blocks.proofs.cell_tables.CellLaws.{parts_resolve-lem, groups_are_machines-lem, groups_are_forced-lem}
use Rattle.specify_blocks.specs.declared.model.VNet.{VNet}
use Rattle.specify_blocks.specs.declared.model.VNet.TheVariants as net
use Rattle.specify_blocks.specs.declared.model.Instance.TheVariants as instance
use Rattle.specify_blocks.specs.declared.model.VModule.{VModule}
use Rattle.specify_blocks.specs.Nets.{same_net, are_apart}
use Rattle.specify_blocks.specs.Sound.{IsSound}
use Rattle.specify_blocks.specs.Generated.{pin_net, notifier_nets, condition_count, wire_of, instances_of}
use Rattle.specify_blocks.specs.Generated.{primitives_of, module_of}
use Rattle.specify_blocks.specs.Generated as generated
use Rattle.specify_blocks.proofs.PrimitiveLemmas.{get-left, get-right, group_primitive-at, condition_primitive-at}
use Rattle.model_traces.proofs.PlaceLemmas.{set-last}
use Rattle.model_traces.proofs.CellSteps.{IsOutputPin, output-pin, no-sources}
use Rattle.model_traces.proofs.ModuleParts.{output-instance-at}
use Rattle.table_audit.specs.module_terminals.Terminals.{group_nets, condition_nets, source_net, output_nets}
use Rattle.table_audit.specs.module_terminals.Feeding.{Gating}
use Rattle.table_audit.specs.module_tables.Tables.{arranged, next_at, next_by, group_next, value_by, cell_step, place_net}
use Rattle.table_audit.specs.module_tables.Tables.{model_step, note_after, cell_forced, model_notified, cell_condition}
use Rattle.table_audit.specs.module_tables.Tables.{model_condition, cell_output, model_output}
use Rattle.table_audit.specs.module_tables.SameValues.{HasValues}
use Rattle.audited_modules.proofs.StateWires.{instance-at}
use Rattle.audited_modules.proofs.ApartNets.{own-place, own-values}
use Rattle.audited_modules.proofs.GeneratedParts.{IsUsed, group-at, group-feeds, group-apart, condition-at, condition-driving}
use Rattle.audited_modules.proofs.GeneratedParts.{condition-apart, output-support, output-feeds, output-driving}
use Rattle.audited_modules.proofs.GeneratedShape.{IsGating, check-gates, path-gates}

-- a written place before the register
noted-set : {X : Type 0} (b : Bool) (note : X) (xs : List X) (i : ℕ) (x : X) → i < length xs
    → set (noted b note xs) i x ≡ noted b note (set xs i x)
noted-set false note xs i x h = refl
noted-set true note xs i x h = set-append_left xs (note ∷ []) i x h

-- as many values as nets
noted-length :
    (b : Bool) (note : Trit) (xs : List Trit) (nets : List VNet)
    → length xs ≡ length nets → length (noted b note xs) ≡ length (nets ++ notifier_nets b)
noted-length false note xs nets h = h ∙ sym (ap length (append-nil nets))
noted-length true note xs nets h =
    let left = length-append xs (note ∷ []) in
    let right = length-append nets (net.Notifier ∷ []) in
    omega (arith, h, left, right)

no-values : (xs : List Trit) → length xs ≡ 0 → xs ≡ []
no-values [] h = refl
no-values (x ∷ xs) h = absurd (omega (arith, h))

differs : (old : Trit) → old ≢ note_after old
differs Zero = λ e. absurd cc
differs One = λ e. absurd cc
differs Unknown = λ e. absurd cc

module _ (d : CellData) (rules : HoldsRules d.name d.pins d.groups d.outputs d.checks d.arcs)
    (sound : IsSound (module_of d)) where
  abbrev m : VModule
  m = module_of d

  -- the next state of the primitive of a group
  module _ (g : ℕ) (within : g < length d.groups) where
    group-next :
        (b : Bool) → has_notifier d ≡ b → (note : Trit) (xs : List Trit) → length xs ≡ length (support_at d g)
        → (changed : VNet) (p : ℕ) → slice_get (group_nets d g) p ≡ Some changed → (old s : Trit)
        → group_next d m g (noted b note xs) changed old s
        ≡ udp_next (group_primitive d g).rows (set (noted b note xs) p old) (noted b note xs) s
    group-next b checks note xs long changed p at old s =
        let there = some_at d.groups g within in
        let ys : List Trit = noted b note xs in
        let feeds = group-feeds d sound g there.0 there.1 in
        let own = group-apart d sound g there.0 there.1 in
        let many : length ys ≡ length (group_nets d g) =
        noted-length b note xs (map (pin_net d.pins) (support_at d g)) (long ∙ sym (length-map (support_at d g) (pin_net d.pins)))
        ∙ ap (λ c. length (map (pin_net d.pins) (support_at d g) ++ notifier_nets c)) (sym checks) in
        ap (λ o. option_map_or (next_by m (group_nets d g) ys changed old s) o s) (group-at d sound g there.0 there.1)
        ∙ ap (λ ns. option_map_or (λ udp. next_at (position (same_net changed) ns) udp (arranged (group_nets d g) ys ns) old s)
        (slice_get (primitives_of d) g) s) feeds
        ∙ ap (λ o. option_map_or (λ udp. next_at (position (same_net changed) (group_nets d g)) udp
        (arranged (group_nets d g) ys (group_nets d g)) old s) o s) (group_primitive-at d g within)
        ∙ (λ i. next_at (own-place (group_nets d g) p changed own at i) (group_primitive d g)
        (own-values (group_nets d g) ys own many i) old s)

    pin-at :
        (p : ℕ) → p < length (support_at d g) → slice_get (group_nets d g) p ≡ Some (place_net d g p)
    pin-at p inside =
        let long = length-map (support_at d g) (pin_net d.pins) in
        get-left (map (pin_net d.pins) (support_at d g)) (notifier_nets (has_notifier d)) p (omega (arith, inside, long))
        ∙ slice_get-map (pin_net d.pins) (support_at d g) p
        ∙ ap (option_map (pin_net d.pins)) (slice_get-get_or (support_at d g) p 0 inside)

    pub steps :
        (p : ℕ) (old : Trit) (xs : List Trit) (note s : Trit)
        → length xs ≡ length (support_at d g) → p < length xs → old ≢ get_or xs p Unknown
        → model_step d m g p old xs note s ≡ cell_step d g p old xs s
    steps p old xs note s long inside other =
        group-next (has_notifier d) refl note xs long (place_net d g p) p (pin-at p (omega (arith, inside, long))) old s
        ∙ ap (λ before. udp_next (group_primitive d g).rows before (noted (has_notifier d) note xs) s)
        (noted-set (has_notifier d) note xs p old inside)
        ∙ groups_are_machines-lem d g p old xs note s long inside other

    pub forces :
        (old : Trit) (xs : List Trit) (s : Trit)
        → has_notifier d ≡ true → length xs ≡ length (support_at d g)
        → model_notified d m g old (note_after old) xs s ≡ cell_forced d g xs
    forces old xs s some long =
        let new : Trit = note_after old in
        let many = length-map (support_at d g) (pin_net d.pins) in
        let here : length xs + 0 ≡ length xs = omega arith in
        let register : slice_get (group_nets d g) (length xs) ≡ Some net.Notifier =
        ap (slice_get (group_nets d g)) (sym here)
        ∙ get-right (map (pin_net d.pins) (support_at d g)) (notifier_nets (has_notifier d)) (length xs) 0 (many ∙ sym long)
        ∙ ap (λ b. slice_get (notifier_nets b) 0) some in
        group-next true some new xs long net.Notifier (length xs) register old s
        ∙ ap (λ before. udp_next (group_primitive d g).rows before (noted true new xs) s) (set-last xs new old)
        ∙ groups_are_forced-lem d g xs old new s some long (differs old)

  -- the value of a condition
  condition-value :
      (f : Node) → IsUsed d f → (xs : List Trit) → length xs ≡ length (support_of f)
      → model_condition d m (record { condition = f; wire = wire_of d f }) xs ≡ cell_condition f xs
  condition-value f used xs long =
      let nets : List VNet = condition_nets d f in
      let i : ℕ = condition_place (conditions_of d) f in
      let tree : condition_tree d i ≡ f = get_or_from_slice_get (conditions_of d) i f node.Zero (condition-at d sound f used) in
      let many : length xs ≡ length nets = long ∙ sym (length-map (support_of f) (pin_net d.pins)) in
      ap (λ o. option_map_or (value_by m nets xs) o Unknown) (condition-driving d sound f used)
      ∙ ap (λ o. option_map_or (λ (udp : Udp). level_output udp.rows (arranged nets xs nets)) o Unknown)
      (condition_primitive-at d i used.numbered)
      ∙ ap (level_output (condition_primitive d i).rows) (own-values nets xs (condition-apart d sound f used) many)
      ∙ parts_resolve-lem d (part.Condition i) xs (long ∙ ap (λ t. length (support_of t)) (sym tree))
      ∙ ap (λ t. res (condition_at (support_of t) t) xs) tree

  gating-value :
      (u : Gating) → IsGating d u → (xs : List Trit) → length xs ≡ length (support_of u.condition)
      → model_condition d m u xs ≡ cell_condition u.condition xs
  gating-value u gates =
      subst (λ (u : Gating). (xs : List Trit) → length xs ≡ length (support_of u.condition)
      → model_condition d m u xs ≡ cell_condition u.condition xs)
      gates.is (condition-value gates.names gates.used)

  -- the value of an output
  module _ (k : ℕ) (output : OutputPin) (at : slice_get d.outputs k ≡ Some output) (is : IsOutputPin d output) where
    output-apart : IsTrue (are_apart (output_nets d m k))
    output-apart =
        let placed = output-instance-at d sound k output at in
        by placed.0 (has_sources output) refl placed.1
      where
        by :
            (j : ℕ) (b : Bool) → has_sources output ≡ b
            → slice_get (instances_of d) (length d.groups + (condition_count d + k))
            ≡ Some (if b then instance.Primitive j (pin_net d.pins output.pin)
            (map (generated.source_net d.pins) output.support) else instance.Constant (pin_net d.pins output.pin)
            (value_of no_values output.function))
            → IsTrue (are_apart (output_nets d m k))
        by j true some there =
            let own = (instance-at m [] (instances_of d) (length d.groups + (condition_count d + k))
            (instance.Primitive j (pin_net d.pins output.pin) (map (generated.source_net d.pins) output.support))
            sound.instances there).1 in
            subst (λ ns. IsTrue (are_apart ns)) (output-feeds d sound k output at is)
            (and_parts _ (are_apart (map (generated.source_net d.pins) output.support)) ((own.2).apart)).1
        by j false some there =
            let none : output.support ≡ [] = no-sources output.support some in
            subst (λ ns. IsTrue (are_apart ns)) (ap (map (generated.source_net d.pins)) (sym none)
            ∙ output-feeds d sound k output at is) refl

    pub output-value :
        (xs : List Trit) → length xs ≡ length (sources_at d k) → model_output d m k xs ≡ cell_output d k xs
    output-value xs long =
        let placed = output-instance-at d sound k output at in
        ap (λ o. option_map_or (value_by m (output_nets d m k) xs) o Unknown) (output-driving d sound k output at is)
        ∙ by placed.0 (has_sources output) refl placed.2
      where
        by :
            (j : ℕ) (b : Bool) → has_sources output ≡ b
            → (has_sources output ≡ true → slice_get (primitives_of d) j ≡ Some (output_primitive d k))
            → value_by m (output_nets d m k) xs (if b then instance.Primitive j (pin_net d.pins output.pin)
            (map (generated.source_net d.pins) output.support) else instance.Constant (pin_net d.pins output.pin)
            (value_of no_values output.function))
            ≡ cell_output d k xs
        by j true some primitive =
            let nets : List VNet = output_nets d m k in
            let many : length xs ≡ length nets = long ∙ sym (length-map (sources_at d k) (source_net d m)) in
            ap (λ ns. option_map_or (λ (udp : Udp). level_output udp.rows (arranged nets xs ns))
            (slice_get (primitives_of d) j) Unknown) (output-feeds d sound k output at is)
            ∙ ap (λ o. option_map_or (λ (udp : Udp). level_output udp.rows (arranged nets xs nets)) o Unknown) (primitive some)
            ∙ ap (level_output (output_primitive d k).rows) (own-values nets xs output-apart many)
            ∙ parts_resolve-lem d (part.Output k) xs long
        by j false some primitive =
            let none : output.support ≡ [] = no-sources output.support some in
            let empty : xs ≡ [] = no-values xs (long ∙ ap length (output-support d sound k output at is ∙ none)) in
            let made : List Source → OutputPin = λ sources.
            record { pin = output.pin; function = output.function; support = sources } in
            ap (λ sources. res (output_at (length d.pins) d.groups (made sources)) []) (sym none)
            ∙ ap (res (output_at (length d.pins) d.groups output)) (sym empty)
            ∙ ap (λ o. res (λ point. option_map_or (λ (x : OutputPin). output_at (length d.pins) d.groups x point) o Unknown)
            xs) (sym at)

  pub has-values : HasValues d m
  has-values =
      record {
        steps = λ g p old xs note s within long inside other. steps g within p old xs note s long inside other;
        forces = λ g old xs s some within long. forces g within old xs s some long;
        checks = λ i u xs e long. gating-value u (check-gates d rules i u e) xs long;
        paths = λ i u xs e long. gating-value u (path-gates d rules i u e) xs long;
        outputs =
            λ k xs within long.
            let there = some_at d.outputs k within in
            output-value k there.0 there.1 (output-pin d rules k there.0 there.1) xs long;
      }
