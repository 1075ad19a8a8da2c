-- The laws of the primitives of a cell.
use Rattle.std.proofs.Common.{◌≡◌, ℕ, ◌<◌, ◌≤◌, Bool, true, false, List, [], ◌∷◌, length, inl, inr, refl, sym, ◌∙◌, ap, subst}
use Rattle.std.proofs.Common.{arith}
use Rattle.std.specs.List.{list_any}
use Rattle.std.proofs.lemmas.Bool.{cases_Bool}
use Rattle.trit_cubes.proofs.ListLemmas.{Among, contains-among, append-among_left, append-among_right}
use Rattle.bool_functions.specs.declared.tree.Node.{Node}
use Rattle.udp_tables.specs.declared.parts.Part.TheVariants as part
use Rattle.udp_tables.specs.declared.table.UdpRow.{UdpRow}
use Rattle.bool_functions.specs.SameTrees.{same_tree}
use Rattle.udp_tables.specs.Sequential.{udp_next, noted, compact_rows, changes_in}
use Rattle.udp_tables.specs.Conditions.{added, added_all, used_conditions, condition_place}
use Rattle.cell_machine.specs.CellTrace.{support_at, step_at, sources_at, output_value_at}
use Rattle.udp_tables.specs.CellPrimitives.{has_notifier, group_inputs, part_places, part_value}
use Rattle.udp_tables.specs.PortNames.{input_names}
use Rattle.udp_tables.specs.Laws.{PartsResolve, GroupsAreMachines, GroupsAreForced, GroupsAreSequential, ConditionsAreNumbered}
use Rattle.udp_tables.proofs.FirstLemmas.{any-found}
use Rattle.bool_functions.proofs.SameTreeLemmas.{same_tree-equal, same_tree-refl}
use Rattle.cell_tables.proofs.TableLemmas.{function_rows-res, length-input_names}
use Rattle.cell_tables.proofs.CountLemmas.{compact-fit, all-rows}
use Rattle.cell_tables.proofs.LawLemmas.{compact_are_machine-lem, compact_force-lem}

pub parts_resolve-lem : PartsResolve
parts_resolve-lem cell (part.Output i) inputs long =
    function_rows-res (length (sources_at cell i)) (output_value_at cell i) inputs long
parts_resolve-lem cell (part.Condition i) inputs long =
    function_rows-res (part_places cell (part.Condition i)) (part_value cell (part.Condition i)) inputs long

pub groups_are_machines-lem : GroupsAreMachines
groups_are_machines-lem cell i p old inputs note state long within apart =
    compact_are_machine-lem (has_notifier cell) (length (support_at cell i)) (step_at cell i) p old inputs note state long
    (omega arith) apart

pub groups_are_forced-lem : GroupsAreForced
groups_are_forced-lem cell i inputs old new state checks long apart =
    ap (λ b. udp_next (compact_rows b (length (support_at cell i)) (step_at cell i)) (noted true old inputs)
    (noted true new inputs) state) checks
    ∙ compact_force-lem (length (support_at cell i)) (step_at cell i) inputs old new state long

pub groups_are_sequential-lem : GroupsAreSequential
groups_are_sequential-lem cell i =
    let checks : Bool = has_notifier cell in
    let n : ℕ = length (support_at cell i) in
    let rows : List UdpRow = compact_rows checks n (step_at cell i) in
    record {
      entries =
          all-rows (λ row. length row.inputs ≡ length (input_names (group_inputs cell i))) rows
          (λ row m. (compact-fit checks n (step_at cell i) row m).entries ∙ sym (length-input_names (group_inputs cell i)));
      changes =
          all-rows (λ row. changes_in row ≤ 1) rows
          (λ row m. (compact-fit checks n (step_at cell i) row m).changed);
    }

-- a tree among others has a place
place-among : (trees : List Node) (f : Node) → Among f trees → condition_place trees f < length trees
place-among [] f m = absurd m
place-among (g ∷ trees) f m =
    elim (cases_Bool (same_tree f g)) [
      | inl e ↦ rw e (omega arith)
      | inr e ↦
          elim m [
            | inl same ↦
                let clash : false ≡ true = sym e ∙ ap (same_tree f) same ∙ same_tree-refl f in absurd cc
            | inr k ↦ rw e (let l = place-among trees f k in omega (arith, l))
          ]
    ]

added-keeps : (trees : List Node) (f g : Node) → Among g trees → Among g (added trees f)
added-keeps trees f g m =
    elim (cases_Bool (list_any (same_tree f) trees)) [
      | inl e ↦ rw e m
      | inr e ↦ rw e (append-among_left g trees (f ∷ []) m)
    ]

added-holds : (trees : List Node) (f : Node) → Among f (added trees f)
added-holds trees f =
    elim (cases_Bool (list_any (same_tree f) trees)) [
      | inl e ↦
          rw e
          (let r = any-found (same_tree f) trees e in
          subst (λ g. Among g trees) (sym (same_tree-equal f r.0 r.2)) r.1)
      | inr e ↦ rw e (append-among_right f trees (f ∷ []) (inl refl))
    ]

added_all-keeps : (trees fs : List Node) (g : Node) → Among g trees → Among g (added_all trees fs)
added_all-keeps trees [] g m = m
added_all-keeps trees (f ∷ fs) g m = added_all-keeps (added trees f) fs g (added-keeps trees f g m)

added_all-holds : (trees fs : List Node) (g : Node) → Among g fs → Among g (added_all trees fs)
added_all-holds trees [] g m = absurd m
added_all-holds trees (f ∷ fs) g m =
    elim m [
      | inl same ↦ subst (λ h. Among h (added_all (added trees f) fs)) same
          (added_all-keeps (added trees f) fs f (added-holds trees f))
      | inr k ↦ added_all-holds (added trees f) fs g k
    ]

pub conditions_are_numbered-lem : ConditionsAreNumbered
conditions_are_numbered-lem cell f h =
    place-among (added_all [] (used_conditions cell)) f
    (added_all-holds [] (used_conditions cell) f (contains-among f (used_conditions cell) h))
