-- A cell has as many state groups as it declares states.
use Rattle.std.proofs.Common.{◌≡◌, ℕ, suc, ◌+◌, false, List, [], ◌∷◌, length, map, refl, sym, ◌∙◌, ap, Option, Some, None}
use Rattle.std.proofs.Common.{length-append}
use Rattle.std.specs.Prelude.{flat_map}
use Rattle.std.proofs.lemmas.Bool.{cases_Bool}
use Rattle.std.proofs.Common.{inl, inr}
use Rattle.liberty_groups.specs.declared.tree.Group.{Group}
use Rattle.cell_machine.specs.declared.groups.StateGroup.{StateGroup}
use Rattle.statetables.specs.declared.table.StateTable.{StateTable}
use Rattle.cell_attributes.specs.declared.state_readings.StateReading.{StateReading}
use Rattle.cell_attributes.specs.Groups.{names_in}
use Rattle.cell_attributes.specs.States.{StateName, Arguments, states_with, states_in, arguments_of, is_table, node_named}
use Rattle.cell_attributes.specs.StateReadings.{is_ff}
use Rattle.cell_attributes.specs.Building.{node_groups, groups_with, groups_in, groups_from}
use Rattle.cell_attributes.specs.Limits.{place_of_state, state_at}
use Rattle.cell_attributes.proofs.Turns.{count_shown}
use Rattle.cell_attributes.proofs.Numbering.{state_flags}
use Rattle.cell_attributes.proofs.SourceRules.{group_flags}

node_flags : (table : StateTable) (r : StateReading) (node : ℕ) (names : List (List ℕ))
    → group_flags (node_groups table r node names) ≡ state_flags (map node_named names)
node_flags table r node [] = refl
node_flags table r node (name ∷ names) = ap (λ bs. false ∷ bs) (node_flags table r (node + 1) names)

-- a state group has a second variable where its state has one
pub flags_with :
    (to : List ℕ) (group : Group) (r : StateReading) (arguments : Option Arguments)
    → group_flags (groups_with to group r arguments) ≡ state_flags (states_with (is_table group) arguments)
flags_with to group r None = refl
flags_with to group r (Some arguments) =
    elim (cases_Bool (is_table group)) [
      | inl e ↦
          rw e
          (node_flags r.table r 0 (names_in arguments.second))
      | inr e ↦ elim (cases_Bool (is_ff group)) [ inl f ↦ rw (e, f) refl | inr f ↦ rw (e, f) refl ]
    ]

flags_count : (groups : List StateGroup) → length (group_flags groups) ≡ length groups
flags_count [] = refl
flags_count (group ∷ groups) = ap suc (flags_count groups)

states_count : (states : List StateName) → length (state_flags states) ≡ length states
states_count [] = refl
states_count (state ∷ states) = ap suc (states_count states)

-- one state group for each state that a group declares
pub count_with :
    (to : List ℕ) (group : Group) (r : StateReading) (arguments : Option Arguments)
    → length (groups_with to group r arguments) ≡ length (states_with (is_table group) arguments)
count_with to group r arguments =
    sym (flags_count (groups_with to group r arguments)) ∙ ap length (flags_with to group r arguments)
    ∙ states_count (states_with (is_table group) arguments)

-- one state group for each declared state
pub group_count :
    (to : List ℕ) (reading : Group → StateReading) (groups : List Group)
    → length (groups_from to groups (map reading groups)) ≡ length (flat_map state_at groups)
group_count to reading [] = refl
group_count to reading (group ∷ groups) =
    let here : length (groups_in to group (reading group)) ≡ length (states_in group) =
    count_with to group (reading group) (arguments_of group) in
    let places : length (state_at group) ≡ length (states_in group) = count_shown (place_of_state group) (states_in group) in
    let later = group_count to reading groups in
    length-append (groups_in to group (reading group)) (groups_from to groups (map reading groups))
    ∙ (ap (λ n. n + length (groups_from to groups (map reading groups))) (here ∙ sym places)
    ∙ (ap (λ n. length (state_at group) + n) later
    ∙ sym (length-append (state_at group) (flat_map state_at groups))))
