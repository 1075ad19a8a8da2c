-- The core of an expanded cell runs as the bank machine.
use Rattle.std.proofs.Common.{◌≡◌, ℕ, ◌+◌, Bool, true, false, List, [], ◌∷◌, ◌++◌, length, map, Option, None, Some, refl, sym, ap}
use Rattle.std.proofs.Common.{subst, ◌∙◌, arith}
use Rattle.std.specs.Prelude.{flat_map}
use Rattle.std.proofs.lemmas.List.{length-map}
use Rattle.std.specs.List.{AllByRecursion}
use Rattle.liberty_text.specs.declared.time.Unit.{Unit as TimeUnit}
use Rattle.liberty_groups.specs.declared.tree.Group.{Group}
use Rattle.cell_machine.specs.declared.groups.StateGroup.{StateGroup}
use Rattle.cell_machine.specs.declared.outputs.OutputPin.{OutputPin}
use Rattle.cell_attributes.specs.CellLaws.{numbers_of, groups_of, outputs_of, CellMeetsNone}
use Rattle.cell_attributes.specs.Groups.{cell_name, pin_groups}
use Rattle.cell_attributes.specs.Pins.{pins_of}
use Rattle.cell_attributes.specs.Vocabulary.{Vocabulary, vocabulary}
use Rattle.cell_attributes.specs.Building.{outputs_from}
use Rattle.cell_reader.specs.declared.refusal.Refusal.{Refusal}
use Rattle.cell_reader.specs.CellTexts.{subject_of}
use Rattle.cell_reader.specs.Refusals.{refusal_of}
use Rattle.cell_reader.proofs.Accepted.{accepted_meets_none_here}
use Rattle.three_state_cells.specs.Outputs.{ThreeStateOutput, three_state_outputs, outputs_from as three_states_from}
use Rattle.three_state_cells.specs.CoreGroups.{core_group}
use Rattle.three_state_cells.specs.DrivenCells.{cell_data, core_name, floating_of, data_by, driven_data}
use Rattle.three_state_cells.specs.Refusals.{first_of_two, driver_refusal, floating_refusal, refusal_by, driven_refusal}
use Rattle.three_state_cells.specs.Trimmed.{in_core}
use Rattle.three_state_cells.proofs.CorePins.{core_statements}
use Rattle.bus_texts.specs.declared.bus_types.BusType.{BusType}
use Rattle.bus_texts.specs.declared.vectors.Vector.{Vector}
use Rattle.bus_texts.specs.Vectors.{cell_vectors}
use Rattle.bank_cells.specs.Refusals.{has_many, width_faults, bank_refusal}
use Rattle.bank_cells.specs.Expanded.{expanded}
use Rattle.bank_machines.specs.BankTexts.{CellNames}
use Rattle.bank_machines.specs.BankOutputs.{WrittenPin, pins_made}
use Rattle.bank_machines.specs.BankCores.{enables_among, bank_core}
use Rattle.bank_machines.specs.BankMachine.{joined, names_with, state_lists}
use Rattle.bank_machines.specs.Laws.{RunsAs, BankMachineIsExpandedCore, bank_by, AcceptedCellsRunAsBanks}
use Rattle.bank_machines.proofs.Lists.{all_split}
use Rattle.bank_machines.proofs.StateLists.{single_states}
use Rattle.bank_machines.proofs.PinLemmas.{owner_of, Placed, ReadsText}
use Rattle.bank_machines.proofs.PinLists.{owner_list, owners_are, placed_are, scalars_are, own_are}
use Rattle.bank_machines.proofs.Spelling.{cell_spells}
use Rattle.bank_machines.proofs.CoreLemmas.{enable_owners, states_of_core, owners_of_core, outputs_append}
use Rattle.bank_machines.proofs.CoreLemmas.{core_outputs, core_reads}
use Rattle.bank_machines.proofs.EnableLemmas.{FloatsAs, owners_float, scalars_float, scalars_placed, enables_are}
use Rattle.bank_machines.proofs.Machines.{unrefused, expanded_items, plain_items, reads, many_states, many_outputs, few_states}
use Rattle.bank_machines.proofs.Machines.{few_outputs, outputs_over, runs_as, machines_are}

module _ (types : List BusType) (cell : Group) (meets : CellMeetsNone (core_group (expanded types cell))) where
  abbrev single : Group
  single = expanded types cell

  abbrev core : Group
  core = core_group single

  abbrev v : Vocabulary
  v = vocabulary core

  abbrev numbers : List ℕ
  numbers = numbers_of core

  abbrev pins : ℕ
  pins = length (pins_of core)

  abbrev states : List StateGroup
  states = joined (state_lists types cell core)

  abbrev vectors : List Vector
  vectors = cell_vectors types cell

  abbrev made : List WrittenPin
  made = flat_map (pins_made types) cell.items

  abbrev names : CellNames
  names = names_with types cell core

  abbrev added : List ThreeStateOutput
  added = three_state_outputs single

  states_same : single_states core.items ≡ single_states single.items
  states_same = ap single_states (core_statements single) ∙ states_of_core single.items added

  owners_same : owner_list core.items ≡ map in_core (owner_list single.items) ++ enable_owners 0 added
  owners_same = ap owner_list (core_statements single) ∙ owners_of_core single.items added

  all_reads : AllByRecursion (ReadsText v) (map in_core (owner_list single.items))
      × AllByRecursion (ReadsText v) (enable_owners 0 added)
  all_reads =
      all_split (ReadsText v) (map in_core (owner_list single.items)) (enable_owners 0 added)
      (subst (λ gs. AllByRecursion (ReadsText v) gs) owners_same (reads types cell core meets))

  cell_reads : AllByRecursion (ReadsText v) (owner_list single.items)
  cell_reads = core_reads v (owner_list single.items) all_reads.0

  -- the outputs of the cell, and those that are added
  split_outputs :
      groups_of core ≡ states
      → outputs_of core
      ≡ outputs_from v pins states numbers 0 (owner_list single.items)
      ++ outputs_from v pins states numbers (length (owner_list single.items)) (enable_owners 0 added)
  split_outputs same =
      let count : 0 + length (map in_core (owner_list single.items)) ≡ length (owner_list single.items) =
      let e : length (map in_core (owner_list single.items)) ≡ length (owner_list single.items) =
      length-map (owner_list single.items) in_core in omega (arith, e) in
      outputs_over types cell core meets same
      ∙ (ap (outputs_from v pins states numbers 0) owners_same
      ∙ (outputs_append v pins states numbers 0 (map in_core (owner_list single.items)) (enable_owners 0 added)
      ∙ (ap (λ os. os ++ outputs_from v pins states numbers (0 + length (map in_core (owner_list single.items)))
      (enable_owners 0 added))
      (core_outputs v pins states numbers (owner_list single.items) 0)
      ∙ ap (λ n. outputs_from v pins states numbers 0 (owner_list single.items)
      ++ outputs_from v pins states numbers n (enable_owners 0 added)) count)))

  added_outputs :
      (owner : WrittenPin → Group) → owner_list single.items ≡ map owner made → AllByRecursion (FloatsAs vectors owner) made
      → AllByRecursion (Placed vectors) made
      → outputs_from v pins states numbers (length (owner_list single.items)) (enable_owners 0 added) ≡ enables_among names v pins
      states (length made) made
  added_outputs owner same floats placed =
      let count : length (owner_list single.items) ≡ length made = ap length same ∙ length-map made owner in
      let same_added : added ≡ three_states_from 0 (map owner made) = ap (three_states_from 0) same in
      ap (λ n. outputs_from v pins states numbers n (enable_owners 0 added)) count
      ∙ (ap (λ os. outputs_from v pins states numbers (length made) (enable_owners 0 os)) same_added
      ∙ enables_are vectors v numbers (cell_spells types cell) pins states owner made floats placed 0 0 (length made)
      (subst (λ os. AllByRecursion (ReadsText v) (enable_owners 0 os)) same_added all_reads.1))

-- The states and the outputs of an accepted core are those of the cell's statements.
record IsBankCore (types : List BusType) (cell : Group) : Type 0 where
  pub states_are : groups_of (core_group (expanded types cell)) ≡ joined (bank_core types cell).states
  pub outputs_are : outputs_of (core_group (expanded types cell)) ≡ (bank_core types cell).outputs

is_bank_core : (types : List BusType) (cell : Group) → bank_refusal types cell ≡ None
    → CellMeetsNone (core_group (expanded types cell)) → IsBankCore types cell
is_bank_core types cell h meets = by (has_many cell) refl
  where
    joined_outputs : (xs ys us ws : List OutputPin) → xs ≡ us → ys ≡ ws → xs ++ ys ≡ us ++ ws
    joined_outputs xs ys us ws e f = ap (λ os. os ++ ys) e ∙ ap (λ os. us ++ os) f

    by : (many : Bool) → has_many cell ≡ many → IsBankCore types cell
    by true e =
        let items = expanded_items types cell e in
        let faults : width_faults types cell ≡ [] = unrefused types cell e h in
        let same : groups_of (core types cell meets) ≡ states types cell meets =
        many_states types cell (core types cell meets) meets (states_same types cell meets ∙ ap single_states items) faults in
        let owners : owner_list (expanded types cell).items ≡ map (owner_of (cell_vectors types cell)) (made types cell meets) =
        ap owner_list items ∙ owners_are types (cell_vectors types cell) cell.items in
        record {
          states_are = same;
          outputs_are =
              split_outputs types cell meets same
              ∙ joined_outputs _ _ _ _
              (many_outputs types cell (core types cell meets) meets (owner_list (expanded types cell).items) owners faults
              (cell_reads types cell meets))
              (added_outputs types cell meets (owner_of (cell_vectors types cell)) owners
              (owners_float (cell_vectors types cell) (v types cell meets) (numbers types cell meets) (cell_spells types cell)
              (made types cell meets))
              (placed_are types (cell_vectors types cell) cell.items faults));
        }
    by false e =
        let items = plain_items types cell e in
        let same : groups_of (core types cell meets) ≡ states types cell meets =
        few_states types cell (core types cell meets) meets (states_same types cell meets ∙ ap single_states items) e in
        let owners : owner_list (expanded types cell).items ≡ map (λ (pin : WrittenPin). pin.group) (made types cell meets) =
        ap owner_list items ∙ own_are types (cell_vectors types cell) cell.items e in
        let scalars = scalars_are types (cell_vectors types cell) cell.items e in
        record {
          states_are = same;
          outputs_are =
              split_outputs types cell meets same
              ∙ joined_outputs _ _ _ _
              (few_outputs types cell (core types cell meets) meets (owner_list (expanded types cell).items) owners e)
              (added_outputs types cell meets (λ (pin : WrittenPin). pin.group) owners
              (scalars_float (cell_vectors types cell) (v types cell meets) (numbers types cell meets) (cell_spells types cell)
              (made types cell meets) scalars)
              (scalars_placed (cell_vectors types cell) (v types cell meets) (numbers types cell meets) (cell_spells types cell)
              (made types cell meets) scalars));
        }

pub cores_are : BankMachineIsExpandedCore
cores_are types cell unit earlier name number h accepted =
    let group : Group = core_group (expanded types cell) in
    let same : IsBankCore types cell =
    is_bank_core types cell h (accepted_meets_none_here (subject_of unit group) earlier group accepted) in
    runs_as (bank_core types cell) (cell_data unit name number group) same.states_are same.outputs_are

-- both together

decided_none : (one other : Option Refusal) → first_of_two one other ≡ None → one ≡ None
decided_none None other h = refl
decided_none (Some one) None h = absurd cc
decided_none (Some one) (Some other) h = absurd cc

core_accepted :
    (unit : Option TimeUnit) (earlier : List (List ℕ)) (core : Group) (groups : List Group)
    → floating_refusal unit earlier core groups ≡ None
    → refusal_of (subject_of unit core) earlier core ≡ None
unfolding floating_refusal
core_accepted unit earlier core groups h =
    decided_none (refusal_of (subject_of unit core) earlier core) (driver_refusal (subject_of unit core) groups) h

floating_core :
    (unit : Option TimeUnit) (number : ℕ) (core : Group) (outputs : List ThreeStateOutput)
    → (floating_of unit number core outputs).core ≡ cell_data unit (core_name number) number core
unfolding floating_of
floating_core unit number group outputs = refl

by_outputs :
    (types : List BusType) (cell : Group) (unit : Option TimeUnit) (earlier : List (List ℕ)) (number : ℕ)
    → bank_refusal types cell ≡ None
    → (outputs : List ThreeStateOutput) → refusal_by unit earlier (expanded types cell) outputs ≡ None
    → RunsAs (data_by unit number (expanded types cell) outputs).core (bank_by types cell outputs)
by_outputs types cell unit earlier number h [] accepted =
    machines_are types cell unit earlier (cell_name (expanded types cell)) number h accepted
by_outputs types cell unit earlier number h (output ∷ outputs) accepted =
    subst (λ single. RunsAs single (bank_core types cell))
    (sym (floating_core unit number (core_group (expanded types cell)) (output ∷ outputs)))
    (cores_are types cell unit earlier (core_name number) number h
    (core_accepted unit earlier (core_group (expanded types cell)) (pin_groups (expanded types cell)) accepted))

pub accepted_run : AcceptedCellsRunAsBanks
unfolding driven_refusal driven_data
accepted_run types cell unit earlier number h accepted =
    by_outputs types cell unit earlier number h (three_state_outputs (expanded types cell)) accepted
