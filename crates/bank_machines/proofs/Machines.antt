-- The machine of an expanded cell is the bank machine.
use Rattle.std.proofs.Common.{◌≡◌, ℕ, ◌+◌, ◌*◌, Bool, true, false, List, [], ◌∷◌, ◌++◌, length, map, Option, None, Some, IsTrue}
use Rattle.std.proofs.Common.{nat_le, if◌then◌else◌, refl, sym, ap, subst, ◌∙◌, arith}
use Rattle.std.specs.Prelude.{flat_map}
use Rattle.std.specs.List.{AllByRecursion}
use Rattle.std.proofs.lemmas.Bool.{and_parts}
use Rattle.std.proofs.lemmas.List.{map-append}
use Rattle.liberty_groups.specs.declared.tree.Item.{Item}
use Rattle.liberty_groups.specs.declared.tree.Item.TheOpen.{Group-F}
use Rattle.liberty_groups.specs.declared.tree.Item.TheViews.{out-roll-Group}
use Rattle.liberty_groups.specs.declared.tree.Group.{Group}
use Rattle.trit_cubes.specs.declared.trits.Trit.{Trit}
use Rattle.cell_machine.specs.declared.changes.Change.{Change}
use Rattle.cell_machine.specs.declared.groups.StateGroup.{StateGroup}
use Rattle.cell_machine.specs.declared.pins.Pin.{Pin}
use Rattle.cell_machine.specs.CellData.{CellData}
use Rattle.cell_machine.specs.Lines.{trace}
use Rattle.cell_machine.specs.CellRules.{are_groups_from}
use Rattle.cell_machine.specs.CellTrace.{cell_line, delay_at, delay_after, reports_of, NamedGroup, inputs_of, named_from}
use Rattle.cell_machine.specs.CellTrace.{state_after, states_after, output_value, output_after}
use Rattle.cell_machine.specs.Delay.{least}
use Rattle.cell_machine.specs.History.{inputs_after}
use Rattle.cell_attributes.specs.CellLaws.{numbers_of, groups_of, outputs_of, CellMeetsNone}
use Rattle.cell_attributes.specs.Groups.{pin_groups}
use Rattle.cell_attributes.specs.Pins.{pins_of}
use Rattle.cell_attributes.specs.Vocabulary.{Vocabulary, vocabulary}
use Rattle.cell_attributes.specs.Building.{output_in, outputs_from}
use Rattle.cell_attributes.proofs.CellGroups.{groups_keep_rules}
use Rattle.cell_reader.specs.CellTexts.{subject_of}
use Rattle.cell_reader.proofs.Accepted.{accepted_meets_none_here}
use Rattle.cell_reader.proofs.Refused.{least_none}
use Rattle.three_state_cells.specs.DrivenCells.{cell_data}
use Rattle.bus_texts.specs.declared.bus_types.BusType.{BusType}
use Rattle.bus_texts.specs.declared.vectors.Vector.{Vector}
use Rattle.bus_texts.specs.Vectors.{cell_vectors}
use Rattle.bank_cells.specs.declared.refusal.BankReason.TheVariants as reason
use Rattle.bank_cells.specs.Refusals.{has_many, shape_faults, width_faults, refused_at, first_refusal, bank_refusal}
use Rattle.bank_cells.specs.Expanded.{expanded_item, expanded_cell, expanded}
use Rattle.bank_machines.specs.BankTexts.{CellNames}
use Rattle.bank_machines.specs.BankOutputs.{WrittenPin, pins_made, output_of, outputs_among}
use Rattle.bank_machines.specs.BankMachine.{BankCell, joined, names_with, state_lists, bank_cell_with, bank_cell, named_lists}
use Rattle.bank_machines.specs.BankMachine.{bank_states_after, bank_output_after, bank_delay_after, bank_line}
use Rattle.bank_machines.specs.Laws.{RunsAs, BankMachineIsExpandedCell}
use Rattle.bank_machines.proofs.MovedTexts.{made_of}
use Rattle.bank_machines.proofs.Supports.{Fits}
use Rattle.bank_machines.proofs.StateLists.{single_states, Sound, groups_read, states_are, plain_states_are, all_sound}
use Rattle.bank_machines.proofs.StateLists.{groups_are, all_fit}
use Rattle.bank_machines.proofs.PinLemmas.{owner_of, ReadsText, outputs_are}
use Rattle.bank_machines.proofs.PinLists.{owner_list, owners_are, placed_are, scalars_are, own_are, all_read}
use Rattle.bank_machines.proofs.Spelling.{cell_spells}

-- What the group of a cell that is expanded holds.

refused_none : (shape width : Option ℕ) → refused_at reason.Bank shape (refused_at reason.Width width None) ≡ None → width ≡ None
refused_none (Some at) width h = absurd cc
refused_none None (Some at) h = absurd cc
refused_none None None h = refl

no_faults : (types : List BusType) (cell : Group) → first_refusal types cell ≡ None → width_faults types cell ≡ []
no_faults types cell h = least_none (width_faults types cell)
    (refused_none (least (shape_faults types cell)) (least (width_faults types cell)) h)

pub unrefused : (types : List BusType) (cell : Group) → has_many cell ≡ true → bank_refusal types cell ≡ None
    → width_faults types cell ≡ []
unfolding bank_refusal
unrefused types cell many h = no_faults types cell (sym (ap (λ b. if b then first_refusal types cell else None) many) ∙ h)

pub expanded_items : (types : List BusType) (cell : Group) → has_many cell ≡ true
    → (expanded types cell).items ≡ flat_map (expanded_item types (cell_vectors types cell)) cell.items
unfolding expanded
expanded_items types cell many =
    ap (λ b. (if b then expanded_cell types cell else cell).items) many
    ∙ ap (λ (one : Group-F Item Group). one.items)
    (out-roll-Group (made_of cell (flat_map (expanded_item types (cell_vectors types cell)) cell.items)))

pub plain_items : (types : List BusType) (cell : Group) → has_many cell ≡ false → (expanded types cell).items ≡ cell.items
unfolding expanded
plain_items types cell many = ap (λ b. (if b then expanded_cell types cell else cell).items) many

module _ (types : List BusType) (cell single : Group) (meets : CellMeetsNone single) where
  abbrev vectors : List Vector
  vectors = cell_vectors types cell

  abbrev v : Vocabulary
  v = vocabulary single

  abbrev numbers : List ℕ
  numbers = numbers_of single

  abbrev pins : List Pin
  pins = pins_of single

  abbrev read : List Group → List StateGroup
  read groups = flat_map (groups_read types vectors v numbers pins (cell_spells types cell)) groups

  abbrev AllSound : List Group → Type 0
  AllSound groups = AllByRecursion (Sound types vectors v numbers pins (cell_spells types cell)) groups

  groups_read_of : groups_of single ≡ read (single_states single.items)
  groups_read_of = groups_are types vectors v numbers pins (cell_spells types cell) (single_states single.items)

  sound : AllSound (single_states single.items)
  sound =
      all_sound types vectors v numbers pins (cell_spells types cell) (single_states single.items) meets.states_read
      meets.states_known
      meets.states_apart

  rules : IsTrue (are_groups_from pins (length pins) (groups_of single))
  rules = (and_parts (nat_le (length (groups_of single)) 16) (are_groups_from pins (length pins) (groups_of single))
      (groups_keep_rules single meets)).1

  fits : AllByRecursion (Fits pins) (read (single_states single.items))
  fits = subst (λ gs. AllByRecursion (Fits pins) gs) groups_read_of
      (all_fit pins (length pins) (groups_of single) (omega arith) rules)

  pub reads : AllByRecursion (ReadsText v) (owner_list single.items)
  reads = all_read v (pin_groups single) meets.texts_read meets.texts_known

  -- where the cell is expanded
  pub many_states :
      single_states single.items ≡ single_states (flat_map (expanded_item types vectors) cell.items)
      → width_faults types cell ≡ []
      → groups_of single ≡ joined (state_lists types cell single)
  many_states same faults =
      groups_read_of
      ∙ (ap read same
      ∙ sym (states_are types vectors v numbers pins (cell_spells types cell) cell.items faults
      (subst (λ gs. AllSound gs) same sound)
      (subst (λ gs. AllByRecursion (Fits pins) (read gs)) same fits)))

  pub many_outputs :
      (owners : List Group) → owners ≡ map (owner_of vectors) (flat_map (pins_made types) cell.items)
      → width_faults types cell ≡ []
      → AllByRecursion (ReadsText v) owners
      → outputs_from v (length pins) (joined (state_lists types cell single)) numbers 0
      owners ≡ (bank_cell_with types cell single).outputs
  many_outputs owners same faults read_all =
      let made : List WrittenPin = flat_map (pins_made types) cell.items in
      ap (outputs_from v (length pins) (joined (state_lists types cell single)) numbers 0) same
      ∙ outputs_are vectors v numbers (cell_spells types cell) (length pins) (joined (state_lists types cell single)) made
      (placed_are types vectors cell.items faults) (subst (λ gs. AllByRecursion (ReadsText v) gs) same read_all) 0

  -- where it stays as it is
  pub few_states : single_states single.items ≡ single_states cell.items → has_many cell ≡ false
      → groups_of single ≡ joined (state_lists types cell single)
  few_states same few =
      groups_read_of
      ∙ (ap read same ∙ sym (plain_states_are types vectors v numbers pins (cell_spells types cell) cell.items few))

  abbrev names : CellNames
  names = names_with types cell single

  scalar_outputs :
      (states : List StateGroup) (made : List WrittenPin) → AllByRecursion (λ (pin : WrittenPin). pin.position ≡ None) made
      → (number : ℕ)
      → outputs_from v (length pins) states numbers number (map (λ (pin : WrittenPin). pin.group) made) ≡ outputs_among names v
      (length pins) states number made
  scalar_outputs states [] h number = refl
  scalar_outputs states (pin ∷ made) h number =
      let here : output_in v (length pins) states numbers number pin.group ≡ output_of names v (length pins) states number pin =
      ap (λ position. output_of names v (length pins) states number (record { group = pin.group; position = position })) (sym h.0)
      in
      ap (λ os. os ++ outputs_from v (length pins) states numbers (number + 1) (map (λ (other : WrittenPin). other.group) made))
      here
      ∙ ap (λ os. output_of names v (length pins) states number pin ++ os) (scalar_outputs states made h.1 (number + 1))

  pub few_outputs :
      (owners : List Group) → owners ≡ map (λ (pin : WrittenPin). pin.group) (flat_map (pins_made types) cell.items)
      → has_many cell ≡ false
      → outputs_from v (length pins) (joined (state_lists types cell single)) numbers 0
      owners ≡ (bank_cell_with types cell single).outputs
  few_outputs owners same few =
      ap (outputs_from v (length pins) (joined (state_lists types cell single)) numbers 0) same
      ∙ scalar_outputs (joined (state_lists types cell single)) (flat_map (pins_made types) cell.items)
      (scalars_are types vectors cell.items few) 0

  pub outputs_over :
      groups_of single ≡ joined (state_lists types cell single)
      → outputs_of single ≡ outputs_from v (length pins) (joined (state_lists types cell single)) numbers 0
      (owner_list single.items)
  outputs_over same = ap (λ gs. outputs_from v (length pins) gs numbers 0 (owner_list single.items)) same

-- The states and the outputs of an accepted cell are those of its statements.
record IsBankCell (types : List BusType) (cell : Group) : Type 0 where
  pub states : groups_of (expanded types cell) ≡ joined (bank_cell types cell).states
  pub outputs : outputs_of (expanded types cell) ≡ (bank_cell types cell).outputs

module _ (types : List BusType) (cell : Group) (h : bank_refusal types cell ≡ None)
    (meets : CellMeetsNone (expanded types cell)) where
  abbrev single : Group
  single = expanded types cell

  made_states : (many : Bool) → has_many cell ≡ many → groups_of single ≡ joined (state_lists types cell single)
  made_states true e =
      many_states types cell single meets (ap single_states (expanded_items types cell e)) (unrefused types cell e h)
  made_states false e = few_states types cell single meets (ap single_states (plain_items types cell e)) e

  made_outputs : (many : Bool) → has_many cell ≡ many
      → outputs_from (vocabulary single) (length (pins_of single)) (joined (state_lists types cell single)) (numbers_of single) 0
      (owner_list single.items) ≡ (bank_cell types cell).outputs
  made_outputs true e =
      many_outputs types cell single meets (owner_list single.items)
      (ap owner_list (expanded_items types cell e) ∙ owners_are types (cell_vectors types cell) cell.items) (unrefused types cell e h)
      (reads types cell single meets)
  made_outputs false e =
      few_outputs types cell single meets (owner_list single.items)
      (ap owner_list (plain_items types cell e) ∙ own_are types (cell_vectors types cell) cell.items e) e

  is_bank_cell : IsBankCell types cell
  is_bank_cell =
      let same : groups_of single ≡ joined (state_lists types cell single) = made_states (has_many cell) refl in
      record {
        states = same;
        outputs = outputs_over types cell single meets same ∙ made_outputs (has_many cell) refl;
      }

-- the states list by list
named_append : (number : ℕ) (xs ys : List StateGroup)
    → named_from number (xs ++ ys) ≡ named_from number xs ++ named_from (number + 2 * length xs) ys
named_append number [] ys = let e : number + 2 * 0 ≡ number = omega arith in ap (λ n. named_from n ys) (sym e)
named_append number (x ∷ xs) ys =
    let e : number + 2 + 2 * length xs ≡ number + 2 * length (x ∷ xs) = omega arith in
    ap (λ gs. record { name = number; group = x } ∷ gs)
    (named_append (number + 2) xs ys ∙ ap (λ n. named_from (number + 2) xs ++ named_from n ys) e)

joined_states : (f : NamedGroup → Trit) (number : ℕ) (lists : List (List StateGroup))
    → joined (map (map f) (named_lists number lists)) ≡ map f (named_from number (joined lists))
joined_states f number [] = refl
joined_states f number (states ∷ more) =
    ap (λ ts. map f (named_from number states) ++ ts) (joined_states f (number + 2 * length states) more)
    ∙ (sym (map-append f (named_from number states) (named_from (number + 2 * length states) (joined more)))
    ∙ sym (ap (map f) (named_append number states (joined more))))

module _ (bank : BankCell) (single : CellData) where
  module _ (groups : single.groups ≡ joined bank.states) (outputs : single.outputs ≡ bank.outputs) where
    same_states : (h : List Change) → states_after single h ≡ joined (bank_states_after single bank h)
    same_states h =
        ap (λ gs. map (state_after single h) (named_from (length single.pins) gs)) groups
        ∙ sym (joined_states (state_after single h) (length single.pins) bank.states)

    same_output : (h : List Change) → output_after single h ≡ bank_output_after single bank h
    same_output h =
        let inputs : List Trit = inputs_after (inputs_of single) h in
        ap (λ gs. output_value single.pins gs inputs (states_after single h)) groups
        ∙ ap (λ ts. output_value single.pins (joined bank.states) inputs ts) (same_states h)

    same_outputs : (h : List Change)
        → map (output_after single h) single.outputs ≡ map (bank_output_after single bank h) bank.outputs
    same_outputs h = ap (map (output_after single h)) outputs ∙ ap (λ value. map value bank.outputs) (same_output h)

    same_delay : (h : List Change) → delay_after single h ≡ bank_delay_after single bank h
    same_delay [] = refl
    same_delay (c ∷ h) =
        let inputs : List Trit = inputs_after (inputs_of single) (c ∷ h) in
        λ i output. delay_at single.pins single.arcs inputs c output (same_output h i output) (same_output (c ∷ h) i output)

    same_line : (h : List Change) → cell_line single h ≡ bank_line single bank h
    same_line h =
        let delays : map (delay_after single h) single.outputs ≡ map (bank_delay_after single bank h) bank.outputs =
        ap (map (delay_after single h)) outputs ∙ ap (λ delay. map delay bank.outputs) (same_delay h) in
        let values = same_outputs h in
        λ i. record { values = values i; delays = delays i; reports = reports_of single h }

    pub runs_as : RunsAs single bank
    runs_as = record {
      states = same_states;
      outputs = same_outputs;
      traces = λ changes. ap (λ line. trace line changes) (λ i h. same_line h i);
    }

pub machines_are : BankMachineIsExpandedCell
machines_are types cell unit earlier name number h accepted =
    let group : Group = expanded types cell in
    let same : IsBankCell types cell =
    is_bank_cell types cell h (accepted_meets_none_here (subject_of unit group) earlier group accepted) in
    runs_as (bank_cell types cell) (cell_data unit name number group) same.states same.outputs
