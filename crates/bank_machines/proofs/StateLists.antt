-- The states of an expanded cell are those that its statements make.
use Rattle.std.proofs.Common.{◌≡◌, ℕ, ◌+◌, ◌≤◌, Bool, true, false, ◌||◌, List, [], ◌∷◌, ◌++◌, length, map, filter, Option, None}
use Rattle.std.proofs.Common.{Some, IsTrue, if◌then◌else◌, refl, sym, ap, subst, ◌∙◌, arith, inl, inr, codes, append-nil}
use Rattle.std.specs.Prelude.{flat_map, bytes_eq}
use Rattle.std.specs.List.{cons_option, list_any, AllByRecursion}
use Rattle.std.proofs.lemmas.Bool.{and_parts, or_cases, or_parts}
use Rattle.std.proofs.lemmas.Grind.{flat_map-append}
use Rattle.std.proofs.lemmas.List.Elements.{filter-append, filter_map-append}
use Rattle.liberty_groups.specs.declared.tree.Item.{Item, out-Item}
use Rattle.liberty_groups.specs.declared.tree.Item.TheOpen.{Item-F, Group-F}
use Rattle.liberty_groups.specs.declared.tree.Item.TheOpen as layer
use Rattle.liberty_groups.specs.declared.tree.Item.TheVariants as made
use Rattle.liberty_groups.specs.declared.tree.Item.TheViews.{outs-Simple, outs-Complex, outs-Inner, out-roll-Group}
use Rattle.liberty_groups.specs.declared.tree.Group.{Group}
use Rattle.cell_machine.specs.declared.groups.StateGroup.{StateGroup}
use Rattle.cell_machine.specs.declared.pins.Pin.{Pin}
use Rattle.cell_machine.specs.CellRules.{is_group, are_groups_from}
use Rattle.cell_attributes.specs.declared.state_readings.StateReading.{StateReading}
use Rattle.cell_attributes.specs.Groups.{inner_of, inner_groups, is_state}
use Rattle.cell_attributes.specs.TextFaults.{malformed_in, unknown_in, coupled_in}
use Rattle.cell_attributes.specs.Vocabulary.{Vocabulary}
use Rattle.cell_attributes.specs.StateReadings.{state_reading}
use Rattle.cell_attributes.specs.Building.{groups_in, groups_from}
use Rattle.cell_attributes.proofs.Distinct.{nil_parts}
use Rattle.cell_attributes.proofs.GroupRules.{IsSoundReading, sound_reading}
use Rattle.bus_texts.specs.declared.bus_types.BusType.{BusType}
use Rattle.bus_texts.specs.declared.vectors.Vector.{Vector}
use Rattle.bus_texts.specs.Vectors.{Bank, is_called, is_bank, bank_of, pin_vectors, positions}
use Rattle.bank_cells.specs.Members.{member_items}
use Rattle.bank_cells.specs.Refusals.{is_pins, is_many_item, is_many_as, along, state_faults, bank_faults}
use Rattle.bank_cells.specs.Refusals.{width_faults_of, width_faults_as, width_faults_in}
use Rattle.bank_cells.specs.Expanded.{text_value, pin_item, member_pin, member_pins, vector_pins}
use Rattle.bank_cells.specs.Expanded.{bank_state, bank_item, bank_items, single_pin, single_group, expanded_group}
use Rattle.bank_cells.specs.Expanded.{expanded_as, expanded_item}
use Rattle.bank_machines.specs.BankTexts.{CellNames}
use Rattle.bank_machines.specs.BankStates.{state_at, states_along, states_of_group, states_as, states_made}
use Rattle.bank_machines.specs.BankMachine.{joined}
use Rattle.bank_machines.proofs.Lists.{all_split}
use Rattle.bank_machines.proofs.TextLemmas.{Spells}
use Rattle.bank_machines.proofs.MovedTexts.{made_of, cell_names}
use Rattle.bank_machines.proofs.Supports.{Fits}
use Rattle.bank_machines.proofs.StateLemmas.{bank_shape, IsStateOf, is_name, state_is}

-- the state groups among statements
abbrev pub single_states : List Item → List Group
single_states items = filter is_state (inner_groups items)

pub states_append : (xs ys : List Item) → single_states (xs ++ ys) ≡ single_states xs ++ single_states ys
states_append xs ys =
    ap (filter is_state) (filter_map-append (λ item. inner_of (out-Item item)) xs ys)
    ∙ filter-append is_state (inner_groups xs) (inner_groups ys)

abbrev pub kept : Group → List Group
kept group = if is_state group then group ∷ [] else []

kept_cons : (group : Group) (groups : List Group) → filter is_state (group ∷ groups) ≡ kept group ++ filter is_state groups
kept_cons group groups = by (is_state group) refl
  where
    by : (b : Bool) → is_state group ≡ b → filter is_state (group ∷ groups) ≡ kept group ++ filter is_state groups
    by true e = rw e refl
    by false e = rw e refl

pub inner_cons : (group : Group) (items : List Item)
    → single_states (made.Inner group ∷ items) ≡ kept group ++ single_states items
inner_cons group items =
    ap (λ one. filter is_state (cons_option (inner_of one) (inner_groups items))) (outs-Inner group)
    ∙ kept_cons group (inner_groups items)

-- what the names of groups tell
abbrev pub state_word : List ℕ → Bool
state_word name = bytes_eq name (codes "ff") || (bytes_eq name (codes "latch") || bytes_eq name (codes "statetable"))

abbrev bank_word : List ℕ → Bool
bank_word name = bytes_eq name (codes "ff_bank") || bytes_eq name (codes "latch_bank")

pins_apart : (group : Group) → is_pins group ≡ true → (is_bank group ≡ false) × (is_state group ≡ false)
pins_apart group h =
    elim (or_cases (is_called (codes "bus") group) (is_called (codes "bundle") group) h) [
      | inl e ↦ let named = is_name (codes "bus") group e in (ap bank_word named, ap state_word named)
      | inr e ↦ let named = is_name (codes "bundle") group e in (ap bank_word named, ap state_word named)
    ]

pub pin_apart : (group : Group) → is_called (codes "pin") group ≡ true → is_state group ≡ false
pin_apart group e = ap state_word (is_name (codes "pin") group e)

-- a pin holds no state
member_apart : (vectors : List Vector) (group : Group) (vector : Vector) (at : ℕ) (member : List ℕ)
    → is_state (member_pin vectors group vector at member) ≡ false
member_apart vectors group vector at member =
    ap (λ (one : Group-F Item Group). state_word one.name)
    (out-roll-Group (record {
      name = codes "pin";
      arguments = text_value member;
      items = map (pin_item vectors (Some at)) (member_items group vector at member);
      at = group.at;
    }))

no_states_along : (vectors : List Vector) (group : Group) (vector : Vector) (at : ℕ) (members : List (List ℕ))
    → single_states (along (member_pins vectors group vector) at members) ≡ []
no_states_along vectors group vector at [] = refl
no_states_along vectors group vector at (member ∷ members) =
    let rest : List Item = along (member_pins vectors group vector) (at + 1) members in
    inner_cons (member_pin vectors group vector at member) rest
    ∙ (ap (λ b. (if b then member_pin vectors group vector at member ∷ [] else []) ++ single_states rest)
    (member_apart vectors group vector at member)
    ∙ no_states_along vectors group vector (at + 1) members)

no_states : (vectors : List Vector) (group : Group) (many : List Vector)
    → single_states (flat_map (vector_pins vectors group) many) ≡ []
no_states vectors group [] = refl
no_states vectors group (vector ∷ many) =
    states_append (vector_pins vectors group vector) (flat_map (vector_pins vectors group) many)
    ∙ (ap (λ gs. gs ++ single_states (flat_map (vector_pins vectors group) many))
    (no_states_along vectors group vector 0 vector.members)
    ∙ no_states vectors group many)

-- the expanded group of a bank
bank_state_is : (vectors : List Vector) (group : Group) (bank : Bank) (at : ℕ)
    → IsStateOf vectors bank group at (bank_state vectors group bank at)
bank_state_is vectors group bank at =
    let e = out-roll-Group (bank_shape vectors group bank at) in
    record {
      named = ap (λ (one : Group-F Item Group). one.name) e;
      two = ap (λ (one : Group-F Item Group). one.arguments) e;
      statements = ap (λ (one : Group-F Item Group). one.items) e;
    }

state_named : (b : Bool) → state_word (if b then codes "ff" else codes "latch") ≡ true
state_named true = refl
state_named false = refl

bank_state_holds : (vectors : List Vector) (group : Group) (bank : Bank) (at : ℕ)
    → is_state (bank_state vectors group bank at) ≡ true
bank_state_holds vectors group bank at = ap state_word (bank_state_is vectors group bank at).named
    ∙ state_named (is_called (codes "ff_bank") group)

module _ (types : List BusType) (vectors : List Vector) (v : Vocabulary) (numbers : List ℕ) (pins : List Pin)
    (spell : AllByRecursion Spells vectors) where
  abbrev names : CellNames
  names = cell_names vectors v numbers

  abbrev pub read_state : Group → StateReading
  read_state group = state_reading v (length pins) group

  abbrev pub groups_read : Group → List StateGroup
  groups_read group = groups_in numbers group (read_state group)

  abbrev pub Sound : Group → Type 0
  Sound group = IsSoundReading (read_state group)

  -- a bank at some positions
  along_bank :
      (group : Group) (bank : Bank) → is_bank group ≡ true → (ps : List ℕ) → flat_map (state_faults vectors group) ps ≡ []
      → AllByRecursion Sound (single_states (map (bank_item vectors group bank) ps))
      → AllByRecursion (Fits pins) (flat_map groups_read (single_states (map (bank_item vectors group bank) ps)))
      → map (state_at names (length pins) group) ps ≡ flat_map groups_read (single_states (map (bank_item vectors group bank) ps))
  along_bank group bank many [] faults sound fits = refl
  along_bank group bank many (p ∷ ps) faults sound fits =
      let single : Group = bank_state vectors group bank p in
      let rest : List Group = single_states (map (bank_item vectors group bank) ps) in
      let first : single_states (map (bank_item vectors group bank) (p ∷ ps)) ≡ single ∷ rest =
      inner_cons single (map (bank_item vectors group bank) ps)
      ∙ ap (λ b. (if b then single ∷ [] else []) ++ rest) (bank_state_holds vectors group bank p) in
      let unfaulted = nil_parts (state_faults vectors group p) (flat_map (state_faults vectors group) ps) faults in
      let sounds = subst (λ gs. AllByRecursion Sound gs) first sound in
      let fit =
      all_split (Fits pins) (groups_read single) (flat_map groups_read rest)
      (subst (λ gs. AllByRecursion (Fits pins) (flat_map groups_read gs)) first fits) in
      let here : groups_read single ≡ state_at names (length pins) group p ∷ [] =
      state_is vectors v numbers pins spell bank group single p (bank_state_is vectors group bank p) unfaulted.0 many sounds.0
      fit.0 in
      ap (λ gs. state_at names (length pins) group p ∷ gs) (along_bank group bank many ps unfaulted.1 sounds.1 fit.1)
      ∙ (ap (λ gs. gs ++ flat_map groups_read rest) (sym here) ∙ sym (ap (flat_map groups_read) first))

  by_bank :
      (group : Group) → is_bank group ≡ true → (bank : Option Bank) → bank_faults vectors group bank ≡ []
      → AllByRecursion Sound (single_states (bank_items vectors group bank))
      → AllByRecursion (Fits pins) (flat_map groups_read (single_states (bank_items vectors group bank)))
      → states_along names (length pins) group bank ≡ flat_map groups_read (single_states (bank_items vectors group bank))
  by_bank group many None faults sound fits = refl
  by_bank group many (Some bank) faults sound fits = along_bank group bank many (positions bank.width) faults sound fits

  -- a plain group
  plain_made : (group : Group) → (if is_state group then groups_read group else []) ≡ flat_map groups_read (kept group)
  plain_made group = by (is_state group) refl
    where
      by : (b : Bool) → is_state group ≡ b
          → (if is_state group then groups_read group else []) ≡ flat_map groups_read (kept group)
      by true e = rw e (sym (append-nil (groups_read group)))
      by false e = rw e refl

  by_plain : (group : Group) (b : Bool) → is_called (codes "pin") group ≡ b
      → (if is_state group then groups_read group else [])
      ≡ flat_map groups_read (single_states (made.Inner (if b then single_pin vectors group else group) ∷ []))
  by_plain group true e =
      let single : Group = single_pin vectors group in
      let name : single.name ≡ group.name =
      ap (λ (one : Group-F Item Group). one.name)
      (out-roll-Group (made_of group (map (pin_item vectors None) group.items))) in
      let apart : is_state group ≡ false = pin_apart group e in
      let single_apart : is_state single ≡ false = ap state_word name ∙ apart in
      ap (λ b. if b then groups_read group else []) apart
      ∙ sym (ap (flat_map groups_read) (inner_cons single [] ∙ ap (λ b. (if b then single ∷ [] else []) ++ []) single_apart))
  by_plain group false e =
      plain_made group ∙ sym (ap (flat_map groups_read) (inner_cons group [] ∙ append-nil (kept group)))

  abbrev group_items : Group → List Item
  group_items group = expanded_group types vectors group

  abbrev WantsGroup : Group → Type 0
  WantsGroup group =
      width_faults_of types vectors group ≡ [] → AllByRecursion Sound (single_states (group_items group))
      → AllByRecursion (Fits pins) (flat_map groups_read (single_states (group_items group)))
      → states_of_group names v (length pins) group ≡ flat_map groups_read (single_states (group_items group))

  group_states : (group : Group) → WantsGroup group
  group_states group = by (is_pins group) (is_bank group) refl refl
    where
      by : (many bank : Bool) → is_pins group ≡ many → is_bank group ≡ bank → WantsGroup group
      by true bank e f faults sound fits =
          let apart = pins_apart group e in
          let items : group_items group ≡ flat_map (vector_pins vectors group) (pin_vectors types group) = rw e refl in
          let made_none : states_of_group names v (length pins) group ≡ [] = rw (apart.0, apart.1) refl in
          made_none ∙ sym (ap (λ xs. flat_map groups_read (single_states xs)) items
          ∙ ap (flat_map groups_read) (no_states vectors group (pin_vectors types group)))
      by false true e f faults sound fits =
          let items : group_items group ≡ bank_items vectors group (bank_of group) = rw (e, f) refl in
          let faulted : width_faults_of types vectors group ≡ bank_faults vectors group (bank_of group) = rw (e, f) refl in
          let made_all : states_of_group names v (length pins) group ≡ states_along names (length pins) group (bank_of group) =
          rw f refl in
          made_all
          ∙ (by_bank group f (bank_of group) (sym faulted ∙ faults)
          (subst (λ xs. AllByRecursion Sound (single_states xs)) items sound)
          (subst (λ xs. AllByRecursion (Fits pins) (flat_map groups_read (single_states xs))) items fits)
          ∙ sym (ap (λ xs. flat_map groups_read (single_states xs)) items))
      by false false e f faults sound fits =
          let items : group_items group ≡ single_group vectors group = rw (e, f) refl in
          let made_all : states_of_group names v (length pins) group ≡ (if is_state group then groups_read group else []) =
          rw f refl in
          made_all
          ∙ (by_plain group (is_called (codes "pin") group) refl ∙ sym (ap (λ xs. flat_map groups_read (single_states xs)) items))

  abbrev item_items : Item-F Item Group → List Item
  item_items one = expanded_as types vectors one

  by_layer : (one : Item-F Item Group) → width_faults_as types vectors one ≡ []
      → AllByRecursion Sound (single_states (item_items one))
      → AllByRecursion (Fits pins) (flat_map groups_read (single_states (item_items one)))
      → states_as names v (length pins) one ≡ flat_map groups_read (single_states (item_items one))
  by_layer (layer.Simple name value at) faults sound fits =
      sym (ap (λ one. flat_map groups_read (filter is_state (cons_option (inner_of one) []))) (outs-Simple name value at))
  by_layer (layer.Complex name arguments at) faults sound fits =
      sym (ap (λ one. flat_map groups_read (filter is_state (cons_option (inner_of one) []))) (outs-Complex name arguments at))
  by_layer (layer.Inner group) faults sound fits = group_states group faults sound fits

  -- all statements of the cell
  pub states_are :
      (items : List Item) → flat_map (width_faults_in types vectors) items ≡ []
      → AllByRecursion Sound (single_states (flat_map (expanded_item types vectors) items))
      → AllByRecursion (Fits pins) (flat_map groups_read (single_states (flat_map (expanded_item types vectors) items)))
      → joined (map (states_made names v (length pins)) items) ≡ flat_map groups_read
      (single_states (flat_map (expanded_item types vectors) items))
  states_are [] faults sound fits = refl
  states_are (item ∷ items) faults sound fits =
      let here : List Item = expanded_item types vectors item in
      let later : List Item = flat_map (expanded_item types vectors) items in
      let split : single_states (here ++ later) ≡ single_states here ++ single_states later = states_append here later in
      let unfaulted = nil_parts (width_faults_in types vectors item) (flat_map (width_faults_in types vectors) items) faults in
      let sounds = all_split Sound (single_states here) (single_states later) (subst (λ gs. AllByRecursion Sound gs) split sound)
      in
      let parts : flat_map groups_read (single_states (here ++ later)) ≡ flat_map groups_read (single_states here)
      ++ flat_map groups_read (single_states later) =
      ap (flat_map groups_read) split ∙ flat_map-append groups_read (single_states here) (single_states later) in
      let fit =
      all_split (Fits pins) (flat_map groups_read (single_states here)) (flat_map groups_read (single_states later))
      (subst (λ gs. AllByRecursion (Fits pins) gs) parts fits) in
      ap (λ gs. gs ++ joined (map (states_made names v (length pins)) items))
      (by_layer (out-Item item) unfaulted.0 sounds.0 fit.0)
      ∙ (ap (λ gs. flat_map groups_read (single_states here) ++ gs) (states_are items unfaulted.1 sounds.1 fit.1) ∙ sym parts)

  -- a cell that has no such groups
  plain_layer : (item : Item) (one : Item-F Item Group) → out-Item item ≡ one → is_many_as one ≡ false
      → states_as names v (length pins) one ≡ flat_map groups_read (single_states (item ∷ []))
  plain_layer item (layer.Simple name value at) e h =
      sym (ap (λ o. flat_map groups_read (filter is_state (cons_option (inner_of o) []))) e)
  plain_layer item (layer.Complex name arguments at) e h =
      sym (ap (λ o. flat_map groups_read (filter is_state (cons_option (inner_of o) []))) e)
  plain_layer item (layer.Inner group) e h =
      let single : is_bank group ≡ false = (or_parts (is_pins group) (is_bank group) h).1 in
      ap (λ b. if b then states_along names (length pins) group (bank_of group)
      else (if is_state group then groups_read group else [])) single
      ∙ (plain_made group
      ∙ sym (ap (λ o. flat_map groups_read (filter is_state (cons_option (inner_of o) []))) e
      ∙ ap (flat_map groups_read) (kept_cons group [] ∙ append-nil (kept group))))

  pub plain_states_are :
      (items : List Item) → list_any is_many_item items ≡ false
      → joined (map (states_made names v (length pins)) items) ≡ flat_map groups_read (single_states items)
  plain_states_are [] h = refl
  plain_states_are (item ∷ items) h =
      let apart = or_parts (is_many_item item) (list_any is_many_item items) h in
      ap (λ gs. gs ++ joined (map (states_made names v (length pins)) items)) (plain_layer item (out-Item item) refl apart.0)
      ∙ (ap (λ gs. flat_map groups_read (single_states (item ∷ [])) ++ gs) (plain_states_are items apart.1)
      ∙ sym (ap (flat_map groups_read) (states_append (item ∷ []) items)
      ∙ flat_map-append groups_read (single_states (item ∷ [])) (single_states items)))

  -- what an accepted cell says of its states
  pub all_sound :
      (groups : List Group) → flat_map malformed_in (map read_state groups) ≡ []
      → flat_map unknown_in (map read_state groups) ≡ []
      → flat_map coupled_in (map read_state groups) ≡ [] → AllByRecursion Sound groups
  all_sound [] a b c = tt
  all_sound (group ∷ groups) a b c =
      let pa = nil_parts (malformed_in (read_state group)) (flat_map malformed_in (map read_state groups)) a in
      let pb = nil_parts (unknown_in (read_state group)) (flat_map unknown_in (map read_state groups)) b in
      let pc = nil_parts (coupled_in (read_state group)) (flat_map coupled_in (map read_state groups)) c in
      (sound_reading (read_state group) pa.0 pb.0 pc.0, all_sound groups pa.1 pb.1 pc.1)

  pub groups_are : (groups : List Group) → groups_from numbers groups (map read_state groups) ≡ flat_map groups_read groups
  groups_are [] = refl
  groups_are (group ∷ groups) = ap (λ gs. groups_read group ++ gs) (groups_are groups)

pub all_fit : (pins : List Pin) (number : ℕ) (groups : List StateGroup) → length pins ≤ number
    → IsTrue (are_groups_from pins number groups) → AllByRecursion (Fits pins) groups
all_fit pins number [] behind h = tt
all_fit pins number (group ∷ groups) behind h =
    let parts = and_parts (is_group pins number group) (are_groups_from pins (number + 2) groups) h in (
      record { number = number; behind = behind; rules = parts.0 },
      all_fit pins (number + 2) groups
          (omega (arith, behind)) parts.1,
    )
