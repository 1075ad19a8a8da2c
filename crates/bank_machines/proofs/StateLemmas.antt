-- The state that the expanded group of a bank at a position holds is that of the bank there.
use Rattle.std.proofs.Common.{◌≡◌, ℕ, Bool, true, false, ◌||◌, List, [], ◌∷◌, length, map, Option, None, Some, if◌then◌else◌}
use Rattle.std.proofs.Common.{refl, sym, ap, subst, ◌∙◌, inl, inr, codes, unwrap_or}
use Rattle.std.specs.Prelude.{flat_map, bytes_eq}
use Rattle.std.specs.Option.{option_map}
use Rattle.std.specs.List.{AllByRecursion}
use Rattle.std.proofs.lemmas.Bool.{or_cases}
use Rattle.std.proofs.lemmas.Slice.Eq.{bytes_eq-Decides}
use Rattle.liberty_groups.specs.declared.tree.Item.{Item}
use Rattle.liberty_groups.specs.declared.tree.Item.TheOpen.{Group-F}
use Rattle.liberty_groups.specs.declared.tree.Group.{Group}
use Rattle.liberty_groups.specs.Attributes.{attributes_named, last_or, attribute_of}
use Rattle.bool_functions.specs.declared.tree.Node.{Node}
use Rattle.bool_functions.specs.declared.tree.Node.TheVariants as tree
use Rattle.cell_machine.specs.declared.groups.Both.TheVariants as both
use Rattle.cell_machine.specs.declared.groups.GroupKind.{GroupKind}
use Rattle.cell_machine.specs.declared.groups.GroupKind.TheVariants as kind
use Rattle.cell_machine.specs.declared.groups.StateGroup.{StateGroup}
use Rattle.cell_machine.specs.declared.pins.Pin.{Pin}
use Rattle.cell_attributes.specs.declared.texts.Scope.{Scope}
use Rattle.cell_attributes.specs.declared.texts.Scope.TheVariants as scope
use Rattle.cell_attributes.specs.declared.texts.Text.{Text}
use Rattle.cell_attributes.specs.declared.state_readings.StateReading.{StateReading}
use Rattle.cell_attributes.specs.States.{Arguments, two_of, arguments_of, is_table, both_named, both_with, unless_kept}
use Rattle.cell_attributes.specs.States.{first_both, second_both}
use Rattle.cell_attributes.specs.Vocabulary.{Vocabulary}
use Rattle.cell_attributes.specs.Texts.{text_as}
use Rattle.cell_attributes.specs.StateReadings.{is_ff, own_scope, reading_of_texts, reading_of_table, state_reading}
use Rattle.cell_attributes.specs.Building.{function_in, clocked, gated, kind_of_texts, table_groups, groups_with, groups_in}
use Rattle.cell_attributes.proofs.Distinct.{nil_parts}
use Rattle.cell_attributes.proofs.GroupRules.{IsSoundReading}
use Rattle.cell_attributes.proofs.TextNames.{IsSound}
use Rattle.bus_texts.specs.declared.vectors.Vector.{Vector}
use Rattle.bus_texts.specs.Vectors.{Bank, is_called, is_bank, member_name}
use Rattle.bank_cells.specs.Faults.{ff_texts, latch_texts, fault_named}
use Rattle.bank_cells.specs.Refusals.{state_texts, state_faults}
use Rattle.bank_cells.specs.Expanded.{is_one_of, text_at, state_name, variables_at}
use Rattle.bank_machines.specs.BankTexts.{CellNames, function_if}
use Rattle.bank_machines.specs.BankStates.{clocked_at, gated_at, kind_at, state_of_kind, state_at}
use Rattle.bank_machines.proofs.TextLemmas.{Spells}
use Rattle.bank_machines.proofs.MovedTexts.{moved, text_moved, other_kept, cell_names, text_is}
use Rattle.bank_machines.proofs.Supports.{Fits, group_is}

-- the expanded group of a bank at a position
abbrev pub bank_shape : List Vector → Group → Bank → ℕ → Group-F Item Group
bank_shape vectors group bank at = record {
  name = state_name group;
  arguments = variables_at bank at;
  items = map (text_at vectors (Some at) (state_texts group)) group.items;
  at = group.at;
}

pub record IsStateOf (vectors : List Vector) (bank : Bank) (group : Group) (at : ℕ) (single : Group) : Type 0 where
  pub named : single.name ≡ state_name group
  pub two : single.arguments ≡ variables_at bank at
  pub statements : single.items ≡ map (text_at vectors (Some at) (state_texts group)) group.items

-- the names of the texts of a flip-flop or latch
abbrev data_named : Bool → List ℕ
data_named ff = if ff then codes "next_state" else codes "data_in"

abbrev control_named : Bool → List ℕ
control_named ff = if ff then codes "clocked_on" else codes "enable"

abbrev texts_named : Bool → List (List ℕ)
texts_named ff = data_named ff ∷ control_named ff ∷ codes "clear" ∷ codes "preset" ∷ []

names_known : (ff : Bool) → (is_one_of (texts_named ff) (data_named ff) ≡ true)
    × (is_one_of (texts_named ff) (control_named ff) ≡ true)
    × (is_one_of (texts_named ff) (codes "clear") ≡ true) × (is_one_of (texts_named ff) (codes "preset") ≡ true)
    × (is_one_of (texts_named ff) (codes "clear_preset_var1") ≡ false)
    × (is_one_of (texts_named ff) (codes "clear_preset_var2") ≡ false)
names_known true = (refl, refl, refl, refl, refl, refl)
names_known false = (refl, refl, refl, refl, refl, refl)

pub is_name : (name : List ℕ) (group : Group) → is_called name group ≡ true → group.name ≡ name
is_name name group e = (bytes_eq-Decides group.name name).0 e

module _
    (vectors : List Vector) (v : Vocabulary) (numbers : List ℕ) (pins : List Pin) (spell : AllByRecursion Spells vectors)
    (bank : Bank) (group single : Group) (at : ℕ) (is : IsStateOf vectors bank group at single) where
  abbrev cell : CellNames
  cell = cell_names vectors v numbers

  abbrev reading : StateReading
  reading = reading_of_texts v (length pins) single

  text_attribute : (name : List ℕ) → is_one_of (state_texts group) name ≡ true
      → attribute_of single name ≡ option_map (moved vectors (Some at)) (attribute_of group name)
  text_attribute name h =
      ap (λ (items : List Item). last_or None (attributes_named name items)) is.statements
      ∙ text_moved vectors (Some at) (state_texts group) name group.items h

  other_attribute : (name : List ℕ) → is_one_of (state_texts group) name ≡ false
      → attribute_of single name ≡ attribute_of group name
  other_attribute name h =
      ap (λ (items : List Item). last_or None (attributes_named name items)) is.statements
      ∙ other_kept vectors (Some at) (state_texts group) name group.items h

  -- the function of a text of the bank
  text_function :
      (s : Scope) (name : List ℕ) (t : Text) → t ≡ text_as v s (attribute_of single name)
      → is_one_of (state_texts group) name ≡ true
      → fault_named vectors (Some at) group.items name ≡ [] → IsSound t
      → function_in numbers t ≡ function_if cell at (attribute_of group name)
  text_function s name t e h fault sound =
      let same : t ≡ text_as v s (option_map (moved vectors (Some at)) (attribute_of group name)) =
      e ∙ ap (text_as v s) (text_attribute name h) in
      ap (function_in numbers) same ∙ text_is vectors v numbers at spell s (attribute_of group name) fault
      (subst (λ w. IsSound w) same sound)

  abbrev arguments : Arguments
  arguments = record { first = member_name bank.first at; second = member_name bank.second at }

  two_arguments : arguments_of single ≡ Some arguments
  two_arguments = ap two_of is.two

  abbrev state_with : GroupKind → StateGroup
  state_with k = record { kind = k; support = reading.support }

  one_group : is_table single ≡ false → groups_in numbers single reading ≡ state_with (kind_of_texts numbers single reading) ∷ []
  one_group table =
      ap (groups_with numbers single reading) two_arguments
      ∙ ap (λ b. if b then table_groups reading arguments else state_with (kind_of_texts numbers single reading) ∷ [])
      table

  read_texts : is_table single ≡ false → state_reading v (length pins) single ≡ reading
  read_texts table = ap (λ b. if b then reading_of_table v (length pins) single else reading) table

  -- a state of this kind
  state_of : (k : GroupKind) → groups_in numbers single reading ≡ state_with k ∷ [] → k ≡ kind_at cell group at
      → AllByRecursion (Fits pins) (groups_in numbers single reading)
      → groups_in numbers single reading ≡ state_at cell (length pins) group at ∷ []
  state_of k e same fits =
      let one : Fits pins (state_with k) = (subst (λ gs. AllByRecursion (Fits pins) gs) e fits).0 in
      e ∙ ap (λ (g : StateGroup). g ∷ []) (group_is pins (state_with k) one ∙ ap (state_of_kind (length pins)) same)

  or_first : (o p : Option Node) → o ≡ p → unwrap_or o (tree.Name 0) ≡ unwrap_or p (tree.Name 0)
  or_first o p e = ap (λ f. unwrap_or f (tree.Name 0)) e

  first_same : is_one_of (state_texts group) (codes "clear_preset_var1") ≡ false
      → unwrap_or (first_both single) both.Unknown ≡ unwrap_or (first_both group) both.Unknown
  first_same h = ap (λ o. unwrap_or (both_with both_named o) both.Unknown) (other_attribute (codes "clear_preset_var1") h)

  second_same : is_one_of (state_texts group) (codes "clear_preset_var2") ≡ false
      → unwrap_or (second_both single) both.Unknown ≡ unwrap_or (second_both group) both.Unknown
  second_same h =
      ap (λ o. unwrap_or (both_with (λ text. unless_kept (both_named text)) o) both.Unknown)
      (other_attribute (codes "clear_preset_var2") h)

  module _ (faults : state_faults vectors group at ≡ []) where
    abbrev fault_of : List ℕ → List ℕ
    fault_of name = fault_named vectors (Some at) group.items name

    -- what is read of the texts is read of those of the bank
    abbrev SameTexts : Bool → Type 0
    SameTexts ff =
        (function_in numbers reading.data_text ≡ function_if cell at (attribute_of group (data_named ff)))
        × (function_in numbers reading.control ≡ function_if cell at (attribute_of group (control_named ff)))
        × (function_in numbers reading.clear ≡ function_if cell at (attribute_of group (codes "clear")))
        × (function_in numbers reading.preset ≡ function_if cell at (attribute_of group (codes "preset")))
        × (unwrap_or (first_both single) both.Unknown ≡ unwrap_or (first_both group) both.Unknown)
        × (unwrap_or (second_both single) both.Unknown ≡ unwrap_or (second_both group) both.Unknown)

    texts_same : (b : Bool) → is_ff single ≡ b → state_texts group ≡ texts_named b → IsSoundReading reading → SameTexts b
    texts_same b ff texts sound =
        let parts : flat_map fault_of (texts_named b) ≡ [] = sym (ap (flat_map fault_of) texts) ∙ faults in
        let one = nil_parts (fault_of (data_named b)) _ parts in
        let two = nil_parts (fault_of (control_named b)) _ one.1 in
        let three = nil_parts (fault_of (codes "clear")) _ two.1 in
        let four = nil_parts (fault_of (codes "preset")) _ three.1 in
        let named = names_known b in
        let among : (name : List ℕ) (is : Bool) → is_one_of (texts_named b) name ≡ is → is_one_of (state_texts group) name ≡ is =
        λ name is e. ap (λ names. is_one_of names name) texts ∙ e in
        let data_text =
        text_function (own_scope v (arguments_of single)) (data_named b) reading.data_text
        (ap (λ b. text_as v (own_scope v (arguments_of single)) (attribute_of single (data_named b))) ff)
        (among (data_named b) true named.0) one.0 sound.of_data in
        let control_text =
        text_function scope.Control (control_named b) reading.control
        (ap (λ b. text_as v scope.Control (attribute_of single (control_named b))) ff)
        (among (control_named b) true named.1) two.0 sound.of_control in
        let clear_text = text_function scope.Control (codes "clear") reading.clear refl (among (codes "clear") true named.2)
        three.0 sound.of_clear in
        let preset_text = text_function scope.Control (codes "preset") reading.preset refl (among (codes "preset") true named.3)
        four.0 sound.of_preset in (
          data_text,
          control_text,
          clear_text,
          preset_text,
          first_same (among (codes "clear_preset_var1") false named.4),
          second_same (among (codes "clear_preset_var2") false named.5),
        )

    clocked_same :
        is_ff single ≡ true → state_texts group ≡ ff_texts → IsSoundReading reading
        → clocked numbers single reading ≡ clocked_at cell group at
    clocked_same ff texts sound =
        let same = texts_same true ff texts sound in
        let next = or_first (function_in numbers reading.data_text)
        (function_if cell at (attribute_of group (codes "next_state"))) same.0 in
        let clock = or_first (function_in numbers reading.control) (function_if cell at (attribute_of group (codes "clocked_on")))
        same.1 in
        λ i. record {
          next_state = next i;
          clocked_on = clock i;
          clear = same.2 i;
          preset = same.3 i;
          both1 = same.4 i;
          both2 = same.5 i;
        }

    gated_same :
        is_ff single ≡ false → state_texts group ≡ latch_texts → IsSoundReading reading
        → gated numbers single reading ≡ gated_at cell group at
    gated_same ff texts sound =
        let same = texts_same false ff texts sound in
        λ i. record {
          data_in = same.0 i;
          enable = same.1 i;
          clear = same.2 i;
          preset = same.3 i;
          both1 = same.4 i;
          both2 = same.5 i;
        }

    abbrev is_state : Type 0
    is_state = groups_in numbers single (state_reading v (length pins) single) ≡ state_at cell (length pins) group at ∷ []

    of_kind :
        (k : GroupKind) → is_table single ≡ false → kind_of_texts numbers single reading ≡ k
        → (state_reading v (length pins) single ≡ reading → k ≡ kind_at cell group at)
        → AllByRecursion (Fits pins) (groups_in numbers single (state_reading v (length pins) single)) → is_state
    of_kind k table kinds wanted fits =
        let same : state_reading v (length pins) single ≡ reading = read_texts table in
        ap (groups_in numbers single) same
        ∙ state_of k (one_group table ∙ ap (λ k. state_with k ∷ []) kinds) (wanted same)
        (subst (λ r. AllByRecursion (Fits pins) (groups_in numbers single r)) same fits)

    -- the kind of its texts, where it holds flip-flops or not
    abbrev texts_kind : Bool → GroupKind
    texts_kind b = if b then kind.Ff (clocked numbers single reading) else kind.Latch (gated numbers single reading)

    abbrev its_kind : Bool → GroupKind
    its_kind b = if b then kind.Ff (clocked_at cell group at) else kind.Latch (gated_at cell group at)

    named_texts : (name : List ℕ) → group.name ≡ name
        → state_texts group ≡ (if bytes_eq name (codes "ff") || bytes_eq name (codes "ff_bank") then ff_texts else latch_texts)
    named_texts name =
        ap (λ n. if bytes_eq n (codes "ff") || bytes_eq n (codes "ff_bank") then ff_texts else latch_texts)

    single_name : (b : Bool) → is_called (codes "ff_bank") group ≡ b → single.name ≡ (if b then codes "ff" else codes "latch")
    single_name b bank_name = is.named ∙ ap (λ b. if b then codes "ff" else codes "latch") bank_name

    ff_by : (b : Bool) → bytes_eq (if b then codes "ff" else codes "latch") (codes "ff") ≡ b
    ff_by true = refl
    ff_by false = refl

    no_table : (b : Bool) → bytes_eq (if b then codes "ff" else codes "latch") (codes "statetable") ≡ false
    no_table true = refl
    no_table false = refl

    of_bank :
        (b : Bool) → is_called (codes "ff_bank") group ≡ b
        → (is_ff single ≡ b → state_reading v (length pins) single ≡ reading → texts_kind b ≡ its_kind b)
        → AllByRecursion (Fits pins) (groups_in numbers single (state_reading v (length pins) single)) → is_state
    of_bank b bank_name alike =
        let ff : is_ff single ≡ b = ap (λ n. bytes_eq n (codes "ff")) (single_name b bank_name) ∙ ff_by b in
        of_kind (texts_kind b) (ap (λ n. bytes_eq n (codes "statetable")) (single_name b bank_name) ∙ no_table b)
        (ap texts_kind ff) (λ same. alike ff same ∙ sym (ap its_kind bank_name))

    -- the state of a bank's expanded group is that of the bank
    pub state_is :
        is_bank group ≡ true → IsSoundReading (state_reading v (length pins) single)
        → AllByRecursion (Fits pins) (groups_in numbers single (state_reading v (length pins) single))
        → groups_in numbers single (state_reading v (length pins) single) ≡ state_at cell (length pins) group at ∷ []
    state_is many sound fits =
        elim (or_cases (is_called (codes "ff_bank") group) (is_called (codes "latch_bank") group) many) [
          | inl e ↦
              of_bank true e
              (λ ff same. ap kind.Ff (clocked_same ff (named_texts (codes "ff_bank") (is_name (codes "ff_bank") group e))
              (subst (λ r. IsSoundReading r) same sound))) fits
          | inr e ↦
              let named : group.name ≡ codes "latch_bank" = is_name (codes "latch_bank") group e in
              of_bank false (ap (λ name. bytes_eq name (codes "ff_bank")) named)
              (λ ff same. ap kind.Latch (gated_same ff (named_texts (codes "latch_bank") named)
              (subst (λ r. IsSoundReading r) same sound))) fits
        ]
