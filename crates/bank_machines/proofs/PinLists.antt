-- The pins of an expanded cell are those that its statements make.
use Rattle.std.proofs.Common.{◌≡◌, ℕ, ◌+◌, Bool, true, false, not, ◌&&◌, ◌==◌, List, [], ◌∷◌, ◌++◌, length, map, filter, Option}
use Rattle.std.proofs.Common.{None, Some, if◌then◌else◌, refl, sym, ap, subst, ◌∙◌, inl, inr, codes, append-nil}
use Rattle.std.specs.Prelude.{flat_map, bytes_eq}
use Rattle.std.specs.List.{cons_option, list_any, AllByRecursion}
use Rattle.std.proofs.lemmas.Bool.{or_cases, or_parts}
use Rattle.std.proofs.lemmas.Grind.{flat_map-append}
use Rattle.std.proofs.lemmas.List.{map-append}
use Rattle.std.proofs.lemmas.List.Elements.{filter-append, filter_map-append}
use Rattle.liberty_groups.specs.declared.tree.Value.{Value}
use Rattle.liberty_groups.specs.declared.tree.Item.{Item, out-Item}
use Rattle.liberty_groups.specs.declared.tree.Item.TheOpen.{Item-F, Group-F}
use Rattle.liberty_groups.specs.declared.tree.Item.TheOpen as layer
use Rattle.liberty_groups.specs.declared.tree.Item.TheVariants as made
use Rattle.liberty_groups.specs.declared.tree.Item.TheViews.{outs-Simple, outs-Complex, outs-Inner, out-roll-Group}
use Rattle.liberty_groups.specs.declared.tree.Group.{Group, roll-Group}
use Rattle.cell_attributes.specs.Groups.{inner_of, inner_groups, is_pin}
use Rattle.cell_attributes.specs.Pins.{owner_as, owners_in}
use Rattle.cell_attributes.specs.Vocabulary.{Vocabulary}
use Rattle.cell_attributes.specs.Outputs.{pin_text}
use Rattle.cell_attributes.specs.Texts.{malformed_at, unknown_at}
use Rattle.cell_attributes.proofs.Distinct.{nil_parts}
use Rattle.bus_texts.specs.declared.bus_types.BusType.{BusType}
use Rattle.bus_texts.specs.declared.vectors.Vector.{Vector}
use Rattle.bus_texts.specs.Vectors.{Bank, is_called, is_bank, bank_of, pin_vectors, positions}
use Rattle.bank_cells.specs.Members.{member_items}
use Rattle.bank_cells.specs.Faults.{pin_texts, text_faults, timing_faults_in}
use Rattle.bank_cells.specs.Refusals.{is_pins, is_many_as, is_many_item, along, member_faults, vector_faults}
use Rattle.bank_cells.specs.Refusals.{width_faults_of, width_faults_as, width_faults_in}
use Rattle.bank_cells.specs.Expanded.{text_value, pin_item, member_pin, member_pins, vector_pins}
use Rattle.bank_cells.specs.Expanded.{variables_at, bank_state, bank_item, bank_items, single_pin, single_group, expanded_group}
use Rattle.bank_cells.specs.Expanded.{expanded_as, expanded_item}
use Rattle.bank_machines.specs.BankOutputs.{WrittenPin, member_group, pin_of_member, pins_of_vector, scalar_pin, pins_of_group}
use Rattle.bank_machines.specs.BankOutputs.{pins_as, pins_made}
use Rattle.bank_machines.proofs.Lists.{all_join}
use Rattle.bank_machines.proofs.MovedTexts.{made_of}
use Rattle.bank_machines.proofs.StateLemmas.{bank_shape, is_name}
use Rattle.bank_machines.proofs.PinLemmas.{owner_of, Placed, ReadsText}

-- the groups of the pins among statements
abbrev pub owner_list : List Item → List Group
owner_list items = flat_map owners_in (filter is_pin (inner_groups items))

pub owners_append : (xs ys : List Item) → owner_list (xs ++ ys) ≡ owner_list xs ++ owner_list ys
owners_append xs ys =
    ap (λ gs. flat_map owners_in (filter is_pin gs)) (filter_map-append (λ item. inner_of (out-Item item)) xs ys)
    ∙ (ap (flat_map owners_in) (filter-append is_pin (inner_groups xs) (inner_groups ys))
    ∙ flat_map-append owners_in (filter is_pin (inner_groups xs)) (filter is_pin (inner_groups ys)))

abbrev pub owned : Group → List Group
owned group = if is_pin group then owners_in group else []

owned_cons : (group : Group) (groups : List Group)
    → flat_map owners_in (filter is_pin (group ∷ groups)) ≡ owned group ++ flat_map owners_in (filter is_pin groups)
owned_cons group groups = by (is_pin group) refl
  where
    by : (b : Bool) → is_pin group ≡ b
        → flat_map owners_in (filter is_pin (group ∷ groups)) ≡ owned group ++ flat_map owners_in (filter is_pin groups)
    by true e = rw e refl
    by false e = rw e refl

pub inner_cons : (group : Group) (items : List Item) → owner_list (made.Inner group ∷ items) ≡ owned group ++ owner_list items
inner_cons group items =
    ap (λ one. flat_map owners_in (filter is_pin (cons_option (inner_of one) (inner_groups items)))) (outs-Inner group)
    ∙ owned_cons group (inner_groups items)

-- what the names of groups tell
abbrev pub pin_word : List ℕ → List Value → Bool
pin_word name arguments = bytes_eq name (codes "pin") && not (length arguments == 0)

bank_apart : (group : Group) → is_bank group ≡ true → is_pin group ≡ false
bank_apart group h =
    elim (or_cases (is_called (codes "ff_bank") group) (is_called (codes "latch_bank") group) h) [
      | inl e ↦ ap (λ name. pin_word name group.arguments) (is_name (codes "ff_bank") group e)
      | inr e ↦ ap (λ name. pin_word name group.arguments) (is_name (codes "latch_bank") group e)
    ]

-- a bit of a bus or bundle
module _ (vectors : List Vector) (group : Group) (vector : Vector) (at : ℕ) (member : List ℕ) where
  abbrev written : Group-F Item Group
  written = record {
    name = codes "pin";
    arguments = text_value member;
    items = member_items group vector at member;
    at =
        group.at;
  }

  abbrev expanded : Group-F Item Group
  expanded =
      record {
        name = codes "pin";
        arguments = text_value member;
        items =
            map (pin_item vectors (Some at)) (member_items group vector at member);
        at = group.at;
      }

  member_owner : owner_of vectors (record { group = member_group group vector at member; position = Some at }) ≡ member_pin
      vectors group vector at member
  member_owner =
      ap
      (λ (one : Group-F Item Group). roll-Group
      (record {
        name = one.name;
        arguments = one.arguments;
        items = map (pin_item vectors (Some at)) one.items;
        at =
            one.at;
      }))
      (out-roll-Group written)

  member_owned : owned (member_pin vectors group vector at member) ≡ member_pin vectors group vector at member ∷ []
  member_owned =
      ap (λ (one : Group-F Item Group). if pin_word one.name one.arguments
      then map (owner_as (member_pin vectors group vector at member)) one.arguments else [])
      (out-roll-Group expanded)

  member_written : (member_group group vector at member).items ≡ member_items group vector at member
  member_written = ap (λ (one : Group-F Item Group). one.items) (out-roll-Group written)

pins_along :
    (vectors : List Vector) (group : Group) (vector : Vector) (at : ℕ) (members : List (List ℕ))
    → owner_list (along (member_pins vectors group vector) at members) ≡ map (owner_of vectors)
    (along (pin_of_member group vector) at members)
pins_along vectors group vector at [] = refl
pins_along vectors group vector at (member ∷ members) =
    let rest : List Item = along (member_pins vectors group vector) (at + 1) members in
    inner_cons (member_pin vectors group vector at member) rest
    ∙ (ap (λ gs. gs ++ owner_list rest) (member_owned vectors group vector at member)
    ∙ (ap (λ (g : Group). g ∷ owner_list rest) (sym (member_owner vectors group vector at member))
    ∙ ap (λ gs. owner_of vectors (record { group = member_group group vector at member; position = Some at }) ∷ gs)
    (pins_along vectors group vector (at + 1) members)))

vectors_owned :
    (vectors : List Vector) (group : Group) (many : List Vector)
    → owner_list (flat_map (vector_pins vectors group) many) ≡ map (owner_of vectors) (flat_map (pins_of_vector group) many)
vectors_owned vectors group [] = refl
vectors_owned vectors group (vector ∷ many) =
    owners_append (vector_pins vectors group vector) (flat_map (vector_pins vectors group) many)
    ∙ (ap (λ gs. gs ++ owner_list (flat_map (vector_pins vectors group) many)) (pins_along vectors group vector 0 vector.members)
    ∙ (ap (λ gs. map (owner_of vectors) (pins_of_vector group vector) ++ gs) (vectors_owned vectors group many)
    ∙ sym (map-append (owner_of vectors) (pins_of_vector group vector) (flat_map (pins_of_vector group) many))))

-- a bank makes no pin
state_is_no_pin : (b : Bool) (arguments : List Value) → pin_word (if b then codes "ff" else codes "latch") arguments ≡ false
state_is_no_pin true arguments = refl
state_is_no_pin false arguments = refl

bank_owns : (vectors : List Vector) (group : Group) (bank : Bank) (ps : List ℕ)
    → owner_list (map (bank_item vectors group bank) ps) ≡ []
bank_owns vectors group bank [] = refl
bank_owns vectors group bank (p ∷ ps) =
    let single : Group = bank_state vectors group bank p in
    let e = out-roll-Group (bank_shape vectors group bank p) in
    let apart : is_pin single ≡ false =
    ap (λ (one : Group-F Item Group). pin_word one.name one.arguments) e
    ∙ state_is_no_pin (is_called (codes "ff_bank") group) (variables_at bank p) in
    inner_cons single (map (bank_item vectors group bank) ps)
    ∙ (ap (λ b. (if b then owners_in single else []) ++ owner_list (map (bank_item vectors group bank) ps)) apart
    ∙ bank_owns vectors group bank ps)

by_bank : (vectors : List Vector) (group : Group) (bank : Option Bank) → owner_list (bank_items vectors group bank) ≡ []
by_bank vectors group None = refl
by_bank vectors group (Some bank) = bank_owns vectors group bank (positions bank.width)

-- a scalar pin group
scalar_owners :
    (owner : WrittenPin → Group) (group single : Group) → owner (record { group = group; position = None }) ≡ single
    → (arguments : List Value)
    → map (owner_as single) arguments ≡ map owner (map (scalar_pin group) arguments)
scalar_owners owner group single e [] = refl
scalar_owners owner group single e (value ∷ arguments) =
    ap (λ (g : Group). g ∷ map (owner_as single) arguments) (sym e)
    ∙ ap (λ gs. owner (record { group = group; position = None }) ∷ gs) (scalar_owners owner group single e arguments)

scalar_owned :
    (owner : WrittenPin → Group) (group single : Group) → owner (record { group = group; position = None }) ≡ single
    → single.name ≡ group.name
    → single.arguments ≡ group.arguments
    → owned single ≡ map owner (if is_pin group then map (scalar_pin group) group.arguments else [])
scalar_owned owner group single e named same =
    ap (λ name. if pin_word name single.arguments then map (owner_as single) single.arguments else []) named
    ∙ (ap (λ arguments. if pin_word group.name arguments then map (owner_as single) arguments else []) same ∙ by (is_pin group))
  where
    by : (b : Bool) → (if b then map (owner_as single) group.arguments else []) ≡ map owner
        (if b then map (scalar_pin group) group.arguments else [])
    by true = scalar_owners owner group single e group.arguments
    by false = refl

module _ (types : List BusType) (vectors : List Vector) where
  by_plain : (group : Group) (b : Bool) → is_called (codes "pin") group ≡ b
      → owner_list (made.Inner (if b then single_pin vectors group else group) ∷ [])
      ≡ map (owner_of vectors) (if is_pin group then map (scalar_pin group) group.arguments else [])
  by_plain group true e =
      let single : Group = single_pin vectors group in
      let is = out-roll-Group (made_of group (map (pin_item vectors None) group.items)) in
      inner_cons single []
      ∙ (append-nil (owned single)
      ∙ scalar_owned (owner_of vectors) group single refl (ap (λ (one : Group-F Item Group). one.name) is)
      (ap (λ (one : Group-F Item Group). one.arguments) is))
  by_plain group false e =
      let apart : is_pin group ≡ false = ap (λ b. b && not (length group.arguments == 0)) e in
      inner_cons group []
      ∙ (ap (λ b. (if b then owners_in group else []) ++ []) apart
      ∙ sym (ap (λ b. map (owner_of vectors) (if b then map (scalar_pin group) group.arguments else [])) apart))

  group_owned : (group : Group) → owner_list (expanded_group types vectors group) ≡ map (owner_of vectors)
      (pins_of_group types group)
  group_owned group = by (is_pins group) (is_bank group) refl refl
    where
      by : (many bank : Bool) → is_pins group ≡ many → is_bank group ≡ bank
          → owner_list (expanded_group types vectors group) ≡ map (owner_of vectors) (pins_of_group types group)
      by true bank e f = rw e (vectors_owned vectors group (pin_vectors types group))
      by false true e f =
          let apart : is_pin group ≡ false = bank_apart group f in
          let none : pins_of_group types group ≡ [] = rw (e, apart) refl in
          let items : expanded_group types vectors group ≡ bank_items vectors group (bank_of group) = rw (e, f) refl in
          ap owner_list items ∙ (by_bank vectors group (bank_of group) ∙ sym (ap (map (owner_of vectors)) none))
      by false false e f =
          let items : expanded_group types vectors group ≡ single_group vectors group = rw (e, f) refl in
          let scalar : pins_of_group types group ≡ (if is_pin group then map (scalar_pin group) group.arguments else []) =
          rw e refl in
          ap owner_list items ∙ (by_plain group (is_called (codes "pin") group) refl ∙ sym (ap (map (owner_of vectors)) scalar))

  by_layer : (one : Item-F Item Group) → owner_list (expanded_as types vectors one) ≡ map (owner_of vectors) (pins_as types one)
  by_layer (layer.Simple name value at) =
      ap (λ one. flat_map owners_in (filter is_pin (cons_option (inner_of one) []))) (outs-Simple name value at)
  by_layer (layer.Complex name arguments at) =
      ap (λ one. flat_map owners_in (filter is_pin (cons_option (inner_of one) []))) (outs-Complex name arguments at)
  by_layer (layer.Inner group) = group_owned group

  -- the pins of an expanded cell
  pub owners_are :
      (items : List Item) → owner_list (flat_map (expanded_item types vectors) items) ≡ map (owner_of vectors)
      (flat_map (pins_made types) items)
  owners_are [] = refl
  owners_are (item ∷ items) =
      let later : List Item = flat_map (expanded_item types vectors) items in
      owners_append (expanded_item types vectors item) later
      ∙ (ap (λ gs. gs ++ owner_list later) (by_layer (out-Item item))
      ∙ (ap (λ gs. map (owner_of vectors) (pins_made types item) ++ gs) (owners_are items)
      ∙ sym (map-append (owner_of vectors) (pins_made types item) (flat_map (pins_made types) items))))

  -- no text of them has a fault
  placed_along :
      (group : Group) (vector : Vector) (at : ℕ) (members : List (List ℕ))
      → along (member_faults vectors group vector) at members ≡ []
      → AllByRecursion (Placed vectors) (along (pin_of_member group vector) at members)
  placed_along group vector at [] h = tt
  placed_along group vector at (member ∷ members) h =
      let items : List Item = member_items group vector at member in
      let parts = nil_parts (member_faults vectors group vector at member)
      (along (member_faults vectors group vector) (at + 1) members) h in
      let here = nil_parts (text_faults vectors (Some at) pin_texts items) (flat_map (timing_faults_in vectors (Some at)) items)
      parts.0 in (
        ap (text_faults vectors (Some at) pin_texts) (member_written vectors group vector at member) ∙ here.0,
        placed_along group vector (at + 1) members parts.1,
      )

  placed_vectors :
      (group : Group) (many : List Vector) → flat_map (vector_faults vectors group) many ≡ []
      → AllByRecursion (Placed vectors) (flat_map (pins_of_vector group) many)
  placed_vectors group [] h = tt
  placed_vectors group (vector ∷ many) h =
      let parts = nil_parts (vector_faults vectors group vector) (flat_map (vector_faults vectors group) many) h in
      all_join (Placed vectors) (pins_of_vector group vector) (flat_map (pins_of_vector group) many)
      (placed_along group vector 0 vector.members parts.0)
      (placed_vectors group many parts.1)

  placed_scalars : (group : Group) (arguments : List Value) → AllByRecursion (Placed vectors) (map (scalar_pin group) arguments)
  placed_scalars group [] = tt
  placed_scalars group (value ∷ arguments) = (tt, placed_scalars group arguments)

  placed_scalar : (group : Group) (b : Bool)
      → AllByRecursion (Placed vectors) (if b then map (scalar_pin group) group.arguments else [])
  placed_scalar group true = placed_scalars group group.arguments
  placed_scalar group false = tt

  placed_group : (group : Group) (many : Bool) → is_pins group ≡ many → width_faults_of types vectors group ≡ []
      → AllByRecursion (Placed vectors) (pins_of_group types group)
  placed_group group true e h =
      let faults : width_faults_of types vectors group ≡ flat_map (vector_faults vectors group) (pin_vectors types group) =
      rw e refl in
      let same : pins_of_group types group ≡ flat_map (pins_of_vector group) (pin_vectors types group) = rw e refl in
      subst (λ ps. AllByRecursion (Placed vectors) ps) (sym same)
      (placed_vectors group (pin_vectors types group) (sym faults ∙ h))
  placed_group group false e h =
      let same : pins_of_group types group ≡ (if is_pin group then map (scalar_pin group) group.arguments else []) = rw e refl in
      subst (λ ps. AllByRecursion (Placed vectors) ps) (sym same) (placed_scalar group (is_pin group))

  placed_layer : (one : Item-F Item Group) → width_faults_as types vectors one ≡ []
      → AllByRecursion (Placed vectors) (pins_as types one)
  placed_layer (layer.Simple name value at) h = tt
  placed_layer (layer.Complex name arguments at) h = tt
  placed_layer (layer.Inner group) h = placed_group group (is_pins group) refl h

  pub placed_are : (items : List Item) → flat_map (width_faults_in types vectors) items ≡ []
      → AllByRecursion (Placed vectors) (flat_map (pins_made types) items)
  placed_are [] h = tt
  placed_are (item ∷ items) h =
      let parts = nil_parts (width_faults_in types vectors item) (flat_map (width_faults_in types vectors) items) h in
      all_join (Placed vectors) (pins_made types item) (flat_map (pins_made types) items) (placed_layer (out-Item item) parts.0)
      (placed_are items parts.1)

  -- a cell that has no such groups
  abbrev own : WrittenPin → Group
  own pin = pin.group

  abbrev IsScalar : WrittenPin → Type 0
  IsScalar pin = pin.position ≡ None

  all_scalars : (group : Group) (arguments : List Value) → AllByRecursion IsScalar (map (scalar_pin group) arguments)
  all_scalars group [] = tt
  all_scalars group (value ∷ arguments) = (refl, all_scalars group arguments)

  scalars_by : (group : Group) (b : Bool) → AllByRecursion IsScalar (if b then map (scalar_pin group) group.arguments else [])
  scalars_by group true = all_scalars group group.arguments
  scalars_by group false = tt

  scalar_pins : (one : Item-F Item Group) → is_many_as one ≡ false → AllByRecursion IsScalar (pins_as types one)
  scalar_pins (layer.Simple name value at) h = tt
  scalar_pins (layer.Complex name arguments at) h = tt
  scalar_pins (layer.Inner group) h =
      let apart : is_pins group ≡ false = (or_parts (is_pins group) (is_bank group) h).0 in
      let same : pins_of_group types group ≡ (if is_pin group then map (scalar_pin group) group.arguments else []) = rw apart refl
      in
      subst (λ ps. AllByRecursion IsScalar ps) (sym same) (scalars_by group (is_pin group))

  pub scalars_are : (items : List Item) → list_any is_many_item items ≡ false
      → AllByRecursion IsScalar (flat_map (pins_made types) items)
  scalars_are [] h = tt
  scalars_are (item ∷ items) h =
      let apart = or_parts (is_many_item item) (list_any is_many_item items) h in
      all_join IsScalar (pins_made types item) (flat_map (pins_made types) items) (scalar_pins (out-Item item) apart.0)
      (scalars_are items apart.1)

  own_layer : (item : Item) (one : Item-F Item Group) → out-Item item ≡ one → is_many_as one ≡ false
      → owner_list (item ∷ []) ≡ map own (pins_as types one)
  own_layer item (layer.Simple name value at) e h = ap (λ o. flat_map owners_in (filter is_pin (cons_option (inner_of o) []))) e
  own_layer item (layer.Complex name arguments at) e h =
      ap (λ o. flat_map owners_in (filter is_pin (cons_option (inner_of o) []))) e
  own_layer item (layer.Inner group) e h =
      let apart : is_pins group ≡ false = (or_parts (is_pins group) (is_bank group) h).0 in
      let same : pins_of_group types group ≡ (if is_pin group then map (scalar_pin group) group.arguments else []) = rw apart refl
      in
      ap (λ o. flat_map owners_in (filter is_pin (cons_option (inner_of o) []))) e
      ∙ (owned_cons group [] ∙ (append-nil (owned group)
      ∙ (scalar_owned own group group refl refl refl ∙ sym (ap (map own) same))))

  pub own_are : (items : List Item) → list_any is_many_item items ≡ false
      → owner_list items ≡ map own (flat_map (pins_made types) items)
  own_are [] h = refl
  own_are (item ∷ items) h =
      let apart = or_parts (is_many_item item) (list_any is_many_item items) h in
      owners_append (item ∷ []) items
      ∙ (ap (λ gs. gs ++ owner_list items) (own_layer item (out-Item item) refl apart.0)
      ∙ (ap (λ gs. map own (pins_made types item) ++ gs) (own_are items apart.1)
      ∙ sym (map-append own (pins_made types item) (flat_map (pins_made types) items))))

-- what an accepted cell says of its pins
reads_all :
    (v : Vocabulary) (group : Group) (arguments : List Value) → ReadsText v group
    → AllByRecursion (ReadsText v) (map (owner_as group) arguments)
reads_all v group [] h = tt
reads_all v group (value ∷ arguments) h = (h, reads_all v group arguments h)

pub all_read :
    (v : Vocabulary) (groups : List Group) → flat_map malformed_at (map (pin_text v) groups) ≡ []
    → flat_map unknown_at (map (pin_text v) groups) ≡ []
    → AllByRecursion (ReadsText v) (flat_map owners_in groups)
all_read v [] a b = tt
all_read v (group ∷ groups) a b =
    let pa = nil_parts (malformed_at (pin_text v group)) (flat_map malformed_at (map (pin_text v) groups)) a in
    let pb = nil_parts (unknown_at (pin_text v group)) (flat_map unknown_at (map (pin_text v) groups)) b in
    all_join (ReadsText v) (owners_in group) (flat_map owners_in groups) (reads_all v group group.arguments (pa.0, pb.0))
    (all_read v groups pa.1 pb.1)
