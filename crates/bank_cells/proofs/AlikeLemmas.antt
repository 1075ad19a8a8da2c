-- The statements of a bus or bundle that become the same for each member, and members with the same statements.
use Rattle.std.proofs.Common.{◌≡◌, ℕ, Bool, true, false, not, ◌&&◌, ◌||◌, List, [], ◌∷◌, ◌++◌, map, filter, Some, None}
use Rattle.std.proofs.Common.{if◌then◌else◌, refl, sym, ap, ◌∙◌, codes}
use Rattle.std.specs.Prelude.{bytes_eq, flat_map}
use Rattle.std.specs.List.{list_all, cons_option}
use Rattle.std.proofs.lemmas.Bool.{and_parts}
use Rattle.std.proofs.lemmas.List.{map-append}
use Rattle.std.proofs.lemmas.List.Folds.{list_all-map}
use Rattle.liberty_groups.specs.declared.tree.Value.{Value}
use Rattle.liberty_groups.specs.declared.tree.Item.{Item, out-Item}
use Rattle.liberty_groups.specs.declared.tree.Item.TheOpen.{Item-F}
use Rattle.liberty_groups.specs.declared.tree.Item.TheOpen as layer
use Rattle.liberty_groups.specs.declared.tree.Item.TheVariants as made
use Rattle.liberty_groups.specs.declared.tree.Group.{Group}
use Rattle.liberty_groups.specs.Attributes.{text_of, group_named}
use Rattle.bus_texts.specs.declared.vectors.Vector.{Vector}
use Rattle.bus_texts.specs.Vectors.{is_called}
use Rattle.bank_refusals.specs.Members.{is_shared, inner_pins, own_items_as, own_items}
use Rattle.bank_refusals.specs.Faults.{pin_texts}
use Rattle.bank_refusals.specs.Fixed.{names_none, is_fixed}
use Rattle.bank_refusals.specs.Alike.{text_stays, group_stays, stays}
use Rattle.bank_cells.specs.Expanded.{values_if, text_as, text_at, timing_at, pin_item_as, pin_item}
use Rattle.bank_cells.specs.Runs.{Member, shared_stays, inner_pin, judged_pins, is_named, same_of, have_same, items_at}
use Rattle.bank_cells.proofs.FixedLemmas.{values_same, timing_same}

-- A statement that stays becomes the same at each position.
abbrev none_by : List Vector → List Value → ℕ → Bool → Bool
none_by vectors value offset b = names_none vectors (if b then Some (record { text = text_of value; at = offset }) else None)

module _ (vectors : List Vector) (at : ℕ) where
  text_same : (y : Item-F Item Group) → text_stays vectors y ≡ true
      → text_as vectors (Some 0) pin_texts y ≡ text_as vectors (Some at) pin_texts y
  text_same (layer.Simple name value offset) e =
      let both = and_parts (none_by vectors value offset (bytes_eq name (codes "function")))
      (none_by vectors value offset (bytes_eq name (codes "state_function"))
      && none_by vectors value offset (bytes_eq name (codes "three_state"))) e in
      let others = and_parts (none_by vectors value offset (bytes_eq name (codes "state_function")))
      (none_by vectors value offset (bytes_eq name (codes "three_state"))) both.1 in
      ap (λ values. made.Simple name values offset)
      (by (bytes_eq name (codes "function")) (bytes_eq name (codes "state_function")) (bytes_eq name (codes "three_state")) both.0
      others.0 others.1)
    where
      by : (a b c : Bool) → none_by vectors value offset a ≡ true → none_by vectors value offset b ≡ true
          → none_by vectors value offset c ≡ true
          → values_if vectors (Some 0) (a || (b || (c || false))) value ≡ values_if vectors (Some at)
          (a || (b || (c || false))) value
      by true b c f g h = values_same vectors at true value f
      by false true c f g h = values_same vectors at true value g
      by false false true f g h = values_same vectors at true value h
      by false false false f g h = refl
  text_same (layer.Complex name arguments offset) e = refl
  text_same (layer.Inner group) e = refl

  statement_by : (y : Item-F Item Group) (item : Item)
      → text_at vectors (Some 0) pin_texts item ≡ text_at vectors (Some at) pin_texts item → group_stays vectors y ≡ true
      → pin_item_as vectors (Some 0) y item ≡ pin_item_as vectors (Some at) y item
  statement_by (layer.Simple name value offset) item same e = same
  statement_by (layer.Complex name arguments offset) item same e = refl
  statement_by (layer.Inner group) item same e =
      by (is_called (codes "timing") group)
      (and_parts (not (is_called (codes "pin") group))
      (not (is_called (codes "timing") group) || list_all (is_fixed vectors) group.items) e).1
    where
      by : (b : Bool) → (not b || list_all (is_fixed vectors) group.items) ≡ true
          → (if b then made.Inner (timing_at vectors (Some 0) group) else item) ≡ (if b
          then made.Inner (timing_at vectors (Some at) group) else item)
      by true f = ap made.Inner (timing_same vectors at group f)
      by false f = refl

  statement_same : (item : Item) → stays vectors item ≡ true → pin_item vectors (Some 0) item ≡ pin_item vectors (Some at) item
  statement_same item e =
      let both = and_parts (text_stays vectors (out-Item item)) (group_stays vectors (out-Item item)) e in
      statement_by (out-Item item) item (text_same (out-Item item) both.0) both.1

  shared_same : (items : List Item) → list_all (shared_stays vectors) items ≡ true
      → map (pin_item vectors (Some at)) (filter is_shared items) ≡ map (pin_item vectors (Some 0)) (filter is_shared items)
  shared_same [] e = refl
  shared_same (item ∷ items) e =
      let both = and_parts (shared_stays vectors item) (list_all (shared_stays vectors) items) e in
      by (is_shared item) both.0 (shared_same items both.1)
    where
      by : (b : Bool) → (not b || stays vectors item) ≡ true
          → map (pin_item vectors (Some at)) (filter is_shared items) ≡ map (pin_item vectors (Some 0)) (filter is_shared items)
          → map (pin_item vectors (Some at)) (if b then item ∷ filter is_shared items else filter is_shared items)
          ≡ map (pin_item vectors (Some 0)) (if b then item ∷ filter is_shared items else filter is_shared items)
      by true here rest =
          ap (λ (one : Item). one ∷ map (pin_item vectors (Some at)) (filter is_shared items)) (sym (statement_same item here))
          ∙ ap (λ l. pin_item vectors (Some 0) item ∷ l) rest
      by false here rest = rest

  inner_same : (items : List Item) → list_all (stays vectors) items ≡ true
      → map (pin_item vectors (Some at)) items ≡ map (pin_item vectors (Some 0)) items
  inner_same [] e = refl
  inner_same (item ∷ items) e =
      let both = and_parts (stays vectors item) (list_all (stays vectors) items) e in
      ap (λ (one : Item). one ∷ map (pin_item vectors (Some at)) items) (sym (statement_same item both.0))
      ∙ ap (λ l. pin_item vectors (Some 0) item ∷ l) (inner_same items both.1)

-- Two members with the same statements.
module _ (vectors : List Vector) (one other : Member) where
  abbrev become : Member → List Item → List Item
  become member items = map (pin_item vectors (Some member.at)) items

  abbrev own_of : Member → Item → List Item
  own_of member item = own_items member.vector member.at member.name item

  abbrev same_in : List Group → Bool
  same_in pins = list_all (λ pin. same_of one other (inner_pin vectors pin)) pins

  named : (group : Group) (b c d : Bool) → list_all (stays vectors) group.items ≡ d → (if b then c && d else not c) ≡ true
      → become one (if b then group.items else []) ≡ become other (if c then group.items else [])
  named group true true true is e = inner_same vectors one.at group.items is ∙ sym (inner_same vectors other.at group.items is)
  named group true true false is e = absurd cc
  named group true false d is e = absurd cc
  named group false true d is e = absurd cc
  named group false false d is e = refl

  own_here : (y : Item-F Item Group) (pins : List Group)
      → same_in (cons_option (group_named (codes "pin") y) pins) ≡ true
      → (become one (own_items_as one.vector one.at one.name y) ≡ become other (own_items_as other.vector other.at other.name y))
      × (same_in pins ≡ true)
  own_here (layer.Simple name value offset) pins e = (refl, e)
  own_here (layer.Complex name arguments offset) pins e = (refl, e)
  own_here (layer.Inner group) pins e = by (is_called (codes "pin") group) e
    where
      by : (b : Bool) → same_in (cons_option (if b then Some group else None) pins) ≡ true
          → (become one (if b && is_named one (inner_pin vectors group) then group.items else [])
          ≡ become other (if b && is_named other (inner_pin vectors group) then group.items else []))
          × (same_in pins ≡ true)
      by true e =
          let both = and_parts (same_of one other (inner_pin vectors group)) (same_in pins) e in (
            named group (is_named one (inner_pin vectors group)) (is_named other (inner_pin vectors group))
                (list_all (stays vectors) group.items) refl both.0,
            both.1,
          )
      by false e = (refl, e)

  own_same : (items : List Item) → same_in (inner_pins items) ≡ true
      → become one (flat_map (own_of one) items) ≡ become other (flat_map (own_of other) items)
  own_same [] e = refl
  own_same (item ∷ items) e =
      let both = own_here (out-Item item) (inner_pins items) e in
      map-append (pin_item vectors (Some one.at)) (own_of one item) (flat_map (own_of one) items)
      ∙ (ap (λ l. l ++ become one (flat_map (own_of one) items)) both.0
      ∙ (ap (λ l. become other (own_of other item) ++ l) (own_same items both.1)
      ∙ sym (map-append (pin_item vectors (Some other.at)) (own_of other item) (flat_map (own_of other) items))))

  pub same_items : (group : Group) → have_same vectors group one other ≡ true
      → items_at vectors group one ≡ items_at vectors group other
  same_items group e =
      let both = and_parts (list_all (shared_stays vectors) group.items)
      (list_all (same_of one other) (judged_pins vectors group.items)) e in
      let inner : same_in (inner_pins group.items) ≡ true =
      sym (list_all-map (same_of one other) (inner_pin vectors) (inner_pins group.items)) ∙ both.1 in
      let shared : List Item = filter is_shared group.items in
      let own : Member → List Item = λ member. flat_map (own_of member) group.items in
      map-append (pin_item vectors (Some one.at)) shared (own one)
      ∙ (ap (λ l. l ++ become one (own one))
      (shared_same vectors one.at group.items both.0 ∙ sym (shared_same vectors other.at group.items both.0))
      ∙ (ap (λ l. become other shared ++ l) (own_same group.items inner)
      ∙ sym (map-append (pin_item vectors (Some other.at)) shared (own other))))
