-- The groups of a cell and of the same cell, trimmed: what is read of pins but their timing is the same.
use Rattle.std.proofs.Common.{◌≡◌, ℕ, ◌+◌, Bool, true, false, ◌&&◌, ◌||◌, List, [], ◌∷◌, ◌++◌, filter, if◌then◌else◌}
use Rattle.std.proofs.Common.{refl, sym, ap, ◌∙◌, codes, arith}
use Rattle.std.specs.Prelude.{flat_map, bytes_eq, nat_le}
use Rattle.std.specs.List.{cons_option}
use Rattle.std.proofs.lemmas.Bool.{and_parts}
use Rattle.std.proofs.lemmas.Slice.Eq.{bytes_eq-Decides}
use Rattle.liberty_groups.specs.declared.tree.Item.{Item, out-Item}
use Rattle.liberty_groups.specs.declared.tree.Item.TheOpen.{Item-F}
use Rattle.liberty_groups.specs.declared.tree.Item.TheOpen as layer
use Rattle.liberty_groups.specs.declared.tree.Item.TheViews.{outs-Simple, outs-Complex, outs-Inner}
use Rattle.liberty_groups.specs.declared.tree.Group.{Group}
use Rattle.cell_machine.specs.Delay.{lesser, least}
use Rattle.cell_machine.proofs.LeastLemmas.{least_append}
use Rattle.cell_attributes.specs.Groups.{is_called, is_pin, is_state, inner_of, inner_groups}
use Rattle.cell_attributes.specs.Scans.{bank_in}
use Rattle.cell_attributes.specs.Declarations.{declared_in}
use Rattle.three_state_cells.proofs.Lists.{of_pins}
use Rattle.three_state_cells.specs.PinAttributes.{untimed}
use Rattle.three_state_cells.specs.Trimmed.{has_one, is_trimmed, trimmed_pin, pins_made, pins_in_item}
use Rattle.three_state_cells.specs.Trimmed.{trimmed_item, trimmed_items}
use Rattle.three_state_cells.proofs.Untimed.{same_is_pin, same_is_state, same_bank, same_declared}

abbrev pub trimmed_groups : ℕ → List Group → List Group
trimmed_groups pin [] = []
trimmed_groups pin (group ∷ groups) = trimmed_pin pin group ∷ trimmed_groups (pin + pins_made group) groups

pub no_more : (pin : ℕ) → pin + 0 ≡ pin
no_more pin = omega arith

-- They are the groups among the trimmed statements.
pub inner_trimmed : (pin : ℕ) (items : List Item) → inner_groups (trimmed_items pin items) ≡ trimmed_groups pin
    (inner_groups items)
inner_trimmed pin [] = refl
inner_trimmed pin (item ∷ items) =
    by (out-Item item) (inner_trimmed (pin + pins_in_item (out-Item item)) items)
  where
    by : (y : Item-F Item Group)
        → inner_groups (trimmed_items (pin + pins_in_item y) items) ≡ trimmed_groups (pin + pins_in_item y) (inner_groups items)
        → cons_option (inner_of (out-Item (trimmed_item pin y))) (inner_groups (trimmed_items (pin + pins_in_item y) items))
        ≡ trimmed_groups pin (cons_option (inner_of y) (inner_groups items))
    by (layer.Simple name value at) rest =
        ap (λ one. cons_option (inner_of one) (inner_groups (trimmed_items (pin + 0) items))) (outs-Simple name value at)
        ∙ (rest ∙ ap (λ p. trimmed_groups p (inner_groups items)) (no_more pin))
    by (layer.Complex name arguments at) rest =
        ap (λ one. cons_option (inner_of one) (inner_groups (trimmed_items (pin + 0) items))) (outs-Complex name arguments at)
        ∙ (rest ∙ ap (λ p. trimmed_groups p (inner_groups items)) (no_more pin))
    by (layer.Inner group) rest =
        ap (λ one. cons_option (inner_of one) (inner_groups (trimmed_items (pin + pins_made group) items)))
        (outs-Inner (trimmed_pin pin group))
        ∙ ap (λ l. trimmed_pin pin group ∷ l) rest

-- A trimmed group is a pin group.
pub trimmed_is_pin : (pin : ℕ) (group : Group) → is_trimmed pin group ≡ true → is_pin group ≡ true
trimmed_is_pin pin group e =
    (and_parts (is_pin group) (has_one group.arguments)
    (and_parts (nat_le 64 pin) (is_pin group && has_one group.arguments) e).1).0

-- What is the same of a pin group without its timing groups is the same of one that may be trimmed.
pub same_of : {A : Type 0} (f : Group → A) → ((group : Group) → is_pin group ≡ true → f (untimed group) ≡ f group)
    → (pin : ℕ) (group : Group) → f (trimmed_pin pin group) ≡ f group
same_of f same pin group = by (is_trimmed pin group) refl
  where
    by : (b : Bool) → is_trimmed pin group ≡ b → f (if b then untimed group else group) ≡ f group
    by true e = same group (trimmed_is_pin pin group e)
    by false e = refl

pub same_pin : (pin : ℕ) (group : Group) → is_pin (trimmed_pin pin group) ≡ is_pin group
same_pin = same_of is_pin (λ group e. same_is_pin group)

pub same_all : {A : Type 0} (f : Group → List A)
    → ((group : Group) → is_pin group ≡ true → f (untimed group) ≡ f group)
    → (pin : ℕ) (groups : List Group) → flat_map f (trimmed_groups pin groups) ≡ flat_map f groups
same_all f same pin [] = refl
same_all f same pin (group ∷ groups) =
    ap (λ l. l ++ flat_map f (trimmed_groups (pin + pins_made group) groups)) (same_of f same pin group)
    ∙ ap (λ l. f group ++ l) (same_all f same (pin + pins_made group) groups)

-- of the pins among them
of_test : {A : Type 0} (test : Group → Bool) (f : Group → List A) (groups : List Group)
    → flat_map f (filter test groups) ≡ flat_map (λ group. if test group then f group else []) groups
of_test test f [] = refl
of_test test f (group ∷ groups) = by (test group) (of_test test f groups)
  where
    by : (b : Bool)
        → flat_map f (filter test groups) ≡ flat_map (λ group. if test group then f group else []) groups
        → flat_map f (if b then group ∷ filter test groups else filter test groups)
        ≡ (if b then f group else []) ++ flat_map (λ group. if test group then f group else []) groups
    by true rest = ap (λ l. f group ++ l) rest
    by false rest = rest

pub same_pins_told : {A : Type 0} (f : Group → List A)
    → ((group : Group) → is_pin group ≡ true → f (untimed group) ≡ f group)
    → (pin : ℕ) (groups : List Group) → of_pins f (trimmed_groups pin groups) ≡ of_pins f groups
same_pins_told f same pin groups =
    of_test is_pin f (trimmed_groups pin groups)
    ∙ (same_all (λ group. if is_pin group then f group else [])
    (λ group e. λ i. if same_is_pin group i then same group e i else []) pin groups
    ∙ sym (of_test is_pin f groups))

-- of the least of what is told of the pins
same_least : (f : Group → List ℕ) → ((group : Group) → least (f (untimed group)) ≡ least (f group))
    → (pin : ℕ) (groups : List Group) → least (flat_map f (trimmed_groups pin groups)) ≡ least (flat_map f groups)
same_least f same pin [] = refl
same_least f same pin (group ∷ groups) =
    least_append (f (trimmed_pin pin group)) (flat_map f (trimmed_groups (pin + pins_made group) groups))
    ∙ ((λ i. lesser (same_of (λ group. least (f group)) (λ group e. same group) pin group i)
    (same_least f same (pin + pins_made group) groups i))
    ∙ sym (least_append (f group) (flat_map f groups)))

least_if : (b c : Bool) (xs ys : List ℕ) → b ≡ c → least xs ≡ least ys
    → least (if b then xs else []) ≡ least (if c then ys else [])
least_if b c xs ys e same = ap (λ b. least (if b then xs else [])) e ∙ by c
  where
    by : (c : Bool) → least (if c then xs else []) ≡ least (if c then ys else [])
    by true = same
    by false = refl

pub same_least_told : (f : Group → List ℕ) → ((group : Group) → least (f (untimed group)) ≡ least (f group))
    → (pin : ℕ) (groups : List Group) → least (of_pins f (trimmed_groups pin groups)) ≡ least (of_pins f groups)
same_least_told f same pin groups =
    ap least (of_test is_pin f (trimmed_groups pin groups))
    ∙ (same_least (λ group. if is_pin group then f group else [])
    (λ group. least_if (is_pin (untimed group)) (is_pin group) (f (untimed group)) (f group) (same_is_pin group) (same group)) pin
    groups
    ∙ sym (ap least (of_test is_pin f groups)))

-- of the groups with states, none of which is trimmed
pin_is_no_state : (group : Group) → is_pin group ≡ true → is_state group ≡ false
pin_is_no_state group e =
    ap (λ name. bytes_eq name (codes "ff") || (bytes_eq name (codes "latch") || bytes_eq name (codes "statetable")))
    ((bytes_eq-Decides group.name (codes "pin")).0 (and_parts (is_called (codes "pin") group) _ e).0)

one_each : (groups : List Group) → flat_map (λ (group : Group). group ∷ []) groups ≡ groups
one_each [] = refl
one_each (group ∷ groups) = ap (λ l. group ∷ l) (one_each groups)

pub same_states : (pin : ℕ) (groups : List Group) → filter is_state (trimmed_groups pin groups) ≡ filter is_state groups
same_states pin groups =
    sym (one_each (filter is_state (trimmed_groups pin groups)))
    ∙ (of_test is_state (λ group. group ∷ []) (trimmed_groups pin groups)
    ∙ (same_all (λ group. if is_state group then group ∷ [] else [])
    (λ group e. ap (λ b. if b then untimed group ∷ [] else []) (same_is_state group ∙ pin_is_no_state group e)
    ∙ sym (ap (λ b. if b then group ∷ [] else []) (pin_is_no_state group e))) pin groups
    ∙ (sym (of_test is_state (λ group. group ∷ []) groups) ∙ one_each (filter is_state groups))))

pub same_banks : (pin : ℕ) (groups : List Group) → flat_map bank_in (trimmed_groups pin groups) ≡ flat_map bank_in groups
same_banks = same_all bank_in (λ group e. same_bank group)

pub same_declared_names : (pin : ℕ) (groups : List Group)
    → flat_map declared_in (trimmed_groups pin groups) ≡ flat_map declared_in groups
same_declared_names = same_all declared_in same_declared
