-- Groups whose pin groups are taken apart, so that each has one name, and what is read of all of them.
use Rattle.std.proofs.Common.{◌≡◌, ℕ, Bool, true, false, not, ◌&&◌, ◌||◌, ◌==◌, List, [], ◌∷◌, ◌++◌, length, map, filter}
use Rattle.std.proofs.Common.{if◌then◌else◌, refl, sym, ap, ◌∙◌, codes, append-nil, arith}
use Rattle.std.specs.Prelude.{flat_map, bytes_eq}
use Rattle.std.proofs.lemmas.Bool.{ne_eqb}
use Rattle.std.proofs.lemmas.Grind.{flat_map-append}
use Rattle.std.proofs.lemmas.Slice.Eq.{bytes_eq-Decides}
use Rattle.std.proofs.lemmas.List.Elements.{filter-append, filter_map-append}
use Rattle.liberty_groups.specs.declared.tree.Value.{Value}
use Rattle.liberty_groups.specs.declared.tree.Item.{Item, out-Item}
use Rattle.liberty_groups.specs.declared.tree.Group.{Group}
use Rattle.cell_machine.specs.Delay.{least, lesser}
use Rattle.cell_machine.proofs.LeastLemmas.{least_append}
use Rattle.cell_attributes.specs.Groups.{is_called, is_pin, is_state, inner_of, inner_groups}
use Rattle.cell_attributes.specs.States.{states_in}
use Rattle.cell_attributes.specs.Scans.{bank_in}
use Rattle.cell_attributes.specs.Declarations.{Declared, declared_pin, declared_in, declared_state}
use Rattle.three_state_cells.proofs.Untimed.{again as lesser_same}
use Rattle.three_state_cells.proofs.Single.{single, is_one_pin, is_no_state, no_bank_in, its_declared}

-- A pin group becomes one for each of its names.
abbrev pub apart_by : Bool → Group → List Group
apart_by b group = if b then map (single group) group.arguments else group ∷ []

abbrev pub apart : Group → List Group
apart group = apart_by (is_called (codes "pin") group) group

-- the groups among statements, apart
abbrev pub apart_in : List Item → List Group
apart_in items = flat_map apart (inner_groups items)

pub apart_append : (xs ys : List Item) → apart_in (xs ++ ys) ≡ apart_in xs ++ apart_in ys
apart_append xs ys =
    ap (flat_map apart) (filter_map-append (λ item. inner_of (out-Item item)) xs ys)
    ∙ flat_map-append apart (inner_groups xs) (inner_groups ys)

pub some_name : (value : Value) (values : List Value) → (length (value ∷ values) == 0) ≡ false
some_name value values = ne_eqb (length (value ∷ values)) 0 (λ e. omega (arith, e))

-- the pins among groups
all_pins : (group : Group) (values : List Value) → filter is_pin (map (single group) values) ≡ map (single group) values
all_pins group [] = refl
all_pins group (value ∷ values) =
    ap (λ b. if b then single group value ∷ filter is_pin (map (single group) values)
    else filter is_pin (map (single group) values)) (is_one_pin group value)
    ∙ ap (λ l. single group value ∷ l) (all_pins group values)

named : (group : Group) (values : List Value)
    → map (single group) values ≡ (if not (length values == 0) then map (single group) values else [])
named group [] = refl
named group (value ∷ values) = sym (ap (λ b. if not b then map (single group) (value ∷ values) else []) (some_name value values))

pub pins_apart : (group : Group) → filter is_pin (apart group) ≡ (if is_pin group then map (single group) group.arguments else [])
pins_apart group = by (is_called (codes "pin") group) refl
  where
    by : (b : Bool) → is_called (codes "pin") group ≡ b
        → filter is_pin (apart_by b group) ≡ (if b && not (length group.arguments == 0) then map (single group) group.arguments
        else [])
    by true e = all_pins group group.arguments ∙ named group group.arguments
    by false e = ap (λ b. if b && not (length group.arguments == 0) then group ∷ [] else []) e

-- What is told of all groups by an operation is told of them apart, where it is so for each.
pub told :
    {A : Type 0} (more : A → A → A) (f g : List Group → A) → f [] ≡ g []
    → ((xs ys : List Group) → f (xs ++ ys) ≡ more (f xs) (f ys))
    → ((xs ys : List Group) → g (xs ++ ys) ≡ more (g xs) (g ys)) → ((group : Group) → f (apart group) ≡ g (group ∷ []))
    → (groups : List Group)
    → f (flat_map apart groups) ≡ g groups
told more f g none join_f join_g each [] = none
told more f g none join_f join_g each (group ∷ groups) =
    join_f (apart group) (flat_map apart groups)
    ∙ (ap (λ a. more a (f (flat_map apart groups))) (each group)
    ∙ (ap (more (g (group ∷ []))) (told more f g none join_f join_g each groups) ∙ sym (join_g (group ∷ []) groups)))

-- what is made of the pin groups among groups
abbrev pub of_pins : {A : Type 0} → (Group → List A) → List Group → List A
of_pins h groups = flat_map h (filter is_pin groups)

pub of_pins_join : {A : Type 0} (h : Group → List A) (xs ys : List Group) → of_pins h (xs ++ ys) ≡ of_pins h xs ++ of_pins h ys
of_pins_join h xs ys = ap (flat_map h) (filter-append is_pin xs ys) ∙ flat_map-append h (filter is_pin xs) (filter is_pin ys)

pub one_of : {A : Type 0} (h : Group → List A) (group : Group) → of_pins h (group ∷ []) ≡ (if is_pin group then h group else [])
one_of h group = by (is_pin group)
  where
    by : (b : Bool) → flat_map h (if b then group ∷ [] else []) ≡ (if b then h group else [])
    by true = append-nil (h group)
    by false = refl

pub several_of : {A : Type 0} (h : Group → List A) (group : Group)
    → of_pins h (apart group) ≡ (if is_pin group then flat_map h (map (single group) group.arguments) else [])
several_of h group = ap (flat_map h) (pins_apart group) ∙ by (is_pin group)
  where
    by : (b : Bool) → flat_map h (if b then map (single group) group.arguments else []) ≡ (if b
        then flat_map h (map (single group) group.arguments) else [])
    by true = refl
    by false = refl

-- each of the pin groups, apart
abbrev pub split : Group → List Group
split group = map (single group) group.arguments

pub pins_split : (groups : List Group) → filter is_pin (flat_map apart groups) ≡ of_pins split groups
pins_split groups =
    told (λ xs ys. xs ++ ys) (filter is_pin) (of_pins split) refl (filter-append is_pin) (of_pins_join split)
    (λ group. pins_apart group ∙ sym (one_of split group)) groups

-- What is made of each name is made of them apart.
pub each_name :
    {A : Type 0} (h : Group → List A) (k : Group → Value → A) (group : Group)
    → ((value : Value) → h (single group value) ≡ k group value ∷ []) → (values : List Value)
    → flat_map h (map (single group) values) ≡ map (k group) values
each_name h k group one [] = refl
each_name h k group one (value ∷ values) =
    ap (λ l. l ++ flat_map h (map (single group) values)) (one value)
    ∙ ap (λ l. k group value ∷ l) (each_name h k group one values)

pub by_name :
    {A : Type 0} (f h : Group → List A) (k : Group → Value → A)
    → ((group : Group) (value : Value) → f (single group value) ≡ k group value ∷ [])
    → ((group : Group) → h group ≡ map (k group) group.arguments) → (groups : List Group)
    → of_pins f (flat_map apart groups) ≡ of_pins h groups
by_name f h k one all groups =
    told (λ xs ys. xs ++ ys) (of_pins f) (of_pins h) refl (of_pins_join f) (of_pins_join h)
    (λ group. several_of f group
    ∙ (ap (λ l. if is_pin group then l else []) (each_name f k group (one group) group.arguments ∙ sym (all group))
    ∙ sym (one_of h group))) groups

-- The least offset is the same, however often it is told.
again :
    (x : Group → List ℕ) (group : Group) → ((value : Value) → x (single group value) ≡ x group)
    → (value : Value) (values : List Value)
    → least (flat_map x (map (single group) (value ∷ values))) ≡ least (x group)
again x group same value [] = ap (λ l. least (l ++ [])) (same value) ∙ ap least (append-nil (x group))
again x group same value (other ∷ values) =
    least_append (x (single group value)) (flat_map x (map (single group) (other ∷ values)))
    ∙ (ap (λ l. lesser (least l) (least (flat_map x (map (single group) (other ∷ values))))) (same value)
    ∙ (ap (lesser (least (x group))) (again x group same other values) ∙ lesser_same (least (x group))))

least_of_names :
    (x : Group → List ℕ) (group : Group) → ((value : Value) → x (single group value) ≡ x group) → (values : List Value)
    → least (if not (length values == 0) then flat_map x (map (single group) values) else []) ≡ least
    (if not (length values == 0) then x group else [])
least_of_names x group same [] = refl
least_of_names x group same (value ∷ values) =
    ap (λ b. least (if not b then flat_map x (map (single group) (value ∷ values)) else [])) (some_name value values)
    ∙ (again x group same value values ∙ sym (ap (λ b. least (if not b then x group else [])) (some_name value values)))

pub least_same :
    (x : Group → List ℕ) → ((group : Group) (value : Value) → x (single group value) ≡ x group) → (groups : List Group)
    → least (of_pins x (flat_map apart groups)) ≡ least (of_pins x groups)
least_same x same groups =
    told lesser (λ l. least (of_pins x l)) (λ l. least (of_pins x l)) refl joined joined
    (λ group. ap least (several_of x group) ∙ (by group (is_called (codes "pin") group) ∙ sym (ap least (one_of x group)))) groups
  where
    joined : (xs ys : List Group) → least (of_pins x (xs ++ ys)) ≡ lesser (least (of_pins x xs)) (least (of_pins x ys))
    joined xs ys = ap least (of_pins_join x xs ys) ∙ least_append (of_pins x xs) (of_pins x ys)

    by : (group : Group) (b : Bool)
        → least (if b && not (length group.arguments == 0) then flat_map x (map (single group) group.arguments) else [])
        ≡ least (if b && not (length group.arguments == 0) then x group else [])
    by group true = least_of_names x group (same group) group.arguments
    by group false = refl

-- the groups that are no pins stay
called_pin : (group : Group) → is_called (codes "pin") group ≡ true → group.name ≡ codes "pin"
called_pin group e = (bytes_eq-Decides group.name (codes "pin")).0 e

pin_no_state : (group : Group) → is_called (codes "pin") group ≡ true → is_state group ≡ false
pin_no_state group e =
    ap (λ name. bytes_eq name (codes "ff") || (bytes_eq name (codes "latch") || bytes_eq name (codes "statetable")))
    (called_pin group e)

no_states : (group : Group) (values : List Value) → filter is_state (map (single group) values) ≡ []
no_states group [] = refl
no_states group (value ∷ values) =
    ap (λ b. if b then single group value ∷ filter is_state (map (single group) values)
    else filter is_state (map (single group) values)) (is_no_state group value)
    ∙ no_states group values

states_of_one : (group : Group) → filter is_state (apart group) ≡ filter is_state (group ∷ [])
states_of_one group = by (is_called (codes "pin") group) refl
  where
    by : (b : Bool) → is_called (codes "pin") group ≡ b → filter is_state (apart_by b group) ≡ filter is_state (group ∷ [])
    by true e = no_states group group.arguments ∙ sym (ap (λ b. if b then group ∷ [] else []) (pin_no_state group e))
    by false e = refl

pub states_apart : (groups : List Group) → filter is_state (flat_map apart groups) ≡ filter is_state groups
states_apart groups =
    told (λ xs ys. xs ++ ys) (filter is_state) (filter is_state) refl (filter-append is_state)
    (filter-append is_state) states_of_one groups

no_banks : (group : Group) (values : List Value) → flat_map bank_in (map (single group) values) ≡ []
no_banks group [] = refl
no_banks group (value ∷ values) = ap (λ l. l ++ flat_map bank_in (map (single group) values)) (no_bank_in group value)
    ∙ no_banks group values

pin_no_bank : (group : Group) → is_called (codes "pin") group ≡ true → bank_in group ≡ []
unfolding bank_in
pin_no_bank group e =
    ap
    (λ name. if bytes_eq name (codes "bus")
    || (bytes_eq name (codes "bundle") || (bytes_eq name (codes "ff_bank") || bytes_eq name (codes "latch_bank")))
    then group.at ∷ [] else []) (called_pin group e)

banks_of_one : (group : Group) → flat_map bank_in (apart group) ≡ flat_map bank_in (group ∷ [])
banks_of_one group = by (is_called (codes "pin") group) refl
  where
    by : (b : Bool) → is_called (codes "pin") group ≡ b → flat_map bank_in (apart_by b group) ≡ flat_map bank_in (group ∷ [])
    by true e = no_banks group group.arguments ∙ sym (ap (λ l. l ++ []) (pin_no_bank group e))
    by false e = refl

pub banks_apart : (groups : List Group) → flat_map bank_in (flat_map apart groups) ≡ flat_map bank_in groups
banks_apart groups =
    told (λ xs ys. xs ++ ys) (flat_map bank_in) (flat_map bank_in) refl (flat_map-append bank_in)
    (flat_map-append bank_in) banks_of_one groups

-- what the groups declare
abbrev else_declared : Group → List Declared
else_declared group = if is_state group then flat_map (declared_state group.at) (states_in group) else []

declared_named : (group : Group) → is_called (codes "pin") group ≡ true
    → declared_in group ≡ map (declared_pin group) group.arguments
declared_named group e =
    ap (λ b. if b && not (length group.arguments == 0) then map (declared_pin group) group.arguments else else_declared group) e
    ∙ by group.arguments
  where
    by : (values : List Value) → (if not (length values == 0) then map (declared_pin group) values else else_declared group) ≡ map
        (declared_pin group) values
    by [] = ap (λ b. if b then flat_map (declared_state group.at) (states_in group) else []) (pin_no_state group e)
    by (value ∷ values) = ap (λ b. if not b then map (declared_pin group) (value ∷ values) else else_declared group)
        (some_name value values)

declared_of_one : (group : Group) → flat_map declared_in (apart group) ≡ flat_map declared_in (group ∷ [])
declared_of_one group = by (is_called (codes "pin") group) refl
  where
    by : (b : Bool) → is_called (codes "pin") group ≡ b
        → flat_map declared_in (apart_by b group) ≡ flat_map declared_in (group ∷ [])
    by true e =
        each_name declared_in declared_pin group (its_declared group) group.arguments
        ∙ (sym (declared_named group e) ∙ sym (append-nil (declared_in group)))
    by false e = refl

pub declared_apart : (groups : List Group) → flat_map declared_in (flat_map apart groups) ≡ flat_map declared_in groups
declared_apart groups =
    told (λ xs ys. xs ++ ys) (flat_map declared_in) (flat_map declared_in) refl (flat_map-append declared_in)
    (flat_map-append declared_in) declared_of_one groups
