-- The sums of entries, and what they are of a list that is put together.
use Rattle.std.proofs.Common.{◌≡◌, ℕ, ◌<◌, Bool, true, false, not, ◌||◌, ◌==◌, List, [], ◌∷◌, ◌++◌, length, refl, sym, ap, ◌∙◌}
use Rattle.std.proofs.Common.{arith, append-nil}
use Rattle.std.specs.Prelude.{Option, Some, None, max, min, fold, is_none, flat_map, codes, bytes_eq, if◌then◌else◌}
use Rattle.std.specs.List.{list_any, filter_map, cons_option}
use Rattle.std.proofs.lemmas.Grind.{flat_map-append}
use Rattle.std.proofs.lemmas.List.Elements.{filter_map-append}
use Rattle.std.proofs.lemmas.List.Folds.{list_any-append}
use Rattle.std.proofs.lemmas.Bool.Decides.{nat_tests}
use Rattle.std.proofs.lemmas.Bool.{or_right as has_one}
use Rattle.std.proofs.Math.Bool.{or_assoc as or-assoc, or-false}
use Rattle.liberty_groups.specs.declared.tree.Value.{Value}
use Rattle.liberty_groups.specs.declared.tree.Item.{Item, out-Item}
use Rattle.liberty_groups.specs.declared.tree.Item.TheOpen.{Item-F}
use Rattle.liberty_groups.specs.declared.tree.Item.TheOpen as layer
use Rattle.liberty_groups.specs.declared.tree.Group.{Group}
use Rattle.liberty_text.specs.declared.time.Unit.{Unit as TimeUnit}
use Rattle.timing_arcs.specs.declared.tables.Sum.{Sum}
use Rattle.cell_machine.specs.Delay.{lesser, least}
use Rattle.cell_machine.proofs.LeastLemmas.{lesser_none, lesser_assoc, least_append}
use Rattle.timing_arcs.specs.Times.{time_of}
use Rattle.liberty_groups.specs.Attributes.{first_of, words_between, group_named, groups_named}
use Rattle.timing_arcs.specs.Tables.{is_separator, Values, entries_of, values_as, values_of, values_named, greatest, times_of}
use Rattle.timing_arcs.specs.Tables.{limit_of, has_entry, bad_values_at, bad_numbers_at, empty_tables_at}
use Rattle.timing_arcs.specs.Sums.{first_unless, no_sum, with_time, with_entry, with_text, with_arguments, with_item}
use Rattle.timing_arcs.specs.Sums.{with_optional, with_tables}

pub greatest-append : (xs ys : List ℕ) → greatest (xs ++ ys) ≡ max (greatest xs) (greatest ys)
greatest-append [] ys = omega arith
greatest-append (x ∷ xs) ys = let e : greatest (xs ++ ys) ≡ max (greatest xs) (greatest ys) = greatest-append xs ys in omega arith

same_sum : (a b : Sum) → a.has_entry ≡ b.has_entry → a.greatest ≡ b.greatest → a.bad_at ≡ b.bad_at → a ≡ b
same_sum a b h g t = λ i. record { has_entry = h i; greatest = g i; bad_at = t i }

-- a sum, with the entries of these statements
abbrev plus : Option TimeUnit → Sum → List Values → Sum
plus unit sum vs = record {
  has_entry = sum.has_entry || list_any has_entry vs;
  greatest = max sum.greatest (greatest (flat_map (times_of unit) vs));
  bad_at = lesser sum.bad_at (least (filter_map (bad_values_at unit) vs));
}

plus-nil : (unit : Option TimeUnit) (sum : Sum) → plus unit sum [] ≡ sum
plus-nil unit sum = same_sum _ _ (or-false sum.has_entry) (omega arith) (lesser_none sum.bad_at)

plus-append : (unit : Option TimeUnit) (sum : Sum) (xs ys : List Values)
    → plus unit sum (xs ++ ys) ≡ plus unit (plus unit sum xs) ys
plus-append unit sum xs ys =
    let g : greatest (flat_map (times_of unit) (xs ++ ys)) ≡ max (greatest (flat_map (times_of unit) xs))
    (greatest (flat_map (times_of unit) ys)) =
    ap greatest (flat_map-append (times_of unit) xs ys)
    ∙ greatest-append (flat_map (times_of unit) xs) (flat_map (times_of unit) ys) in
    let t : least (filter_map (bad_values_at unit) (xs ++ ys)) ≡ lesser (least (filter_map (bad_values_at unit) xs))
    (least (filter_map (bad_values_at unit) ys)) =
    ap least (filter_map-append (bad_values_at unit) xs ys)
    ∙ least_append (filter_map (bad_values_at unit) xs) (filter_map (bad_values_at unit) ys) in
    same_sum _ _
    (ap (λ b. sum.has_entry || b) (list_any-append has_entry xs ys)
    ∙ sym (or-assoc sum.has_entry (list_any has_entry xs) (list_any has_entry ys)))
    (omega arith)
    (ap (lesser sum.bad_at) t ∙ sym (lesser_assoc sum.bad_at _ _))

-- one statement
abbrev values : ℕ → List (List ℕ) → List Values
values at texts = record { entries = texts; at = at } ∷ []

bad-append : (at : ℕ) (a b : Bool)
    → least (filter_map {X = Bool} (λ c. if c then Some at else None) ((a || b) ∷ [])) ≡ lesser
    (least (filter_map {X = Bool} (λ c. if c then Some at else None) (a ∷ [])))
    (least (filter_map {X = Bool} (λ c. if c then Some at else None) (b ∷ [])))
bad-append at false b = refl
bad-append at true false = refl
bad-append at true true = let e : at ≡ min at at = omega arith in ap Some e

positive-test : (n : ℕ) → 0 < n → (n == 0) ≡ false
positive-test n h = grind (arith, nat_tests)

some-append : {A : Type 0} (xs ys : List A) → not (length (xs ++ ys) == 0) ≡ (not (length xs == 0) || not (length ys == 0))
some-append [] ys = refl
some-append (x ∷ xs) ys =
    let whole : (length (x ∷ xs ++ ys) == 0) ≡ false = positive-test (length (x ∷ xs ++ ys)) (omega arith) in
    let front : (length (x ∷ xs) == 0) ≡ false = positive-test (length (x ∷ xs)) (omega arith) in
    ap not whole ∙ sym (ap (λ b. not b || not (length ys == 0)) front)

abbrev is_bad : Option TimeUnit → List ℕ → Bool
is_bad unit text = is_none (time_of unit text)

times-single : (unit : Option TimeUnit) (at : ℕ) (texts : List (List ℕ))
    → flat_map (times_of unit) (values at texts) ≡ filter_map (time_of unit) texts
times-single unit at texts = append-nil (filter_map (time_of unit) texts)

plus-texts : (unit : Option TimeUnit) (at : ℕ) (sum : Sum) (xs ys : List (List ℕ))
    → plus unit sum (values at (xs ++ ys)) ≡ plus unit (plus unit sum (values at xs)) (values at ys)
plus-texts unit at sum xs ys =
    let g : greatest (flat_map (times_of unit) (values at (xs ++ ys))) ≡ max (greatest (flat_map (times_of unit) (values at xs)))
    (greatest (flat_map (times_of unit) (values at ys))) =
    rw (times-single unit at (xs ++ ys), times-single unit at xs, times-single unit at ys, filter_map-append (time_of unit) xs ys)
    (greatest-append (filter_map (time_of unit) xs) (filter_map (time_of unit) ys)) in
    let h : list_any has_entry (values at (xs ++ ys)) ≡ (list_any has_entry (values at xs) || list_any has_entry (values at ys)) =
    rw (or-false (not (length (xs ++ ys) == 0)), or-false (not (length xs == 0)), or-false (not (length ys == 0)))
    (some-append xs ys) in
    let t : least (filter_map (bad_values_at unit) (values at (xs ++ ys))) ≡ lesser
    (least (filter_map (bad_values_at unit) (values at xs))) (least (filter_map (bad_values_at unit) (values at ys))) =
    rw (list_any-append (is_bad unit) xs ys) (bad-append at (list_any (is_bad unit) xs) (list_any (is_bad unit) ys)) in
    same_sum _ _
    (ap (λ b. sum.has_entry || b) h ∙ sym (or-assoc sum.has_entry _ _))
    (omega arith)
    (ap (lesser sum.bad_at) t ∙ sym (lesser_assoc sum.bad_at _ _))

plus-no_texts : (unit : Option TimeUnit) (at : ℕ) (sum : Sum) → plus unit sum (values at []) ≡ sum
plus-no_texts unit at sum = plus-nil unit sum

entry-time : (unit : Option TimeUnit) (at : ℕ) (sum : Sum) (text : List ℕ) (time : Option ℕ) → time_of unit text ≡ time
    → with_time at sum time ≡ plus unit sum (values at (text ∷ []))
entry-time unit at sum text None e = rw e (same_sum _ _ (sym (has_one sum.has_entry true refl)) (omega arith) refl)
entry-time unit at sum text (Some time) e =
    rw e (same_sum _ _ (sym (has_one sum.has_entry true refl)) (omega arith) (sym (lesser_none sum.bad_at)))

texts-fold : (unit : Option TimeUnit) (at : ℕ) (sum : Sum) (texts : List (List ℕ))
    → fold (with_entry unit at) sum texts ≡ plus unit sum (values at texts)
texts-fold unit at sum [] = sym (plus-no_texts unit at sum)
texts-fold unit at sum (text ∷ texts) =
    texts-fold unit at (with_entry unit at sum text) texts
    ∙ ap (λ s. plus unit s (values at texts)) (entry-time unit at sum text (time_of unit text) refl)
    ∙ sym (plus-texts unit at sum (text ∷ []) texts)

arguments-fold : (unit : Option TimeUnit) (at : ℕ) (sum : Sum) (arguments : List Value)
    → with_arguments unit at sum arguments ≡ plus unit sum (values at (entries_of arguments))
arguments-fold unit at sum [] = sym (plus-no_texts unit at sum)
arguments-fold unit at sum (value ∷ arguments) =
    arguments-fold unit at (with_text unit at sum value.bytes) arguments
    ∙ ap (λ s. plus unit s (values at (entries_of arguments))) (texts-fold unit at sum (words_between is_separator value.bytes))
    ∙ sym (plus-texts unit at sum (words_between is_separator value.bytes) (entries_of arguments))

-- a statement, and one that is there or not
abbrev listed : {A : Type 0} → Option A → List A
listed o = cons_option o []

named-item : (unit : Option TimeUnit) (sum : Sum) (arguments : List Value) (at : ℕ) (b : Bool) →
    (if b then with_arguments unit at sum arguments else sum) ≡ plus unit sum
    (listed (if b then Some (record { entries = entries_of arguments; at = at }) else None))
named-item unit sum arguments at true = arguments-fold unit at sum arguments
named-item unit sum arguments at false = sym (plus-nil unit sum)

item-sum : (unit : Option TimeUnit) (sum : Sum) (l : Item-F Item Group)
    → with_item unit sum l ≡ plus unit sum (listed (values_as l))
item-sum unit sum (layer.Simple n value at) = sym (plus-nil unit sum)
item-sum unit sum (layer.Complex n arguments at) = named-item unit sum arguments at (bytes_eq n (codes "values"))
item-sum unit sum (layer.Inner group) = sym (plus-nil unit sum)

listed-append : {A : Type 0} (o : Option A) (xs : List A) → cons_option o xs ≡ listed o ++ xs
listed-append None xs = refl
listed-append (Some x) xs = refl

items-fold : (unit : Option TimeUnit) (sum : Sum) (items : List Item) →
    fold (λ sum item. with_item unit sum (out-Item item)) sum items ≡ plus unit sum
    (filter_map (λ item. values_as (out-Item item)) items)
items-fold unit sum [] = sym (plus-nil unit sum)
items-fold unit sum (item ∷ items) =
    items-fold unit (with_item unit sum (out-Item item)) items
    ∙ ap (λ s. plus unit s (filter_map (λ item. values_as (out-Item item)) items)) (item-sum unit sum (out-Item item))
    ∙ sym (plus-append unit sum (listed (values_as (out-Item item))) (filter_map (λ item. values_as (out-Item item)) items))
    ∙ sym (ap (plus unit sum) (listed-append (values_as (out-Item item)) (filter_map (λ item. values_as (out-Item item)) items)))

optional-sum : (unit : Option TimeUnit) (sum : Sum) (o : Option Group)
    → with_optional unit sum o ≡ plus unit sum (flat_map values_of (listed o))
optional-sum unit sum None = sym (plus-nil unit sum)
optional-sum unit sum (Some table) = items-fold unit sum table.items ∙ sym (ap (plus unit sum) (append-nil (values_of table)))

-- the sum of the tables of one name is that of all their statements
pub tables-fold : (unit : Option TimeUnit) (name : List ℕ) (sum : Sum) (items : List Item)
    → with_tables unit name sum items ≡ plus unit sum (flat_map values_of (groups_named name items))
tables-fold unit name sum [] = sym (plus-nil unit sum)
tables-fold unit name sum (item ∷ items) =
    tables-fold unit name (with_optional unit sum (group_named name (out-Item item))) items
    ∙ ap (λ s. plus unit s (flat_map values_of (groups_named name items)))
    (optional-sum unit sum (group_named name (out-Item item)))
    ∙ sym (plus-append unit sum (flat_map values_of (listed (group_named name (out-Item item))))
    (flat_map values_of (groups_named name items)))
    ∙ sym (ap (plus unit sum) (ap (flat_map values_of)
    (listed-append (group_named name (out-Item item)) (groups_named name items))
    ∙ flat_map-append values_of (listed (group_named name (out-Item item))) (groups_named name items)))

-- what the tables of one name in a group give
pub tables-limit : (unit : Option TimeUnit) (name : List ℕ) (group : Group)
    → (with_tables unit name no_sum group.items).greatest ≡ limit_of unit name group
unfolding limit_of
tables-limit unit name group = ap (λ s. s.greatest) (tables-fold unit name no_sum group.items) ∙ omega arith

pub tables-bad_at : (unit : Option TimeUnit) (name : List ℕ) (group : Group)
    → (with_tables unit name no_sum group.items).bad_at ≡ least (filter_map (bad_values_at unit) (values_named name group))
tables-bad_at unit name group = ap (λ s. s.bad_at) (tables-fold unit name no_sum group.items)

pub tables-has_entry : (unit : Option TimeUnit) (name : List ℕ) (group : Group)
    → (with_tables unit name no_sum group.items).has_entry ≡ list_any has_entry (values_named name group)
tables-has_entry unit name group = ap (λ s. s.has_entry) (tables-fold unit name no_sum group.items)

empty-least : (vs : List Values) (tables : List Group)
    → least (empty_tables_at vs tables) ≡ first_unless (list_any has_entry vs) (first_of tables)
empty-least vs [] = refl
empty-least vs (table ∷ tables) =
    elim (list_any has_entry vs) as (λ b. least (if b then [] else table.at ∷ []) ≡ (if b then None else Some table.at))
    [ true ↦ refl | false ↦ refl ]

-- the least offset of what is wrong in the tables of one name
pub bad_numbers-least : (unit : Option TimeUnit) (name : List ℕ) (group : Group) →
    lesser (first_unless (with_tables unit name no_sum group.items).has_entry (first_of (groups_named name group.items)))
    (with_tables unit name no_sum group.items).bad_at ≡ least (bad_numbers_at unit name group)
unfolding bad_numbers_at
bad_numbers-least unit name group =
    rw (tables-has_entry unit name group, tables-bad_at unit name group)
    (ap (λ a. lesser a (least (filter_map (bad_values_at unit) (values_named name group))))
    (sym (empty-least (values_named name group) (groups_named name group.items)))
    ∙ sym (least_append (empty_tables_at (values_named name group) (groups_named name group.items))
    (filter_map (bad_values_at unit) (values_named name group))))
