-- What the rules of a cell say of its functions and supports.
use Rattle.std.proofs.Common.{◌≡◌, ℕ, zero, suc, ◌+◌, ◌*◌, ◌<◌, ◌≤◌, max, Bool, ◌||◌, ◌==◌, List, [], ◌∷◌, ◌++◌, length, refl}
use Rattle.std.proofs.Common.{sym, ◌∙◌, subst, arith, IsTrue, Option, Some, None, nat_eq, nat_lt, inl, inr, eqb-true, slice_get}
use Rattle.std.specs.List.{list_all}
use Rattle.std.proofs.lemmas.List.Folds.{list_all-append}
use Rattle.std.proofs.lemmas.Bool.{and_parts, and_from, or_cases, ltb-true, lt-ltb, leb-true}
use Rattle.bool_functions.specs.declared.tree.Node.{Node}
use Rattle.bool_functions.specs.Tree.{names_of, name_bound, bound_step}
use Rattle.cell_machine.specs.declared.pins.Pin.{Pin}
use Rattle.cell_machine.specs.declared.groups.GroupKind.{GroupKind}
use Rattle.cell_machine.specs.declared.groups.GroupKind.TheVariants as kind
use Rattle.cell_machine.specs.declared.groups.StateGroup.{StateGroup}
use Rattle.cell_machine.specs.declared.cells.Cell.{Cell}
use Rattle.cell_machine.specs.Names.{has, names_of_optional}
use Rattle.cell_machine.specs.CellRules.{is_input_pin, control_names, data_names, is_group, are_groups_from}
use Rattle.cell_machine.specs.Values.{IsBounded}
use Rattle.cell_machine.specs.Step.{KindIsBounded}
use Rattle.cell_machine.specs.Supports.{AllBelow, GroupFacts}
use Rattle.cell_machine.proofs.RuleLemmas.{few_pins, few_groups, groups_hold}
use Rattle.cell_machine.proofs.StepLemmas.{ascending}
use Rattle.bool_functions.proofs.Trees.{every_tree, names_Name, names_Not, names_Xor, names_And, names_Or, fold-Zero, fold-One}
use Rattle.bool_functions.proofs.Trees.{fold-Name, fold-Not, fold-Xor, fold-And, fold-Or}

-- a test passes on each part of a list
list_all-parts :
    {X : Type 0} (p : X → Bool) (xs ys : List X)
    → IsTrue (list_all p (xs ++ ys)) → IsTrue (list_all p xs) × IsTrue (list_all p ys)
list_all-parts p xs ys h = and_parts (list_all p xs) (list_all p ys) (sym (list_all-append p xs ys) ∙ h)

-- what one test implies
pub list_all-implied :
    {X : Type 0} (p q : X → Bool) (xs : List X)
    → ((x : X) → IsTrue (p x) → IsTrue (q x)) → IsTrue (list_all p xs) → IsTrue (list_all q xs)
list_all-implied p q [] h k = refl
list_all-implied p q (x ∷ xs) h k =
    let parts = and_parts (p x) (list_all p xs) k in
    and_from (q x) (list_all q xs) (h x parts.0) (list_all-implied p q xs h parts.1)

-- Where each written name is below n, n bounds the names.
abbrev IsBoundedBy : ℕ → Node → Type 0
IsBoundedBy n f = IsTrue (list_all (λ i. nat_lt i n) (names_of f)) → name_bound f ≤ n

max-below : (x y n : ℕ) → x ≤ n → y ≤ n → max x y ≤ n
max-below x y n h k = omega arith

two-below :
    (n : ℕ) (f g : Node) → IsBoundedBy n f → IsBoundedBy n g
    → IsTrue (list_all (λ i. nat_lt i n) (names_of f ++ names_of g)) → max (name_bound f) (name_bound g) ≤ n
two-below n f g p q h =
    let parts = list_all-parts (λ i. nat_lt i n) (names_of f) (names_of g) h in
    max-below (name_bound f) (name_bound g) n (p parts.0) (q parts.1)

pub name_bound-below : (n : ℕ) (f : Node) → IsBoundedBy n f
name_bound-below n =
    every_tree (IsBoundedBy n)
    (record {
      zero_leaf = λ h. rw (fold-Zero ℕ bound_step) (omega arith);
      one_leaf = λ h. rw (fold-One ℕ bound_step) (omega arith);
      name_leaf = λ i h.
          let here : i < n = ltb-true i n (and_parts _ _ (rw (names_Name i) at h)).0 in
          rw (fold-Name ℕ bound_step i) (omega arith);
      not_of = λ f p h. rw (fold-Not ℕ bound_step f) (p (rw (names_Not f) at h));
      xor_of = λ f g p q h. rw (fold-Xor ℕ bound_step f g) (two-below n f g p q (rw (names_Xor f g) at h));
      and_of = λ f g p q h. rw (fold-And ℕ bound_step f g) (two-below n f g p q (rw (names_And f g) at h));
      or_of = λ f g p q h. rw (fold-Or ℕ bound_step f g) (two-below n f g p q (rw (names_Or f g) at h));
    })

-- a number in a list passes what all in the list pass
pub has-all : (p : ℕ → Bool) (xs : List ℕ) (i : ℕ) → IsTrue (list_all p xs) → IsTrue (has xs i) → IsTrue (p i)
has-all p [] i h k = absurd cc
has-all p (x ∷ xs) i h k =
    let parts = and_parts (p x) (list_all p xs) h in
    elim (or_cases (x == i) (has xs i) k) [
      | inl e ↦ subst (λ j. IsTrue (p j)) (eqb-true x i e) parts.0
      | inr e ↦ has-all p xs i parts.1 e
    ]

-- the number of a pin is below the number of pins
pub input-below : (pins : List Pin) (p : ℕ) → IsTrue (is_input_pin pins p) → p < length pins
input-below [] p h = absurd cc
input-below (pin ∷ pins) zero h = omega arith
input-below (pin ∷ pins) (suc p) h = let below : p < length pins = input-below pins p h in omega arith

-- a function that names pins of a support alone, which has input pins alone, is bounded
names-below :
    (pins : List Pin) (support : List ℕ) (f : Node)
    → length pins ≤ 64 → IsTrue (list_all (is_input_pin pins) support) → IsTrue (list_all (has support) (names_of f))
    → name_bound f ≤ 96
names-below pins support f few inputs named =
    name_bound-below 96 f
    (list_all-implied (has support) (λ i. nat_lt i 96) (names_of f)
    (λ i h. let below : i < length pins = input-below pins i (has-all (is_input_pin pins) support i inputs h) in
    lt-ltb i 96 (omega arith))
    named)

optional-below :
    (pins : List Pin) (support : List ℕ) (f : Option Node)
    → length pins ≤ 64 → IsTrue (list_all (is_input_pin pins) support)
    → IsTrue (list_all (has support) (names_of_optional f)) → IsBounded f
optional-below pins support None few inputs named = tt
optional-below pins support (Some f) few inputs named = names-below pins support f few inputs named

-- the text that may name the group's own variables is bounded too
abbrev is_own : List ℕ → ℕ → ℕ → Bool
is_own support name i = has support i || (nat_eq i name || nat_eq i (name + 1))

own-below :
    (pins : List Pin) (support : List ℕ) (name : ℕ) (f : Node)
    → length pins ≤ 64 → name + 1 < 96 → IsTrue (list_all (is_input_pin pins) support)
    → IsTrue (list_all (is_own support name) (names_of f)) → name_bound f ≤ 96
own-below pins support name f few own inputs named =
    name_bound-below 96 f
    (list_all-implied (is_own support name) (λ i. nat_lt i 96) (names_of f)
    (λ i h. elim (or_cases (has support i) (nat_eq i name || nat_eq i (name + 1)) h) [
      | inl e ↦
          let below : i < length pins = input-below pins i (has-all (is_input_pin pins) support i inputs e) in
          lt-ltb i 96 (omega arith)
      | inr e ↦ elim (or_cases (nat_eq i name) (nat_eq i (name + 1)) e) [
        | inl k ↦ let same : i ≡ name = eqb-true i name k in lt-ltb i 96 (omega arith)
        | inr k ↦ let same : i ≡ name + 1 = eqb-true i (name + 1) k in lt-ltb i 96 (omega arith)
      ]
    ])
    named)

own-optional-below :
    (pins : List Pin) (support : List ℕ) (name : ℕ) (f : Option Node)
    → length pins ≤ 64 → name + 1 < 96 → IsTrue (list_all (is_input_pin pins) support)
    → IsTrue (list_all (is_own support name) (names_of_optional f)) → IsBounded f
own-optional-below pins support name None few own inputs named = tt
own-optional-below pins support name (Some f) few own inputs named = own-below pins support name f few own inputs named

kind-bounded :
    (pins : List Pin) (support : List ℕ) (name : ℕ) (kind : GroupKind)
    → length pins ≤ 64 → name + 1 < 96 → IsTrue (list_all (is_input_pin pins) support)
    → IsTrue (list_all (has support) (control_names kind))
    → IsTrue (list_all (is_own support name) (data_names kind))
    → KindIsBounded kind
kind-bounded pins support name (kind.Ff k) few own inputs control data_ =
    let first = list_all-parts (has support) (names_of k.clocked_on) (names_of_optional k.clear ++ names_of_optional k.preset)
    control in
    let second = list_all-parts (has support) (names_of_optional k.clear) (names_of_optional k.preset) first.1 in (
      own-below pins support name k.next_state few own inputs data_,
      names-below pins support k.clocked_on few inputs first.0,
      optional-below pins support k.clear few inputs second.0,
      optional-below pins support k.preset few inputs second.1,
    )
kind-bounded pins support name (kind.Latch k) few own inputs control data_ =
    let first = list_all-parts (has support) (names_of_optional k.enable)
    (names_of_optional k.clear ++ names_of_optional k.preset) control in
    let second = list_all-parts (has support) (names_of_optional k.clear) (names_of_optional k.preset) first.1 in (
      own-optional-below pins support name k.data_in few own inputs data_,
      optional-below pins support k.enable few inputs first.0,
      optional-below pins support k.clear few inputs second.0,
      optional-below pins support k.preset few inputs second.1,
    )
kind-bounded pins support name (kind.Table table node inputs') few own inputs control data_ = tt

all-below :
    (pins : List Pin) (support : List ℕ)
    → length pins ≤ 64 → IsTrue (list_all (is_input_pin pins) support) → AllBelow 96 support
all-below pins [] few inputs = tt
all-below pins (p ∷ support) few inputs =
    let parts = and_parts _ _ inputs in
    let below : p < length pins = input-below pins p parts.0 in
    (omega arith, all-below pins support few parts.1)

pub group_facts :
    (pins : List Pin) (name : ℕ) (group : StateGroup)
    → length pins ≤ 64 → name + 1 < 96 → IsTrue (is_group pins name group) → GroupFacts name group
group_facts pins name group few own h =
    let whole = and_parts _ _ h in
    let support = and_parts _ _ whole.0 in
    let support2 = and_parts _ _ support.1 in
    let support3 = and_parts _ _ support2.1 in
    let names = and_parts _ _ (and_parts _ _ whole.1).0 in
    record {
      named = own;
      bounded = kind-bounded pins group.support name group.kind few own support3.1 names.0 (and_parts _ _ names.1).0;
      ascends = ascending group.support support3.0;
      inside = all-below pins group.support few support3.1;
      few = leb-true _ _ support2.0;
      some = ltb-true _ _ support.0;
    }

pub groups_facts :
    (pins : List Pin) (name : ℕ) (groups : List StateGroup) (i : ℕ) (group : StateGroup)
    → length pins ≤ 64 → name + 2 * length groups ≤ 96 → IsTrue (are_groups_from pins name groups)
    → slice_get groups i ≡ Some group → GroupFacts (name + 2 * i) group
groups_facts pins name [] i group few room h e = absurd cc
groups_facts pins name (g ∷ groups) zero group few room h e =
    let parts = and_parts (is_group pins name g) (are_groups_from pins (name + 2) groups) h in
    let is : g ≡ group = cc in
    subst (λ n. GroupFacts n group) (omega arith)
    (subst (λ x. GroupFacts name x) is (group_facts pins name g few (omega arith) parts.0))
groups_facts pins name (g ∷ groups) (suc i) group few room h e =
    let parts = and_parts (is_group pins name g) (are_groups_from pins (name + 2) groups) h in
    subst (λ n. GroupFacts n group) (omega arith)
    (groups_facts pins (name + 2) groups i group few (omega arith) parts.1 e)

-- what the steps of the groups of a cell need
pub cell_group_facts :
    (cell : Cell) (i : ℕ) (group : StateGroup)
    → slice_get cell.groups i ≡ Some group → GroupFacts (length cell.pins + 2 * i) group
cell_group_facts cell i group e =
    let few : length cell.pins ≤ 64 = few_pins cell in
    let some : length cell.groups ≤ 16 = few_groups cell in
    groups_facts cell.pins (length cell.pins) cell.groups i group few (omega arith) (groups_hold cell) e
