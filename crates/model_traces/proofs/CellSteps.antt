-- The groups of a cell by their numbers: their names, their steps and their supports; and the conditions by theirs.
use Rattle.std.proofs.Common.{◌≡◌, ℕ, zero, suc, ◌+◌, ◌*◌, ◌<◌, Bool, true, false, List, [], ◌∷◌, ◌++◌, length, inl, inr, refl}
use Rattle.std.proofs.Common.{ap}
use Rattle.std.proofs.Common.{◌∙◌, sym, subst, arith, IsTrue, Some, option_map, slice_get, nat_lt, flat_map, if◌then◌else◌}
use Rattle.std.specs.List.{list_all}
use Rattle.std.specs.Option.{option_map_or}
use Rattle.std.proofs.lemmas.Bool.{and_parts, lt-ltb}
use Rattle.std.proofs.lemmas.Option.{slice_get-map}
use Rattle.trit_cubes.specs.declared.trits.Trit.TheVariants.{Unknown}
use Rattle.trit_cubes.proofs.ListLemmas.{Among, among-contains, append-among_left, append-among_right}
use Rattle.bool_functions.specs.declared.tree.Node.{Node}
use Rattle.bool_functions.specs.SameTrees.{same_tree}
use Rattle.bool_functions.proofs.SameTreeLemmas.{same_tree-equal}
use Rattle.cell_machine.specs.declared.pins.Pin.{Pin}
use Rattle.cell_machine.specs.declared.groups.StateGroup.{StateGroup}
use Rattle.cell_machine.specs.declared.outputs.OutputPin.{OutputPin}
use Rattle.cell_machine.specs.declared.checks.Check.{Check}
use Rattle.cell_machine.specs.declared.arcs.Arc.{Arc}
use Rattle.cell_machine.specs.CellData.{CellData}
use Rattle.cell_machine.specs.CellRules.{is_ascending, is_output, is_input_pin, is_output_pin, output_pins_from, is_source}
use Rattle.cell_machine.specs.CellRules.{is_output_of, are_groups_from, HoldsRules}
use Rattle.cell_machine.specs.Names.{state_name}
use Rattle.cell_machine.specs.Step.{group_step}
use Rattle.cell_machine.specs.Supports.{Ascending}
use Rattle.cell_machine.specs.CellTrace.{NamedGroup, named_from, step_of, support_at, step_at}
use Rattle.cell_machine.proofs.StepLemmas.{ascending}
use Rattle.udp_tables.specs.Conditions.{condition_list, arc_conditions, used_conditions, conditions_of, condition_place}
use Rattle.udp_tables.specs.Laws.{ConditionsAreNumbered}
use Rattle.specify_blocks.proofs.cell_tables.CellParts.{group_support-at}
use Rattle.specify_blocks.proofs.OutputPins.{outputs_are_pins}

-- a group at its place, with the name of its state
pub record IsNamed (d : CellData) (i : ℕ) (g : NamedGroup) : Type 0 where
  pub at : slice_get d.groups i ≡ Some g.group
  pub name : g.name ≡ state_name (length d.pins) i

named-get :
    (name : ℕ) (groups : List StateGroup) (i : ℕ) (g : NamedGroup)
    → slice_get (named_from name groups) i ≡ Some g
    → (slice_get groups i ≡ Some g.group) × (g.name ≡ name + 2 * i)
named-get name [] i g e = absurd cc
named-get name (x ∷ xs) zero g e =
    let same : record { name = name; group = x } ≡ g = cc in
    let at : name ≡ name + 2 * 0 = omega arith in (
      ap (λ (y : NamedGroup). Some y.group) same,
      ap (λ (y : NamedGroup). y.name) (sym same) ∙ at,
    )
named-get name (x ∷ xs) (suc i) g e =
    let rest = named-get (name + 2) xs i g e in
    let at : (name + 2) + 2 * i ≡ name + 2 * suc i = omega arith in
    (rest.0, rest.1 ∙ at)

pub named : (d : CellData) (i : ℕ) (g : NamedGroup) → slice_get (named_from (length d.pins) d.groups) i ≡ Some g → IsNamed d i g
named d i g e = let both = named-get (length d.pins) d.groups i g e in record { at = both.0; name = both.1 }

pub support-is : (d : CellData) (i : ℕ) (g : NamedGroup) → IsNamed d i g → support_at d i ≡ g.group.support
support-is d i g h = ap (λ o. option_map_or (λ (group : StateGroup). group.support) o []) h.at

pub step-is : (d : CellData) (i : ℕ) (g : NamedGroup) → IsNamed d i g → step_at d i ≡ step_of g
step-is d i g h =
    λ n before after s.
    option_map_or (λ (group : StateGroup). group_step (sym h.name n) group before after s) (h.at n) Unknown

-- the support of a group as its steps need it
pub record IsSupport (pins : List Pin) (support : List ℕ) : Type 0 where
  pub inputs : IsTrue (list_all (is_input_pin pins) support)
  pub ascends : Ascending support

pub supported :
    (pins : List Pin) (name : ℕ) (groups : List StateGroup) (i : ℕ) (group : StateGroup)
    → IsTrue (are_groups_from pins name groups) → slice_get groups i ≡ Some group → IsSupport pins group.support
supported pins name groups i group h e =
    let some = and_parts _ _ (group_support-at pins name groups i group h e) in
    let few = and_parts _ _ some.1 in
    let parts = and_parts (is_ascending group.support) (list_all (is_input_pin pins) group.support) few.1 in
    record { inputs = parts.1; ascends = ascending group.support parts.0 }

-- the condition with the number of one that is used
pub place-is :
    (f : Node) (trees : List Node)
    → condition_place trees f < length trees → slice_get trees (condition_place trees f) ≡ Some f
place-is f [] h = absurd (omega arith)
place-is f (g ∷ trees) h = by (same_tree f g) refl h (λ k. place-is f trees k)
  where
    by :
        (b : Bool) → same_tree f g ≡ b → (if b then 0 else condition_place trees f + 1) < suc (length trees)
        → (condition_place trees f < length trees → slice_get trees (condition_place trees f) ≡ Some f)
        → slice_get (g ∷ trees) (if b then 0 else condition_place trees f + 1) ≡ Some f
    by true e h again = ap Some (sym (same_tree-equal f g e))
    by false e h again =
        let next : suc (condition_place trees f) ≡ condition_place trees f + 1 = omega arith in
        subst (λ n. slice_get (g ∷ trees) n ≡ Some f) next (again (omega (arith, h)))

flat-among : {X Y : Type 0} (f : X → List Y) (y : Y) (xs : List X) (x : X) → Among x xs → Among y (f x) → Among y (flat_map f xs)
flat-among f y [] x m k = absurd m
flat-among f y (z ∷ zs) x (inl e) k = append-among_left y (f z) (flat_map f zs) (subst (λ w. Among y (f w)) (sym e) k)
flat-among f y (z ∷ zs) x (inr n) k = append-among_right y (f z) (flat_map f zs) (flat-among f y zs x n k)

module _ (numbered : ConditionsAreNumbered) (d : CellData) where
  -- the conditions that the checks use, and those that the arcs use
  abbrev by_checks : List Node
  by_checks = flat_map (λ (k : Check). condition_list k.condition) d.checks

  abbrev by_arcs : List Node
  by_arcs = flat_map (arc_conditions d.arcs) d.arcs

  placed : (f : Node) → Among f (by_checks ++ by_arcs) → condition_place (conditions_of d) f < length (conditions_of d)
  placed f h = numbered d f (among-contains f (used_conditions d) h)

  pub check-place :
      (k : Check) (f : Node) → Among k d.checks → Among f (condition_list k.condition)
      → condition_place (conditions_of d) f < length (conditions_of d)
  check-place k f m h =
      placed f (append-among_left f by_checks by_arcs (flat-among (λ (k : Check). condition_list k.condition) f d.checks k m h))

  pub arc-place :
      (arc : Arc) (f : Node) → Among arc d.arcs → Among f (arc_conditions d.arcs arc)
      → condition_place (conditions_of d) f < length (conditions_of d)
  arc-place arc f m h = placed f (append-among_right f by_checks by_arcs (flat-among (arc_conditions d.arcs) f d.arcs arc m h))

-- an output as its models need it: it is an output pin, and its sources are input pins and states
pub record IsOutputPin (d : CellData) (output : OutputPin) : Type 0 where
  pub at : IsTrue (is_output_pin d.pins output.pin)
  pub sources : IsTrue (list_all (is_source d.pins d.groups) output.support)

output-pins-pass :
    (k : ℕ) (pins : List Pin) (i q : ℕ)
    → slice_get (output_pins_from k pins) i ≡ Some q → (j : ℕ) × (q ≡ k + j) × IsTrue (is_output_pin pins j)
output-pins-pass k [] i q e = absurd cc
output-pins-pass k (pin ∷ pins) i q e = by (is_output pin.direction) refl i e (λ n f. output-pins-pass (k + 1) pins n q f)
  where
    by :
        (b : Bool) → is_output pin.direction ≡ b → (i : ℕ)
        → slice_get (if b then k ∷ output_pins_from (k + 1) pins else output_pins_from (k + 1) pins) i ≡ Some q
        → ((n : ℕ) → slice_get (output_pins_from (k + 1) pins) n ≡ Some q → (j : ℕ) × (q ≡ (k + 1) + j)
        × IsTrue (is_output_pin pins j))
        → (j : ℕ) × (q ≡ k + j) × IsTrue (is_output_pin (pin ∷ pins) j)
    by true t zero e again =
        let same : k ≡ q = cc in
        let at : q ≡ k + 0 = omega (arith, same) in
        (0, at, t)
    by true t (suc i) e again =
        let rest = again i e in
        let at : q ≡ k + suc rest.0 = omega (arith, rest.1) in
        (suc rest.0, at, rest.2)
    by false f i e again =
        let rest = again i e in
        let at : q ≡ k + suc rest.0 = omega (arith, rest.1) in
        (suc rest.0, at, rest.2)

all-get : {X : Type 0} (p : X → Bool) (xs : List X) (i : ℕ) (x : X) → IsTrue (list_all p xs) → slice_get xs i ≡ Some x
    → IsTrue (p x)
all-get p [] i x h e = absurd cc
all-get p (y ∷ ys) zero x h e =
    let same : y ≡ x = cc in subst (λ z. IsTrue (p z)) same (and_parts (p y) (list_all p ys) h).0
all-get p (y ∷ ys) (suc i) x h e = all-get p ys i x (and_parts (p y) (list_all p ys) h).1 e

pub output-pin :
    (d : CellData) → HoldsRules d.name d.pins d.groups d.outputs d.checks d.arcs
    → (k : ℕ) (output : OutputPin) → slice_get d.outputs k ≡ Some output → IsOutputPin d output
output-pin d rules k output e =
    let pin : OutputPin → ℕ = λ (o : OutputPin). o.pin in
    let listed : slice_get (output_pins_from 0 d.pins) k ≡ Some output.pin =
    ap (λ ps. slice_get ps k) (sym (outputs_are_pins d.pins d.groups d.outputs rules.of_outputs))
    ∙ slice_get-map pin d.outputs k ∙ ap (option_map pin) e in
    let found = output-pins-pass 0 d.pins k output.pin listed in
    let same : found.0 ≡ output.pin = omega (arith, found.1) in
    let each_one = (and_parts _ (list_all (is_output_of d.pins d.groups) d.outputs) rules.of_outputs).1 in
    let own = all-get (is_output_of d.pins d.groups) d.outputs k output each_one e in
    record {
      at = subst (λ q. IsTrue (is_output_pin d.pins q)) same found.2;
      sources = (and_parts _ _ (and_parts _ _ own).1).0;
    }

pub all-passes : {X : Type 0} (p : X → Bool) (xs : List X) (x : X) → IsTrue (list_all p xs) → Among x xs → IsTrue (p x)
all-passes p [] x h m = absurd m
all-passes p (y ∷ ys) x h (inl e) = subst (λ z. IsTrue (p z)) e (and_parts (p y) (list_all p ys) h).0
all-passes p (y ∷ ys) x h (inr m) = all-passes p ys x (and_parts (p y) (list_all p ys) h).1 m

-- an output without sources
pub no-sources : {X : Type 0} (xs : List X) → nat_lt 0 (length xs) ≡ false → xs ≡ []
no-sources [] h = refl
no-sources (x ∷ xs) h = let some : nat_lt 0 (length (x ∷ xs)) ≡ true = lt-ltb 0 (length (x ∷ xs)) (omega arith) in absurd cc

pub length-named : (name : ℕ) (groups : List StateGroup) → length (named_from name groups) ≡ length groups
length-named name [] = refl
length-named name (group ∷ groups) = ap suc (length-named (name + 2) groups)
