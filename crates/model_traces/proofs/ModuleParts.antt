-- The instances of a generated module: their places, what drives each net, and which have states.
use Rattle.std.proofs.Common.{◌≡◌, ℕ, zero, suc, ◌+◌, ◌<◌, Bool, true, false, List, [], ◌∷◌, ◌++◌, length, map, get_or, refl, sym}
use Rattle.std.proofs.Common.{ap, ◌∙◌, arith, IsTrue, Some, slice_get, length-append, codes, if◌then◌else◌}
use Rattle.std.specs.Prelude.{filter}
use Rattle.std.specs.Option.{option_map_or}
use Rattle.std.proofs.lemmas.Bool.{eq-eqb, lt-ltb}
use Rattle.std.proofs.lemmas.List.Elements.{filter-append}
use Rattle.std.proofs.lemmas.List.{append-nil}
use Rattle.std.proofs.lemmas.Option.{slice_get_within as get-within}
use Rattle.trit_cubes.specs.declared.trits.Trit.{Trit}
use Rattle.trit_cubes.specs.declared.trits.Trit.TheVariants.{Unknown}
use Rattle.bool_functions.specs.declared.tree.Node.{Node}
use Rattle.bool_functions.specs.Tree.{value_of}
use Rattle.cell_machine.specs.declared.groups.StateGroup.{StateGroup}
use Rattle.cell_machine.specs.declared.outputs.OutputPin.{OutputPin}
use Rattle.cell_machine.specs.CellData.{CellData}
use Rattle.cell_machine.specs.CellRules.{is_output_pin}
use Rattle.cell_machine.specs.Values.{no_values}
use Rattle.udp_tables.specs.declared.table.Udp.{Udp}
use Rattle.udp_tables.specs.Conditions.{conditions_of}
use Rattle.udp_tables.specs.CellPrimitives.{has_sources, output_primitive}
use Rattle.specify_blocks.specs.declared.model.VNet.{VNet}
use Rattle.specify_blocks.specs.declared.model.VNet.TheVariants as net
use Rattle.specify_blocks.specs.declared.model.Instance.{Instance}
use Rattle.specify_blocks.specs.declared.model.Instance.TheVariants as instance
use Rattle.specify_blocks.specs.Nets.{same_net, net_driven, has_state, is_driven}
use Rattle.specify_blocks.specs.Sound.{IsSound}
use Rattle.specify_blocks.specs.Names.{state_wires, condition_wires}
use Rattle.specify_blocks.specs.Generated.{condition_count, wires_of, condition_wire, pin_net, source_net, each_from}
use Rattle.specify_blocks.specs.Generated.{group_instance, condition_instance, output_instance, after_output, output_instances}
use Rattle.specify_blocks.specs.Generated.{instances_of, output_primitives, primitives_of, module_of}
use Rattle.specify_blocks.proofs.PrimitiveLemmas.{get-left, get-right, numbered-length, group_primitive-at}
use Rattle.specify_blocks.proofs.PrimitiveLemmas.{condition_primitive-at, output_primitive-at}
use Rattle.specify_blocks.specs.Ports.{port_number}
use Rattle.specify_blocks.proofs.PortLemmas.{output_port}
use Rattle.specify_blocks.proofs.InstanceLemmas.{output_net}
use Rattle.model_traces.specs.NetValues.{driver}
use Rattle.model_traces.specs.SequentialStates.{picked, states_among}
use Rattle.model_traces.proofs.PlaceLemmas.{position-from, only-place, filter-all, filter-none}

pub length-each : {X Y : Type 0} (make : ℕ → X → Y) (k : ℕ) (xs : List X) → length (each_from make k xs) ≡ length xs
length-each make k [] = refl
length-each make k (x ∷ xs) = ap suc (length-each make (k + 1) xs)

each-get :
    {X Y : Type 0} (make : ℕ → X → Y) (k : ℕ) (xs : List X) (i : ℕ) (x : X)
    → slice_get xs i ≡ Some x → slice_get (each_from make k xs) i ≡ Some (make (k + i) x)
each-get make k [] i x e = absurd cc
each-get make k (y ∷ ys) zero x e =
    let same : y ≡ x = cc in
    let at : k ≡ k + 0 = omega arith in
    λ n. Some (make (at n) (same n))
each-get make k (y ∷ ys) (suc i) x e =
    let at : (k + 1) + i ≡ k + suc i = omega arith in
    each-get make (k + 1) ys i x e ∙ ap (λ n. Some (make n x)) at

-- what each entry is made of
each-made :
    {X Y : Type 0} (make : ℕ → X → Y) (k : ℕ) (xs : List X) (i : ℕ) (y : Y)
    → slice_get (each_from make k xs) i ≡ Some y → (x : X) × (slice_get xs i ≡ Some x) × (y ≡ make (k + i) x)
each-made make k [] i y e = absurd cc
each-made make k (x ∷ xs) zero y e =
    let same : make k x ≡ y = cc in
    let at : k ≡ k + 0 = omega arith in
    (x, refl, sym same ∙ ap (λ n. make n x) at)
each-made make k (x ∷ xs) (suc i) y e =
    let rest = each-made make (k + 1) xs i y e in
    let at : (k + 1) + i ≡ k + suc i = omega arith in
    (rest.0, rest.1, rest.2 ∙ ap (λ n. make n rest.0) at)

-- an output's instance at its place, with its primitive
pub record IsPlaced (d : CellData) (instances : List Instance) (udps : List Udp) (i k : ℕ) (output : OutputPin) : Type 0 where
  pub number : ℕ
  pub at : slice_get instances k ≡ Some (output_instance d number output)
  pub primitive : has_sources output ≡ true → slice_get udps number ≡ Some (output_primitive d (i + k))

output-placed :
    (d : CellData) (udps : List Udp) (i j : ℕ) (outputs : List OutputPin) (k : ℕ) (output : OutputPin)
    → ((n : ℕ) → slice_get udps (j + n) ≡ slice_get (output_primitives d i outputs) n)
    → slice_get outputs k ≡ Some output → IsPlaced d (output_instances d j outputs) udps i k output
output-placed d udps i j [] k output at e = absurd cc
output-placed d udps i j (o ∷ outputs) zero output at e =
    let same : o ≡ output = cc in
    record {
      number = j;
      at = ap (λ x. Some (output_instance d j x)) same;
      primitive =
          λ some.
          let here : j + 0 ≡ j = omega arith in
          let number : i ≡ i + 0 = omega arith in
          sym (ap (slice_get udps) here)
          ∙ at 0
          ∙ ap (λ b. slice_get (if b then output_primitive d i ∷ output_primitives d (i + 1) outputs
          else output_primitives d (i + 1) outputs) 0)
          (ap has_sources same ∙ some)
          ∙ ap (λ n. Some (output_primitive d n)) number;
    }
output-placed d udps i j (o ∷ outputs) (suc k) output at e =
    let rest = output-placed d udps (i + 1) (after_output j o) outputs k output (later (has_sources o) at) e in
    let moved : (i + 1) + k ≡ i + suc k = omega arith in
    record {
      number = rest.number;
      at = rest.at;
      primitive = λ some. rest.primitive some ∙ ap (λ n. Some (output_primitive d n)) moved;
    }
  where
    later :
        (b : Bool)
        → ((n : ℕ) → slice_get udps (j + n) ≡ slice_get (if b then output_primitive d i ∷ output_primitives d (i + 1) outputs
        else output_primitives d (i + 1) outputs) n)
        → (n : ℕ) → slice_get udps ((if b then j + 1 else j) + n) ≡ slice_get (output_primitives d (i + 1) outputs) n
    later true at n = let moved : (j + 1) + n ≡ j + suc n = omega arith in ap (slice_get udps) moved ∙ at (suc n)
    later false at n = at n

-- the instances of the outputs have no states
outputs-stateless :
    (d : CellData) (udps : List Udp) (i j : ℕ) (outputs : List OutputPin)
    → ((n : ℕ) → slice_get udps (j + n) ≡ slice_get (output_primitives d i outputs) n)
    → filter (has_state udps) (output_instances d j outputs) ≡ []
outputs-stateless d udps i j outputs at =
    filter-none (has_state udps) (output_instances d j outputs) (none i j outputs at)
  where
    one :
        (i j : ℕ) (o : OutputPin) (outputs : List OutputPin) (b : Bool)
        → ((n : ℕ) → slice_get udps (j + n) ≡ slice_get (if b then output_primitive d i ∷ output_primitives d (i + 1) outputs
        else output_primitives d (i + 1) outputs) n)
        → has_state udps (if b then instance.Primitive j (pin_net d.pins o.pin) (map (source_net d.pins) o.support)
        else instance.Constant (pin_net d.pins o.pin) (value_of no_values o.function)) ≡ false
    one i j o outputs true at =
        let here : j + 0 ≡ j = omega arith in
        ap (λ x. option_map_or (λ (udp : Udp). udp.sequential) x false) (sym (ap (slice_get udps) here) ∙ at 0)
    one i j o outputs false at = refl

    later :
        (i j : ℕ) (outputs : List OutputPin) (b : Bool)
        → ((n : ℕ) → slice_get udps (j + n) ≡ slice_get (if b then output_primitive d i ∷ output_primitives d (i + 1) outputs
        else output_primitives d (i + 1) outputs) n)
        → (n : ℕ) → slice_get udps ((if b then j + 1 else j) + n) ≡ slice_get (output_primitives d (i + 1) outputs) n
    later i j outputs true at n = let moved : (j + 1) + n ≡ j + suc n = omega arith in ap (slice_get udps) moved ∙ at (suc n)
    later i j outputs false at n = at n

    none :
        (i j : ℕ) (outputs : List OutputPin)
        → ((n : ℕ) → slice_get udps (j + n) ≡ slice_get (output_primitives d i outputs) n)
        → (k : ℕ) (x : Instance) → slice_get (output_instances d j outputs) k ≡ Some x → has_state udps x ≡ false
    none i j [] at k x e = absurd cc
    none i j (o ∷ outputs) at zero x e =
        let same : output_instance d j o ≡ x = cc in
        ap (has_state udps) (sym same) ∙ one i j o outputs (has_sources o) at
    none i j (o ∷ outputs) at (suc k) x e =
        none (i + 1) (after_output j o) outputs (later i j outputs (has_sources o) at) k x e

module _ (d : CellData) (sound : IsSound (module_of d)) where
  -- the place of the instance that drives a net
  driven-at :
      (n : VNet) (i : ℕ) (x : Instance)
      → IsTrue (is_driven (module_of d) n) → slice_get (instances_of d) i ≡ Some x → same_net (net_driven x) n ≡ true
      → driver (instances_of d) n ≡ Some i
  driven-at n i x needs at drives =
      let here : 0 + i ≡ i = omega arith in
      position-from (λ y. same_net (net_driven y) n) (instances_of d)
      ∙ only-place (λ y. same_net (net_driven y) n) 0 (instances_of d) i x (sound.driven n needs) at drives
      ∙ ap Some here

  wires-long : length (wires_of d) ≡ length d.groups + condition_count d
  wires-long =
      let whole = length-append (state_wires (length d.groups)) (condition_wires (condition_count d)) in
      omega (arith, whole, numbered-length (codes "lib_s") (length d.groups), numbered-length (codes "lib_c") (condition_count d))

  pub group-instance-at :
      (g : ℕ) (group : StateGroup) → slice_get d.groups g ≡ Some group
      → slice_get (instances_of d) g ≡ Some (group_instance d g group)
  group-instance-at g group e =
      let within = get-within d.groups g group e in
      let long = length-each (group_instance d) 0 d.groups in
      let here : 0 + g ≡ g = omega arith in
      get-left (each_from (group_instance d) 0 d.groups)
      (each_from (condition_instance d) 0 (conditions_of d) ++ output_instances d (length d.groups + condition_count d) d.outputs)
      g
      (omega (arith, within, long))
      ∙ each-get (group_instance d) 0 d.groups g group e
      ∙ ap (λ n. Some (group_instance d n group)) here

  pub condition-instance-at :
      (i : ℕ) (f : Node) → slice_get (conditions_of d) i ≡ Some f
      → slice_get (instances_of d) (condition_wire d i) ≡ Some (condition_instance d i f)
  condition-instance-at i f e =
      let within = get-within (conditions_of d) i f e in
      let long = length-each (condition_instance d) 0 (conditions_of d) in
      let here : 0 + i ≡ i = omega arith in
      get-right (each_from (group_instance d) 0 d.groups)
      (each_from (condition_instance d) 0 (conditions_of d) ++ output_instances d (length d.groups + condition_count d) d.outputs)
      (length d.groups) i (length-each (group_instance d) 0 d.groups)
      ∙ get-left (each_from (condition_instance d) 0 (conditions_of d))
      (output_instances d (length d.groups + condition_count d) d.outputs) i
      (omega (arith, within, long))
      ∙ each-get (condition_instance d) 0 (conditions_of d) i f e
      ∙ ap (λ n. Some (condition_instance d n f)) here

  pub output-instance-at :
      (k : ℕ) (output : OutputPin) → slice_get d.outputs k ≡ Some output
      → (number : ℕ)
      × (slice_get (instances_of d) (length d.groups + (condition_count d + k)) ≡ Some (output_instance d number output))
      × (has_sources output ≡ true → slice_get (primitives_of d) number ≡ Some (output_primitive d k))
  output-instance-at k output e =
      let placed = output-placed d (primitives_of d) 0 (length d.groups + condition_count d) d.outputs k output
      (output_primitive-at d) e in
      let here : 0 + k ≡ k = omega arith in (
        placed.number,
        get-right (each_from (group_instance d) 0 d.groups)
            (each_from (condition_instance d) 0 (conditions_of d)
            ++ output_instances d (length d.groups + condition_count d) d.outputs)
            (length d.groups) (condition_count d + k) (length-each (group_instance d) 0 d.groups)
            ∙ get-right (each_from (condition_instance d) 0 (conditions_of d))
            (output_instances d (length d.groups + condition_count d) d.outputs)
            (condition_count d) k (length-each (condition_instance d) 0 (conditions_of d))
            ∙ placed.at,
        λ some. placed.primitive some ∙ ap (λ n. Some (output_primitive d n)) here,
      )

  -- the driver of the wire of a state
  pub state-driver : (g : ℕ) → g < length d.groups → driver (instances_of d) (net.Wire g) ≡ Some g
  state-driver g within =
      let some = there d.groups g within in
      driven-at (net.Wire g) g (group_instance d g some.0) (lt-ltb g (length (wires_of d)) (omega (arith, wires-long, within)))
      (group-instance-at g some.0 some.1) (eq-eqb g g refl)
    where
      there : {X : Type 0} (xs : List X) (i : ℕ) → i < length xs → (x : X) × (slice_get xs i ≡ Some x)
      there [] i h = absurd (omega arith)
      there (x ∷ xs) zero h = (x, refl)
      there (x ∷ xs) (suc i) h = there xs i (omega arith)

  -- the driver of the wire of a condition
  pub condition-driver :
      (i : ℕ) (f : Node) → slice_get (conditions_of d) i ≡ Some f
      → driver (instances_of d) (net.Wire (condition_wire d i)) ≡ Some (condition_wire d i)
  condition-driver i f e =
      let within = get-within (conditions_of d) i f e in
      driven-at (net.Wire (condition_wire d i)) (condition_wire d i) (condition_instance d i f)
      (lt-ltb (condition_wire d i) (length (wires_of d)) (omega (arith, wires-long, within)))
      (condition-instance-at i f e) (eq-eqb (condition_wire d i) (condition_wire d i) refl)

  -- the instances of the groups have states
  group-passes :
      (i : ℕ) (x : Instance) → slice_get (each_from (group_instance d) 0 d.groups) i ≡ Some x
      → has_state (primitives_of d) x ≡ true
  group-passes i x e =
      let made = each-made (group_instance d) 0 d.groups i x e in
      let here : 0 + i ≡ i = omega arith in
      ap (has_state (primitives_of d)) made.2
      ∙ ap (λ n. option_map_or (λ (udp : Udp). udp.sequential) (slice_get (primitives_of d) n) false) here
      ∙ ap (λ o. option_map_or (λ (udp : Udp). udp.sequential) o false)
      (group_primitive-at d i (get-within d.groups i made.0 made.1))

  -- the instances with states are those of the groups
  pub sequential-are : filter (has_state (primitives_of d)) (instances_of d) ≡ each_from (group_instance d) 0 d.groups
  sequential-are =
      let first : List Instance = each_from (group_instance d) 0 d.groups in
      let second : List Instance = each_from (condition_instance d) 0 (conditions_of d) in
      let third : List Instance = output_instances d (length d.groups + condition_count d) d.outputs in
      filter-append (has_state (primitives_of d)) first (second ++ third)
      ∙ (λ i. group-states i ++ filter (has_state (primitives_of d)) (second ++ third))
      ∙ ap (λ r. first ++ r) (filter-append (has_state (primitives_of d)) second third)
      ∙ (λ i. first ++ (condition-states i
      ++ outputs-stateless d (primitives_of d) 0 (length d.groups + condition_count d) d.outputs (output_primitive-at d) i))
      ∙ append-nil first
    where
      group-states : filter (has_state (primitives_of d)) (each_from (group_instance d) 0 d.groups) ≡ each_from
          (group_instance d) 0 d.groups
      group-states = filter-all (has_state (primitives_of d)) (each_from (group_instance d) 0 d.groups) group-passes

      condition-states : filter (has_state (primitives_of d)) (each_from (condition_instance d) 0 (conditions_of d)) ≡ []
      condition-states =
          filter-none (has_state (primitives_of d)) (each_from (condition_instance d) 0 (conditions_of d))
          (λ i x e.
          let made = each-made (condition_instance d) 0 (conditions_of d) i x e in
          let here : 0 + i ≡ i = omega arith in
          ap (has_state (primitives_of d)) made.2
          ∙ ap (λ n. option_map_or (λ (udp : Udp). udp.sequential) (slice_get (primitives_of d) (condition_wire d n)) false) here
          ∙ ap (λ o. option_map_or (λ (udp : Udp). udp.sequential) o false)
          (condition_primitive-at d i (get-within (conditions_of d) i made.0 made.1)))

  -- the driver of an output's port
  pub output-driver :
      (k : ℕ) (output : OutputPin) → slice_get d.outputs k ≡ Some output → IsTrue (is_output_pin d.pins output.pin)
      → driver (instances_of d) (pin_net d.pins output.pin) ≡ Some (length d.groups + (condition_count d + k))
  output-driver k output e is =
      let placed = output-instance-at k output e in
      driven-at (pin_net d.pins output.pin) (length d.groups + (condition_count d + k)) (output_instance d placed.0 output)
      (output_port d.pins 1 output.pin is) placed.1
      (ap (λ n. same_net n (pin_net d.pins output.pin)) (output_net d placed.0 output)
      ∙ eq-eqb (port_number d.pins output.pin) (port_number d.pins output.pin) refl)

  -- the states of the groups are the first ones
  pub first-states : (states : List Trit) (g : ℕ) → g < length d.groups
      → get_or (states_among (module_of d) states) g Unknown ≡ get_or states g Unknown
  first-states states g within =
      let long = length-each (group_instance d) 0 d.groups in
      picked-front (has_state (primitives_of d)) (each_from (group_instance d) 0 d.groups)
      (each_from (condition_instance d) 0 (conditions_of d) ++ output_instances d (length d.groups + condition_count d) d.outputs)
      states g group-passes (omega (arith, within, long))
    where
      picked-front :
          {X : Type 0} (test : X → Bool) (xs ys : List X) (ss : List Trit) (i : ℕ)
          → ((j : ℕ) (x : X) → slice_get xs j ≡ Some x → test x ≡ true) → i < length xs
          → get_or (picked test (xs ++ ys) ss) i Unknown ≡ get_or ss i Unknown
      picked-front test [] ys ss i h within = absurd (omega arith)
      picked-front test (x ∷ xs) ys [] i h within = refl
      picked-front test (x ∷ xs) ys (s ∷ ss) zero h within =
          ap (λ b. get_or (if b then s ∷ picked test (xs ++ ys) ss else picked test (xs ++ ys) ss) 0 Unknown) (h 0 x refl)
      picked-front test (x ∷ xs) ys (s ∷ ss) (suc i) h within =
          ap (λ b. get_or (if b then s ∷ picked test (xs ++ ys) ss else picked test (xs ++ ys) ss) (suc i) Unknown) (h 0 x refl)
          ∙ picked-front test xs ys ss i (λ j y e. h (suc j) y e) (omega arith)
