-- An instance of a primitive with a state that matches a group fits it.
use Rattle.std.proofs.Common.{◌≡◌, ◌≢◌, ℕ, ◌<◌, Bool, true, false, ◌&&◌, List, [], ◌∷◌, ◌++◌, length, map, get_or, set, inl, inr}
use Rattle.std.proofs.Common.{refl, sym, ap, ◌∙◌, subst, arith, IsTrue, Option, Some, None, slice_get, nat_eq, eqb-true}
use Rattle.std.proofs.Common.{if◌then◌else◌}
use Rattle.std.specs.Prelude.{position}
use Rattle.std.specs.List.{list_all}
use Rattle.std.specs.Option.{option_map_or}
use Rattle.std.proofs.lemmas.Bool.{eq-eqb}
use Rattle.std.proofs.lemmas.List.{length-map}
use Rattle.std.proofs.lemmas.Option.{get_or_from_slice_get}
use Rattle.trit_cubes.specs.declared.trits.Trit.{Trit}
use Rattle.trit_cubes.specs.declared.trits.Trit.TheVariants.{Zero, One, Unknown}
use Rattle.trit_cubes.proofs.ListLemmas.{Among}
use Rattle.cell_machine.specs.declared.changes.Change.{Change}
use Rattle.cell_machine.specs.CellData.{CellData}
use Rattle.cell_machine.specs.CellRules.{is_input_pin}
use Rattle.cell_machine.specs.Inputs.{pin_values, pin_value}
use Rattle.cell_machine.specs.Inputs as inputs
use Rattle.cell_machine.specs.Machine.{without, machine_step, forced}
use Rattle.cell_machine.specs.History.{value_before, is_event}
use Rattle.cell_machine.specs.CellTrace.{inputs_of, NamedGroup, support_at, place_in, moved_at, violated}
use Rattle.udp_tables.specs.declared.table.Udp.{Udp}
use Rattle.udp_tables.specs.Ports.{port_number}
use Rattle.udp_tables.specs.Sequential.{noted}
use Rattle.udp_tables.specs.CellPrimitives.{has_notifier}
use Rattle.specify_blocks.specs.declared.model.VNet.{VNet}
use Rattle.specify_blocks.specs.declared.model.VNet.TheVariants as net
use Rattle.specify_blocks.specs.declared.model.Instance.TheVariants as instance
use Rattle.specify_blocks.specs.declared.model.VModule.{VModule}
use Rattle.specify_blocks.specs.Nets.{same_net}
use Rattle.specify_blocks.specs.Generated.{pin_net, notifier_nets}
use Rattle.model_traces.specs.declared.turns.Turn.{Turn}
use Rattle.model_traces.specs.declared.turns.Turned.TheVariants as turned
use Rattle.model_traces.specs.Primitives.{is_turned, entry_value, primitive_next, next_state}
use Rattle.model_traces.specs.Primitives as primitives
use Rattle.model_traces.specs.ModuleRun.{turn_of, toggled}
use Rattle.model_traces.specs.ModuleFits.{FitsGroup}
use Rattle.model_traces.proofs.PlaceLemmas.{position-from, get-within, apart}
use Rattle.model_traces.proofs.PinNumbers.{input-pin-port, set-place}
use Rattle.model_traces.proofs.CellSteps.{IsNamed, support-is, step-is, all-passes}
use Rattle.table_audit.specs.module_terminals.Terminals.{sequential_instances, is_among, same_nets, group_nets}
use Rattle.table_audit.specs.module_shapes.Shape.{cell_inputs, port_inputs}
use Rattle.table_audit.specs.module_tables.Tables.{arranged, next_by, place_net, note_after}
use Rattle.table_audit.specs.module_tables.Tables as tables
use Rattle.table_audit.specs.module_tables.SameValues.{HasValues}
use Rattle.audited_modules.proofs.ListLemmas.{among-place, both-true, same-place, no-place, none-passes}
use Rattle.audited_modules.proofs.NetLemmas.{arranged-values, nets-among, PinOrNotifier, among-nets}
use Rattle.audited_modules.proofs.PortSides.{number, pin-value, is-input, one-input, one-port}

-- what a function makes of each net and, where there is one, of the register
noted-nets :
    {Y : Type 0} (f : VNet → Y) (make : ℕ → VNet) (b : Bool) (xs : List ℕ)
    → map f (map make xs ++ notifier_nets b) ≡ noted b (f net.Notifier) (map (λ x. f (make x)) xs)
noted-nets f make false [] = refl
noted-nets f make true [] = refl
noted-nets f make false (x ∷ xs) = ap (λ r. f (make x) ∷ r) (noted-nets f make false xs)
noted-nets f make true (x ∷ xs) = ap (λ r. f (make x) ∷ r) (noted-nets f make true xs)

-- both definitions of the next state say the same
next-same : (o : Option ℕ) (udp : Udp) (values : List Trit) (old s : Trit)
    → primitives.next_at o udp values old s ≡ tables.next_at o udp values old s
next-same None udp values old s = refl
next-same (Some k) udp values old s = refl

toggled-same : (t : Trit) → toggled t ≡ note_after t
toggled-same Zero = refl
toggled-same One = refl
toggled-same Unknown = refl

-- the register is what changes where it is the net that changes
notifier-turned : (m : VModule) (n : VNet) → is_turned m.ports turned.Notifier n ≡ same_net net.Notifier n
notifier-turned m (net.Port p) = refl
notifier-turned m (net.Wire w) = refl
notifier-turned m net.Notifier = refl

-- A primitive with a state, with its inputs, and group g, which it stands for.
module _ (d : CellData) (m : VModule) (ports : port_inputs m ≡ cell_inputs d) (values : HasValues d m)
    (g : ℕ) (group : NamedGroup) (named : IsNamed d g group) (within : g < length d.groups)
    (support : IsTrue (list_all (is_input_pin d.pins) group.group.support))
    (j : ℕ) (output : VNet) (nets : List VNet) (udp : Udp)
    (at : slice_get (sequential_instances m) g ≡ Some (instance.Primitive j output nets))
    (has : slice_get m.udps j ≡ Some udp) (sequential : udp.sequential ≡ true)
    (fed : IsTrue (same_nets nets (group_nets d g))) where
  abbrev qs : List ℕ
  qs = group.group.support

  nets-are : group_nets d g ≡ map (pin_net d.pins) qs ++ notifier_nets (has_notifier d)
  nets-are = ap (λ ps. map (pin_net d.pins) ps ++ notifier_nets (has_notifier d)) (support-is d g group named)

  -- the next state in a run
  in-run :
      (v : List Trit) (note : Trit) (turn : Turn) (s : Trit)
      → next_state m v note turn (instance.Primitive j output nets) s
      ≡ tables.next_at (position (is_turned m.ports turn.what) nets) udp (map (entry_value m.ports v note) nets) turn.from s
  in-run v note turn s =
      let next : Trit =
      primitives.next_at (position (is_turned m.ports turn.what) nets) udp (map (entry_value m.ports v note) nets) turn.from s in
      ap (λ o. option_map_or (primitive_next m.ports v note turn nets s) o s) has
      ∙ ap (λ b. if b then next else s) sequential
      ∙ next-same (position (is_turned m.ports turn.what) nets) udp (map (entry_value m.ports v note) nets) turn.from s

  -- the next state in the comparison
  compared :
      (xs : List Trit) (changed : VNet) (old s : Trit)
      → tables.group_next d m g xs changed old s
      ≡ tables.next_at (position (same_net changed) nets) udp (arranged (group_nets d g) xs nets) old s
  compared xs changed old s =
      ap (λ o. option_map_or (next_by m (group_nets d g) xs changed old s) o s) at
      ∙ ap (λ o. option_map_or (λ u. tables.next_at (position (same_net changed) nets) u
      (arranged (group_nets d g) xs nets) old s) o s) has

  -- the values of the inputs in a run, by those of the support
  entries :
      (v : List Trit) (note : Trit)
      → map (entry_value m.ports v note) nets ≡ arranged (group_nets d g)
      (noted (has_notifier d) note (pin_values d.pins v qs)) nets
  entries v note =
      sym (arranged-values (entry_value m.ports v note) (group_nets d g) nets (nets-among nets (group_nets d g) fed))
      ∙ ap (λ xs. arranged (group_nets d g) xs nets)
      (ap (map (entry_value m.ports v note)) nets-are
      ∙ noted-nets (entry_value m.ports v note) (pin_net d.pins) (has_notifier d) qs
      ∙ (λ i. noted (has_notifier d) note (map (λ p. pin-value d m ports v p i) qs)))

  -- the inputs are ports of the pins of the support, and the register
  fed-by : (n : VNet) → Among n nets → PinOrNotifier d.pins qs n
  fed-by n among =
      among-nets d.pins qs (has_notifier d) n
      (subst (λ ns. IsTrue (is_among ns n)) nets-are
      (all-passes (is_among (group_nets d g)) nets n (nets-among nets (group_nets d g) fed) among))

  input-of : (q : ℕ) → Among q qs → IsTrue (is_input_pin d.pins q)
  input-of q among = all-passes (is_input_pin d.pins) qs q support among

  -- a pin of the support is what changes where it is the changed input
  pin-turned :
      (c : Change) (q : ℕ) → Among q qs
      → is_turned m.ports (turned.Input c.pin) (pin_net d.pins q) ≡ nat_eq (inputs.input_number d.pins q) c.pin
  pin-turned c q among = λ i. is-input d m ports q (input-of q among) i && nat_eq (number d m ports q i) c.pin

  -- no input changes where no pin of the support does
  none-turned : (c : Change) → place_in d.pins qs c ≡ None → position (is_turned m.ports (turned.Input c.pin)) nets ≡ None
  none-turned c e =
      position-from (is_turned m.ports (turned.Input c.pin)) nets
      ∙ no-place (is_turned m.ports (turned.Input c.pin)) 0 nets (λ n among. by n (fed-by n among))
    where
      still : (q : ℕ) → Among q qs → nat_eq (inputs.input_number d.pins q) c.pin ≡ false
      still =
          none-passes (λ q. nat_eq (inputs.input_number d.pins q) c.pin) 0 qs
          (sym (position-from (λ q. nat_eq (inputs.input_number d.pins q) c.pin) qs) ∙ e)

      by : (n : VNet) → PinOrNotifier d.pins qs n → is_turned m.ports (turned.Input c.pin) n ≡ false
      by n (inl pin) =
          ap (is_turned m.ports (turned.Input c.pin)) (sym pin.1) ∙ pin-turned c pin.0 pin.2 ∙ still pin.0 pin.2
      by n (inr register) = ap (is_turned m.ports (turned.Input c.pin)) (sym register)

  -- the changed input is the port of the pin of the support that changes
  one-turned :
      (c : Change) (p : ℕ) → Among p qs → inputs.input_number d.pins p ≡ c.pin
      → position (is_turned m.ports (turned.Input c.pin)) nets ≡ position (same_net (pin_net d.pins p)) nets
  one-turned c p here e =
      position-from (is_turned m.ports (turned.Input c.pin)) nets
      ∙ same-place (is_turned m.ports (turned.Input c.pin)) (same_net (pin_net d.pins p)) 0 nets
      (λ n among. by n (fed-by n among))
      ∙ sym (position-from (same_net (pin_net d.pins p)) nets)
    where
      alike :
          (q : ℕ) → Among q qs
          → nat_eq (inputs.input_number d.pins q) c.pin ≡ nat_eq (port_number d.pins p) (port_number d.pins q)
      alike q there =
          both-true (nat_eq (inputs.input_number d.pins q) c.pin) (nat_eq (port_number d.pins p) (port_number d.pins q))
          (λ t.
          let same : p ≡ q =
          one-input d.pins p q (input-of p here) (input-of q there) (e ∙ sym (eqb-true (inputs.input_number d.pins q) c.pin t)) in
          eq-eqb (port_number d.pins p) (port_number d.pins q) (ap (port_number d.pins) same))
          (λ t.
          let same : p ≡ q =
          one-port d.pins p q (input-pin-port d.pins p (input-of p here)) (input-pin-port d.pins q (input-of q there))
          (eqb-true (port_number d.pins p) (port_number d.pins q) t) in
          eq-eqb (inputs.input_number d.pins q) c.pin (ap (inputs.input_number d.pins) (sym same) ∙ e))

      by : (n : VNet) → PinOrNotifier d.pins qs n → is_turned m.ports (turned.Input c.pin) n ≡ same_net (pin_net d.pins p) n
      by n (inl pin) =
          ap (is_turned m.ports (turned.Input c.pin)) (sym pin.1)
          ∙ pin-turned c pin.0 pin.2
          ∙ alike pin.0 pin.2
          ∙ ap (same_net (pin_net d.pins p)) pin.1
      by n (inr register) =
          ap (is_turned m.ports (turned.Input c.pin)) (sym register) ∙ ap (same_net (pin_net d.pins p)) register

  -- the next state at a change of an input, by the place of its pin in the support
  stepped :
      (v : List Trit) (c : Change) (note s : Trit)
      → length v ≡ inputs_of d → c.pin < inputs_of d → is_event v c ≡ true
      → (place : Option ℕ) → place_in d.pins qs c ≡ place
      → tables.next_at (position (is_turned m.ports (turned.Input c.pin)) nets) udp
      (map (entry_value m.ports (set v c.pin c.to) note) nets) (value_before v c) s
      ≡ moved_at place group (pin_values d.pins (set v c.pin c.to) qs) (value_before v c) c.to s
  stepped v c note s long inside event None e =
      ap (λ o. tables.next_at o udp (map (entry_value m.ports (set v c.pin c.to) note) nets) (value_before v c) s)
      (none-turned c e)
  stepped v c note s long inside event (Some p) e =
      let old : Trit = value_before v c in
      let xs : List Trit = pin_values d.pins (set v c.pin c.to) qs in
      let (q, at_place, number_is, now) = set-place d.pins qs v c.pin p c.to e (omega (arith, long, inside)) in
      let inside_qs = get-within qs p q at_place in
      let many : length xs ≡ length qs = length-map qs (pin_value d.pins (set v c.pin c.to)) in
      let many_support : length xs ≡ length (support_at d g) = many ∙ ap length (sym (support-is d g group named)) in
      let other : old ≢ get_or xs p Unknown = subst (λ t. old ≢ t) (sym now) (apart old c.to event) in
      let changed : pin_net d.pins q ≡ place_net d g p =
      ap (pin_net d.pins)
      (sym (ap (λ ps. get_or ps p 0) (support-is d g group named) ∙ get_or_from_slice_get qs p q 0 at_place)) in
      ap (λ o. tables.next_at o udp (map (entry_value m.ports (set v c.pin c.to) note) nets) old s)
      (one-turned c q (among-place qs p q at_place) number_is)
      ∙ (λ i. tables.next_at (position (same_net (changed i)) nets) udp (entries (set v c.pin c.to) note i) old s)
      ∙ sym (compared (noted (has_notifier d) note xs) (place_net d g p) old s)
      ∙ values.steps g p old xs note s within many_support (omega (arith, inside_qs, many)) other
      ∙ (λ i. machine_step (step-is d g group named i) p old (now i) (without p xs) s)

  -- the next state at a change of the register
  shaken :
      (v : List Trit) (note s : Trit) → has_notifier d ≡ true
      → tables.next_at (position (is_turned m.ports turned.Notifier) nets) udp
      (map (entry_value m.ports v (toggled note)) nets) note s
      ≡ violated d.pins group v
  shaken v note s some =
      let xs : List Trit = pin_values d.pins v qs in
      let many : length xs ≡ length (support_at d g) =
      length-map qs (pin_value d.pins v) ∙ ap length (sym (support-is d g group named)) in
      let place : position (is_turned m.ports turned.Notifier) nets ≡ position (same_net net.Notifier) nets =
      position-from (is_turned m.ports turned.Notifier) nets
      ∙ same-place (is_turned m.ports turned.Notifier) (same_net net.Notifier) 0 nets (λ n among. notifier-turned m n)
      ∙ sym (position-from (same_net net.Notifier) nets) in
      (λ i. tables.next_at (place i) udp (entries v (toggled note) i) note s)
      ∙ (λ i. tables.next_at (position (same_net net.Notifier) nets) udp
      (arranged (group_nets d g) (noted (some i) (toggled-same note i) xs) nets) note s)
      ∙ sym (compared (noted true (note_after note) xs) net.Notifier note s)
      ∙ values.forces g note xs s some within many
      ∙ ap (λ step. forced step xs) (step-is d g group named)

  pub fits-primitive : FitsGroup d m group (instance.Primitive j output nets)
  fits-primitive =
      record {
        steps =
            λ v c note s long inside event.
            in-run (set v c.pin c.to) note (turn_of v c) s ∙ stepped v c note s long inside event (place_in d.pins qs c) refl;
        forces =
            λ v note s long some.
            in-run v (toggled note) (record { what = turned.Notifier; from = note }) s ∙ shaken v note s some;
      }
