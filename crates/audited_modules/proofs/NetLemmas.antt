-- Nets in lists: which net a test finds, and the values of nets that stand in another order.
use Rattle.std.proofs.Common.{◌≡◌, ℕ, Bool, true, false, ◌&&◌, List, [], ◌∷◌, ◌++◌, ◌⊎◌, map, get_or, inl, inr, refl, sym, ap}
use Rattle.std.proofs.Common.{◌∙◌, arith, IsTrue, Some, slice_get, eqb-true}
use Rattle.std.specs.Prelude.{position}
use Rattle.std.specs.List.{list_all}
use Rattle.std.specs.Option.{option_map_or}
use Rattle.std.proofs.lemmas.Bool.{and_parts, eq-eqb}
use Rattle.trit_cubes.specs.declared.trits.Trit.{Trit}
use Rattle.trit_cubes.specs.declared.trits.Trit.TheVariants.{Unknown}
use Rattle.trit_cubes.proofs.ListLemmas.{Among, among-append, among-map}
use Rattle.cell_machine.specs.declared.pins.Pin.{Pin}
use Rattle.specify_blocks.specs.declared.model.VNet.{VNet}
use Rattle.specify_blocks.specs.declared.model.VNet.TheVariants as net
use Rattle.specify_blocks.specs.Nets.{same_net}
use Rattle.specify_blocks.specs.Generated.{pin_net, notifier_nets}
use Rattle.model_traces.proofs.PlaceLemmas.{position-from, placed, get-map}
use Rattle.table_audit.specs.module_terminals.Terminals.{is_among, same_nets}
use Rattle.table_audit.specs.module_tables.Tables.{value_among, arranged}
use Rattle.audited_modules.proofs.ListLemmas.{some-place, among-place}

pub same-net : (n k : VNet) → same_net n k ≡ true → n ≡ k
same-net (net.Port p) (net.Port q) e = ap (λ i. net.Port i) (eqb-true p q e)
same-net (net.Port p) (net.Wire w) e = absurd cc
same-net (net.Port p) net.Notifier e = absurd cc
same-net (net.Wire v) (net.Port q) e = absurd cc
same-net (net.Wire v) (net.Wire w) e = ap (λ i. net.Wire i) (eqb-true v w e)
same-net (net.Wire v) net.Notifier e = absurd cc
same-net net.Notifier (net.Port q) e = absurd cc
same-net net.Notifier (net.Wire w) e = absurd cc
same-net net.Notifier net.Notifier e = refl

pub itself : (n : VNet) → same_net n n ≡ true
itself (net.Port p) = eq-eqb p p refl
itself (net.Wire w) = eq-eqb w w refl
itself net.Notifier = refl

-- a net that is among these stands at some place
net-place : (nets : List VNet) (n : VNet) → IsTrue (is_among nets n)
    → (k : ℕ) × (position (same_net n) nets ≡ Some k) × (slice_get nets k ≡ Some n)
net-place nets n h =
    let there = some-place (same_net n) 0 nets h in
    let found = placed (same_net n) 0 nets there.0 there.1 in
    let here : there.0 ≡ found.0 = omega (arith, found.2) in
    let same : found.1 ≡ n = sym (same-net n found.1 found.4) in
    (found.0, position-from (same_net n) nets ∙ there.1 ∙ ap Some here, found.3 ∙ ap Some same)

-- the value of one of these nets, where each has the value that a function gives it
value-among :
    (f : VNet → Trit) (nets : List VNet) (n : VNet) → IsTrue (is_among nets n) → value_among nets (map f nets) n ≡ f n
value-among f nets n h =
    let there = net-place nets n h in
    ap (λ o. option_map_or (λ k. get_or (map f nets) k Unknown) o Unknown) there.1 ∙ get-map f nets there.0 n Unknown there.2

-- the values of some of these nets, in any order
pub arranged-values :
    (f : VNet → Trit) (nets inputs : List VNet) → IsTrue (list_all (is_among nets) inputs)
    → arranged nets (map f nets) inputs ≡ map f inputs
arranged-values f nets [] h = refl
arranged-values f nets (n ∷ inputs) h =
    let parts = and_parts (is_among nets n) (list_all (is_among nets) inputs) h in
    λ i. value-among f nets n parts.0 i ∷ arranged-values f nets inputs parts.1 i

-- the nets of the first list are among those of the second
pub nets-among : (ms ns : List VNet) → IsTrue (same_nets ms ns) → IsTrue (list_all (is_among ns) ms)
nets-among ms ns h =
    (and_parts (list_all (is_among ns) ms) (list_all (is_among ms) ns)
    (and_parts _ (list_all (is_among ns) ms && list_all (is_among ms) ns) h).1).0

-- Of the nets of pins, with the register of the checks behind them or not, each is the port of one of the pins, or that register.
abbrev pub PinOrNotifier : List Pin → List ℕ → VNet → Type 0
PinOrNotifier pins support n = ((p : ℕ) × (pin_net pins p ≡ n) × Among p support) ⊎ (net.Notifier ≡ n)

behind : (pins : List Pin) (support : List ℕ) (b : Bool) (n : VNet) → Among n (notifier_nets b) → PinOrNotifier pins support n
behind pins support false n m = absurd m
behind pins support true n (inl e) = inr e
behind pins support true n (inr m) = absurd m

pub among-nets :
    (pins : List Pin) (support : List ℕ) (b : Bool) (n : VNet)
    → IsTrue (is_among (map (pin_net pins) support ++ notifier_nets b) n) → PinOrNotifier pins support n
among-nets pins support b n h =
    let nets : List VNet = map (pin_net pins) support ++ notifier_nets b in
    let there = net-place nets n h in
    elim (among-append n (map (pin_net pins) support) (notifier_nets b) (among-place nets there.0 n there.2)) [
      | inl m ↦ inl (among-map (pin_net pins) n support m)
      | inr m ↦ behind pins support b n m
    ]
