-- The wires of a sound module's states: which instance drives each, and where its state stands.
use Rattle.std.proofs.Common.{◌≡◌, ℕ, suc, zero, ◌+◌, true, false, List, [], ◌∷◌, ◌++◌, get_or, refl, sym, ap, ◌∙◌, subst, arith}
use Rattle.std.proofs.Common.{IsTrue, Option, Some, None, slice_get, if◌then◌else◌}
use Rattle.std.specs.Option.{option_map_or}
use Rattle.trit_cubes.specs.declared.trits.Trit.{Trit}
use Rattle.trit_cubes.specs.declared.trits.Trit.TheVariants.{Unknown}
use Rattle.udp_tables.specs.declared.table.Udp.{Udp}
use Rattle.specify_blocks.specs.declared.model.VNet.{VNet}
use Rattle.specify_blocks.specs.declared.model.VNet.TheVariants as net
use Rattle.specify_blocks.specs.declared.model.Instance.{Instance}
use Rattle.specify_blocks.specs.declared.model.Instance.TheVariants as instance
use Rattle.specify_blocks.specs.declared.model.VModule.{VModule}
use Rattle.specify_blocks.specs.Nets.{same_net, net_driven, has_state, is_driven, holds_state}
use Rattle.specify_blocks.specs.Sound.{IsInstance, AreInstances, IsSound}
use Rattle.model_traces.specs.NetValues.{driver, source_value, kept_state}
use Rattle.model_traces.specs.SequentialStates.{states_among}
use Rattle.model_traces.proofs.PlaceLemmas.{position-from, only-place}
use Rattle.table_audit.specs.module_terminals.Terminals.{sequential_instances, state_net}
use Rattle.audited_modules.proofs.ListLemmas.{filtered-place}
use Rattle.audited_modules.proofs.NetLemmas.{itself}

-- each of these instances is one
pub instance-at :
    (m : VModule) (earlier instances : List Instance) (i : ℕ) (x : Instance)
    → AreInstances m earlier instances → slice_get instances i ≡ Some x → (before : List Instance) × IsInstance m before x
instance-at m earlier [] i x are e = absurd cc
instance-at m earlier (y ∷ ys) zero x are e =
    let same : y ≡ x = cc in (earlier, subst (IsInstance m earlier) same are.0)
instance-at m earlier (y ∷ ys) (suc i) x are e = instance-at m (earlier ++ y ∷ []) ys i x are.1 e

-- an instance with a state is one of a primitive with a state
pub record IsStateful (m : VModule) (x : Instance) : Type 0 where
  pub number : ℕ
  pub output : VNet
  pub nets : List VNet
  pub udp : Udp
  pub is : x ≡ instance.Primitive number output nets
  pub at : slice_get m.udps number ≡ Some udp
  pub sequential : udp.sequential ≡ true

pub stateful : (m : VModule) (x : Instance) → has_state m.udps x ≡ true → IsStateful m x
stateful m (instance.Constant output one) h = absurd cc
stateful m (instance.Primitive number output nets) h = by (slice_get m.udps number) refl h
  where
    by :
        (o : Option Udp) → slice_get m.udps number ≡ o → option_map_or (λ (udp : Udp). udp.sequential) o false ≡ true
        → IsStateful m (instance.Primitive number output nets)
    by None e t = absurd cc
    by (Some udp) e t =
        record { number = number; output = output; nets = nets; udp = udp; is = refl; at = e; sequential = t }

-- a net that holds a state is a wire that has to be driven
wire-driven : (m : VModule) (n : VNet) → IsTrue (holds_state m n) → (w : ℕ) × (n ≡ net.Wire w) × IsTrue (is_driven m n)
wire-driven m (net.Port p) h = absurd cc
wire-driven m (net.Wire w) h = (w, refl, h)
wire-driven m net.Notifier h = absurd cc

-- what an instance with a state drives
state-wire :
    (m : VModule) (before : List Instance) (x : Instance)
    → IsInstance m before x → has_state m.udps x ≡ true
    → (w : ℕ) × (net_driven x ≡ net.Wire w) × IsTrue (is_driven m (net_driven x))
state-wire m before (instance.Constant output one) is h = absurd cc
state-wire m before (instance.Primitive number output nets) is h =
    let sequential : (is.0).sequential ≡ true =
    sym (ap (λ o. option_map_or (λ (udp : Udp). udp.sequential) o false) is.1) ∙ h in
    wire-driven m output
    (subst (λ b. IsTrue (if b then holds_state m output else is_driven m output)) sequential (is.2).drives)

module _ (m : VModule) (sound : IsSound m) where
  -- the value of the wire of a state that feeds a primitive without a state
  pub state-value :
      (g : ℕ) (x : Instance) → slice_get (sequential_instances m) g ≡ Some x
      → (v states : List Trit) → source_value m v states (state_net m g) ≡ get_or (states_among m states) g Unknown
  state-value g x at v states =
      let placed = filtered-place (has_state m.udps) m.instances g x at in
      let own = instance-at m [] m.instances placed.0 x sound.instances placed.1 in
      let wire = state-wire m own.0 x own.1 placed.2 in
      let here : 0 + placed.0 ≡ placed.0 = omega arith in
      let driven : driver m.instances (net_driven x) ≡ Some placed.0 =
      position-from (λ y. same_net (net_driven y) (net_driven x)) m.instances
      ∙ only-place (λ y. same_net (net_driven y) (net_driven x)) 0 m.instances placed.0 x
      (sound.driven (net_driven x) wire.2) placed.1 (itself (net_driven x))
      ∙ ap Some here in
      ap (source_value m v states) (ap (λ o. option_map_or net_driven o net.Notifier) at)
      ∙ ap (source_value m v states) wire.1
      ∙ ap (λ n. kept_state states (driver m.instances n)) (sym wire.1)
      ∙ ap (kept_state states) driven
      ∙ sym (placed.3 states)
