-- The kept values of the instances, found anew where a change feeds them.
use Rattle.std.proofs.Common.{◌≡◌, ℕ, true, false, ◌&&◌, List, [], ◌∷◌}
use Rattle.std.proofs.Common.{length, set, map, refl, ap, sym, subst, ◌∙◌, slice_get}
use Rattle.std.proofs.Common.{nat_eq, if◌then◌else◌, IsTrue}
use Rattle.std.specs.List.{list_any, list_all}
use Rattle.std.specs.Option.{option_map_or}
use Rattle.std.proofs.lemmas.Bool.{or_parts, and_parts, eqb-false}
use Rattle.std.proofs.lemmas.List.{length-map, get_or-set_other}
use Rattle.trit_cubes.specs.declared.trits.Trit.{Trit}
use Rattle.trit_cubes.specs.declared.trits.Trit.TheVariants.{Unknown}
use Rattle.udp_tables.specs.declared.table.Udp.{Udp}
use Rattle.udp_tables.specs.Primitive.{level_output}
use Rattle.specify_blocks.specs.declared.model.VNet.{VNet}
use Rattle.specify_blocks.specs.declared.model.VNet.TheVariants as net
use Rattle.specify_blocks.specs.declared.model.Instance.{Instance}
use Rattle.specify_blocks.specs.declared.model.Instance.TheVariants as instance
use Rattle.specify_blocks.specs.declared.model.VModule.{VModule}
use Rattle.model_traces.specs.declared.turns.Turned.TheVariants as turned
use Rattle.model_traces.specs.PortNumbers.{input_number}
use Rattle.model_traces.specs.Primitives.{is_turned}
use Rattle.model_traces.specs.NetValues.{source_value}
use Rattle.module_runs.specs.Wiring.{is_readable, reads_inputs, is_wired}
use Rattle.module_runs.specs.FedInstances.{is_fed, fed_places}
use Rattle.module_runs.specs.KeptValues.{kept_value, kept_values, is_wire, reads_state, state_places}
use Rattle.run_parts.specs.Places.{FindsAnew}
use Rattle.module_runs.proofs.WiringLemmas.{wired-reads}

-- Each instance has a kept value.
pub one-kept : (m : VModule) (inputs states kept : List Trit) → kept ≡ kept_values m inputs states
    → length kept ≡ length m.instances
one-kept m inputs states kept is = ap length is ∙ length-map m.instances (kept_value m inputs states)

-- An instance that an input does not feed drives the same after a change of it.
unread-net :
    (m : VModule) (inputs states : List Trit) (pin : ℕ) (to : Trit) (n : VNet)
    → is_readable m.ports n ≡ true → is_turned m.ports (turned.Input pin) n ≡ false
    → source_value m inputs states n ≡ source_value m (set inputs pin to) states n
unread-net m inputs states pin to (net.Port p) r f =
    let apart : nat_eq (input_number m.ports p) pin ≡ false = ap (λ b. b && nat_eq (input_number m.ports p) pin) (sym r) ∙ f in
    sym (get_or-set_other inputs pin (input_number m.ports p) to Unknown (eqb-false (input_number m.ports p) pin apart))
unread-net m inputs states pin to (net.Wire w) r f = refl
unread-net m inputs states pin to net.Notifier r f = refl

unread-nets :
    (m : VModule) (inputs states : List Trit) (pin : ℕ) (to : Trit) (nets : List VNet)
    → IsTrue (list_all (is_readable m.ports) nets) → list_any (is_turned m.ports (turned.Input pin)) nets ≡ false
    → map (source_value m inputs states) nets ≡ map (source_value m (set inputs pin to) states) nets
unread-nets m inputs states pin to [] r f = refl
unread-nets m inputs states pin to (n ∷ nets) r f =
    let own = and_parts (is_readable m.ports n) (list_all (is_readable m.ports) nets) r in
    let apart = or_parts (is_turned m.ports (turned.Input pin) n) (list_any (is_turned m.ports (turned.Input pin)) nets) f in
    λ i. unread-net m inputs states pin to n own.0 apart.0 i ∷ unread-nets m inputs states pin to nets own.1 apart.1 i

pub unread-input :
    (m : VModule) (inputs states : List Trit) (pin : ℕ) (to : Trit) (x : Instance)
    → IsTrue (reads_inputs m.ports x) → is_fed m.ports (turned.Input pin) x ≡ false
    → kept_value m inputs states x ≡ kept_value m (set inputs pin to) states x
unread-input m inputs states pin to (instance.Constant output one) r f = refl
unread-input m inputs states pin to (instance.Primitive number output nets) r f =
    ap (λ vs. option_map_or (λ (udp : Udp). if udp.sequential then Unknown else level_output udp.rows vs)
    (slice_get m.udps number) Unknown)
    (unread-nets m inputs states pin to nets r f)

-- An instance that no wire feeds drives the same whatever the states are.
stateless-net :
    (m : VModule) (inputs before states : List Trit) (n : VNet)
    → is_wire n ≡ false → source_value m inputs before n ≡ source_value m inputs states n
stateless-net m inputs before states (net.Port p) f = refl
stateless-net m inputs before states (net.Wire w) f = absurd cc
stateless-net m inputs before states net.Notifier f = refl

stateless-nets :
    (m : VModule) (inputs before states : List Trit) (nets : List VNet)
    → list_any is_wire nets ≡ false → map (source_value m inputs before) nets ≡ map (source_value m inputs states) nets
stateless-nets m inputs before states [] f = refl
stateless-nets m inputs before states (n ∷ nets) f =
    let apart = or_parts (is_wire n) (list_any is_wire nets) f in
    λ i. stateless-net m inputs before states n apart.0 i ∷ stateless-nets m inputs before states nets apart.1 i

pub unread-states :
    (m : VModule) (inputs before states : List Trit) (x : Instance)
    → reads_state x ≡ false → kept_value m inputs before x ≡ kept_value m inputs states x
unread-states m inputs before states (instance.Constant output one) f = refl
unread-states m inputs before states (instance.Primitive number output nets) f =
    ap (λ vs. option_map_or (λ (udp : Udp). if udp.sequential then Unknown else level_output udp.rows vs)
    (slice_get m.udps number) Unknown)
    (stateless-nets m inputs before states nets f)

-- After a change of an input, and after one of the states.
pub input-found :
    (m : VModule) (room : ℕ) (inputs states kept now read-inputs read-states : List Trit) (pin : ℕ) (to : Trit) (places : List ℕ)
    → IsTrue (is_wired room m) → places ≡ fed_places m.ports (turned.Input pin) m.instances → kept ≡ kept_values m inputs states
    → read-inputs ≡ set inputs pin to → read-states ≡ states
    → FindsAnew (kept_value m read-inputs read-states) m.instances places kept now
    → now ≡ kept_values m (set inputs pin to) states
input-found m room inputs states kept now read-inputs read-states pin to places wired are was new same found =
    let finds = subst (λ (v : List Trit). FindsAnew (kept_value m (set inputs pin to) v) m.instances places kept now) same
    (subst (λ (v : List Trit). FindsAnew (kept_value m v read-states) m.instances places kept now) new found) in
    finds (kept_value m inputs states) (is_fed m.ports (turned.Input pin)) are was
    (λ i x is f. unread-input m inputs states pin to x (wired-reads room m i x wired is) f)

pub states-found :
    (m : VModule) (inputs before states kept now : List Trit) (places : List ℕ)
    → places ≡ state_places m.instances → kept ≡ kept_values m inputs before
    → FindsAnew (kept_value m inputs states) m.instances places kept now → now ≡ kept_values m inputs states
states-found m inputs before states kept now places are was finds =
    finds (kept_value m inputs before) reads_state are was (λ i x is f. unread-states m inputs before states x f)
