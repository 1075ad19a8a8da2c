-- The places of the instances that a change feeds, and that it steps those alone.
use Rattle.std.proofs.Common.{◌≡◌, ℕ, zero, suc, ◌+◌, ◌<◌, ◌≤◌, Bool, true, false, ◌&&◌, cond, List, [], ◌∷◌, length}
use Rattle.std.proofs.Common.{get_or, set, take, drop, map, refl, ap, sym, ◌∙◌, Option, Some, None, slice_get, nat_eq, position}
use Rattle.std.proofs.Common.{arith, if◌then◌else◌}
use Rattle.std.specs.List.{list_any, position_from}
use Rattle.std.specs.Option.{option_map_or}
use Rattle.std.proofs.lemmas.Bool.{or_parts, ne_eqb}
use Rattle.std.proofs.lemmas.List.{set-get_or, drop_all}
use Rattle.std.proofs.lemmas.List.Sums.{sum_by-cons}
use Rattle.trit_cubes.specs.declared.trits.Trit.{Trit}
use Rattle.trit_cubes.specs.declared.trits.Trit.TheVariants.{Zero}
use Rattle.udp_tables.specs.declared.models.VPort.{VPort}
use Rattle.udp_tables.specs.declared.table.Udp.{Udp}
use Rattle.udp_tables.specs.Ports.{is_input_port}
use Rattle.specify_blocks.specs.declared.model.VNet.{VNet}
use Rattle.specify_blocks.specs.declared.model.VNet.TheVariants as net
use Rattle.specify_blocks.specs.declared.model.Instance.{Instance}
use Rattle.specify_blocks.specs.declared.model.Instance.TheVariants as instance
use Rattle.specify_blocks.specs.declared.model.VModule.{VModule}
use Rattle.model_traces.specs.declared.turns.Turned.{Turned}
use Rattle.model_traces.specs.declared.turns.Turned.TheVariants as turned
use Rattle.model_traces.specs.declared.turns.Turn.{Turn}
use Rattle.model_traces.specs.PortNumbers.{is_input, input_count, input_number}
use Rattle.model_traces.specs.Primitives.{is_turned, entry_value, next_at, primitive_next, next_state, next_states}
use Rattle.model_traces.proofs.PlaceLemmas.{position-from}
use Rattle.run_parts.specs.FedParts.{is_number, places_fed}
use Rattle.run_parts.specs.Places.{places_from}
use Rattle.run_parts.proofs.PlaceLemmas.{places-within, stepped, stepped-from, none-any, none-placed}
use Rattle.module_runs.specs.declared.fed_instances.Feeder.TheVariants as feeder
use Rattle.module_runs.specs.FedInstances.{nets_of, is_fed, fed_places, input_of, feeds, is_fed_by}
use Rattle.module_runs.specs.KeptValues.{is_wire, state_places}

-- the instances that are fed, by what each net is
input-same : (ports : List VPort) (n : ℕ) (x : VNet) → is_number n (input_of ports x) ≡ is_turned ports (turned.Input n) x
input-same ports n (net.Port p) =
    elim (is_input_port ports p) as (λ b.
    is_number n (if b then Some (input_number ports p) else None) ≡ (b && nat_eq (input_number ports p) n)) [
      | true ↦ refl
      | false ↦ refl
    ]
input-same ports n (net.Wire w) = refl
input-same ports n net.Notifier = refl

pub inputs-feed : (ports : List VPort) (instances : List Instance) (n : ℕ)
    → places_fed nets_of (input_of ports) instances n ≡ fed_places ports (turned.Input n) instances
inputs-feed ports instances n = λ i. places_from (λ x. list_any (λ y. input-same ports n y i) (nets_of x)) 0 instances

register-same : (ports : List VPort) (x : VNet) → feeds feeder.Register x ≡ is_turned ports turned.Notifier x
register-same ports (net.Port p) = refl
register-same ports (net.Wire w) = refl
register-same ports net.Notifier = refl

pub register-feeds : (ports : List VPort) (instances : List Instance)
    → places_from (is_fed_by feeder.Register) 0 instances ≡ fed_places ports turned.Notifier instances
register-feeds ports instances = λ i. places_from (λ x. list_any (λ y. register-same ports y i) (nets_of x)) 0 instances

states-same : (x : VNet) → feeds feeder.States x ≡ is_wire x
states-same (net.Port p) = refl
states-same (net.Wire w) = refl
states-same net.Notifier = refl

pub states-feed : (instances : List Instance) → places_from (is_fed_by feeder.States) 0 instances ≡ state_places instances
states-feed instances = λ i. places_from (λ x. list_any (λ y. states-same y i) (nets_of x)) 0 instances

none-found : {X : Type 0} (t : X → Bool) (xs : List X) (k : ℕ) → list_any t xs ≡ false → position_from t k xs ≡ None
none-found t [] k e = refl
none-found t (x ∷ xs) k e =
    let parts = or_parts (t x) (list_any t xs) e in
    ap (λ b. cond b (Some k) (position_from t (k + 1) xs)) parts.0 ∙ none-found t xs (k + 1) parts.1

-- an instance that a change does not feed keeps its state
kept :
    (m : VModule) (inputs : List Trit) (notifier : Trit) (turn : Turn) (x : Instance) (s : Trit)
    → is_fed m.ports turn.what x ≡ false → next_state m inputs notifier turn x s ≡ s
kept m inputs notifier turn (instance.Constant output one) s e = refl
kept m inputs notifier turn (instance.Primitive number output nets) s e = by (slice_get m.udps number)
  where
    gone : position (is_turned m.ports turn.what) nets ≡ None
    gone = position-from (is_turned m.ports turn.what) nets ∙ none-found (is_turned m.ports turn.what) nets 0 e

    by : (o : Option Udp) → option_map_or (primitive_next m.ports inputs notifier turn nets s) o s ≡ s
    by None = refl
    by (Some udp) =
        elim (udp.sequential) as (λ b.
        (if b then next_at (position (is_turned m.ports turn.what) nets) udp (map (entry_value m.ports inputs notifier) nets)
        turn.from s else s) ≡ s) [
          | true ↦ ap (λ p. next_at p udp (map (entry_value m.ports inputs notifier) nets) turn.from s) gone
          | false ↦ refl
        ]

pub fed-step :
    (m : VModule) (inputs : List Trit) (notifier : Trit) (turn : Turn) (ss : List Trit)
    → length ss ≡ length m.instances
    → stepped (next_state m inputs notifier turn) Zero m.instances (fed_places m.ports turn.what m.instances) ss
    ≡ next_states m inputs notifier turn ss
fed-step m inputs notifier turn ss long =
    stepped-from (next_state m inputs notifier turn) Zero (is_fed m.ports turn.what) m.instances m.instances 0 ss
    (kept m inputs notifier turn) refl long

-- An input that is none feeds no instance.
number-below : (ports : List VPort) (p : ℕ) → is_input_port ports p ≡ true → input_number ports p < input_count ports
number-below [] p h = absurd cc
number-below (port ∷ ports) zero h =
    let one : ◌≡◌ {A = ℕ} (cond (is_input port) 1 0) 1 = ap (λ b. cond b 1 0) h in
    let none : input_number (port ∷ ports) zero ≡ 0 = refl in
    omega (arith, sum_by-cons (λ z. cond (is_input z) 1 0) port ports, one, none)
number-below (port ∷ ports) (suc p) h =
    let rest : input_number ports p < input_count ports = number-below ports p h in
    omega (
      arith,
      rest,
      sum_by-cons (λ z. cond (is_input z) 1 0) port ports,
      sum_by-cons (λ z. cond (is_input z) 1 0) port
          (take p ports),
    )

not-turned : (ports : List VPort) (i : ℕ) → input_count ports ≤ i → (n : VNet) → is_turned ports (turned.Input i) n ≡ false
not-turned ports i past (net.Port p) = by (is_input_port ports p) refl
  where
    by : (b : Bool) → is_input_port ports p ≡ b → (b && nat_eq (input_number ports p) i) ≡ false
    by true h = let below = number-below ports p h
        in ne_eqb (input_number ports p) i (λ e. absurd (omega (arith, below, e, past)))
    by false h = refl
not-turned ports i past (net.Wire w) = refl
not-turned ports i past net.Notifier = refl

pub unfed :
    (ports : List VPort) (i : ℕ) (instances : List Instance) → input_count ports ≤ i
    → fed_places ports (turned.Input i) instances ≡ []
unfed ports i instances past =
    none-placed (is_fed ports (turned.Input i)) 0 instances
    (λ x. none-any (is_turned ports (turned.Input i)) (nets_of x) (not-turned ports i past))

-- The steps in a loop over the places.
pub place-inside :
    (m : VModule) (what : Turned) (places : List ℕ) (j d : ℕ)
    → places ≡ fed_places m.ports what m.instances → j < length places → get_or places j d < length m.instances
place-inside m what places j d are inside =
    let few : j < length (fed_places m.ports what m.instances) = omega (arith, ap length are, inside) in
    let below = places-within (is_fed m.ports what) 0 m.instances d j few in
    omega (arith, ap (λ (xs : List ℕ). get_or xs j d) are, below)

pub step-done :
    (m : VModule) (inputs : List Trit) (notifier : Trit) (turn : Turn) (places : List ℕ) (j : ℕ) (ss first : List Trit)
    → places ≡ fed_places m.ports turn.what m.instances → length places ≤ j → length first ≡ length m.instances
    → stepped (next_state m inputs notifier turn) Zero m.instances (drop j places) ss
    ≡ stepped (next_state m inputs notifier turn) Zero m.instances places first
    → ss ≡ next_states m inputs notifier turn first
step-done m inputs notifier turn places j ss first are past long rest =
    let f = next_state m inputs notifier turn in
    ap (λ is. stepped f Zero m.instances is ss) (sym (drop_all j places past))
    ∙ rest
    ∙ ap (λ is. stepped f Zero m.instances is first) are
    ∙ fed-step m inputs notifier turn first long

-- a state that takes the value that it has leaves all states as they are
pub still-at : (states new : List Trit) (i : ℕ) (next : Trit) → new ≡ set states i next → get_or states i Zero ≡ next → new ≡ states
still-at states new i next is same = is ∙ ap (λ v. set states i v) (sym same) ∙ set-get_or states i Zero
