-- The conditions that an input does not feed keep their values at a change of it.
use Rattle.std.proofs.Common.{◌≡◌, ℕ, zero, suc, false, List, [], ◌∷◌, length, set, map, refl, ap}
use Rattle.std.proofs.Common.{sym, ◌∙◌, slice_get}
use Rattle.std.specs.Option.{option_map_or}
use Rattle.cell_machine.specs.Inputs.{numbered_value}
use Rattle.std.proofs.lemmas.Bool.{or_parts, eqb-false}
use Rattle.std.proofs.lemmas.List.{length-map, get_or-set_other}
use Rattle.trit_cubes.specs.declared.trits.Trit.{Trit}
use Rattle.trit_cubes.specs.declared.trits.Trit.TheVariants.{Unknown}
use Rattle.udp_tables.specs.declared.models.VPort.{VPort}
use Rattle.vital_models.specs.declared.model.VTruth.{VTruth}
use Rattle.vital_models.specs.declared.model.VEntity.{VEntity}
use Rattle.vital_models.specs.LookUps.{lookup_truth}
use Rattle.model_traces.specs.PortNumbers.{input_number, input_value}
use Rattle.model_traces.specs.ProcessValues.{truth_value}
use Rattle.run_parts.specs.Places.{FindsAnew}
use Rattle.process_runs.specs.KeptConditions.{condition_values, is_read, is_among, is_fed, fed_places}

-- the value of the condition with a number
pub value-at :
    (f : VTruth → Trit) (conditions : List VTruth) (i : ℕ)
    → numbered_value (map f conditions) i ≡ option_map_or f (slice_get conditions i) Unknown
value-at f [] i = refl
value-at f (truth ∷ conditions) zero = refl
value-at f (truth ∷ conditions) (suc i) = value-at f conditions i

-- each condition has a value
pub one-kept : (e : VEntity) (inputs values : List Trit) → values ≡ condition_values e inputs
    → length values ≡ length e.conditions
one-kept e inputs values are = ap length are ∙ length-map e.conditions (truth_value e.ports inputs)

-- A condition that an input does not feed has the same value after a change of it.
unread-ports :
    (ports : List VPort) (inputs : List Trit) (pin : ℕ) (to : Trit) (list : List ℕ)
    → is_among ports list pin ≡ false → map (input_value ports inputs) list ≡ map (input_value ports (set inputs pin to)) list
unread-ports ports inputs pin to [] f = refl
unread-ports ports inputs pin to (p ∷ list) f =
    let apart = or_parts (is_read ports pin p) (is_among ports list pin) f in
    let own : input_value ports (set inputs pin to) p ≡ input_value ports inputs p
    = get_or-set_other inputs pin (input_number ports p) to Unknown (eqb-false (input_number ports p) pin apart.0) in
    λ i. sym own i ∷ unread-ports ports inputs pin to list apart.1 i

pub unread-condition :
    (ports : List VPort) (inputs : List Trit) (pin : ℕ) (to : Trit) (truth : VTruth)
    → is_fed ports pin truth ≡ false → truth_value ports inputs truth ≡ truth_value ports (set inputs pin to) truth
unread-condition ports inputs pin to truth f =
    ap (lookup_truth truth.table.rows) (unread-ports ports inputs pin to truth.inputs f)

pub conditions-found :
    (e : VEntity) (inputs values now : List Trit) (pin : ℕ) (to : Trit) (places : List ℕ)
    → places ≡ fed_places e.ports e.conditions pin → values ≡ condition_values e inputs
    → FindsAnew (truth_value e.ports (set inputs pin to)) e.conditions places values now
    → now ≡ condition_values e (set inputs pin to)
conditions-found e inputs values now pin to places are was finds =
    finds (truth_value e.ports inputs) (is_fed e.ports pin) are was
    (λ i truth is f. unread-condition e.ports inputs pin to truth f)
