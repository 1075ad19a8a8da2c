-- The drivers of nets, found from the last instance to the first.
use Rattle.std.proofs.Common.{◌≡◌, ℕ, suc, ◌+◌, ◌-◌, ◌<◌, ◌≤◌, cond, List, length, get_or, drop, replicate, ap, sym, subst, ◌∙◌}
use Rattle.std.proofs.Common.{Option, Some, None, slice_get, zero, arith}
use Rattle.std.proofs.lemmas.List.{drop_all}
use Rattle.std.proofs.lemmas.Option.{slice_get-get_or}
use Rattle.cell_machine.proofs.ArcDelays.{drop-at}
use Rattle.specify_blocks.specs.declared.model.VNet.{VNet}
use Rattle.specify_blocks.specs.declared.model.VNet.TheVariants as net
use Rattle.specify_blocks.specs.declared.model.Instance.{Instance}
use Rattle.specify_blocks.specs.Nets.{same_net, net_driven}
use Rattle.model_traces.specs.NetValues.{driver}
use Rattle.model_traces.proofs.PlaceLemmas.{position-from}
use Rattle.module_runs.specs.declared.drivers.Drivers.{Drivers}
use Rattle.module_runs.specs.NetDrivers.{IsKnown, driver_from}

none-there : (count p : ℕ) (found : Option ℕ) → slice_get (replicate count None) p ≡ Some found → found ≡ None
none-there zero p found e = absurd cc
none-there (suc count) zero found e = let same : ◌≡◌ {A = Option ℕ} None found = cc in sym same
none-there (suc count) (suc p) found e = none-there count p found e

-- before an instance is seen no net has a driver
pub none-known :
    (d : Drivers) (a b k : ℕ) (instances : List Instance) (n : VNet)
    → d.ports ≡ replicate a None → d.wires ≡ replicate b None → length instances ≤ k
    → IsKnown d n (driver_from k (drop k instances) n)
none-known d a b k instances n ports wires past =
    let all : driver_from k (drop k instances) n ≡ None = ap (λ xs. driver_from k xs n) (drop_all k instances past) in
    subst (λ o. IsKnown d n o) (sym all) (unknown n)
  where
    unknown : (n : VNet) → IsKnown d n None
    unknown (net.Port p) found e = none-there a p found (ap (λ (xs : List (Option ℕ)). slice_get xs p) (sym ports) ∙ e)
    unknown (net.Wire w) found e = none-there b w found (ap (λ (xs : List (Option ℕ)). slice_get xs w) (sym wires) ∙ e)
    unknown net.Notifier found e = absurd cc

-- the first of the instances from a place on that drives a net
pub driver-first :
    (instances : List Instance) (i : ℕ) (x : Instance) (n : VNet)
    → slice_get instances i ≡ Some x
    → cond (same_net (net_driven x) n) (Some i) (driver_from (i + 1) (drop (i + 1) instances) n) ≡ driver_from i
    (drop i instances) n
driver-first instances i x n e =
    let next : i + 1 ≡ suc i = omega arith in
    ap (λ m. cond (same_net (net_driven x) n) (Some i) (driver_from (i + 1) (drop m instances) n)) next
    ∙ ap (λ xs. driver_from i xs n) (sym (drop-at instances i x e))

-- the same before a place
pub driver-before :
    (instances xs : List Instance) (i : ℕ) (d : Instance) (driven n : VNet)
    → xs ≡ instances → 0 < i → i ≤ length xs → driven ≡ net_driven (get_or xs (i - 1) d)
    → cond (same_net driven n) (Some (i - 1)) (driver_from i (drop i instances) n) ≡ driver_from (i - 1)
    (drop (i - 1) instances) n
driver-before instances xs i d driven n same some few is =
    let next : (i - 1) + 1 ≡ i = omega (arith, some) in
    let found = slice_get-get_or xs (i - 1) d (omega (arith, some, few)) in
    ap (λ e. cond (same_net e n) (Some (i - 1)) (driver_from i (drop i instances) n)) is
    ∙ ap (λ j. cond (same_net (net_driven (get_or xs (i - 1) d)) n) (Some (i - 1)) (driver_from j (drop j instances) n))
    (sym next)
    ∙ driver-first instances (i - 1) (get_or xs (i - 1) d) n (ap (λ (ys : List Instance). slice_get ys (i - 1)) (sym same)
    ∙ found)

-- all instances are seen
pub all-seen : (instances : List Instance) (n : VNet) → driver_from 0 instances n ≡ driver instances n
all-seen instances n = sym (position-from (λ i. same_net (net_driven i) n) instances)
