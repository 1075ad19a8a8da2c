-- The gates of a module's paths, and the paths while each gate stays 0 or not 0.
use Rattle.std.proofs.Common.{◌≡◌, ℕ, zero, suc, Bool, true, false, not, ◌&&◌, ◌||◌, cond, List, [], ◌∷◌, map, set, get_or, refl}
use Rattle.std.proofs.Common.{ap}
use Rattle.std.proofs.Common.{sym, ◌∙◌, Option, Some, None, slice_get, slice_index_or, if◌then◌else◌}
use Rattle.std.specs.Prelude.{filter}
use Rattle.std.specs.List.{list_all}
use Rattle.std.specs.Option.{option_map_or}
use Rattle.trit_cubes.specs.declared.trits.Trit.{Trit}
use Rattle.trit_cubes.specs.declared.trits.Trit.TheVariants.{Unknown}
use Rattle.cell_machine.specs.Inputs.{numbered_value}
use Rattle.cell_machine.specs.Outputs.{is_zero}
use Rattle.udp_tables.specs.declared.table.Udp.{Udp}
use Rattle.specify_blocks.specs.declared.model.VNet.{VNet}
use Rattle.specify_blocks.specs.declared.model.VNet.TheVariants as net
use Rattle.specify_blocks.specs.declared.model.Gate.{Gate}
use Rattle.specify_blocks.specs.declared.model.Gate.TheVariants as gate
use Rattle.specify_blocks.specs.declared.model.VPath.{VPath}
use Rattle.specify_blocks.specs.declared.model.Instance.{Instance}
use Rattle.specify_blocks.specs.declared.model.Instance.TheVariants as instance
use Rattle.specify_blocks.specs.declared.model.VModule.{VModule}
use Rattle.specify_blocks.specs.Nets.{has_state}
use Rattle.model_traces.specs.NetValues.{driver, table_value, primitive_value, instance_value, value_from}
use Rattle.model_traces.specs.PathDelays.{same_ports, is_off, is_quiet, is_active, path_at, is_between, paths_between}
use Rattle.module_runs.specs.declared.gates.Gates.{Gates}
use Rattle.module_runs.specs.Gates.{IsDriven, IsGate, AreGates, gate_zero, gate_zeros}
use Rattle.module_runs.specs.KeptValues.{kept_value, kept_values}

-- a gate that stays 0 or not 0 leaves which of them are 0
pub gate-zeros-kept :
    (places : List Bool) (kept : List Trit) (i : ℕ) (d v : Trit)
    → gate_zero (slice_index_or places i false) (get_or kept i d) ≡ gate_zero (slice_index_or places i false) v
    → gate_zeros places (set kept i v) ≡ gate_zeros places kept
gate-zeros-kept [] kept i d v same = refl
gate-zeros-kept (g ∷ places) [] i d v same = refl
gate-zeros-kept (g ∷ places) (x ∷ kept) zero d v same = ap (λ b. b ∷ gate_zeros places kept) (sym same)
gate-zeros-kept (g ∷ places) (x ∷ kept) (suc i) d v same =
    ap (λ bs. gate_zero g x ∷ bs) (gate-zeros-kept places kept i d v same)

zero-at :
    (places : List Bool) (xs ys : List Trit) (k : ℕ)
    → slice_get places k ≡ Some true → gate_zeros places xs ≡ gate_zeros places ys
    → is_zero (numbered_value xs k) ≡ is_zero (numbered_value ys k)
zero-at [] xs ys k marked same = absurd cc
zero-at (g ∷ places) [] [] k marked same = refl
zero-at (g ∷ places) [] (y ∷ ys) k marked same = absurd cc
zero-at (g ∷ places) (x ∷ xs) [] k marked same = absurd cc
zero-at (g ∷ places) (x ∷ xs) (y ∷ ys) zero marked same =
    let own : gate_zero g x ≡ gate_zero g y = cc in
    let is : g ≡ true = cc in
    ap (λ b. b && is_zero x) (sym is) ∙ own ∙ ap (λ b. b && is_zero y) is
zero-at (g ∷ places) (x ∷ xs) (y ∷ ys) (suc k) marked same =
    let rest : gate_zeros places xs ≡ gate_zeros places ys = cc in zero-at places xs ys k marked rest

-- an instance without a state drives what is kept of it
stateless-primitive :
    (m : VModule) (inputs states : List Trit) (state : Trit) (nets : List VNet) (o : Option Udp)
    → option_map_or (λ (udp : Udp). udp.sequential) o false ≡ false
    → option_map_or (primitive_value m inputs states state nets) o Unknown
    ≡ option_map_or (primitive_value m inputs states Unknown nets) o Unknown
stateless-primitive m inputs states state nets None f = refl
stateless-primitive m inputs states state nets (Some udp) f =
    ap (λ b. if b then state else table_value m inputs states nets udp) f
    ∙ ap (λ b. if b then Unknown else table_value m inputs states nets udp) (sym f)

stateless-drives :
    (m : VModule) (inputs states : List Trit) (state : Trit) (x : Instance)
    → has_state m.udps x ≡ false → instance_value m inputs states state x ≡ kept_value m inputs states x
stateless-drives m inputs states state (instance.Constant output one) f = refl
stateless-drives m inputs states state (instance.Primitive number output nets) f =
    stateless-primitive m inputs states state nets (slice_get m.udps number) f

kept-at :
    (f : Instance → Trit) (xs : List Instance) (k : ℕ) (x : Instance)
    → slice_get xs k ≡ Some x → f x ≡ numbered_value (map f xs) k
kept-at f [] k x e = absurd cc
kept-at f (y ∷ xs) zero x e = let same : y ≡ x = cc in ap f (sym same)
kept-at f (y ∷ xs) (suc k) x e = kept-at f xs k x e

-- what an instance that drives a gate gives is 0 where it was
module _ (m : VModule) (gates : Gates) (v s w t : List Trit)
    (same : gate_zeros gates.places (kept_values m v s) ≡ gate_zeros gates.places (kept_values m w t)) where
  driven-same : (k : ℕ) (o : Option Instance)
      → slice_get m.instances k ≡ o
      → ((x : Instance) → o ≡ Some x → IsDriven m gates k x)
      → gates.stateful ≡ false
      → is_zero (option_map_or (instance_value m v s (slice_index_or s k Unknown)) o Unknown)
      ≡ is_zero (option_map_or (instance_value m w t (slice_index_or t k Unknown)) o Unknown)
  driven-same k None e driven steady = refl
  driven-same k (Some x) e driven steady =
      let is = driven x refl in
      let free = is.steady steady in
      ap is_zero (stateless-drives m v s (slice_index_or s k Unknown) x free ∙ kept-at (kept_value m v s) m.instances k x e)
      ∙ zero-at gates.places (kept_values m v s) (kept_values m w t) k is.marked same
      ∙ ap is_zero
      (sym (stateless-drives m w t (slice_index_or t k Unknown) x free ∙ kept-at (kept_value m w t) m.instances k x e))

  driver-same : (d : Option ℕ)
      → ((k : ℕ) (x : Instance) → d ≡ Some k → slice_get m.instances k ≡ Some x → IsDriven m gates k x)
      → gates.stateful ≡ false → is_zero (value_from m v s d) ≡ is_zero (value_from m w t d)
  driver-same None driven steady = refl
  driver-same (Some k) driven steady =
      driven-same k (slice_get m.instances k) refl (λ x e. driven k x refl e) steady

  off-same : (path : VPath) (g : Gate)
      → path.gate ≡ g → IsGate m gates path → gates.stateful ≡ false → is_off m v s g ≡ is_off m w t g
  off-same path gate.Always is driven steady = refl
  off-same path (gate.If wire) is driven steady =
      driver-same (driver m.instances (net.Wire wire)) (λ k x d e. driven wire k x is d e) steady
  off-same path gate.IfNone is driven steady = refl

-- tests and values that are the same at each entry of a list
all-same :
    {X : Type 0} (f g : X → Bool) (xs : List X) → ((i : ℕ) (x : X) → slice_get xs i ≡ Some x → f x ≡ g x)
    → list_all f xs ≡ list_all g xs
all-same f g [] same = refl
all-same f g (x ∷ xs) same = λ i. same zero x refl i && all-same f g xs (λ k y e. same (suc k) y e) i

one-same :
    {X Y : Type 0} (f g : X → Y) (x : X) (xs : List X) (b : Bool)
    → f x ≡ g x → map f xs ≡ map g xs → map f (cond b (x ∷ xs) xs) ≡ map g (cond b (x ∷ xs) xs)
one-same f g x xs true own rest = λ i. own i ∷ rest i
one-same f g x xs false own rest = rest

map-filter-same :
    {X Y : Type 0} (f g : X → Y) (p : X → Bool) (xs : List X) → ((i : ℕ) (x : X) → slice_get xs i ≡ Some x → f x ≡ g x)
    → map f (filter p xs) ≡ map g (filter p xs)
map-filter-same f g p [] same = refl
map-filter-same f g p (x ∷ xs) same =
    one-same f g x (filter p xs) (p x) (same zero x refl) (map-filter-same f g p xs (λ k y e. same (suc k) y e))

-- The paths are active where they were while each gate stays 0 or not 0.
module _ (m : VModule) (gates : Gates) (v s w t : List Trit) (are : AreGates m gates) (steady : gates.stateful ≡ false)
    (same : gate_zeros gates.places (kept_values m v s) ≡ gate_zeros gates.places (kept_values m w t)) where
  path-off : (i : ℕ) (path : VPath) → slice_get m.paths i ≡ Some path → is_off m v s path.gate ≡ is_off m w t path.gate
  path-off i path e = off-same m gates v s w t same path path.gate refl (are i path e) steady

  quiet-same : (path : VPath) → list_all (is_quiet m v s path) m.paths ≡ list_all (is_quiet m w t path) m.paths
  quiet-same path =
      all-same (is_quiet m v s path) (is_quiet m w t path) m.paths
      (λ i other e. ap (λ b. not (same_ports path other) || b) (path-off i other e))

  active-same : (path : VPath) (g : Gate)
      → is_off m v s g ≡ is_off m w t g → is_active m v s path g ≡ is_active m w t path g
  active-same path gate.Always off = refl
  active-same path (gate.If wire) off = ap not off
  active-same path gate.IfNone off = quiet-same path

  pub same-paths : (output input : ℕ) → paths_between m v s input output ≡ paths_between m w t input output
  same-paths output input =
      map-filter-same (path_at m v s) (path_at m w t) (is_between m.ports input output) m.paths
      (λ k path e i. record {
        active = active-same path path.gate (path-off k path e) i;
        rise = path.rise;
        fall = path.fall;
      })
