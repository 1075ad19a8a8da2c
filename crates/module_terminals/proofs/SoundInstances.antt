-- What soundness gives for the instances that stand for parts of a cell.
use Rattle.std.proofs.Common.{◌≡◌, ℕ, zero, suc, Bool, true, false, not, ◌&&◌, cond, List, [], ◌∷◌, ◌++◌, length, filter, find}
use Rattle.std.proofs.Common.{Some, slice_get, nat_eq, IsTrue, refl, sym, subst, eqb-true}
use Rattle.std.specs.List.{list_all}
use Rattle.std.specs.Option.{option_map_or}
use Rattle.std.proofs.lemmas.Bool.{true≢false, and_parts}
use Rattle.specify_blocks.specs.declared.model.VNet.{VNet}
use Rattle.specify_blocks.specs.declared.model.Instance.{Instance}
use Rattle.specify_blocks.specs.declared.model.Instance.TheVariants as instance
use Rattle.specify_blocks.specs.declared.model.VModule.{VModule}
use Rattle.specify_blocks.specs.Nets.{same_net, net_driven, has_state, is_sequential}
use Rattle.specify_blocks.specs.Sound.{IsInstance, AreInstances, IsSound}
use Rattle.module_terminals.specs.Terminals.{sequential_instances, driving, StandsIn, nets_feeding, is_among, same_nets}
use Rattle.module_terminals.specs.Terminals.{stands_for, drives_value}

-- an entry of a list of instances that passes a test
first-passing :
    (m : VModule) (p : Instance → Bool) (earlier xs : List Instance) (x i : Instance) (b : Bool) (k : ℕ)
    → IsInstance m earlier x → slice_get (cond b (x ∷ filter p xs) (filter p xs)) k ≡ Some i
    → ((j : ℕ) → slice_get (filter p xs) j ≡ Some i → StandsIn m i) → StandsIn m i
first-passing m p earlier xs x i true zero h e rest = let same : x ≡ i = cc in subst (StandsIn m) same (earlier, h)
first-passing m p earlier xs x i true (suc k) h e rest = rest k e
first-passing m p earlier xs x i false k h e rest = rest k e

passing :
    (m : VModule) (p : Instance → Bool) (earlier xs : List Instance) (k : ℕ) (i : Instance)
    → AreInstances m earlier xs → slice_get (filter p xs) k ≡ Some i → StandsIn m i
passing m p earlier [] k i h e = absurd cc
passing m p earlier (x ∷ xs) k i h e =
    first-passing m p earlier xs x i (p x) k h.0 e (λ j f. passing m p (earlier ++ x ∷ []) xs j i h.1 f)

pub sequential-stands :
    (m : VModule) (k : ℕ) (i : Instance) → IsSound m → slice_get (sequential_instances m) k ≡ Some i → StandsIn m i
sequential-stands m k i sound e = passing m (has_state m.udps) [] m.instances k i sound.instances e

first-found :
    (m : VModule) (p : Instance → Bool) (earlier xs : List Instance) (x i : Instance) (b : Bool)
    → IsInstance m earlier x → cond b (Some x) (find p xs) ≡ Some i → (find p xs ≡ Some i → StandsIn m i) → StandsIn m i
first-found m p earlier xs x i true h e rest = let same : x ≡ i = cc in subst (StandsIn m) same (earlier, h)
first-found m p earlier xs x i false h e rest = rest e

found :
    (m : VModule) (p : Instance → Bool) (earlier xs : List Instance) (i : Instance)
    → AreInstances m earlier xs → find p xs ≡ Some i → StandsIn m i
found m p earlier [] i h e = absurd cc
found m p earlier (x ∷ xs) i h e =
    first-found m p earlier xs x i (p x) h.0 e (λ f. found m p (earlier ++ x ∷ []) xs i h.1 f)

pub driving-stands : (m : VModule) (n : VNet) (i : Instance) → IsSound m → driving m n ≡ Some i → StandsIn m i
driving-stands m n i sound e = found m (λ i. same_net (net_driven i) n) [] m.instances i sound.instances e

-- as many nets feed an instance as those that it stands for
same-count : (ms ns : List VNet) → IsTrue (same_nets ms ns) → length ms ≡ length ns
same-count ms ns h =
    eqb-true (length ms) (length ns)
    (and_parts (nat_eq (length ms) (length ns)) (list_all (is_among ns) ms && list_all (is_among ms) ns) h).0

standing :
    (m : VModule) (nets : List VNet) (i : Instance)
    → IsTrue (stands_for m nets i) → (length (nets_feeding i) ≡ length nets) × (has_state m.udps i ≡ false)
standing m [] (instance.Primitive number output inputs) h = absurd (true≢false (sym h))
standing m [] (instance.Constant output one) h = (refl, refl)
standing m (n ∷ ns) (instance.Primitive number output inputs) h =
    let parts = and_parts (not (is_sequential m.udps number)) (same_nets inputs (n ∷ ns)) h in
    (same-count inputs (n ∷ ns) parts.1, plain (is_sequential m.udps number) parts.0)
  where
    plain : (b : Bool) → IsTrue (not b) → b ≡ false
    plain true h = absurd (true≢false (sym h))
    plain false h = refl
standing m (n ∷ ns) (instance.Constant output one) h = absurd (true≢false (sym h))

pub driven-standing :
    (m : VModule) (nets : List VNet) (n : VNet) (i : Instance)
    → IsTrue (drives_value m nets n) → driving m n ≡ Some i
    → (length (nets_feeding i) ≡ length nets) × (has_state m.udps i ≡ false)
driven-standing m nets n i h e = standing m nets i (subst (λ o. IsTrue (option_map_or (stands_for m nets) o false)) e h)
