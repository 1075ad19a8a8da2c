-- What a module that can be run gives for its parts, and that every sound module can be run.
use Rattle.std.proofs.Common.{◌≡◌, ℕ, suc, zero, ◌≤◌, ◌<◌, Bool, true, false, ◌||◌, List, [], ◌∷◌, ◌++◌, length, get_or, refl}
use Rattle.std.proofs.Common.{sym, subst, arith, IsTrue, Some, slice_get, nat_eq, nat_le, ◌&&◌, if◌then◌else◌}
use Rattle.std.specs.List.{list_all}
use Rattle.std.specs.Option.{option_map_or}
use Rattle.std.proofs.lemmas.Bool.{and_parts, and_from, le-leb, eq-eqb}
use Rattle.udp_tables.specs.declared.table.UdpRow.{UdpRow}
use Rattle.udp_tables.specs.declared.table.Udp.{Udp}
use Rattle.udp_tables.specs.Primitive.{is_level}
use Rattle.specify_blocks.specs.Nets.{feeds_state, feeds_value}
use Rattle.specify_blocks.specs.declared.model.VNet.{VNet}
use Rattle.specify_blocks.specs.declared.model.VNet.TheVariants as net
use Rattle.specify_blocks.specs.declared.model.Instance.{Instance}
use Rattle.specify_blocks.specs.declared.model.Instance.TheVariants as instance
use Rattle.specify_blocks.specs.declared.model.VModule.{VModule}
use Rattle.specify_blocks.specs.Sound.{IsTable, IsInstance, AreInstances, IsSound}
use Rattle.module_runs.specs.Wiring.{has_entries, has_levels, is_table, net_count, has_nets, is_joined, is_readable, reads_inputs}
use Rattle.module_runs.specs.Wiring.{is_wired}

-- what a test gives of an entry of a list of which it holds
pub list_all-get :
    {X : Type 0} (p : X → Bool) (xs : List X) (i : ℕ) (x : X) → IsTrue (list_all p xs) → slice_get xs i ≡ Some x → IsTrue (p x)
list_all-get p [] i x h e = absurd cc
list_all-get p (y ∷ ys) zero x h e =
    let same : y ≡ x = cc in subst (λ z. IsTrue (p z)) same (and_parts (p y) (list_all p ys) h).0
list_all-get p (y ∷ ys) (suc i) x h e = list_all-get p ys i x (and_parts (p y) (list_all p ys) h).1 e

pub list_all-from-All :
    {X : Type 0} (p : X → Bool) (xs : List X) → ((k : ℕ) (d : X) → k < length xs → IsTrue (p (get_or xs k d)))
    → IsTrue (list_all p xs)
list_all-from-All p [] h = refl
list_all-from-All p (x ∷ xs) h =
    and_from (p x) (list_all p xs) (h zero x (omega arith)) (list_all-from-All p xs (λ k d inside. h (suc k) d (omega arith)))

abbrev are_joined : ℕ → VModule → Bool
are_joined room m = list_all (is_joined m.udps room) m.instances && list_all (reads_inputs m.ports) m.instances

pub wired-table :
    (room : ℕ) (m : VModule) (i : ℕ) (udp : Udp) → IsTrue (is_wired room m) → slice_get m.udps i ≡ Some udp
    → IsTrue (is_table udp)
wired-table room m i udp h e =
    list_all-get is_table m.udps i udp (and_parts (list_all is_table m.udps) (are_joined room m) h).0 e

instances-test :
    (room : ℕ) (m : VModule)
    → IsTrue (is_wired room m)
    → IsTrue (list_all (is_joined m.udps room) m.instances) × IsTrue (list_all (reads_inputs m.ports) m.instances)
instances-test room m h =
    and_parts (list_all (is_joined m.udps room) m.instances) (list_all (reads_inputs m.ports) m.instances)
    (and_parts (list_all is_table m.udps) (are_joined room m) h).1

pub wired-joined :
    (room : ℕ) (m : VModule) (i : ℕ) (x : Instance)
    → IsTrue (is_wired room m) → slice_get m.instances i ≡ Some x → IsTrue (is_joined m.udps room x)
wired-joined room m i x h e =
    list_all-get (is_joined m.udps room) m.instances i x (instances-test room m h).0 e

pub wired-reads :
    (room : ℕ) (m : VModule) (i : ℕ) (x : Instance)
    → IsTrue (is_wired room m) → slice_get m.instances i ≡ Some x → IsTrue (reads_inputs m.ports x)
wired-reads room m i x h e = list_all-get (reads_inputs m.ports) m.instances i x (instances-test room m h).1 e

-- Every sound module can be run, with room for as many values as there are nets that feed any instance.
table-test : (s : Bool) (udp : Udp) → IsTable s udp → IsTrue (has_entries udp) × IsTrue (s || has_levels udp)
table-test true udp t = (
  list_all-from-All (λ (row : UdpRow). nat_eq (length row.inputs) (length udp.inputs)) udp.rows
      (λ k d inside. eq-eqb _ _ (t.entries k d inside)),
  refl,
)
table-test false udp t = (
  list_all-from-All (λ (row : UdpRow). nat_eq (length row.inputs) (length udp.inputs)) udp.rows
      (λ k d inside. eq-eqb _ _ (t.entries k d inside)),
  list_all-from-All (λ (row : UdpRow). list_all is_level row.inputs) udp.rows t.levels,
)

nets-test :
    (m : VModule) (earlier : List Instance) (x : Instance) → IsInstance m earlier x → IsTrue (has_nets m.udps x)
nets-test m earlier (instance.Primitive number output nets) h =
    subst (λ o. IsTrue (option_map_or (λ (u : Udp). nat_eq (length nets) (length u.inputs)) o true)) (sym h.1)
    (eq-eqb (length nets) (length h.0.inputs) h.2.entries)
nets-test m earlier (instance.Constant output one) h = refl

joined-test :
    (m : VModule) (room : ℕ) (earlier instances : List Instance)
    → AreInstances m earlier instances
    → ((k : ℕ) (d : Instance) → k < length instances → net_count (get_or instances k d) ≤ room)
    → IsTrue (list_all (is_joined m.udps room) instances)
joined-test m room earlier [] h few = refl
joined-test m room earlier (x ∷ xs) h few =
    and_from (is_joined m.udps room x) (list_all (is_joined m.udps room) xs)
    (and_from (nat_le (net_count x) room) (has_nets m.udps x) (le-leb (net_count x) room (few zero x (omega arith)))
    (nets-test m earlier x h.0))
    (joined-test m room (earlier ++ x ∷ []) xs h.1 (λ k d inside. few (suc k) d (omega arith)))

-- the ports that feed the instances of a sound module are inputs
readable :
    (m : VModule) (earlier : List Instance) (s : Bool) (n : VNet)
    → (if s then feeds_state m else feeds_value m earlier) n ≡ true → is_readable m.ports n ≡ true
readable m earlier true (net.Port p) h = h
readable m earlier false (net.Port p) h = h
readable m earlier s (net.Wire w) h = refl
readable m earlier s net.Notifier h = refl

reads-nets :
    (m : VModule) (earlier : List Instance) (s : Bool) (nets : List VNet)
    → IsTrue (list_all (if s then feeds_state m else feeds_value m earlier) nets) → IsTrue (list_all (is_readable m.ports) nets)
reads-nets m earlier s [] h = refl
reads-nets m earlier s (n ∷ nets) h =
    let feeds : VNet → Bool = if s then feeds_state m else feeds_value m earlier in
    let parts = and_parts (feeds n) (list_all feeds nets) h in
    and_from (is_readable m.ports n) (list_all (is_readable m.ports) nets) (readable m earlier s n parts.0)
    (reads-nets m earlier s nets parts.1)

reads-test : (m : VModule) (earlier : List Instance) (x : Instance) → IsInstance m earlier x → IsTrue (reads_inputs m.ports x)
reads-test m earlier (instance.Primitive number output nets) h = reads-nets m earlier h.0.sequential nets h.2.fed
reads-test m earlier (instance.Constant output one) h = refl

all-read :
    (m : VModule) (earlier instances : List Instance)
    → AreInstances m earlier instances → IsTrue (list_all (reads_inputs m.ports) instances)
all-read m earlier [] h = refl
all-read m earlier (x ∷ xs) h =
    and_from (reads_inputs m.ports x) (list_all (reads_inputs m.ports) xs) (reads-test m earlier x h.0)
    (all-read m (earlier ++ x ∷ []) xs h.1)

pub sound-wired :
    (m : VModule) (room : ℕ)
    → IsSound m → ((k : ℕ) (d : Instance) → k < length m.instances → net_count (get_or m.instances k d) ≤ room)
    → IsTrue (is_wired room m)
sound-wired m room sound few =
    and_from (list_all is_table m.udps) (are_joined room m)
    (list_all-from-All is_table m.udps
    (λ k d inside.
    let both = table-test (get_or m.udps k d).sequential (get_or m.udps k d) (sound.tables k d inside) in
    and_from (has_entries (get_or m.udps k d)) ((get_or m.udps k d).sequential || has_levels (get_or m.udps k d)) both.0 both.1))
    (and_from (list_all (is_joined m.udps room) m.instances) (list_all (reads_inputs m.ports) m.instances)
    (joined-test m room [] m.instances sound.instances few) (all-read m [] m.instances sound.instances))
