-- Modules that are read: their instances are sound, and each net is driven once at most.
use Rattle.std.proofs.Common.{◌≡◌, ℕ, ◌+◌, ◌≤◌, Bool, true, false, not, ◌&&◌, ◌||◌, ◌==◌, nat_eq, nat_lt, cond, if◌then◌else◌}
use Rattle.std.proofs.Common.{IsTrue, List, [], ◌∷◌, ◌++◌, length, slice_get, inl, inr, Option, Some, None, refl, sym, ap, subst}
use Rattle.std.proofs.Common.{◌∙◌, arith, codes}
use Rattle.std.specs.Str.{bytes_eq}
use Rattle.std.specs.Option.{option_map_or}
use Rattle.std.specs.List.{list_all, list_any}
use Rattle.std.proofs.lemmas.Bool.{and_parts, and_from, cases_Bool, eqb-true, or_parts as neither}
use Rattle.std.proofs.lemmas.Bool.Decides.{nat_tests}
use Rattle.std.proofs.lemmas.List.Folds.{list_all-append, list_any-append}
use Rattle.std.proofs.lemmas.List.Quantifiers.{position-Some}
use Rattle.cell_machine.proofs.ArcDelays.{some_at}
use Rattle.grammar_rules.specs.Rule.{Fits, Foul}
use Rattle.grammar_rules.proofs.Promises.{Promises, token, gives, in_turn, many}
use Rattle.udp_tables.specs.declared.table.Udp.{Udp}
use Rattle.specify_blocks.specs.declared.model.VNet.{VNet}
use Rattle.specify_blocks.specs.declared.model.VNet.TheVariants as net
use Rattle.specify_blocks.specs.declared.model.Instance.{Instance}
use Rattle.specify_blocks.specs.declared.model.Instance.TheVariants as instance
use Rattle.specify_blocks.specs.declared.model.VPath.{VPath}
use Rattle.udp_tables.specs.declared.timing_checks.TimingCheck.{TimingCheck}
use Rattle.specify_blocks.specs.declared.model.VModule.{VModule}
use Rattle.specify_blocks.specs.Nets.{same_net, are_apart, is_sequential, is_driven, holds_state, net_driven, feeds_state}
use Rattle.specify_blocks.specs.Nets.{feeds_value, drivers}
use Rattle.specify_blocks.specs.Sound.{IsPrimitive, IsInstance, AreInstances}
use Rattle.verilog_tokens.specs.Tokens.{is_name}
use Rattle.grammar_reader.specs.declared.refusal.Refusal.TheVariants.{Syntax, Width, Undefined, Twice}
use Rattle.verilog_grammar.specs.VerilogModules.{net_of, terminal_by, terminal, may_drive, is_driven_already, driven_terminal}
use Rattle.verilog_grammar.specs.VerilogModules.{may_feed, feeding_terminal, next_input, more_inputs, input_count, with_instance}
use Rattle.verilog_grammar.specs.VerilogModules.{call, constant, primitive_number, of_primitive, begins_instance, one_instance}
use Rattle.verilog_grammar.specs.VerilogModules.{instances}
use Rattle.specify_blocks.proofs.InstanceLemmas.{drivers-cons, drivers-append, are-append}
use Rattle.verilog_grammar.proofs.ReadNames.{IsSpelled, fits_if, fits_unless, where_holds, behind}

-- a module with these instances, paths and checks, and otherwise as this one
abbrev pub filled : VModule → List Instance → List VPath → List TimingCheck → VModule
filled b is ps cs = record {
  instances = is;
  paths = ps;
  checks = cs;
  name = b.name;
  ports = b.ports;
  wires = b.wires;
  notifier = b.notifier;
  udps = b.udps;
}

abbrev built : VModule → List Instance → VModule
built b is = filled b is b.paths b.checks

-- Nets.

nat_eq-symm : (p q : ℕ) → nat_eq p q ≡ nat_eq q p
nat_eq-symm p q = grind (arith, nat_tests)

same_net-symm : (a b : VNet) → same_net a b ≡ same_net b a
same_net-symm (net.Port p) (net.Port q) = nat_eq-symm p q
same_net-symm (net.Port p) (net.Wire w) = refl
same_net-symm (net.Port p) net.Notifier = refl
same_net-symm (net.Wire v) (net.Port p) = refl
same_net-symm (net.Wire v) (net.Wire w) = nat_eq-symm v w
same_net-symm (net.Wire v) net.Notifier = refl
same_net-symm net.Notifier (net.Port p) = refl
same_net-symm net.Notifier (net.Wire w) = refl
same_net-symm net.Notifier net.Notifier = refl

same_net-is : (a b : VNet) → same_net a b ≡ true → a ≡ b
same_net-is (net.Port p) (net.Port q) e = ap net.Port (eqb-true p q e)
same_net-is (net.Port p) (net.Wire w) e = absurd cc
same_net-is (net.Port p) net.Notifier e = absurd cc
same_net-is (net.Wire v) (net.Port p) e = absurd cc
same_net-is (net.Wire v) (net.Wire w) e = ap net.Wire (eqb-true v w e)
same_net-is (net.Wire v) net.Notifier e = absurd cc
same_net-is net.Notifier (net.Port p) e = absurd cc
same_net-is net.Notifier (net.Wire w) e = absurd cc
same_net-is net.Notifier net.Notifier e = refl

push_apart : (ns : List VNet) (n : VNet) → IsTrue (are_apart ns) → list_any (same_net n) ns ≡ false
    → IsTrue (are_apart (ns ++ n ∷ []))
push_apart [] n h new = refl
push_apart (x ∷ ns) n h new =
    let parts = and_parts (not (list_any (same_net x) ns)) (are_apart ns) h in
    let apart = neither (same_net n x) (list_any (same_net n) ns) new in
    let last : (same_net x n || false) ≡ false = rw (same_net-symm x n, apart.0) refl in
    let same : list_any (same_net x) (ns ++ n ∷ []) ≡ (list_any (same_net x) ns || (same_net x n || false)) =
    list_any-append (same_net x) ns (n ∷ []) in
    let none : not (list_any (same_net x) (ns ++ n ∷ [])) ≡ true = rw (same, last) (or_none (list_any (same_net x) ns) parts.0) in
    and_from (not (list_any (same_net x) (ns ++ n ∷ []))) (are_apart (ns ++ n ∷ [])) none (push_apart ns n parts.1 apart.1)
  where
    or_none : (a : Bool) → not a ≡ true → not (a || false) ≡ true
    or_none true e = absurd cc
    or_none false e = refl

-- What a place allows depends on the declarations alone.

drives_of : (b : VModule) (is : List Instance) (s : Bool) (n : VNet)
    → may_drive (built b is) s n ≡ (if s then holds_state b n else is_driven b n)
drives_of b is s n = grind arith

feeds_of : (b : VModule) (is : List Instance) (s : Bool) (n : VNet)
    → may_feed (built b is) s n ≡ (if s then feeds_state b else feeds_value b is) n
feeds_of b is true n = grind arith
feeds_of b is false n = grind arith

filled_drives : (b : VModule) (is : List Instance) (ps : List VPath) (cs : List TimingCheck) (s : Bool) (n : VNet)
    → (if s then holds_state b n else is_driven b n) ≡ (if s then holds_state (filled b is ps cs) n
    else is_driven (filled b is ps cs) n)
filled_drives b is ps cs true (net.Port p) = refl
filled_drives b is ps cs true (net.Wire w) = refl
filled_drives b is ps cs true net.Notifier = refl
filled_drives b is ps cs false (net.Port p) = refl
filled_drives b is ps cs false (net.Wire w) = refl
filled_drives b is ps cs false net.Notifier = refl

filled_feeds : (b : VModule) (is : List Instance) (ps : List VPath) (cs : List TimingCheck) (earlier : List Instance) (s : Bool)
    (n : VNet)
    → (if s then feeds_state b else feeds_value b earlier) n ≡ (if s then feeds_state (filled b is ps cs)
    else feeds_value (filled b is ps cs) earlier) n
filled_feeds b is ps cs earlier true (net.Port p) = refl
filled_feeds b is ps cs earlier true (net.Wire w) = refl
filled_feeds b is ps cs earlier true net.Notifier = refl
filled_feeds b is ps cs earlier false (net.Port p) = refl
filled_feeds b is ps cs earlier false (net.Wire w) = refl
filled_feeds b is ps cs earlier false net.Notifier = refl

filled_instance : (b : VModule) (is : List Instance) (ps : List VPath) (cs : List TimingCheck) (earlier : List Instance)
    (i : Instance)
    → IsInstance b earlier i → IsInstance (filled b is ps cs) earlier i
filled_instance b is ps cs earlier (instance.Primitive j output inputs) (udp, at, h) = (
  udp,
  at,
  record {
    entries = h.entries;
    apart = h.apart;
    drives = subst IsTrue (filled_drives b is ps cs udp.sequential output) h.drives;
    fed = subst (λ f. IsTrue (list_all f inputs)) (λ i n. filled_feeds b is ps cs earlier udp.sequential n i) h.fed;
  },
)
filled_instance b is ps cs earlier (instance.Constant output one) h = subst IsTrue (filled_drives b is ps cs false output) h

pub filled_instances : (b : VModule) (is : List Instance) (ps : List VPath) (cs : List TimingCheck) (earlier xs : List Instance)
    → AreInstances b earlier xs → AreInstances (filled b is ps cs) earlier xs
filled_instances b is ps cs earlier [] h = tt
filled_instances b is ps cs earlier (x ∷ xs) h =
    (filled_instance b is ps cs earlier x h.0, filled_instances b is ps cs (earlier ++ x ∷ []) xs h.1)

-- Terminals.

record IsTerminal (is_allowed is_taken : VNet → Bool) (n : VNet) : Type 0 where
  allowed : is_allowed n ≡ true
  free : is_taken n ≡ false

terminal_fits : (is_allowed is_taken : VNet → Bool) (o : Option VNet) (a : VNet) → terminal_by is_allowed is_taken o ≡ Fits a
    → IsTerminal is_allowed is_taken a
terminal_fits is_allowed is_taken None a e = absurd cc
terminal_fits is_allowed is_taken (Some n) a e =
    let f = fits_if (is_allowed n) (if is_taken n then Foul Twice n else Fits n) Undefined a e in
    let g = fits_unless (is_taken n) Twice n a f.1 in
    subst (IsTerminal is_allowed is_taken) g.1 (record { allowed = f.0; free = g.0 })

terminals : (m : VModule) (is_allowed is_taken : VNet → Bool)
    → Promises IsSpelled (terminal m is_allowed is_taken) (IsTerminal is_allowed is_taken)
terminals m is_allowed is_taken = token (λ x a p e.
    let n = fits_if (is_name x) (terminal_by is_allowed is_taken (net_of m x)) Syntax a e in
    terminal_fits is_allowed is_taken (net_of m x) a n.1)

record AreInputs (m : VModule) (s : Bool) (output : VNet) (inputs : List VNet) : Type 0 where
  fed : IsTrue (list_all (may_feed m s) inputs)
  apart : IsTrue (are_apart (output ∷ inputs))

one_input : (m : VModule) (s : Bool) (output : VNet) (inputs : List VNet) → AreInputs m s output inputs
    → Promises IsSpelled (next_input m s output inputs) (AreInputs m s output)
unfolding next_input feeding_terminal
one_input m s output inputs h =
    in_turn (terminals m (may_feed m s) (λ n. list_any (same_net n) (output ∷ inputs))) (λ n t. gives (record {
      fed = list_all-append (may_feed m s) inputs (n ∷ [])
          ∙ and_from (list_all (may_feed m s) inputs) (may_feed m s n && true) h.fed (rw t.allowed refl);
      apart = push_apart (output ∷ inputs) n h.apart t.free;
    }))

all_inputs : (m : VModule) (s : Bool) (output : VNet) (inputs : List VNet) → AreInputs m s output inputs
    → Promises IsSpelled (more_inputs m s output inputs) (AreInputs m s output)
unfolding more_inputs
all_inputs m s output inputs h = many h (λ found x a q p e. one_input m s output found q)

-- Instances.

-- the instances so far, which drive each net once at most
pub record AreDriven (b : VModule) (is : List Instance) : Type 0 where
  pub instances : AreInstances b [] is
  pub once : (n : VNet) → drivers is n ≤ 1

pub record IsBuilt (b m : VModule) : Type 0 where
  pub same : m ≡ filled b m.instances b.paths b.checks
  pub driven : AreDriven b m.instances

no_driver : (is : List Instance) (n : VNet) → nat_lt 0 (drivers is n) ≡ false → drivers is n ≡ 0
no_driver is n e = grind (arith, nat_tests)

push_once : (is : List Instance) (i : Instance) (n : VNet) → drivers is (net_driven i) ≡ 0 → drivers is n ≤ 1
    → drivers (is ++ i ∷ []) n ≤ 1
push_once is i n none once =
    let split : drivers (is ++ i ∷ []) n ≡ drivers is n + drivers (i ∷ []) n = drivers-append is (i ∷ []) n in
    let last : drivers (i ∷ []) n ≡ cond (same_net (net_driven i) n) 1 0 + 0 = drivers-cons i [] n in
    elim (cases_Bool (same_net (net_driven i) n)) [
      | inl t ↦
          let one : ◌≡◌ {A = ℕ} (cond (same_net (net_driven i) n) 1 0) 1 = rw t refl in
          let here : drivers is n ≡ 0 = subst (λ o. drivers is o ≡ 0) (same_net-is (net_driven i) n t) none in
          omega (arith, split, last, one, here)
      | inr t ↦
          let zero_more : ◌≡◌ {A = ℕ} (cond (same_net (net_driven i) n) 1 0) 0 = rw t refl in
          omega (arith, split, last, zero_more, once)
    ]

push_instance : (b : VModule) (is : List Instance) (i : Instance) → AreDriven b is → IsInstance b is i
    → is_driven_already (built b is) (net_driven i) ≡ false → AreDriven b (is ++ i ∷ [])
push_instance b is i h here free = record {
  instances = are-append b [] is (i ∷ []) h.instances (here, tt);
  once = λ n. push_once is i n (no_driver is (net_driven i) free) (h.once n);
}

no_udp : Udp
no_udp = record { name = []; output = []; inputs = []; sequential = false; rows = [] }

udp_at : (udps : List Udp) (x : List ℕ) (j : ℕ) → primitive_number udps x ≡ Some j → (udp : Udp) × (slice_get udps j ≡ Some udp)
udp_at udps x j e = some_at udps j (position-Some (λ (udp : Udp). bytes_eq x udp.name) udps j no_udp e).0

primitive_is : (b : VModule) (is : List Instance) (j : ℕ) (udp : Udp) (output : VNet) (inputs : List VNet)
    → slice_get b.udps j ≡ Some udp
    → may_drive (built b is) (is_sequential b.udps j) output ≡ true
    → AreInputs (built b is) (is_sequential b.udps j) output inputs → length inputs ≡ input_count b.udps j
    → IsPrimitive b is udp output inputs
primitive_is b is j udp output inputs at drives fed entries =
    let kind : is_sequential b.udps j ≡ udp.sequential = ap (λ o. option_map_or (λ (u : Udp). u.sequential) o false) at in
    record {
      entries = entries ∙ ap (λ o. option_map_or (λ (u : Udp). length u.inputs) o 0) at;
      apart = fed.apart;
      drives = subst (λ s. IsTrue (if s then holds_state b output else is_driven b output)) kind
          (sym (drives_of b is (is_sequential b.udps j) output) ∙ drives);
      fed = subst (λ s. IsTrue (list_all (if s then feeds_state b else feeds_value b is) inputs)) kind
          (subst (λ f. IsTrue (list_all f inputs)) (λ i n. feeds_of b is (is_sequential b.udps j) n i) fed.fed);
    }

pushed : (b : VModule) (is : List Instance) (i : Instance) → AreDriven b (is ++ i ∷ []) → IsBuilt b (with_instance (built b is) i)
pushed b is i h = record { same = refl; driven = h }

calls : (b : VModule) (is : List Instance) (j : ℕ) (udp : Udp) → slice_get b.udps j ≡ Some udp → AreDriven b is
    → Promises IsSpelled (call (built b is) j) (IsBuilt b)
unfolding call driven_terminal
calls b is j udp at h =
    behind (λ a. in_turn (terminals (built b is) (may_drive (built b is) (is_sequential b.udps j))
    (is_driven_already (built b is))) (λ output t.
    behind (λ c. in_turn (one_input (built b is) (is_sequential b.udps j) output [] (record { fed = refl; apart = refl }))
    (λ first one.
    in_turn (all_inputs (built b is) (is_sequential b.udps j) output first one) (λ inputs all.
    in_turn (where_holds (length inputs == input_count b.udps j) Width (codes ")")) (λ d w.
    behind (λ e. gives (pushed b is (instance.Primitive j output inputs)
    (push_instance b is (instance.Primitive j output inputs) h
    (udp, at, primitive_is b is j udp output inputs at t.allowed all (eqb-true (length inputs) (input_count b.udps j) w))
    t.free)))))))))

constants : (b : VModule) (is : List Instance) → AreDriven b is → Promises IsSpelled (constant (built b is)) (IsBuilt b)
unfolding constant driven_terminal
constants b is h =
    behind (λ a. in_turn (terminals (built b is) (may_drive (built b is) false) (is_driven_already (built b is))) (λ output t.
    behind (λ c. behind (λ one. behind (λ d. behind (λ e. gives (pushed b is (instance.Constant output one)
    (push_instance b is (instance.Constant output one) h (sym (drives_of b is false output) ∙ t.allowed) t.free))))))))

begun_by : (o : Option ℕ) (a : Option ℕ) → of_primitive o ≡ Fits a → o ≡ a
begun_by None a e = absurd cc
begun_by (Some j) a e = cc

started : (buffer name : Bool) (o : Option ℕ) (j : ℕ)
    → (if buffer then Some (Fits None) else (if name then Some (of_primitive o) else None)) ≡ Some (Fits (Some j)) → o ≡ Some j
started true name o j e = absurd cc
started false true o j e = begun_by o (Some j) cc
started false false o j e = absurd cc

one_more : (b : VModule) (is : List Instance) (x : List ℕ) (a : Option ℕ) → AreDriven b is
    → begins_instance b.udps x ≡ Some (Fits a)
    → Promises IsSpelled (one_instance (built b is) a) (IsBuilt b)
one_more b is x None h e = constants b is h
one_more b is x (Some j) h e =
    let udp = udp_at b.udps x j (started (bytes_eq x (codes "buf")) (is_name x) (primitive_number b.udps x) j e) in
    calls b is j udp.0 udp.1 h

pub all_instances : (b : VModule) → b.instances ≡ [] → Promises IsSpelled (instances b) (IsBuilt b)
unfolding instances
all_instances b none =
    many (record { same = refl; driven = subst (AreDriven b) (sym none) (record { instances = tt; once = λ n. omega arith }) })
    (λ m x a q p e.
    subst (λ w. Promises IsSpelled (one_instance w a) (IsBuilt b)) (sym q.same)
    (one_more b m.instances x a q.driven (subst (λ w. begins_instance w.udps x ≡ Some (Fits a)) q.same e)))
