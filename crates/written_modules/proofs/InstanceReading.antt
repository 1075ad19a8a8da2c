-- The instances of a written module are read from their tokens.
use Rattle.std.proofs.Common.{◌≡◌, ℕ, ◌+◌, ◌≤◌, Bool, true, false, not, ◌||◌, ◌==◌, nat_eq, nat_lt, cond, if◌then◌else◌, List, []}
use Rattle.std.proofs.Common.{◌∷◌, ◌++◌, length, Option, Some, slice_get, refl, sym, ap, ◌∙◌, arith, subst, codes, append_assoc}
use Rattle.std.specs.List.{AllByRecursion, list_any, list_all}
use Rattle.std.specs.Str.{bytes_eq}
use Rattle.std.proofs.lemmas.Bool.{and_parts, eq-eqb as same_number}
use Rattle.std.proofs.lemmas.Bool.Decides.{nat_tests}
use Rattle.std.proofs.lemmas.List.{append-nil}
use Rattle.std.proofs.lemmas.List.Sums.{sum_by-append, sum_by-cons}
use Rattle.verilog_tokens.specs.Words.{is_verilog_word, verilog_words}
use Rattle.grammar_rules.specs.Rule.{Fits, Stops}
use Rattle.udp_tables.specs.declared.table.Udp.{Udp}
use Rattle.udp_tables.specs.VerilogRules.{begins}
use Rattle.verilog_grammar.specs.specify_blocks.declared.model.VNet.{VNet}
use Rattle.verilog_grammar.specs.specify_blocks.declared.model.VNet.TheVariants as net
use Rattle.verilog_grammar.specs.specify_blocks.declared.model.Instance.{Instance}
use Rattle.verilog_grammar.specs.specify_blocks.declared.model.Instance.TheVariants as instance
use Rattle.verilog_grammar.specs.specify_blocks.declared.model.VModule.{VModule}
use Rattle.verilog_grammar.specs.specify_blocks.Nets.{same_net, are_apart, is_sequential, is_driven, holds_state, net_driven}
use Rattle.verilog_grammar.specs.specify_blocks.Nets.{feeds_state}
use Rattle.verilog_grammar.specs.specify_blocks.Nets.{feeds_value, drivers}
use Rattle.verilog_grammar.specs.specify_blocks.Sound.{IsInstance, AreInstances, IsSound}
use Rattle.verilog_grammar.specs.VerilogModules.{net_of, terminal_by, terminal, may_drive, is_driven_already, driven_terminal}
use Rattle.verilog_grammar.specs.VerilogModules.{may_feed, feeding_terminal, next_input, more_inputs, input_count, call, bit}
use Rattle.verilog_grammar.specs.VerilogModules.{constant, of_primitive, begins_instance, one_instance, instances}
use Rattle.verilog_grammar.specs.WellFormed.{IsName, IsWellFormedUdp, AreApart, udp_names}
use Rattle.grammar_reader.specs.declared.refusal.Refusal.TheVariants.{Width}
use Rattle.grammar_reader.specs.Words.{valued}
use Rattle.verilog_writer.specs.Nets.{primitive_at, net_at}
use Rattle.grammar_reader.proofs.Fronts.{each}
use Rattle.written_modules.proofs.Words.{name_is, unlike_word}
use Rattle.grammar_reader.proofs.Derivations.{Reads, gives, token, in_turn, Turn, turn, through}
use Rattle.written_modules.proofs.NameReading.{expected, expected_where}
use Rattle.written_modules.proofs.ModuleTokens.{next_terminal, bit_text, instance_more, instance_tokens}
use Rattle.written_modules.proofs.DeclarationReading.{AreDeclared, bare}
use Rattle.written_modules.proofs.NetReading.{position_is, IsKnown, named_net, net_read, driven_known, state_driven, DrivesNet}
use Rattle.written_modules.proofs.NetReading.{feeding_value_known, feeding_state_known}
use Rattle.grammar_reader.proofs.ItemPlaces.{all_at}

-- a module whose instances up to some place are read
abbrev pub so_far : VModule → List Instance → VModule
so_far m before = record m { instances = before; paths = []; checks = [] }

-- a well formed module among others
pub record IsWritten (m : VModule) : Type 0 where
  pub declared : AreDeclared m
  pub udps : AllByRecursion IsWellFormedUdp m.udps
  pub others : List (List ℕ)
  pub apart : AreApart (udp_names m.udps ++ others)
  pub sound : IsSound m

-- Instances by their places.

instance_from : (m : VModule) (earlier before : List Instance) (i : Instance) (after : List Instance)
    → AreInstances m earlier (before ++ i ∷ after) → IsInstance m (earlier ++ before) i
instance_from m earlier [] i after h = subst (λ (l : List Instance). IsInstance m l i) (sym (append-nil earlier)) h.0
instance_from m earlier (x ∷ before) i after h =
    subst (λ (l : List Instance). IsInstance m l i) (append_assoc earlier (x ∷ []) before)
    (instance_from m (earlier ++ x ∷ []) before i after h.1)

pub drives_by : (m : VModule) (b : Bool) (n : VNet) → (if b then holds_state m n else is_driven m n) ≡ true → is_driven m n ≡ true
drives_by m true n h = state_driven m n h
drives_by m false n h = h

pub drives_net : (m : VModule) (earlier : List Instance) (i : Instance) → IsInstance m earlier i → DrivesNet m i
drives_net m earlier (instance.Primitive j output inputs) (udp, e, h) = drives_by m udp.sequential output h.drives
drives_net m earlier (instance.Constant output one) h = h

drive_all : (m : VModule) (earlier is : List Instance) → AreInstances m earlier is → AllByRecursion (DrivesNet m) is
drive_all m earlier [] h = tt
drive_all m earlier (i ∷ is) h = (drives_net m earlier i h.0, drive_all m (earlier ++ i ∷ []) is h.1)

pub all_drive : (m : VModule) → IsWritten m → AllByRecursion (DrivesNet m) m.instances
all_drive m w = drive_all m [] m.instances w.sound.instances

all_before : {A : Type 0} (P : A → Type 0) (before after : List A) → AllByRecursion P (before ++ after) → AllByRecursion P before
all_before P [] after h = tt
all_before P (x ∷ before) after h = (h.0, all_before P before after h.1)

number_self : (n : ℕ) → nat_eq n n ≡ true
number_self n = grind (arith, nat_tests)

net_self : (n : VNet) → same_net n n ≡ true
net_self (net.Port p) = number_self p
net_self (net.Wire w) = number_self w
net_self net.Notifier = refl

-- what an instance drives, none before it drives
not_yet : (m : VModule) → IsWritten m → (before : List Instance) (i : Instance) (after : List Instance)
    → before ++ i ∷ after ≡ m.instances → is_driven m (net_driven i) ≡ true
    → nat_lt 0 (drivers before (net_driven i)) ≡ false
not_yet m w before i after same h =
    let n : VNet = net_driven i in
    let one : drivers (before ++ i ∷ after) n ≡ 1 = ap (λ (l : List Instance). drivers l n) same ∙ w.sound.driven n h in
    let here : ◌≡◌ {A = ℕ} (cond (same_net n n) 1 0) 1 = rw (net_self n) refl in
    let cons : drivers (i ∷ after) n ≡ cond (same_net n n) 1 0 + drivers after n =
    sum_by-cons (λ (k : Instance). cond (same_net (net_driven k) n) 1 0) i after in
    let split : drivers (before ++ i ∷ after) n ≡ drivers before n + drivers (i ∷ after) n =
    sum_by-append (λ (k : Instance). cond (same_net (net_driven k) n) 1 0) before (i ∷ after) in
    let none : drivers before n ≡ 0 = omega (arith, one, here, cons, split) in
    ap (λ (k : ℕ). nat_lt 0 k) none

-- Terminals.

terminal_read : (m : VModule) (allowed taken : VNet → Bool) (x : List ℕ) (n : VNet) (s : List (List ℕ)) → IsName x
    → net_of m x ≡ Some n → allowed n ≡ true → taken n ≡ false
    → Reads (terminal m allowed taken) (x ∷ s) n s
terminal_read m allowed taken x n s name is a t = token (rw (name_is x name) (ap (terminal_by allowed taken) is ∙ rw (a, t) refl))

drive_allowed : (m : VModule) (before : List Instance) (b : Bool) (n : VNet)
    → (if b then holds_state m n else is_driven m n) ≡ true → may_drive (so_far m before) b n ≡ true
drive_allowed m before true n h = h
drive_allowed m before false n h = h

output_read : (m : VModule) → IsWritten m → (before : List Instance) (b : Bool) (n : VNet) (s : List (List ℕ))
    → (if b then holds_state m n else is_driven m n) ≡ true → nat_lt 0 (drivers before n) ≡ false
    → Reads (driven_terminal (so_far m before) b) (net_at m n ∷ s) n s
unfolding driven_terminal
output_read m w before b n s h none =
    let known : IsKnown m n = driven_known m n (drives_by m b n h) in
    terminal_read (so_far m before) (may_drive (so_far m before) b) (is_driven_already (so_far m before)) (net_at m n) n s
    (named_net m w.declared n known) (net_read m w.declared n known)
    (drive_allowed m before b n h) none

feed_allowed : (m : VModule) (before : List Instance) (b : Bool) (n : VNet)
    → (if b then feeds_state m else feeds_value m before) n ≡ true → may_feed (so_far m before) b n ≡ true
feed_allowed m before true n h = h
feed_allowed m before false n h = h

pub feeding_known : (m : VModule) (before : List Instance) (b : Bool) (n : VNet) → AllByRecursion (DrivesNet m) before
    → (if b then feeds_state m else feeds_value m before) n ≡ true → IsKnown m n
feeding_known m before true n all h = feeding_state_known m n h
feeding_known m before false n all h = feeding_value_known m before n all h

input_read : (m : VModule) → IsWritten m → (before : List Instance) → AllByRecursion (DrivesNet m) before
    → (b : Bool) (output : VNet) (done : List VNet) (n : VNet) (s : List (List ℕ))
    → (if b then feeds_state m else feeds_value m before) n ≡ true → list_any (same_net n) (output ∷ done) ≡ false
    → Reads (next_input (so_far m before) b output done) (net_at m n ∷ s) (done ++ n ∷ []) s
unfolding next_input feeding_terminal
input_read m w before all b output done n s fed new =
    let known : IsKnown m n = feeding_known m before b n all fed in
    in_turn (terminal_read (so_far m before) (may_feed (so_far m before) b) (λ k. list_any (same_net k) (output ∷ done))
    (net_at m n) n s (named_net m w.declared n known) (net_read m w.declared n known)
    (feed_allowed m before b n fed) new) gives

passes_at : {A : Type 0} (test : A → Bool) (before : List A) (x : A) (after : List A) → list_all test (before ++ x ∷ after) ≡ true
    → test x ≡ true
passes_at test [] x after h = (and_parts (test x) (list_all test after) h).0
passes_at test (y ∷ before) x after h =
    passes_at test before x after (and_parts (test y) (list_all test (before ++ x ∷ after)) h).1

numbers_turned : (p q : ℕ) → nat_eq p q ≡ nat_eq q p
numbers_turned p q = grind (arith, nat_tests)

nets_turned : (n k : VNet) → same_net n k ≡ same_net k n
nets_turned (net.Port p) (net.Port q) = numbers_turned p q
nets_turned (net.Wire v) (net.Wire w) = numbers_turned v w
nets_turned net.Notifier net.Notifier = refl
nets_turned _ _ = refl

not_any_at : (test : VNet → Bool) (before : List VNet) (n : VNet) (after : List VNet)
    → not (list_any test (before ++ n ∷ after)) ≡ true → test n ≡ false
not_any_at test [] n after h = by (test n) h
  where
    by : (t : Bool) → not (t || list_any test after) ≡ true → t ≡ false
    by true h = absurd cc
    by false h = refl
not_any_at test (k ∷ before) n after h = not_any_at test before n after (by (test k) h)
  where
    by : (t : Bool) → not (t || list_any test (before ++ n ∷ after)) ≡ true → not (list_any test (before ++ n ∷ after)) ≡ true
    by true h = absurd cc
    by false h = h

new_net : (before : List VNet) (n : VNet) (after : List VNet) → are_apart (before ++ n ∷ after) ≡ true
    → list_any (same_net n) before ≡ false
new_net [] n after h = refl
new_net (k ∷ before) n after h =
    let p = and_parts (not (list_any (same_net k) (before ++ n ∷ after))) (are_apart (before ++ n ∷ after)) h in
    let other : same_net n k ≡ false = nets_turned n k ∙ not_any_at (same_net k) before n after p.0 in
    rw other (new_net before n after p.1)

-- Instances of primitives.

input_turn : (m : VModule) → IsWritten m → (before : List Instance) → AllByRecursion (DrivesNet m) before
    → (b : Bool) (output : VNet) (inputs : List VNet)
    → list_all (if b then feeds_state m else feeds_value m before) inputs ≡ true → are_apart (output ∷ inputs) ≡ true
    → (done : List VNet) (n : VNet) (after : List VNet) (s : List (List ℕ)) → done ++ n ∷ after ≡ inputs
    → Turn (λ _. begins (codes ",")) (λ found _. next_input (so_far m before) b output found) done (next_terminal m n s)
    (done ++ n ∷ []) s
input_turn m w before all b output inputs fed apart done n after s same =
    turn refl (input_read m w before all b output done n s
    (passes_at (if b then feeds_state m else feeds_value m before) done n after
    (subst (λ (l : List VNet). list_all (if b then feeds_state m else feeds_value m before) l ≡ true) (sym same) fed))
    (new_net (output ∷ done) n after (subst (λ (l : List VNet). are_apart (output ∷ l) ≡ true) (sym same) apart)))

sequential_is : (udps : List Udp) (j : ℕ) (udp : Udp) → slice_get udps j ≡ Some udp → is_sequential udps j ≡ udp.sequential
sequential_is udps j udp e = rw e refl

count_is : (udps : List Udp) (j : ℕ) (udp : Udp) → slice_get udps j ≡ Some udp → input_count udps j ≡ length udp.inputs
count_is udps j udp e = rw e refl

-- what an instance of a primitive may be, by whether it has a state
record IsCall (m : VModule) (before : List Instance) (b : Bool) (output : VNet) (inputs : List VNet) : Type 0 where
  apart : are_apart (output ∷ inputs) ≡ true
  drives : (if b then holds_state m output else is_driven m output) ≡ true
  fed : list_all (if b then feeds_state m else feeds_value m before) inputs ≡ true

call_read : (m : VModule) → IsWritten m → (before : List Instance) → AllByRecursion (DrivesNet m) before
    → (j : ℕ) (output first : VNet) (inputs : List VNet) (s : List (List ℕ))
    → IsCall m before (is_sequential m.udps j) output (first ∷ inputs) → nat_lt 0 (drivers before output) ≡ false
    → length (first ∷ inputs) ≡ input_count m.udps j
    → Reads (call (so_far m before) j) (instance_more m (instance.Primitive j output (first ∷ inputs)) s)
    (so_far m (before ++ instance.Primitive j output (first ∷ inputs) ∷ [])) s
unfolding call more_inputs
call_read m w before all j output first inputs s h none count =
    let b : Bool = is_sequential m.udps j in
    let turns = input_turn m w before all b output (first ∷ inputs) h.fed h.apart in
    in_turn expected (in_turn (output_read m w before b output
    (each (next_terminal m) (first ∷ inputs) (codes ")" ∷ codes ";" ∷ s)) h.drives none) (in_turn expected
    (in_turn (input_read m w before all b output [] first (each (next_terminal m) inputs (codes ")" ∷ codes ";" ∷ s))
    (and_parts ((if b then feeds_state m else feeds_value m before) first)
    (list_all (if b then feeds_state m else feeds_value m before) inputs) h.fed).0
    (new_net (output ∷ []) first inputs h.apart))
    (in_turn (through (λ (l : List VNet). l) (next_terminal m) (first ∷ []) inputs turns (codes ")" ∷ codes ";" ∷ s) refl)
    (in_turn (expected_where (length (first ∷ inputs) == input_count m.udps j) Width
    (same_number (length (first ∷ inputs)) (input_count m.udps j) count))
    (in_turn expected gives))))))

some_call : (m : VModule) → IsWritten m → (before : List Instance) → AllByRecursion (DrivesNet m) before
    → (j : ℕ) (output : VNet) (inputs : List VNet) (s : List (List ℕ))
    → IsCall m before (is_sequential m.udps j) output inputs → nat_lt 0 (drivers before output) ≡ false
    → length inputs ≡ input_count m.udps j → 1 ≤ length inputs
    → Reads (call (so_far m before) j) (instance_more m (instance.Primitive j output inputs) s)
    (so_far m (before ++ instance.Primitive j output inputs ∷ [])) s
some_call m w before all j output [] s h none count some = absurd (omega (arith, some))
some_call m w before all j output (first ∷ inputs) s h none count some =
    call_read m w before all j output first inputs s h none count

buffer_word : is_verilog_word (codes "buf") ≡ true
unfolding is_verilog_word verilog_words
buffer_word = refl

begins_named : (udps : List Udp) (others : List (List ℕ)) (j : ℕ) (udp : Udp) → AreApart (udp_names udps ++ others)
    → slice_get udps j ≡ Some udp → IsName udp.name → begins_instance udps udp.name ≡ Some (Fits (Some j))
begins_named udps others j udp apart e n =
    let buffer : bytes_eq udp.name (codes "buf") ≡ false = unlike_word udp.name (codes "buf") buffer_word n in
    rw (buffer, name_is udp.name n) (ap (λ (o : Option ℕ). Some (of_primitive o))
    (position_is (λ (u : Udp). u.name) udps others j udp apart e))

pub primitive_name : (m : VModule) (j : ℕ) (udp : Udp) → slice_get m.udps j ≡ Some udp → primitive_at m j ≡ udp.name
primitive_name m j udp e = rw e refl

primitive_turn : (m : VModule) → IsWritten m
    → (before : List Instance) (j : ℕ) (output : VNet) (inputs : List VNet) (after : List Instance) (s : List (List ℕ))
    → before ++ instance.Primitive j output inputs ∷ after ≡ m.instances
    → IsInstance m before (instance.Primitive j output inputs)
    → Turn (λ (k : VModule). begins_instance k.udps) one_instance (so_far m before)
    (instance_tokens m (instance.Primitive j output inputs) s) (so_far m (before ++ instance.Primitive j output inputs ∷ [])) s
primitive_turn m w before j output inputs after s same (udp, e, h) =
    let formed : IsWellFormedUdp udp = all_at IsWellFormedUdp m.udps j udp w.udps e in
    let drives : is_driven m output ≡ true = drives_by m udp.sequential output h.drives in
    let all : AllByRecursion (DrivesNet m) before =
    all_before (DrivesNet m) before (instance.Primitive j output inputs ∷ after)
    (subst (AllByRecursion (DrivesNet m)) (sym same) (all_drive m w)) in
    let state : udp.sequential ≡ is_sequential m.udps j = sym (sequential_is m.udps j udp e) in
    let call : IsCall m before (is_sequential m.udps j) output inputs =
    subst (λ (b : Bool). IsCall m before b output inputs) state (record { apart = h.apart; drives = h.drives; fed = h.fed }) in
    record {
      start = udp.name;
      more = instance_more m (instance.Primitive j output inputs) s;
      value = Some j;
      split = ap (λ (x : List ℕ). x ∷ instance_more m (instance.Primitive j output inputs) s) (primitive_name m j udp e);
      fits = begins_named m.udps w.others j udp w.apart e formed.name;
      reads = some_call m w before all j output inputs s call
          (not_yet m w before (instance.Primitive j output inputs) after same drives)
          (h.entries ∙ sym (count_is m.udps j udp e)) (subst (λ n. 1 ≤ n) (sym h.entries) formed.some);
    }

-- Buffers.

bit_read : (one : Bool) {s : List (List ℕ)} → Reads (valued bit) (bit_text one ∷ s) one s
bit_read true = token refl
bit_read false = token refl

constant_turn : (m : VModule) → IsWritten m
    → (before : List Instance) (output : VNet) (one : Bool) (after : List Instance) (s : List (List ℕ))
    → before ++ instance.Constant output one ∷ after ≡ m.instances
    → IsInstance m before (instance.Constant output one)
    → Turn (λ (k : VModule). begins_instance k.udps) one_instance (so_far m before)
    (instance_tokens m (instance.Constant output one) s) (so_far m (before ++ instance.Constant output one ∷ [])) s
unfolding constant
constant_turn m w before output one after s same h =
    turn refl (in_turn expected (in_turn
    (output_read m w before false output (codes "," ∷ bit_text one ∷ codes ")" ∷ codes ";" ∷ s) h
    (not_yet m w before (instance.Constant output one) after same h))
    (in_turn expected (in_turn (bit_read one) (in_turn expected (in_turn expected gives))))))

instance_turn : (m : VModule) → IsWritten m → (before : List Instance) (i : Instance) (after : List Instance) (s : List (List ℕ))
    → before ++ i ∷ after ≡ m.instances → IsInstance m before i
    → Turn (λ (k : VModule). begins_instance k.udps) one_instance (so_far m before) (instance_tokens m i s)
    (so_far m (before ++ i ∷ [])) s
instance_turn m w before (instance.Primitive j output inputs) after s same h =
    primitive_turn m w before j output inputs after s same h
instance_turn m w before (instance.Constant output one) after s same h = constant_turn m w before output one after s same h

pub instances_read : (m : VModule) → IsWritten m → (s : List (List ℕ)) → Stops (begins_instance m.udps) s
    → Reads (instances (bare m)) (each (instance_tokens m) m.instances s) (so_far m m.instances) s
unfolding instances
instances_read m w s stop =
    through (λ (l : List Instance). so_far m l) (instance_tokens m) [] m.instances
    (λ before i after q same. instance_turn m w before i after q same
    (instance_from m [] before i after (subst (AreInstances m []) (sym same) w.sound.instances))) s stop
