-- The nets of a written module: their names, and the nets that these names stand for.
use Rattle.std.proofs.Common.{◌≡◌, ℕ, ◌+◌, Bool, true, false, not, ◌&&◌, ◌||◌, nat_lt, cond, IsTrue, List, [], ◌∷◌}
use Rattle.std.proofs.Common.{◌++◌, length, map, Option, Some, None, is_some, slice_get, refl, sym, ap, ◌∙◌, arith, subst}
use Rattle.std.proofs.Common.{append_assoc}
use Rattle.std.specs.List.{AllByRecursion, list_any, position, position_from}
use Rattle.std.specs.Option.{option_map_or}
use Rattle.std.specs.Str.{bytes_eq}
use Rattle.std.proofs.lemmas.Bool.{and_parts, eqb-true, or_parts as both_no}
use Rattle.std.proofs.lemmas.Bool.Decides.{nat_tests}
use Rattle.std.proofs.lemmas.List.{map-append}
use Rattle.std.proofs.lemmas.List.Folds.{list_any-append}
use Rattle.std.proofs.lemmas.Iterator.Adapters.{position_from-zero}
use Rattle.udp_tables.specs.declared.models.VPort.{VPort}
use Rattle.udp_tables.specs.VerilogRules.{is_among}
use Rattle.verilog_grammar.specs.specify_blocks.declared.model.VNet.{VNet}
use Rattle.verilog_grammar.specs.specify_blocks.declared.model.VNet.TheVariants as net
use Rattle.verilog_grammar.specs.specify_blocks.declared.model.Instance.{Instance}
use Rattle.verilog_grammar.specs.specify_blocks.declared.model.VModule.{VModule}
use Rattle.verilog_grammar.specs.specify_blocks.Nets.{same_net, is_output_port, is_driven, holds_state, net_driven, has_state}
use Rattle.verilog_grammar.specs.specify_blocks.Nets.{is_value}
use Rattle.verilog_grammar.specs.specify_blocks.Nets.{feeds_state, feeds_value}
use Rattle.udp_tables.specs.Ports.{is_input_port}
use Rattle.verilog_grammar.specs.VerilogModules.{port_name, port_names, net_by, net_of}
use Rattle.verilog_grammar.specs.WellFormed.{IsName, AreApart, register_names}
use Rattle.verilog_writer.specs.Nets.{notifier_in, net_at}
use Rattle.written_modules.proofs.NameReading.{is_new}
use Rattle.grammar_reader.proofs.ItemPlaces.{same_bytes, found_behind, item_at, all_at, passing, known_item}
use Rattle.written_modules.proofs.ModuleTokens.{IsNamedPort, IsNamed}
use Rattle.written_modules.proofs.DeclarationReading.{AreDeclared}

among_names : {A : Type 0} (name : A → List ℕ) (x : List ℕ) (ys : List A)
    → list_any (λ y. bytes_eq x (name y)) ys ≡ is_among (map name ys) x
among_names name x [] = refl
among_names name x (y ∷ ys) = ap (λ (t : Bool). bytes_eq x (name y) || t) (among_names name x ys)

-- the number of an item is the place of its name
pub position_is : {A : Type 0} (name : A → List ℕ) (xs : List A) (others : List (List ℕ)) (i : ℕ) (x : A)
    → AreApart (map name xs ++ others) → slice_get xs i ≡ Some x
    → position (λ y. bytes_eq (name x) (name y)) xs ≡ Some i
position_is name xs others i x apart e =
    let at = item_at xs i x e in
    let split : map name xs ++ others ≡ map name at.before ++ name x ∷ (map name at.after ++ others) =
    ap (λ l. map name l ++ others) at.split ∙ ap (λ (l : List (List ℕ)). l ++ others) (map-append name at.before (x ∷ at.after))
    ∙ append_assoc (map name at.before) (name x ∷ map name at.after) others in
    let new : list_any (λ y. bytes_eq (name x) (name y)) at.before ≡ false =
    among_names name (name x) at.before ∙ is_new (map name at.before) (name x) (map name at.after ++ others)
    (subst AreApart split apart) in
    let place : 0 + length at.before ≡ i = omega (arith, at.place) in
    position_from-zero (λ y. bytes_eq (name x) (name y)) xs
    ∙ ap (λ l. position_from (λ y. bytes_eq (name x) (name y)) 0 l) at.split
    ∙ found_behind (λ y. bytes_eq (name x) (name y)) 0 at.before x at.after new (same_bytes (name x))
    ∙ ap (λ (n : ℕ). Some n) place

nowhere : {A : Type 0} (test : A → Bool) (i : ℕ) (xs : List A) → list_any test xs ≡ false → position_from test i xs ≡ None
nowhere test i [] h = refl
nowhere test i (x ∷ xs) h = by (λ k. nowhere test (i + 1) xs k) (test x) refl h
  where
    by : (list_any test xs ≡ false → position_from test (i + 1) xs ≡ None) → (t : Bool) → test x ≡ t
        → (t || list_any test xs) ≡ false → cond (test x) (Some i) (position_from test (i + 1) xs) ≡ None
    by rest true e h = absurd cc
    by rest false e h = rw e (rest h)

unfound : {A : Type 0} (test : A → Bool) (xs : List A) → list_any test xs ≡ false → position test xs ≡ None
unfound test xs h = position_from-zero test xs ∙ nowhere test 0 xs h

-- Known nets.

-- the net is one of the module
abbrev pub IsKnown : VModule → VNet → Type 0
IsKnown m (net.Port p) = (port : VPort) × (slice_get m.ports p ≡ Some port)
IsKnown m (net.Wire w) = (x : List ℕ) × (slice_get m.wires w ≡ Some x)
IsKnown m net.Notifier = (x : List ℕ) × (m.notifier ≡ Some x)

named_register : (n : Option (List ℕ)) (x : List ℕ) → n ≡ Some x → IsNamed n → IsName x
named_register None x e h = absurd cc
named_register (Some y) x e h = let same : y ≡ x = cc in subst IsName same h

-- a known net has a name
pub named_net : (m : VModule) → AreDeclared m → (n : VNet) → IsKnown m n → IsName (net_at m n)
named_net m h (net.Port p) (port, e) = rw e (all_at IsNamedPort m.ports p port h.ports e)
named_net m h (net.Wire w) (x, e) = rw e (all_at IsName m.wires w x h.wires e)
named_net m h net.Notifier (x, e) = rw e (named_register m.notifier x e h.register)

-- a name behind the ports is none of theirs
no_port : (ports : List VPort) (before : List (List ℕ)) (x : List ℕ) (after : List (List ℕ))
    → AreApart ((port_names ports ++ before) ++ x ∷ after)
    → (position (λ (port : VPort). bytes_eq x port.name) ports ≡ None) × (position (bytes_eq x) before ≡ None)
no_port ports before x after apart =
    let none : is_among (port_names ports ++ before) x ≡ false = is_new (port_names ports ++ before) x after apart in
    let parts = both_no (list_any (bytes_eq x) (port_names ports)) (list_any (bytes_eq x) before)
    (sym (list_any-append (bytes_eq x) (port_names ports) before) ∙ none) in (
      unfound (λ (port : VPort). bytes_eq x port.name) ports (among_names port_name x ports ∙ parts.0),
      unfound
          (bytes_eq x) before parts.1,
    )

pub apart_tail : (before after : List (List ℕ)) → AreApart (before ++ after) → AreApart after
unfolding Rattle.std.specs.List.IsDistinct
apart_tail [] after h = h
apart_tail (x ∷ before) after h = apart_tail before after h.1

map_self : (xs : List (List ℕ)) → map (λ (x : List ℕ). x) xs ≡ xs
map_self [] = refl
map_self (x ∷ xs) = ap (λ (l : List (List ℕ)). x ∷ l) (map_self xs)

pub wire_position : (m : VModule) → AreDeclared m → (w : ℕ) (x : List ℕ) → slice_get m.wires w ≡ Some x
    → (position (λ (port : VPort). bytes_eq x port.name) m.ports ≡ None) × (position (bytes_eq x) m.wires ≡ Some w)
wire_position m h w x e =
    let others : List (List ℕ) = register_names m.notifier in
    let at = item_at m.wires w x e in
    let split : port_names m.ports ++ (m.wires ++ others) ≡ (port_names m.ports ++ at.before) ++ x ∷ (at.after ++ others) =
    ap (λ (l : List (List ℕ)). port_names m.ports ++ (l ++ others)) at.split
    ∙ ap (λ (l : List (List ℕ)). port_names m.ports ++ l) (append_assoc at.before (x ∷ at.after) others)
    ∙ sym (append_assoc (port_names m.ports) at.before (x ∷ (at.after ++ others))) in (
      (no_port m.ports at.before x (at.after ++ others) (subst AreApart split h.apart)).0,
      position_is (λ (y : List ℕ). y) m.wires others w x
          (subst (λ (l : List (List ℕ)). AreApart (l ++ others)) (sym (map_self m.wires))
          (apart_tail (port_names m.ports) (m.wires ++ others) h.apart)) e,
    )

register_position : (m : VModule) → AreDeclared m → (x : List ℕ) → m.notifier ≡ Some x
    → (position (λ (port : VPort). bytes_eq x port.name) m.ports ≡ None) × (position (bytes_eq x) m.wires ≡ None)
register_position m h x e =
    let split : port_names m.ports ++ (m.wires ++ register_names m.notifier) ≡ (port_names m.ports ++ m.wires) ++ x ∷ [] =
    ap (λ (n : Option (List ℕ)). port_names m.ports ++ (m.wires ++ register_names n)) e
    ∙ sym (append_assoc (port_names m.ports) m.wires (x ∷ [])) in
    no_port m.ports m.wires x [] (subst AreApart split h.apart)

-- the name of a known net stands for this net
pub net_read : (m : VModule) → AreDeclared m → (n : VNet) → IsKnown m n → net_of m (net_at m n) ≡ Some n
net_read m h (net.Port p) (port, e) =
    let at : position (λ (y : VPort). bytes_eq port.name y.name) m.ports ≡ Some p =
    position_is port_name m.ports (m.wires ++ register_names m.notifier) p port h.apart e in
    rw e (ap (net_by m port.name) at)
net_read m h (net.Wire w) (x, e) =
    let at = wire_position m h w x e in
    rw e (ap (net_by m x) at.0 ∙ ap (Rattle.verilog_grammar.specs.VerilogModules.other_net m x) at.1)
net_read m h net.Notifier (x, e) =
    let at = register_position m h x e in
    let its : notifier_in m ≡ x = rw e refl in
    let here : option_map_or (bytes_eq x) m.notifier false ≡ true = rw e (same_bytes x) in
    ap (net_of m) its ∙ ap (net_by m x) at.0 ∙ ap (Rattle.verilog_grammar.specs.VerilogModules.other_net m x) at.1 ∙ rw here refl

-- Where nets are known.

known_register : (n : Option (List ℕ)) → is_some n ≡ true → (x : List ℕ) × (n ≡ Some x)
known_register None h = absurd cc
known_register (Some x) h = (x, refl)

pub input_known : (m : VModule) (p : ℕ) → IsTrue (is_input_port m.ports p) → IsKnown m (net.Port p)
input_known m p h = passing (λ (port : VPort). port.input) (slice_get m.ports p) h

pub output_known : (m : VModule) (p : ℕ) → IsTrue (is_output_port m.ports p) → IsKnown m (net.Port p)
output_known m p h = passing (λ (port : VPort). not port.input) (slice_get m.ports p) h

pub register_known : (m : VModule) → IsTrue (is_some m.notifier) → IsKnown m net.Notifier
register_known m h = known_register m.notifier h

pub driven_known : (m : VModule) (n : VNet) → is_driven m n ≡ true → IsKnown m n
driven_known m (net.Port p) h = output_known m p h
driven_known m (net.Wire w) h =
    let inside : nat_lt w (length m.wires) ≡ true = h in known_item m.wires w (grind (arith, nat_tests))
driven_known m net.Notifier h = absurd cc

pub state_driven : (m : VModule) (n : VNet) → holds_state m n ≡ true → is_driven m n ≡ true
state_driven m (net.Port p) h = absurd cc
state_driven m (net.Wire w) h = h
state_driven m net.Notifier h = absurd cc

-- each instance drives a net that has to be driven
abbrev pub DrivesNet : VModule → Instance → Type 0
DrivesNet m i = is_driven m (net_driven i) ≡ true

same_wire : (n : VNet) (w : ℕ) → same_net n (net.Wire w) ≡ true → n ≡ net.Wire w
same_wire (net.Port p) w h = absurd cc
same_wire (net.Wire v) w h = ap net.Wire (eqb-true v w h)
same_wire net.Notifier w h = absurd cc

-- a wire that one of the instances drives
wire_known : (m : VModule) (test : Instance → Bool) (instances : List Instance) (w : ℕ) → AllByRecursion (DrivesNet m) instances
    → list_any (λ (i : Instance). test i && same_net (net_driven i) (net.Wire w)) instances ≡ true → IsKnown m (net.Wire w)
wire_known m test [] w all h = absurd cc
wire_known m test (i ∷ instances) w all h =
    by (wire_known m test instances w all.1) (test i && same_net (net_driven i) (net.Wire w)) refl h
  where
    by : (list_any (λ (i : Instance). test i && same_net (net_driven i) (net.Wire w)) instances ≡ true → IsKnown m (net.Wire w))
        → (t : Bool) → (test i && same_net (net_driven i) (net.Wire w)) ≡ t
        → (t || list_any (λ (i : Instance). test i && same_net (net_driven i) (net.Wire w)) instances) ≡ true
        → IsKnown m (net.Wire w)
    by rest true e h =
        let same : net_driven i ≡ net.Wire w =
        same_wire (net_driven i) w (and_parts (test i) (same_net (net_driven i) (net.Wire w)) e).1 in
        driven_known m (net.Wire w) (subst (λ (n : VNet). is_driven m n ≡ true) same all.0)
    by rest false e h = rest h

pub value_known : (m : VModule) (instances : List Instance) (w : ℕ) → AllByRecursion (DrivesNet m) instances
    → is_value m instances w ≡ true → IsKnown m (net.Wire w)
value_known m instances w all h = wire_known m (λ (i : Instance). not (has_state m.udps i)) instances w all h

pub feeding_value_known : (m : VModule) (earlier : List Instance) (n : VNet) → AllByRecursion (DrivesNet m) earlier
    → feeds_value m earlier n ≡ true → IsKnown m n
feeding_value_known m earlier (net.Port p) all h = input_known m p h
feeding_value_known m earlier (net.Wire w) all h = wire_known m (λ (i : Instance). has_state m.udps i) earlier w all h
feeding_value_known m earlier net.Notifier all h = absurd cc

pub feeding_state_known : (m : VModule) (n : VNet) → feeds_state m n ≡ true → IsKnown m n
feeding_state_known m (net.Port p) h = input_known m p h
feeding_state_known m (net.Wire w) h = absurd cc
feeding_state_known m net.Notifier h = register_known m h
