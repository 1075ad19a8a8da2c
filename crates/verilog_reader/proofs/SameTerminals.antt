-- Terminals of an instance, by their names.
use Rattle.std.proofs.Common.{◌≡◌, ℕ, Bool, true, false, ◌||◌, List, [], ◌∷◌, ◌++◌, map, get_or, position, Option, Some, None, Ok}
use Rattle.std.proofs.Common.{Err, if◌then◌else◌, refl, sym, ap, subst, ◌∙◌}
use Rattle.std.specs.Prelude.{slice_get}
use Rattle.std.specs.List.{list_any}
use Rattle.std.specs.Option.{option_map, option_map_or}
use Rattle.std.specs.Str.{bytes_eq}
use Rattle.std.proofs.lemmas.List.{map-append}
use Rattle.std.proofs.lemmas.List.Quantifiers.{position-Some}
use Rattle.std.proofs.lemmas.Option.{slice_get-get_or}
use Rattle.std.proofs.lemmas.Bool.{eqb-true, eq-eqb}
use Rattle.std.proofs.lemmas.Slice.Eq.{bytes_eq-Decides}
use Rattle.udp_tables.specs.declared.models.VPort.{VPort}
use Rattle.udp_tables.specs.VerilogRules.{is_among}
use Rattle.verilog_grammar.specs.specify_blocks.declared.model.VNet.{VNet}
use Rattle.verilog_grammar.specs.specify_blocks.declared.model.VNet.TheVariants as net
use Rattle.verilog_grammar.specs.specify_blocks.declared.model.VModule.{VModule}
use Rattle.verilog_grammar.specs.specify_blocks.Nets.{same_net}
use Rattle.verilog_grammar.specs.VerilogModules.{port_name, net_of, net_by, other_net, terminal}
use Rattle.grammar_rules.specs.Reading.{read}
use Rattle.grammar_reader.specs.declared.refusal.Refusal.TheVariants.{Twice}
use Rattle.grammar_reader.specs.Next.{next_bytes, rest}
use Rattle.verilog_tokens.specs.Tokens.{is_name}
use Rattle.verilog_reader.specs.NameSearch.{own_name}
use Rattle.verilog_reader.specs.Terminals.{AreNamed}
use Rattle.verilog_reader.proofs.NamedNets as named

-- what stands where a name was found has the name
found_at : {X : Type 0} (name_of : X → List ℕ) (x : List ℕ) (things : List X) (i : ℕ)
    → position (λ y. bytes_eq x (name_of y)) things ≡ Some i
    → option_map name_of (slice_get things i) ≡ Some x
found_at name_of x [] i e = absurd cc
found_at name_of x (y ∷ things) i e =
    let found = position-Some (λ z. bytes_eq x (name_of z)) (y ∷ things) i y e in
    ap (option_map name_of) (slice_get-get_or (y ∷ things) i y found.0)
    ∙ ap Some (sym ((bytes_eq-Decides x (name_of (get_or (y ∷ things) i y))).0 found.1))

-- the name of a net
abbrev name_of_net : VModule → VNet → Option (List ℕ)
name_of_net m (net.Port p) = option_map port_name (slice_get m.ports p)
name_of_net m (net.Wire w) = option_map own_name (slice_get m.wires w)
name_of_net m net.Notifier = m.notifier

by_register : (m : VModule) (x : List ℕ) (n : VNet) (o : Option (List ℕ)) → m.notifier ≡ o
    → (if option_map_or (bytes_eq x) o false then Some net.Notifier else None) ≡ Some n
    → name_of_net m n ≡ Some x
by_register m x n None e f = absurd cc
by_register m x n (Some y) e f = by (bytes_eq x y) refl f
  where
    by : (b : Bool) → bytes_eq x y ≡ b → (if b then Some net.Notifier else None) ≡ Some n → name_of_net m n ≡ Some x
    by false g h = absurd cc
    by true g h =
        let same : net.Notifier ≡ n = cc in
        subst (λ k. name_of_net m k ≡ Some x) same (e ∙ ap Some (sym ((bytes_eq-Decides x y).0 g)))

by_wire : (m : VModule) (x : List ℕ) (n : VNet) (o : Option ℕ) → position (bytes_eq x) m.wires ≡ o → other_net m x o ≡ Some n
    → name_of_net m n ≡ Some x
by_wire m x n (Some w) e f = let same : net.Wire w ≡ n = cc
    in subst (λ k. name_of_net m k ≡ Some x) same (found_at own_name x m.wires w e)
by_wire m x n None e f = by_register m x n m.notifier refl f

by_port : (m : VModule) (x : List ℕ) (n : VNet) (o : Option ℕ) → position (λ (port : VPort). bytes_eq x port.name) m.ports ≡ o
    → net_by m x o ≡ Some n → name_of_net m n ≡ Some x
by_port m x n (Some p) e f = let same : net.Port p ≡ n = cc
    in subst (λ k. name_of_net m k ≡ Some x) same (found_at port_name x m.ports p e)
by_port m x n None e f = by_wire m x n (position (bytes_eq x) m.wires) refl f

net_named : (m : VModule) (x : List ℕ) (n : VNet) → net_of m x ≡ Some n → name_of_net m n ≡ Some x
net_named m x n e = by_port m x n (position (λ (port : VPort). bytes_eq x port.name) m.ports) refl e

same_itself : (n : VNet) → same_net n n ≡ true
same_itself (net.Port p) = eq-eqb p p refl
same_itself (net.Wire w) = eq-eqb w w refl
same_itself net.Notifier = refl

same_alone : (n k : VNet) → same_net n k ≡ true → n ≡ k
same_alone (net.Port p) (net.Port q) e = ap net.Port (eqb-true p q e)
same_alone (net.Port p) (net.Wire w) e = absurd cc
same_alone (net.Port p) net.Notifier e = absurd cc
same_alone (net.Wire v) (net.Port p) e = absurd cc
same_alone (net.Wire v) (net.Wire w) e = ap net.Wire (eqb-true v w e)
same_alone (net.Wire v) net.Notifier e = absurd cc
same_alone net.Notifier (net.Port p) e = absurd cc
same_alone net.Notifier (net.Wire w) e = absurd cc
same_alone net.Notifier net.Notifier e = refl

-- nets are the same where their names are
same_names : (m : VModule) (x y : List ℕ) (n k : VNet) → net_of m x ≡ Some n → net_of m y ≡ Some k → bytes_eq x y ≡ same_net n k
same_names m x y n k e f = by (bytes_eq x y) refl (same_net n k) refl
  where
    by : (b : Bool) → bytes_eq x y ≡ b → (c : Bool) → same_net n k ≡ c → b ≡ c
    by true g true h = refl
    by false g false h = refl
    by true g false h =
        let here : Some n ≡ Some k = sym e ∙ ap (net_of m) ((bytes_eq-Decides x y).0 g) ∙ f in
        let alike : n ≡ k = cc in
        let itself : same_net n k ≡ true = subst (λ j. same_net n j ≡ true) alike (same_itself n) in
        sym itself ∙ h
    by false g true h =
        let here : Some x ≡ Some y = sym (net_named m x n e) ∙ ap (name_of_net m) (same_alone n k h) ∙ net_named m y k f in
        let alike : x ≡ y = cc in
        sym g ∙ (bytes_eq-Decides x y).1 alike

-- a net is one of the terminals where its name is one of theirs
pub is_terminal : (m : VModule) (names : List (List ℕ)) (nets : List VNet) (x : List ℕ) (n : VNet) → AreNamed m names nets
    → net_of m x ≡ Some n
    → is_among names x ≡ list_any (same_net n) nets
is_terminal m [] [] x n a e = refl
is_terminal m [] (k ∷ nets) x n a e = absurd cc
is_terminal m (y ∷ names) [] x n a e = absurd cc
is_terminal m (y ∷ names) (k ∷ nets) x n a e =
    let first : net_of m y ≡ Some k = cc in
    let others : map (net_of m) names ≡ map Some nets = cc in
    ap (λ b. b || is_among names x) (same_names m x y n k e first)
    ∙ ap (λ b. same_net n k || b) (is_terminal m names nets x n others e)

-- with one terminal more
pub named_more : (m : VModule) (names : List (List ℕ)) (nets : List VNet) (x : List ℕ) (n : VNet) → AreNamed m names nets
    → net_of m x ≡ Some n → AreNamed m (names ++ x ∷ []) (nets ++ n ∷ [])
named_more m names nets x n a e =
    map-append (net_of m) names (x ∷ []) ∙ ap (λ ns. ns ++ net_of m x ∷ []) a ∙ ap (λ o. map Some nets ++ o ∷ []) e
    ∙ sym (map-append Some nets (n ∷ []))

-- the terminal that is next, where its name is one of theirs, and where it is none
module _ (m : VModule) (is_allowed : VNet → Bool) (names : List (List ℕ)) (nets : List VNet) (s : List (List ℕ)) (n : VNet)
    (x : List ℕ) (next : x ≡ next_bytes s) where
  pub taken : AreNamed m names nets → is_name x ≡ true → net_of m x ≡ Some n → is_allowed n ≡ true → is_among names x ≡ true →
      read (terminal m is_allowed (λ k. list_any (same_net k) nets)) s ≡ Err (Twice, s)
  taken a e f g h =
      named.taken m is_allowed (λ k. list_any (same_net k) nets) s n (ap is_name (sym next) ∙ e) (ap (net_of m) (sym next) ∙ f) g
      (sym (is_terminal m names nets x n a f) ∙ h)

  pub fits : AreNamed m names nets → is_name x ≡ true → net_of m x ≡ Some n → is_allowed n ≡ true → is_among names x ≡ false →
      read (terminal m is_allowed (λ k. list_any (same_net k) nets)) s ≡ Ok (n, rest s)
  fits a e f g h =
      named.fits m is_allowed (λ k. list_any (same_net k) nets) s n (ap is_name (sym next) ∙ e) (ap (net_of m) (sym next) ∙ f) g
      (sym (is_terminal m names nets x n a f) ∙ h)
