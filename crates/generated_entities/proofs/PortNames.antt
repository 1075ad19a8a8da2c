-- The names of the ports of a generated entity.
use Rattle.std.proofs.Common.{◌≡◌, ℕ, ◌+◌, ◌^◌, ◌<◌, ◌≤◌, Bool, true, false, not, ◌&&◌, ◌⊎◌, inl, inr, IsTrue, List, []}
use Rattle.std.proofs.Common.{◌∷◌, ◌++◌, length, refl, sym, subst, arith, codes, decimal, length-append, if◌then◌else◌}
use Rattle.std.specs.List.{IsDistinct, list_any}
use Rattle.std.specs.Str.{str_eq_ignore_ascii_case}
use Rattle.std.proofs.lemmas.Bool.{and_parts, not-true, or_parts}
use Rattle.std.proofs.lemmas.List.{map-append}
use Rattle.trit_cubes.proofs.ListLemmas.{Among, among-append, among-map}
use Rattle.cell_machine.specs.declared.pins.Pin.{Pin}
use Rattle.udp_tables.specs.declared.models.VPort.{VPort}
use Rattle.udp_tables.specs.Ports.{is_port}
use Rattle.vhdl_tokens.specs.Kept.{is_plain, is_free, is_numbered}
use Rattle.vital_models.specs.Kept.{is_taken, is_kept_port_name, port_name}
use Rattle.vital_models.specs.Ports.{port_after, ports_after, ports_of}
use Rattle.vhdl_grammar.specs.VhdlDeclarations.{port_names}
use Rattle.vhdl_grammar.specs.WellFormed.{IsPortName, AreApart}
use Rattle.generated_modules.proofs.NameLists.{none_passes}
use Rattle.generated_entities.proofs.ListLemmas.{push_apart}
use Rattle.generated_entities.proofs.Names.{pin_number, no_pin, pins_apart, IsGivenName, free}

-- a name before the port with the next number behind this one: no `pin` with a number, or with one up to this
abbrev IsEarlier : ℕ → List ℕ → Type 0
IsEarlier n x = (is_numbered (codes "pin") x ≡ false) ⊎ ((j : ℕ) × (j ≤ n) × (x ≡ codes "pin" ++ decimal j))

-- the entity's name and those of some ports
pub record AreNamed (entity : List ℕ) (ports : List VPort) : Type 0 where
  pub named : (x : List ℕ) → Among x (port_names ports) → IsPortName x
  pub apart : AreApart (entity ∷ port_names ports)
  pub earlier : (x : List ℕ) → Among x (entity ∷ port_names ports) → IsEarlier (length ports) x

-- the name of the next port
record IsNext (entity : List ℕ) (ports : List VPort) (y : List ℕ) : Type 0 where
  named : IsPortName y
  new : (x : List ℕ) → Among x (entity ∷ port_names ports) → str_eq_ignore_ascii_case x y ≡ false
  earlier : IsEarlier (length ports + 1) y

kept_next : (entity : List ℕ) (ports : List VPort) (name : List ℕ) → IsTrue (is_kept_port_name entity ports name)
    → IsNext entity ports name
unfolding is_kept_port_name
kept_next entity ports name h =
    let a = and_parts (is_plain name) (is_free name && not (is_taken entity ports name)) h in
    let b = and_parts (is_free name) (not (is_taken entity ports name)) a.1 in
    let f = free name b.0 in
    let among : Bool = list_any (λ (port : VPort). str_eq_ignore_ascii_case port.name name) ports in
    let apart = or_parts (str_eq_ignore_ascii_case entity name) among (not-true (is_taken entity ports name) b.1) in
    record {
      named = record { plain = a.0; no_word = f.no_word };
      new = λ x m. elim m [
        | inl e ↦ subst (λ z. str_eq_ignore_ascii_case z name ≡ false) e apart.0
        | inr k ↦
            let port = among-map (λ (port : VPort). port.name) x ports k in
            subst (λ z. str_eq_ignore_ascii_case z name ≡ false) port.1
            (none_passes (λ (port : VPort). str_eq_ignore_ascii_case port.name name) port.0 ports apart.1 port.2)
      ];
      earlier = inl f.no_pin;
    }

numbered_next : (entity : List ℕ) (ports : List VPort) → AreNamed entity ports → length ports + 1 < 2 ^ 64
    → IsNext entity ports (codes "pin" ++ decimal (length ports + 1))
numbered_next entity ports h k = record {
  named = pin_number (length ports + 1) k;
  new = λ x m. elim (h.earlier x m) [
    | inl e ↦ no_pin x (length ports + 1) k e
    | inr f ↦
        let low = f.1 in
        subst (λ z. str_eq_ignore_ascii_case z (codes "pin" ++ decimal (length ports + 1)) ≡ false) (sym f.2)
        (pins_apart f.0 (length ports + 1) (omega (arith, low, k)) k (λ e. omega (arith, low, e)))
  ];
  earlier = inr (length ports + 1, omega arith, refl);
}

next_name : (entity : List ℕ) (ports : List VPort) (name : List ℕ) → AreNamed entity ports → length ports + 1 < 2 ^ 64
    → IsNext entity ports (port_name entity ports name)
next_name entity ports name h k = by (is_kept_port_name entity ports name) refl
  where
    by :
        (b : Bool) → is_kept_port_name entity ports name ≡ b
        → IsNext entity ports (if b then name else codes "pin" ++ decimal (length ports + 1))
    by true e = kept_next entity ports name e
    by false e = numbered_next entity ports h k

-- an earlier name is so later
still_earlier : (m n : ℕ) (x : List ℕ) → m ≤ n → IsEarlier m x → IsEarlier n x
still_earlier m n x h (inl e) = inl e
still_earlier m n x h (inr f) = let low = f.1 in inr (f.0, omega (arith, low, h), f.2)

-- one port more
port_more : (entity : List ℕ) (ports : List VPort) (port : VPort) → AreNamed entity ports → IsNext entity ports port.name
    → AreNamed entity (ports ++ port ∷ [])
port_more entity ports port h k = record {
  named = λ x m. elim (among-append x (port_names ports) (port.name ∷ []) (subst (λ l. Among x l) names m)) [
    | inl i ↦ h.named x i
    | inr i ↦ elim i [ inl e ↦ subst IsPortName e k.named | inr none ↦ absurd none ]
  ];
  apart = subst (λ l. AreApart (entity ∷ l)) (sym names)
      (push_apart str_eq_ignore_ascii_case (entity ∷ port_names ports) port.name h.apart k.new);
  earlier = λ x m. elim (among-append x (entity ∷ port_names ports) (port.name ∷ []) (subst (λ l. Among x (entity ∷ l)) names m)) [
    | inl i ↦ still_earlier (length ports) (length (ports ++ port ∷ [])) x (omega (arith, long)) (h.earlier x i)
    | inr i ↦ elim i [
      | inl e ↦ subst (IsEarlier (length (ports ++ port ∷ []))) e
          (still_earlier (length ports + 1) (length (ports ++ port ∷ [])) port.name (omega (arith, long)) k.earlier)
      | inr none ↦ absurd none
    ]
  ];
}
  where
    names : port_names (ports ++ port ∷ []) ≡ port_names ports ++ port.name ∷ []
    names = map-append (λ (p : VPort). p.name) ports (port ∷ [])

    long : length (ports ++ port ∷ []) ≡ length ports + 1
    long = length-append ports (port ∷ [])

all_named : (entity : List ℕ) (ports : List VPort) (pins : List Pin) → AreNamed entity ports → length ports + length pins < 2 ^ 64
    → AreNamed entity (ports_after entity ports pins)
all_named entity ports [] h k = h
all_named entity ports (pin ∷ pins) h k =
    by (is_port pin) (all_named entity (ports ++ port_after entity ports pin ∷ []) pins more fits)
    (all_named entity ports pins h (omega (arith, k)))
  where
    more : AreNamed entity (ports ++ port_after entity ports pin ∷ [])
    more = port_more entity ports (port_after entity ports pin) h (next_name entity ports pin.name h (omega (arith, k)))

    fits : length (ports ++ port_after entity ports pin ∷ []) + length pins < 2 ^ 64
    fits = let long : length (ports ++ port_after entity ports pin ∷ []) ≡ length ports + 1 =
        length-append ports (port_after entity ports pin ∷ []) in omega (arith, long, k)

    by :
        (b : Bool) → AreNamed entity (ports_after entity (ports ++ port_after entity ports pin ∷ []) pins)
        → AreNamed entity (ports_after entity ports pins)
        → AreNamed entity (if b then ports_after entity (ports ++ port_after entity ports pin ∷ []) pins
        else ports_after entity ports pins)
    by true one other = one
    by false one other = other

no_ports : (entity : List ℕ) → IsGivenName entity → AreNamed entity []
unfolding IsDistinct
no_ports entity h = record {
  named = λ x m. absurd m;
  apart = (tt, tt);
  earlier = λ x m. elim m [ inl e ↦ inl (subst (λ z. is_numbered (codes "pin") z ≡ false) e h.no_pin) | inr none ↦ absurd none ];
}

-- the names of an entity of at most 64 pins
pub ports_are_named : (entity : List ℕ) (pins : List Pin) → IsGivenName entity → length pins ≤ 64
    → AreNamed entity (ports_of entity pins)
ports_are_named entity pins h few = all_named entity [] pins (no_ports entity h) (omega (arith, few))
