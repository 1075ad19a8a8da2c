-- Nets that are found beside a module.
use Rattle.std.proofs.Common.{◌≡◌, ℕ, ◌+◌, Bool, true, false, cond, not, ◌||◌, ◌&&◌, List, [], ◌∷◌, ◌++◌, nat_lt, Option, Some}
use Rattle.std.proofs.Common.{refl, sym, ap, ◌∙◌, arith, if◌then◌else◌}
use Rattle.std.specs.Prelude.{slice_get}
use Rattle.std.specs.List.{list_any}
use Rattle.udp_tables.specs.declared.table.Udp.{Udp}
use Rattle.verilog_grammar.specs.specify_blocks.declared.model.VNet.{VNet}
use Rattle.verilog_grammar.specs.specify_blocks.declared.model.VNet.TheVariants as net
use Rattle.verilog_grammar.specs.specify_blocks.declared.model.Instance.{Instance}
use Rattle.verilog_grammar.specs.specify_blocks.declared.model.VModule.{VModule}
use Rattle.verilog_grammar.specs.specify_blocks.Nets.{same_net, net_driven, has_state, drivers}
use Rattle.verilog_grammar.specs.VerilogModules.{is_driven_already}
use Rattle.verilog_grammar.proofs.specify_blocks.InstanceLemmas.{drivers-cons}
use Rattle.verilog_reader.specs.declared.driven_nets.DrivenNets.{DrivenNets}
use Rattle.first_names.specs.declared.places.FirstNames.{FirstNames}
use Rattle.verilog_reader.specs.DrivenNets.{AreDriven, driven_by, drives_wire, drives_state, drives_value}
use Rattle.verilog_reader.specs.Netlist.{AreKeptOf}
use Rattle.grammar_reader.proofs.Tests.{there}
use Rattle.verilog_reader.proofs.DrivenNets.{driven_more}

one_more : (b : Bool) (count : ℕ) (a : Bool) → nat_lt 0 count ≡ a → nat_lt 0 (cond b 1 0 + count) ≡ (b || a)
one_more true count a e = search arith
one_more false count a e = let same : 0 + count ≡ count = omega arith in ap (nat_lt 0) same ∙ e

-- a net is driven where one of the instances drives it
driven_any : (instances : List Instance) (n : VNet)
    → nat_lt 0 (drivers instances n) ≡ list_any (λ i. same_net (net_driven i) n) instances
driven_any [] n = refl
driven_any (i ∷ instances) n = ap (nat_lt 0) (drivers-cons i instances n)
    ∙ one_more (same_net (net_driven i) n) (drivers instances n) _ (driven_any instances n)

either_way : (s t a b : Bool) → (((s && t) || a) || ((not s && t) || b)) ≡ (t || (a || b))
either_way true true a b = refl
either_way true false a b = refl
either_way false true true b = refl
either_way false true false b = refl
either_way false false a b = refl

-- a wire is driven where it is driven as a state or without one
wire_any : (udps : List Udp) (instances : List Instance) (w : ℕ)
    → (list_any (drives_state udps w) instances || list_any (drives_value udps w) instances) ≡ list_any
    (λ i. same_net (net_driven i) (net.Wire w)) instances
wire_any udps [] w = refl
wire_any udps (i ∷ instances) w =
    either_way (has_state udps i) (same_net (net_driven i) (net.Wire w)) (list_any (drives_state udps w) instances)
    (list_any (drives_value udps w) instances)
    ∙ ap (λ b. same_net (net_driven i) (net.Wire w) || b) (wire_any udps instances w)

first_false : (b c : Bool) → b ≡ false → c ≡ (b || c)
first_false true c e = absurd cc
first_false false c e = refl

module _ (m : VModule) (ports wires : Option FirstNames) (driven : DrivenNets) (k : AreKeptOf m ports wires driven) where
  -- what a mark tells
  pub wire_told_of : (stateful : Bool) (w : ℕ) (b : Bool)
      → slice_get (if stateful then driven.states else driven.values) w ≡ Some b
      → b ≡ list_any (drives_wire stateful m.udps w) m.instances
  wire_told_of true w b e = k.driven.states w b e
  wire_told_of false w b e = k.driven.values w b e

  pub port_told : (p : ℕ) (b : Bool) → slice_get driven.ports p ≡ Some b → b ≡ is_driven_already m (net.Port p)
  port_told p b e = k.driven.ports p b e ∙ sym (driven_any m.instances (net.Port p))

  pub wire_told : (w : ℕ) (b c : Bool) → slice_get driven.states w ≡ Some b → slice_get driven.values w ≡ Some c
      → (b || c) ≡ is_driven_already m (net.Wire w)
  wire_told w b c e f =
      ap (λ d. d || c) (k.driven.states w b e) ∙ ap (λ d. list_any (drives_state m.udps w) m.instances || d)
      (k.driven.values w c f)
      ∙ wire_any m.udps m.instances w ∙ sym (driven_any m.instances (net.Wire w))

  pub wire_first : (w : ℕ) (b c : Bool) → slice_get driven.states w ≡ Some b → slice_get driven.values w ≡ Some c → b ≡ true
      → b ≡ is_driven_already m (net.Wire w)
  wire_first w b c e f t = there b c t ∙ wire_told w b c e f

  pub wire_second : (w : ℕ) (b c : Bool) → slice_get driven.states w ≡ Some b → slice_get driven.values w ≡ Some c → b ≡ false
      → c ≡ is_driven_already m (net.Wire w)
  wire_second w b c e f t = first_false b c t ∙ wire_told w b c e f

-- the module with other instances
abbrev pub with_instances : VModule → List Instance → VModule
with_instances m instances = record m { instances = instances }

-- behind one instance more
pub kept_next : (m : VModule) (ports wires : Option FirstNames) (driven new : DrivenNets) (udps : List Udp)
    (instances : List Instance) (i : Instance) (b : Bool) (n : VNet)
    → AreKeptOf m ports wires driven → udps ≡ m.udps → b ≡ has_state udps i → n ≡ net_driven i → instances ≡ m.instances ++ i ∷ []
    → new ≡ driven_by driven b n
    → AreKeptOf (with_instances m instances) ports wires new
kept_next m ports wires driven new udps instances i b n k eu eb en ei ed =
    let more : AreDriven (driven_by driven (has_state m.udps i) (net_driven i)) m.udps (m.instances ++ i ∷ []) =
    driven_more driven m.udps m.instances i k.driven in
    let stateful : b ≡ has_state m.udps i = eb ∙ ap (λ us. has_state us i) eu in
    record { ports = k.ports; wires = k.wires; driven = rw (ei, ed, stateful, en) more }
