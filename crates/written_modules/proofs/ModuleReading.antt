-- A written module is read from the tokens of its text.
use Rattle.std.proofs.Common.{◌≡◌, ℕ, ◌+◌, ◌<◌, Bool, true, false, not, nat_lt, if◌then◌else◌, List, [], ◌∷◌, ◌++◌, length}
use Rattle.std.proofs.Common.{Option, Some, None, refl, sym, ap, ◌∙◌, arith, subst, codes, append_assoc}
use Rattle.std.specs.List.{AllByRecursion, list_all}
use Rattle.std.specs.Option.{option_map_or}
use Rattle.std.specs.Str.{bytes_eq}
use Rattle.std.proofs.lemmas.Bool.{and_parts, and_from, lt-ltb as below}
use Rattle.std.proofs.lemmas.List.Elements.{recursion_from_All}
use Rattle.std.proofs.lemmas.List.Folds.{list_all-append}
use Rattle.verilog_tokens.specs.Words.{is_verilog_word, verilog_words}
use Rattle.grammar_rules.specs.Rule.{Stops}
use Rattle.udp_tables.specs.declared.models.VPort.{VPort}
use Rattle.udp_tables.specs.VerilogRules.{is_among}
use Rattle.verilog_grammar.specs.specify_blocks.declared.model.VNet.{VNet}
use Rattle.verilog_grammar.specs.specify_blocks.declared.model.VNet.TheVariants as net
use Rattle.verilog_grammar.specs.specify_blocks.declared.model.Instance.{Instance}
use Rattle.verilog_grammar.specs.specify_blocks.declared.model.Instance.TheVariants as instance
use Rattle.verilog_grammar.specs.specify_blocks.declared.model.VModule.{VModule}
use Rattle.verilog_grammar.specs.specify_blocks.Nets.{is_output_port, is_driven, feeds_state, feeds_value}
use Rattle.verilog_grammar.specs.specify_blocks.Sound.{IsPath, IsCheck, IsInstance, AreInstances}
use Rattle.verilog_grammar.specs.VerilogModules.{port_names, begins_instance, is_driven_already, output_nets, wire_nets}
use Rattle.verilog_grammar.specs.VerilogModules.{are_all_driven}
use Rattle.verilog_grammar.specs.VerilogText.{one_module}
use Rattle.verilog_grammar.specs.WellFormed.{IsName, AreApart, IsWellFormedUdp, IsWellFormedModule, HasNumbers, register_names}
use Rattle.verilog_grammar.specs.WellFormed.{udp_names}
use Rattle.grammar_reader.specs.declared.refusal.Refusal.TheVariants.{Undriven}
use Rattle.verilog_writer.specs.Timing.{has_block}
use Rattle.verilog_writer.specs.Model.{module_only_text}
use Rattle.grammar_reader.proofs.Spelling.{literal, behind, each_spelled}
use Rattle.written_modules.proofs.Spelling.{Spells}
use Rattle.grammar_reader.proofs.Fronts.{Front, Anything, each}
use Rattle.written_modules.proofs.Words.{unlike_word}
use Rattle.grammar_reader.proofs.Derivations.{Reads, gives, in_turn}
use Rattle.written_modules.proofs.NameReading.{expected_where, newly_named}
use Rattle.written_modules.proofs.PrimitiveReading.{both}
use Rattle.grammar_reader.proofs.ItemPlaces.{get_at, one_longer, all_at}
use Rattle.written_modules.proofs.ModuleTokens.{IsNamedPort, IsNamed, IsNamedNet, AreNamed, listed, declaration_tokens}
use Rattle.written_modules.proofs.ModuleTokens.{instance_tokens, header_spelled, declarations_spelled, instance_spelled}
use Rattle.written_modules.proofs.TimingTokens.{block_by, block_tokens, block_spelled}
use Rattle.written_modules.proofs.DeclarationReading.{AreDeclared, Other, EndsDeclarations, declarations_read}
use Rattle.written_modules.proofs.NetReading.{named_net, driven_known, DrivesNet}
use Rattle.written_modules.proofs.InstanceReading.{IsWritten, drives_by, drives_net, feeding_known, primitive_name}
use Rattle.written_modules.proofs.InstanceReading.{instances_read}
use Rattle.written_modules.proofs.PathReading.{path_named}
use Rattle.written_modules.proofs.CheckReading.{HasNumber, check_named}
use Rattle.written_modules.proofs.BlockReading.{AreTimed, specify_read}

-- What holds of a well formed module.

pub all_parts : {A : Type 0} (P : A → Type 0) (xs ys : List A) → AllByRecursion P (xs ++ ys) → AllByRecursion P xs
    × AllByRecursion P ys
all_parts P [] ys h = (tt, h)
all_parts P (x ∷ xs) ys h = let rest = all_parts P xs ys h.1 in ((h.0, rest.0), rest.1)

all_ports : (ports : List VPort) → AllByRecursion IsName (port_names ports) → AllByRecursion IsNamedPort ports
all_ports [] h = tt
all_ports (port ∷ ports) h = (h.0, all_ports ports h.1)

one_register : (n : Option (List ℕ)) → AllByRecursion IsName (register_names n) → IsNamed n
one_register None h = tt
one_register (Some x) h = h.0

declared : (m : VModule) → IsWellFormedModule m → AreDeclared m
declared m h =
    let registers : List (List ℕ) = register_names m.notifier in
    let first = all_parts IsName (port_names m.ports ++ m.wires) registers
    (recursion_from_All IsName ((port_names m.ports ++ m.wires) ++ registers) h.inner) in
    let second = all_parts IsName (port_names m.ports) m.wires first.0 in
    record {
      ports = all_ports m.ports second.0;
      wires = second.1;
      register = one_register m.notifier first.1;
      apart = subst AreApart (append_assoc (port_names m.ports) m.wires registers) h.apart;
    }

pub written : (m : VModule) (others : List (List ℕ)) → IsWellFormedModule m → AreApart (udp_names m.udps ++ others) → IsWritten m
written m others h apart =
    record {
      declared = declared m h;
      udps = recursion_from_All IsWellFormedUdp m.udps h.udps;
      others = others;
      apart =
          apart;
      sound = h.sound;
    }

timed : (m : VModule) → IsWellFormedModule m → AreTimed m
timed m h = record {
  paths = recursion_from_All (IsPath m) m.paths h.sound.paths;
  checks = recursion_from_All (IsCheck m) m.checks h.sound.checks;
  delays = recursion_from_All HasNumbers m.paths h.paths;
  limits = recursion_from_All HasNumber m.checks h.checks;
}

-- The names of instances.

all_fed : (m : VModule) → IsWritten m → (before : List Instance) → AllByRecursion (DrivesNet m) before
    → (b : Bool) (inputs : List VNet)
    → list_all (if b then feeds_state m else feeds_value m before) inputs ≡ true → AllByRecursion (IsNamedNet m) inputs
all_fed m w before all b [] h = tt
all_fed m w before all b (n ∷ inputs) h =
    let p = and_parts ((if b then feeds_state m else feeds_value m before) n)
    (list_all (if b then feeds_state m else feeds_value m before) inputs) h in
    (named_net m w.declared n (feeding_known m before b n all p.0), all_fed m w before all b inputs p.1)

instance_named : (m : VModule) → IsWritten m → (before : List Instance) → AllByRecursion (DrivesNet m) before → (i : Instance)
    → IsInstance m before i → AreNamed m i
instance_named m w before all (instance.Primitive j output inputs) (udp, e, h) = (
  subst IsName (sym (primitive_name m j udp e)) (all_at IsWellFormedUdp m.udps j udp w.udps e).name,
  named_net m w.declared output (driven_known m output (drives_by m udp.sequential output h.drives)),
  all_fed m w before all udp.sequential inputs h.fed,
)
instance_named m w before all (instance.Constant output one) h = named_net m w.declared output (driven_known m output h)

all_push : {A : Type 0} (P : A → Type 0) (xs : List A) (x : A) → AllByRecursion P xs → P x → AllByRecursion P (xs ++ x ∷ [])
all_push P [] x h p = (p, tt)
all_push P (y ∷ xs) x h p = (h.0, all_push P xs x h.1 p)

instances_named : (m : VModule) → IsWritten m → (before is : List Instance) → AllByRecursion (DrivesNet m) before
    → AreInstances m before is → AllByRecursion (AreNamed m) is
instances_named m w before [] all h = tt
instances_named m w before (i ∷ is) all h = (
  instance_named m w before all i h.0,
  instances_named m w (before ++ i ∷ []) is
      (all_push (DrivesNet m) before i all (drives_net m before i h.0)) h.1,
)

all_named : (m : VModule) → IsWritten m → AllByRecursion (AreNamed m) m.instances
all_named m w = instances_named m w [] m.instances tt w.sound.instances

-- Its tokens.

abbrev body_tokens : VModule → Front
body_tokens m s = each (instance_tokens m) m.instances (block_tokens m (codes "endmodule" ∷ s))

-- the tokens behind the word "module"
abbrev pub module_more : VModule → Front
module_more m s = m.name ∷ codes "(" ∷ listed m.ports (codes ")" ∷ codes ";" ∷ declaration_tokens m (body_tokens m s))

abbrev pub module_tokens : VModule → Front
module_tokens m s = codes "module" ∷ module_more m s

module_end : Spells Anything false (codes "endmodule\n") (λ s. codes "endmodule" ∷ s) false
module_end = literal (λ r. refl) refl

pub module_spelled : (m : VModule) (others : List (List ℕ)) → IsWellFormedModule m → AreApart (udp_names m.udps ++ others)
    → Spells Anything false (module_only_text m) (module_tokens m) false
unfolding module_only_text
module_spelled m others h apart =
    let w = written m others h apart in
    let t = timed m h in
    behind (header_spelled m h.name w.declared.ports)
    (behind (declarations_spelled m w.declared.ports w.declared.wires w.declared.register)
    (behind (each_spelled (AreNamed m) (instance_spelled m) (λ i r q. tt) m.instances (all_named m w))
    (behind (block_spelled m (both (path_named m w) m.paths t.paths t.delays) (both (check_named m w) m.checks t.checks t.limits))
    module_end)))

-- What follows the declarations.

body_other : (m : VModule) (x : List ℕ) → is_verilog_word x ≡ true → bytes_eq (codes "buf") x ≡ false
    → bytes_eq (codes "specify") x ≡ false → bytes_eq (codes "endmodule") x ≡ false
    → (is : List Instance) → AllByRecursion (AreNamed m) is → (b : Bool) (s : List (List ℕ))
    → Other x (each (instance_tokens m) is (block_by b m (codes "endmodule" ∷ s)))
body_other m x word buffer block end [] h true s = block
body_other m x word buffer block end [] h false s = end
body_other m x word buffer block end (instance.Primitive j output inputs ∷ is) h b s =
    unlike_word (Rattle.verilog_writer.specs.Nets.primitive_at m j) x word h.0.0
body_other m x word buffer block end (instance.Constant output one ∷ is) h b s = buffer

ends_declarations : (m : VModule) → AllByRecursion (AreNamed m) m.instances → (s : List (List ℕ))
    → EndsDeclarations (body_tokens m s)
unfolding is_verilog_word verilog_words
ends_declarations m h s = record {
  input = body_other m (codes "input") refl refl refl refl m.instances h (has_block m) s;
  output = body_other m (codes "output") refl refl refl refl m.instances h (has_block m) s;
  wire = body_other m (codes "wire") refl refl refl refl m.instances h (has_block m) s;
  reg = body_other m (codes "reg") refl refl refl refl m.instances h (has_block m) s;
}

no_instance : (m : VModule) (b : Bool) (s : List (List ℕ)) → Stops (begins_instance m.udps) (block_by b m (codes "endmodule" ∷ s))
unfolding is_verilog_word verilog_words
no_instance m true s = refl
no_instance m false s = refl

-- All is driven.

outputs_pass : (test : VNet → Bool) (all before after : List VPort) → before ++ after ≡ all
    → ((p : ℕ) → is_output_port all p ≡ true → test (net.Port p) ≡ true)
    → list_all test (output_nets (length before) after) ≡ true
outputs_pass test all before [] same h = refl
outputs_pass test all before (port ∷ after) same h =
    by (subst (λ n. list_all test (output_nets n after) ≡ true) (sym (one_longer before port))
    (outputs_pass test all (before ++ port ∷ []) after (append_assoc before (port ∷ []) after ∙ same) h)) port.input refl
  where
    by : list_all test (output_nets (length before + 1) after) ≡ true → (t : Bool) → port.input ≡ t
        → list_all test (if t then output_nets (length before + 1) after
        else net.Port (length before) ∷ output_nets (length before + 1) after) ≡ true
    by rest true e = rest
    by rest false e =
        let here : is_output_port all (length before) ≡ true =
        ap (λ (l : List VPort). is_output_port l (length before)) (sym same)
        ∙ ap (λ (o : Option VPort). option_map_or (λ (p : VPort). not p.input) o false) (get_at before port after) ∙ ap not e
        in
        and_from (test (net.Port (length before))) (list_all test (output_nets (length before + 1) after))
        (h (length before) here) rest

wires_pass : (test : VNet → Bool) (k : ℕ) (wires : List (List ℕ)) → ((w : ℕ) → w < k + length wires → test (net.Wire w) ≡ true)
    → list_all test (wire_nets k wires) ≡ true
wires_pass test k [] h = refl
wires_pass test k (x ∷ wires) h =
    and_from (test (net.Wire k)) (list_all test (wire_nets (k + 1) wires)) (h k (omega arith))
    (wires_pass test (k + 1) wires (λ w l. h w (omega (arith, l))))

driven : (m : VModule) → IsWritten m → (n : VNet) → is_driven m n ≡ true → is_driven_already m n ≡ true
driven m w n h = ap (λ (k : ℕ). nat_lt 0 k) (w.sound.driven n h)

all_driven : (m : VModule) → IsWritten m → are_all_driven m ≡ true
all_driven m w =
    list_all-append (is_driven_already m) (output_nets 0 m.ports) (wire_nets 0 m.wires)
    ∙ and_from (list_all (is_driven_already m) (output_nets 0 m.ports)) (list_all (is_driven_already m) (wire_nets 0 m.wires))
    (outputs_pass (is_driven_already m) m.ports [] m.ports refl (λ p h. driven m w (net.Port p) h))
    (wires_pass (is_driven_already m) 0 m.wires (λ v h. driven m w (net.Wire v) (below v (length m.wires) (omega (arith, h)))))

-- a module is read from its tokens behind the first
pub module_read : (names : List (List ℕ)) (m : VModule) (others : List (List ℕ)) (s : List (List ℕ)) → IsWellFormedModule m
    → AreApart (udp_names m.udps ++ others) → is_among names m.name ≡ false
    → Reads (one_module names m.udps) (module_more m s) m s
unfolding one_module
module_read names m others s h apart new =
    let w = written m others h apart in
    in_turn (newly_named names h.name new)
    (in_turn (declarations_read m (body_tokens m s) w.declared (ends_declarations m (all_named m w) s))
    (in_turn (instances_read m w (block_tokens m (codes "endmodule" ∷ s)) (no_instance m (has_block m) s))
    (in_turn (specify_read m w (timed m h) s) (in_turn (expected_where (are_all_driven m) Undriven (all_driven m w)) gives))))
