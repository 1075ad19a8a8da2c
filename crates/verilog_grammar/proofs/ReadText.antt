-- The modules of a text are well formed.
use Rattle.std.proofs.Common.{◌≡◌, ℕ, zero, suc, ◌+◌, ◌<◌, ◌≤◌, Bool, true, false, not, ◌&&◌, nat_lt, if◌then◌else◌, IsTrue, List}
use Rattle.std.proofs.Common.{[], ◌∷◌, ◌++◌, length, flat_map, Option, Some, None, refl, sym, ap, subst, ◌∙◌, arith, codes}
use Rattle.std.proofs.Common.{append_assoc}
use Rattle.std.specs.Prelude.{All}
use Rattle.std.specs.Str.{bytes_eq}
use Rattle.std.specs.List.{list_all}
use Rattle.std.proofs.lemmas.Bool.{and_parts}
use Rattle.std.proofs.lemmas.Bool.Decides.{nat_tests}
use Rattle.std.proofs.lemmas.List.{append-nil, map_push}
use Rattle.std.proofs.lemmas.List.Elements.{All-push}
use Rattle.std.proofs.lemmas.List.Folds.{list_all-append}
use Rattle.std.proofs.lemmas.Grind.{flat_map-append}
use Rattle.grammar_rules.proofs.Promises.{Promises, gives, last, in_turn, many}
use Rattle.udp_tables.specs.declared.table.Udp.{Udp}
use Rattle.udp_tables.specs.declared.models.VPort.{VPort}
use Rattle.specify_blocks.specs.declared.model.VNet.{VNet}
use Rattle.specify_blocks.specs.declared.model.VNet.TheVariants as net
use Rattle.specify_blocks.specs.declared.model.Instance.{Instance}
use Rattle.specify_blocks.specs.declared.model.Gate.{Gate}
use Rattle.specify_blocks.specs.declared.model.Gate.TheVariants as gate
use Rattle.specify_blocks.specs.declared.model.VPath.{VPath}
use Rattle.udp_tables.specs.declared.timing_checks.TimingCheck.{TimingCheck}
use Rattle.specify_blocks.specs.declared.model.VModule.{VModule}
use Rattle.specify_blocks.specs.Nets.{is_output_port, is_driven, drivers}
use Rattle.specify_blocks.specs.Sound.{is_gate, IsPath, is_enabling, IsCheck}
use Rattle.verilog_tokens.specs.Tokens.{lexis}
use Rattle.grammar_reader.specs.declared.refusal.Refusal.TheVariants.{Undriven}
use Rattle.grammar_reader.specs.Texts.{text_tokens}
use Rattle.verilog_grammar.specs.VerilogModules.{output_nets, wire_nets, is_driven_already, are_all_driven}
use Rattle.verilog_grammar.specs.VerilogBlocks.{with_block}
use Rattle.verilog_grammar.specs.VerilogText.{Before, with_primitive, with_module, next_primitive, one_module, next_module}
use Rattle.verilog_grammar.specs.VerilogText.{more_primitives, primitives_and_module, design_by, designs, file, IsVerilogText}
use Rattle.verilog_grammar.specs.WellFormed.{IsName, IsWellFormedUdp, IsWellFormedModule, udp_names, outer_names, AreWellFormed}
use Rattle.verilog_grammar.proofs.ReadNames.{IsSpelled, IsNew, AreNames, push_name, no_names, new_names, where_holds, behind}
use Rattle.verilog_grammar.proofs.ReadPrimitives.{IsNewUdp, primitives}
use Rattle.verilog_grammar.proofs.ReadHeaders.{IsBare, bare_modules}
use Rattle.verilog_grammar.proofs.ReadInstances.{filled, filled_instances, AreDriven, IsBuilt, all_instances}
use Rattle.verilog_grammar.proofs.ReadBlocks.{IsToldPath, IsToldCheck, IsFinished, specified}
use Rattle.verilog_grammar.proofs.ReadTokens.{tokens_spelled}

-- Each net that has to be driven is among those that the end of a module looks at.

output_passes : (test : VNet → Bool) (k : ℕ) (ports : List VPort) (p : ℕ) → list_all test (output_nets k ports) ≡ true
    → IsTrue (is_output_port ports p) → test (net.Port (k + p)) ≡ true
output_passes test k [] p h e = absurd cc
output_passes test k (port ∷ ports) zero h e =
    let output : port.input ≡ false = not_true port.input e in
    let same : k ≡ k + 0 = omega arith in
    let all : (test (net.Port k) && list_all test (output_nets (k + 1) ports)) ≡ true = rw output at h in
    subst (λ n. test (net.Port n) ≡ true) same (and_parts (test (net.Port k)) (list_all test (output_nets (k + 1) ports)) all).0
  where
    not_true : (a : Bool) → not a ≡ true → a ≡ false
    not_true true e = absurd cc
    not_true false e = refl
output_passes test k (port ∷ ports) (suc p) h e =
    let same : k + 1 + p ≡ k + suc p = omega arith in
    subst (λ n. test (net.Port n) ≡ true) same (output_passes test (k + 1) ports p (later port.input h) e)
  where
    later : (a : Bool) → list_all test (if a then output_nets (k + 1) ports else net.Port k ∷ output_nets (k + 1) ports) ≡ true
        → list_all test (output_nets (k + 1) ports) ≡ true
    later true h = h
    later false h = (and_parts (test (net.Port k)) (list_all test (output_nets (k + 1) ports)) h).1

wire_passes : (test : VNet → Bool) (k : ℕ) (wires : List (List ℕ)) (w : ℕ) → list_all test (wire_nets k wires) ≡ true
    → w < length wires → test (net.Wire (k + w)) ≡ true
wire_passes test k [] w h below = absurd (omega arith)
wire_passes test k (x ∷ wires) zero h below =
    let same : k ≡ k + 0 = omega arith in
    subst (λ n. test (net.Wire n) ≡ true) same (and_parts (test (net.Wire k)) (list_all test (wire_nets (k + 1) wires)) h).0
wire_passes test k (x ∷ wires) (suc w) h below =
    let same : k + 1 + w ≡ k + suc w = omega arith in
    subst (λ n. test (net.Wire n) ≡ true) same
    (wire_passes test (k + 1) wires w (and_parts (test (net.Wire k)) (list_all test (wire_nets (k + 1) wires)) h).1
    (omega arith))

driven_already : (m : VModule) (n : VNet) → are_all_driven m ≡ true → IsTrue (is_driven m n) → is_driven_already m n ≡ true
driven_already m (net.Port p) h e =
    let all = and_parts (list_all (is_driven_already m) (output_nets 0 m.ports))
    (list_all (is_driven_already m) (wire_nets 0 m.wires))
    (sym (list_all-append (is_driven_already m) (output_nets 0 m.ports) (wire_nets 0 m.wires)) ∙ h) in
    let same : 0 + p ≡ p = omega arith in
    subst (λ n. is_driven_already m (net.Port n) ≡ true) same (output_passes (is_driven_already m) 0 m.ports p all.0 e)
driven_already m (net.Wire w) h e =
    let all = and_parts (list_all (is_driven_already m) (output_nets 0 m.ports))
    (list_all (is_driven_already m) (wire_nets 0 m.wires))
    (sym (list_all-append (is_driven_already m) (output_nets 0 m.ports) (wire_nets 0 m.wires)) ∙ h) in
    let same : 0 + w ≡ w = omega arith in
    let below : w < length m.wires = grind (arith, nat_tests) in
    subst (λ n. is_driven_already m (net.Wire n) ≡ true) same (wire_passes (is_driven_already m) 0 m.wires w all.1 below)
driven_already m net.Notifier h e = absurd cc

driven_once : (m : VModule) (n : VNet) → are_all_driven m ≡ true → drivers m.instances n ≤ 1 → IsTrue (is_driven m n)
    → drivers m.instances n ≡ 1
driven_once m n h once e = let some : nat_lt 0 (drivers m.instances n) ≡ true = driven_already m n h e in grind (arith, nat_tests)

-- A module.

gate_kept : (m : VModule) (ps : List VPath) (cs : List TimingCheck) (g : Gate) → IsTrue (is_gate m g)
    → IsTrue (is_gate (with_block m ps cs) g)
gate_kept m ps cs gate.Always h = refl
gate_kept m ps cs (gate.If w) h = h
gate_kept m ps cs gate.IfNone h = refl

path_kept : (m : VModule) (ps : List VPath) (cs : List TimingCheck) (path : VPath) → IsPath m path
    → IsPath (with_block m ps cs) path
path_kept m ps cs path h = record { starts = h.starts; ends = h.ends; gated = gate_kept m ps cs path.gate h.gated }

enabling_kept : (m : VModule) (ps : List VPath) (cs : List TimingCheck) (when : Option ℕ) → IsTrue (is_enabling m when)
    → IsTrue (is_enabling (with_block m ps cs) when)
enabling_kept m ps cs None h = refl
enabling_kept m ps cs (Some w) h = h

check_kept : (m : VModule) (ps : List VPath) (cs : List TimingCheck) (k : TimingCheck) → IsCheck m k
    → IsCheck (with_block m ps cs) k
check_kept m ps cs k h =
    record {
      first = h.first;
      second = h.second;
      written = h.written;
      enabled =
          enabling_kept m ps cs k.condition h.enabled;
      notified = h.notified;
    }

module_is_formed : (name : List ℕ) (udps : List Udp) (b : VModule) (is : List Instance) (ps : List VPath) (cs : List TimingCheck)
    → IsName name → All IsWellFormedUdp udps → IsBare name udps b → AreDriven b is
    → All (IsToldPath (filled b is b.paths b.checks)) ps → All (IsToldCheck (filled b is b.paths b.checks)) cs
    → are_all_driven (filled b is ps cs) ≡ true
    → IsWellFormedModule (filled b is ps cs)
module_is_formed name udps b is ps cs named formed bare driven told_paths told_checks all =
    let primitives : All IsWellFormedUdp b.udps = subst (All IsWellFormedUdp) (sym bare.primitives) formed in
    record {
      name = subst IsName (sym bare.named) named;
      inner = bare.inner.all;
      apart = bare.inner.apart;
      udps = primitives;
      sound = record {
        tables = λ k d h. (primitives k d h).table;
        instances = filled_instances b is ps cs [] is driven.instances;
        driven = λ n e. driven_once (filled b is ps cs) n all (driven.once n) e;
        paths = λ k d h. path_kept (filled b is b.paths b.checks) ps cs _ (told_paths k d h).sound;
        checks = λ k d h. check_kept (filled b is b.paths b.checks) ps cs _ (told_checks k d h).sound;
      };
      paths = λ k d h. (told_paths k d h).numbers;
      checks = λ k d h. (told_checks k d h).number;
    }

-- a module that is read behind others and primitives of these names
record IsNewModule (names : List (List ℕ)) (udps : List Udp) (m : VModule) : Type 0 where
  formed : IsWellFormedModule m
  new : IsNew names m.name
  primitives : m.udps ≡ udps

finished : (names : List (List ℕ)) (name : List ℕ) (udps : List Udp) (b joined m : VModule) → IsNew names name
    → All IsWellFormedUdp udps
    → IsBare name udps b → IsBuilt b joined → IsFinished joined m → are_all_driven m ≡ true → IsNewModule names udps m
finished names name udps b joined m new formed bare built fin all =
    let same : m ≡ filled b joined.instances fin.paths fin.checks =
    fin.same ∙ ap (λ j. with_block j fin.paths fin.checks) built.same in
    record {
      formed = subst IsWellFormedModule (sym same)
          (module_is_formed name udps b joined.instances fin.paths fin.checks new.name formed bare built.driven
          (subst (λ j. All (IsToldPath j) fin.paths) built.same fin.told_paths)
          (subst (λ j. All (IsToldCheck j) fin.checks) built.same fin.told_checks)
          (subst (λ v. are_all_driven v ≡ true) same all));
      new = subst (IsNew names) (sym (ap (λ (v : VModule). v.name) same ∙ bare.named)) new;
      primitives = ap (λ (v : VModule). v.udps) same ∙ bare.primitives;
    }

modules : (names : List (List ℕ)) (udps : List Udp) → All IsWellFormedUdp udps
    → Promises IsSpelled (one_module names udps) (IsNewModule names udps)
unfolding one_module
modules names udps formed =
    in_turn (new_names names) (λ name new.
    in_turn (bare_modules name udps) (λ b bare.
    in_turn (all_instances b bare.no_instances) (λ joined built.
    in_turn (specified joined (ap (λ (v : VModule). v.paths) built.same ∙ bare.no_paths)
    (ap (λ (v : VModule). v.checks) built.same ∙ bare.no_checks)) (λ m fin.
    in_turn (where_holds (are_all_driven m) Undriven (codes "endmodule")) (λ a all.
    gives (finished names name udps b joined m new formed bare built fin all))))))

-- A text.

record IsBefore (before : Before) : Type 0 where
  formed : All IsWellFormedModule before.modules
  primitives : All IsWellFormedUdp before.udps
  named : AreNames before.names
  listed : before.names ≡ flat_map outer_names before.modules ++ udp_names before.udps

-- no primitive stands behind the last module
record IsWhole (before : Before) : Type 0 where
  so_far : IsBefore before
  none : before.udps ≡ []

push_primitive : (before : Before) (udp : Udp) → IsBefore before → IsNewUdp before.names udp
    → IsBefore (with_primitive before udp)
push_primitive before udp h new = record {
  formed = h.formed;
  primitives = All-push IsWellFormedUdp before.udps udp h.primitives new.formed;
  named = push_name before.names udp.name h.named new.new;
  listed = ap (λ ns. ns ++ udp.name ∷ []) h.listed ∙ append_assoc (flat_map outer_names before.modules) (udp_names before.udps)
      (udp.name ∷ [])
      ∙ ap (λ ns. flat_map outer_names before.modules ++ ns) (sym (map_push (λ (u : Udp). u.name) before.udps udp));
}

push_module : (before : Before) (m : VModule) → IsBefore before → IsNewModule before.names before.udps m
    → IsWhole (with_module before m)
push_module before m h new =
    let more : flat_map outer_names (before.modules ++ m ∷ []) ≡ flat_map outer_names before.modules ++ outer_names m =
    flat_map-append outer_names before.modules (m ∷ [])
    ∙ ap (λ ns. flat_map outer_names before.modules ++ ns) (append-nil (outer_names m)) in
    let own : udp_names before.udps ++ m.name ∷ [] ≡ outer_names m = ap (λ us. udp_names us ++ m.name ∷ []) (sym new.primitives)
    in
    record {
      so_far = record {
        formed = All-push IsWellFormedModule before.modules m h.formed new.formed;
        primitives = λ k d l. absurd (omega arith);
        named = push_name before.names m.name h.named new.new;
        listed = ap (λ ns. ns ++ m.name ∷ []) h.listed
            ∙ append_assoc (flat_map outer_names before.modules) (udp_names before.udps) (m.name ∷ [])
            ∙ ap (λ ns. flat_map outer_names before.modules ++ ns) own ∙ sym more
            ∙ sym (append-nil (flat_map outer_names (before.modules ++ m ∷ [])));
      };
      none = refl;
    }

one_primitive : (before : Before) → IsBefore before → Promises IsSpelled (next_primitive before) IsBefore
unfolding next_primitive
one_primitive before h = in_turn (primitives before.names) (λ udp new. gives (push_primitive before udp h new))

another_module : (before : Before) → IsBefore before → Promises IsSpelled (next_module before) IsWhole
unfolding next_module
another_module before h = in_turn (modules before.names before.udps h.primitives) (λ m new. gives (push_module before m h new))

all_primitives : (before : Before) → IsBefore before → Promises IsSpelled (more_primitives before) IsBefore
unfolding more_primitives
all_primitives before h = many h (λ w x a q p e. one_primitive w q)

one_design : (before : Before) → IsBefore before → (primitive : Bool) → Promises IsSpelled (design_by before primitive) IsWhole
unfolding primitives_and_module
one_design before h true =
    in_turn (one_primitive before h) (λ first f. in_turn (all_primitives first f) (λ more m. behind (λ a. another_module more m)))
one_design before h false = another_module before h

all_designs : Promises IsSpelled designs IsWhole
unfolding designs
all_designs =
    many (record {
      so_far = record {
        formed = λ k d l. absurd (omega arith);
        primitives = λ k d l. absurd (omega arith);
        named =
            no_names;
        listed = refl;
      };
      none = refl;
    })
    (λ w x a q p e. one_design w q.so_far (bytes_eq a (codes "primitive")))

text_is_formed : (all : Before) → IsWhole all → AreWellFormed all.modules
text_is_formed all h =
    let names : all.names ≡ flat_map outer_names all.modules =
    h.so_far.listed ∙ ap (λ us. flat_map outer_names all.modules ++ udp_names us) h.none
    ∙ append-nil (flat_map outer_names all.modules) in
    record { modules = h.so_far.formed; apart = (subst AreNames names h.so_far.named).apart }

files : Promises IsSpelled file AreWellFormed
unfolding file
files = behind (λ a. in_turn all_designs (λ all h. last (text_is_formed all h)))

pub text_modules : (bytes : List ℕ) (ms : List VModule) → IsVerilogText bytes ms → AreWellFormed ms
text_modules bytes ms h = (files.kept (text_tokens lexis bytes) ms [] (tokens_spelled bytes) h.takes).0
