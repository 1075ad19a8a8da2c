use Rattle.std.proofs.Common.{◌≡◌, ℕ, ◌+◌, ◌≤◌, true, List, Option, Some, None, length, take, drop, sym, ap, ◌∙◌, arith}
use Rattle.std.specs.Option.{option_map}
use Rattle.bool_functions.specs.NameList.{number_of}
use Rattle.udp_tables.specs.declared.models.VPort.{VPort}
use Rattle.vhdl_grammar.specs.VhdlDeclarations.{port_names}
use Rattle.vhdl_grammar.specs.VhdlNames.{port_of}
use Rattle.vhdl_grammar.specs.Lowered.{all_lowered}
use Rattle.vhdl_tokens.specs.Kept.{lowered}
use Rattle.vhdl_tokens.specs.Tokens.{is_name}
use Rattle.vhdl_grammar.proofs.LoweredNames.{far_number}
use Rattle.vhdl_grammar.proofs.ports.Ports.far_number.Goals as goal

-- what is found in lower case behind the first ports
found : (inside own : List VPort) (far : List (List ℕ)) (x : List ℕ) (o : Option ℕ) → inside ≡ own
    → far ≡ all_lowered (port_names (drop 16 inside)) → 16 ≤ length inside → is_name x ≡ true → port_of (take 16 own) x ≡ None
    → o ≡ number_of far (lowered x) → option_map (λ k. 16 + k) o ≡ port_of own x
found inside own far x o same named many is none o_is =
    ap (option_map (λ k. 16 + k)) o_is
    ∙ sym (far_number inside far named many x is (ap (λ (ports : List VPort). port_of (take 16 ports) x) same ∙ none))
    ∙ ap (λ (ports : List VPort). port_of ports x) same

pub returns-in-Some : goal.returns-in-Some
returns-in-Some c is =
    found c.self.inside.ports _ c.self.inside.far c.args.name.now (Some c.in-Some.number) c.self.view_is c.self.invariant.named
    (omega arith) is c.requires (sym c.in-Some.is ∙ c.in_ok-found.ensures)

pub returns-in-None : goal.returns-in-None
returns-in-None c is =
    found c.self.inside.ports _ c.self.inside.far c.args.name.now None c.self.view_is c.self.invariant.named
    (omega arith) is c.requires (sym c.in-None.is ∙ c.in_ok-found.ensures)
