use Rattle.std.proofs.Common.{◌∙◌, ℕ, List, Option, sym, ap}
use Rattle.std.specs.Option.{option_map}
use Rattle.udp_tables.specs.declared.models.VPort.{VPort}
use Rattle.std.specs.Str.{bytes_eq}
use Rattle.udp_tables.specs.VerilogRules.{place_from}
use Rattle.verilog_grammar.specs.VerilogModules.{input_at, with_input}
use Rattle.verilog_grammar.specs.Headers.{inputs_of}
use Rattle.verilog_grammar.proofs.Headers.{known_none, known_some, input_found}
use Rattle.verilog_grammar.proofs.declarations.module_input_name.Goals as goal

abbrev place : List ℕ → ℕ → List VPort → Option ℕ
place x behind ports = place_from (λ (port : VPort). bytes_eq x port.name) behind ports

pub returns-in_default : goal.returns-in_default
returns-in_default c =
    known_none (input_at (inputs_of c.args.found)) c.bytes-name.result.now c.args.cursor.now c.bytes-name.ensures
    (sym c.is_name.ensures ∙ c.if-not-is_name.false)
    (ap (option_map (with_input c.bytes-name.result.now c.args.found.ports)) (ap (place c.bytes-name.result.now c.args.found.behind) (sym c.as_slice.ensures) ∙ sym c.port_place.ensures.value ∙ c.in_default.is))

pub returns : goal.returns
returns c =
    let at = known_some (input_at (inputs_of c.args.found)) c.bytes-name.result.now c.args.cursor.now
    (with_input c.bytes-name.result.now c.args.found.ports c.in-Some.place) c.bytes-name.ensures (sym c.is_name.ensures ∙ c.if-not-is_name.false)
    (ap (option_map (with_input c.bytes-name.result.now c.args.found.ports)) (ap (place c.bytes-name.result.now c.args.found.behind) (sym c.as_slice.ensures) ∙ sym c.port_place.ensures.value ∙ c.in-Some.is)) in
    at ∙ input_found c.bytes-name.result.now c.in_ok-from_slice.field-0 c.args.found.ports c.set.new.self c.in-Some.place c.skip.new.self _
    c.in_ok-from_slice.ensures c.set.ensures c.skip.ensures
