-- The declarations of wires, where none is next.
use Rattle.std.proofs.Common.{◌≡◌, ℕ, false, List, [], ◌∷◌, Ok, refl, codes}
use Rattle.std.specs.Str.{bytes_eq}
use Rattle.grammar_rules.specs.Reading.{read}
use Rattle.grammar_reader.specs.Next.{is_next}
use Rattle.udp_tables.specs.declared.models.VPort.{VPort}
use Rattle.verilog_grammar.specs.VerilogModules.{declared_wires}

pub no_wires : (ports : List VPort) (s : List (List ℕ)) → is_next bytes_eq (codes "wire") s ≡ false
    → read (declared_wires ports) s ≡ Ok ([], s)
unfolding declared_wires
no_wires ports [] e = refl
no_wires ports (x ∷ s) e = rw e refl
