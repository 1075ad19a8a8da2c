-- A primitive behind its name, where its header was read.
use Rattle.std.proofs.Common.{◌≡◌, ℕ, List, Ok, refl}
use Rattle.grammar_rules.specs.Reading.{read}
use Rattle.udp_tables.specs.VerilogPrimitives as primitive
use Rattle.verilog_udp_reader.specs.Primitives.{behind_header, behind_name}

pub header_read : (name : List ℕ) (h : primitive.Header) (s m : List (List ℕ)) → read primitive.header s ≡ Ok (h, m)
    → read (behind_name name) s ≡ read (behind_header name h) m
unfolding behind_name
header_read name h s m e = rw e refl
