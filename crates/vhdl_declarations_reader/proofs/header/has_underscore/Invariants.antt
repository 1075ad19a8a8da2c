use Rattle.std.proofs.Common.{◌≡◌, drop, nat_eq}
use Rattle.std.specs.List.{list_any}
use Rattle.vhdl_declarations_reader.proofs.header.has_underscore.Given as goal

abbrev pub invariant-loop-byte : goal.invariant-loop-byte
invariant-loop-byte l = list_any (nat_eq 95) (drop l.byte-index l.name) ≡ list_any (nat_eq 95) l.name
