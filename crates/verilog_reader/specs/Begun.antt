-- What a token begins among the instances of a module.
use Rattle.std.specs.Prelude.{ℕ, Bool, ◌||◌, List, Option, Some, None, if◌then◌else◌, codes}
use Rattle.std.specs.Str.{bytes_eq}
use Rattle.udp_tables.specs.declared.table.Udp.{Udp}
use Rattle.verilog_tokens.specs.Tokens.{is_name}
use Rattle.verilog_grammar.specs.VerilogModules.{primitive_number}

abbrev pub is_instance_start : List ℕ → Bool
is_instance_start x = bytes_eq x (codes "buf") || is_name x

abbrev pub numbered : Option ℕ → Option (Option ℕ)
numbered None = None
numbered (Some j) = Some (Some j)

-- the number of the primitive, or none for a buffer; nothing where there is no such primitive
abbrev pub instance_primitive : List Udp → List ℕ → Option (Option ℕ)
instance_primitive udps x = if bytes_eq x (codes "buf") then Some None else numbered (primitive_number udps x)
