-- What a reader says of a text that it refuses.
use Rattle.std.specs.Prelude.{◌≡◌, Result, Err}
use Rattle.udp_tables.specs.declared.models.ModelFault.{ModelFault}
use Rattle.udp_tables.specs.declared.models.ModelFault.TheVariants as fault

-- this is the fault of a text of which this is the answer; want of memory is told of no text
abbrev pub IsFaultIn : {A : Type 0} → Result A ModelFault → ModelFault → Type 0
IsFaultIn answer fault.Memory = Unit {0}
IsFaultIn answer e = answer ≡ Err e
