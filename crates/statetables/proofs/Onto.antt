use Rattle.std.proofs.Common.{List, ◌++◌}
use Rattle.std.specs.Prelude.{Result, Ok}
use Rattle.statetables.specs.declared.fault.TableFault.{TableFault}
use Rattle.statetables.specs.Reading.{and_then}

-- what was read so far, with what is read next, or the fault that is met there
abbrev pub onto : {A : Type 0} → List A → Result (List A) TableFault → Result (List A) TableFault
onto done read = and_then read (λ more. Ok (done ++ more))
