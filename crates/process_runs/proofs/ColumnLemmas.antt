-- How many columns the table of a state has.
use Rattle.std.proofs.Common.{◌≡◌, ℕ, ◌+◌, Bool, true, false, List, length, map, arith}
use Rattle.std.proofs.Common.{if◌then◌else◌}
use Rattle.std.proofs.lemmas.List.{length-map}
use Rattle.trit_cubes.specs.declared.trits.Trit.{Trit}
use Rattle.udp_tables.specs.declared.models.VPort.{VPort}
use Rattle.vital_models.specs.declared.model.VState.{VState}
use Rattle.vital_models.specs.Rows.{violated}
use Rattle.vital_models.specs.Sound.{columns_of}
use Rattle.model_traces.specs.PortNumbers.{input_value}
use Rattle.model_traces.specs.ProcessRun.{columns}

-- a table has its columns
length-violated : (b : Bool) (v : Trit) (xs : List Trit) (n : ℕ) → length xs ≡ n
    → length (violated b v xs) ≡ (if b then n + 1 else n)
length-violated true v xs n e = omega arith
length-violated false v xs n e = e

pub length-columns : (state : VState) (ports : List VPort) (violation : Trit) (inputs : List Trit)
    → length (columns ports violation inputs state) ≡ columns_of state
length-columns state ports violation inputs =
    length-violated state.violation violation (map (input_value ports inputs) state.inputs) (length state.inputs)
    (length-map state.inputs (input_value ports inputs))
