-- Answers as they are told.
use Rattle.std.proofs.Common.{◌≡◌, Result, Ok, Err, IfOk}
use Rattle.std.specs.Result.{result_map_both}
use Rattle.udp_tables.specs.declared.models.ModelFault.{ModelFault}
use Rattle.udp_tables.specs.declared.models.ModelFault.TheVariants as fault
use Rattle.sectioned_texts.specs.Faults.{IsFaultIn}

-- the fault of a text is told as it is
pub is_fault : {A : Type 0} (answer : Result A ModelFault) (f : ModelFault) → answer ≡ Err f → IsFaultIn answer f
is_fault answer (fault.Lexical at) e = e
is_fault answer (fault.Syntax at) e = e
is_fault answer (fault.TwoEdges at) e = e
is_fault answer (fault.Width at) e = e
is_fault answer (fault.Undefined at) e = e
is_fault answer (fault.Twice at) e = e
is_fault answer (fault.Undriven at) e = e
is_fault answer (fault.Unequal at) e = e
is_fault answer fault.Memory e = tt

-- what is answered with something in the place of nothing
pub answered : {T E : Type 0} (value : T) (rest : Result (Result (Unit {0}) ModelFault) E) (told : Result T ModelFault)
    (result : Result (Result T ModelFault) E)
    → result ≡ result_map_both (result_map_both (λ _. value) (λ f. f)) (λ e. e) rest
    → IfOk rest (λ a. result_map_both (λ _. value) (λ f. f) a ≡ told)
    → IfOk result (λ a. a ≡ told)
answered value (Ok a) told result e same = rw e same
answered value (Err x) told result e same = rw e tt
