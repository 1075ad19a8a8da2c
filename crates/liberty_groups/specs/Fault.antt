-- Faults of a library text, and how they print.
use Rattle.std.specs.Prelude.{ℕ, List, Option, Some, None, codes}
use Rattle.liberty_text.specs.declared.token.Stop.{Stop}
use Rattle.liberty_text.specs.declared.token.Stop.TheVariants as stop
use Rattle.liberty_groups.specs.declared.fault.Expected.{Expected}
use Rattle.liberty_groups.specs.declared.fault.Expected.TheVariants as expected
use Rattle.liberty_groups.specs.declared.fault.LibraryFault.{LibraryFault}
use Rattle.liberty_groups.specs.declared.fault.LibraryFault.TheVariants as fault
use Rattle.liberty_groups.specs.declared.fault.Refusal.{Refusal}
use Rattle.liberty_groups.specs.declared.fault.Refusal.TheVariants as refusal

abbrev pub expected_text : Expected → List ℕ
expected_text expected.Statement = codes "expected statement"
expected_text expected.AfterName = codes "expected colon or bracket"
expected_text expected.Opening = codes "expected opening"
expected_text expected.Argument = codes "expected argument"
expected_text expected.Value = codes "expected value"
expected_text expected.FileEnd = codes "expected end of file"

abbrev pub fault_text : LibraryFault → List ℕ
fault_text (fault.BadByte at) = codes "byte"
fault_text (fault.OpenText at) = codes "text not closed"
fault_text (fault.OpenComment at) = codes "comment not closed"
fault_text (fault.Syntax at expected) = expected_text expected
fault_text (fault.TooDeep at) = codes "too deep"
fault_text (fault.NotLibrary at) = codes "not a library"

abbrev pub fault_place : LibraryFault → ℕ
fault_place (fault.BadByte at) = at
fault_place (fault.OpenText at) = at
fault_place (fault.OpenComment at) = at
fault_place (fault.Syntax at expected) = at
fault_place (fault.TooDeep at) = at
fault_place (fault.NotLibrary at) = at

-- the fault of a refusal at an offset
abbrev pub fault_at : Refusal → ℕ → LibraryFault
fault_at (refusal.Syntax expected) at = fault.Syntax at expected
fault_at refusal.TooDeep at = fault.TooDeep at
fault_at refusal.NotLibrary at = fault.NotLibrary at

-- the fault with which the tokens of a text stop, unless they end with the text
abbrev pub lexical_fault : Stop → Option LibraryFault
lexical_fault stop.End = None
lexical_fault (stop.BadByte at) = Some (fault.BadByte at)
lexical_fault (stop.OpenContinuation at) = Some (fault.BadByte at)
lexical_fault (stop.OpenText at) = Some (fault.OpenText at)
lexical_fault (stop.OpenComment at) = Some (fault.OpenComment at)
