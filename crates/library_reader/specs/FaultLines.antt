-- The line on a library that is refused (this project's format).
use Rattle.std.specs.Prelude.{ℕ, List, ◌++◌, codes, decimal}
use Rattle.liberty_groups.specs.declared.fault.LibraryFault.{LibraryFault}
use Rattle.liberty_groups.specs.Fault.{fault_text, fault_place}

-- a text that is no library text: the offset of its first fault, and what is wrong there
unfoldable pub library_fault_line : LibraryFault → List ℕ
library_fault_line fault =
    codes "library refused at " ++ (decimal (fault_place fault) ++ (codes ": " ++ (fault_text fault ++ codes "\n")))

-- a file with more bytes than a library may have, whose first bytes some library text begins with
unfoldable pub library_too_long_line : List ℕ
library_too_long_line = codes "library too long\n"
