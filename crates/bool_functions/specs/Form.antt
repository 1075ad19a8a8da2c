-- How a function holds its tree.
use Rattle.std.specs.Prelude.{Bool, true, false}
use Rattle.bool_functions.specs.declared.tree.Node.{Node}
use Rattle.bool_functions.specs.declared.functions.Form.{Form}
use Rattle.bool_functions.specs.declared.functions.Form.TheVariants as form

-- the tree
abbrev pub shown : Form → Node
shown (form.Short f) = f
shown (form.Long f) = f

-- it is held as its codes
abbrev pub holds_codes : Form → Bool
holds_codes (form.Short f) = false
holds_codes (form.Long f) = true
