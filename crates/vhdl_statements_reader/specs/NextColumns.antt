-- The column that stands next behind those of a table: an input, or, where there is none, the violation.
use Rattle.std.specs.Prelude.{◌≡◌, ℕ, false, nat_eq, [], Option, Some, None}
use Rattle.std.specs.List.{list_any}
use Rattle.vhdl_grammar.specs.declared.scope.Columns.{Columns}
use Rattle.vhdl_grammar.specs.VhdlNames.{violated_columns, with_input}

abbrev pub with_column : Columns → Option ℕ → Columns
with_column columns None = violated_columns
with_column columns (Some p) = with_input columns p

-- it may stand behind these: the violation where no input does, an input where it is none of theirs
abbrev pub MayStand : Columns → Option ℕ → Type 0
MayStand columns None = columns.inputs ≡ []
MayStand columns (Some p) = list_any (nat_eq p) columns.inputs ≡ false
