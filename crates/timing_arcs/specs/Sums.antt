-- How the entries of tables are added up, one after another.
use Rattle.std.specs.Prelude.{ℕ, max, Bool, true, false, List, codes, bytes_eq, fold, Option, Some, None, if◌then◌else◌}
use Rattle.liberty_groups.specs.declared.tree.Value.{Value}
use Rattle.liberty_groups.specs.declared.tree.Item.{Item, out-Item}
use Rattle.liberty_groups.specs.declared.tree.Item.TheOpen.{Item-F}
use Rattle.liberty_groups.specs.declared.tree.Item.TheOpen as layer
use Rattle.liberty_groups.specs.declared.tree.Group.{Group}
use Rattle.liberty_text.specs.declared.time.Unit.{Unit as TimeUnit}
use Rattle.timing_arcs.specs.declared.tables.Sum.{Sum}
use Rattle.cell_machine.specs.Delay.{lesser}
use Rattle.timing_arcs.specs.Times.{time_of}
use Rattle.liberty_groups.specs.Attributes.{group_named, words_between}
use Rattle.timing_arcs.specs.Tables.{is_separator}

-- of no entries
abbrev pub no_sum : Sum
no_sum = record { has_entry = false; greatest = 0; bad_at = None }

-- with an entry in the statement at this offset, which is this time or none
abbrev pub with_time : ℕ → Sum → Option ℕ → Sum
with_time at sum None = record { has_entry = true; greatest = sum.greatest; bad_at = lesser sum.bad_at (Some at) }
with_time at sum (Some time) = record { has_entry = true; greatest = max sum.greatest time; bad_at = sum.bad_at }

abbrev pub with_entry : Option TimeUnit → ℕ → Sum → List ℕ → Sum
with_entry unit at sum text = with_time at sum (time_of unit text)

-- with the entries of a text
abbrev pub with_text : Option TimeUnit → ℕ → Sum → List ℕ → Sum
with_text unit at sum text = fold (with_entry unit at) sum (words_between is_separator text)

-- with the arguments of a `values` statement
abbrev pub with_arguments : Option TimeUnit → ℕ → Sum → List Value → Sum
with_arguments unit at sum arguments = fold (λ sum (value : Value). with_text unit at sum value.bytes) sum arguments

-- with a statement
abbrev pub with_item : Option TimeUnit → Sum → Item-F Item Group → Sum
with_item unit sum (layer.Simple n value at) = sum
with_item unit sum (layer.Complex n arguments at) = if bytes_eq n (codes "values") then with_arguments unit at sum arguments
    else sum
with_item unit sum (layer.Inner group) = sum

-- with a table
abbrev pub with_table : Option TimeUnit → Sum → Group → Sum
with_table unit sum table = fold (λ sum item. with_item unit sum (out-Item item)) sum table.items

-- with a table, if there is one
abbrev pub with_optional : Option TimeUnit → Sum → Option Group → Sum
with_optional unit sum None = sum
with_optional unit sum (Some table) = with_table unit sum table

-- with the tables of one name
abbrev pub with_tables : Option TimeUnit → List ℕ → Sum → List Item → Sum
with_tables unit name sum items = fold (λ sum item. with_optional unit sum (group_named name (out-Item item))) sum items

-- the offset of the first table, unless there is an entry
abbrev pub first_unless : Bool → Option Group → Option ℕ
first_unless has_entry None = None
first_unless has_entry (Some table) = if has_entry then None else Some table.at
