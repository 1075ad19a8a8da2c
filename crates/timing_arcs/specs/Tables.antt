-- The tables of timing groups and the times in them (Liberty Reference Manual, `cell_rise`, `rise_constraint` and their
-- kin, and `values`).
use Rattle.std.specs.Prelude.{ℕ, max, Bool, ◌||◌, not, ◌==◌, List, [], ◌∷◌, ◌++◌, length, codes, bytes_eq, flat_map, Option, Some}
use Rattle.std.specs.Prelude.{None, is_none, if◌then◌else◌}
use Rattle.std.specs.List.{list_any, filter_map}
use Rattle.liberty_text.specs.declared.time.Unit.{Unit as TimeUnit}
use Rattle.liberty_groups.specs.declared.tree.Value.{Value}
use Rattle.liberty_groups.specs.declared.tree.Item.{Item, out-Item}
use Rattle.liberty_groups.specs.declared.tree.Item.TheOpen.{Item-F}
use Rattle.liberty_groups.specs.declared.tree.Item.TheOpen as layer
use Rattle.liberty_groups.specs.declared.tree.Group.{Group}
use Rattle.timing_arcs.specs.Times.{time_of}
use Rattle.liberty_groups.specs.Attributes.{groups_named, words_between}

-- Entries are separated by commas, blanks and line ends. (Liberty Reference Manual, `values`.)
abbrev pub is_separator : ℕ → Bool
is_separator byte = byte == 44 || (byte == 32 || (byte == 9 || (byte == 13 || byte == 10)))

-- The texts of the entries of a `values` statement, and the offset of the statement.
pub record Values : Type 0 where
  pub entries : List (List ℕ)
  pub at : ℕ

abbrev pub entries_of : List Value → List (List ℕ)
entries_of arguments = flat_map (λ (value : Value). words_between is_separator value.bytes) arguments

-- The `values` statement that a statement is, where it is one.
abbrev pub values_as : Item-F Item Group → Option Values
values_as (layer.Simple n value at) = None
values_as (layer.Complex n arguments at) = if bytes_eq n (codes "values")
    then Some (record { entries = entries_of arguments; at = at }) else None
values_as (layer.Inner group) = None

-- The `values` statements of a table.
abbrev pub values_of : Group → List Values
values_of table = filter_map (λ item. values_as (out-Item item)) table.items

-- The `values` statements of all tables of one name in a timing group, which count together. (This project's rule.)
abbrev pub values_named : List ℕ → Group → List Values
values_named name group = flat_map values_of (groups_named name group.items)

-- The greatest of some times, 0 where there is none.
abbrev pub greatest : List ℕ → ℕ
greatest [] = 0
greatest (x ∷ xs) = max x (greatest xs)

-- The times of the entries, in picoseconds, those that are numbers within the limit.
abbrev pub times_of : Option TimeUnit → Values → List ℕ
times_of unit values = filter_map (time_of unit) values.entries

-- The limit or delay that the tables of this name give: the greatest of all their entries, in picoseconds, 0 where there
-- is no such table. (This project's rule.)
unfoldable pub limit_of : Option TimeUnit → List ℕ → Group → ℕ
limit_of unit name group = greatest (flat_map (times_of unit) (values_named name group))

abbrev pub has_entry : Values → Bool
has_entry values = not (length values.entries == 0)

-- The offset of a `values` statement with an entry that is no time.
abbrev pub bad_values_at : Option TimeUnit → Values → Option ℕ
bad_values_at unit values = if list_any (λ entry. is_none (time_of unit entry)) values.entries then Some values.at else None

-- The offset of the first of some tables, where none of their statements has an entry.
abbrev pub empty_tables_at : List Values → List Group → List ℕ
empty_tables_at values [] = []
empty_tables_at values (table ∷ tables) = if list_any has_entry values then [] else table.at ∷ []

-- The offsets of what is wrong in the tables of one name: statements with an entry that is no time, and the first of
-- tables that have no entry.
unfoldable pub bad_numbers_at : Option TimeUnit → List ℕ → Group → List ℕ
bad_numbers_at unit name group =
    empty_tables_at (values_named name group) (groups_named name group.items)
    ++ filter_map (bad_values_at unit) (values_named name group)
