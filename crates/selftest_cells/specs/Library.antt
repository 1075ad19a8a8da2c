-- The library that a run makes for itself. By the remainder of its number by 4 a cell has a function of three inputs, a flip-flop
-- with a clear, a latch with a least pulse width, or a clock gate by a state table. Times are in picoseconds.
use Rattle.std.specs.Prelude.{◌≡◌, ℕ, zero, suc, ◌%◌, ◌^◌, ◌<◌, true, List, [], ◌∷◌, ◌++◌, codes, decimal}
use Rattle.liberty_groups.specs.declared.tree.Item.{Item}
use Rattle.liberty_groups.specs.declared.tree.Item.TheVariants as item
use Rattle.liberty_groups.specs.declared.tree.Group.{Group}
use Rattle.liberty_groups.specs.Writing.{is_writable, group_text}
use Rattle.selftest_cells.specs.Draws.{next, pick}
use Rattle.selftest_cells.specs.Statements.{text, simple, group, inner, pin, table, timing}
use Rattle.selftest_cells.specs.Sums.{function_text}

abbrev pub input : List ℕ → List Item → Item
input name more = pin name (codes "input") more

abbrev pub output : List ℕ → List Item → Item
output name more = pin name (codes "output") more

-- a function of three inputs
unfoldable pub function_items : List ℕ → List Item
function_items function =
    input (codes "A") [] ∷ input (codes "B") [] ∷ input (codes "C") [] ∷ output (codes "Y")
    (simple (codes "function") function ∷ []) ∷ []

unfoldable pub setup : Item
setup =
    timing (codes "CK") (codes "setup_rising") (table (codes "rise_constraint") (codes "20"))
    (table (codes "fall_constraint") (codes "20"))

unfoldable pub arc : Item
arc = timing (codes "CK") (codes "rising_edge") (table (codes "cell_rise") (codes "5")) (table (codes "cell_fall") (codes "7"))

unfoldable pub flip_flop : Item
flip_flop =
    inner (codes "ff") (text (codes "IQ") ∷ text (codes "IQN") ∷ [])
    (simple (codes "next_state") (codes "D") ∷ simple (codes "clocked_on") (codes "CK") ∷ simple (codes "clear") (codes "R") ∷ [])

unfoldable pub flip_flop_items : List Item
flip_flop_items =
    flip_flop ∷ input (codes "CK") [] ∷ input (codes "D") (setup ∷ []) ∷ input (codes "R") []
    ∷ output (codes "Q") (simple (codes "function") (codes "IQ") ∷ arc ∷ []) ∷ []

unfoldable pub latch : Item
latch =
    inner (codes "latch") (text (codes "IQ") ∷ text (codes "IQN") ∷ [])
    (simple (codes "data_in") (codes "D") ∷ simple (codes "enable") (codes "EN") ∷ [])

unfoldable pub latch_items : List Item
latch_items =
    latch ∷ input (codes "EN") (simple (codes "min_pulse_width_high") (codes "15") ∷ []) ∷ input (codes "D") []
    ∷ output (codes "Q") (simple (codes "function") (codes "IQ") ∷ []) ∷ []

unfoldable pub state_rows : List ℕ
state_rows = codes "L L L : - : L, L L H : - : H, L H L : - : H, L H H : - : H, H - - : - : N"

unfoldable pub state_table : Item
state_table =
    inner (codes "statetable") (text (codes "CK E SE") ∷ text (codes "IQ") ∷ [])
    (simple (codes "table") state_rows ∷ [])

unfoldable pub clock_gate_items : List Item
clock_gate_items =
    state_table ∷ input (codes "CK") [] ∷ input (codes "E") [] ∷ input (codes "SE") []
    ∷ pin (codes "IQ") (codes "internal") (simple (codes "internal_node") (codes "IQ") ∷ [])
    ∷ output (codes "GCK") (simple (codes "state_function") (codes "CK * IQ") ∷ []) ∷ []

-- what stands in a cell, by this remainder of its number
abbrev pub items_by : ℕ → ℕ → List Item
items_by zero number = function_items (function_text (pick (next number) 256))
items_by (suc zero) number = flip_flop_items
items_by (suc (suc zero)) number = latch_items
items_by (suc (suc (suc n))) number = clock_gate_items

-- the cell with this number, from 1
unfoldable pub cell_group : ℕ → Group
cell_group number = group (codes "cell") (text (codes "G" ++ decimal number) ∷ []) (items_by (number % 4) number)

-- the first so many cells
abbrev pub cells : ℕ → List Item
cells zero = []
cells (suc n) = cells n ++ item.Inner (cell_group (suc n)) ∷ []

-- the library of so many cells
unfoldable pub library : ℕ → Group
library n = group (codes "library") (text (codes "selftest") ∷ []) (simple (codes "time_unit") (codes "1ps") ∷ cells n)

-- the text of a library before its cells
unfoldable pub front_text : List ℕ
front_text = codes "library (\"selftest\") {\ntime_unit : \"1ps\";\n"

-- Each library can be written, and so can each cell alone.
pub record AreWritable : Type 0 where
  pub library_is : (n : ℕ) → n < 2 ^ 64 → is_writable 32 (library n) ≡ true
  pub cell_is : (number : ℕ) → number < 2 ^ 64 → is_writable 32 (cell_group number) ≡ true

-- the text of the library of so many cells
unfoldable pub library_text : ℕ → List ℕ
library_text n = group_text (library n)
