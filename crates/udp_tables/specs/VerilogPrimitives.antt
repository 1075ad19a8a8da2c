-- The grammar of primitives in Verilog text. (IEEE 1364-2005, 8.1, primitive definition, and A.5.)
use Rattle.std.specs.Prelude.{ℕ, ◌+◌, Bool, true, false, not, ◌&&◌, ◌||◌, ◌==◌, nat_le, if◌then◌else◌, List, [], ◌∷◌, ◌++◌}
use Rattle.std.specs.Prelude.{length, slice_get, Option, Some, None, is_some, codes}
use Rattle.std.specs.List.{list_any}
use Rattle.std.specs.Option.{option_map}
use Rattle.std.specs.Str.{bytes_eq}
use Rattle.grammar_reader.specs.grammar_rules.Rule.{Verdict, Fits, Foul, Misfit}
use Rattle.grammar_reader.specs.grammar_rules.Rule as r
use Rattle.udp_tables.specs.declared.table.Level.{Level}
use Rattle.udp_tables.specs.declared.table.Level.TheVariants as level
use Rattle.udp_tables.specs.declared.table.Entry.{Entry}
use Rattle.udp_tables.specs.declared.table.Entry.TheVariants as entry
use Rattle.udp_tables.specs.declared.table.Next.{Next}
use Rattle.udp_tables.specs.declared.table.Next.TheVariants as next
use Rattle.udp_tables.specs.declared.table.UdpRow.{UdpRow}
use Rattle.udp_tables.specs.declared.table.Udp.{Udp}
use Rattle.udp_tables.specs.Primitive.{is_level}
use Rattle.grammar_reader.specs.declared.refusal.Refusal.{Refusal}
use Rattle.grammar_reader.specs.declared.refusal.Refusal.TheVariants.{Syntax, TwoEdges, Width}
use Rattle.grammar_reader.specs.Words.{Grammar, ◌>>=◌, go_on_where, valued}
use Rattle.udp_tables.specs.VerilogRules.{expect, expect_where, begins, begins_where, any_name, new_name, this_name}

-- at least so many inputs are allowed of a primitive without a state and of one with a state (8.1: at least 10, and at least 9)
abbrev pub most_inputs : ℕ
most_inputs = 10

abbrev pub most_inputs_with_state : ℕ
most_inputs_with_state = 9

-- the output and the inputs of a header
pub record Header : Type 0 where
  pub output : List ℕ
  pub inputs : List (List ℕ)

-- "," NAME
unfoldable pub next_input : List ℕ → List (List ℕ) → Grammar (List (List ℕ))
next_input output inputs = do
  input ← new_name (output ∷ inputs)
  r.Gives (inputs ++ input ∷ [])

unfoldable pub more_inputs : List ℕ → List (List ℕ) → Grammar (List (List ℕ))
more_inputs output inputs = r.Many (λ _. begins (codes ",")) (λ found _. next_input output found) inputs

-- "(" NAME "," NAME { "," NAME } ")" ";" (8.1.1: the output is the first port)
unfoldable pub header : Grammar Header
header = do
  _ ← expect (codes "(")
  output ← any_name
  _ ← expect (codes ",")
  first ← next_input output []
  inputs ← more_inputs output first
  _ ← expect_where (nat_le (length inputs) most_inputs) Width (codes ")")
  _ ← expect (codes ";")
  r.Gives (record { output = output; inputs = inputs })

-- "output" NAME ";" (8.1.2)
unfoldable pub declared_output : List ℕ → Grammar (Unit {0})
declared_output output = do
  _ ← expect (codes "output")
  _ ← this_name (Some output)
  expect (codes ";")

-- NAME ";" behind "reg"
unfoldable pub declared_state : List ℕ → Grammar Bool
declared_state output = do
  _ ← this_name (Some output)
  _ ← expect (codes ";")
  r.Gives true

-- [ "reg" NAME ";" ], which tells whether the primitive has a state (8.1.3)
unfoldable pub register : Header → Grammar Bool
register h =
    r.Choice (begins_where (nat_le (length h.inputs) most_inputs_with_state) Width (codes "reg")) (λ _. declared_state h.output)
    (r.Gives false)

-- NAME ";" behind "input", where so many inputs are declared: the next one of the header
unfoldable pub declared_input : List (List ℕ) → ℕ → Grammar ℕ
declared_input inputs n = do
  _ ← this_name (slice_get inputs n)
  _ ← expect (codes ";")
  r.Gives (n + 1)

-- { "input" NAME ";" }, which has to declare all inputs of the header
unfoldable pub declared_inputs : List (List ℕ) → Grammar (Unit {0})
declared_inputs inputs = do
  n ← r.Many (λ _. begins (codes "input")) (λ n _. declared_input inputs n) 0
  go_on_where (n == length inputs)

-- The level that a symbol stands for (table 8-1).
abbrev pub level_by : ℕ → Option Level
level_by b =
    if b == 48 then Some level.Zero
    else (if b == 49 then Some level.One
    else (if b == 120 || b == 88 then Some level.Unknown
    else (if b == 63 then Some level.Any
    else (if b == 98 || b == 66 then Some level.Binary
    else None))))

-- the change that a symbol stands for (table 8-1)
abbrev pub change_by : ℕ → Option Entry
change_by b =
    if b == 114 || b == 82 then Some entry.R
    else (if b == 102 || b == 70 then Some entry.F
    else (if b == 112 || b == 80 then Some entry.P
    else (if b == 110 || b == 78 then Some entry.N
    else (if b == 42 then Some entry.Star
    else None))))

-- what a symbol gives as an output (table 8-1), and with a state `-` too
abbrev pub next_by : Bool → ℕ → Option Next
next_by sequential b =
    if b == 48 then Some next.Zero
    else (if b == 49 then Some next.One
    else (if b == 120 || b == 88 then Some next.Unknown
    else (if sequential && b == 45 then Some next.Keep
    else None)))

-- a token of one byte
abbrev pub symbol : {A : Type 0} → (ℕ → Option A) → List ℕ → Option A
symbol find [] = None
symbol find (b ∷ []) = find b
symbol find (b ∷ c ∷ bs) = None

-- a level
abbrev pub a_level : Grammar Level
a_level = valued (symbol level_by)

-- the token begins a change: a symbol of one, or the bracket of a pair
abbrev pub begins_change : List ℕ → Bool
begins_change x = is_some (symbol change_by x) || bytes_eq x (codes "(")

-- the token begins an entry; a change stands only in a primitive with a state (8.2 and 8.4)
abbrev pub begins_entry : Bool → List ℕ → Bool
begins_entry sequential x = is_some (symbol level_by x) || sequential && begins_change x

-- level level ")" behind "("
unfoldable pub pair : Grammar Entry
pair = do
  before ← a_level
  after ← a_level
  _ ← expect (codes ")")
  r.Gives (entry.Pair before after)

-- the entry that a symbol alone is
abbrev pub whole_entry : List ℕ → Option Entry
whole_entry x = if is_some (symbol level_by x) then option_map entry.Level (symbol level_by x) else symbol change_by x

abbrev pub entry_by : Option Entry → Grammar Entry
entry_by None = pair
entry_by (Some e) = r.Gives e

-- an entry behind its first token
abbrev pub entry_after : List ℕ → Grammar Entry
entry_after x = entry_by (whole_entry x)

-- one of the entries is a change
abbrev pub has_change : List Entry → Bool
has_change entries = list_any (λ e. not (is_level e)) entries

-- The first token of a further entry of a row. A second change breaks a strict rule (8.4: one input changes).
abbrev pub begins_next_entry : Bool → List Entry → List ℕ → Option (Verdict (List ℕ) Refusal)
begins_next_entry sequential entries x =
    if begins_entry sequential x then Some (if has_change entries && begins_change x then Foul TwoEdges x else Fits x) else None

unfoldable pub next_entry : List Entry → List ℕ → Grammar (List Entry)
next_entry entries x = do
  e ← entry_after x
  r.Gives (entries ++ e ∷ [])

unfoldable pub more_entries : Bool → List Entry → Grammar (List Entry)
more_entries sequential entries = r.Many (begins_next_entry sequential) next_entry entries

-- level ":" next ";" behind the entries and their ":", in a primitive with a state (8.1.4)
unfoldable pub state_and_next : List Entry → Grammar UdpRow
state_and_next entries = do
  state ← a_level
  _ ← expect (codes ":")
  next ← valued (symbol (next_by true))
  _ ← expect (codes ";")
  r.Gives (record { inputs = entries; state = state; next = next })

-- level ";" behind the entries and their ":", in a primitive without a state (8.1.4)
unfoldable pub output_level : List Entry → Grammar UdpRow
output_level entries = do
  next ← valued (symbol (next_by false))
  _ ← expect (codes ";")
  r.Gives (record { inputs = entries; state = level.Any; next = next })

abbrev pub row_end : Bool → List Entry → Grammar UdpRow
row_end true entries = state_and_next entries
row_end false entries = output_level entries

-- entry { entry } ":" level [ ":" next ] ";", behind its first token: an entry for each of so many inputs
unfoldable pub row : Bool → ℕ → List ℕ → Grammar UdpRow
row sequential n x = do
  first ← next_entry [] x
  entries ← more_entries sequential first
  _ ← expect_where (length entries == n) Width (codes ":")
  row_end sequential entries

-- the first token of a row
abbrev pub first_of_row : Bool → List ℕ → Verdict (List ℕ) Refusal
first_of_row sequential x = if begins_entry sequential x then Fits x else Misfit Syntax

abbrev pub begins_row : Bool → List ℕ → Option (Verdict (List ℕ) Refusal)
begins_row sequential x = if begins_entry sequential x then Some (Fits x) else None

unfoldable pub next_row : Bool → ℕ → List UdpRow → List ℕ → Grammar (List UdpRow)
next_row sequential n rows x = do
  another ← row sequential n x
  r.Gives (rows ++ another ∷ [])

-- "table" row { row } "endtable" (8.1.4)
unfoldable pub table : Bool → ℕ → Grammar (List UdpRow)
table sequential n = do
  _ ← expect (codes "table")
  x ← r.Token (first_of_row sequential) Syntax
  first ← next_row sequential n [] x
  rows ← r.Many (λ _. begins_row sequential) (next_row sequential n) first
  _ ← expect (codes "endtable")
  r.Gives rows

-- A primitive behind the word "primitive", where primitives and modules of these names stand before it.
unfoldable pub primitive : List (List ℕ) → Grammar Udp
primitive names = do
  name ← new_name names
  h ← header
  _ ← declared_output h.output
  sequential ← register h
  _ ← declared_inputs h.inputs
  rows ← table sequential (length h.inputs)
  _ ← expect (codes "endprimitive")
  r.Gives (record { name = name; output = h.output; inputs = h.inputs; sequential = sequential; rows = rows })
