-- The text of a primitive, by the syntax of IEEE 1364-2005, 8.1. The layout is this project's: two spaces before a
-- declaration, four before a row, one between symbols.
use Rattle.std.specs.Prelude.{ℕ, Bool, List, [], ◌++◌, codes, if◌then◌else◌}
use Rattle.std.specs.List.{flat_map}
use Rattle.udp_tables.specs.declared.table.Entry.{Entry}
use Rattle.udp_tables.specs.declared.table.UdpRow.{UdpRow}
use Rattle.udp_tables.specs.declared.table.Udp.{Udp}
use Rattle.verilog_writer.specs.Symbols.{level_text, entry_text, next_text}

-- `primitive NAME (OUTPUT`
unfoldable pub opening_text : Udp → List ℕ
opening_text udp = codes "primitive " ++ (udp.name ++ (codes " (" ++ udp.output))

-- `, INPUT` in the header
unfoldable pub port_text : List ℕ → List ℕ
port_text name = codes ", " ++ name

-- the header's line: the output, then the inputs in order
unfoldable pub header_text : Udp → List ℕ
header_text udp = opening_text udp ++ (flat_map port_text udp.inputs ++ codes ");\n")

-- the declaration of the output, and of its register where the primitive has a state
unfoldable pub output_text : Udp → List ℕ
output_text udp =
    codes "  output " ++ (udp.output ++ ((if udp.sequential then codes ";\n  reg " ++ udp.output else []) ++ codes ";\n"))

-- the declaration of an input
unfoldable pub input_text : List ℕ → List ℕ
input_text name = codes "  input " ++ (name ++ codes ";\n")

-- an entry, and a space
unfoldable pub spaced_text : Entry → List ℕ
spaced_text entry = entry_text entry ++ codes " "

-- what stands after the entries of a row: in a primitive with a state the current state and the next, else the output
unfoldable pub outcome_text : Bool → UdpRow → List ℕ
outcome_text sequential row =
    if sequential then codes ": " ++ (level_text row.state ++ (codes " : " ++ (next_text row.next ++ codes ";\n")))
    else codes ": " ++ (next_text row.next ++ codes ";\n")

-- a row's line
unfoldable pub row_text : Bool → UdpRow → List ℕ
row_text sequential row = codes "    " ++ (flat_map spaced_text row.inputs ++ outcome_text sequential row)

-- the table
unfoldable pub table_text : Udp → List ℕ
table_text udp = codes "  table\n" ++ (flat_map (row_text udp.sequential) udp.rows ++ codes "  endtable\nendprimitive\n")

-- a primitive: its header, its declarations in the header's order, and its table
unfoldable pub primitive_text : Udp → List ℕ
primitive_text udp = header_text udp ++ (output_text udp ++ (flat_map input_text udp.inputs ++ table_text udp))
