-- The tokens of a written primitive.
use Rattle.std.proofs.Common.{ℕ, Bool, true, false, if◌then◌else◌, List, [], ◌∷◌, ◌++◌, refl, codes, flat_map}
use Rattle.std.specs.List.{AllByRecursion}
use Rattle.std.proofs.lemmas.List.Elements.{recursion_from_All}
use Rattle.udp_tables.specs.declared.table.Level.{Level}
use Rattle.udp_tables.specs.declared.table.Level.TheVariants as level
use Rattle.udp_tables.specs.declared.table.Entry.{Entry}
use Rattle.udp_tables.specs.declared.table.Entry.TheVariants as entry
use Rattle.udp_tables.specs.declared.table.Next.{Next}
use Rattle.udp_tables.specs.declared.table.Next.TheVariants as next
use Rattle.udp_tables.specs.declared.table.UdpRow.{UdpRow}
use Rattle.udp_tables.specs.declared.table.Udp.{Udp}
use Rattle.verilog_grammar.specs.WellFormed.{IsName, IsWellFormedUdp}
use Rattle.verilog_writer.specs.Symbols.{level_text, entry_text, next_text}
use Rattle.verilog_writer.specs.Primitive.{opening_text, port_text, header_text, output_text, input_text, spaced_text}
use Rattle.verilog_writer.specs.Primitive.{outcome_text, row_text, table_text, primitive_text}
use Rattle.grammar_reader.proofs.Spelling.{literal, joins, behind, each_spelled}
use Rattle.written_modules.proofs.Spelling.{Spells, Ends}
use Rattle.grammar_reader.proofs.Fronts.{Front, Anything, each}
use Rattle.written_modules.proofs.Words.{name}

-- Nothing is asked of an item.
abbrev pub Any : {A : Type 0} → A → Type 0
Any x = Unit {0}

pub all_any : {A : Type 0} (xs : List A) → AllByRecursion Any xs
all_any [] = tt
all_any (x ∷ xs) = (tt, all_any xs)

-- a name behind a comma
abbrev pub next_name : List ℕ → Front
next_name x s = codes "," ∷ x ∷ s

-- a declaration by a word
abbrev pub declared : List ℕ → List ℕ → Front
declared word x s = word ∷ x ∷ codes ";" ∷ s

-- Marks.

pub comma : Spells Anything false (codes ", ") (λ s. codes "," ∷ s) false
comma = literal (λ r. refl) refl

pub opened : Spells Anything false (codes " (") (λ s. codes "(" ∷ s) false
opened = literal (λ r. refl) refl

pub closed : Spells Anything false (codes ");\n") (λ s. codes ")" ∷ codes ";" ∷ s) false
closed = literal (λ r. refl) refl

pub line_end : Spells Anything false (codes ";\n") (λ s. codes ";" ∷ s) false
line_end = literal (λ r. refl) refl

pub input_word : Spells Anything false (codes "  input ") (λ s. codes "input" ∷ s) false
input_word = literal (λ r. refl) refl

pub output_word : Spells Anything false (codes "  output ") (λ s. codes "output" ∷ s) false
output_word = literal (λ r. refl) refl

-- Headers.

primitive_word : Spells Anything false (codes "primitive ") (λ s. codes "primitive" ∷ s) false
primitive_word = literal (λ r. refl) refl

opening : (udp : Udp) → IsWellFormedUdp udp
    → Spells Ends false (opening_text udp) (λ s. codes "primitive" ∷ udp.name ∷ codes "(" ∷ udp.output ∷ s) false
unfolding opening_text
opening udp w = behind primitive_word (joins (name udp.name w.name) (λ r q. refl) (behind opened (name udp.output w.output)))

port : (x : List ℕ) → IsName x → Spells Ends false (port_text x) (next_name x) false
unfolding port_text
port x n = behind comma (name x n)

port_begins : (x : List ℕ) (r : List ℕ) → Ends r → Ends (port_text x ++ r)
unfolding port_text
port_begins x r e = refl

ports : (xs : List (List ℕ)) → AllByRecursion IsName xs → Spells Anything false (flat_map port_text xs ++ codes ");\n")
    (λ s. each next_name xs (codes ")" ∷ codes ";" ∷ s)) false
ports xs all = joins (each_spelled IsName port port_begins xs all) (λ r q. refl) closed

ports_begin : (xs : List (List ℕ)) (r : List ℕ) → Ends ((flat_map port_text xs ++ codes ");\n") ++ r)
unfolding port_text
ports_begin [] r = refl
ports_begin (x ∷ xs) r = refl

abbrev pub header_tokens : Udp → Front
header_tokens udp s = codes "primitive" ∷ udp.name ∷ codes
    "(" ∷ udp.output ∷ each next_name udp.inputs (codes ")" ∷ codes ";" ∷ s)

header : (udp : Udp) → IsWellFormedUdp udp → Spells Anything false (header_text udp) (header_tokens udp) false
unfolding header_text
header udp w = joins (opening udp w) (λ r q. ports_begin udp.inputs r)
    (ports udp.inputs (recursion_from_All IsName udp.inputs w.inputs))

-- Declarations.

register_word : Spells Anything false (codes ";\n  reg ") (λ s. codes ";" ∷ codes "reg" ∷ s) false
register_word = literal (λ r. refl) refl

abbrev pub output_tokens : Bool → List ℕ → Front
output_tokens true x s = codes "output" ∷ x ∷ codes ";" ∷ codes "reg" ∷ x ∷ codes ";" ∷ s
output_tokens false x s = codes "output" ∷ x ∷ codes ";" ∷ s

output_by : (sequential : Bool) (x : List ℕ) → IsName x → Spells Anything false
    (codes "  output " ++ (x ++ ((if sequential then codes ";\n  reg " ++ x else []) ++ codes ";\n")))
    (output_tokens sequential x) false
output_by true x n = behind output_word
    (joins (name x n) (λ r q. refl) (behind register_word (joins (name x n) (λ r q. refl) line_end)))
output_by false x n = behind output_word (joins (name x n) (λ r q. refl) line_end)

output : (udp : Udp) → IsWellFormedUdp udp
    → Spells Anything false (output_text udp) (output_tokens udp.sequential udp.output) false
unfolding output_text
output udp w = output_by udp.sequential udp.output w.output

input : (x : List ℕ) → IsName x → Spells Anything false (input_text x) (declared (codes "input") x) false
unfolding input_text
input x n = behind input_word (joins (name x n) (λ r q. refl) line_end)

-- Rows.

-- a text within a table, where signs of entries stand by themselves
abbrev InTable : List ℕ → Front → Type 0
InTable text front = Spells Anything true text front true

a_next : (n : Next) → InTable (next_text n) (λ s. next_text n ∷ s)
a_next next.Zero = literal (λ r. refl) refl
a_next next.One = literal (λ r. refl) refl
a_next next.Unknown = literal (λ r. refl) refl
a_next next.Keep = literal (λ r. refl) refl

pub a_level : (l : Level) → InTable (level_text l) (λ s. level_text l ∷ s)
a_level level.Zero = literal (λ r. refl) refl
a_level level.One = literal (λ r. refl) refl
a_level level.Unknown = literal (λ r. refl) refl
a_level level.Any = literal (λ r. refl) refl
a_level level.Binary = literal (λ r. refl) refl

-- the first token of an entry, and the others
abbrev pub entry_start : Entry → List ℕ
entry_start (entry.Level l) = level_text l
entry_start (entry.Pair before after) = codes "("
entry_start entry.R = codes "r"
entry_start entry.F = codes "f"
entry_start entry.P = codes "p"
entry_start entry.N = codes "n"
entry_start entry.Star = codes "*"

abbrev pub entry_more : Entry → Front
entry_more (entry.Level l) s = s
entry_more (entry.Pair before after) s = level_text before ∷ level_text after ∷ codes ")" ∷ s
entry_more entry.R s = s
entry_more entry.F s = s
entry_more entry.P s = s
entry_more entry.N s = s
entry_more entry.Star s = s

abbrev pub entry_tokens : Entry → Front
entry_tokens e s = entry_start e ∷ entry_more e s

pair_opened : InTable (codes "(") (λ s. codes "(" ∷ s)
pair_opened = literal (λ r. refl) refl

pair_closed : InTable (codes ")") (λ s. codes ")" ∷ s)
pair_closed = literal (λ r. refl) refl

an_entry : (e : Entry) → InTable (entry_text e) (entry_tokens e)
an_entry (entry.Level l) = a_level l
an_entry (entry.Pair before after) = behind pair_opened (behind (a_level before) (behind (a_level after) pair_closed))
an_entry entry.R = literal (λ r. refl) refl
an_entry entry.F = literal (λ r. refl) refl
an_entry entry.P = literal (λ r. refl) refl
an_entry entry.N = literal (λ r. refl) refl
an_entry entry.Star = literal (λ r. refl) refl

space : InTable (codes " ") (λ s. s)
space = literal (λ r. refl) refl

spaced : (e : Entry) → Any e → InTable (spaced_text e) (entry_tokens e)
unfolding spaced_text
spaced e any = behind (an_entry e) space

indented : InTable (codes "    ") (λ s. s)
indented = literal (λ r. refl) refl

colon : InTable (codes ": ") (λ s. codes ":" ∷ s)
colon = literal (λ r. refl) refl

spaced_colon : InTable (codes " : ") (λ s. codes ":" ∷ s)
spaced_colon = literal (λ r. refl) refl

row_end : InTable (codes ";\n") (λ s. codes ";" ∷ s)
row_end = literal (λ r. refl) refl

-- what stands behind the colon
abbrev pub outcome_tokens : Bool → Level → Next → Front
outcome_tokens true state n s = level_text state ∷ codes ":" ∷ next_text n ∷ codes ";" ∷ s
outcome_tokens false state n s = next_text n ∷ codes ";" ∷ s

outcome : (sequential : Bool) (row : UdpRow)
    → InTable (outcome_text sequential row) (λ s. codes ":" ∷ outcome_tokens sequential row.state row.next s)
unfolding outcome_text
outcome true row = behind colon (behind (a_level row.state) (behind spaced_colon (behind (a_next row.next) row_end)))
outcome false row = behind colon (behind (a_next row.next) row_end)

abbrev pub row_tokens : Bool → UdpRow → Front
row_tokens sequential row s = each entry_tokens row.inputs (codes ":" ∷ outcome_tokens sequential row.state row.next s)

row : (sequential : Bool) (row : UdpRow) → Any row → InTable (row_text sequential row) (row_tokens sequential row)
unfolding row_text
row sequential one any = behind indented
    (behind (each_spelled Any spaced (λ e r q. tt) one.inputs (all_any one.inputs)) (outcome sequential one))

-- The primitive.

table_word : Spells Anything false (codes "  table\n") (λ s. codes "table" ∷ s) true
table_word = literal (λ r. refl) refl

table_end : Spells Anything true (codes "  endtable\nendprimitive\n") (λ s. codes "endtable" ∷ codes "endprimitive" ∷ s) false
table_end = literal (λ r. refl) refl

abbrev pub table_tokens : Udp → Front
table_tokens udp s = codes "table" ∷ each (row_tokens udp.sequential) udp.rows (codes "endtable" ∷ codes "endprimitive" ∷ s)

table : (udp : Udp) → Spells Anything false (table_text udp) (table_tokens udp) false
unfolding table_text
table udp = behind table_word (behind (each_spelled Any (row udp.sequential) (λ e r q. tt) udp.rows (all_any udp.rows)) table_end)

abbrev pub primitive_tokens : Udp → Front
primitive_tokens udp s = header_tokens udp
    (output_tokens udp.sequential udp.output (each (declared (codes "input")) udp.inputs (table_tokens udp s)))

-- the tokens of a primitive's text
pub primitive_spelled : (udp : Udp) → IsWellFormedUdp udp
    → Spells Anything false (primitive_text udp) (primitive_tokens udp) false
unfolding primitive_text
primitive_spelled udp w =
    behind (header udp w) (behind (output udp w)
    (behind (each_spelled IsName input (λ x r q. tt) udp.inputs (recursion_from_All IsName udp.inputs w.inputs)) (table udp)))
