-- The tokens of a written driver.
use Rattle.std.proofs.Common.{◌≡◌, ℕ, zero, suc, ◌+◌, ◌<◌, ◌/◌, ◌%◌, Bool, true, false, ◌||◌, ◌==◌, nat_lt, if◌then◌else◌, List}
use Rattle.std.proofs.Common.{[], ◌∷◌, ◌++◌, length, Option, Some, None, refl, sym, ap, arith, codes, decimal, flat_map}
use Rattle.std.specs.Char.{is_ascii_digit, is_ascii_uppercase, is_ascii_lowercase}
use Rattle.std.specs.Fmt.{digits, digits_onto, digit_glyph}
use Rattle.std.specs.List.{AllByRecursion, list_all}
use Rattle.std.proofs.lemmas.Bool.{and_from, lt-ltb}
use Rattle.std.proofs.lemmas.Bool.Decides.{nat_tests}
use Rattle.std.proofs.lemmas.Nat.{mod_below}
use Rattle.written_modules.specs.verilog_tokens.Kept.{is_name_byte}
use Rattle.written_modules.specs.verilog_tokens.Words.{is_verilog_word, verilog_words}
use Rattle.written_modules.specs.verilog_grammar.WellFormed.{IsName}
use Rattle.driven_traces.specs.declared.delays.DrivePath.{DrivePath}
use Rattle.driver_models.specs.declared.model.DriverModel.{DriverModel}
use Rattle.written_modules.specs.verilog_writer.Model.{ports_text}
use Rattle.driver_models.specs.Terminals.{all_numbered}
use Rattle.driver_texts.specs.NumberedNames.{next_name_text, listed_names_text}
use Rattle.driver_texts.specs.CoreTerminals.{terminal_by, next_terminal_text, terminals_text}
use Rattle.driver_texts.specs.NumberedPorts.{NumberedPort, ports_of}
use Rattle.driver_texts.specs.PortNames.{inputs, name_at, driven_name}
use Rattle.verilog_drivers.specs.DriverText.{data_word, enable_word, core_text, buffer_by, buffer_text}
use Rattle.verilog_drivers.specs.DriverText.{drive_path_text}
use Rattle.verilog_drivers.specs.DriverText.{drive_paths_text, driver_header_text, driver_declarations_text}
use Rattle.verilog_drivers.specs.DriverText.{driver_before}
use Rattle.verilog_drivers.specs.WellFormed.{HasNumbers}
use Rattle.written_modules.proofs.grammar_reader.Fronts.{Front, Anything, each}
use Rattle.written_modules.proofs.grammar_reader.Spelling.{literal, joins, behind, nothing, each_spelled}
use Rattle.written_modules.proofs.Spelling.{Spells, Ends}
use Rattle.written_driven_models.proofs.WholeSections.{last_of}
use Rattle.written_driven_models.proofs.WireReading.{all_named}
use Rattle.written_driven_models.proofs.TerminalReading.{terminal_tokens, name_tokens, wires_listed}
use Rattle.written_driven_models.proofs.TerminalReading as listed
use Rattle.written_modules.proofs.Words.{name}
use Rattle.written_modules.proofs.PrimitiveTokens.{declared, comma, opened, closed}
use Rattle.written_modules.proofs.ModuleTokens.{IsNamedPort, listed, ports, input_tokens, output_tokens, input, output, wire}
use Rattle.written_modules.proofs.ModuleTokens.{indented}
use Rattle.written_modules.proofs.TimingTokens.{path_line_tokens, path_line_spelled, block_word, block_end}
use Rattle.written_modules.proofs.TimingTokens as timing

-- Names of a word and a number.

glyph_is_digit : (d : ℕ) → d < 10 → is_ascii_digit (digit_glyph false d) ≡ true
glyph_is_digit d h =
    let below : nat_lt d 10 ≡ true = lt-ltb d 10 h in
    let digit : is_ascii_digit (48 + d) ≡ true = grind (arith, nat_tests, h) in
    rw below digit

digit_in_name : (b : ℕ) → is_ascii_digit b ≡ true → is_name_byte b ≡ true
digit_in_name b h = by (is_ascii_digit b) (is_ascii_uppercase b) (is_ascii_lowercase b) h
  where
    by : (digit upper lower : Bool) → digit ≡ true → (((digit || upper) || lower) || b == 95) ≡ true
    by true upper lower e = refl
    by false upper lower e = absurd cc

glyph_in_name : (d : ℕ) (rest : List ℕ) → d < 10 → list_all is_name_byte rest ≡ true
    → list_all is_name_byte (digit_glyph false d ∷ rest) ≡ true
glyph_in_name d rest l h =
    and_from (is_name_byte (digit_glyph false d)) (list_all is_name_byte rest)
    (digit_in_name (digit_glyph false d) (glyph_is_digit d l)) h

digits_in_name : (k n : ℕ) (rest : List ℕ) → list_all is_name_byte rest ≡ true
    → list_all is_name_byte (digits_onto k 10 false n rest) ≡ true
digits_in_name zero n rest h = h
digits_in_name (suc k) n rest h =
    let more = glyph_in_name (n % 10) rest (mod_below n 10 (omega arith)) h in
    by (digit_glyph false (n % 10) ∷ rest) (digits_onto k 10 false (n / 10) (digit_glyph false (n % 10) ∷ rest))
    (n / 10 == 0) more (digits_in_name k (n / 10) (digit_glyph false (n % 10) ∷ rest) more)
  where
    by : (one more : List ℕ) (b : Bool) → list_all is_name_byte one ≡ true → list_all is_name_byte more ≡ true
        → list_all is_name_byte (if b then one else more) ≡ true
    by one more true e f = e
    by one more false e f = f

number_in_name : (n : ℕ) → list_all is_name_byte (decimal n) ≡ true
unfolding digits
number_in_name n = digits_in_name 64 n [] refl

pub data_name : (n : ℕ) → IsName (data_word ++ decimal n)
unfolding is_verilog_word verilog_words
data_name n = record { identifier = number_in_name n; no_word = refl }

pub enable_name : (n : ℕ) → IsName (enable_word ++ decimal n)
unfolding is_verilog_word verilog_words
enable_name n = record { identifier = number_in_name n; no_word = refl }

all_data : (n : ℕ) → AllByRecursion IsName (all_numbered data_word n)
all_data n = all_named IsName data_word data_name n

all_enables : (n : ℕ) → AllByRecursion IsName (all_numbered enable_word n)
all_enables n = all_named IsName enable_word enable_name n

-- The header and the declarations.

-- the header without its first line
abbrev pub header_behind : DriverModel → List ℕ
header_behind m = codes "module " ++ (m.name ++ (codes " (" ++ (ports_text m.ports ++ codes ");\n")))

abbrev pub header_tokens : DriverModel → Front
header_tokens m s = codes "module" ∷ m.name ∷ codes "(" ∷ listed m.ports (codes ")" ∷ codes ";" ∷ s)

module_word : Spells Anything false (codes "module ") (λ s. codes "module" ∷ s) false
module_word = literal (λ r. refl) refl

header : (m : DriverModel) → IsName m.name → AllByRecursion IsNamedPort m.ports
    → Spells Anything false (header_behind m) (header_tokens m) false
header m n all = behind module_word
    (joins (name m.name n) (λ r q. refl) (behind opened (joins (ports m.ports all) (λ r q. refl) closed)))

abbrev pub declaration_tokens : DriverModel → Front
declaration_tokens m s =
    each input_tokens m.ports (each output_tokens m.ports
    (each (declared (codes "wire")) (all_numbered data_word (length m.driver.drives))
    (each (declared (codes "wire")) (all_numbered enable_word (length m.driver.drives)) s)))

declarations : (m : DriverModel) → AllByRecursion IsNamedPort m.ports
    → Spells Anything false (driver_declarations_text m) (declaration_tokens m) false
unfolding driver_declarations_text
declarations m all =
    behind (each_spelled IsNamedPort input (λ x r q. tt) m.ports all)
    (behind (each_spelled IsNamedPort output (λ x r q. tt) m.ports all)
    (behind (each_spelled IsName wire (λ x r q. tt) (all_numbered data_word (length m.driver.drives))
    (all_data (length m.driver.drives)))
    (each_spelled IsName wire (λ x r q. tt) (all_numbered enable_word (length m.driver.drives))
    (all_enables (length m.driver.drives)))))

-- The core.

abbrev pub IsNamedTerminal : NumberedPort → Type 0
IsNamedTerminal at = IsName at.port.name

abbrev pub core_tokens : DriverModel → Front
core_tokens m s =
    m.core ∷ codes "lib_u" ∷ codes "(" ∷ listed.core_tokens data_word enable_word (length m.driver.drives) (ports_of m)
    (codes ")" ∷ codes ";" ∷ s)

instance_name : Spells Anything false (codes " lib_u (") (λ s. codes "lib_u" ∷ codes "(" ∷ s) false
instance_name = literal (λ r. refl) refl

terminal_name : (x : List ℕ) → IsName x → (number : Option ℕ) → IsName (terminal_by data_word x number)
terminal_name x h None = h
terminal_name x h (Some number) = data_name number

terminal : (at : NumberedPort) → IsNamedTerminal at
    → Spells Anything false (next_terminal_text data_word at) (terminal_tokens data_word at) false
terminal at h = joins (name (terminal_by data_word at.port.name at.number) (terminal_name at.port.name h at.number))
    (λ r q. refl) comma

next_name : (x : List ℕ) → IsName x → Spells Anything false (next_name_text x) (name_tokens x) false
next_name x h = joins (name x h) (λ r q. refl) comma

enables : (n : ℕ) → Spells Ends false (listed_names_text enable_word n) (wires_listed enable_word n) false
enables zero = nothing
enables (suc n) =
    behind (each_spelled IsName next_name (λ x r q. tt) (all_numbered enable_word n) (all_enables n))
    (name (enable_word ++ decimal (suc n)) (enable_name (suc n)))

terminals : (m : DriverModel) → AllByRecursion IsNamedTerminal (ports_of m)
    → Spells Ends false (terminals_text data_word enable_word m)
    (listed.core_tokens data_word enable_word (length m.driver.drives) (ports_of m)) false
terminals m all = behind (each_spelled IsNamedTerminal terminal (λ x r q. tt) (ports_of m) all) (enables (length m.driver.drives))

core : (m : DriverModel) → IsName m.core → AllByRecursion IsNamedTerminal (ports_of m)
    → Spells Anything false (core_text m) (core_tokens m) false
unfolding core_text
core m n all = behind indented (joins (name m.core n) (λ r q. refl)
    (behind instance_name (joins (terminals m all) (λ r q. refl) closed)))

-- The buffers.

abbrev pub buffer_tokens_by : List ℕ → Option ℕ → Front
buffer_tokens_by x None s = s
buffer_tokens_by x (Some number) s =
    codes "bufif1" ∷ codes "(" ∷ x ∷ codes "," ∷ (data_word ++ decimal number) ∷ codes "," ∷ (enable_word ++ decimal number)
    ∷ codes ")" ∷ codes ";" ∷ s

abbrev pub buffer_tokens : NumberedPort → Front
buffer_tokens at s = buffer_tokens_by at.port.name at.number s

buffer_word : Spells Anything false (codes "  bufif1 (") (λ s. codes "bufif1" ∷ codes "(" ∷ s) false
buffer_word = literal (λ r. refl) refl

one_buffer : (x : List ℕ) → IsName x → (number : Option ℕ)
    → Spells Anything false (buffer_by x number) (buffer_tokens_by x number) false
one_buffer x h None = nothing
one_buffer x h (Some number) =
    behind buffer_word (joins (name x h) (λ r q. refl)
    (behind comma (joins (name (data_word ++ decimal number) (data_name number)) (λ r q. refl)
    (behind comma (joins (name (enable_word ++ decimal number) (enable_name number)) (λ r q. refl) closed)))))

buffer : (at : NumberedPort) → IsNamedTerminal at → Spells Anything false (buffer_text at) (buffer_tokens at) false
buffer at h = one_buffer at.port.name h at.number

-- The paths.

-- the names and the numbers of a path
pub record IsNamedPath (m : DriverModel) (path : DrivePath) : Type 0 where
  pub from : IsName (name_at (inputs m.ports) path.from)
  pub to : IsName (driven_name m path.drive)
  pub numbers : HasNumbers path

abbrev pub path_tokens : DriverModel → DrivePath → Front
path_tokens m path s = codes "(" ∷ path_line_tokens (name_at (inputs m.ports) path.from) (driven_name m path.drive) path.rise
    path.fall s

abbrev pub paths_by : Bool → DriverModel → Front
paths_by true m s = codes "specify" ∷ each (path_tokens m) m.driver.paths (codes "endspecify" ∷ s)
paths_by false m s = s

abbrev pub paths_tokens : DriverModel → Front
paths_tokens m s = paths_by (nat_lt 0 (length m.driver.paths)) m s

path : (m : DriverModel) (one : DrivePath) → IsNamedPath m one
    → Spells Anything false (drive_path_text m one) (path_tokens m one) false
unfolding drive_path_text
path m one h =
    behind timing.indented (path_line_spelled (name_at (inputs m.ports) one.from) (driven_name m one.drive) one.rise one.fall
    h.from h.to h.numbers.rise h.numbers.fall)

by_need : (b : Bool) (m : DriverModel) → AllByRecursion (IsNamedPath m) m.driver.paths
    → Spells Anything false (if b then codes "  specify\n"
    ++ (flat_map (drive_path_text m) m.driver.paths ++ codes "  endspecify\n") else []) (paths_by b m) false
by_need true m p = behind block_word (behind (each_spelled (IsNamedPath m) (path m) (λ x r q. tt) m.driver.paths p) block_end)
by_need false m p = nothing

paths : (m : DriverModel) → AllByRecursion (IsNamedPath m) m.driver.paths
    → Spells Anything false (drive_paths_text m) (paths_tokens m) false
unfolding drive_paths_text
paths m p = by_need (nat_lt 0 (length m.driver.paths)) m p

-- The driver between its first and its last line.

-- the names and the numbers in a driver
pub record IsNamedDriver (m : DriverModel) : Type 0 where
  pub name : IsName m.name
  pub ports : AllByRecursion IsNamedPort m.ports
  pub terminals : AllByRecursion IsNamedTerminal (ports_of m)
  pub core : IsName m.core
  pub paths : AllByRecursion (IsNamedPath m) m.driver.paths

abbrev pub inner_text : DriverModel → List ℕ
inner_text m =
    header_behind m
    ++ (driver_declarations_text m ++ (core_text m
    ++ (flat_map buffer_text (ports_of m) ++ (drive_paths_text m ++ codes "endmodule\n"))))

abbrev pub inner_tokens : DriverModel → Front
inner_tokens m s = header_tokens m
    (declaration_tokens m (core_tokens m (each buffer_tokens (ports_of m) (paths_tokens m (codes "endmodule" ∷ s)))))

module_end : Spells Anything false (codes "endmodule\n") (λ s. codes "endmodule" ∷ s) false
module_end = literal (λ r. refl) refl

pub inner_spelled : (m : DriverModel) → IsNamedDriver m → Spells Anything false (inner_text m) (inner_tokens m) false
inner_spelled m h =
    behind (header m h.name h.ports) (behind (declarations m h.ports) (behind (core m h.core h.terminals)
    (behind (each_spelled IsNamedTerminal buffer (λ x r q. tt) (ports_of m) h.terminals) (behind (paths m h.paths) module_end))))

-- a driver, by what stands behind its first line
pub before_is : (m : DriverModel) (end : List ℕ)
    → driver_before (codes "endmodule\n" ++ end) m ≡ codes "`celldefine\n" ++ (inner_text m ++ end)
unfolding driver_header_text
before_is m end =
    ap (λ (t : List ℕ). codes "`celldefine\n" ++ t)
    (sym (last_of (header_behind m) (driver_declarations_text m) (core_text m) (flat_map buffer_text (ports_of m))
    (drive_paths_text m) (codes "endmodule\n") end))
