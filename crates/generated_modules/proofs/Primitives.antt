-- The generated primitives are such as a text can declare.
use Rattle.std.proofs.Common.{◌≡◌, ℕ, zero, suc, ◌+◌, ◌^◌, ◌<◌, ◌≤◌, Bool, true, false, List, [], ◌∷◌, ◌++◌, length, map}
use Rattle.std.proofs.Common.{replicate, refl, sym, ap, subst, arith, codes, if◌then◌else◌}
use Rattle.std.specs.Prelude.{All}
use Rattle.std.specs.Str.{bytes_eq}
use Rattle.std.proofs.lemmas.List.Elements.{All-nil, All-cons, All-head, All-tail, All-append, All-map}
use Rattle.trit_cubes.specs.declared.trits.Trit.{Trit}
use Rattle.trit_cubes.specs.declared.trits.Trit.TheVariants.{Zero, One, Unknown}
use Rattle.trit_cubes.specs.Sets.{gives}
use Rattle.trit_cubes.specs.Prime.{prime_list}
use Rattle.cell_machine.specs.CellData.{CellData}
use Rattle.cell_machine.specs.CellTrace.{support_at}
use Rattle.verilog_tokens.specs.Words.{verilog_words, is_verilog_word}
use Rattle.udp_tables.specs.declared.table.Udp.{Udp}
use Rattle.udp_tables.specs.declared.table.UdpRow.{UdpRow}
use Rattle.udp_tables.specs.Tables.{value_rows, or_row}
use Rattle.udp_tables.specs.PortNames.{output_name, input_name, input_names}
use Rattle.udp_tables.specs.Generated.{level_row, function_rows, primitive_of}
use Rattle.udp_tables.specs.CellPrimitives.{has_notifier, group_inputs, group_primitive}
use Rattle.verilog_grammar.proofs.specify_blocks.cell_tables.TableLemmas.{length-input_names, primitive-combinational}
use Rattle.verilog_grammar.proofs.specify_blocks.cell_tables.CellLaws.{groups_are_sequential-lem}
use Rattle.verilog_grammar.specs.specify_blocks.Names.{numbered}
use Rattle.verilog_grammar.specs.specify_blocks.Sound.{IsTable}
use Rattle.verilog_grammar.specs.WellFormed.{IsName, most_inputs_of, HasNoState, HasNoStates, IsWellFormedUdp}
use Rattle.verilog_grammar.proofs.ReadNames.{AreNames}
use Rattle.generated_modules.proofs.NameLists.{cons_name}
use Rattle.generated_modules.proofs.NumberedNames.{input_stem, numbered_names, numbered_form}

-- ports

inputs-numbered : (n : ℕ) → input_names n ≡ numbered (codes "i") n
inputs-numbered zero = refl
inputs-numbered (suc n) = ap (λ l. l ++ input_name (suc n) ∷ []) (inputs-numbered n)

output_is_name : IsName output_name
unfolding is_verilog_word verilog_words
output_is_name = record { identifier = refl; no_word = refl }

ports_named : (n : ℕ) → n < 2 ^ 64 → AreNames (output_name ∷ input_names n)
ports_named n h =
    subst (λ l. AreNames (output_name ∷ l)) (sym (inputs-numbered n))
    (cons_name output_name (numbered (codes "i") n) output_is_name (numbered_names (codes "i") input_stem n h)
    (λ y m. let form = numbered_form (codes "i") n y m in subst (λ z. bytes_eq output_name z ≡ false) (sym form.3) refl))

-- rows

some_row : (alone : UdpRow) (rows : List UdpRow) → 1 ≤ length (or_row alone rows)
some_row alone [] = omega arith
some_row alone (row ∷ rows) = omega arith

row_stateless : (v : Trit) (cube : List Trit) → HasNoState (level_row v cube)
row_stateless Zero cube = record { state = refl; next = λ e. cc }
row_stateless One cube = record { state = refl; next = λ e. cc }
row_stateless Unknown cube = record { state = refl; next = λ e. cc }

rows_stateless : (v : Trit) (cubes : List (List Trit)) → All HasNoState (map (level_row v) cubes)
rows_stateless v cubes = All-map HasNoState (level_row v) cubes (λ k d within. row_stateless v _)

or_stateless : (alone : UdpRow) (rows : List UdpRow) → HasNoState alone → All HasNoState rows → All HasNoState (or_row alone rows)
or_stateless alone [] h k = All-cons HasNoState alone [] h (All-nil HasNoState)
or_stateless alone (row ∷ rows) h k = k

function_stateless : (n : ℕ) (f : List Bool → Trit) → All HasNoState (function_rows n f)
function_stateless n f =
    let ones : List (List Trit) = prime_list n (gives One f) in
    let zeros : List (List Trit) = prime_list n (gives Zero f) in
    or_stateless (level_row Unknown (replicate n Unknown)) (value_rows level_row ones zeros)
    (row_stateless Unknown (replicate n Unknown))
    (All-append HasNoState (map (level_row One) ones) (map (level_row Zero) zeros) (rows_stateless One ones)
    (rows_stateless Zero zeros))

-- a primitive with the numbered ports of its rows
abbrev numbered_udp : List ℕ → Bool → ℕ → List UdpRow → Udp
numbered_udp name sequential n rows =
    record { name = name; output = output_name; inputs = input_names n; sequential = sequential; rows = rows }

numbered_well_formed :
    (name : List ℕ) (sequential : Bool) (n : ℕ) (rows : List UdpRow) → IsName name → 1 ≤ n → n ≤ 10
    → n ≤ most_inputs_of sequential → 1 ≤ length rows
    → IsTable sequential (numbered_udp name sequential n rows) → HasNoStates sequential (numbered_udp name sequential n rows)
    → IsWellFormedUdp (numbered_udp name sequential n rows)
numbered_well_formed name sequential n rows named some few most row table stateless =
    let ports = ports_named n (omega (arith, few)) in
    let long = length-input_names n in
    record {
      name = named;
      output = All-head IsName output_name (input_names n) ports.all;
      inputs = All-tail IsName output_name (input_names n) ports.all;
      apart = ports.apart;
      some = omega (arith, long, some);
      most = subst (λ (k : ℕ). k ≤ most_inputs_of sequential) (sym long) most;
      rows = row;
      table = table;
      stateless = stateless;
    }

-- the primitive of a function of 1 to 10 places
pub function_well_formed :
    (name : List ℕ) (n : ℕ) (f : List Bool → Trit) → IsName name → 1 ≤ n → n ≤ 10 → IsWellFormedUdp (primitive_of name n f)
function_well_formed name n f named some few =
    numbered_well_formed name false n (function_rows n f) named some few few
    (some_row (level_row Unknown (replicate n Unknown)) _)
    (primitive-combinational name n f) (function_stateless n f)

-- one input more for the notifier, where there is one
at_least : (b : Bool) (n : ℕ) → 1 ≤ n → 1 ≤ (if b then n + 1 else n)
at_least true n h = omega arith
at_least false n h = h

at_most : (b : Bool) (n : ℕ) → n ≤ 8 → (if b then n + 1 else n) ≤ 9
at_most true n h = omega arith
at_most false n h = omega arith

-- the primitive of a group with a support of 1 to 8 pins
pub group_well_formed :
    (cell : CellData) (i : ℕ) → IsName (group_primitive cell i).name → 1 ≤ length (support_at cell i)
    → length (support_at cell i) ≤ 8
    → IsWellFormedUdp (group_primitive cell i)
group_well_formed cell i named some few =
    let least : 1 ≤ group_inputs cell i = at_least (has_notifier cell) (length (support_at cell i)) some in
    let most : group_inputs cell i ≤ 9 = at_most (has_notifier cell) (length (support_at cell i)) few in
    numbered_well_formed (group_primitive cell i).name true (group_inputs cell i) (group_primitive cell i).rows named least
    (omega (arith, most)) most (some_row _ _)
    (groups_are_sequential-lem cell i) tt
