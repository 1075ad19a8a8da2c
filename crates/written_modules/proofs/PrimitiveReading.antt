-- A written primitive is read from its tokens.
use Rattle.std.proofs.Common.{◌≡◌, ℕ, ◌≤◌, Bool, true, false, ◌==◌, nat_le, IsTrue, List, [], ◌∷◌, ◌++◌, length, Some, None}
use Rattle.std.proofs.Common.{slice_get, refl, sym, ap, ◌∙◌, arith, subst, codes}
use Rattle.std.specs.List.{AllByRecursion, list_all}
use Rattle.std.proofs.lemmas.Bool.Decides.{nat_tests}
use Rattle.std.proofs.lemmas.List.Elements.{recursion_from_All}
use Rattle.std.proofs.lemmas.Bool.{eq-eqb as same_number}
use Rattle.udp_tables.specs.declared.table.UdpRow.{UdpRow}
use Rattle.udp_tables.specs.declared.table.Udp.{Udp}
use Rattle.udp_tables.specs.Primitive.{is_level}
use Rattle.udp_tables.specs.Sequential.{changes_in}
use Rattle.udp_tables.specs.VerilogRules.{begins, is_among}
use Rattle.grammar_reader.specs.declared.refusal.Refusal.TheVariants.{Width}
use Rattle.udp_tables.specs.VerilogPrimitives.{Header, most_inputs, most_inputs_with_state, next_input, more_inputs, header}
use Rattle.udp_tables.specs.VerilogPrimitives.{declared_output, declared_state, register, declared_input, declared_inputs}
use Rattle.udp_tables.specs.VerilogPrimitives.{begins_row, next_row, table, primitive}
use Rattle.verilog_grammar.specs.specify_blocks.Sound.{IsTable}
use Rattle.verilog_grammar.specs.WellFormed.{IsName, AreApart, HasNoState, HasNoStates, IsWellFormedUdp, most_inputs_of}
use Rattle.grammar_reader.proofs.Fronts.{Front, each}
use Rattle.written_modules.proofs.PrimitiveTokens.{next_name, declared, output_tokens, row_tokens}
use Rattle.grammar_reader.proofs.Derivations.{Reads, from_same, gives, token, in_turn, chosen, passed, Turn, turn, through}
use Rattle.grammar_reader.proofs.Derivations.{goes_on}
use Rattle.written_modules.proofs.NameReading.{expected, expected_where, any_named, newly_named, so_named, is_new}
use Rattle.grammar_reader.proofs.ItemPlaces.{at_place, get_at, one_longer}
use Rattle.written_modules.proofs.RowReading.{IsRow, row_begun}

-- Headers.

one_input : (output : List ℕ) (before : List (List ℕ)) (x : List ℕ) (after : List (List ℕ)) (s : List (List ℕ))
    → AreApart (output ∷ before ++ x ∷ after) → IsName x
    → Reads (next_input output before) (x ∷ s) (before ++ x ∷ []) s
unfolding next_input
one_input output before x after s apart n =
    in_turn (newly_named (output ∷ before) n (is_new (output ∷ before) x after apart)) gives

-- what the names of a header are
record AreInputs (output : List ℕ) (inputs : List (List ℕ)) : Type 0 where
  first : IsName output
  names : AllByRecursion IsName inputs
  apart : AreApart (output ∷ inputs)
  most : length inputs ≤ 10

input_turn : (output : List ℕ) (inputs : List (List ℕ)) → AreInputs output inputs
    → (before : List (List ℕ)) (x : List ℕ) (after s : List (List ℕ)) → before ++ x ∷ after ≡ inputs
    → Turn (λ _. begins (codes ",")) (λ found _. next_input output found) before (next_name x s) (before ++ x ∷ []) s
input_turn output inputs h before x after s same =
    turn refl (one_input output before x after s (subst (λ (l : List (List ℕ)). AreApart (output ∷ l)) (sym same) h.apart)
    (at_place IsName before x after (subst (AllByRecursion IsName) (sym same) h.names)))

few : (n : ℕ) → n ≤ 10 → nat_le n most_inputs ≡ true
few n h = grind (arith, nat_tests)

header_read : (output x : List ℕ) (xs : List (List ℕ)) (s : List (List ℕ)) → AreInputs output (x ∷ xs)
    → Reads header (codes "(" ∷ output ∷ each next_name (x ∷ xs) (codes ")" ∷ codes ";" ∷ s))
    (record { output = output; inputs = x ∷ xs }) s
unfolding header more_inputs
header_read output x xs s h =
    in_turn expected (in_turn (any_named h.first) (in_turn expected
    (in_turn (one_input output [] x xs (each next_name xs (codes ")" ∷ codes ";" ∷ s)) h.apart h.names.0)
    (in_turn (through (λ (l : List (List ℕ)). l) next_name (x ∷ []) xs (input_turn output (x ∷ xs) h) (codes ")" ∷ codes ";" ∷ s)
    refl)
    (in_turn (expected_where (nat_le (length (x ∷ xs)) most_inputs) Width (few (length (x ∷ xs)) h.most))
    (in_turn expected gives))))))

-- Declarations.

output_read : (output : List ℕ) (s : List (List ℕ)) → IsName output
    → Reads (declared_output output) (codes "output" ∷ output ∷ codes ";" ∷ s) tt s
unfolding declared_output
output_read output s n = in_turn expected (in_turn (so_named (Some output) n refl) expected)

state_fits : (n : ℕ) → n ≤ 9 → nat_le n most_inputs_with_state ≡ true
state_fits n h = grind (arith, nat_tests)

-- the register of a primitive with a state, or none before the declaration of an input
register_tokens : Bool → List ℕ → Front
register_tokens true output s = codes "reg" ∷ output ∷ codes ";" ∷ s
register_tokens false output s = s

register_read : (sequential : Bool) (h : Header) (x : List ℕ) (s : List (List ℕ)) → IsName h.output
    → length h.inputs ≤ most_inputs_of sequential
    → Reads (register h) (register_tokens sequential h.output (codes "input" ∷ x ∷ s)) sequential (codes "input" ∷ x ∷ s)
unfolding register register_tokens declared_state
register_read true h x s n most =
    chosen (rw (state_fits (length h.inputs) most) refl) (in_turn (so_named (Some h.output) n refl) (in_turn expected gives))
register_read false h x s n most = passed refl gives

with_output : (sequential : Bool) (output : List ℕ) (s : List (List ℕ))
    → output_tokens sequential output s ≡ codes "output" ∷ output ∷ codes ";" ∷ register_tokens sequential output s
unfolding register_tokens
with_output true output s = refl
with_output false output s = refl

declaration_turn : (inputs : List (List ℕ)) → AllByRecursion IsName inputs
    → (before : List (List ℕ)) (x : List ℕ) (after s : List (List ℕ)) → before ++ x ∷ after ≡ inputs
    → Turn (λ _. begins (codes "input")) (λ n _. declared_input inputs n) (length before) (declared (codes "input") x s)
    (length (before ++ x ∷ [])) s
unfolding declared_input
declaration_turn inputs names before x after s same =
    let here : slice_get inputs (length before) ≡ Some x = ap (λ (l : List (List ℕ)). slice_get l (length before)) (sym same)
    ∙ get_at before x after in
    let n : IsName x = at_place IsName before x after (subst (AllByRecursion IsName) (sym same) names) in
    subst (λ (k : ℕ). Turn (λ _. begins (codes "input")) (λ n _. declared_input inputs n) (length before)
    (declared (codes "input") x s) k s) (one_longer before x)
    (turn refl (in_turn (so_named (slice_get inputs (length before)) n here) (in_turn expected gives)))

declarations_read : (inputs s : List (List ℕ)) → AllByRecursion IsName inputs
    → Reads (declared_inputs inputs) (each (declared (codes "input")) inputs (codes "table" ∷ s)) tt (codes "table" ∷ s)
unfolding declared_inputs
declarations_read inputs s names =
    in_turn (through (λ (l : List (List ℕ)). length l) (declared (codes "input")) [] inputs (declaration_turn inputs names)
    (codes "table" ∷ s) refl)
    (goes_on (length inputs == length inputs) (codes "table" ∷ s) (same_number (length inputs) (length inputs) refl))

-- Tables.

row_turn : (sequential : Bool) (n : ℕ) (rows : List UdpRow) → 1 ≤ n → AllByRecursion (IsRow sequential n) rows
    → (before : List UdpRow) (one : UdpRow) (after : List UdpRow) (s : List (List ℕ))
    → before ++ one ∷ after ≡ rows → Turn (λ _. begins_row sequential) (next_row sequential n) before
    (row_tokens sequential one s) (before ++ one ∷ []) s
unfolding next_row
row_turn sequential n rows some all before one after s same =
    let b = row_begun sequential n one s some
    (at_place (IsRow sequential n) before one after (subst (AllByRecursion (IsRow sequential n)) (sym same) all)) in
    record {
      start = b.start;
      more = b.more;
      value = b.start;
      split = b.split;
      fits = rw b.begins refl;
      reads =
          in_turn b.reads gives;
    }

no_row : (sequential : Bool) → begins_row sequential (codes "endtable") ≡ None
no_row true = refl
no_row false = refl

table_read : (sequential : Bool) (n : ℕ) (one : UdpRow) (rows : List UdpRow) (s : List (List ℕ)) → 1 ≤ n
    → AllByRecursion (IsRow sequential n) (one ∷ rows)
    → Reads (table sequential n) (codes "table" ∷ each (row_tokens sequential) (one ∷ rows) (codes "endtable" ∷ s)) (one ∷ rows) s
unfolding table next_row
table_read sequential n one rows s some all =
    let b = row_begun sequential n one (each (row_tokens sequential) rows (codes "endtable" ∷ s)) some all.0 in
    subst (λ (m : List (List ℕ)). Reads (table sequential n) (codes "table" ∷ m) (one ∷ rows) s) (sym b.split)
    (in_turn expected (in_turn (token (rw b.begins refl)) (in_turn (in_turn b.reads gives)
    (in_turn (through (λ (l : List UdpRow). l) (row_tokens sequential) (one ∷ []) rows
    (row_turn sequential n (one ∷ rows) some all) (codes "endtable" ∷ s) (no_row sequential))
    (in_turn expected gives)))))

-- The rows of a primitive that is well formed.

pub both : {A : Type 0} {P Q R : A → Type 0} → ((x : A) → P x → Q x → R x) → (xs : List A) → AllByRecursion P xs
    → AllByRecursion Q xs → AllByRecursion R xs
both f [] p q = tt
both f (x ∷ xs) p q = (f x p.0 q.0, both f xs p.1 q.1)

rows_are : (sequential : Bool) (udp : Udp) → IsTable sequential udp → HasNoStates sequential udp
    → AllByRecursion (IsRow sequential (length udp.inputs)) udp.rows
rows_are true udp h k =
    both (λ (row : UdpRow) e c. record { entries = e; changes = c; stateless = λ f. absurd cc }) udp.rows
    (recursion_from_All (λ (row : UdpRow). length row.inputs ≡ length udp.inputs) udp.rows h.entries)
    (recursion_from_All (λ (row : UdpRow). changes_in row ≤ 1) udp.rows h.changes)
rows_are false udp h k =
    both {Q = λ (row : UdpRow). IsTrue (list_all is_level row.inputs) × HasNoState row}
    (λ (row : UdpRow) e c. record { entries = e; changes = c.0; stateless = λ f. (c.1.state, c.1.next) }) udp.rows
    (recursion_from_All (λ (row : UdpRow). length row.inputs ≡ length udp.inputs) udp.rows h.entries)
    (both (λ (row : UdpRow) l n. (l, n)) udp.rows
    (recursion_from_All (λ (row : UdpRow). IsTrue (list_all is_level row.inputs)) udp.rows h.levels)
    (recursion_from_All HasNoState udp.rows k))

-- The primitive.

abbrev pub udp_more : Bool → List ℕ → List (List ℕ) → List UdpRow → Front
udp_more sequential output inputs rows s =
    codes "(" ∷ output ∷ each next_name inputs (codes ")" ∷ codes ";" ∷ output_tokens sequential output
    (each (declared (codes "input")) inputs
    (codes "table" ∷ each (row_tokens sequential) rows (codes "endtable" ∷ codes "endprimitive" ∷ s))))

below_ten : (sequential : Bool) (n : ℕ) → n ≤ most_inputs_of sequential → n ≤ 10
below_ten true n h = omega (arith, h)
below_ten false n h = h

parts_read : (names : List (List ℕ)) (sequential : Bool) (name output : List ℕ) (inputs : List (List ℕ)) (rows : List UdpRow)
    (s : List (List ℕ))
    → IsName name → is_among names name ≡ false → AreInputs output inputs → 1 ≤ length inputs
    → length inputs ≤ most_inputs_of sequential → 1 ≤ length rows
    → AllByRecursion (IsRow sequential (length inputs)) rows
    → Reads (primitive names) (name ∷ udp_more sequential output inputs rows s)
    (record { name = name; output = output; inputs = inputs; sequential = sequential; rows = rows }) s
unfolding primitive
parts_read names sequential name output [] rows s n new h some most row all = absurd (omega (arith, some))
parts_read names sequential name output (x ∷ xs) [] s n new h some most row all = absurd (omega (arith, row))
parts_read names sequential name output (x ∷ xs) (one ∷ rows) s n new h some most row all =
    let table : List (List ℕ) = codes "table" ∷ each (row_tokens sequential) (one ∷ rows)
    (codes "endtable" ∷ codes "endprimitive" ∷ s) in
    let inputs : List (List ℕ) = each (declared (codes "input")) (x ∷ xs) table in
    in_turn (newly_named names n new) (in_turn (header_read output x xs (output_tokens sequential output inputs) h)
    (from_same (with_output sequential output inputs)
    (in_turn (output_read output (register_tokens sequential output inputs) h.first)
    (in_turn (register_read sequential (record { output = output; inputs = x ∷ xs }) x
    (codes ";" ∷ each (declared (codes "input")) xs table) h.first most)
    (in_turn (declarations_read (x ∷ xs) (each (row_tokens sequential) (one ∷ rows) (codes "endtable" ∷ codes "endprimitive" ∷ s))
    h.names)
    (in_turn (table_read sequential (length (x ∷ xs)) one rows (codes "endprimitive" ∷ s) some all)
    (in_turn expected gives)))))))

-- a primitive is read from its tokens behind the first
pub primitive_read : (names : List (List ℕ)) (udp : Udp) (s : List (List ℕ)) → IsWellFormedUdp udp
    → is_among names udp.name ≡ false
    → Reads (primitive names) (udp.name ∷ udp_more udp.sequential udp.output udp.inputs udp.rows s) udp s
primitive_read names udp s w new =
    parts_read names udp.sequential udp.name udp.output udp.inputs udp.rows s w.name new
    (record {
      first = w.output;
      names = recursion_from_All IsName udp.inputs w.inputs;
      apart = w.apart;
      most =
          below_ten udp.sequential (length udp.inputs) w.most;
    })
    w.some w.most w.rows (rows_are udp.sequential udp w.table w.stateless)
