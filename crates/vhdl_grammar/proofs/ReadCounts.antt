-- What is read has no more parts than the text has tokens.
use Rattle.std.proofs.Common.{◌≡◌, ℕ, zero, suc, ◌+◌, ◌≤◌, ◌<◌, Bool, false, List, [], ◌∷◌, length, take, get_or, inl, inr}
use Rattle.std.proofs.Common.{Option, ap, arith, length-append}
use Rattle.std.specs.Prelude.{sum_by}
use Rattle.std.proofs.lemmas.List.{length-map}
use Rattle.std.proofs.lemmas.List.Sums.{sum_by-append, sum_by-cons}
use Rattle.grammar_rules.specs.Rule.{Rule, Verdict, Times, Takes}
use Rattle.grammar_rules.specs.Rule as r
use Rattle.cell_machine.specs.declared.checks.Edge.TheVariants as edge
use Rattle.udp_tables.specs.declared.models.VPort.{VPort}
use Rattle.vital_tables.specs.declared.table.TruthTable.{TruthTable}
use Rattle.vital_tables.specs.declared.table.VStateTable.{VStateTable}
use Rattle.vital_tables.specs.declared.model.VEntity.{VEntity}
use Rattle.grammar_reader.specs.Texts.{text_tokens}
use Rattle.grammar_reader.specs.Words.{Grammar}
use Rattle.vhdl_tokens.specs.Tokens.{Token, is_name, after, at_front, scan, scan_of, separator_length, token_length, lexis}
use Rattle.vhdl_grammar.specs.declared.scope.Columns.{Columns}
use Rattle.vhdl_grammar.specs.declared.scope.Scope.{Scope}
use Rattle.vhdl_grammar.specs.declared.scope.Tables.{Tables}
use Rattle.vhdl_grammar.specs.VhdlDeclarations.{next_port, port_list, ports_of, entity_header, scope_of}
use Rattle.vhdl_grammar.specs.VhdlTables.{condition_constant, output_constant, state_constant, ConstantOf, StateOrOutput}
use Rattle.vhdl_grammar.specs.VhdlTables.{Condition, constant_by, constant, constants}
use Rattle.vhdl_grammar.specs.VhdlNames.{Uses}
use Rattle.vhdl_grammar.specs.VhdlChecks.{Checks, Procedure, SetupHold, RecoveryRemoval, PeriodPulse, check_with, pulse_check}
use Rattle.vhdl_grammar.specs.VhdlChecks.{setup_hold, recovery_removal, period_pulse, check, checks}
use Rattle.vhdl_grammar.specs.VhdlText.{states_with, conditions_with, statements, entity, entity_names, next_entity, file}
use Rattle.vhdl_grammar.specs.WellFormed.{part_count}

-- A rule, begun with so many parts, makes no more of them than tokens that it takes. The second number counts those of a value.
record Counts {T K A : Type 0} (p : Rule T K A) (n : ℕ) (count : A → ℕ) : Type 0 where
  counted : (s : List T) (a : A) (left : List T) → Takes p s a left → count a + length left ≤ n + length s

gives : {T K A : Type 0} {a : A} {n : ℕ} {count : A → ℕ} → count a ≤ n → Counts {T = T} {K = K} (r.Gives a) n count
gives {a = a} {n = n} {count = count} h = record {
  counted = λ s b left t.
      let same : count a ≡ count b = ap count t.0 in
      let rest : length s ≡ length left = ap length t.1 in
      omega (arith, h, same, rest);
}

last : {T K A : Type 0} {f : T → K} {a : A} {n : ℕ} {count : A → ℕ} → count a ≤ n → Counts (r.Last f a) n count
last {a = a} {n = n} {count = count} h = record {
  counted = λ s b left t.
      let same : count a ≡ count b = ap count t.0 in
      let none : length left ≡ 0 = ap length t.2 in
      omega (arith, h, same, none);
}

token : {T K A : Type 0} {f : T → Verdict A K} {k : K} {n : ℕ} {count : A → ℕ} → ((a : A) → count a ≤ n + 1)
    → Counts (r.Token f k) n count
token {n = n} {count = count} h = record {
  counted = λ s b left t.
      let one : length s ≡ suc (length left) = ap length t.1 in
      let few = h b in
      omega (arith, one, few);
}

in_turn : {T K A B : Type 0} {p : Rule T K A} {g : A → Rule T K B} {n : ℕ} {count : A → ℕ} {more : B → ℕ}
    → Counts p n count → ((a : A) → Counts (g a) (count a) more) → Counts (r.Then p g) n more
in_turn {n = n} {count = count} {more = more} first next = record {
  counted = λ s b left t.
      let here = first.counted s t.0 t.1 t.2 in
      let there = (next t.0).counted t.1 b left t.3 in
      omega (arith, here, there);
}

times : {T K A S : Type 0} (count : S → ℕ) (f : S → T → Option (Verdict A K)) (g : S → A → Rule T K S)
    → ((w : S) (a : A) → Counts (g w a) (count w + 1) count)
    → (n : ℕ) (u : S) (s : List T) (v : S) (left : List T) → Times f (λ w a m. Takes (g w a) m) n u s v left
    → count v + length left ≤ count u + length s
times count f g h zero u s v left t =
    let same : count u ≡ count v = ap count t.0 in
    let rest : length s ≡ length left = ap length t.1 in
    omega (arith, same, rest)
times count f g h (suc n) u s v left (x, a, m, w, more, e, begins, turn, rest) =
    let one : length s ≡ suc (length m) = ap length e in
    let here = (h u a).counted m w more turn in
    let there = times count f g h n w more v left rest in
    omega (arith, one, here, there)

many : {T K A S : Type 0} {f : S → T → Option (Verdict A K)} {g : S → A → Rule T K S} {u : S} {count : S → ℕ}
    → ((w : S) (a : A) → Counts (g w a) (count w + 1) count) → Counts (r.Many f g u) (count u) count
many {f = f} {g = g} {u = u} {count = count} h = record { counted = λ s v left t. times count f g h t.0 u s v left t.1 }

chosen : {T K A B : Type 0} (f : T → Option (Verdict A K)) (g : A → Rule T K B) (p : Rule T K B) (n : ℕ) (count : B → ℕ)
    → ((a : A) → Counts (g a) (n + 1) count) → Counts p n count
    → (s : List T) (b : B) (left : List T) → Takes (r.Choice f g p) s b left → count b + length left ≤ n + length s
chosen f g p n count one other s b left (inl (x, a, m, e, begins, t)) =
    let taken : length s ≡ suc (length m) = ap length e in
    let here = (one a).counted m b left t in
    omega (arith, taken, here)
chosen f g p n count one other s b left (inr t) = other.counted s b left t.1

choice : {T K A B : Type 0} {f : T → Option (Verdict A K)} {g : A → Rule T K B} {p : Rule T K B} {n : ℕ} {count : B → ℕ}
    → ((a : A) → Counts (g a) (n + 1) count) → Counts p n count → Counts (r.Choice f g p) n count
choice {f = f} {g = g} {p = p} {n = n} {count = count} one other = record { counted = chosen f g p n count one other }

-- fewer parts, begun with more
fewer : {T K A : Type 0} {p : Rule T K A} {n m : ℕ} {count less : A → ℕ} → Counts p n count → n ≤ m → ((a : A) → less a ≤ count a)
    → Counts p m less
fewer h few each = record {
  counted = λ s a left t. let here = h.counted s a left t in let below = each a
      in omega (arith, here, few, below);
}

-- whatever a rule takes, it makes no parts of which it says nothing
none : {T K A : Type 0} (p : Rule T K A) (n : ℕ) → Counts p n (λ _. n)
none (r.Gives a) n = gives (omega arith)
none (r.Token f k) n = token (λ a. omega arith)
none (r.Peek f k) n = record { counted = λ s b left t. let rest : length s ≡ length left = ap length t.4 in omega (arith, rest) }
none (r.Then p g) n = in_turn (none p n) (λ a. none (g a) n)
none (r.Many f g u) n = many (λ w a. fewer (none (g w a) n) (omega arith) (λ b. omega arith))
none (r.Choice f g p) n = choice (λ a. fewer (none (g a) n) (omega arith) (λ b. omega arith)) (none p n)
none (r.Last f a) n = last (omega arith)
none (r.Marked h p) n = record { counted = (none p n).counted }

-- with other parts before
begun : {A : Type 0} {p : Grammar A} {count : A → ℕ} (n : ℕ) → Counts p 0 count → Counts p n (λ a. n + count a)
begun n h = record { counted = λ s a left t. let here = h.counted s a left t in omega (arith, here) }

-- The parts of declarations.

one_counted : (entity : List ℕ) (ports : List VPort)
    → Counts (next_port entity ports) (length ports + 1) (λ (ports : List VPort). length ports)
unfolding next_port
one_counted entity ports =
    in_turn (none _ (length ports + 1))
    (λ name. in_turn (none _ (length ports + 1))
    (λ a. in_turn (none _ (length ports + 1)) (λ input. in_turn (none _ (length ports + 1)) (λ b.
    gives (omega (arith, length-append ports (record { name = name; input = input } ∷ [])))))))

ports_counted : (entity : List ℕ) → Counts (ports_of entity) 0 (λ (ports : List VPort). length ports)
unfolding ports_of port_list
ports_counted entity =
    choice
    (λ a. in_turn (none _ 1) (λ b. in_turn (one_counted entity [])
    (λ first. in_turn (many (λ w a. one_counted entity w))
    (λ ports. in_turn (none _ (length ports)) (λ c. gives (omega arith))))))
    (gives (omega arith))

header_counted : (entity : List ℕ) → Counts (entity_header entity) 0 (λ (ports : List VPort). length ports)
unfolding entity_header
header_counted entity =
    in_turn (none _ 0) (λ a. in_turn (ports_counted entity)
    (λ ports. in_turn (none _ (length ports))
    (λ b. in_turn (none _ (length ports)) (λ c. in_turn (none _ (length ports)) (λ d. gives (omega arith))))))

abbrev table_count : Tables → ℕ
table_count tables = length tables.states + length tables.conditions

kind_counted : (tables : Tables) (of : ConstantOf) → Counts (constant_by tables of) (table_count tables + 1) table_count
unfolding state_constant output_constant condition_constant
kind_counted tables StateOrOutput =
    choice
    (λ a. in_turn (none _ (table_count tables + 1 + 1))
    (λ b. in_turn (none _ (table_count tables + 1 + 1))
    (λ table. in_turn (none _ (table_count tables + 1 + 1))
    (λ c. gives (omega (arith, length-append tables.states (table ∷ [])))))))
    (in_turn (none _ (table_count tables + 1)) (λ b. in_turn (none _ (table_count tables + 1)) (λ table. gives (omega arith))))
kind_counted tables Condition =
    in_turn (none _ (table_count tables + 1))
    (λ b. in_turn (none _ (table_count tables + 1))
    (λ table. gives (omega (arith, length-append tables.conditions (table ∷ [])))))

constants_counted : Counts constants 0 table_count
unfolding constants constant
constants_counted = many (λ w a. in_turn (none _ (table_count w + 1))
    (λ of. in_turn (none _ (table_count w + 1)) (λ b. kind_counted w of)))

abbrev scope_count : Scope → ℕ
scope_count scope = length scope.ports + table_count scope.tables

scope_counted : (entity : List ℕ) → Counts (scope_of entity) 0 scope_count
unfolding scope_of
scope_counted entity =
    in_turn (header_counted entity) (λ ports.
    in_turn (none _ (length ports)) (λ a.
    in_turn (begun (length ports) constants_counted) (λ tables.
    in_turn (none _ (length ports + table_count tables)) (λ b.
    in_turn (none _ (length ports + table_count tables)) (λ c.
    in_turn (none _ (length ports + table_count tables)) (λ v.
    in_turn (none _ (length ports + table_count tables)) (λ d.
    gives (omega arith))))))))

-- The parts of entities.

check_counted : (scope : Scope) (before : Checks) (of : Procedure)
    → Counts (check scope before of) (length before.checks + 1) (λ (all : Checks). length all.checks)
unfolding setup_hold recovery_removal period_pulse
check_counted scope before SetupHold =
    let n : ℕ = length before.checks + 1 in
    in_turn (none _ n) (λ test. in_turn (none _ n)
    (λ reference. in_turn (none _ n)
    (λ kind. in_turn (none _ n) (λ limit. in_turn (none _ n) (λ when. in_turn (none _ n) (λ e.
    gives (omega (
      arith,
      length-append before.checks
          (check_with kind (record { pin = test; edge = edge.Any }) (record { pin = reference; edge = e }) limit when.0
          ∷ []),
    ))))))))
check_counted scope before RecoveryRemoval =
    let n : ℕ = length before.checks + 1 in
    in_turn (none _ n) (λ test. in_turn (none _ n)
    (λ reference. in_turn (none _ n)
    (λ kind. in_turn (none _ n) (λ limit. in_turn (none _ n) (λ control. in_turn (none _ n) (λ when. in_turn (none _ n) (λ e.
    gives (omega (
      arith,
      length-append before.checks
          (check_with kind (record { pin = test; edge = control }) (record { pin = reference; edge = e }) limit when.0
          ∷ []),
    )))))))))
check_counted scope before PeriodPulse =
    let n : ℕ = length before.checks + 1 in
    in_turn (none _ n) (λ test. in_turn (none _ n)
    (λ pulse. in_turn (none _ n) (λ limit. in_turn (none _ n) (λ when. in_turn (none _ n) (λ a.
    gives (omega (arith, length-append before.checks (pulse_check pulse test limit when.0 ∷ []))))))))

checks_counted : (scope : Scope) → Counts (checks scope) 0 (λ (all : Checks). length all.checks)
unfolding checks
checks_counted scope = in_turn (many {count = λ (all : Checks). length all.checks} (check_counted scope))
    (λ all. in_turn (none _ (length all.checks)) (λ a. gives (omega arith)))

states_few : (tables : List VStateTable) (columns : List Columns) → length (states_with tables columns) ≤ length tables
states_few [] columns = omega arith
states_few (table ∷ tables) [] = omega arith
states_few (table ∷ tables) (c ∷ columns) = let rest = states_few tables columns in omega (arith, rest)

conditions_few : (tables : List TruthTable) (uses : Uses) → length (conditions_with tables uses) ≤ length tables
conditions_few [] uses = omega arith
conditions_few (table ∷ tables) [] = omega arith
conditions_few (table ∷ tables) (inputs ∷ uses) = let rest = conditions_few tables uses in omega (arith, rest)

statements_counted : (scope : Scope) → Counts (statements scope) (scope_count scope) part_count
unfolding statements
statements_counted scope =
    in_turn (begun (scope_count scope) (checks_counted scope)) (λ all.
    in_turn (none _ (scope_count scope + length all.checks)) (λ a.
    in_turn (none _ (scope_count scope + length all.checks)) (λ columns.
    in_turn (none _ (scope_count scope + length all.checks)) (λ values.
    in_turn (none _ (scope_count scope + length all.checks)) (λ lines.
    in_turn (none _ (scope_count scope + length all.checks)) (λ b.
    gives (omega (arith, states_few scope.tables.states columns, conditions_few scope.tables.conditions lines.1))))))))

entity_counted : (names : List (List ℕ)) → Counts (entity names) 0 part_count
unfolding entity
entity_counted names =
    in_turn (none _ 0) (λ a. in_turn (none _ 0)
    (λ b. in_turn (none _ 0) (λ name. in_turn (scope_counted name) (λ scope. statements_counted scope))))

abbrev all_parts : List VEntity → ℕ
all_parts es = sum_by part_count es

next_counted : (es : List VEntity) → Counts (next_entity es) (all_parts es + 1) all_parts
unfolding next_entity
next_counted es =
    in_turn (begun (all_parts es + 1) (entity_counted (entity_names es))) (λ e.
    gives (omega (arith, sum_by-append part_count es (e ∷ []), one_more e)))
  where
    one_more : (e : VEntity) → all_parts (e ∷ []) ≡ part_count e + 0
    one_more e = sum_by-cons part_count e []

file_counted : Counts file 0 all_parts
unfolding file
file_counted = in_turn (many {count = all_parts} (λ es a. next_counted es)) (λ es. last (omega arith))

-- A text has no more tokens than bytes.

after_short : (t : Token) (found : List Token × Option ℕ) (n : ℕ) → length found.0 ≤ n → length (after t found).0 ≤ suc n
after_short t (ts, fault) n h = omega (arith, h)

front_short : (t : Bool) (at : ℕ) (bytes : List ℕ) (f : Bool → ℕ → List Token × Option ℕ) (n m k : ℕ)
    → ((o : Bool) (j : ℕ) → length (f o j).0 ≤ k) → length (at_front t at bytes f n m).0 ≤ suc k
front_short t at bytes f zero zero k h = omega arith
front_short t at bytes f zero (suc m) k h =
    after_short (record { at = at; bytes = take (suc m) bytes }) (f (is_name (take (suc m) bytes)) m) k
    (h (is_name (take (suc m) bytes)) m)
front_short t at bytes f (suc n) m k h = let rest = h t n in omega (arith, rest)

scan_short : (t : Bool) (at n : ℕ) (bytes : List ℕ) → length (scan t at n bytes).0 ≤ length bytes
scan_short t at n [] = omega arith
scan_short t at (suc n) (b ∷ bs) = let rest = scan_short t (at + 1) n bs in omega (arith, rest)
scan_short t at zero (b ∷ bs) =
    front_short t at (b ∷ bs) (λ o k. scan o (at + 1) k bs) (separator_length (b ∷ bs)) (token_length t (b ∷ bs)) (length bs)
    (λ o j. scan_short o (at + 1) j bs)

part_below : (es : List VEntity) (k : ℕ) (d : VEntity) → k < length es → part_count (get_or es k d) ≤ all_parts es
part_below [] k d h = absurd (omega arith)
part_below (e ∷ es) zero d h = let first = sum_by-cons part_count e es in omega (arith, first)
part_below (e ∷ es) (suc k) d h = let rest = part_below es k d (omega arith) in let first = sum_by-cons part_count e es
    in omega (arith, rest, first)

-- an entity of a text has no more parts than the text has bytes
pub parts_in_text : (bytes : List ℕ) (es : List VEntity) → Takes file (text_tokens lexis bytes) es [] → (k : ℕ) (d : VEntity)
    → k < length es → part_count (get_or es k d) ≤ length bytes
parts_in_text bytes es h k d below =
    let whole = file_counted.counted (text_tokens lexis bytes) es [] h in
    let tokens : length (text_tokens lexis bytes) ≡ length (scan_of bytes).0 =
    length-map (scan_of bytes).0 (λ (t : Token). t.bytes) in
    let short = scan_short false 0 0 bytes in
    let part = part_below es k d below in
    omega (arith, whole, tokens, short, part)
