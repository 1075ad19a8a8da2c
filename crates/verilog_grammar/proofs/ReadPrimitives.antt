-- Primitives that are read are well formed.
use Rattle.std.proofs.Common.{◌≡◌, ℕ, suc, ◌+◌, ◌≤◌, Bool, true, false, not, ◌&&◌, ◌||◌, ◌==◌, nat_le, if◌then◌else◌, cond}
use Rattle.std.proofs.Common.{IsTrue, List, [], ◌∷◌, ◌++◌, length, inl, inr, Option, Some, None, is_some, refl, sym, ap, subst}
use Rattle.std.proofs.Common.{◌∙◌, arith, codes, length-append}
use Rattle.std.specs.Prelude.{All, count_by}
use Rattle.std.specs.Option.{option_map}
use Rattle.std.specs.List.{list_all}
use Rattle.std.proofs.lemmas.Bool.{and_parts, and_from, cases_Bool, eqb-true, leb-true as at_most, or_parts as neither}
use Rattle.std.proofs.lemmas.List.Folds.{list_all-append}
use Rattle.std.proofs.lemmas.List.Sums.{sum_by-append, sum_by-cons}
use Rattle.std.proofs.lemmas.List.Elements.{All-push}
use Rattle.grammar_rules.specs.Rule.{Fits, Foul}
use Rattle.grammar_rules.proofs.Promises.{Promises, token, gives, in_turn, many, choice}
use Rattle.udp_tables.specs.declared.table.Level.{Level}
use Rattle.udp_tables.specs.declared.table.Entry.{Entry}
use Rattle.udp_tables.specs.declared.table.Entry.TheVariants as entry
use Rattle.udp_tables.specs.declared.table.Next.TheVariants as next
use Rattle.udp_tables.specs.declared.table.UdpRow.{UdpRow}
use Rattle.udp_tables.specs.declared.table.Udp.{Udp}
use Rattle.udp_tables.specs.Primitive.{is_level}
use Rattle.std.specs.Str.{bytes_eq}
use Rattle.grammar_reader.specs.declared.refusal.Refusal.{Refusal}
use Rattle.grammar_reader.specs.declared.refusal.Refusal.TheVariants.{Syntax, TwoEdges, Width}
use Rattle.udp_tables.specs.VerilogRules.{begins_where}
use Rattle.udp_tables.specs.VerilogPrimitives.{Header, most_inputs, most_inputs_with_state, next_input, more_inputs, header}
use Rattle.udp_tables.specs.VerilogPrimitives.{declared_state, register, level_by, change_by, next_by, symbol, begins_change}
use Rattle.udp_tables.specs.VerilogPrimitives.{begins_entry, entry_by, entry_after, has_change, next_entry, more_entries}
use Rattle.udp_tables.specs.VerilogPrimitives.{state_and_next, output_level, row_end, row, next_row, table, primitive}
use Rattle.specify_blocks.specs.Sound.{IsTable}
use Rattle.verilog_grammar.specs.WellFormed.{most_inputs_of, HasNoState, HasNoStates, IsWellFormedUdp}
use Rattle.verilog_grammar.proofs.ReadNames.{IsSpelled, IsNew, AreNames, push_name, one_name, fits_if, fits_where, some_if}
use Rattle.verilog_grammar.proofs.ReadNames.{new_names, any_names, values, where_holds, behind, surely, fits_same, fits_unless}

-- Headers.

-- the inputs of a header, of which there is at least one
record AreInputs (output : List ℕ) (inputs : List (List ℕ)) : Type 0 where
  names : AreNames (output ∷ inputs)
  some : 1 ≤ length inputs

one_more : (output : List ℕ) (inputs : List (List ℕ)) → AreNames (output ∷ inputs)
    → Promises IsSpelled (next_input output inputs) (AreInputs output)
unfolding next_input
one_more output inputs h =
    in_turn (new_names (output ∷ inputs)) (λ x new. gives (record {
      names = push_name (output ∷ inputs) x h new;
      some = omega (arith, length-append inputs (x ∷ []));
    }))

all_inputs : (output : List ℕ) (inputs : List (List ℕ)) → AreInputs output inputs
    → Promises IsSpelled (more_inputs output inputs) (AreInputs output)
unfolding more_inputs
all_inputs output inputs h = many h (λ found x a q p e. one_more output found q.names)

record IsHeader (h : Header) : Type 0 where
  inputs : AreInputs h.output h.inputs
  most : length h.inputs ≤ 10

headers : Promises IsSpelled header IsHeader
unfolding header
headers =
    behind (λ a. in_turn any_names (λ output name.
    behind (λ b. in_turn (one_more output [] (one_name output name)) (λ first one.
    in_turn (all_inputs output first one) (λ inputs all.
    in_turn (where_holds (nat_le (length inputs) most_inputs) Width (codes ")")) (λ c few.
    behind (λ d. gives (record { inputs = all; most = at_most (length inputs) 10 few }))))))))

-- whether a primitive with so many inputs may have a state
abbrev MayHaveState : ℕ → Bool → Type 0
MayHaveState n sequential = IsTrue sequential → n ≤ most_inputs_with_state

begun_where : (b : Bool) (k : Refusal) (text x : List ℕ) (a : Unit {0}) → begins_where b k text x ≡ Some (Fits a) → b ≡ true
begun_where b k text x a e = (fits_where b k tt a ((some_if (bytes_eq x text) (if b then Fits tt else Foul k tt) (Fits a) e).1)).0

states : (h : Header) → Promises IsSpelled (register h) (MayHaveState (length h.inputs))
unfolding register declared_state
states h =
    choice
    (λ x a p e. behind (λ b. behind (λ c. gives
    (λ t. at_most (length h.inputs) most_inputs_with_state
    (begun_where (nat_le (length h.inputs) most_inputs_with_state) Width (codes "reg") x a e)))))
    (gives (λ t. absurd cc))

-- Entries.

-- the entries of a row: of levels alone without a state, and with one at most one change
abbrev AreEntries : Bool → List Entry → Type 0
AreEntries true entries = count_by (λ e. not (is_level e)) entries ≤ 1
AreEntries false entries = IsTrue (list_all is_level entries)

changes-cons : (e : Entry) (entries : List Entry)
    → count_by (λ e. not (is_level e)) (e ∷ entries) ≡ cond (not (is_level e)) 1 0 + count_by (λ e. not (is_level e)) entries
changes-cons e entries = sum_by-cons (λ e. cond (not (is_level e)) 1 0) e entries

changes-push : (entries : List Entry) (e : Entry)
    → count_by (λ e. not (is_level e)) (entries ++ e ∷ []) ≡ count_by (λ e. not (is_level e)) entries + cond
    (not (is_level e)) 1 0
changes-push entries e =
    let split : count_by (λ e. not (is_level e)) (entries ++ e ∷ []) ≡ count_by (λ e. not (is_level e)) entries + count_by
    (λ e. not (is_level e)) (e ∷ []) =
    sum_by-append (λ e. cond (not (is_level e)) 1 0) entries (e ∷ []) in
    let one : count_by (λ e. not (is_level e)) (e ∷ []) ≡ cond (not (is_level e)) 1 0 + 0 = changes-cons e [] in
    omega (arith, split, one)

no_changes : (entries : List Entry) → has_change entries ≡ false → count_by (λ e. not (is_level e)) entries ≡ 0
no_changes [] h = refl
no_changes (e ∷ entries) h =
    let parts = neither (not (is_level e)) (has_change entries) h in
    let here : ◌≡◌ {A = ℕ} (cond (not (is_level e)) 1 0) 0 = rw parts.0 refl in
    let rest = no_changes entries parts.1 in
    omega (arith, changes-cons e entries, here, rest)

push_level : (sequential : Bool) (entries : List Entry) (e : Entry) → AreEntries sequential entries → is_level e ≡ true
    → AreEntries sequential (entries ++ e ∷ [])
push_level true entries e h l =
    let here : ◌≡◌ {A = ℕ} (cond (not (is_level e)) 1 0) 0 = rw l refl in
    omega (arith, changes-push entries e, here, h)
push_level false entries e h l = list_all-append is_level entries (e ∷ [])
    ∙ and_from (list_all is_level entries) (is_level e && true) h (rw l refl)

push_change : (entries : List Entry) (e : Entry) → has_change entries ≡ false → is_level e ≡ false
    → AreEntries true (entries ++ e ∷ [])
push_change entries e h l =
    let here : ◌≡◌ {A = ℕ} (cond (not (is_level e)) 1 0) 1 = rw l refl in
    omega (arith, changes-push entries e, here, no_changes entries h)

-- a level, or a change in a primitive with a state
abbrev FitsIn : Bool → List ℕ → Entry → Type 0
FitsIn sequential x e = is_level e ≡ false → IsTrue sequential × IsTrue (begins_change x)

not_both : (a b : Bool) → (a && b) ≡ false → b ≡ true → a ≡ false
not_both true true h e = absurd cc
not_both true false h e = absurd cc
not_both false b h e = refl

push_entry : (sequential : Bool) (entries : List Entry) (x : List ℕ) (e : Entry) → AreEntries sequential entries
    → FitsIn sequential x e
    → (has_change entries && begins_change x) ≡ false → AreEntries sequential (entries ++ e ∷ [])
push_entry sequential entries x e h f g =
    elim (cases_Bool (is_level e)) [
      | inl l ↦ push_level sequential entries e h l
      | inr l ↦
          let parts = f l in
          subst (λ t. AreEntries t (entries ++ e ∷ [])) (sym parts.0)
          (push_change entries e (not_both (has_change entries) (begins_change x) g parts.1) l)
    ]

entry_parts : (sequential bracket : Bool) (l : Option Level) (c : Option Entry)
    → IsTrue (is_some l || sequential && (is_some c || bracket))
    → Promises IsSpelled (entry_by (if is_some l then option_map entry.Level l else c)) (λ e. is_level e ≡ false
    → IsTrue sequential × IsTrue (is_some c || bracket))
entry_parts sequential bracket (Some v) c h = gives (λ f. absurd cc)
entry_parts sequential bracket None (Some e) h = gives (λ f. and_parts sequential true h)
entry_parts sequential bracket None None h = surely (λ e f. and_parts sequential bracket h)

entries_after : (sequential : Bool) (x : List ℕ) → IsTrue (begins_entry sequential x)
    → Promises IsSpelled (entry_after x) (FitsIn sequential x)
entries_after sequential x h = entry_parts sequential (bytes_eq x (codes "(")) (symbol level_by x) (symbol change_by x) h

one_entry : (sequential : Bool) (entries : List Entry) (x : List ℕ) → AreEntries sequential entries
    → IsTrue (begins_entry sequential x) → (has_change entries && begins_change x) ≡ false
    → Promises IsSpelled (next_entry entries x) (AreEntries sequential)
unfolding next_entry
one_entry sequential entries x h begins g =
    in_turn (entries_after sequential x begins) (λ e f. gives (push_entry sequential entries x e h f g))

all_entries : (sequential : Bool) (entries : List Entry) → AreEntries sequential entries
    → Promises IsSpelled (more_entries sequential entries) (AreEntries sequential)
unfolding more_entries
all_entries sequential entries h =
    many h (λ w x a q p e.
    let begun = some_if (begins_entry sequential x) (if has_change w && begins_change x then Foul TwoEdges x else Fits x)
    (Fits a) e in
    let fits = fits_unless (has_change w && begins_change x) TwoEdges x a begun.1 in
    subst (λ y. Promises IsSpelled (next_entry w y) (AreEntries sequential)) fits.1 (one_entry sequential w x q begun.0 fits.0))

-- Rows.

record IsRowOf (sequential : Bool) (n : ℕ) (row : UdpRow) : Type 0 where
  entries : length row.inputs ≡ n
  kinds : AreEntries sequential row.inputs
  stateless : sequential ≡ false → HasNoState row

pick : (p q r : Bool) → (if p then Some next.Zero
    else (if q then Some next.One else (if r then Some next.Unknown else (if false then Some next.Keep else None)))) ≡ Some
    next.Keep → ⊥
pick true q r e = absurd cc
pick false true r e = absurd cc
pick false false true e = absurd cc
pick false false false e = absurd cc

keeps_nothing : (x : List ℕ) → symbol (next_by false) x ≡ Some next.Keep → ⊥
keeps_nothing [] e = absurd cc
keeps_nothing (b ∷ []) e = pick (b == 48) (b == 49) (b == 120 || b == 88) e
keeps_nothing (b ∷ c ∷ bs) e = absurd cc

row_ends : (sequential : Bool) (n : ℕ) (entries : List Entry) → length entries ≡ n → AreEntries sequential entries
    → Promises IsSpelled (row_end sequential entries) (IsRowOf sequential n)
unfolding state_and_next output_level
row_ends true n entries h k =
    behind (λ state. behind (λ a. behind
    (λ b. behind (λ c. gives (record { entries = h; kinds = k; stateless = λ f. absurd cc })))))
row_ends false n entries h k =
    in_turn (values (symbol (next_by false))) (λ found f. behind (λ c. gives (record {
      entries = h;
      kinds = k;
      stateless = λ s. record { state = refl; next = λ same. keeps_nothing f.0 (f.1 ∙ ap Some same) };
    })))

one_row : (sequential : Bool) (n : ℕ) (x : List ℕ) → IsTrue (begins_entry sequential x)
    → Promises IsSpelled (row sequential n x) (IsRowOf sequential n)
unfolding row
one_row sequential n x begins =
    in_turn (one_entry sequential [] x (none sequential) begins refl) (λ first one.
    in_turn (all_entries sequential first one) (λ entries all.
    in_turn (where_holds (length entries == n) Width (codes ":")) (λ a w.
    row_ends sequential n entries (eqb-true (length entries) n w) all)))
  where
    none : (sequential : Bool) → AreEntries sequential []
    none true = omega arith
    none false = refl

record AreRows (sequential : Bool) (n : ℕ) (rows : List UdpRow) : Type 0 where
  all : All (IsRowOf sequential n) rows
  some : 1 ≤ length rows

another_row : (sequential : Bool) (n : ℕ) (rows : List UdpRow) (x : List ℕ) → All (IsRowOf sequential n) rows
    → IsTrue (begins_entry sequential x)
    → Promises IsSpelled (next_row sequential n rows x) (AreRows sequential n)
unfolding next_row
another_row sequential n rows x h begins =
    in_turn (one_row sequential n x begins) (λ row q. gives (record {
      all = All-push (IsRowOf sequential n) rows row h q;
      some = omega (arith, length-append rows (row ∷ []));
    }))

tables : (sequential : Bool) (n : ℕ) → Promises IsSpelled (table sequential n) (AreRows sequential n)
unfolding table
tables sequential n =
    behind (λ a. in_turn (token (λ x y p e. let f = fits_if (begins_entry sequential x) (Fits x) Syntax y e
    in subst (λ t. IsTrue (begins_entry sequential t)) (fits_same x y f.1) f.0)) (λ x begins.
    in_turn (another_row sequential n [] x (λ k d h. absurd (omega arith)) begins) (λ first one.
    in_turn (many one (λ w x y q p e.
    let f = some_if (begins_entry sequential x) (Fits x) (Fits y) e in
    subst (λ t. Promises IsSpelled (next_row sequential n w t) (AreRows sequential n)) (fits_same x y f.1)
    (another_row sequential n w x q.all f.0))) (λ rows all.
    behind (λ b. gives all)))))

-- Primitives.

most_of : (n : ℕ) (sequential : Bool) → n ≤ 10 → MayHaveState n sequential → n ≤ most_inputs_of sequential
most_of n true h s = s refl
most_of n false h s = h

table_of : (sequential : Bool) (udp : Udp) → All (IsRowOf sequential (length udp.inputs)) udp.rows → IsTable sequential udp
table_of true udp all = record { entries = λ k d h. (all k d h).entries; changes = λ k d h. (all k d h).kinds }
table_of false udp all = record { entries = λ k d h. (all k d h).entries; levels = λ k d h. (all k d h).kinds }

stateless_of : (sequential : Bool) (udp : Udp) → All (IsRowOf sequential (length udp.inputs)) udp.rows
    → HasNoStates sequential udp
stateless_of true udp all = tt
stateless_of false udp all = λ k d h. (all k d h).stateless refl

-- a primitive that is read behind others and modules of these names
pub record IsNewUdp (names : List (List ℕ)) (udp : Udp) : Type 0 where
  pub formed : IsWellFormedUdp udp
  pub new : IsNew names udp.name

pub primitives : (names : List (List ℕ)) → Promises IsSpelled (primitive names) (IsNewUdp names)
unfolding primitive
primitives names =
    in_turn (new_names names) (λ name new.
    in_turn headers (λ h header.
    behind (λ a. in_turn (states h) (λ sequential state.
    behind (λ b. in_turn (tables sequential (length h.inputs)) (λ rows all.
    behind (λ c. gives (declared names name h sequential rows new header state all))))))))
  where
    declared : (names : List (List ℕ)) (name : List ℕ) (h : Header) (sequential : Bool) (rows : List UdpRow)
        → IsNew names name → IsHeader h → MayHaveState (length h.inputs) sequential → AreRows sequential (length h.inputs) rows
        → IsNewUdp names (record { name = name; output = h.output; inputs = h.inputs; sequential = sequential; rows = rows })
    declared names name h sequential rows new header state all =
        let udp : Udp = record { name = name; output = h.output; inputs = h.inputs; sequential = sequential; rows = rows } in
        record {
          formed = record {
            name = new.name;
            output = header.inputs.names.all 0 [] (omega arith);
            inputs = λ k d l. header.inputs.names.all (suc k) d (omega arith);
            apart = header.inputs.names.apart;
            some = header.inputs.some;
            most = most_of (length h.inputs) sequential header.most state;
            rows = all.some;
            table = table_of sequential udp all.all;
            stateless = stateless_of sequential udp all.all;
          };
          new = new;
        }
