-- The rows of a written primitive are read from its tokens.
use Rattle.std.proofs.Common.{◌≡◌, ℕ, ◌≤◌, Bool, true, false, not, ◌&&◌, ◌||◌, ◌==◌, cond, List, [], ◌∷◌, ◌++◌, length, inl, inr}
use Rattle.std.proofs.Common.{None, refl, sym, arith, subst, codes}
use Rattle.std.specs.Prelude.{count_by}
use Rattle.std.specs.List.{list_all}
use Rattle.std.proofs.lemmas.Bool.{and_parts, cases_Bool, eq-eqb as same_number}
use Rattle.std.proofs.lemmas.List.Sums.{sum_by-append, sum_by-cons}
use Rattle.udp_tables.specs.declared.table.Level.{Level}
use Rattle.udp_tables.specs.declared.table.Level.TheVariants as level
use Rattle.udp_tables.specs.declared.table.Entry.{Entry}
use Rattle.udp_tables.specs.declared.table.Entry.TheVariants as entry
use Rattle.udp_tables.specs.declared.table.Next.{Next}
use Rattle.udp_tables.specs.declared.table.Next.TheVariants as next
use Rattle.udp_tables.specs.declared.table.UdpRow.{UdpRow}
use Rattle.udp_tables.specs.Primitive.{is_level}
use Rattle.grammar_reader.specs.Words.{valued}
use Rattle.grammar_reader.specs.declared.refusal.Refusal.TheVariants.{Width}
use Rattle.udp_tables.specs.VerilogPrimitives.{symbol, next_by, a_level, begins_change, begins_entry, pair, entry_after}
use Rattle.udp_tables.specs.VerilogPrimitives.{has_change, begins_next_entry, next_entry, more_entries, state_and_next}
use Rattle.udp_tables.specs.VerilogPrimitives.{output_level, row_end, row}
use Rattle.verilog_writer.specs.Symbols.{level_text, next_text}
use Rattle.grammar_reader.proofs.Fronts.{each}
use Rattle.written_modules.proofs.PrimitiveTokens.{entry_start, entry_more, entry_tokens, outcome_tokens, row_tokens}
use Rattle.grammar_reader.proofs.Derivations.{Reads, gives, token, in_turn, Turn, turn, through}
use Rattle.written_modules.proofs.NameReading.{expected, expected_where}

-- Symbols.

level_read : (l : Level) {s : List (List ℕ)} → Reads a_level (level_text l ∷ s) l s
level_read level.Zero = token refl
level_read level.One = token refl
level_read level.Unknown = token refl
level_read level.Any = token refl
level_read level.Binary = token refl

next_read : (n : Next) {s : List (List ℕ)} → Reads (valued (symbol (next_by true))) (next_text n ∷ s) n s
next_read next.Zero = token refl
next_read next.One = token refl
next_read next.Unknown = token refl
next_read next.Keep = token refl

output_read : (n : Next) {s : List (List ℕ)} → (n ≡ next.Keep → ⊥) → Reads (valued (symbol (next_by false))) (next_text n ∷ s) n s
output_read next.Zero h = token refl
output_read next.One h = token refl
output_read next.Unknown h = token refl
output_read next.Keep h = absurd (h refl)

-- Entries.

-- an entry that may stand in a row of a primitive with a state, or of one without
abbrev MayStand : Bool → Entry → Type 0
MayStand sequential e = (is_level e || sequential) ≡ true

level_starts : (sequential : Bool) (l : Level) → begins_entry sequential (level_text l) ≡ true
level_starts sequential level.Zero = refl
level_starts sequential level.One = refl
level_starts sequential level.Unknown = refl
level_starts sequential level.Any = refl
level_starts sequential level.Binary = refl

entry_starts : (sequential : Bool) (e : Entry) → MayStand sequential e → begins_entry sequential (entry_start e) ≡ true
entry_starts sequential (entry.Level l) h = level_starts sequential l
entry_starts true (entry.Pair before after) h = refl
entry_starts true entry.R h = refl
entry_starts true entry.F h = refl
entry_starts true entry.P h = refl
entry_starts true entry.N h = refl
entry_starts true entry.Star h = refl
entry_starts false (entry.Pair before after) h = absurd cc
entry_starts false entry.R h = absurd cc
entry_starts false entry.F h = absurd cc
entry_starts false entry.P h = absurd cc
entry_starts false entry.N h = absurd cc
entry_starts false entry.Star h = absurd cc

level_no_change : (l : Level) → begins_change (level_text l) ≡ false
level_no_change level.Zero = refl
level_no_change level.One = refl
level_no_change level.Unknown = refl
level_no_change level.Any = refl
level_no_change level.Binary = refl

change_starts : (e : Entry) → begins_change (entry_start e) ≡ not (is_level e)
change_starts (entry.Level l) = level_no_change l
change_starts (entry.Pair before after) = refl
change_starts entry.R = refl
change_starts entry.F = refl
change_starts entry.P = refl
change_starts entry.N = refl
change_starts entry.Star = refl

level_entry : (l : Level) {s : List (List ℕ)} → Reads (entry_after (level_text l)) s (entry.Level l) s
level_entry level.Zero = gives
level_entry level.One = gives
level_entry level.Unknown = gives
level_entry level.Any = gives
level_entry level.Binary = gives

entry_read : (e : Entry) {s : List (List ℕ)} → Reads (entry_after (entry_start e)) (entry_more e s) e s
unfolding pair
entry_read (entry.Level l) = level_entry l
entry_read (entry.Pair before after) = in_turn (level_read before) (in_turn (level_read after) (in_turn expected gives))
entry_read entry.R = gives
entry_read entry.F = gives
entry_read entry.P = gives
entry_read entry.N = gives
entry_read entry.Star = gives

-- the entry goes to those before it
entry_added : (before : List Entry) (e : Entry) {s : List (List ℕ)}
    → Reads (next_entry before (entry_start e)) (entry_more e s) (before ++ e ∷ []) s
unfolding next_entry
entry_added before e = in_turn (entry_read e) gives

-- A change among the entries before, and this one.

some_change : (entries : List Entry) → has_change entries ≡ true → 1 ≤ count_by (λ e. not (is_level e)) entries
some_change [] h = absurd cc
some_change (e ∷ entries) h = elim (cases_Bool (not (is_level e))) [
  | inl t ↦ (let here : ◌≡◌ {A = ℕ} (cond (not (is_level e)) 1 0) 1 = rw t refl
      in omega (arith, here, sum_by-cons (λ e. cond (not (is_level e)) 1 0) e entries))
  | inr f ↦ (let rest = some_change entries (rw f at h)
      in omega (arith, rest, sum_by-cons (λ e. cond (not (is_level e)) 1 0) e entries))
]

second_level : (before : List Entry) (e : Entry) (after : List Entry) → count_by (λ e. not (is_level e)) (before ++ e ∷ after) ≤ 1
    → has_change before ≡ true → not (is_level e) ≡ false
second_level before e after h c = elim (cases_Bool (not (is_level e))) [
  | inl t ↦ (let some = some_change before c in
      let here : ◌≡◌ {A = ℕ} (cond (not (is_level e)) 1 0) 1 = rw t refl in
      let cons = sum_by-cons (λ e. cond (not (is_level e)) 1 0) e after in
      let split = sum_by-append (λ e. cond (not (is_level e)) 1 0) before (e ∷ after) in
      absurd (omega (arith, some, here, cons, split, h)))
  | inr f ↦ f
]

-- what the entries of a row may be
abbrev pub AreEntries : Bool → List Entry → Type 0
AreEntries true entries = count_by (λ e. not (is_level e)) entries ≤ 1
AreEntries false entries = list_all is_level entries ≡ true

level_at : (before : List Entry) (e : Entry) (after : List Entry) → list_all is_level (before ++ e ∷ after) ≡ true
    → is_level e ≡ true
level_at [] e after h = (and_parts (is_level e) (list_all is_level after) h).0
level_at (x ∷ before) e after h = level_at before e after (and_parts (is_level x) (list_all is_level (before ++ e ∷ after)) h).1

may_stand : (sequential : Bool) (before : List Entry) (e : Entry) (after : List Entry)
    → AreEntries sequential (before ++ e ∷ after) → MayStand sequential e
may_stand true before e after h = either (is_level e)
  where
    either : (a : Bool) → (a || true) ≡ true
    either true = refl
    either false = refl
may_stand false before e after h = rw (level_at before e after h) refl

no_second : (sequential : Bool) (before : List Entry) (e : Entry) (after : List Entry)
    → AreEntries sequential (before ++ e ∷ after) → (has_change before && begins_change (entry_start e)) ≡ false
no_second true before e after h = elim (cases_Bool (has_change before)) [
  | inl t ↦ rw (t, change_starts e) (second_level before e after h t)
  | inr f ↦ rw f refl
]
no_second false before e after h = rw (change_starts e, level_at before e after h) (neither (has_change before))
  where
    neither : (a : Bool) → (a && false) ≡ false
    neither true = refl
    neither false = refl

entry_turn : (sequential : Bool) (entries : List Entry) → AreEntries sequential entries
    → (before : List Entry) (e : Entry) (after : List Entry) (s : List (List ℕ)) → before ++ e ∷ after ≡ entries
    → Turn (begins_next_entry sequential) next_entry before (entry_tokens e s) (before ++ e ∷ []) s
entry_turn sequential entries h before e after s same =
    let all : AreEntries sequential (before ++ e ∷ after) = subst (AreEntries sequential) (sym same) h in
    turn (rw (entry_starts sequential e (may_stand sequential before e after all), no_second sequential before e after all) refl)
    (entry_added before e)

-- Rows.

-- what a row may be in a primitive with so many inputs
pub record IsRow (sequential : Bool) (n : ℕ) (row : UdpRow) : Type 0 where
  pub entries : length row.inputs ≡ n
  pub changes : AreEntries sequential row.inputs
  pub stateless : sequential ≡ false → (row.state ≡ level.Any) × (row.next ≡ next.Keep → ⊥)

outcome_read : (sequential : Bool) (entries : List Entry) (state : Level) (n : Next) (s : List (List ℕ))
    → (sequential ≡ false → (state ≡ level.Any) × (n ≡ next.Keep → ⊥))
    → Reads (row_end sequential entries) (outcome_tokens sequential state n s)
    (record { inputs = entries; state = state; next = n }) s
unfolding state_and_next output_level
outcome_read true entries state n s h =
    in_turn (level_read state) (in_turn expected (in_turn (next_read n) (in_turn expected gives)))
outcome_read false entries state n s h =
    subst (λ (l : Level). Reads (output_level entries) (next_text n ∷ codes ";" ∷ s)
    (record { inputs = entries; state = l; next = n }) s) (sym (h refl).0)
    (in_turn (output_read n (h refl).1) (in_turn expected gives))

no_entry : (sequential : Bool) (entries : List Entry) → begins_next_entry sequential entries (codes ":") ≡ None
no_entry true entries = refl
no_entry false entries = refl

-- the first token of a row, and what is read behind it
pub record BeginsRow (sequential : Bool) (n : ℕ) (row : UdpRow) (s left : List (List ℕ)) : Type 0 where
  pub start : List ℕ
  pub more : List (List ℕ)
  pub split : s ≡ start ∷ more
  pub begins : begins_entry sequential start ≡ true
  pub reads : Reads (Rattle.udp_tables.specs.VerilogPrimitives.row sequential n start) more row left

row_behind : (sequential : Bool) (n : ℕ) (e : Entry) (entries : List Entry) (state : Level) (x : Next) (s : List (List ℕ))
    → IsRow sequential n (record { inputs = e ∷ entries; state = state; next = x })
    → Reads (row sequential n (entry_start e))
    (entry_more e (each entry_tokens entries (codes ":" ∷ outcome_tokens sequential state x s)))
    (record { inputs = e ∷ entries; state = state; next = x }) s
unfolding row more_entries
row_behind sequential n e entries state x s h =
    in_turn (entry_added [] e)
    (in_turn (through (λ (l : List Entry). l) entry_tokens (e ∷ []) entries (entry_turn sequential (e ∷ entries) h.changes)
    (codes ":" ∷ outcome_tokens sequential state x s) (no_entry sequential (e ∷ entries)))
    (in_turn (expected_where (length (e ∷ entries) == n) Width (same_number (length (e ∷ entries)) n h.entries))
    (outcome_read sequential (e ∷ entries) state x s h.stateless)))

begun : (sequential : Bool) (n : ℕ) (entries : List Entry) (state : Level) (x : Next) (s : List (List ℕ)) → 1 ≤ n
    → IsRow sequential n (record { inputs = entries; state = state; next = x })
    → BeginsRow sequential n (record { inputs = entries; state = state; next = x })
    (each entry_tokens entries (codes ":" ∷ outcome_tokens sequential state x s)) s
begun sequential n [] state x s some h = let none : 0 ≡ n = h.entries in absurd (omega (arith, none, some))
begun sequential n (e ∷ entries) state x s some h = record {
  start = entry_start e;
  more = entry_more e (each entry_tokens entries (codes ":" ∷ outcome_tokens sequential state x s));
  split = refl;
  begins = entry_starts sequential e (may_stand sequential [] e entries h.changes);
  reads = row_behind sequential n e entries state x s h;
}

-- a row is read from its tokens
pub row_begun : (sequential : Bool) (n : ℕ) (row : UdpRow) (s : List (List ℕ)) → 1 ≤ n → IsRow sequential n row
    → BeginsRow sequential n row (row_tokens sequential row s) s
row_begun sequential n row s some h = begun sequential n row.inputs row.state row.next s some h
