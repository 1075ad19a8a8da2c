-- The rows of a step have an entry for each input, and at most one change.
use Rattle.std.proofs.Common.{◌≡◌, ℕ, zero, suc, ◌+◌, ◌<◌, ◌≤◌, Bool, true, false, cond, not, List, [], ◌∷◌, ◌++◌, map, length}
use Rattle.std.proofs.Common.{replicate, inl, inr, refl, ◌∙◌, ap, subst, arith, if◌then◌else◌}
use Rattle.std.specs.Prelude.{count_by}
use Rattle.std.specs.List.{list_all, All}
use Rattle.std.proofs.lemmas.Bool.{and_parts}
use Rattle.std.proofs.lemmas.List.{length_push, length-map, length-replicate}
use Rattle.std.proofs.lemmas.List.Sums.{sum_by-cons}
use Rattle.std.proofs.lemmas.List.Elements.{Contains-get_or}
use Rattle.trit_cubes.specs.declared.trits.Trit.{Trit}
use Rattle.trit_cubes.specs.declared.trits.Trit.TheVariants.{One, Unknown}
use Rattle.trit_cubes.specs.Sets.{gives}
use Rattle.trit_cubes.specs.Prime.{prime_list}
use Rattle.trit_cubes.proofs.ListLemmas.{Among, among-append, contains-among}
use Rattle.trit_cubes.proofs.SplitLemmas.{prime_list-length}
use Rattle.cell_machine.specs.Machine.{Step, insert, init, forced_at}
use Rattle.udp_tables.specs.declared.table.Level.TheVariants as level
use Rattle.udp_tables.specs.declared.table.Entry.{Entry}
use Rattle.udp_tables.specs.declared.table.Entry.TheVariants as entry
use Rattle.udp_tables.specs.declared.table.UdpRow.{UdpRow}
use Rattle.udp_tables.specs.Tables.{or_row}
use Rattle.udp_tables.specs.Primitive.{is_level}
use Rattle.udp_tables.specs.Generated.{level_entry}
use Rattle.udp_tables.specs.Edges.{forced_rows, edge_cubes, compact_edge_rows, each_below}
use Rattle.udp_tables.specs.Sequential.{changes_in, edge_entry, noted, state_row, notifier_rows, edge_row, keep_row, compact_rows}
use Rattle.cell_tables.proofs.TableLemmas.{entries-level}
use Rattle.udp_tables.proofs.ColumnLemmas.{length-insert}
use Rattle.udp_tables.proofs.CubeLemmas.{value_rows-among, below-among, edge-long}
use Rattle.udp_tables.proofs.PairLemmas.{compact-among}
use Rattle.udp_tables.proofs.SymbolLemmas.{length-init}

abbrev changes : List Entry → ℕ
changes es = count_by (λ e. not (is_level e)) es

-- one more entry
changes-cons : (e : Entry) (es : List Entry) → changes (e ∷ es) ≡ cond (not (is_level e)) 1 0 + changes es
changes-cons e es = sum_by-cons (λ x. cond (not (is_level x)) 1 0) e es

at-most-one : (b : Bool) → cond b 1 0 ≤ 1
at-most-one true = omega arith
at-most-one false = omega arith

changes-insert : (p : ℕ) (e : Entry) (es : List Entry) → changes (insert p e es) ≡ cond (not (is_level e)) 1 0 + changes es
changes-insert zero e es = changes-cons e es
changes-insert (suc p) e [] = changes-cons e []
changes-insert (suc p) e (x ∷ es) =
    omega (arith, changes-cons x (insert p e es), changes-insert p e es, changes-cons x es)

changes-push : (es : List Entry) (e : Entry) → changes (es ++ e ∷ []) ≡ changes es + cond (not (is_level e)) 1 0
changes-push [] e = omega (arith, changes-cons e [])
changes-push (x ∷ es) e = omega (arith, changes-cons x (es ++ e ∷ []), changes-push es e, changes-cons x es)

changes-none : (es : List Entry) → list_all is_level es ≡ true → changes es ≡ 0
changes-none [] h = refl
changes-none (e ∷ es) h =
    let both = and_parts (is_level e) (list_all is_level es) h in
    changes-cons e es ∙ ap (λ b. cond (not b) 1 0 + changes es) both.0 ∙ omega (arith, changes-none es both.1)

changes-free : (checks : Bool) (es : List Entry) → changes (noted checks (entry.Level level.Any) es) ≡ changes es
changes-free false es = refl
changes-free true es = omega (arith, changes-push es (entry.Level level.Any))

abbrev pub with_note : Bool → ℕ → ℕ
with_note checks n = if checks then n + 1 else n

length-noted : (checks : Bool) (e : Entry) (es : List Entry) (n : ℕ) → length es ≡ n
    → length (noted checks e es) ≡ with_note checks n
length-noted false e es n h = h
length-noted true e es n h = length_push es e ∙ ap (λ k. k + 1) h

-- what is asked of a row
pub record Fits (checks : Bool) (n : ℕ) (row : UdpRow) : Type 0 where
  pub entries : length row.inputs ≡ with_note checks n
  pub changed : changes_in row ≤ 1

state-fits : (checks : Bool) (n : ℕ) (v : Trit) (c : List Trit) → length c ≡ n → Fits checks n (state_row checks v c)
state-fits checks n v c e =
    record {
      entries = length-noted checks (entry.Level level.Any) (map level_entry c) n (length-map c level_entry ∙ e);
      changed =
          let none : changes (noted checks (entry.Level level.Any) (map level_entry c)) ≡ 0
          = changes-free checks (map level_entry c) ∙ changes-none (map level_entry c) (entries-level c) in
          omega (arith, none);
    }

notifier-fits : (checks : Bool) (n : ℕ) (row : UdpRow) → Among row (notifier_rows checks n) → Fits checks n row
notifier-fits false n row m = absurd m
notifier-fits true n row m =
    elim m [
      | inl e ↦
          subst (Fits true n) e
          (record {
            entries =
                length-noted true entry.Star (map level_entry (replicate n Unknown)) n
                (length-map (replicate n Unknown) level_entry ∙ length-replicate n Unknown);
            changed =
                omega (
                  arith,
                  changes-push (map level_entry (replicate n Unknown)) entry.Star,
                  changes-none (map level_entry (replicate n Unknown)) (entries-level (replicate n Unknown)),
                );
          })
      | inr k ↦ absurd k
    ]

edge-fits : (checks : Bool) (n p : ℕ) (v : Trit) (c : List Trit) → p < n → length c ≡ suc (suc n)
    → Fits checks n (edge_row checks p v c)
edge-fits checks n p v [] l e = absurd (omega arith)
edge-fits checks n p v (old ∷ []) l e = absurd (omega arith)
edge-fits checks n p v (old ∷ new ∷ []) l e = absurd (omega arith)
edge-fits checks n p v (old ∷ new ∷ r ∷ rest) l e =
    let es : List Entry = map level_entry (init (r ∷ rest)) in
    let few : length es ≡ length rest = length-map (init (r ∷ rest)) level_entry ∙ length-init r rest in
    let all : length (insert p (edge_entry old new) es) ≡ n = length-insert p (edge_entry old new) es ∙ ap suc few ∙ omega arith
    in
    let one : changes (noted checks (entry.Level level.Any) (insert p (edge_entry old new) es)) ≡ cond
    (not (is_level (edge_entry old new))) 1 0 + changes es
    = changes-free checks (insert p (edge_entry old new) es) ∙ changes-insert p (edge_entry old new) es in
    record {
      entries = length-noted checks (entry.Level level.Any) (insert p (edge_entry old new) es) n all;
      changed =
          omega (
            arith,
            one,
            at-most-one (not (is_level (edge_entry old new))),
            changes-none es
                (entries-level (init (r ∷ rest))),
          );
    }

-- a row that keeps the state has the entries of that which gives a value
keep-fits : (checks : Bool) (n p : ℕ) (c : List Trit) → p < n → length c ≡ suc (suc n) → Fits checks n (keep_row checks p c)
keep-fits checks n p c l e =
    let same : Fits checks n (edge_row checks p Unknown c) = edge-fits checks n p Unknown c l e in
    record { entries = same.entries; changed = same.changed }

change-fits :
    (checks : Bool) (n : ℕ) (step : Step) (p : ℕ) (row : UdpRow)
    → p < n → Among row (compact_edge_rows (edge_row checks) (keep_row checks) step n p) → Fits checks n row
change-fits checks n step p row l m =
    elim (compact-among (edge_row checks p) (keep_row checks p) (edge_cubes step n p) row m) [
      | inl r ↦ subst (Fits checks n) r.3 (keep-fits checks n p r.0 l (edge-long step n p One r.0 r.1))
      | inr r ↦ subst (Fits checks n) r.4 (edge-fits checks n p r.0 r.2 l (edge-long step n p r.0 r.2 r.3))
    ]

rows-fit :
    (checks : Bool) (n : ℕ) (step : Step) (row : UdpRow)
    → Among row (forced_rows (state_row checks) n step ++ notifier_rows checks n
    ++ each_below (compact_edge_rows (edge_row checks) (keep_row checks) step n) n)
    → Fits checks n row
rows-fit checks n step row m =
    elim (among-append row (forced_rows (state_row checks) n step ++ notifier_rows checks n)
    (each_below (compact_edge_rows (edge_row checks) (keep_row checks) step n) n) m) [
      | inl front ↦
          elim (among-append row (forced_rows (state_row checks) n step) (notifier_rows checks n) front) [
            | inl k ↦
                let r = value_rows-among (state_row checks) (λ (v : Trit). prime_list n (gives v (forced_at step))) row k in
                subst (Fits checks n) r.4
                (state-fits checks n r.0 r.2 (prime_list-length n (gives r.0 (forced_at step)) r.2 r.3))
            | inr k ↦ notifier-fits checks n row k
          ]
      | inr k ↦
          let q = below-among (compact_edge_rows (edge_row checks) (keep_row checks) step n) n row k in
          change-fits checks n step q.0 row q.1 q.2
    ]

or_row-fit : (checks : Bool) (n : ℕ) (alone : UdpRow) (rows : List UdpRow) (row : UdpRow)
    → Fits checks n alone → ((other : UdpRow) → Among other rows → Fits checks n other) → Among row (or_row alone rows)
    → Fits checks n row
or_row-fit checks n alone [] row h k m = elim m [ inl e ↦ subst (Fits checks n) e h | inr z ↦ absurd z ]
or_row-fit checks n alone (first ∷ rows) row h k m = k row m

pub compact-fit : (checks : Bool) (n : ℕ) (step : Step) (row : UdpRow) → Among row (compact_rows checks n step)
    → Fits checks n row
compact-fit checks n step row m =
    or_row-fit checks n (state_row checks Unknown (replicate n Unknown))
    (forced_rows (state_row checks) n step ++ notifier_rows checks n
    ++ each_below (compact_edge_rows (edge_row checks) (keep_row checks) step n) n) row
    (state-fits checks n Unknown (replicate n Unknown) (length-replicate n Unknown)) (rows-fit checks n step) m

pub all-rows : {R : Type 0} (P : R → Type 0) (rows : List R) → ((row : R) → Among row rows → P row) → All P rows
all-rows P rows h k d l = h _ (contains-among _ rows (Contains-get_or rows k d l))
