-- Rows of a step whose changes serve: at each change of an input they give the machine's step, and at each change of the
-- notifier the forced value.
use Rattle.std.proofs.Common.{◌≡◌, ℕ, suc, ◌<◌, Bool, true, false, cond, not, ◌&&◌, List, [], ◌∷◌, ◌++◌, map, length}
use Rattle.std.proofs.Common.{replicate, inl, inr, refl, sym, ◌∙◌, ap}
use Rattle.std.specs.List.{list_all, list_any}
use Rattle.std.proofs.lemmas.Bool.{and_parts, and_from, and_left}
use Rattle.std.proofs.lemmas.List.{length-map, length-replicate}
use Rattle.std.proofs.lemmas.List.Folds.{list_all-append}
use Rattle.trit_cubes.specs.declared.trits.Trit.{Trit}
use Rattle.trit_cubes.specs.declared.trits.Trit.TheVariants.{Zero, One, Unknown}
use Rattle.trit_cubes.specs.Filling.{same}
use Rattle.trit_cubes.specs.Sets.{gives}
use Rattle.trit_cubes.specs.Prime.{prime_list}
use Rattle.trit_cubes.proofs.ListLemmas.{Among, among-append, append-among_right}
use Rattle.cell_machine.specs.Machine.{Step, insert, machine_step, forced_at, forced}
use Rattle.cell_machine.proofs.ForcedLemmas.{forced_is_step-lem}
use Rattle.udp_tables.specs.declared.table.Entry.{Entry}
use Rattle.udp_tables.specs.declared.table.Entry.TheVariants as entry
use Rattle.udp_tables.specs.declared.table.UdpRow.{UdpRow}
use Rattle.udp_tables.specs.Tables.{first, columns_match, or_row}
use Rattle.udp_tables.specs.Primitive.{entry_matches, is_level, next_of}
use Rattle.udp_tables.specs.Generated.{level_entry, next_to}
use Rattle.udp_tables.specs.Edges.{forced_rows, each_below}
use Rattle.udp_tables.specs.Sequential.{row_matches, is_level_row, level_hit, edge_hit, row_next, udp_next, noted, state_row}
use Rattle.udp_tables.specs.Sequential.{notifier_rows, step_rows}
use Rattle.udp_tables.proofs.FirstLemmas.{any-found, found-any, any-front, cond-same, first-gives}
use Rattle.udp_tables.proofs.ColumnLemmas.{and-false, length-insert, columns-push}
use Rattle.udp_tables.proofs.CubeLemmas.{same-self, known-or, value_rows-among, below-among, among-below}
use Rattle.cell_tables.proofs.ForcedRows.{FitsForced, forced-given, forced-found}
use Rattle.cell_tables.proofs.ServingRows.{ServesChanges, served}
use Rattle.cell_tables.proofs.ChangeRows.{state_row-levels, state_row-matches}

-- what the rows of the changes of each input have to do: they have a change entry, and they serve
pub record Serves (checks : Bool) (n : ℕ) (step : Step) (changes : ℕ → List UdpRow) : Type 0 where
  pub edges : (p : ℕ) (row : UdpRow) → p < n → Among row (changes p) → is_level_row row ≡ false
  pub rows : ServesChanges UdpRow row_matches row_next (noted checks) n step changes

-- a row that gives x in place of no row
or_row-next :
    (alone : UdpRow) (rows : List UdpRow) (before after : List Trit) (s : Trit)
    → row_next s alone ≡ Unknown → udp_next (or_row alone rows) before after s ≡ udp_next rows before after s
or_row-next alone [] before after s e =
    ap (λ v. cond (level_hit before after s alone) v (cond (edge_hit before after s alone) v Unknown)) e
    ∙ ap (cond (level_hit before after s alone) Unknown) (cond-same (edge_hit before after s alone) Unknown)
    ∙ cond-same (level_hit before after s alone) Unknown
or_row-next alone (row ∷ rows) before after s e = refl

pub next-value : (s v : Trit) → next_of s (next_to v) ≡ v
next-value s Zero = refl
next-value s One = refl
next-value s Unknown = refl

-- the row of the notifier
notifier-levels : (checks : Bool) (n : ℕ) (row : UdpRow) → Among row (notifier_rows checks n) → is_level_row row ≡ false
notifier-levels false n row m = absurd m
notifier-levels true n row m =
    elim m [
      | inl e ↦
          ap is_level_row (sym e)
          ∙ list_all-append is_level (map level_entry (replicate n Unknown)) (entry.Star ∷ [])
          ∙ and-false (list_all is_level (map level_entry (replicate n Unknown)))
      | inr k ↦ absurd k
    ]

notifier-next : (checks : Bool) (n : ℕ) (row : UdpRow) (s : Trit) → Among row (notifier_rows checks n) → row_next s row ≡ Unknown
notifier-next false n row s m = absurd m
notifier-next true n row s m = elim m [ inl e ↦ ap (row_next s) (sym e) | inr k ↦ absurd k ]

notifier-still :
    (checks : Bool) (n : ℕ) (row : UdpRow) (olds news : List Trit) (x s : Trit)
    → Among row (notifier_rows checks n) → length olds ≡ n → length news ≡ n
    → row_matches (noted checks x olds) (noted checks x news) s row ≡ false
notifier-still false n row olds news x s m f g = absurd m
notifier-still true n row olds news x s m f g =
    let es : List Entry = map level_entry (replicate n Unknown) in
    let few : length es ≡ n = length-map (replicate n Unknown) level_entry ∙ length-replicate n Unknown in
    elim m [
      | inl e ↦
          ap (row_matches (noted true x olds) (noted true x news) s) (sym e)
          ∙ and_left (columns_match entry_matches (es ++ entry.Star ∷ []) (olds ++ x ∷ []) (news ++ x ∷ [])) true
          (columns-push entry_matches es entry.Star olds x news x (f ∙ sym few) (g ∙ sym few)
          ∙ ap (λ b. columns_match entry_matches es olds news && not b) (same-self x)
          ∙ and-false (columns_match entry_matches es olds news))
      | inr k ↦ absurd k
    ]

-- the rows of levels fit, whether they are looked at alone or among all
levels-fit :
    (checks : Bool) (n : ℕ) (olds news : List Trit) (x y s : Trit)
    → length olds ≡ n → length news ≡ n
    → FitsForced UdpRow n news (state_row checks) (row_matches (noted checks x olds) (noted checks y news) s) (row_next s)
levels-fit checks n olds news x y s f g =
    record {
      long = g;
      made = λ v c long. state_row-matches checks v c olds news x y s (f ∙ sym long) (g ∙ sym long);
      gives = λ v c. next-value s v;
    }

hits-fit :
    (n : ℕ) (inputs : List Trit) (old new s : Trit)
    → length inputs ≡ n → FitsForced UdpRow n inputs (state_row true)
    (level_hit (noted true old inputs) (noted true new inputs) s) (row_next s)
hits-fit n inputs old new s f =
    record {
      long = f;
      made = λ v c long.
          ap (λ q. q && row_matches (noted true old inputs) (noted true new inputs) s (state_row true v c))
          (state_row-levels true v c)
          ∙ state_row-matches true v c inputs inputs old new s (f ∙ sym long) (f ∙ sym long);
      gives = λ v c. next-value s v;
    }

forced-levels :
    (checks : Bool) (n : ℕ) (step : Step) (row : UdpRow) → Among row (forced_rows (state_row checks) n step)
    → is_level_row row ≡ true
forced-levels checks n step row m =
    let r = value_rows-among (state_row checks) (λ (v : Trit). prime_list n (gives v (forced_at step))) row m in
    ap is_level_row (sym r.4) ∙ state_row-levels checks r.0 r.2

-- each row that matches a change of an input gives the machine's step
change-given :
    (checks : Bool) (n : ℕ) (step : Step) (changes : ℕ → List UdpRow) (p : ℕ) (a b : Trit) (others : List Trit) (x s : Trit)
    → Serves checks n step changes → p < n → suc (length others) ≡ n → same a b ≡ false
    → (row : UdpRow) → Among row (forced_rows (state_row checks) n step ++ notifier_rows checks n ++ each_below changes n)
    → row_matches (noted checks x (insert p a others)) (noted checks x (insert p b others)) s row ≡ true
    → row_next s row ≡ machine_step step p a b others s
change-given checks n step changes p a b others x s serves l long apart row m h =
    let f : length (insert p a others) ≡ n = length-insert p a others ∙ long in
    let g : length (insert p b others) ≡ n = length-insert p b others ∙ long in
    elim (among-append row (forced_rows (state_row checks) n step ++ notifier_rows checks n) (each_below changes n) m) [
      | inl front ↦
          elim (among-append row (forced_rows (state_row checks) n step) (notifier_rows checks n) front) [
            | inl k ↦
                let r = forced-given step (levels-fit checks n (insert p a others) (insert p b others) x x s f g) row k h in
                r.3 ∙ sym (forced_is_step-lem step p a b others s r.0 r.2 r.1)
            | inr k ↦
                let clash : false ≡ true
                = sym (notifier-still checks n row (insert p a others) (insert p b others) x s k f g) ∙ h in
                absurd cc
          ]
      | inr k ↦ served serves.rows p a b others x x s l long apart row k h
    ]

pub step_rows-change :
    (checks : Bool) (n : ℕ) (step : Step) (changes : ℕ → List UdpRow) (p : ℕ) (a b : Trit) (others : List Trit) (x s : Trit)
    → Serves checks n step changes → p < n → suc (length others) ≡ n → same a b ≡ false
    → udp_next (step_rows checks n step changes) (noted checks x (insert p a others)) (noted checks x (insert p b others)) s
    ≡ machine_step step p a b others s
step_rows-change checks n step changes p a b others x s serves l long apart =
    let before : List Trit = noted checks x (insert p a others) in
    let after : List Trit = noted checks x (insert p b others) in
    let v : Trit = machine_step step p a b others s in
    let fronts : List UdpRow = forced_rows (state_row checks) n step ++ notifier_rows checks n in
    let rows : List UdpRow = fronts ++ each_below changes n in
    let given = change-given checks n step changes p a b others x s serves l long apart in
    or_row-next (state_row checks Unknown (replicate n Unknown)) rows before after s refl
    ∙ first-gives (level_hit before after s) (row_next s) v (first (edge_hit before after s) (row_next s) rows Unknown) rows
    (λ row m h. given row m (and_parts (is_level_row row) (row_matches before after s row) h).1)
    (λ _.
    first-gives (edge_hit before after s) (row_next s) v Unknown rows
    (λ row m h. given row m (and_parts (not (is_level_row row)) (row_matches before after s row) h).1)
    (λ none.
    elim (known-or v) [
      | inl known ↦
          let r = any-found (row_matches before after s) (changes p) (serves.rows.found p a b others x x s l long apart known) in
          let hit : edge_hit before after s r.0 ≡ true
          = and_from (not (is_level_row r.0)) (row_matches before after s r.0) (ap not (serves.edges p r.0 l r.1)) r.2 in
          let some : list_any (edge_hit before after s) rows ≡ true
          = found-any (edge_hit before after s) r.0 rows
          (append-among_right r.0 fronts (each_below changes n) (among-below changes n p r.0 l r.1)) hit in
          let clash : false ≡ true = sym none ∙ some in absurd cc
      | inr e ↦ sym e
    ]))

-- at a change of the notifier only rows of levels decide
level-given :
    (n : ℕ) (step : Step) (changes : ℕ → List UdpRow) (inputs : List Trit) (old new s : Trit)
    → Serves true n step changes → length inputs ≡ n
    → (row : UdpRow) → Among row (forced_rows (state_row true) n step ++ notifier_rows true n ++ each_below changes n)
    → level_hit (noted true old inputs) (noted true new inputs) s row ≡ true → row_next s row ≡ forced step inputs
level-given n step changes inputs old new s serves long row m h =
    let both = and_parts (is_level_row row) (row_matches (noted true old inputs) (noted true new inputs) s row) h in
    elim (among-append row (forced_rows (state_row true) n step ++ notifier_rows true n) (each_below changes n) m) [
      | inl front ↦
          elim (among-append row (forced_rows (state_row true) n step) (notifier_rows true n) front) [
            | inl k ↦ let r = forced-given step (levels-fit true n inputs inputs old new s long long) row k both.1
                in r.3 ∙ sym r.2
            | inr k ↦ let clash : false ≡ true = sym (notifier-levels true n row k) ∙ both.0 in absurd cc
          ]
      | inr k ↦
          let r = below-among changes n row k in
          let clash : false ≡ true = sym (serves.edges r.0 row r.1 r.2) ∙ both.0 in absurd cc
    ]

edge-given :
    (n : ℕ) (step : Step) (changes : ℕ → List UdpRow) (inputs : List Trit) (old new s : Trit)
    → Serves true n step changes → length inputs ≡ n
    → (row : UdpRow) → Among row (forced_rows (state_row true) n step ++ notifier_rows true n ++ each_below changes n)
    → edge_hit (noted true old inputs) (noted true new inputs) s row ≡ true → row_next s row ≡ Unknown
edge-given n step changes inputs old new s serves long row m h =
    let both = and_parts (not (is_level_row row)) (row_matches (noted true old inputs) (noted true new inputs) s row) h in
    elim (among-append row (forced_rows (state_row true) n step ++ notifier_rows true n) (each_below changes n) m) [
      | inl front ↦
          elim (among-append row (forced_rows (state_row true) n step) (notifier_rows true n) front) [
            | inl k ↦ let clash : false ≡ true = sym (ap not (forced-levels true n step row k)) ∙ both.0 in absurd cc
            | inr k ↦ notifier-next true n row s k
          ]
      | inr k ↦
          let r = below-among changes n row k in
          let clash : false ≡ true = sym (serves.rows.still r.0 row inputs inputs old new s r.1 r.2 long long refl) ∙ both.1
          in absurd cc
    ]

pub step_rows-note :
    (n : ℕ) (step : Step) (changes : ℕ → List UdpRow) (inputs : List Trit) (old new s : Trit)
    → Serves true n step changes → length inputs ≡ n
    → udp_next (step_rows true n step changes) (noted true old inputs) (noted true new inputs) s ≡ forced step inputs
step_rows-note n step changes inputs old new s serves long =
    let before : List Trit = noted true old inputs in
    let after : List Trit = noted true new inputs in
    let v : Trit = forced step inputs in
    let levels : List UdpRow = forced_rows (state_row true) n step in
    let rows : List UdpRow = levels ++ notifier_rows true n ++ each_below changes n in
    let last_pass : first (edge_hit before after s) (row_next s) rows Unknown ≡ Unknown
    = first-gives (edge_hit before after s) (row_next s) Unknown Unknown rows
    (edge-given n step changes inputs old new s serves long) (λ _. refl) in
    or_row-next (state_row true Unknown (replicate n Unknown)) rows before after s refl
    ∙ first-gives (level_hit before after s) (row_next s) v (first (edge_hit before after s) (row_next s) rows Unknown) rows
    (level-given n step changes inputs old new s serves long)
    (λ none.
    elim (known-or v) [
      | inl known ↦
          let some : list_any (level_hit before after s) rows ≡ true
          = any-front (level_hit before after s) (levels ++ notifier_rows true n) (each_below changes n)
          (any-front (level_hit before after s) levels (notifier_rows true n)
          (forced-found step (hits-fit n inputs old new s long) known)) in
          let clash : false ≡ true = sym none ∙ some in absurd cc
      | inr e ↦ last_pass ∙ sym e
    ])
