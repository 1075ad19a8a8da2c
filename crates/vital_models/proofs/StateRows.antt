-- Rows of a step whose changes serve give the machine's steps.
use Rattle.std.proofs.Common.{◌≡◌, ℕ, zero, suc, ◌<◌, Bool, true, false, cond, ◌&&◌, List, [], ◌∷◌, ◌++◌, length, replicate}
use Rattle.std.proofs.Common.{inl, inr, refl, sym, ◌∙◌, ap, arith}
use Rattle.trit_cubes.specs.declared.trits.Trit.{Trit}
use Rattle.trit_cubes.specs.declared.trits.Trit.TheVariants.{Zero, One, Unknown}
use Rattle.trit_cubes.specs.Filling.{same, covers}
use Rattle.trit_cubes.proofs.ListLemmas.{Among, among-append, append-among_right}
use Rattle.cell_machine.specs.Machine.{Step, insert, machine_step, forced}
use Rattle.cell_machine.proofs.ForcedLemmas.{forced_is_step-lem}
use Rattle.vital_tables.specs.udp_tables.Tables.{first}
use Rattle.vital_tables.specs.udp_tables.Edges.{forced_rows, each_below}
use Rattle.vital_tables.proofs.udp_tables.FirstLemmas.{found-any, any-found, cond-same, first-append, first-gives}
use Rattle.vital_tables.proofs.udp_tables.ColumnLemmas.{length-insert}
use Rattle.vital_tables.proofs.udp_tables.CubeLemmas.{known-or, among-below}
use Rattle.cell_tables.proofs.ChangeColumns.{levels-cover}
use Rattle.cell_tables.proofs.ServingRows.{ServesChanges, served}
use Rattle.cell_tables.proofs.ForcedRows.{FitsForced, forced-given, forced-found}
use Rattle.vital_tables.specs.declared.table.VStateRow.{VStateRow}
use Rattle.vital_tables.specs.Symbols.{next_of}
use Rattle.vital_tables.specs.LookUps.{state_matches, row_next, lookup_state}
use Rattle.vital_tables.specs.Rows.{violated, next_to, steady_row, level_row, violation_rows, closing_row, step_rows}
use Rattle.vital_models.proofs.SymbolLemmas.{symbols-fit, steady-matches, steady-moved, level_row-matches}

-- what the rows of the changes of each pin have to do
abbrev pub Serves : Bool → ℕ → Step → (ℕ → List VStateRow) → Type 0
Serves checks = ServesChanges VStateRow state_matches row_next (violated checks)

pub next-value : (s v : Trit) → next_of s (next_to v) ≡ v
next-value s Zero = refl
next-value s One = refl
next-value s Unknown = refl

-- the rows before the last one
abbrev front : Bool → ℕ → Step → (ℕ → List VStateRow) → List VStateRow
front checks n step changes =
    steady_row checks n ∷ (forced_rows (level_row checks) n step ++ (violation_rows checks n ++ each_below changes n))

-- the last row gives what stands for no row
without-closing :
    (checks : Bool) (n : ℕ) (step : Step) (changes : ℕ → List VStateRow) (before after : List Trit) (s : Trit)
    → lookup_state (step_rows checks n step changes) before after s ≡ lookup_state (front checks n step changes) before after s
without-closing checks n step changes before after s =
    first-append (state_matches before after s) (row_next s) (front checks n step changes) (closing_row checks n ∷ []) Unknown
    ∙ ap (first (state_matches before after s) (row_next s) (front checks n step changes))
    (cond-same (state_matches before after s (closing_row checks n)) Unknown)

-- the row of the violation matches nothing without one
violation-none :
    (checks : Bool) (n : ℕ) (row : VStateRow) (olds news : List Trit) (x s : Trit)
    → Among row (violation_rows checks n) → state_matches (violated checks x olds) (violated checks Zero news) s row ≡ false
violation-none false n row olds news x s m = absurd m
violation-none true n row olds news x s m =
    elim m [
      | inl e ↦ ap (state_matches (x ∷ olds) (Zero ∷ news) s) (sym e)
      | inr k ↦ absurd k
    ]

-- the rows of levels fit
levels-fit :
    (checks : Bool) (n : ℕ) (olds news : List Trit) (x y s : Trit)
    → length olds ≡ n → length news ≡ n
    → FitsForced VStateRow n news (level_row checks) (state_matches (violated checks x olds) (violated checks y news) s)
    (row_next s)
levels-fit checks n olds news x y s f g =
    record {
      long = g;
      made = λ v c long. level_row-matches checks v c olds news x y s (f ∙ sym g);
      gives = λ v c. next-value s v;
    }

-- the first row keeps the state where nothing changes
steady-hit :
    (checks : Bool) (n : ℕ) (inputs : List Trit) (x s : Trit)
    → length inputs ≡ n → state_matches (violated checks x inputs) (violated checks Zero inputs) s (steady_row checks n) ≡ true
steady-hit false n inputs x s e = ap (λ b. b && true) (steady-matches n inputs e)
steady-hit true n inputs x s e = ap (λ b. b && true) (steady-matches n inputs e)

steady-missed :
    (checks : Bool) (n p : ℕ) (a b : Trit) (others : List Trit) (x y s : Trit)
    → suc (length others) ≡ n → p < n → same a b ≡ false
    → state_matches (violated checks x (insert p a others)) (violated checks Zero (insert p b others)) s
    (steady_row checks n) ≡ false
steady-missed false n p a b others x y s e l h = ap (λ c. c && true) (steady-moved n p a b others e l h)
steady-missed true n p a b others x y s e l h = ap (λ c. c && true) (steady-moved n p a b others e l h)

pub step_rows-keep :
    (checks : Bool) (n : ℕ) (step : Step) (changes : ℕ → List VStateRow) (inputs : List Trit) (x s : Trit)
    → length inputs ≡ n
    → lookup_state (step_rows checks n step changes) (violated checks x inputs) (violated checks Zero inputs) s ≡ s
step_rows-keep checks n step changes inputs x s e =
    ap (λ b. cond b s (lookup_state ((forced_rows (level_row checks) n step ++ (violation_rows checks n ++ each_below changes n))
    ++ closing_row checks n ∷ []) (violated checks x inputs) (violated checks Zero inputs) s))
    (steady-hit checks n inputs x s e)

-- each row that matches a change of a pin gives the machine's step
change-given :
    (checks : Bool) (n : ℕ) (step : Step) (changes : ℕ → List VStateRow) (p : ℕ) (a b : Trit) (others : List Trit) (x s : Trit)
    → Serves checks n step changes → p < n → suc (length others) ≡ n → same a b ≡ false
    → (row : VStateRow) → Among row (front checks n step changes)
    → state_matches (violated checks x (insert p a others)) (violated checks Zero (insert p b others)) s row ≡ true
    → row_next s row ≡ machine_step step p a b others s
change-given checks n step changes p a b others x s serves l long apart row m h =
    let f : length (insert p a others) ≡ n = length-insert p a others ∙ long in
    let g : length (insert p b others) ≡ n = length-insert p b others ∙ long in
    elim m [
      | inl e ↦
          let clash : false ≡ true
          = sym (steady-missed checks n p a b others x Zero s long l apart)
          ∙ ap (state_matches (violated checks x (insert p a others)) (violated checks Zero (insert p b others)) s) e ∙ h in
          absurd cc
      | inr rest ↦
          elim (among-append row (forced_rows (level_row checks) n step) (violation_rows checks n ++ each_below changes n) rest) [
            | inl k ↦
                let r = forced-given step (levels-fit checks n (insert p a others) (insert p b others) x Zero s f g) row k h in
                r.3 ∙ sym (forced_is_step-lem step p a b others s r.0 r.2 r.1)
            | inr more ↦
                elim (among-append row (violation_rows checks n) (each_below changes n) more) [
                  | inl k ↦
                      let clash : false ≡ true
                      = sym (violation-none checks n row (insert p a others) (insert p b others) x s k) ∙ h in
                      absurd cc
                  | inr k ↦ served serves p a b others x Zero s l long apart row k h
                ]
          ]
    ]

pub step_rows-change :
    (checks : Bool) (n : ℕ) (step : Step) (changes : ℕ → List VStateRow) (p : ℕ) (a b : Trit) (others : List Trit) (x s : Trit)
    → Serves checks n step changes → p < n → suc (length others) ≡ n → same a b ≡ false
    → lookup_state (step_rows checks n step changes) (violated checks x (insert p a others))
    (violated checks Zero (insert p b others)) s
    ≡ machine_step step p a b others s
step_rows-change checks n step changes p a b others x s serves l long apart =
    let before : List Trit = violated checks x (insert p a others) in
    let after : List Trit = violated checks Zero (insert p b others) in
    let hit : VStateRow → Bool = state_matches before after s in
    without-closing checks n step changes before after s
    ∙ first-gives hit (row_next s) (machine_step step p a b others s) Unknown (front checks n step changes)
    (change-given checks n step changes p a b others x s serves l long apart)
    (λ none.
    elim (known-or (machine_step step p a b others s)) [
      | inl known ↦
          let r = any-found hit (changes p) (serves.found p a b others x Zero s l long apart known) in
          let among : Among r.0 (front checks n step changes)
          = inr (append-among_right r.0 (forced_rows (level_row checks) n step) (violation_rows checks n ++ each_below changes n)
          (append-among_right r.0 (violation_rows checks n) (each_below changes n) (among-below changes n p r.0 l r.1))) in
          let clash : false ≡ true = sym none ∙ found-any hit r.0 (front checks n step changes) among r.2 in absurd cc
      | inr e ↦ sym e
    ])

-- free places match all
free-covers : (n : ℕ) (ts : List Trit) → length ts ≡ n → covers (replicate n Unknown) ts ≡ true
free-covers zero [] e = refl
free-covers zero (t ∷ ts) e = absurd (omega arith)
free-covers (suc n) [] e = absurd (omega arith)
free-covers (suc n) (t ∷ ts) e = free-covers n ts (omega arith)

-- the row of the violation matches where there is one
violation-decides :
    (n : ℕ) (changes : ℕ → List VStateRow) (x : Trit) (olds inputs : List Trit) (s : Trit)
    → length olds ≡ n → length inputs ≡ n
    → first (state_matches (x ∷ olds) (Unknown ∷ inputs) s) (row_next s) (violation_rows true n ++ each_below changes n)
    Unknown ≡ Unknown
violation-decides n changes x olds inputs s f g =
    ap (λ b. cond (b && true) Unknown
    (first (state_matches (x ∷ olds) (Unknown ∷ inputs) s) (row_next s) (each_below changes n) Unknown))
    (levels-cover symbols-fit (replicate n Unknown) olds inputs (f ∙ sym g) ∙ free-covers n inputs g)

-- With a violation the rows of levels decide, and else the row of the violation.
pub step_rows-force :
    (n : ℕ) (step : Step) (changes : ℕ → List VStateRow) (x : Trit) (olds inputs : List Trit) (s : Trit)
    → length olds ≡ n → length inputs ≡ n
    → lookup_state (step_rows true n step changes) (x ∷ olds) (Unknown ∷ inputs) s ≡ forced step inputs
step_rows-force n step changes x olds inputs s f g =
    let hit : VStateRow → Bool = state_matches (x ∷ olds) (Unknown ∷ inputs) s in
    let rows : List VStateRow = forced_rows (level_row true) n step in
    let rest : List VStateRow = violation_rows true n ++ each_below changes n in
    let after : Trit = first hit (row_next s) rest Unknown in
    let unknown : after ≡ Unknown = violation-decides n changes x olds inputs s f g in
    without-closing true n step changes (x ∷ olds) (Unknown ∷ inputs) s
    ∙ first-append hit (row_next s) rows rest Unknown
    ∙ first-gives hit (row_next s) (forced step inputs) after rows
    (λ row m h.
    let r = forced-given step (levels-fit true n olds inputs x Unknown s f g) row m h in r.3 ∙ sym r.2)
    (λ none.
    elim (known-or (forced step inputs)) [
      | inl known ↦ let clash : false ≡ true = sym none ∙ forced-found step (levels-fit true n olds inputs x Unknown s f g) known
          in absurd cc
      | inr e ↦ unknown ∙ sym e
    ])
