-- The rows of changes, of any kind of row: in plain and in compact form they give the machine's steps.
use Rattle.std.proofs.Common.{◌≡◌, ◌≢◌, ℕ, suc, ◌<◌, ◌≤◌, Bool, true, false, ◌&&◌, List, [], ◌∷◌, ◌++◌, map, length, get_or, set}
use Rattle.std.proofs.Common.{sym, ◌∙◌, ap, arith}
use Rattle.std.specs.List.{list_any}
use Rattle.std.proofs.lemmas.Bool.{and_left}
use Rattle.std.proofs.lemmas.List.{length-map}
use Rattle.trit_cubes.specs.declared.trits.Trit.{Trit}
use Rattle.trit_cubes.specs.declared.trits.Trit.TheVariants.{One, Unknown}
use Rattle.trit_cubes.specs.Filling.{same, covers}
use Rattle.trit_cubes.proofs.ListLemmas.{Among}
use Rattle.cell_machine.specs.Machine.{Step, insert, without, init, last, machine_step}
use Rattle.udp_tables.specs.Tables.{columns_match}
use Rattle.udp_tables.specs.Edges.{moves, change_columns, edge_cubes, edge_rows, compact_edge_rows, each_below}
use Rattle.udp_tables.proofs.ColumnLemmas.{and-true, length-insert, length-without, before-change}
use Rattle.udp_tables.proofs.CubeLemmas.{admits, differ, edge-long, edge-moves}
use Rattle.udp_tables.proofs.SymbolLemmas.{length-init}
use Rattle.cell_tables.proofs.ChangeColumns.{FitsEntries, columns-with, levels-cover, change-kept, change-covers}
use Rattle.cell_tables.proofs.ForcedRows.{changed-own}
use Rattle.cell_tables.proofs.RowForms.{FitsCubes, FitsPairs, rows-each, rows-right, rows-found, compact-each, compact-right}
use Rattle.cell_tables.proofs.RowForms.{compact-found}

-- How rows hold the columns of the inputs beside one for the checks, if there is one: it is free, so they match what those of the
-- inputs match.
pub record FitsFrame
    (V : Type 0) (fit : V → Trit → Trit → Bool) (framed : List V → List V) (values : Trit → List Trit → List Trit) : Type 0 where
  pub free :
      (es : List V) (olds news : List Trit) (x y : Trit) → length olds ≡ length es → length news ≡ length es
      → columns_match fit (framed es) (values x olds) (values y news) ≡ columns_match fit es olds news

module _
    {V : Type 0} {fit : V → Trit → Trit → Bool} {level : Trit → V} {edge : Trit → Trit → V} {framed : List V → List V}
    {values : Trit → List Trit → List Trit} (fits : FitsEntries V fit level edge) (frame : FitsFrame V fit framed values) where
  -- levels of a cube match what the cube covers
  pub frame-levels :
      (c olds news : List Trit) (x y : Trit) → length olds ≡ length c → length news ≡ length c
      → columns_match fit (framed (map level c)) (values x olds) (values y news) ≡ covers c news
  frame-levels c olds news x y f g =
      frame.free (map level c) olds news x y (f ∙ sym (length-map c level)) (g ∙ sym (length-map c level))
      ∙ levels-cover fits c olds news (f ∙ sym g)

  change-free :
      (p : ℕ) (old new r : Trit) (rest olds news : List Trit) (x y : Trit)
      → length olds ≡ suc (length rest) → length news ≡ suc (length rest)
      → columns_match fit (framed (change_columns level edge p (old ∷ new ∷ r ∷ rest))) (values x olds) (values y news)
      ≡ columns_match fit (change_columns level edge p (old ∷ new ∷ r ∷ rest)) olds news
  change-free p old new r rest olds news x y f g =
      let es : List V = map level (init (r ∷ rest)) in
      let few : length es ≡ length rest = length-map (init (r ∷ rest)) level ∙ length-init r rest in
      let all : length (insert p (edge old new) es) ≡ suc (length es) = length-insert p (edge old new) es in
      frame.free (insert p (edge old new) es) olds news x y (omega (arith, few, all, f)) (omega (arith, few, all, g))

  -- the columns of a change match nothing where their input keeps its value
  pub frame-kept :
      (p : ℕ) (c olds news : List Trit) (x y : Trit) (n : ℕ)
      → p < n → length c ≡ suc (suc n) → length olds ≡ n → length news ≡ n → get_or olds p Unknown ≡ get_or news p Unknown
      → columns_match fit (framed (change_columns level edge p c)) (values x olds) (values y news) ≡ false
  frame-kept p [] olds news x y n l e f g h = absurd (omega arith)
  frame-kept p (old ∷ []) olds news x y n l e f g h = absurd (omega arith)
  frame-kept p (old ∷ new ∷ []) olds news x y n l e f g h = absurd (omega arith)
  frame-kept p (old ∷ new ∷ r ∷ rest) olds news x y n l e f g h =
      change-free p old new r rest olds news x y (omega arith) (omega arith)
      ∙ change-kept fits p old new r rest olds news (omega arith) (omega arith) (omega arith) h

  -- with a state that the last place of the cube admits they match the changes that the cube covers
  pub frame-covers :
      (p : ℕ) (c : List Trit) (a b : Trit) (others : List Trit) (x y t : Trit)
      → p ≤ length others → length c ≡ suc (suc (suc (length others))) → same a b ≡ false → moves c ≡ true
      → covers c (a ∷ b ∷ others ++ t ∷ [])
      ≡ (columns_match fit (framed (change_columns level edge p c)) (values x (insert p a others)) (values y (insert p b others))
      && admits (last Unknown c) t)
  frame-covers p [] a b others x y t l e apart m = absurd (omega arith)
  frame-covers p (old ∷ []) a b others x y t l e apart m = absurd (omega arith)
  frame-covers p (old ∷ new ∷ []) a b others x y t l e apart m = absurd (omega arith)
  frame-covers p (old ∷ new ∷ r ∷ rest) a b others x y t l e apart m =
      let few : length others ≡ length rest = omega arith in
      sym (ap (λ q. q && admits (last Unknown (r ∷ rest)) t)
      (change-free p old new r rest (insert p a others) (insert p b others) x y (length-insert p a others ∙ ap suc few)
      (length-insert p b others ∙ ap suc few))
      ∙ change-covers fits p old new r rest a b others t l (sym few) apart m)

-- what the rows of the changes of each input have to do
pub record ServesChanges
    (R : Type 0) (hit : List Trit → List Trit → Trit → R → Bool) (next : Trit → R → Trit) (values : Trit → List Trit → List Trit)
    (n : ℕ) (step : Step) (changes : ℕ → List R) : Type 0 where
  -- they match nothing where their input keeps its value
  pub still :
      (p : ℕ) (row : R) (olds news : List Trit) (x y s : Trit)
      → p < n → Among row (changes p) → length olds ≡ n → length news ≡ n → get_or olds p Unknown ≡ get_or news p Unknown
      → hit (values x olds) (values y news) s row ≡ false
  -- where one matches a change of its input, it gives the machine's step
  pub right :
      (p : ℕ) (row : R) (a b : Trit) (others : List Trit) (x y s : Trit)
      → p < n → Among row (changes p) → suc (length others) ≡ n → same a b ≡ false
      → hit (values x (insert p a others)) (values y (insert p b others)) s row ≡ true
      → next s row ≡ machine_step step p a b others s
  -- where the machine's step is known, some match
  pub found :
      (p : ℕ) (a b : Trit) (others : List Trit) (x y s : Trit)
      → p < n → suc (length others) ≡ n → same a b ≡ false → machine_step step p a b others s ≢ Unknown
      → list_any (hit (values x (insert p a others)) (values y (insert p b others)) s) (changes p) ≡ true

-- How rows are made of the columns of a change: one that asks for the state of the cube and gives a value, and one that keeps any
-- state.
pub record MakesRows
    (V R : Type 0) (fit : V → Trit → Trit → Bool) (columns : ℕ → List Trit → List V)
    (hit : List Trit → List Trit → Trit → R → Bool) (next : Trit → R → Trit) (make : ℕ → Trit → List Trit → R)
    (keep : ℕ → List Trit → R) : Type 0 where
  pub made :
      (p : ℕ) (v : Trit) (c olds news : List Trit) (s : Trit)
      → hit olds news s (make p v c) ≡ (columns_match fit (columns p c) olds news && admits (last Unknown c) s)
  pub gives : (p : ℕ) (v : Trit) (c : List Trit) (s : Trit) → next s (make p v c) ≡ v
  pub kept :
      (p : ℕ) (c olds news : List Trit) (s : Trit) → hit olds news s (keep p c) ≡ columns_match fit (columns p c) olds news
  pub stays : (p : ℕ) (c : List Trit) (s : Trit) → next s (keep p c) ≡ s

-- Rows of entries, of a level for the state and of what they give are made so, where a level for a place of a cube matches the
-- states that the place admits.
pub makes-rows :
    {V L N R : Type 0} {fit : V → Trit → Trit → Bool} {columns : ℕ → List Trit → List V}
    {hit : List Trit → List Trit → Trit → R → Bool} {next : Trit → R → Trit} (row : List V → L → N → R) (level_fit : L → Trit → Bool)
    (level : Trit → L) (any : L) (gives : Trit → N → Trit) (to : Trit → N) (keep : N)
    → ((es : List V) (l : L) (m : N) (olds news : List Trit) (s : Trit)
    → hit olds news s (row es l m) ≡ (columns_match fit es olds news && level_fit l s))
    → ((es : List V) (l : L) (m : N) (s : Trit) → next s (row es l m) ≡ gives s m)
    → ((w t : Trit) → level_fit (level w) t ≡ admits w t) → ((t : Trit) → level_fit any t ≡ true)
    → ((s v : Trit) → gives s (to v) ≡ v) → ((s : Trit) → gives s keep ≡ s)
    → MakesRows V R fit columns hit next (λ p v c. row (columns p c) (level (last Unknown c)) (to v))
    (λ p c. row (columns p c) any keep)
makes-rows {fit = fit} {columns = columns} row level_fit level any gives to keep hits nexts admitted free given kept =
    record {
      made = λ p v c olds news s.
          hits (columns p c) (level (last Unknown c)) (to v) olds news s
          ∙ ap (λ q. columns_match fit (columns p c) olds news && q) (admitted (last Unknown c) s);
      gives = λ p v c s. nexts (columns p c) (level (last Unknown c)) (to v) s ∙ given s v;
      kept = λ p c olds news s.
          hits (columns p c) any keep olds news s ∙ ap (λ q. columns_match fit (columns p c) olds news && q) (free s)
          ∙ and-true (columns_match fit (columns p c) olds news);
      stays = λ p c s. nexts (columns p c) any keep s ∙ kept s;
    }

module _
    {V R : Type 0} {fit : V → Trit → Trit → Bool} {level : Trit → V} {edge : Trit → Trit → V} {framed : List V → List V}
    {values : Trit → List Trit → List Trit} {hit : List Trit → List Trit → Trit → R → Bool} {next : Trit → R → Trit}
    {make : ℕ → Trit → List Trit → R} {keep : ℕ → List Trit → R} (fits : FitsEntries V fit level edge)
    (frame : FitsFrame V fit framed values)
    (rows : MakesRows V R fit (λ p c. framed (change_columns level edge p c)) hit next make keep) where
  -- whether the columns of a cube match a change, without the state
  abbrev columns : ℕ → Trit → Trit → List Trit → Trit → Trit → List Trit → Bool
  columns p a b others x y c =
      columns_match fit (framed (change_columns level edge p c)) (values x (insert p a others)) (values y (insert p b others))

  cubes-fit :
      (n : ℕ) (step : Step) (p : ℕ) (a b : Trit) (others : List Trit) (x y s : Trit)
      → p < n → suc (length others) ≡ n → same a b ≡ false
      → FitsCubes R n step p a b others s (make p) (hit (values x (insert p a others)) (values y (insert p b others)) s) (next s)
      (columns p a b others x y)
  cubes-fit n step p a b others x y s l long apart =
      record {
        long = long;
        apart = apart;
        parts = λ v c t m.
            let wide : length c ≡ suc (suc n) = edge-long step n p v c m in
            frame-covers fits frame p c a b others x y t (omega arith) (omega arith) apart (edge-moves step n p v c m);
        made = λ v c. rows.made p v c (values x (insert p a others)) (values y (insert p b others)) s;
        gives = λ v c. rows.gives p v c s;
      }

  pairs-fit :
      (p : ℕ) (a b : Trit) (others : List Trit) (x y s : Trit)
      → FitsPairs R s (keep p) (hit (values x (insert p a others)) (values y (insert p b others)) s) (next s)
      (columns p a b others x y)
  pairs-fit p a b others x y s =
      record {
        kept = λ c. rows.kept p c (values x (insert p a others)) (values y (insert p b others)) s;
        stays = λ c. rows.stays p c s;
        free = λ t c l.
            ap (λ es. columns_match fit (framed es) (values x (insert p a others)) (values y (insert p b others)))
            (columns-with level edge p t c l);
      }

  -- a row of a cube matches nothing where its input keeps its value
  made-still :
      (n : ℕ) (step : Step) (p : ℕ) (olds news : List Trit) (x y s : Trit)
      → p < n → length olds ≡ n → length news ≡ n → get_or olds p Unknown ≡ get_or news p Unknown
      → (v : Trit) (c : List Trit) → Among c (edge_cubes step n p v)
      → hit (values x olds) (values y news) s (make p v c) ≡ false
  made-still n step p olds news x y s l f g h v c m =
      rows.made p v c (values x olds) (values y news) s
      ∙ and_left (columns_match fit (framed (change_columns level edge p c)) (values x olds) (values y news))
      (admits (last Unknown c) s) (frame-kept fits frame p c olds news x y n l (edge-long step n p v c m) f g h)

  pub edge_rows-serve : (n : ℕ) (step : Step) → ServesChanges R hit next values n step (edge_rows make step n)
  edge_rows-serve n step =
      record {
        still = λ p row olds news x y s l m f g h.
            rows-each (λ r. hit (values x olds) (values y news) s r ≡ false) (make p) (edge_cubes step n p)
            (made-still n step p olds news x y s l f g h) row m;
        right = λ p row a b others x y s l m long apart. rows-right (cubes-fit n step p a b others x y s l long apart) row m;
        found = λ p a b others x y s l long apart. rows-found (cubes-fit n step p a b others x y s l long apart);
      }

  pub compact_rows-serve : (n : ℕ) (step : Step) → ServesChanges R hit next values n step (compact_edge_rows make keep step n)
  compact_rows-serve n step =
      record {
        still = λ p row olds news x y s l m f g h.
            compact-each (λ r. hit (values x olds) (values y news) s r ≡ false) (make p) (keep p) (edge_cubes step n p)
            (made-still n step p olds news x y s l f g h)
            (λ c k. rows.kept p c (values x olds) (values y news) s
            ∙ frame-kept fits frame p c olds news x y n l (edge-long step n p One c k) f g h) row m;
        right = λ p row a b others x y s l m long apart.
            compact-right (cubes-fit n step p a b others x y s l long apart) (pairs-fit p a b others x y s) row m;
        found = λ p a b others x y s l long apart.
            compact-found (cubes-fit n step p a b others x y s l long apart) (pairs-fit p a b others x y s);
      }

-- where one input changes alone, a row of a change that matches gives the machine's step
pub served :
    {R : Type 0} {hit : List Trit → List Trit → Trit → R → Bool} {next : Trit → R → Trit} {values : Trit → List Trit → List Trit}
    {n : ℕ} {step : Step} {changes : ℕ → List R} → ServesChanges R hit next values n step changes
    → (p : ℕ) (a b : Trit) (others : List Trit) (x y s : Trit) → p < n → suc (length others) ≡ n → same a b ≡ false
    → (row : R) → Among row (each_below changes n)
    → hit (values x (insert p a others)) (values y (insert p b others)) s row ≡ true → next s row ≡ machine_step step p a b others s
served {hit = hit} {values = values} {n = n} {changes = changes} serves p a b others x y s l long apart row m h =
    let olds : List Trit = insert p a others in
    let news : List Trit = insert p b others in
    serves.right p row a b others x y s l
    (changed-own changes (hit (values x olds) (values y news) s) n p a b others l long
    (λ q other inside c same_value. serves.still q other olds news x y s inside c (length-insert p a others ∙ long)
    (length-insert p b others ∙ long) same_value) row m h) long apart h

-- a law at changes of one input beside others, at a change of an input by its number
pub change-at :
    (next : List Trit → List Trit → Trit) (step : Step) (n : ℕ) (s : Trit)
    → ((p : ℕ) (a b : Trit) (others : List Trit) → p < n → suc (length others) ≡ n → same a b ≡ false
    → next (insert p a others) (insert p b others) ≡ machine_step step p a b others s)
    → (p : ℕ) (old : Trit) (inputs : List Trit) → length inputs ≡ n → p < n → old ≢ get_or inputs p Unknown
    → next (set inputs p old) inputs ≡ machine_step step p old (get_or inputs p Unknown) (without p inputs) s
change-at next step n s law p old inputs long l apart =
    let within : p < length inputs = omega arith in
    before-change next p old Unknown inputs within
    ∙ law p old (get_or inputs p Unknown) (without p inputs) l (length-without p Unknown inputs within ∙ long)
    (differ old (get_or inputs p Unknown) apart)
