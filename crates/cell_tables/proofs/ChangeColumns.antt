-- The columns of a cube and of a change, of any kind of entry: they match what the cube covers.
use Rattle.std.proofs.Common.{◌≡◌, ℕ, suc, ◌≤◌, Bool, true, false, ◌&&◌, List, [], ◌∷◌, ◌++◌, map, length, get_or, refl, sym, ◌∙◌}
use Rattle.std.proofs.Common.{ap, arith}
use Rattle.std.proofs.lemmas.List.{length-map}
use Rattle.trit_cubes.specs.declared.trits.Trit.{Trit}
use Rattle.trit_cubes.specs.declared.trits.Trit.TheVariants.{Unknown}
use Rattle.trit_cubes.specs.Filling.{same, covers}
use Rattle.cell_machine.specs.Machine.{insert, without, init, last}
use Rattle.udp_tables.specs.Tables.{columns_match}
use Rattle.udp_tables.specs.Edges.{moves, with_last, change_columns}
use Rattle.udp_tables.proofs.ColumnLemmas.{length-insert, at-insert, without-insert, columns-insert}
use Rattle.udp_tables.proofs.CubeLemmas.{admits, covers-last}
use Rattle.udp_tables.proofs.SymbolLemmas.{length-init}
use Rattle.udp_tables.proofs.PairLemmas.{init-with}

-- How entries of some kind match a column: one of a level what its place of a cube admits, one of an edge a change that both of
-- its places admit.
pub record FitsEntries (V : Type 0) (fit : V → Trit → Trit → Bool) (level : Trit → V) (edge : Trit → Trit → V) : Type 0 where
  pub levels : (w old new : Trit) → fit (level w) old new ≡ admits w new
  pub edges :
      (old new a b : Trit) (rest : List Trit)
      → moves (old ∷ new ∷ rest) ≡ true → same a b ≡ false → fit (edge old new) a b ≡ (admits old a && admits new b)
  -- an edge does not match a column that keeps its value
  pub stays : (old new t : Trit) → fit (edge old new) t t ≡ false

-- the columns of a change do not depend on the state
pub columns-with :
    {V : Type 0} (level : Trit → V) (edge : Trit → Trit → V) (p : ℕ) (t : Trit) (c : List Trit)
    → 3 ≤ length c → change_columns level edge p (with_last t c) ≡ change_columns level edge p c
columns-with level edge p t [] l = absurd (omega arith)
columns-with level edge p t (old ∷ []) l = absurd (omega arith)
columns-with level edge p t (old ∷ new ∷ []) l = absurd (omega arith)
columns-with level edge p t (old ∷ new ∷ r ∷ rest) l =
    ap (λ ts. insert p (edge old new) (map level ts)) (init-with t r rest)

regroup : (x y c d : Bool) → (((x && y) && c) && d) ≡ (x && (y && (c && d)))
regroup true true c d = refl
regroup true false c d = refl
regroup false y c d = refl

module _ {V : Type 0} {fit : V → Trit → Trit → Bool} {level : Trit → V} {edge : Trit → Trit
    → V} (fits : FitsEntries V fit level edge) where
  -- levels of a cube match what the cube covers, whatever was before
  pub levels-cover :
      (c olds news : List Trit) → length olds ≡ length news → columns_match fit (map level c) olds news ≡ covers c news
  levels-cover [] [] [] e = refl
  levels-cover [] [] (n ∷ news) e = absurd (omega arith)
  levels-cover [] (o ∷ olds) [] e = absurd (omega arith)
  levels-cover [] (o ∷ olds) (n ∷ news) e = refl
  levels-cover (w ∷ c) [] [] e = refl
  levels-cover (w ∷ c) [] (n ∷ news) e = absurd (omega arith)
  levels-cover (w ∷ c) (o ∷ olds) [] e = absurd (omega arith)
  levels-cover (w ∷ c) (o ∷ olds) (n ∷ news) e = λ i. fits.levels w o n i && levels-cover c olds news (omega arith) i

  -- the column of the change apart
  change-columns :
      (p : ℕ) (old new r : Trit) (rest olds news : List Trit)
      → p ≤ length rest → length olds ≡ suc (length rest) → length news ≡ suc (length rest)
      → columns_match fit (insert p (edge old new) (map level (init (r ∷ rest)))) olds news
      ≡ (fit (edge old new) (get_or olds p Unknown) (get_or news p Unknown)
      && columns_match fit (map level (init (r ∷ rest))) (without p olds) (without p news))
  change-columns p old new r rest olds news l f g =
      let few : length (map level (init (r ∷ rest))) ≡ length rest = length-map (init (r ∷ rest)) level ∙ length-init r rest in
      columns-insert fit p (edge old new) (map level (init (r ∷ rest))) olds news (omega arith) (omega arith) (omega arith)

  -- they match nothing where their input keeps its value
  pub change-kept :
      (p : ℕ) (old new r : Trit) (rest olds news : List Trit)
      → p ≤ length rest → length olds ≡ suc (length rest) → length news ≡ suc (length rest)
      → get_or olds p Unknown ≡ get_or news p Unknown
      → columns_match fit (insert p (edge old new) (map level (init (r ∷ rest)))) olds news ≡ false
  change-kept p old new r rest olds news l f g h =
      let others : Bool = columns_match fit (map level (init (r ∷ rest))) (without p olds) (without p news) in
      change-columns p old new r rest olds news l f g
      ∙ ap (λ t. fit (edge old new) t (get_or news p Unknown) && others) h
      ∙ ap (λ b. b && others) (fits.stays old new (get_or news p Unknown))

  -- with a state that the last place of the cube admits they match the changes that the cube covers
  pub change-covers :
      (p : ℕ) (old new r : Trit) (rest : List Trit) (a b : Trit) (others : List Trit) (t : Trit)
      → p ≤ length others → length rest ≡ length others → same a b ≡ false → moves (old ∷ new ∷ r ∷ rest) ≡ true
      → (columns_match fit (insert p (edge old new) (map level (init (r ∷ rest)))) (insert p a others) (insert p b others)
      && admits (last Unknown (r ∷ rest)) t)
      ≡ covers (old ∷ new ∷ r ∷ rest) (a ∷ b ∷ others ++ t ∷ [])
  change-covers p old new r rest a b others t l e apart m =
      let es : List V = map level (init (r ∷ rest)) in
      let state : Bool = admits (last Unknown (r ∷ rest)) t in
      let olds : List Trit = insert p a others in
      let news : List Trit = insert p b others in
      let columns = change-columns p old new r rest olds news (omega arith) (length-insert p a others ∙ ap suc (sym e))
      (length-insert p b others ∙ ap suc (sym e)) in
      let at_change : fit (edge old new) (get_or olds p Unknown) (get_or news p Unknown) ≡ (admits old a && admits new b)
      = (λ i. fit (edge old new) (at-insert p a Unknown others l i) (at-insert p b Unknown others l i))
      ∙ fits.edges old new a b (r ∷ rest) m apart in
      let at_others : columns_match fit es (without p olds) (without p news) ≡ covers (init (r ∷ rest)) others
      = (λ i. columns_match fit es (without-insert p a others l i) (without-insert p b others l i))
      ∙ levels-cover (init (r ∷ rest)) others others refl in
      ap (λ q. q && state) columns
      ∙ (λ i. (at_change i && at_others i) && state)
      ∙ regroup (admits old a) (admits new b) (covers (init (r ∷ rest)) others) state
      ∙ ap (λ q. admits old a && (admits new b && q)) (sym (covers-last (r ∷ rest) others t (omega arith)))
