-- What the symbols of generated rows match.
use Rattle.std.proofs.Common.{◌≡◌, ℕ, zero, suc, ◌<◌, ◌≤◌, Bool, true, false, not, ◌&&◌, List, [], ◌∷◌, map, length}
use Rattle.std.proofs.Common.{replicate, get_or, refl, sym, ◌∙◌, ap, arith}
use Rattle.trit_cubes.specs.declared.trits.Trit.{Trit}
use Rattle.trit_cubes.specs.declared.trits.Trit.TheVariants.{Zero, One, Unknown}
use Rattle.trit_cubes.specs.Filling.{same, covers}
use Rattle.cell_machine.specs.Machine.{insert}
use Rattle.vital_tables.specs.udp_tables.Tables.{columns_match}
use Rattle.vital_tables.specs.udp_tables.Edges.{moves}
use Rattle.vital_tables.proofs.udp_tables.ColumnLemmas.{and-true, and-false, length-insert, at-insert}
use Rattle.vital_tables.proofs.udp_tables.CubeLemmas.{admits, same-self}
use Rattle.cell_tables.proofs.ChangeColumns.{FitsEntries, levels-cover}
use Rattle.cell_tables.proofs.ServingRows.{FitsFrame}
use Rattle.vital_tables.specs.declared.table.VSymbol.{VSymbol}
use Rattle.vital_tables.specs.declared.table.VSymbol.TheVariants as symbol
use Rattle.vital_tables.specs.declared.table.Trits.TheVariants as trits
use Rattle.vital_tables.specs.Symbols.{trits_match, level_matches, symbol_matches}
use Rattle.vital_tables.specs.LookUps.{state_matches}
use Rattle.vital_tables.specs.Rows.{level_of, level_symbol, edge_symbol, violated, level_row}

-- levels of a cube match what the cube covers
pub level-admits : (w t : Trit) → trits_match (level_of w) t ≡ admits w t
level-admits Zero t = refl
level-admits One t = refl
level-admits Unknown t = refl

pub truth-covers : (c ts : List Trit) → columns_match level_matches (map level_of c) ts ts ≡ covers c ts
truth-covers [] [] = refl
truth-covers [] (t ∷ ts) = refl
truth-covers (w ∷ c) [] = refl
truth-covers (w ∷ c) (t ∷ ts) = λ i. level-admits w t i && truth-covers c ts i

-- pins that keep their values
pub steady-matches : (n : ℕ) (ts : List Trit) → length ts ≡ n
    → columns_match symbol_matches (replicate n symbol.Steady) ts ts ≡ true
steady-matches zero [] e = refl
steady-matches zero (t ∷ ts) e = absurd (omega arith)
steady-matches (suc n) [] e = absurd (omega arith)
steady-matches (suc n) (t ∷ ts) e = λ i. same-self t i && steady-matches n ts (omega arith) i

steady-at :
    (n p : ℕ) (olds news : List Trit)
    → length olds ≡ n → length news ≡ n → p < n → same (get_or olds p Unknown) (get_or news p Unknown) ≡ false
    → columns_match symbol_matches (replicate n symbol.Steady) olds news ≡ false
steady-at zero p olds news f g l h = absurd (omega arith)
steady-at (suc n) p [] news f g l h = absurd (omega arith)
steady-at (suc n) p (o ∷ olds) [] f g l h = absurd (omega arith)
steady-at (suc n) zero (o ∷ olds) (t ∷ news) f g l h =
    ap (λ b. b && columns_match symbol_matches (replicate n symbol.Steady) olds news) h
steady-at (suc n) (suc p) (o ∷ olds) (t ∷ news) f g l h =
    ap (λ b. same o t && b) (steady-at n p olds news (omega arith) (omega arith) (omega arith) h) ∙ and-false (same o t)

pub steady-moved :
    (n p : ℕ) (a b : Trit) (others : List Trit)
    → suc (length others) ≡ n → p < n → same a b ≡ false
    → columns_match symbol_matches (replicate n symbol.Steady) (insert p a others) (insert p b others) ≡ false
steady-moved n p a b others e l h =
    let within : p ≤ length others = omega arith in
    steady-at n p (insert p a others) (insert p b others) (length-insert p a others ∙ e) (length-insert p b others ∙ e) l
    ((λ i. same (at-insert p a Unknown others within i) (at-insert p b Unknown others within i)) ∙ h)

-- edges
rises : (a b : Trit) → (same Zero a && same One b) ≡ (not (same a b) && (same Zero a && same One b))
rises a b = grind arith

falls : (a b : Trit) → (same One a && same Zero b) ≡ (not (same a b) && (same One a && same Zero b))
falls a b = grind arith

from-free : (x y : Bool) → (x && y) ≡ (x && (y && true))
from-free x y = ap (λ z. x && z) (sym (and-true y))

change-admits :
    (old new a b : Trit) (rest : List Trit)
    → moves (old ∷ new ∷ rest) ≡ true
    → symbol_matches (edge_symbol old new) a b ≡ (not (same a b) && (admits old a && admits new b))
change-admits Zero Zero a b rest m = absurd cc
change-admits Zero One a b rest m = rises a b
change-admits Zero Unknown a b rest m = from-free (not (same a b)) (same Zero a)
change-admits One Zero a b rest m = falls a b
change-admits One One a b rest m = absurd cc
change-admits One Unknown a b rest m = from-free (not (same a b)) (same One a)
change-admits Unknown Zero a b rest m = refl
change-admits Unknown One a b rest m = refl
change-admits Unknown Unknown a b rest m = sym (and-true (not (same a b)))

rise-still : (t : Trit) → (same Zero t && same One t) ≡ false
rise-still t = grind arith

fall-still : (t : Trit) → (same One t && same Zero t) ≡ false
fall-still t = grind arith

unmoved : (t : Trit) (b : Bool) → (not (same t t) && b) ≡ false
unmoved t b = ap (λ s. not s && b) (same-self t)

-- an edge does not match a column that keeps its value
change-still : (old new t : Trit) → symbol_matches (edge_symbol old new) t t ≡ false
change-still Zero Zero t = unmoved t (same Zero t)
change-still Zero One t = rise-still t
change-still Zero Unknown t = unmoved t (same Zero t)
change-still One Zero t = fall-still t
change-still One One t = unmoved t (same One t)
change-still One Unknown t = unmoved t (same One t)
change-still Unknown Zero t = unmoved t (same Zero t)
change-still Unknown One t = unmoved t (same One t)
change-still Unknown Unknown t = ap not (same-self t)

pub symbols-fit : FitsEntries VSymbol symbol_matches level_symbol edge_symbol
symbols-fit =
    record {
      levels = λ w old new. level-admits w new;
      edges = λ old new a b rest m apart. change-admits old new a b rest m
          ∙ ap (λ t. not t && (admits old a && admits new b)) apart;
      stays = change-still;
    }

-- a free violation column matches all
free-violation :
    (checks : Bool) (es : List VSymbol) (olds news : List Trit) (x y : Trit)
    → columns_match symbol_matches (violated checks (symbol.Level trits.Any) es) (violated checks x olds) (violated checks y news)
    ≡ columns_match symbol_matches es olds news
free-violation false es olds news x y = refl
free-violation true es olds news x y = refl

pub violations-fit : (checks : Bool) → FitsFrame VSymbol symbol_matches (violated checks (symbol.Level trits.Any)) (violated checks)
violations-fit checks = record { free = λ es olds news x y f g. free-violation checks es olds news x y }

-- a row of levels matches what its cube covers
pub level_row-matches :
    (checks : Bool) (v : Trit) (c olds news : List Trit) (x y s : Trit)
    → length olds ≡ length news
    → state_matches (violated checks x olds) (violated checks y news) s (level_row checks v c) ≡ covers c news
level_row-matches checks v c olds news x y s e =
    and-true (columns_match symbol_matches (violated checks (symbol.Level trits.Any) (map level_symbol c))
    (violated checks x olds) (violated checks y news))
    ∙ free-violation checks (map level_symbol c) olds news x y
    ∙ levels-cover symbols-fit c olds news e
