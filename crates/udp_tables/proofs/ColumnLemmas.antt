-- Columns of rows: a list with an entry put in at a place, or at its end, and what columns match.
use Rattle.std.proofs.Common.{◌≡◌, ◌≢◌, ℕ, zero, suc, ◌<◌, ◌≤◌, Bool, true, false, ◌&&◌, List, [], ◌∷◌, ◌++◌, length, get_or, set}
use Rattle.std.proofs.Common.{refl, sym, ◌∙◌, ap, arith}
pub use Rattle.std.proofs.Math.Bool.{and-false, and-true}
use Rattle.trit_cubes.specs.declared.trits.Trit.{Trit}
use Rattle.trit_cubes.specs.declared.trits.Trit.TheVariants.{Unknown}
use Rattle.cell_machine.specs.Machine.{insert, without}
pub use Rattle.cell_machine.proofs.Tables.{insert_long as length-insert}
use Rattle.udp_tables.specs.Tables.{columns_match}

pub and-assoc : (x y z : Bool) → (x && (y && z)) ≡ ((x && y) && z)
and-assoc true y z = refl
and-assoc false y z = refl

pub and-swap : (x y z : Bool) → (x && (y && z)) ≡ (y && (x && z))
and-swap true y z = refl
and-swap false y z = sym (and-false y)

pub at-insert : {X : Type 0} (p : ℕ) (x d : X) (xs : List X) → p ≤ length xs → get_or (insert p x xs) p d ≡ x
at-insert zero x d xs l = refl
at-insert (suc p) x d [] l = absurd (omega arith)
at-insert (suc p) x d (y ∷ ys) l = at-insert p x d ys (omega arith)

pub without-insert : {X : Type 0} (p : ℕ) (x : X) (xs : List X) → p ≤ length xs → without p (insert p x xs) ≡ xs
without-insert zero x xs l = refl
without-insert (suc p) x [] l = absurd (omega arith)
without-insert (suc p) x (y ∷ ys) l = ap (λ zs. y ∷ zs) (without-insert p x ys (omega arith))

pub at-other :
    {X : Type 0} (p q : ℕ) (x y d : X) (xs : List X)
    → q ≢ p → p ≤ length xs → get_or (insert p x xs) q d ≡ get_or (insert p y xs) q d
at-other zero zero x y d xs h l = absurd (h refl)
at-other zero (suc q) x y d xs h l = refl
at-other (suc p) q x y d [] h l = absurd (omega arith)
at-other (suc p) zero x y d (z ∷ zs) h l = refl
at-other (suc p) (suc q) x y d (z ∷ zs) h l = at-other p q x y d zs (λ e. h (ap suc e)) (omega arith)

-- a list is its entry at a place among the others
pub insert-without :
    {X : Type 0} (p : ℕ) (d : X) (xs : List X) → p < length xs → insert p (get_or xs p d) (without p xs) ≡ xs
insert-without p d [] l = absurd (omega arith)
insert-without zero d (x ∷ xs) l = refl
insert-without (suc p) d (x ∷ xs) l = ap (λ ys. x ∷ ys) (insert-without p d xs (omega arith))

pub insert-set :
    {X : Type 0} (p : ℕ) (a : X) (xs : List X) → p < length xs → insert p a (without p xs) ≡ set xs p a
insert-set p a [] l = absurd (omega arith)
insert-set zero a (x ∷ xs) l = refl
insert-set (suc p) a (x ∷ xs) l = ap (λ ys. x ∷ ys) (insert-set p a xs (omega arith))

pub length-without : {X : Type 0} (p : ℕ) (d : X) (xs : List X) → p < length xs → suc (length (without p xs)) ≡ length xs
length-without p d xs l = sym (length-insert p (get_or xs p d) (without p xs)) ∙ ap length (insert-without p d xs l)

-- a list before and after a change of one place
pub before-change :
    {X Y : Type 0} (f : List X → List X → Y) (p : ℕ) (old d : X) (xs : List X) → p < length xs
    → f (set xs p old) xs ≡ f (insert p old (without p xs)) (insert p (get_or xs p d) (without p xs))
before-change f p old d xs l = λ i. f (sym (insert-set p old xs l) i) (sym (insert-without p d xs l) i)

-- the column at a place apart
pub columns-insert :
    {E : Type 0} (m : E → Trit → Trit → Bool) (p : ℕ) (e : E) (es : List E) (olds news : List Trit)
    → p ≤ length es → length olds ≡ suc (length es) → length news ≡ suc (length es)
    → columns_match m (insert p e es) olds news
    ≡ (m e (get_or olds p Unknown) (get_or news p Unknown) && columns_match m es (without p olds) (without p news))
columns-insert m zero e es [] news l f g = absurd (omega arith)
columns-insert m zero e es (o ∷ olds) [] l f g = absurd (omega arith)
columns-insert m zero e es (o ∷ olds) (n ∷ news) l f g = refl
columns-insert m (suc p) e [] olds news l f g = absurd (omega arith)
columns-insert m (suc p) e (x ∷ es) [] news l f g = absurd (omega arith)
columns-insert m (suc p) e (x ∷ es) (o ∷ olds) [] l f g = absurd (omega arith)
columns-insert m (suc p) e (x ∷ es) (o ∷ olds) (n ∷ news) l f g =
    ap (λ r. m x o n && r) (columns-insert m p e es olds news (omega arith) (omega arith) (omega arith))
    ∙ and-swap (m x o n) (m e (get_or olds p Unknown) (get_or news p Unknown))
    (columns_match m es (without p olds) (without p news))

-- the last column apart
pub columns-push :
    {E : Type 0} (m : E → Trit → Trit → Bool) (es : List E) (e : E) (olds : List Trit) (o : Trit) (news : List Trit) (n : Trit)
    → length olds ≡ length es → length news ≡ length es
    → columns_match m (es ++ e ∷ []) (olds ++ o ∷ []) (news ++ n ∷ []) ≡ (columns_match m es olds news && m e o n)
columns-push m [] e [] o [] n f g = and-true (m e o n)
columns-push m [] e [] o (y ∷ news) n f g = absurd (omega arith)
columns-push m [] e (x ∷ olds) o news n f g = absurd (omega arith)
columns-push m (z ∷ es) e [] o news n f g = absurd (omega arith)
columns-push m (z ∷ es) e (x ∷ olds) o [] n f g = absurd (omega arith)
columns-push m (z ∷ es) e (x ∷ olds) o (y ∷ news) n f g =
    ap (λ r. m z x y && r) (columns-push m es e olds o news n (omega arith) (omega arith))
    ∙ and-assoc (m z x y) (columns_match m es olds news) (m e o n)
