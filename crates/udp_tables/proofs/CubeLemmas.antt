-- The cubes of changes: which changes they cover, and that the primes of a step decide it.
use Rattle.std.proofs.Common.{◌≡◌, ◌≢◌, ℕ, zero, suc, ◌<◌, Bool, true, false, ◌&&◌, ◌||◌, ◌⊎◌, inl, inr, List, [], ◌∷◌, ◌++◌, map}
use Rattle.std.proofs.Common.{length, refl, sym, ◌∙◌, ap, subst, arith}
use Rattle.std.proofs.lemmas.Bool.{and_parts, cases_lt, false_from_ne_true}
use Rattle.std.proofs.lemmas.List.{length_push}
use Rattle.std.proofs.Math.Bool.{and-false, and-true}
use Rattle.trit_cubes.specs.declared.trits.Trit.{Trit}
use Rattle.trit_cubes.specs.declared.trits.Trit.TheVariants.{Zero, One, Unknown}
use Rattle.trit_cubes.specs.Filling.{is_unknown, same, covers, IsFilling}
use Rattle.trit_cubes.specs.Resolution.{res}
use Rattle.trit_cubes.specs.Sets.{gives}
use Rattle.trit_cubes.specs.Prime.{prime_list}
use Rattle.trit_cubes.proofs.ListLemmas.{Among, among-append, among-map, map-among, among-filter, filter-among, append-among_left}
use Rattle.trit_cubes.proofs.ListLemmas.{append-among_right}
use Rattle.trit_cubes.proofs.SplitLemmas.{prime_list-gives, prime_list-length}
use Rattle.trit_cubes.proofs.InsideLemmas.{res-fillings, fillings-res}
use Rattle.cell_machine.specs.Machine.{Step, init, last, edge_value, machine_step}
pub use Rattle.cell_machine.proofs.StillLemmas.{same-self}
use Rattle.udp_tables.specs.Tables.{value_rows}
use Rattle.udp_tables.specs.Edges.{moves, edge_cubes, each_below}
use Rattle.udp_tables.proofs.FirstLemmas.{any-found, found-any}
use Rattle.udp_tables.proofs.ColumnLemmas.{and-assoc}

-- whether a place of a cube allows a value
abbrev pub admits : Trit → Trit → Bool
admits w t = is_unknown w || same w t

pub same-is : (v t : Trit) → same v t ≡ true → t ≡ v
same-is v t e = grind arith

pub differ : (a b : Trit) → a ≢ b → same a b ≡ false
differ a b h = false_from_ne_true (same a b) (λ e. h (sym (same-is a b e)))

pub known-or : (v : Trit) → (v ≢ Unknown) ⊎ (v ≡ Unknown)
known-or Zero = inl (λ e. cc)
known-or One = inl (λ e. cc)
known-or Unknown = inr refl

-- a prime of the points that give a value covers only lists with this resolution, and some prime each of these
pub prime-gives :
    (n : ℕ) (f : List Bool → Trit) (v : Trit) (c ts : List Trit)
    → v ≢ Unknown → length ts ≡ n → Among c (prime_list n (gives v f)) → covers c ts ≡ true → res f ts ≡ v
prime-gives n f v c ts known long a h =
    same-is v (res f ts) (sym (prime_list-gives n f v ts known long)
    ∙ found-any (λ d. covers d ts) c (prime_list n (gives v f)) a h)

pub prime-found :
    (n : ℕ) (f : List Bool → Trit) (v : Trit) (ts : List Trit)
    → v ≢ Unknown → length ts ≡ n → res f ts ≡ v
    → (c : List Trit) × Among c (prime_list n (gives v f)) × (covers c ts ≡ true)
prime-found n f v ts known long e =
    any-found (λ d. covers d ts) (prime_list n (gives v f)) (prime_list-gives n f v ts known long ∙ ap (same v) e ∙ same-self v)

-- the last place of a cube apart
pub covers-last :
    (rest others : List Trit) (s : Trit)
    → length rest ≡ suc (length others)
    → covers rest (others ++ s ∷ []) ≡ (covers (init rest) others && admits (last Unknown rest) s)
covers-last [] others s e = absurd (omega arith)
covers-last (r ∷ []) [] s e = and-true (admits r s)
covers-last (r ∷ []) (o ∷ others) s e = absurd (omega arith)
covers-last (r ∷ q ∷ rest) [] s e = absurd (omega arith)
covers-last (r ∷ q ∷ rest) (o ∷ others) s e =
    ap (λ b. admits r o && b) (covers-last (q ∷ rest) others s (omega arith))
    ∙ and-assoc (admits r o) (covers (init (q ∷ rest)) others) (admits (last Unknown (q ∷ rest)) s)

-- a cube that covers a change has points that change
both-fixed : (v a b : Trit) → same v a ≡ true → same v b ≡ true → same a b ≡ true
both-fixed v a b h k = ap (λ x. same x b) (same-is v a h) ∙ k

fixed-moves : (v a b : Trit) (rest : Bool) → same a b ≡ false → (same v a && (same v b && rest)) ≡ true → ⊥
fixed-moves v a b rest n h =
    let one = and_parts (same v a) (same v b && rest) h in
    let clash : false ≡ true = sym n ∙ both-fixed v a b one.0 (and_parts (same v b) rest one.1).0 in cc

pub covers-moves : (c : List Trit) (a b : Trit) (ts : List Trit) → same a b ≡ false → covers c (a ∷ b ∷ ts) ≡ true
    → moves c ≡ true
covers-moves [] a b ts n h = absurd cc
covers-moves (old ∷ []) a b ts n h = let clash : false ≡ true = sym (and-false (admits old a)) ∙ h in absurd cc
covers-moves (Unknown ∷ new ∷ rest) a b ts n h = refl
covers-moves (Zero ∷ Unknown ∷ rest) a b ts n h = refl
covers-moves (Zero ∷ One ∷ rest) a b ts n h = refl
covers-moves (Zero ∷ Zero ∷ rest) a b ts n h = absurd (fixed-moves Zero a b (covers rest ts) n h)
covers-moves (One ∷ Unknown ∷ rest) a b ts n h = refl
covers-moves (One ∷ Zero ∷ rest) a b ts n h = refl
covers-moves (One ∷ One ∷ rest) a b ts n h = absurd (fixed-moves One a b (covers rest ts) n h)

-- the cubes of the changes of one input
pub edge-long : (step : Step) (n p : ℕ) (v : Trit) (c : List Trit) → Among c (edge_cubes step n p v) → length c ≡ suc (suc n)
edge-long step n p v c a =
    prime_list-length (suc (suc n)) (gives v (edge_value step p)) c
    (among-filter moves c (prime_list (suc (suc n)) (gives v (edge_value step p))) a).0

-- they have points that change
pub edge-moves : (step : Step) (n p : ℕ) (v : Trit) (c : List Trit) → Among c (edge_cubes step n p v) → moves c ≡ true
edge-moves step n p v c a = (among-filter moves c (prime_list (suc (suc n)) (gives v (edge_value step p))) a).1

change-long : (a b : Trit) (others : List Trit) (s : Trit) (n : ℕ) → suc (length others) ≡ n
    → length (a ∷ b ∷ others ++ s ∷ []) ≡ suc (suc n)
change-long a b others s n e = omega (arith, length_push others s)

pub edge-gives :
    (step : Step) (n p : ℕ) (v : Trit) (c : List Trit) (a b : Trit) (others : List Trit) (s : Trit)
    → v ≢ Unknown → suc (length others) ≡ n → Among c (edge_cubes step n p v)
    → covers c (a ∷ b ∷ others ++ s ∷ []) ≡ true → machine_step step p a b others s ≡ v
edge-gives step n p v c a b others s known long h k =
    prime-gives (suc (suc n)) (edge_value step p) v c (a ∷ b ∷ others ++ s ∷ []) known (change-long a b others s n long)
    (among-filter moves c (prime_list (suc (suc n)) (gives v (edge_value step p))) h).0 k

pub edge-found :
    (step : Step) (n p : ℕ) (v : Trit) (a b : Trit) (others : List Trit) (s : Trit)
    → v ≢ Unknown → suc (length others) ≡ n → same a b ≡ false → machine_step step p a b others s ≡ v
    → (c : List Trit) × Among c (edge_cubes step n p v) × (covers c (a ∷ b ∷ others ++ s ∷ []) ≡ true)
edge-found step n p v a b others s known long apart e =
    let r = prime-found (suc (suc n)) (edge_value step p) v (a ∷ b ∷ others ++ s ∷ []) known (change-long a b others s n long) e
    in (
      r.0,
      filter-among moves r.0 (prime_list (suc (suc n)) (gives v (edge_value step p))) r.1
          (covers-moves r.0 a b (others ++ s ∷ []) apart r.2),
      r.2,
    )

-- rows of cubes of two values
pub value_rows-among :
    {R : Type 0} (make : Trit → List Trit → R) (cubes : Trit → List (List Trit)) (row : R)
    → Among row (value_rows make (cubes One) (cubes Zero))
    → (v : Trit) × (v ≢ Unknown) × (c : List Trit) × Among c (cubes v) × (make v c ≡ row)
value_rows-among make cubes row a =
    elim (among-append row (map (make One) (cubes One)) (map (make Zero) (cubes Zero)) a) [
      | inl h ↦ let r = among-map (make One) row (cubes One) h in (One, (λ e. cc), r.0, r.2, r.1)
      | inr h ↦ let r = among-map (make Zero) row (cubes Zero) h in (Zero, (λ e. cc), r.0, r.2, r.1)
    ]

pub among-value_rows :
    {R : Type 0} (make : Trit → List Trit → R) (cubes : Trit → List (List Trit)) (v : Trit) (c : List Trit)
    → v ≢ Unknown → Among c (cubes v) → Among (make v c) (value_rows make (cubes One) (cubes Zero))
among-value_rows make cubes Zero c known a =
    append-among_right (make Zero c) (map (make One) (cubes One)) (map (make Zero) (cubes Zero))
    (map-among (make Zero) c (cubes Zero) a)
among-value_rows make cubes One c known a =
    append-among_left (make One c) (map (make One) (cubes One)) (map (make Zero) (cubes Zero))
    (map-among (make One) c (cubes One) a)
among-value_rows make cubes Unknown c known a = absurd (known refl)

-- the rows of all inputs
pub below-among :
    {R : Type 0} (rows : ℕ → List R) (n : ℕ) (row : R) → Among row (each_below rows n) → (p : ℕ) × (p < n) × Among row (rows p)
below-among rows zero row a = absurd a
below-among rows (suc n) row a =
    elim (among-append row (each_below rows n) (rows n) a) [
      | inl h ↦ let r = below-among rows n row h in let l : r.0 < n = r.1 in (r.0, omega arith, r.2)
      | inr h ↦ (n, omega arith, h)
    ]

pub among-below :
    {R : Type 0} (rows : ℕ → List R) (n p : ℕ) (row : R) → p < n → Among row (rows p) → Among row (each_below rows n)
among-below rows zero p row l a = absurd (omega arith)
among-below rows (suc n) p row l a =
    elim (cases_lt p n) [
      | inl h ↦ append-among_left row (each_below rows n) (rows n) (among-below rows n p row h a)
      | inr h ↦ let e : p ≡ n = omega arith
          in append-among_right row (each_below rows n) (rows n) (subst (λ k. Among row (rows k)) e a)
    ]

-- more fillings
freed-filling : (ts : List Trit) (t : Trit) (p : List Bool) → IsFilling (ts ++ t ∷ []) p → IsFilling (ts ++ Unknown ∷ []) p
freed-filling [] t [] h = absurd h
freed-filling [] t (b ∷ []) h = (tt, h.1)
freed-filling [] t (b ∷ c ∷ p) h = absurd h.1
freed-filling (u ∷ ts) t [] h = absurd h
freed-filling (u ∷ ts) t (b ∷ p) h = (h.0, freed-filling ts t p h.1)

-- What is given of an unknown state is given of each state.
pub unknown-state :
    (step : Step) (p : ℕ) (a b : Trit) (others : List Trit) (s v : Trit)
    → v ≢ Unknown → machine_step step p a b others Unknown ≡ v → machine_step step p a b others s ≡ v
unknown-state step p a b others s v known e =
    fillings-res (edge_value step p) (a ∷ b ∷ others ++ s ∷ []) v
    (λ q h. res-fillings (edge_value step p) (a ∷ b ∷ others ++ Unknown ∷ []) v known e q (freed-filling (a ∷ b ∷ others) s q h))

-- A change that holds both known states holds the unknown one.
pub holds-state :
    (step : Step) (p : ℕ) (a b : Trit) (others : List Trit) (s : Trit)
    → machine_step step p a b others Zero ≡ Zero → machine_step step p a b others One ≡ One
    → machine_step step p a b others s ≡ s
holds-state step p a b others Zero z o = z
holds-state step p a b others One z o = o
holds-state step p a b others Unknown z o =
    elim (known-or (machine_step step p a b others Unknown)) [
      | inl known ↦
          let zero : machine_step step p a b others Zero ≡ machine_step step p a b others Unknown
          = unknown-state step p a b others Zero (machine_step step p a b others Unknown) known refl in
          let one : machine_step step p a b others One ≡ machine_step step p a b others Unknown
          = unknown-state step p a b others One (machine_step step p a b others Unknown) known refl in
          let clash : Zero ≡ One = sym z ∙ zero ∙ sym one ∙ o in absurd cc
      | inr e ↦ e
    ]
