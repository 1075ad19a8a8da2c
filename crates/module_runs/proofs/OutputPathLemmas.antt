-- The paths of a module by the outputs to which they lead.
use Rattle.std.proofs.Common.{◌≡◌, ℕ, ◌+◌, ◌<◌, ◌&&◌, ◌||◌, not, Bool, true, false, cond, List, [], ◌∷◌, ◌++◌, length, get_or}
use Rattle.std.proofs.Common.{filter, take, refl, ap, sym, ◌∙◌, Some, slice_get, nat_eq, arith}
use Rattle.std.specs.List.{list_all}
use Rattle.std.proofs.lemmas.Bool.{and_parts, and_right}
use Rattle.std.proofs.lemmas.Bool.Decides.{nat_tests}
use Rattle.std.proofs.lemmas.List.{take_more}
use Rattle.std.proofs.lemmas.List.Elements.{filter-append}
use Rattle.trit_cubes.specs.declared.trits.Trit.{Trit}
use Rattle.specify_blocks.specs.declared.model.VPath.{VPath}
use Rattle.specify_blocks.specs.declared.model.VModule.{VModule}
use Rattle.udp_tables.specs.declared.models.VPort.{VPort}
use Rattle.model_traces.specs.PortNumbers.{input_number}
use Rattle.model_traces.specs.PathDelays.{is_off, is_quiet, is_between}
use Rattle.module_runs.specs.OutputPaths.{leads_to, AreByOutput}

-- one path more
pub one-path :
    (paths : List VPath) (i : ℕ) (d : VPath) (port : ℕ)
    → i < length paths
    → filter (leads_to port) (take i paths) ++ cond (nat_eq (get_or paths i d).to port) (get_or paths i d ∷ []) []
    ≡ filter (leads_to port) (take (i + 1) paths)
one-path paths i d port inside =
    sym (filter-append (leads_to port) (take i paths) (get_or paths i d ∷ []))
    ∙ ap (filter (leads_to port)) (sym (take_more paths i d inside))

-- what passes a test among the entries that pass a weaker one
through-one :
    {X : Type 0} (p q : X → Bool) (x : X) (xs ys : List X) (b c : Bool)
    → p x ≡ b → q x ≡ c → (q x ≡ true → p x ≡ true) → filter q ys ≡ filter q xs
    → filter q (cond b (x ∷ ys) ys) ≡ cond c (x ∷ filter q xs) (filter q xs)
through-one p q x xs ys true c is own weaker rest = λ i. cond (own i) (x ∷ rest i) (rest i)
through-one p q x xs ys false true is own weaker rest = let passes = weaker own in absurd cc
through-one p q x xs ys false false is own weaker rest = rest

pub filter-through :
    {X : Type 0} (p q : X → Bool) (xs : List X) → ((x : X) → q x ≡ true → p x ≡ true) → filter q (filter p xs) ≡ filter q xs
filter-through p q [] weaker = refl
filter-through p q (x ∷ xs) weaker =
    through-one p q x xs (filter p xs) (p x) (q x) refl refl (weaker x) (filter-through p q xs weaker)

-- a test that all entries pass that fail a weaker one
all-one :
    {X : Type 0} (p q : X → Bool) (x : X) (xs ys : List X) (b : Bool)
    → p x ≡ b → (p x ≡ false → q x ≡ true) → list_all q ys ≡ list_all q xs
    → list_all q (cond b (x ∷ ys) ys) ≡ (q x && list_all q xs)
all-one p q x xs ys true is others rest = ap (λ r. q x && r) rest
all-one p q x xs ys false is others rest = rest ∙ ap (λ b. b && list_all q xs) (sym (others is))

all-through :
    {X : Type 0} (p q : X → Bool) (xs : List X) → ((x : X) → p x ≡ false → q x ≡ true) → list_all q (filter p xs) ≡ list_all q xs
all-through p q [] others = refl
all-through p q (x ∷ xs) others = all-one p q x xs (filter p xs) (p x) refl (others x) (all-through p q xs others)

same-numbers : (a b : ℕ) → nat_eq a b ≡ nat_eq b a
same-numbers a b = grind (arith, nat_tests)

-- the paths from an input to an output, of lists that have the same paths to it
pub same-between :
    (ports : List VPort) (input port : ℕ) (xs ys : List VPath)
    → filter (leads_to port) xs ≡ filter (leads_to port) ys
    → filter (is_between ports input port) xs ≡ filter (is_between ports input port) ys
same-between ports input port xs ys same =
    let weaker : (path : VPath) → is_between ports input port path ≡ true → leads_to port path ≡ true
    = λ path h. (and_parts (nat_eq (input_number ports path.from) input) (nat_eq path.to port) h).1 in
    sym (filter-through (leads_to port) (is_between ports input port) xs weaker)
    ∙ ap (filter (is_between ports input port)) same
    ∙ filter-through (leads_to port) (is_between ports input port) ys weaker

-- whether all of these leave an `ifnone` path active
pub same-quiet :
    (m : VModule) (inputs states : List Trit) (path : VPath) (xs ys : List VPath)
    → filter (leads_to path.to) xs ≡ filter (leads_to path.to) ys
    → list_all (is_quiet m inputs states path) xs ≡ list_all (is_quiet m inputs states path) ys
same-quiet m inputs states path xs ys same =
    sym (all-through (leads_to path.to) (is_quiet m inputs states path) xs others)
    ∙ ap (list_all (is_quiet m inputs states path)) same
    ∙ all-through (leads_to path.to) (is_quiet m inputs states path) ys others
  where
    others : (other : VPath) → leads_to path.to other ≡ false → is_quiet m inputs states path other ≡ true
    others other f =
        let apart : nat_eq path.to other.to ≡ false = same-numbers path.to other.to ∙ f in
        ap (λ b. not b || is_off m inputs states other.gate)
        (and_right (nat_eq path.from other.from) (nat_eq path.to other.to) apart)

-- the paths that lead to a port, found among those of all ports
pub paths-found :
    (paths : List VPath) (all : List (List VPath)) (port : ℕ) (found : List VPath)
    → AreByOutput paths all → slice_get all port ≡ Some found → filter (leads_to port) found ≡ filter (leads_to port) paths
paths-found paths all port found are e =
    ap (filter (leads_to port)) (are port found e) ∙ filter-through (leads_to port) (leads_to port) paths (λ path h. h)
