-- Two members have the same of all inner pins where the pins that name them are the same and stay.
use Rattle.std.proofs.Common.{◌≡◌, ◌<◌, ◌≤◌, ℕ, ◌+◌, Bool, true, false, not, ◌&&◌, cond, List, [], ◌∷◌, ◌++◌, map}
use Rattle.std.proofs.Common.{Option, Some, None, if◌then◌else◌, refl, sym, ap, ◌∙◌, arith, slice_get, nat_eq}
use Rattle.std.specs.Prelude.{filter, bytes_eq, option_map, option_to_list, unwrap_or}
use Rattle.std.specs.List.{list_all}
use Rattle.std.proofs.lemmas.Bool.Decides.{nat_tests}
use Rattle.std.proofs.lemmas.List.Folds.{list_all-map}
use Rattle.std.proofs.lemmas.Option.{slice_get-map}
use Rattle.liberty_groups.specs.declared.tree.Group.{Group}
use Rattle.bus_texts.specs.declared.vectors.Vector.{Vector}
use Rattle.cell_machine.specs.Places.{places_from, entries_at}
use Rattle.cell_machine.proofs.EntryPlaces.{entries-pass}
use Rattle.bank_refusals.specs.Members.{inner_pins}
use Rattle.bank_refusals.specs.InnerPins.{pin_names, pin_places}
use Rattle.bank_cells.specs.Runs.{Member, shared_stays, pin_stays, stays_at, inner_pin, same_of, have_same}

-- the first of the numbers is not less than that of the first entry
first_place : {X : Type 0} (t : X → Bool) (k : ℕ) (xs : List X) (n : ℕ) (ns : List ℕ) → places_from t k xs ≡ n ∷ ns → k ≤ n
first_place t k [] n ns e = absurd cc
first_place t k (x ∷ xs) n ns e = by (t x) (λ f. first_place t (k + 1) xs n ns f) e
  where
    by : (b : Bool) → (places_from t (k + 1) xs ≡ n ∷ ns → k + 1 ≤ n)
        → cond b (k ∷ places_from t (k + 1) xs) (places_from t (k + 1) xs) ≡ n ∷ ns → k ≤ n
    by true later e = let same : k ≡ n = cc in omega (arith, same)
    by false later e = let above : k + 1 ≤ n = later e in omega (arith, above)

-- numbers that are greater don't begin with this one
unlike_first : (k : ℕ) (ns ms : List ℕ) → ((m : ℕ) (rest : List ℕ) → ms ≡ m ∷ rest → k < m)
    → (bytes_eq (k ∷ ns) ms ≡ false) × (bytes_eq ms (k ∷ ns) ≡ false)
unlike_first k ns [] above = (refl, refl)
unlike_first k ns (m ∷ ms) above =
    let less : k < m = above m ms refl in
    let one : nat_eq k m ≡ false = grind (arith, nat_tests, less) in
    let two : nat_eq m k ≡ false = grind (arith, nat_tests, less) in
    (ap (λ b. b && bytes_eq ns ms) one, ap (λ b. b && bytes_eq ms ns) two)

module _ {X : Type 0} (p q s : X → Bool) where
  abbrev same : X → Bool
  same x = if p x then q x && s x else not (q x)

  one_more : (k : ℕ) (x : X) (b c d : Bool) (ps qs : List ℕ) (fs : List X) (rest : Bool)
      → ((m : ℕ) (ms : List ℕ) → ps ≡ m ∷ ms → k < m) → ((m : ℕ) (ms : List ℕ) → qs ≡ m ∷ ms → k < m)
      → s x ≡ d → rest ≡ (bytes_eq ps qs && list_all s fs)
      → ((if b then c && d else not c) && rest)
      ≡ (bytes_eq (cond b (k ∷ ps) ps) (cond c (k ∷ qs) qs) && list_all s (cond b (x ∷ fs) fs))
  one_more k x true true d ps qs fs rest above_p above_q is e =
      let here : nat_eq k k ≡ true = grind (arith, nat_tests) in
      ap (λ r. d && r) e ∙ swap d (bytes_eq ps qs) (list_all s fs)
      ∙ (λ i. (sym here i && bytes_eq ps qs) && (sym is i && list_all s fs))
    where
      swap : (d a l : Bool) → (d && (a && l)) ≡ ((true && a) && (d && l))
      swap true a l = refl
      swap false true l = refl
      swap false false l = refl
  one_more k x true false d ps qs fs rest above_p above_q is e =
      sym (ap (λ b. b && list_all s (x ∷ fs)) (unlike_first k ps qs above_q).0)
  one_more k x false true d ps qs fs rest above_p above_q is e =
      sym (ap (λ b. b && list_all s fs) (unlike_first k qs ps above_p).1)
  one_more k x false false d ps qs fs rest above_p above_q is e = e

  same_from : (k : ℕ) (xs : List X)
      → list_all same xs ≡ (bytes_eq (places_from p k xs) (places_from q k xs) && list_all s (filter p xs))
  same_from k [] = refl
  same_from k (x ∷ xs) =
      one_more k x (p x) (q x) (s x) (places_from p (k + 1) xs) (places_from q (k + 1) xs) (filter p xs) (list_all same xs)
      (λ m ms e. let above : k + 1 ≤ m = first_place p (k + 1) xs m ms e in omega (arith, above))
      (λ m ms e. let above : k + 1 ≤ m = first_place q (k + 1) xs m ms e in omega (arith, above))
      refl (same_from (k + 1) xs)

  stay_at : (xs : List X) (places : List ℕ) → list_all (stays_at (map s xs)) places ≡ list_all s (entries_at xs places)
  stay_at xs [] = refl
  stay_at xs (place ∷ places) =
      ap (λ o. unwrap_or o true && list_all (stays_at (map s xs)) places) (slice_get-map s xs place)
      ∙ ap (λ b. unwrap_or (option_map s (slice_get xs place)) true && b) (stay_at xs places)
      ∙ by (slice_get xs place)
    where
      by : (o : Option X) → (unwrap_or (option_map s o) true && list_all s (entries_at xs places))
          ≡ list_all s (option_to_list o ++ entries_at xs places)
      by None = refl
      by (Some x) = refl

  pub same_all : (xs : List X)
      → list_all same xs
      ≡ (bytes_eq (places_from p 0 xs) (places_from q 0 xs) && list_all (stays_at (map s xs)) (places_from p 0 xs))
  same_all xs =
      same_from 0 xs
      ∙ ap (λ b. bytes_eq (places_from p 0 xs) (places_from q 0 xs) && b)
      (ap (list_all s) (sym (entries-pass p xs)) ∙ sym (stay_at xs (places_from p 0 xs)))

pub same_by_places : (vectors : List Vector) (group : Group) (one other : Member)
    → have_same vectors group one other
    ≡ (list_all (shared_stays vectors) group.items
    && (bytes_eq (pin_places one.vector one.at one.name (inner_pins group.items))
    (pin_places other.vector other.at other.name (inner_pins group.items))
    && list_all (stays_at (map (pin_stays vectors) (inner_pins group.items)))
    (pin_places one.vector one.at one.name (inner_pins group.items))))
same_by_places vectors group one other =
    ap (λ b. list_all (shared_stays vectors) group.items && b)
    (list_all-map (same_of one other) (inner_pin vectors) (inner_pins group.items)
    ∙ same_all (pin_names one.vector one.at one.name) (pin_names other.vector other.at other.name) (pin_stays vectors)
    (inner_pins group.items))
