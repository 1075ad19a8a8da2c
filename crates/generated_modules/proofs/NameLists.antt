-- Lists of names of which none stands twice, put together.
use Rattle.std.proofs.Common.{◌≡◌, ℕ, Bool, true, false, IsTrue, List, [], ◌∷◌, ◌++◌, map, inl, inr, refl, sym, ap, ◌∙◌, subst}
use Rattle.std.specs.List.{AllByRecursion, IsDistinct, list_any, list_all}
use Rattle.std.specs.Str.{bytes_eq}
use Rattle.std.proofs.lemmas.Bool.{and_parts, and_from, cases_Bool, true≢false}
use Rattle.std.proofs.lemmas.List.Elements.{All-head, All-tail, All-cons}
use Rattle.std.proofs.lemmas.Map.Keys.{IsDistinct-cons, IsDistinct-head, IsDistinct-tail}
use Rattle.std.proofs.lemmas.Slice.Eq.{bytes_eq-Decides}
use Rattle.trit_cubes.proofs.ListLemmas.{Among, map-among}
use Rattle.udp_tables.proofs.FirstLemmas.{found-any}
use Rattle.verilog_grammar.specs.WellFormed.{IsName}
use Rattle.verilog_grammar.proofs.ReadNames.{AreNames, one_name}

-- names that are unlike are so to the test
pub unlike : (x y : List ℕ) → (x ≡ y → ⊥) → bytes_eq x y ≡ false
unlike x y h =
    elim (cases_Bool (bytes_eq x y)) [
      | inl e ↦ absurd (h ((bytes_eq-Decides x y).0 e))
      | inr e ↦ e
    ]

-- names of which one passes a test and one does not
pub told_apart : (t : List ℕ → Bool) (x y : List ℕ) → t x ≡ false → t y ≡ true → bytes_eq x y ≡ false
told_apart t x y h k = unlike x y (λ e. true≢false (sym k ∙ ap t (sym e) ∙ h))

-- what no element of a list passes
pub none_passes : {X : Type 0} (p : X → Bool) (x : X) (xs : List X) → list_any p xs ≡ false → Among x xs → p x ≡ false
none_passes p x xs h m =
    elim (cases_Bool (p x)) [
      | inl e ↦ absurd (true≢false (sym (found-any p x xs m e) ∙ h))
      | inr e ↦ e
    ]

-- what holds of each element holds of all, one after another
pub each_among : {X : Type 0} (P : X → Type 0) (xs : List X) → ((x : X) → Among x xs → P x) → AllByRecursion P xs
each_among P [] h = tt
each_among P (x ∷ xs) h = (h x (inl refl), each_among P xs (λ y m. h y (inr m)))

pub at_among : {X : Type 0} (P : X → Type 0) (x : X) (xs : List X) → AllByRecursion P xs → Among x xs → P x
at_among P x [] h m = absurd m
at_among P x (y ∷ xs) h (inl e) = subst P e h.0
at_among P x (y ∷ xs) h (inr m) = at_among P x xs h.1 m

-- what passes a test passes another one
pub all_weaker : {X : Type 0} (p q : X → Bool) → ((x : X) → IsTrue (p x) → IsTrue (q x)) → (xs : List X) → IsTrue (list_all p xs)
    → IsTrue (list_all q xs)
all_weaker p q f [] h = refl
all_weaker p q f (x ∷ xs) h =
    let parts = and_parts (p x) (list_all p xs) h in
    and_from (q x) (list_all q xs) (f x parts.0) (all_weaker p q f xs parts.1)

-- an item is not one of those behind it, where a test of their keys tells all of them apart
pub other_key :
    {X Y : Type 0} (same : Y → Y → Bool) (key : X → Y) → ((a b : Y) → a ≡ b → same a b ≡ true) → (x : X) (xs : List X)
    → IsDistinct same (map key (x ∷ xs))
    → (other : X) → Among other xs → key x ≡ key other → ⊥
other_key same key alike x xs h other m e =
    true≢false
    (sym (alike (key x) (key other) e)
    ∙ at_among (λ y. same (key x) y ≡ false) (key other) (map key xs) (IsDistinct-head same (key x) (map key xs) h)
    (map-among key other xs m))

both_lists : {X : Type 0} (P : X → Type 0) (xs ys : List X) → AllByRecursion P xs → AllByRecursion P ys
    → AllByRecursion P (xs ++ ys)
both_lists P [] ys h k = k
both_lists P (x ∷ xs) ys h k = (h.0, both_lists P xs ys h.1 k)

-- two lists of names that share none
pub join_names :
    (xs ys : List (List ℕ)) → AreNames xs → AreNames ys
    → ((x y : List ℕ) → Among x xs → Among y ys → bytes_eq x y ≡ false) → AreNames (xs ++ ys)
join_names [] ys h k apart = k
join_names (x ∷ xs) ys h k apart =
    let rest =
    join_names xs ys (record { all = All-tail IsName x xs h.all; apart = IsDistinct-tail bytes_eq x xs h.apart }) k
    (λ a b m n. apart a b (inr m) n) in
    record {
      all = All-cons IsName x (xs ++ ys) (All-head IsName x xs h.all) rest.all;
      apart =
          IsDistinct-cons bytes_eq x (xs ++ ys)
          (both_lists (λ y. bytes_eq x y ≡ false) xs ys (IsDistinct-head bytes_eq x xs h.apart)
          (each_among (λ y. bytes_eq x y ≡ false) ys (λ y m. apart x y (inl refl) m)))
          rest.apart;
    }

-- one more name before others
pub cons_name :
    (x : List ℕ) (xs : List (List ℕ)) → IsName x → AreNames xs → ((y : List ℕ) → Among y xs → bytes_eq x y ≡ false)
    → AreNames (x ∷ xs)
cons_name x xs h k apart =
    join_names (x ∷ []) xs (one_name x h) k
    (λ a b m n. elim m [ inl e ↦ subst (λ z. bytes_eq z b ≡ false) e (apart b n) | inr none ↦ absurd none ])
