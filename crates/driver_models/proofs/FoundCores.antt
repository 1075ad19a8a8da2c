-- Cores that are looked up by what their names are folded to.
use Rattle.std.proofs.Common.{◌≡◌, ℕ, ◌+◌, ◌<◌, Bool, true, false, cond, List, [], ◌∷◌, ◌++◌, length, get_or, slice_get, Option}
use Rattle.std.proofs.Common.{Some, None, refl, sym, ap, subst, ◌∙◌, arith}
use Rattle.std.specs.List.{position_from}
use Rattle.std.specs.Option.{option_and_then}
use Rattle.std.specs.Str.{bytes_eq}
use Rattle.std.proofs.Math.ListN.{get_or-append}
use Rattle.std.proofs.lemmas.Iterator.Adapters.{position_from-zero}
use Rattle.std.proofs.lemmas.List.{length-append}
use Rattle.std.proofs.lemmas.List.Quantifiers.{position-Some}
use Rattle.std.proofs.lemmas.Option.{slice_get-get_or}
use Rattle.std.proofs.lemmas.Slice.Eq.{bytes_eq-Decides}
use Rattle.bool_functions.specs.NameList.{number_of, Adds}
use Rattle.driver_models.specs.Cores.{Core}
use Rattle.driver_models.specs.Found.{AreFound, with_first}

abbrev or_last : Option ℕ → Option ℕ → Option ℕ
or_last (Some a) b = Some a
or_last None b = b

last_by : {X : Type 0} (p : X → Bool) (i : ℕ) (xs : List X) (y x : X) (b : Bool) →
    position_from p (i + 1) (xs ++ y ∷ []) ≡ or_last (position_from p (i + 1) xs) (cond (p y) (Some (i + 1 + length xs)) None) →
    cond b (Some i) (position_from p (i + 1) (xs ++ y ∷ [])) ≡ or_last (cond b (Some i) (position_from p (i + 1) xs))
    (cond (p y) (Some (i + length (x ∷ xs))) None)
last_by p i xs y x true e = refl
last_by p i xs y x false e =
    let f : i + 1 + length xs ≡ i + length (x ∷ xs) = omega arith in
    e ∙ ap (λ (n : ℕ). or_last (position_from p (i + 1) xs) (cond (p y) (Some n) None)) f

-- the first place of a list with one more item
last_from : {X : Type 0} (p : X → Bool) (i : ℕ) (xs : List X) (y : X) →
    position_from p i (xs ++ y ∷ []) ≡ or_last (position_from p i xs) (cond (p y) (Some (i + length xs)) None)
last_from p i [] y = let e : i ≡ i + 0 = omega arith in ap (λ (n : ℕ). cond (p y) (Some n) None) e
last_from p i (x ∷ xs) y = last_by p i xs y x (p x) (last_from p (i + 1) xs y)

-- the same, from the front on
last_first : {X : Type 0} (p : X → Bool) (xs : List X) (y : X) →
    position_from p 0 (xs ++ y ∷ []) ≡ or_last (position_from p 0 xs) (cond (p y) (Some (length xs)) None)
last_first p xs y =
    let e : 0 + length xs ≡ length xs = omega arith in
    last_from p 0 xs y ∙ ap (λ (n : ℕ). or_last (position_from p 0 xs) (cond (p y) (Some n) None)) e

numbered_last : (names : List (List ℕ)) (key x : List ℕ) →
    number_of (names ++ key ∷ []) x ≡ or_last (number_of names x) (cond (bytes_eq x key) (Some (length names)) None)
numbered_last names key x =
    position_from-zero (bytes_eq x) (names ++ key ∷ []) ∙ last_first (bytes_eq x) names key
    ∙ ap (λ (o : Option ℕ). or_last o (cond (bytes_eq x key) (Some (length names)) None))
    (sym (position_from-zero (bytes_eq x) names))

got_last : (xs : List ℕ) (n : ℕ) → get_or (xs ++ n ∷ []) (length xs) 0 ≡ n
got_last [] n = refl
got_last (x ∷ xs) n = got_last xs n

front_item : (xs : List ℕ) (n k : ℕ) → k < length xs → slice_get (xs ++ n ∷ []) k ≡ slice_get xs k
front_item xs n k h =
    slice_get-get_or (xs ++ n ∷ []) k 0 (omega (arith, h, length-append xs (n ∷ []))) ∙ ap Some (get_or-append xs (n ∷ []) 0 k h)
    ∙ sym (slice_get-get_or xs k 0 h)

last_item : (xs : List ℕ) (n : ℕ) → slice_get (xs ++ n ∷ []) (length xs) ≡ Some n
last_item xs n = slice_get-get_or (xs ++ n ∷ []) (length xs) 0 (omega (arith, length-append xs (n ∷ [])))
    ∙ ap Some (got_last xs n)

module _ (fold : List ℕ → List ℕ) (folded : List (List ℕ)) (firsts : List ℕ) (cores : List Core) (core : Core)
    (found : AreFound fold folded firsts cores) where
  abbrev is_core : List ℕ → Core → Bool
  is_core x other = bytes_eq x (fold other.name)

  -- a number among the names is one among the first numbers
  numbered : (x : List ℕ) (k : ℕ) → number_of folded x ≡ Some k → k < length firsts
  numbered x k e = let s : length firsts ≡ length folded = found.sized
      in omega (arith, s, (position-Some (bytes_eq x) folded k [] e).0)

  -- a core whose name is new
  pub added_new : AreFound fold (folded ++ fold core.name ∷ []) (firsts ++ length cores ∷ []) (cores ++ core ∷ [])
  added_new = record {
    sized = let s : length firsts ≡ length folded = found.sized in
        omega (arith, s, length-append firsts (length cores ∷ []), length-append folded (fold core.name ∷ []));
    first = λ x. ap (option_and_then (slice_get (firsts ++ length cores ∷ []))) (numbered_last folded (fold core.name) x)
        ∙ by_number x (number_of folded x) refl ∙ sym (last_first (is_core x) cores core);
  }
    where
      by_last : (x : List ℕ) (b : Bool) →
          option_and_then (slice_get (firsts ++ length cores ∷ [])) (cond b (Some (length folded)) None) ≡ cond b
          (Some (length cores)) None
      by_last x true = subst (λ (n : ℕ). slice_get (firsts ++ length cores ∷ []) n ≡ Some (length cores)) found.sized
          (last_item firsts (length cores))
      by_last x false = refl

      by_number : (x : List ℕ) (o : Option ℕ) → number_of folded x ≡ o →
          option_and_then (slice_get (firsts ++ length cores ∷ []))
          (or_last o (cond (bytes_eq x (fold core.name)) (Some (length folded)) None))
          ≡ or_last (position_from (is_core x) 0 cores) (cond (bytes_eq x (fold core.name)) (Some (length cores)) None)
      by_number x (Some k) e =
          let h : k < length firsts = numbered x k e in
          let is : position_from (is_core x) 0 cores ≡ Some (get_or firsts k 0) =
          sym (found.first x) ∙ ap (option_and_then (slice_get firsts)) e ∙ slice_get-get_or firsts k 0 h in
          front_item firsts (length cores) k h ∙ slice_get-get_or firsts k 0 h
          ∙ ap (λ (o : Option ℕ). or_last o (cond (bytes_eq x (fold core.name)) (Some (length cores)) None)) (sym is)
      by_number x None e =
          let is : position_from (is_core x) 0 cores ≡ None = sym (found.first x) ∙ ap (option_and_then (slice_get firsts)) e in
          by_last x (bytes_eq x (fold core.name))
          ∙ ap (λ (o : Option ℕ). or_last o (cond (bytes_eq x (fold core.name)) (Some (length cores)) None)) (sym is)

  -- a core whose name is there
  pub added_known : (number_of folded (fold core.name) ≡ None → ⊥) → AreFound fold folded firsts (cores ++ core ∷ [])
  added_known known = record {
    sized = found.sized;
    first = λ x. found.first x ∙ by_first x (position_from (is_core x) 0 cores) refl ∙ sym (last_first (is_core x) cores core);
  }
    where
      stands : (o : Option ℕ) → number_of folded (fold core.name) ≡ o → position_from (is_core (fold core.name)) 0 cores ≡ None
          → ⊥
      stands None e f = known e
      stands (Some k) e f =
          let is : position_from (is_core (fold core.name)) 0 cores ≡ Some (get_or firsts k 0) =
          sym (found.first (fold core.name)) ∙ ap (option_and_then (slice_get firsts)) e
          ∙ slice_get-get_or firsts k 0 (numbered (fold core.name) k e) in
          cc

      by_same : (x : List ℕ) (b : Bool) → bytes_eq x (fold core.name) ≡ b → position_from (is_core x) 0 cores ≡ None
          → None ≡ cond b (Some (length cores)) None
      by_same x true e f =
          absurd (stands (number_of folded (fold core.name)) refl
          (subst (λ (y : List ℕ). position_from (is_core y) 0 cores ≡ None) ((bytes_eq-Decides x (fold core.name)).0 e) f))
      by_same x false e f = refl

      by_first : (x : List ℕ) (o : Option ℕ) → position_from (is_core x) 0 cores ≡ o →
          position_from (is_core x) 0 cores ≡ or_last (position_from (is_core x) 0 cores)
          (cond (bytes_eq x (fold core.name)) (Some (length cores)) None)
      by_first x (Some k) e = e ∙ ap (λ (o : Option ℕ). or_last o (cond (bytes_eq x (fold core.name)) (Some (length cores)) None))
          (sym e)
      by_first x None e =
          e ∙ by_same x (bytes_eq x (fold core.name)) refl e
          ∙ ap (λ (o : Option ℕ). or_last o (cond (bytes_eq x (fold core.name)) (Some (length cores)) None)) (sym e)

-- one more core
pub added : (fold : List ℕ → List ℕ) (folded new : List (List ℕ)) (firsts more : List ℕ) (cores : List Core) (core : Core)
    (key : List ℕ) (n : ℕ) (number : Option ℕ) →
    AreFound fold folded firsts cores → Adds folded key number new → key ≡ fold core.name → n ≡ length cores
    → more ≡ with_first number firsts n →
    AreFound fold new more (cores ++ core ∷ [])
added fold folded new firsts more cores core key n (Some i) found a e f g =
    subst (λ (l : List (List ℕ)). AreFound fold l more (cores ++ core ∷ [])) (sym (a.2 ∙ ap (λ (k : List ℕ). folded ++ k ∷ []) e))
    (subst (λ (l : List ℕ). AreFound fold (folded ++ fold core.name ∷ []) l (cores ++ core ∷ []))
    (sym (g ∙ ap (λ (m : ℕ). firsts ++ m ∷ []) f))
    (added_new fold folded firsts cores core found))
added fold folded new firsts more cores core key n None found a e f g =
    subst (λ (l : List (List ℕ)). AreFound fold l more (cores ++ core ∷ [])) (sym a.1)
    (subst (λ (l : List ℕ). AreFound fold folded l (cores ++ core ∷ [])) (sym g)
    (added_known fold folded firsts cores core found (subst (λ (k : List ℕ). number_of folded k ≡ None → ⊥) e a.0)))
