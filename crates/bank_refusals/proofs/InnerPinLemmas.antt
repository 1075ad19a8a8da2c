-- Inner pins that are found by the names in their arguments.
use Rattle.std.proofs.Common.{◌≡◌, ℕ, ◌+◌, ◌-◌, ◌<◌, ◌≤◌, Bool, true, false, ◌&&◌, ◌||◌, cond, if◌then◌else◌}
use Rattle.std.proofs.Common.{List, [], ◌∷◌, ◌++◌, map, take, length, get_or, Option, Some, None, slice_get, refl, sym, ap, subst, ◌∙◌}
use Rattle.std.proofs.Common.{arith, codes, length-append, nat_eq}
use Rattle.std.specs.Prelude.{flat_map, filter, option_map, option_to_list, bytes_eq, Result, Ok, Err, IfOk}
use Rattle.std.proofs.lemmas.List.{append-nil, take_more, length-map, length-take-le, take-map}
use Rattle.std.proofs.lemmas.List.Folds.{list_any-append}
use Rattle.std.proofs.lemmas.Option.{slice_get-map, slice_get_read, slice_get-get_or}
use Rattle.std.proofs.lemmas.Bool.Decides.{nat_tests}
use Rattle.liberty_groups.specs.declared.tree.Value.{Value}
use Rattle.liberty_groups.specs.declared.tree.Item.{Item}
use Rattle.liberty_groups.specs.declared.tree.Group.{Group}
use Rattle.bus_texts.specs.declared.vectors.Vector.{Vector}
use Rattle.bus_texts.specs.Vectors.{is_called}
use Rattle.bus_texts.proofs.NamedLemmas.{same_either_way}
use Rattle.cell_machine.specs.Places.{places_from, entries_at, AreBelow}
use Rattle.cell_machine.proofs.EntryPlaces.{places-more, places-below, entries-pass}
use Rattle.first_names.specs.declared.all_places.AllPlaces.{AllPlaces}
use Rattle.first_names.specs.PutOnce.{end_with, with_place}
use Rattle.first_names.specs.AllPlaces.{places_of, PutsPlace}
use Rattle.bank_refusals.specs.Members.{inner_pin_items}
use Rattle.bank_refusals.specs.InnerPins.{has_name, PutsPin, AreFound, pin_names, pin_places, statements_of, statements_at}

-- a place is put behind others once
get_behind : (xs : List ℕ) (x : ℕ) → slice_get (xs ++ x ∷ []) (length xs) ≡ Some x
get_behind [] x = refl
get_behind (y ∷ ys) x = get_behind ys x

ends : (xs : List ℕ) (x : ℕ) → end_with (xs ++ x ∷ []) x ≡ true
ends xs x =
    let last : length (xs ++ x ∷ []) - 1 ≡ length xs = omega (arith, length-append xs (x ∷ [])) in
    let same : nat_eq x x ≡ true = grind (arith, nat_tests) in
    rw (last, get_behind xs x) same

put_twice : (xs : List ℕ) (x : ℕ) → with_place (with_place xs x) x ≡ with_place xs x
put_twice xs x = by (end_with xs x) refl
  where
    by : (b : Bool) → end_with xs x ≡ b → with_place (if b then xs else xs ++ x ∷ []) x ≡ (if b then xs else xs ++ x ∷ [])
    by true e = ap (λ b. if b then xs else xs ++ x ∷ []) e
    by false e = ap (λ b. if b then xs ++ x ∷ [] else (xs ++ x ∷ []) ++ x ∷ []) (ends xs x)

two_puts : (xs : List ℕ) (x : ℕ) (b c : Bool)
    → (if c then with_place (if b then with_place xs x else xs) x else (if b then with_place xs x else xs))
    ≡ (if b || c then with_place xs x else xs)
two_puts xs x true true = put_twice xs x
two_puts xs x true false = refl
two_puts xs x false true = refl
two_puts xs x false false = refl

-- an argument more
pub put_more : (old new next : AllPlaces) (arguments : List Value) (k : ℕ) (argument : Value) (at : ℕ) → k < length arguments
    → argument ≡ get_or arguments k argument → PutsPin old (take k arguments) at new → PutsPlace new argument.bytes at next
    → PutsPin old (take (k + 1) arguments) at next
put_more old new next arguments k argument at h e p q =
    let longer : take (k + 1) arguments ≡ take k arguments ++ argument ∷ [] =
    take_more arguments k argument h ∙ ap (λ u. take k arguments ++ u ∷ []) (sym e) in
    record {
      stands = λ name.
          q.stands name
          ∙ (λ i. if same_either_way name argument.bytes i then with_place (p.stands name i) at else p.stands name i)
          ∙ two_puts (places_of old name) at (has_name name (take k arguments)) (bytes_eq argument.bytes name)
          ∙ ap (λ b. if b then with_place (places_of old name) at else places_of old name)
          (ap (λ b. has_name name (take k arguments) || b) (sym (or-false (bytes_eq argument.bytes name)))
          ∙ sym (ap (has_name name) longer ∙ list_any-append (λ a. bytes_eq a.bytes name) (take k arguments) (argument ∷ [])));
    }
  where
    or-false : (b : Bool) → (b || false) ≡ b
    or-false true = refl
    or-false false = refl

-- a place behind those of the pins before it
not_last : (n i : ℕ) (xs : List ℕ) → AreBelow n xs → n ≤ i → end_with xs i ≡ false
not_last n i [] below h = refl
not_last n i (x ∷ xs) below h =
    let last : slice_get (x ∷ xs) (length xs) ≡ Some (get_or (x ∷ xs) (length xs) 0) =
    slice_get-get_or (x ∷ xs) (length xs) 0 (omega arith) in
    let less = below (length xs) (omega arith) in
    let here : length (x ∷ xs) - 1 ≡ length xs = omega arith in
    let unlike : nat_eq (get_or (x ∷ xs) (length xs) 0) i ≡ false = grind (arith, nat_tests, less, h) in
    rw (here, last) unlike

put_once : (n i : ℕ) (xs : List ℕ) (b : Bool) → AreBelow n xs → n ≤ i
    → (if b then with_place xs i else xs) ≡ xs ++ cond b (i ∷ []) []
put_once n i xs true below h = ap (λ b. if b then xs else xs ++ i ∷ []) (not_last n i xs below h)
put_once n i xs false below h = sym (append-nil xs)

pub found_more : {X : Type 0} (v : X → Group) (old new : AllPlaces) (pins : List X) (i : ℕ) (pin : X) → i < length pins
    → pin ≡ get_or pins i pin → AreFound old (map v (take i pins)) → PutsPin old (v pin).arguments i new
    → AreFound new (map v (take (i + 1) pins))
found_more v old new pins i pin h e f p =
    let all = map v pins in
    let here : slice_get all i ≡ Some (v pin) =
    slice_get-map v pins i ∙ ap (option_map v) (slice_get_read pins (length pins) i pin refl h e) in
    let size : length (take i pins) ≡ i = length-take-le i pins (omega (arith, h)) in
    record {
      found = λ name.
          let passes : Group → Bool = λ g. has_name name g.arguments in
          let was : places_of old name ≡ places_from passes 0 (map v (take i pins)) = f.found name in
          places-more passes all i (v pin) (passes (v pin)) (places_of old name) (places_of new name) here refl
          (was ∙ ap (places_from passes 0) (sym (take-map v i pins)))
          (p.stands name ∙ put_once (length (map v (take i pins))) i (places_of old name) (passes (v pin))
          (subst (AreBelow (length (map v (take i pins)))) (sym was) (places-below passes (map v (take i pins))))
          (omega (arith, size, length-map (take i pins) v)))
          ∙ ap (places_from passes 0) (take-map v (i + 1) pins);
    }

-- what a member of a bundle has of the pins that are found by its name
at_entries : (pins : List Group) (places : List ℕ)
    → flat_map (statements_at pins) places ≡ flat_map (λ pin. statements_of (Some pin)) (entries_at pins places)
at_entries pins [] = refl
at_entries pins (place ∷ places) = by (slice_get pins place) (at_entries pins places)
  where
    by : (o : Option Group) → flat_map (statements_at pins) places ≡ flat_map (λ pin. statements_of (Some pin)) (entries_at pins places)
        → statements_of o ++ flat_map (statements_at pins) places
        ≡ flat_map (λ pin. statements_of (Some pin)) (option_to_list o ++ entries_at pins places)
    by None e = e
    by (Some pin) e = ap (λ l. statements_of (Some pin) ++ l) e

module _ (vector : Vector) (at : ℕ) (member : List ℕ) where
  own_first : (pin : Group) (b c : Bool) (rest : List Item)
      → (if c then (if b then pin.items else []) ++ rest else rest) ≡ (if b && c then pin.items else []) ++ rest
  own_first pin true true rest = refl
  own_first pin true false rest = refl
  own_first pin false true rest = refl
  own_first pin false false rest = refl

  by_name : (pins : List Group)
      → flat_map (λ pin. statements_of (Some pin)) (filter (pin_names vector at member) pins)
      ≡ flat_map (inner_pin_items vector at member) pins
  by_name [] = refl
  by_name (pin ∷ pins) =
      one (pin_names vector at member pin)
      ∙ ap (λ l. if pin_names vector at member pin then statements_of (Some pin) ++ l else l) (by_name pins)
      ∙ own_first pin (is_called (codes "pin") pin) (pin_names vector at member pin) (flat_map
      (inner_pin_items vector at member) pins)
    where
      one : (b : Bool)
          → flat_map (λ pin. statements_of (Some pin))
          (cond b (pin ∷ filter (pin_names vector at member) pins) (filter (pin_names vector at member) pins))
          ≡ (if b then statements_of (Some pin) ++ flat_map (λ pin. statements_of (Some pin)) (filter (pin_names vector at member) pins)
          else flat_map (λ pin. statements_of (Some pin)) (filter (pin_names vector at member) pins))
      one true = refl
      one false = refl

  pub own_found : (pins : List Group)
      → flat_map (statements_at pins) (pin_places vector at member pins) ≡ flat_map (inner_pin_items vector at member) pins
  own_found pins =
      at_entries pins (pin_places vector at member pins)
      ∙ ap (flat_map (λ pin. statements_of (Some pin))) (entries-pass (pin_names vector at member) pins)
      ∙ by_name pins

-- what a fact of a call that went well comes to
pub if_went : {X E : Type 0} (result : Result X E) (P Q : X → Type 0) → ((x : X) → P x → Q x) → IfOk result P → IfOk result Q
if_went (Ok x) P Q f p = f x p
if_went (Err e) P Q f p = tt
