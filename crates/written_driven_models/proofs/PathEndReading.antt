-- The ends of paths are found by their names.
use Rattle.std.proofs.Common.{◌≡◌, ℕ, zero, suc, ◌+◌, ◌≤◌, Bool, true, false, not, nat_eq, cond, if◌then◌else◌, List, [], ◌∷◌}
use Rattle.std.proofs.Common.{◌++◌, length, map, Option, Some, slice_get, refl, ap, subst, ◌∙◌, arith}
use Rattle.std.specs.Prelude.{position}
use Rattle.std.specs.List.{AllByRecursion, IsDistinct, filter, list_any, position_from}
use Rattle.std.specs.Option.{option_and_then}
use Rattle.std.proofs.lemmas.Bool.{eq-eqb, ne_eqb}
use Rattle.std.proofs.lemmas.Iterator.Adapters.{position_from-zero}
use Rattle.written_modules.specs.udp_tables.declared.models.VPort.{VPort}
use Rattle.driver_models.specs.PathEnds.{input_from, output_from, input_number, drive_number}
use Rattle.driver_texts.specs.PortNames.{inputs, outputs}
use Rattle.written_modules.proofs.grammar_reader.ItemPlaces.{item_at, found_behind}
use Rattle.written_driven_models.proofs.Languages.{IsDriverLanguage}
use Rattle.written_driven_models.proofs.NumberedDrives.{Ahead}

-- what holds of all items holds of one that passes a test
pub passing_at : {A : Type 0} (P : A → Type 0) (test : A → Bool) (xs : List A) (k : ℕ) (x : A) → AllByRecursion P xs
    → slice_get (filter test xs) k ≡ Some x → P x
passing_at P test [] k x all e = absurd cc
passing_at P test (y ∷ xs) k x all e = by (test y) k e (λ i f. passing_at P test xs i x all.1 f)
  where
    by : (b : Bool) (k : ℕ) → slice_get (cond b (y ∷ filter test xs) (filter test xs)) k ≡ Some x
        → ((i : ℕ) → slice_get (filter test xs) i ≡ Some x → P x) → P x
    by true zero e rest = let same : y ≡ x = cc in subst P same all.0
    by true (suc i) e rest = rest i e
    by false i e rest = rest i e

module _ {is_name : List ℕ → Bool} {is_same : List ℕ → List ℕ → Bool} {value enable : List ℕ}
    (lang : IsDriverLanguage is_name is_same value enable) where
  abbrev IsNamed : VPort → Type 0
  IsNamed port = is_name port.name ≡ true

  -- names of which none is the same as a later one
  abbrev pub AreApart : List VPort → Type 0
  AreApart ports = IsDistinct is_same (map (λ (port : VPort). port.name) ports)

  -- a name and a later one
  abbrev IsOther : VPort → VPort → Type 0
  IsOther first port = is_name port.name ≡ true × is_same first.name port.name ≡ false

  others_of : (first : VPort) (ports : List VPort) → AllByRecursion IsNamed ports
      → AllByRecursion (λ y. is_same first.name y ≡ false) (map (λ (port : VPort). port.name) ports) →
      AllByRecursion (IsOther first) ports
  others_of first [] n a = tt
  others_of first (port ∷ ports) n a = ((n.0, a.0), others_of first ports n.1 a.1)

  other_name : (first port : VPort) → is_name first.name ≡ true → IsOther first port → is_same port.name first.name ≡ false
  other_name first port n o = lang.turned port.name first.name o.0 n ∙ o.1

  -- the port with a number among those that pass a test is found by its name, by what counts these
  found_from : (test : VPort → Bool) (from : ℕ → List VPort → List ℕ → Option ℕ)
      → ((n : ℕ) (first : VPort) (ports : List VPort) (x : List ℕ) → from n (first ∷ ports) x
      ≡ (if test first then (if is_same x first.name then Some n else from (n + 1) ports x) else from n ports x))
      → (ports : List VPort) (n k : ℕ) (port : VPort) → AllByRecursion IsNamed ports → AreApart ports
      → slice_get (filter test ports) k ≡ Some port → from n ports port.name ≡ Some (n + k)
  unfolding IsDistinct
  found_from test from step [] n k port named apart e = absurd cc
  found_from test from step (first ∷ ports) n k port named apart e =
      step n first ports port.name
      ∙ by (test first) k e (λ m i f. found_from test from step ports m i port named.1 apart.1 f)
    where
      by : (b : Bool) (k : ℕ) → slice_get (cond b (first ∷ filter test ports) (filter test ports)) k ≡ Some port →
          ((m i : ℕ) → slice_get (filter test ports) i ≡ Some port → from m ports port.name ≡ Some (m + i)) →
          (if b then (if is_same port.name first.name then Some n else from (n + 1) ports port.name)
          else from n ports port.name) ≡ Some (n + k)
      by true zero e rest =
          let same : first ≡ port = cc in
          let here : is_same port.name first.name ≡ true = ap (λ (p : VPort). is_same port.name p.name) same
          ∙ lang.itself port.name in
          let count : n ≡ n + 0 = omega arith in
          rw here (ap Some count)
      by true (suc i) e rest =
          let other = other_name first port named.0
          (passing_at (IsOther first) test ports i port (others_of first ports named.1 apart.0) e) in
          let count : n + 1 + i ≡ n + suc i = omega arith in
          rw other (rest (n + 1) i e ∙ ap Some count)
      by false i e rest = rest n i e

  input_found : (ports : List VPort) (n k : ℕ) (port : VPort) → AllByRecursion IsNamed ports → AreApart ports
      → slice_get (inputs ports) k ≡ Some port → input_from is_same n ports port.name ≡ Some (n + k)
  input_found = found_from (λ (port : VPort). port.input) (input_from is_same) (λ n first ports x. refl)

  output_found : (ports : List VPort) (n k : ℕ) (port : VPort) → AllByRecursion IsNamed ports → AreApart ports
      → slice_get (outputs ports) k ≡ Some port → output_from is_same n ports port.name ≡ Some (n + k)
  output_found = found_from (λ (port : VPort). not port.input) (output_from is_same) (λ n first ports x. by _ _ first.input)
    where
      by : {A : Type 0} (a b : A) (input : Bool) → (if input then a else b) ≡ (if not input then b else a)
      by a b true = refl
      by a b false = refl

  pub input_number_is : (ports : List VPort) (k : ℕ) (port : VPort) → AllByRecursion IsNamed ports → AreApart ports
      → slice_get (inputs ports) k ≡ Some port →
      input_number is_same ports port.name ≡ Some k
  input_number_is ports k port named apart e = let count : 0 + k ≡ k = omega arith
      in input_found ports 0 k port named apart e ∙ ap Some count

  -- the number of a place among places that ascend

  behind_place : (p : ℕ) (before : List ℕ) (place : ℕ) (after : List ℕ) → Ahead p (before ++ place ∷ after) → p ≤ place
  behind_place p [] place after h = h.0
  behind_place p (q ∷ before) place after h = let later = behind_place (q + 1) before place after h.1 in omega (arith, later, h.0)

  none_before : (p : ℕ) (before : List ℕ) (place : ℕ) (after : List ℕ) → Ahead p (before ++ place ∷ after)
      → list_any (λ driven. nat_eq driven place) before ≡ false
  none_before p [] place after h = refl
  none_before p (q ∷ before) place after h =
      let later = behind_place (q + 1) before place after h.1 in
      let other : nat_eq q place ≡ false = ne_eqb q place (λ e. omega (arith, later, e)) in
      rw other (none_before (q + 1) before place after h.1)

  place_numbered : (drives : List ℕ) (k place : ℕ) → Ahead 0 drives → slice_get drives k ≡ Some place
      → position (λ driven. nat_eq driven place) drives ≡ Some k
  place_numbered drives k place h e =
      let at = item_at drives k place e in
      let count : 0 + length at.before ≡ k = let here = at.place in omega (arith, here) in
      position_from-zero (λ driven. nat_eq driven place) drives
      ∙ ap (position_from (λ driven. nat_eq driven place) 0) at.split
      ∙ found_behind (λ driven. nat_eq driven place) 0 at.before place at.after
      (none_before 0 at.before place at.after (subst (Ahead 0) at.split h)) (eq-eqb place place refl)
      ∙ ap Some count

  pub drive_number_is : (ports : List VPort) (drives : List ℕ) (k place : ℕ) (port : VPort) → AllByRecursion IsNamed ports
      → AreApart ports → Ahead 0 drives →
      slice_get drives k ≡ Some place → slice_get (outputs ports) place ≡ Some port
      → drive_number is_same ports drives port.name ≡ Some k
  drive_number_is ports drives k place port named apart h e f =
      let count : 0 + place ≡ place = omega arith in
      ap (option_and_then (λ place. position (λ driven. nat_eq driven place) drives))
      (output_found ports 0 place port named apart f ∙ ap Some count)
      ∙ place_numbered drives k place h e
