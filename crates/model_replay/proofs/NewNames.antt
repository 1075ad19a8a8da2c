-- Different names, each new behind those before it.
use Rattle.std.proofs.Common.{◌≡◌, ℕ, Bool, true, false, ◌||◌, if◌then◌else◌, List, [], ◌∷◌, ◌++◌, map, refl, sym, ap, ◌∙◌}
use Rattle.std.proofs.lemmas.Slice.Eq.{bytes_eq-Decides}
use Rattle.std.specs.Str.{bytes_eq, str_eq_ignore_ascii_case, str_to_ascii_lowercase}
use Rattle.std.specs.List.{IsDistinct, AllByRecursion, list_any}
use Rattle.std.proofs.lemmas.List.Folds.{list_any-append}
use Rattle.std.proofs.lemmas.Cmp.{nat_list_eq_equiv as bytes_equivalence}
use Rattle.udp_tables.specs.declared.models.VPort.{VPort}
use Rattle.verilog_grammar.specs.WellFormed.{AreApart}
use Rattle.file_models.proofs.bool_functions.NameLists.{position-none}
use Rattle.model_files.specs.ModelNames.{input_names, output_names, AreNew, HasOwnNames}

-- this name is none of those after it
abbrev IsNone : List ℕ → List (List ℕ) → Type 0
IsNone x names = AllByRecursion (λ y. bytes_eq x y ≡ false) names

-- each of these is none of those before
abbrev AreOthers : List (List ℕ) → List (List ℕ) → Type 0
AreOthers before names = AllByRecursion (λ y. list_any (bytes_eq y) before ≡ false) names

one_more : (before : List (List ℕ)) (x : List ℕ) (names : List (List ℕ)) → IsNone x names → AreOthers before names
    → AreOthers (before ++ x ∷ []) names
one_more before x [] h k = tt
one_more before x (y ∷ names) h k =
    let other : bytes_eq y x ≡ false = bytes_equivalence.symm y x ∙ h.0 in
    let last : (bytes_eq y x || false) ≡ false = ap (λ b. b || false) other in
    let all : list_any (bytes_eq y) (before ++ x ∷ []) ≡ false =
    list_any-append (bytes_eq y) before (x ∷ []) ∙ ap (λ b. b || (bytes_eq y x || false)) k.0 ∙ last in
    (all, one_more before x names h.1 k.1)

are_new : (before names : List (List ℕ)) → AreOthers before names → AreApart names → AreNew before names
unfolding IsDistinct
are_new before [] h d = tt
are_new before (x ∷ names) h d = (
  position-none (bytes_eq x) before h.0,
  are_new (before ++ x ∷ []) names
      (one_more before x names d.0 h.1) d.1,
)

others_of_none : (names : List (List ℕ)) → AreOthers [] names
others_of_none [] = tt
others_of_none (x ∷ names) = (refl, others_of_none names)

-- different names are each new behind those before it
pub apart_new : (names : List (List ℕ)) → AreApart names → AreNew [] names
apart_new names d = are_new [] names (others_of_none names) d

-- Parts of lists.

pub all_front : (P : List ℕ → Type 0) (xs ys : List (List ℕ)) → AllByRecursion P (xs ++ ys) → AllByRecursion P xs
all_front P [] ys h = tt
all_front P (x ∷ xs) ys h = (h.0, all_front P xs ys h.1)

pub all_back : (P : List ℕ → Type 0) (xs ys : List (List ℕ)) → AllByRecursion P (xs ++ ys) → AllByRecursion P ys
all_back P [] ys h = h
all_back P (x ∷ xs) ys h = all_back P xs ys h.1

pub apart_front : (xs ys : List (List ℕ)) → AreApart (xs ++ ys) → AreApart xs
unfolding IsDistinct
apart_front [] ys h = tt
apart_front (x ∷ xs) ys h = (all_front (λ y. bytes_eq x y ≡ false) xs ys h.0, apart_front xs ys h.1)

pub apart_back : (xs ys : List (List ℕ)) → AreApart (xs ++ ys) → AreApart ys
unfolding IsDistinct
apart_back [] ys h = h
apart_back (x ∷ xs) ys h = apart_back xs ys h.1

-- The ports of one direction.

all_inputs : (P : List ℕ → Type 0) (ports : List VPort) → AllByRecursion P (map (λ (port : VPort). port.name) ports)
    → AllByRecursion P (input_names ports)
all_inputs P [] h = tt
all_inputs P (port ∷ ports) h =
    elim port.input as (λ b. AllByRecursion P (if b then port.name ∷ input_names ports else input_names ports)) [
      | true ↦ (h.0, all_inputs P ports h.1)
      | false ↦ all_inputs P ports h.1
    ]

all_outputs : (P : List ℕ → Type 0) (ports : List VPort) → AllByRecursion P (map (λ (port : VPort). port.name) ports)
    → AllByRecursion P (output_names ports)
all_outputs P [] h = tt
all_outputs P (port ∷ ports) h =
    elim port.input as (λ b. AllByRecursion P (if b then output_names ports else port.name ∷ output_names ports)) [
      | true ↦ all_outputs P ports h.1
      | false ↦ (h.0, all_outputs P ports h.1)
    ]

inputs_apart : (ports : List VPort) → AreApart (map (λ (port : VPort). port.name) ports) → AreApart (input_names ports)
unfolding IsDistinct
inputs_apart [] h = tt
inputs_apart (port ∷ ports) h =
    elim port.input as (λ b. AreApart (if b then port.name ∷ input_names ports else input_names ports)) [
      | true ↦ (all_inputs (λ y. bytes_eq port.name y ≡ false) ports h.0, inputs_apart ports h.1)
      | false ↦ inputs_apart ports h.1
    ]

outputs_apart : (ports : List VPort) → AreApart (map (λ (port : VPort). port.name) ports) → AreApart (output_names ports)
unfolding IsDistinct
outputs_apart [] h = tt
outputs_apart (port ∷ ports) h =
    elim port.input as (λ b. AreApart (if b then output_names ports else port.name ∷ output_names ports)) [
      | true ↦ outputs_apart ports h.1
      | false ↦ (all_outputs (λ y. bytes_eq port.name y ≡ false) ports h.0, outputs_apart ports h.1)
    ]

pub own_ports : (ports : List VPort) → AreApart (map (λ (port : VPort). port.name) ports) → HasOwnNames ports
own_ports ports h = record {
  inputs = apart_new (input_names ports) (inputs_apart ports h);
  outputs =
      apart_new (output_names ports) (outputs_apart ports h);
}

-- Names that differ in more than the case of their letters are different.

unlike : (x y : List ℕ) → str_eq_ignore_ascii_case x y ≡ false → bytes_eq x y ≡ false
unlike x y e = by_bytes (bytes_eq x y) refl
  where
    by_bytes : (same : Bool) → bytes_eq x y ≡ same → same ≡ false
    by_bytes false f = refl
    by_bytes true f =
        let is : x ≡ y = (bytes_eq-Decides x y).0 f in
        let own : str_eq_ignore_ascii_case x x ≡ true = bytes_equivalence.refl (str_to_ascii_lowercase x) in
        sym own ∙ ap (str_eq_ignore_ascii_case x) is ∙ e

none_unlike : (x : List ℕ) (names : List (List ℕ)) → AllByRecursion (λ y. str_eq_ignore_ascii_case x y ≡ false) names
    → IsNone x names
none_unlike x [] h = tt
none_unlike x (y ∷ names) h = (unlike x y h.0, none_unlike x names h.1)

pub apart_spelled : (names : List (List ℕ)) → IsDistinct str_eq_ignore_ascii_case names → AreApart names
unfolding IsDistinct
apart_spelled [] h = tt
apart_spelled (x ∷ names) h = (none_unlike x names h.0, apart_spelled names h.1)
