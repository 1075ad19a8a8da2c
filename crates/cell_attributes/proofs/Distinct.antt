-- Where no declared name clashes and none is bad, the pins of a cell keep the rules of pins.
use Rattle.std.proofs.Common.{◌≡◌, ℕ, Bool, true, false, not, ◌&&◌, ◌||◌, List, [], ◌∷◌, ◌++◌, map, refl, sym, ◌∙◌, ap, subst}
use Rattle.std.proofs.Common.{IsTrue, inl, inr, append_assoc, append-nil}
use Rattle.std.specs.Prelude.{bytes_eq, flat_map, filter, if◌then◌else◌}
use Rattle.std.specs.List.{list_all, list_any}
use Rattle.std.proofs.lemmas.Slice.Eq.{bytes_eq-Decides}
use Rattle.std.proofs.lemmas.Bool.{cases_Bool, and_parts, and_from, not-true as not_true}
use Rattle.std.proofs.lemmas.Grind.{flat_map-append}
use Rattle.std.proofs.lemmas.List.Folds.{list_all-append, list_any-append}
use Rattle.std.proofs.lemmas.List.Elements.{filter-append}
use Rattle.std.proofs.lemmas.List.{map-append}
use Rattle.liberty_groups.specs.declared.tree.Value.{Value}
use Rattle.liberty_groups.specs.declared.tree.Group.{Group}
use Rattle.cell_machine.specs.declared.pins.Pin.{Pin}
use Rattle.cell_machine.specs.CellRules.{is_name, are_distinct}
use Rattle.cell_attributes.specs.declared.declarations.Role.{Role}
use Rattle.cell_attributes.specs.declared.declarations.Role.TheVariants.{Bearer, Node, Plain}
use Rattle.cell_attributes.specs.Groups.{is_pin}
use Rattle.cell_attributes.specs.Pins.{pin_as, pins_in, pin_names}
use Rattle.cell_attributes.specs.Declarations.{Declared, bears, declared_pin, declared_in, may_share, clashes, clashes_after}
use Rattle.cell_attributes.specs.Declarations.{bad_name_in}

-- the parts of an empty list are empty
pub nil_parts : {A : Type 0} (xs ys : List A) → xs ++ ys ≡ [] → (xs ≡ []) × (ys ≡ [])
nil_parts [] ys h = (refl, h)
nil_parts (x ∷ xs) ys h = absurd cc

-- Names of pins.

pin_is_named : (group : Group) (values : List Value) → flat_map bad_name_in (map (declared_pin group) values) ≡ []
    → IsTrue (list_all (λ (pin : Pin). is_name pin.name) (map (pin_as group) values))
pin_is_named group [] h = refl
pin_is_named group (value ∷ values) h =
    let parts = nil_parts (bad_name_in (declared_pin group value)) (flat_map bad_name_in (map (declared_pin group) values)) h in
    elim (cases_Bool (is_name value.bytes)) [
      | inl e ↦ and_from (is_name value.bytes) (list_all (λ (pin : Pin). is_name pin.name) (map (pin_as group) values)) e
          (pin_is_named group values parts.1)
      | inr e ↦ absurd (let k : group.at ∷ [] ≡ [] = rw e at parts.0 in cc)
    ]

pub pins_are_named :
    (groups : List Group) → flat_map bad_name_in (flat_map declared_in groups) ≡ []
    → IsTrue (list_all (λ (pin : Pin). is_name pin.name) (flat_map pins_in (filter is_pin groups)))
pins_are_named [] h = refl
pins_are_named (group ∷ groups) h =
    let split : flat_map bad_name_in (declared_in group) ++ flat_map bad_name_in (flat_map declared_in groups) ≡ [] =
    sym (flat_map-append bad_name_in (declared_in group) (flat_map declared_in groups)) ∙ h in
    let parts = nil_parts (flat_map bad_name_in (declared_in group)) (flat_map bad_name_in (flat_map declared_in groups)) split in
    let later = pins_are_named groups parts.1 in
    elim (cases_Bool (is_pin group)) [
      | inl e ↦
          let here : flat_map bad_name_in (map (declared_pin group) group.arguments) ≡ [] = rw e at parts.0 in
          rw e
          (list_all-append (λ (pin : Pin). is_name pin.name) (pins_in group) (flat_map pins_in (filter is_pin groups))
          ∙ and_from (list_all (λ (pin : Pin). is_name pin.name) (pins_in group))
          (list_all (λ (pin : Pin). is_name pin.name) (flat_map pins_in (filter is_pin groups)))
          (pin_is_named group group.arguments here) later)
      | inr e ↦ rw e later
    ]

-- Names that do not clash.

abbrev is_solid_role : Role → Bool
is_solid_role Bearer = true
is_solid_role Node = false
is_solid_role Plain = true

abbrev is_solid : Declared → Bool
is_solid d = is_solid_role d.role

abbrev solid : List Declared → List (List ℕ)
solid ds = map (λ (d : Declared). d.name) (filter is_solid ds)

-- no name stands before itself or among these
abbrev are_fresh : List (List ℕ) → List (List ℕ) → Bool
are_fresh seen [] = true
are_fresh seen (x ∷ xs) = not (list_any (bytes_eq x) seen) && are_fresh (seen ++ x ∷ []) xs

solid_do_not_share : (r s : Role) → is_solid_role r ≡ true → is_solid_role s ≡ true → may_share r s ≡ false
solid_do_not_share Bearer Bearer h k = refl
solid_do_not_share Bearer Node h k = absurd cc
solid_do_not_share Bearer Plain h k = refl
solid_do_not_share Node s h k = absurd cc
solid_do_not_share Plain s h k = refl

-- a solid name that does not clash with earlier ones is not among their solid names
apart :
    (d : Declared) (earlier : List Declared) → is_solid d ≡ true → list_any (clashes d) earlier ≡ false
    → list_any (bytes_eq d.name) (solid earlier) ≡ false
apart d [] s h = refl
apart d (e ∷ es) s h =
    elim (cases_Bool (clashes d e)) [
      | inl c ↦ absurd (let k : true ≡ false = rw c at h in cc)
      | inr c ↦
          let rest : list_any (clashes d) es ≡ false = rw c at h in
          let later = apart d es s rest in
          elim (cases_Bool (is_solid e)) [
            | inl t ↦
                elim (cases_Bool (bytes_eq d.name e.name)) [
                  | inl b ↦
                      let k : true ≡ false = rw (b, solid_do_not_share d.role e.role s t) at c in absurd cc
                  | inr b ↦ rw (t, b) later
                ]
            | inr t ↦ rw t later
          ]
    ]

solid_append : (xs ys : List Declared) → solid (xs ++ ys) ≡ solid xs ++ solid ys
solid_append xs ys =
    ap (map (λ (d : Declared). d.name)) (filter-append is_solid xs ys)
    ∙ map-append (λ (d : Declared). d.name) (filter is_solid xs) (filter is_solid ys)

-- where no place is given, the test fails
pub no_place : (b : Bool) (at : ℕ) → (if b then at ∷ [] else []) ≡ [] → b ≡ false
no_place true at h = absurd cc
no_place false at h = refl

-- solid names of which none clashes are fresh
solid_are_fresh :
    (earlier ds : List Declared) → clashes_after earlier ds ≡ [] → IsTrue (are_fresh (solid earlier) (solid ds))
solid_are_fresh earlier [] h = refl
solid_are_fresh earlier (d ∷ ds) h =
    let parts =
    nil_parts (if list_any (clashes d) earlier then d.at ∷ [] else []) (clashes_after (earlier ++ d ∷ []) ds) h in
    let alone : list_any (clashes d) earlier ≡ false = no_place (list_any (clashes d) earlier) d.at parts.0 in
    let later = solid_are_fresh (earlier ++ d ∷ []) ds parts.1 in
    let more : solid (earlier ++ d ∷ []) ≡ solid earlier ++ solid (d ∷ []) = solid_append earlier (d ∷ []) in
    let later2 : IsTrue (are_fresh (solid earlier ++ solid (d ∷ [])) (solid ds)) =
    subst (λ s. IsTrue (are_fresh s (solid ds))) more later in
    elim (cases_Bool (is_solid d)) [
      | inl t ↦
          let later3 : IsTrue (are_fresh (solid earlier ++ d.name ∷ []) (solid ds)) = rw t at later2 in
          rw t
          (and_from (not (list_any (bytes_eq d.name) (solid earlier))) (are_fresh (solid earlier ++ d.name ∷ []) (solid ds))
          (ap not (apart d earlier t alone)) later3)
      | inr t ↦
          let later3 : IsTrue (are_fresh (solid earlier ++ []) (solid ds)) = rw t at later2 in
          rw t (subst (λ s. IsTrue (are_fresh s (solid ds))) (append-nil (solid earlier)) later3)
    ]

not_parts : (a b : Bool) → IsTrue (not (a || b)) → (IsTrue (not a)) × (IsTrue (not b))
not_parts true b h = absurd cc
not_parts false b h = (refl, h)

not_from : (a b : Bool) → IsTrue (not a) → IsTrue (not b) → IsTrue (not (a || b))
not_from true b h k = absurd cc
not_from false b h k = k

-- fewer names before are as good
fresh_less :
    (seen extra after xs : List (List ℕ)) → IsTrue (are_fresh (seen ++ (extra ++ after)) xs)
    → IsTrue (are_fresh (seen ++ after) xs)
fresh_less seen extra after [] h = refl
fresh_less seen extra after (x ∷ xs) h =
    let parts = and_parts (not (list_any (bytes_eq x) (seen ++ (extra ++ after))))
    (are_fresh ((seen ++ (extra ++ after)) ++ x ∷ []) xs) h in
    let none : IsTrue (not (list_any (bytes_eq x) seen || list_any (bytes_eq x) (extra ++ after))) =
    subst (λ b. IsTrue (not b)) (list_any-append (bytes_eq x) seen (extra ++ after)) parts.0 in
    let first = not_parts (list_any (bytes_eq x) seen) (list_any (bytes_eq x) (extra ++ after)) none in
    let second =
    not_parts (list_any (bytes_eq x) extra) (list_any (bytes_eq x) after)
    (subst (λ b. IsTrue (not b)) (list_any-append (bytes_eq x) extra after) first.1) in
    let here : IsTrue (not (list_any (bytes_eq x) (seen ++ after))) =
    subst (λ b. IsTrue (not b)) (sym (list_any-append (bytes_eq x) seen after))
    (not_from (list_any (bytes_eq x) seen) (list_any (bytes_eq x) after) first.0 second.1) in
    let place : (seen ++ (extra ++ after)) ++ x ∷ [] ≡ seen ++ (extra ++ (after ++ x ∷ [])) =
    append_assoc seen (extra ++ after) (x ∷ []) ∙ ap (λ s. seen ++ s) (append_assoc extra after (x ∷ [])) in
    let later = fresh_less seen extra (after ++ x ∷ []) xs (subst (λ s. IsTrue (are_fresh s xs)) place parts.1) in
    and_from (not (list_any (bytes_eq x) (seen ++ after))) (are_fresh ((seen ++ after) ++ x ∷ []) xs) here
    (subst (λ s. IsTrue (are_fresh s xs)) (sym (append_assoc seen after (x ∷ []))) later)

fresh_parts :
    (seen xs ys : List (List ℕ)) → IsTrue (are_fresh seen (xs ++ ys))
    → IsTrue (are_fresh seen xs) × IsTrue (are_fresh (seen ++ xs) ys)
fresh_parts seen [] ys h = (refl, subst (λ s. IsTrue (are_fresh s ys)) (sym (append-nil seen)) h)
fresh_parts seen (x ∷ xs) ys h =
    let parts = and_parts (not (list_any (bytes_eq x) seen)) (are_fresh (seen ++ x ∷ []) (xs ++ ys)) h in
    let later = fresh_parts (seen ++ x ∷ []) xs ys parts.1 in (
      and_from (not (list_any (bytes_eq x) seen)) (are_fresh (seen ++ x ∷ []) xs) parts.0 later.0,
      subst (λ s. IsTrue (are_fresh s ys)) (append_assoc seen (x ∷ []) xs) later.1,
    )

fresh_from :
    (seen xs ys : List (List ℕ)) → IsTrue (are_fresh seen xs) → IsTrue (are_fresh (seen ++ xs) ys)
    → IsTrue (are_fresh seen (xs ++ ys))
fresh_from seen [] ys h k = subst (λ s. IsTrue (are_fresh s ys)) (append-nil seen) k
fresh_from seen (x ∷ xs) ys h k =
    let parts = and_parts (not (list_any (bytes_eq x) seen)) (are_fresh (seen ++ x ∷ []) xs) h in
    and_from (not (list_any (bytes_eq x) seen)) (are_fresh (seen ++ x ∷ []) (xs ++ ys)) parts.0
    (fresh_from (seen ++ x ∷ []) xs ys parts.1 (subst (λ s. IsTrue (are_fresh s ys)) (sym (append_assoc seen (x ∷ []) xs)) k))

role_is_solid : (b : Bool) → is_solid_role (if b then Bearer else Plain) ≡ true
role_is_solid true = refl
role_is_solid false = refl

solid_pins :
    (group : Group) (values : List Value) → solid (map (declared_pin group) values) ≡ pin_names (map (pin_as group) values)
solid_pins group [] = refl
solid_pins group (value ∷ values) =
    rw (role_is_solid (bears group value.bytes)) (ap (λ s. value.bytes ∷ s) (solid_pins group values))

pin_names_append : (xs ys : List Pin) → pin_names (xs ++ ys) ≡ pin_names xs ++ pin_names ys
pin_names_append xs ys = map-append (λ (pin : Pin). pin.name) xs ys

pins_are_fresh :
    (groups : List Group) (seen : List (List ℕ)) → IsTrue (are_fresh seen (solid (flat_map declared_in groups)))
    → IsTrue (are_fresh seen (pin_names (flat_map pins_in (filter is_pin groups))))
pins_are_fresh [] seen h = refl
pins_are_fresh (group ∷ groups) seen h =
    let split : IsTrue (are_fresh seen (solid (declared_in group) ++ solid (flat_map declared_in groups))) =
    subst (λ s. IsTrue (are_fresh seen s)) (solid_append (declared_in group) (flat_map declared_in groups)) h in
    let parts = fresh_parts seen (solid (declared_in group)) (solid (flat_map declared_in groups)) split in
    elim (cases_Bool (is_pin group)) [
      | inl e ↦
          let same : solid (declared_in group) ≡ pin_names (pins_in group) = rw e (solid_pins group group.arguments) in
          let first : IsTrue (are_fresh seen (pin_names (pins_in group))) = subst (λ s. IsTrue (are_fresh seen s)) same parts.0 in
          let rest : IsTrue (are_fresh (seen ++ pin_names (pins_in group)) (solid (flat_map declared_in groups))) =
          subst (λ s. IsTrue (are_fresh (seen ++ s) (solid (flat_map declared_in groups)))) same parts.1 in
          let later = pins_are_fresh groups (seen ++ pin_names (pins_in group)) rest in
          rw e
          (subst (λ s. IsTrue (are_fresh seen s))
          (sym (pin_names_append (pins_in group) (flat_map pins_in (filter is_pin groups))))
          (fresh_from seen (pin_names (pins_in group)) (pin_names (flat_map pins_in (filter is_pin groups))) first later))
      | inr e ↦
          let less : IsTrue (are_fresh seen (solid (flat_map declared_in groups))) =
          subst (λ s. IsTrue (are_fresh s (solid (flat_map declared_in groups)))) (append-nil seen)
          (fresh_less seen (solid (declared_in group)) [] (solid (flat_map declared_in groups))
          (subst (λ s. IsTrue (are_fresh (seen ++ s) (solid (flat_map declared_in groups))))
          (sym (append-nil (solid (declared_in group)))) parts.1)) in
          rw e (pins_are_fresh groups seen less)
    ]

-- names that differ do so in both orders
pub bytes_unlike : (x y : List ℕ) → bytes_eq y x ≡ false → bytes_eq x y ≡ false
bytes_unlike x y h =
    elim (cases_Bool (bytes_eq x y)) [
      | inl e ↦
          let p : x ≡ y = (bytes_eq-Decides x y).0 e in
          let k : bytes_eq y x ≡ true = subst (λ z. bytes_eq z x ≡ true) p (subst (λ z. bytes_eq x z ≡ true) (sym p) e) in
          absurd cc
      | inr e ↦ e
    ]

-- a name before fresh ones is not among them
not_among :
    (seen : List (List ℕ)) (x : List ℕ) (after xs : List (List ℕ)) → IsTrue (are_fresh (seen ++ (x ∷ after)) xs)
    → list_any (bytes_eq x) xs ≡ false
not_among seen x after [] h = refl
not_among seen x after (y ∷ ys) h =
    let parts = and_parts (not (list_any (bytes_eq y) (seen ++ (x ∷ after)))) (are_fresh ((seen ++ (x ∷ after)) ++ y ∷ []) ys) h
    in
    let none =
    not_parts (list_any (bytes_eq y) seen) (list_any (bytes_eq y) (x ∷ after))
    (subst (λ b. IsTrue (not b)) (list_any-append (bytes_eq y) seen (x ∷ after)) parts.0) in
    let unlike = not_parts (bytes_eq y x) (list_any (bytes_eq y) after) none.1 in
    let later =
    not_among seen x (after ++ y ∷ []) ys
    (subst (λ s. IsTrue (are_fresh s ys)) (append_assoc seen (x ∷ after) (y ∷ [])) parts.1) in
    rw (bytes_unlike x y (not_true (bytes_eq y x) unlike.0)) later

-- fresh names are distinct
fresh_are_distinct : (xs seen : List (List ℕ)) → IsTrue (are_fresh seen xs) → IsTrue (are_distinct xs)
fresh_are_distinct [] seen h = refl
fresh_are_distinct (x ∷ xs) seen h =
    let parts = and_parts (not (list_any (bytes_eq x) seen)) (are_fresh (seen ++ x ∷ []) xs) h in
    and_from (not (list_any (bytes_eq x) xs)) (are_distinct xs) (ap not (not_among seen x [] xs parts.1))
    (fresh_are_distinct xs (seen ++ x ∷ []) parts.1)

-- Where no declared name clashes, the names of the pins are distinct.
pub pins_are_distinct :
    (groups : List Group) → clashes_after [] (flat_map declared_in groups) ≡ []
    → IsTrue (are_distinct (pin_names (flat_map pins_in (filter is_pin groups))))
pins_are_distinct groups h =
    fresh_are_distinct (pin_names (flat_map pins_in (filter is_pin groups))) []
    (pins_are_fresh groups [] (solid_are_fresh [] (flat_map declared_in groups) h))
