-- The arcs of a cell, output by output, are its arcs in their order.
use Rattle.std.proofs.Common.{◌≡◌, ℕ, ◌<◌, ◌≤◌, Bool, true, false, List, [], ◌∷◌, ◌++◌, map, inl, inr, refl, sym, ap, ◌∙◌, subst}
use Rattle.std.proofs.Common.{arith, IsTrue, nat_eq, nat_le, if◌then◌else◌}
use Rattle.std.specs.Prelude.{filter, flat_map}
use Rattle.std.proofs.lemmas.Bool.{and_parts, leb-true, eqb-true, ne_eqb, cases_Bool, eq-eqb}
use Rattle.trit_cubes.proofs.ListLemmas.{Among}
use Rattle.cell_machine.specs.declared.arcs.Arc.{Arc}
use Rattle.cell_machine.specs.Supports.{AllAbove, Ascending}
use Rattle.cell_machine.specs.CellRules.{is_in_order}
use Rattle.generated_entities.proofs.ListLemmas.{flat_same, filter_none}

abbrev pub ends_at : ℕ → Arc → Bool
ends_at p arc = nat_eq arc.to p

-- the arcs that end at one pin after another
abbrev pub by_ends : List ℕ → List Arc → List Arc
by_ends pins arcs = flat_map (λ p. filter (ends_at p) arcs) pins

abbrev EndAmong : List ℕ → List Arc → Type 0
EndAmong pins arcs = (arc : Arc) → Among arc arcs → Among arc.to pins

abbrev InOrder : List Arc → Type 0
InOrder arcs = IsTrue (is_in_order (map (λ (arc : Arc). arc.to) arcs))

-- in order, all end at the first one's end or behind it
order_tail : (arc : Arc) (arcs : List Arc) → InOrder (arc ∷ arcs) → InOrder arcs
order_tail arc [] h = refl
order_tail arc (other ∷ arcs) h =
    (and_parts (nat_le arc.to other.to) (is_in_order (map (λ (arc : Arc). arc.to) (other ∷ arcs))) h).1

order_first : (arc : Arc) (arcs : List Arc) → InOrder (arc ∷ arcs) → (other : Arc) → Among other arcs → arc.to ≤ other.to
order_first arc [] h other m = absurd m
order_first arc (next ∷ arcs) h other m =
    let parts = and_parts (nat_le arc.to next.to) (is_in_order (map (λ (arc : Arc). arc.to) (next ∷ arcs))) h in
    let step : arc.to ≤ next.to = leb-true arc.to next.to parts.0 in
    elim m [
      | inl e ↦ subst (λ (a : Arc). arc.to ≤ a.to) e step
      | inr k ↦ let rest = order_first next arcs parts.1 other k in omega (arith, step, rest)
    ]

above_among : (x y : ℕ) (ys : List ℕ) → AllAbove x ys → Among y ys → x < y
above_among x y [] h m = absurd m
above_among x y (z ∷ ys) h (inl e) = subst (λ n. x < n) e h.0
above_among x y (z ∷ ys) h (inr m) = above_among x y ys h.1 m

no_arcs : (pins : List ℕ) → by_ends pins [] ≡ []
no_arcs [] = refl
no_arcs (p ∷ pins) = no_arcs pins

-- an arc that ends at none of some pins
unseen : (arc : Arc) (arcs : List Arc) (q : ℕ) → nat_eq arc.to q ≡ false
    → filter (ends_at q) (arc ∷ arcs) ≡ filter (ends_at q) arcs
unseen arc arcs q e = ap (λ b. if b then arc ∷ filter (ends_at q) arcs else filter (ends_at q) arcs) e

seen : (arc : Arc) (arcs : List Arc) (q : ℕ) → nat_eq arc.to q ≡ true
    → filter (ends_at q) (arc ∷ arcs) ≡ arc ∷ filter (ends_at q) arcs
seen arc arcs q e = ap (λ b. if b then arc ∷ filter (ends_at q) arcs else filter (ends_at q) arcs) e

-- the first arc ends at the first pin
first_here :
    (p : ℕ) (pins : List ℕ) (arc : Arc) (arcs : List Arc) → AllAbove p pins → nat_eq arc.to p ≡ true
    → by_ends (p ∷ pins) (arc ∷ arcs) ≡ arc ∷ by_ends (p ∷ pins) arcs
first_here p pins arc arcs above e =
    ap (λ l. l ++ by_ends pins (arc ∷ arcs)) (seen arc arcs p e)
    ∙ ap (λ l. arc ∷ (filter (ends_at p) arcs ++ l))
    (flat_same (λ q. filter (ends_at q) (arc ∷ arcs)) (λ q. filter (ends_at q) arcs) pins
    (λ q m.
    let less = above_among p q pins above m in
    let here = eqb-true arc.to p e in
    unseen arc arcs q (ne_eqb arc.to q (λ same. omega (arith, same, less, here)))))

-- no arc ends at the first pin
none_here :
    (p : ℕ) (pins : List ℕ) (arcs : List Arc) → ((arc : Arc) → Among arc arcs → p < arc.to)
    → by_ends (p ∷ pins) arcs ≡ by_ends pins arcs
none_here p pins arcs behind =
    ap (λ l. l ++ by_ends pins arcs)
    (filter_none (ends_at p) arcs (λ arc m. let less = behind arc m in ne_eqb arc.to p (λ same. omega (arith, same, less))))

later_pin : (p q : ℕ) (pins : List ℕ) → p < q → Among q (p ∷ pins) → Among q pins
later_pin p q pins h (inl e) = absurd (omega (arith, h, e))
later_pin p q pins h (inr m) = m

pub arcs_by_ends : (pins : List ℕ) (arcs : List Arc) → Ascending pins → InOrder arcs → EndAmong pins arcs
    → by_ends pins arcs ≡ arcs
arcs_by_ends pins [] a h k = no_arcs pins
arcs_by_ends [] (arc ∷ arcs) a h k = absurd (k arc (inl refl))
arcs_by_ends (p ∷ pins) (arc ∷ arcs) a h k =
    elim (cases_Bool (nat_eq arc.to p)) [
      | inl e ↦
          first_here p pins arc arcs a.0 e
          ∙ ap (λ l. arc ∷ l) (arcs_by_ends (p ∷ pins) arcs a (order_tail arc arcs h) (λ other m. k other (inr m)))
      | inr e ↦
          let here : p < arc.to = behind e in
          let all : (other : Arc) → Among other (arc ∷ arcs) → p < other.to = all_behind here in
          none_here p pins (arc ∷ arcs) all
          ∙ arcs_by_ends pins (arc ∷ arcs) a.1 h (λ other m. later_pin p other.to pins (all other m) (k other m))
    ]
  where
    behind : nat_eq arc.to p ≡ false → p < arc.to
    behind e = elim (k arc (inl refl)) [
      | inl same ↦ absurd (let bad : false ≡ true = sym e ∙ eq-eqb arc.to p (sym same) in cc)
      | inr m ↦ above_among p arc.to pins a.0 m
    ]

    all_behind : p < arc.to → (other : Arc) → Among other (arc ∷ arcs) → p < other.to
    all_behind less other m = elim m [
      | inl e ↦ subst (λ (x : Arc). p < x.to) e less
      | inr j ↦ let more = order_first arc arcs h other j in omega (arith, less, more)
    ]
