-- The first core of a name.
use Rattle.std.proofs.Common.{◌≡◌, ℕ, suc, ◌+◌, Bool, true, false, cond, List, [], ◌∷◌, ◌++◌, length, inl, inr, refl, ap, ◌∙◌}
use Rattle.std.proofs.Common.{arith, Option, Some, slice_get}
use Rattle.std.specs.List.{position_from}
use Rattle.std.specs.Option.{option_map, option_and_then}
use Rattle.std.specs.Str.{bytes_eq}
use Rattle.written_entities.proofs.trit_cubes.ListLemmas.{Among}
use Rattle.generated_drivers.specs.driver_models.Cores.{Core, ports_at, core_ports}

module _ (x : List ℕ) where
  abbrev is_it : Core → Bool
  is_it core = bytes_eq x core.name

  first_place :
      (k : ℕ) (before : List Core) (core : Core) (after : List Core) → ((other : Core) → Among other before → is_it other ≡ false)
      → is_it core ≡ true
      → position_from is_it k (before ++ core ∷ after) ≡ Some (k + length before)
  first_place k [] core after h e =
      let same : k ≡ k + 0 = omega arith in
      ap (λ (b : Bool). cond b (Some k) (position_from is_it (k + 1) after)) e ∙ ap (λ (n : ℕ). Some n) same
  first_place k (first ∷ before) core after h e =
      let same : (k + 1) + length before ≡ k + suc (length before) = omega arith in
      ap (λ (b : Bool). cond b (Some k) (position_from is_it (k + 1) (before ++ core ∷ after))) (h first (inl refl))
      ∙ (first_place (k + 1) before core after (λ other m. h other (inr m)) e ∙ ap (λ (n : ℕ). Some n) same)

  at_place : (before : List Core) (core : Core) (after : List Core)
      → slice_get (before ++ core ∷ after) (length before) ≡ Some core
  at_place [] core after = refl
  at_place (first ∷ before) core after = at_place before core after

  -- where no core before one of this name has it, the ports are that one's
  pub first_ports :
      (before : List Core) (core : Core) (after : List Core) → ((other : Core) → Among other before → is_it other ≡ false)
      → is_it core ≡ true
      → core_ports bytes_eq (before ++ core ∷ after) x ≡ Some core.ports
  first_ports before core after h e =
      let all : List Core = before ++ core ∷ after in
      let same : 0 + length before ≡ length before = omega arith in
      ap (λ (o : Option ℕ). option_and_then (ports_at all) o) (first_place 0 before core after h e ∙ ap (λ (n : ℕ). Some n) same)
      ∙ ap (λ (o : Option Core). option_map (λ (c : Core). c.ports) o) (at_place before core after)
