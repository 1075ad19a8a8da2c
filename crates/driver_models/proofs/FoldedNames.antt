-- Names that are looked up by what they are folded to.
use Rattle.std.proofs.Common.{◌≡◌, ℕ, Bool, true, List, map, sym, ◌∙◌}
use Rattle.std.specs.List.{list_any, position_from}
use Rattle.std.specs.Option.{is_some, option_and_then}
use Rattle.std.specs.Str.{bytes_eq}
use Rattle.bool_functions.specs.NameList.{number_of}
use Rattle.bool_functions.proofs.NameLists.{list_any-map}
use Rattle.bool_functions.proofs.FoldedNames.{some_position}
use Rattle.grammar_reader.specs.Words.{is_among}
use Rattle.driver_models.specs.Cores.{Core, HaveSame, ports_at, core_ports}

module _ (fold : List ℕ → List ℕ) (is_name : List ℕ → Bool) (is_same : List ℕ → List ℕ → Bool)
    (same : (name other : List ℕ) → is_name name ≡ true → is_same name other ≡ bytes_eq (fold name) (fold other)) where
  among_folded : (names : List (List ℕ)) (x : List ℕ) → is_name x ≡ true
      → is_among is_same names x ≡ list_any (bytes_eq (fold x)) (map fold names)
  among_folded names x e = (λ i. list_any (λ (y : List ℕ). same x y e i) names)
      ∙ sym (list_any-map fold (bytes_eq (fold x)) names)

  -- a name is one of others exactly where it is found folded
  pub found_among : (known others : List (List ℕ)) (x : List ℕ) → HaveSame fold known others → is_name x ≡ true →
      is_some (number_of known (fold x)) ≡ is_among is_same others x
  found_among known others x h e = some_position (bytes_eq (fold x)) known ∙ h (fold x) ∙ sym (among_folded others x e)

  -- the ports of the first core of a name, by what it is folded to
  pub ports_found : (cores : List Core) (x : List ℕ) → is_name x ≡ true →
      core_ports is_same cores x ≡ option_and_then (ports_at cores)
      (position_from (λ (core : Core). bytes_eq (fold x) (fold core.name)) 0 cores)
  ports_found cores x e = λ i. option_and_then (ports_at cores) (position_from (λ (core : Core). same x core.name e i) 0 cores)
