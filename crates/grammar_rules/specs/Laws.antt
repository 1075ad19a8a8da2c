-- What holds of every rule: the laws are the contract of a function of this crate.
use Rattle.std.specs.Prelude.{◌≡◌, ◌<◌, List, [], ◌∷◌, ◌++◌, length, Ok, Err, ◌⊎◌, ◌↔◌}
use Rattle.grammar_rules.specs.Rule.{Rule, Takes, Refuses, Front}
use Rattle.grammar_rules.specs.Reading.{read}
use Rattle.grammar_rules.specs.Loose.{loose, Fouls, IsClean, IsFirstFoul}

-- Reading answers the phrase that the rule takes, and the refusal that it makes, and nothing else.
pub record ReadsExactly {T K A : Type 0} (p : Rule T K A) : Type 0 where
  pub takes : (s : List T) (a : A) (r : List T) → Takes p s a r ↔ (read p s ≡ Ok (a, r))
  pub refuses : (s : List T) (k : K) (m : List T) → Refuses p s k m ↔ (read p s ≡ Err (k, m))

-- From any tokens a rule takes one phrase or makes one refusal, and not both.
pub record HasOneReading {T K A : Type 0} (p : Rule T K A) : Type 0 where
  pub some : (s : List T) → ((a : A) × (r : List T) × Takes p s a r) ⊎ ((k : K) × (m : List T) × Refuses p s k m)
  pub one_value : (s : List T) (a b : A) (r q : List T) → Takes p s a r → Takes p s b q → (a ≡ b) × (r ≡ q)
  pub one_fault : (s : List T) (k j : K) (m n : List T) → Refuses p s k m → Refuses p s j n → (k ≡ j) × (m ≡ n)
  pub not_both : (s : List T) (a : A) (r : List T) (k : K) (m : List T) → Takes p s a r → Refuses p s k m → ⊥

-- with these tokens after a front it is no front any more: that is said of the first of them alone
abbrev pub IsNoLongerFront : {T K A : Type 0} → Rule T K A → List T → List T → Type 0
IsNoLongerFront p front [] = Unit {0}
IsNoLongerFront p front (x ∷ m) = Front p (front ++ x ∷ []) → ⊥

-- The tokens before the place of a refusal are a front, and with the token at this place they are none.
-- What stands before the end of a front is a front, so this is the first such token.
pub record RefusesAtFirst {T K A : Type 0} (p : Rule T K A) : Type 0 where
  pub place : (s : List T) (k : K) (m : List T) → Refuses p s k m →
      (front : List T) × (s ≡ front ++ m) × Front p front × IsNoLongerFront p front m
  pub shorter : (s more : List T) → Front p (s ++ more) → Front p s
  pub taken : (s : List T) (a : A) → Takes p s a [] → Front p s

-- A reading looks at the token after a phrase or at the place of a refusal, and at none behind it.
pub record LooksOneAhead {T K A : Type 0} (p : Rule T K A) : Type 0 where
  pub takes : (s : List T) (a : A) (x : T) (r more : List T) → Takes p s a (x ∷ r) → Takes p (s ++ more) a ((x ∷ r) ++ more)
  pub refuses : (s : List T) (k : K) (x : T) (m more : List T) → Refuses p s k (x ∷ m) → Refuses p (s ++ more) k ((x ∷ m) ++ more)

-- All tokens are a front exactly where a reading uses up all of them: the rule takes them all, or refuses
-- the end of the text.
pub record FrontsAreUsedUp {T K A : Type 0} (p : Rule T K A) : Type 0 where
  pub used : (s : List T) → Front p s → ((a : A) × Takes p s a []) ⊎ ((k : K) × Refuses p s k [])
  pub fronts : (s : List T) → ((a : A) × Takes p s a []) ⊎ ((k : K) × Refuses p s k []) → Front p s

-- What a rule takes and refuses, told by its loose subset. Its phrases are those of the loose rule in which no token breaks a
-- strict rule. Its refusal is at the first token that breaks one, or, where none does, where the loose rule refuses.
pub record IsStricterThanLoose {T K A : Type 0} (p : Rule T K A) : Type 0 where
  pub takes : (s : List T) (a : A) (r : List T) → Takes p s a r ↔ (Takes (loose p) s a r × IsClean p s)
  pub refuses : (s : List T) (k : K) (m : List T) → Refuses p s k m
      ↔ (IsFirstFoul p s k m ⊎ (IsClean p s × Refuses (loose p) s k m))

-- A token that breaks a strict rule ends a front of the loose rule, so it stands before the place where this one refuses. At
-- one place it breaks one strict rule.
pub record FoulsInFronts {T K A : Type 0} (p : Rule T K A) : Type 0 where
  pub front : (s : List T) (k : K) (m : List T) → Fouls p s k m →
      (before : List T) × (x : T) × (after : List T) × (s ≡ before ++ x ∷ after) × (m ≡ x ∷ after)
      × Front (loose p) (before ++ x ∷ [])
  pub earlier : (s : List T) (k j : K) (m n : List T) → Fouls p s k m → Refuses (loose p) s j n → length n < length m
  pub one_kind : (s : List T) (k j : K) (m n : List T) → Fouls p s k m → Fouls p s j n → length m ≡ length n → (k ≡ j) × (m ≡ n)
