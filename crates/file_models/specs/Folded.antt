-- What the names of models are folded to, so that two names are the same exactly where they are folded to the same.
use Rattle.std.specs.Prelude.{ℕ, List, map}
use Rattle.sectioned_texts.specs.DrivenModels.{SectionLanguage}

abbrev pub folded_names : {M : Type 0} → (List ℕ → List ℕ) → SectionLanguage M → List M → List (List ℕ)
folded_names fold l models = map (λ m. fold (l.core m).name) models
