-- What a text is read as, by its models and drivers.
use Rattle.std.proofs.Common.{◌≡◌, ℕ, List, [], map, Result, Ok, Err, IfOk, refl, ap, ◌∙◌, append-nil}
use Rattle.std.specs.Result.{result_map_both}
use Rattle.udp_tables.specs.declared.models.ModelFault.{ModelFault}
use Rattle.file_models.specs.driver_sections.Sections.{sections}
use Rattle.file_models.specs.sectioned_texts.DrivenModels.{SectionLanguage, driven_models}
use Rattle.file_models.specs.sectioned_texts.Laws.{without_drivers}
use Rattle.file_models.proofs.sectioned_texts.TextLaws.{reads_as_before}
use Rattle.file_models.specs.FileModels.{own_model, file_models}

-- what a value is made of
pub ok_mapped : {A B E D : Type 0} (f : A → B) (g : E → D) (r : Result A E) (b : B) → result_map_both f g r ≡ Ok b → (a : A)
    × (r ≡ Ok a) × (f a ≡ b)
ok_mapped f g (Ok a) b e = (a, refl, cc)
ok_mapped f g (Err x) b e = absurd cc

module _ {M : Type 0} (l : SectionLanguage M) where
  alone : (answer : Result (List M) ModelFault)
      → result_map_both (file_models l) (λ f. f) (result_map_both without_drivers (λ f. f) answer) ≡ result_map_both
      (map (own_model l)) (λ f. f) answer
  alone (Ok models) = ap Ok (append-nil (map (own_model l) models))
  alone (Err f) = refl

  -- a text without sections is read as where sections are not known
  pub plain_as_before : (bytes : List ℕ) → sections l.vocabulary l.marks bytes ≡ []
      → result_map_both (file_models l) (λ f. f) (driven_models l bytes) ≡ result_map_both (map (own_model l)) (λ f. f)
      (l.text bytes)
  plain_as_before bytes e = ap (result_map_both (file_models l) (λ f. f)) (reads_as_before l bytes e) ∙ alone (l.text bytes)

-- what a value is equal to, and what this is equal to
pub ok_same : {T E A : Type 0} (r : Result T E) (f : T → A) (a b : A) → IfOk r (λ x. f x ≡ a) → a ≡ b → IfOk r (λ x. f x ≡ b)
ok_same (Ok x) f a b h e = h ∙ e
ok_same (Err x) f a b h e = tt
