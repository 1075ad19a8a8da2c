-- What the grammar of a section promises holds of the driver of its text, in any language.
use Rattle.std.proofs.Common.{◌≡◌, ◌∙◌, sym, ap, ℕ, Bool, List, [], length, None, Ok, refl}
use Rattle.lexer.specs.declared.span.Span.{Span}
use Rattle.lexer.specs.Spans.{tokens_of, spelled}
use Rattle.lexer.specs.Tokens.{scan_of, spellings}
use Rattle.lexer.proofs.Spelled.{spelled as all_spelled}
use Rattle.grammar_rules.specs.Reading.{read}
use Rattle.grammar_rules.proofs.Promises.{Promises}
use Rattle.grammar_reader.specs.Texts.{IsAnswer, text_tokens, answer_of}
use Rattle.grammar_reader.proofs.TextAnswers as answers
use Rattle.udp_tables.proofs.ModelFaultPlaces.{place_of_fault}
use Rattle.driver_models.specs.declared.model.DriverModel.{DriverModel}
use Rattle.driver_models.specs.Models.{IsSound}
use Rattle.driver_models.specs.Cores.{Core}
use Rattle.driver_texts.specs.Sections.{SectionGrammar, EndsTexts, StandWhereRead, section, section_language}
use Rattle.driver_texts.specs.Sections.{section_text}
use Rattle.driver_texts.proofs.SoundCores.{AnyToken, all_tokens}

module _ (g : SectionGrammar) (ends : EndsTexts g) (names : List (List ℕ)) (cores : List Core) (bytes : List ℕ) where
  -- a section is a driver or has a fault, and not both
  pub section_answer : IsAnswer (section_language g names cores) bytes
  section_answer =
      answers.is_answer (section_language g names cores)
      (record { place_of_lexical = λ at. refl; place_of_fault = place_of_fault; file_ends = ends names cores }) bytes

  -- the driver of a section has what the grammar promises
  pub text_keeps : (Q : DriverModel → Type 0) → Promises AnyToken (section g names cores) Q → (driver : DriverModel)
      → section_text g names cores bytes ≡ Ok driver → Q driver
  unfolding section_text
  text_keeps Q promise driver e =
      (promise.kept (text_tokens g.lexis bytes) driver [] (all_tokens (text_tokens g.lexis bytes))
      ((section_answer.value driver).1 e).takes).0

-- the text of a section that was read whole has the driver that was read
pub text_of_read : (g : SectionGrammar) (names : List (List ℕ)) (cores : List Core) (bytes : List ℕ) (spans : List Span)
    (found : DriverModel) (left : List (List ℕ)) → tokens_of bytes spans ≡ (scan_of g.lexis bytes).0
    → (scan_of g.lexis bytes).1 ≡ None → read (section g names cores) (spelled bytes spans) ≡ Ok (found, left)
    → section_text g names cores bytes ≡ Ok found
unfolding section_text
text_of_read g names cores bytes spans found left tokens whole is =
    let language = section_language g names cores in
    let answer = answer_of language (length bytes) (scan_of g.lexis bytes).0 in
    let reading = read (section g names cores) in
    ap (λ lexical. answer lexical (reading (text_tokens g.lexis bytes))) whole
    ∙ ap (answer None) (ap (λ some. reading (spellings some)) (sym tokens) ∙ ap reading (sym (all_spelled bytes spans)) ∙ is)

-- what is read of a section is sound
pub read_is_sound : (g : SectionGrammar) (is_same : List ℕ → List ℕ → Bool) (names : List (List ℕ)) (cores : List Core)
    (bytes : List ℕ) (found : DriverModel) → StandWhereRead g is_same → section_text g names cores bytes ≡ Ok found
    → IsSound found
read_is_sound g is_same names cores bytes found stand e = (stand names cores bytes found e).sound
