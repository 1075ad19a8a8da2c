-- A text is entities or has a fault, as the definitions say and as the function of its bytes says.
use Rattle.std.proofs.Common.{◌≡◌, ℕ, List, [], refl}
use Rattle.grammar_rules.specs.Rule.{Takes}
use Rattle.grammar_reader.specs.Texts.{HaveOneAnswer}
use Rattle.grammar_reader.proofs.TextAnswers as answers
use Rattle.udp_tables.proofs.ModelFaultPlaces.{place_of_fault}
use Rattle.vital_tables.specs.declared.model.VEntity.{VEntity}
use Rattle.vhdl_grammar.specs.VhdlText.{file, language}

-- nothing stands behind a text
file_ends : (s : List (List ℕ)) (a : List VEntity) (r : List (List ℕ)) → Takes file s a r → r ≡ []
unfolding file
file_ends s a r (all, n, i, (e, j, k)) = k

-- a text is entities, or it has a fault, and not both, as the function of its bytes says
pub is_answer : HaveOneAnswer language
is_answer = answers.is_answer language
    (record { place_of_lexical = λ at. refl; place_of_fault = place_of_fault; file_ends = file_ends })
