-- A text is modules or has a fault, as the definitions say and as the function of its bytes says.
use Rattle.std.proofs.Common.{◌≡◌, ℕ, List, [], refl}
use Rattle.grammar_rules.specs.Rule.{Takes}
use Rattle.grammar_reader.specs.Texts.{HaveOneAnswer}
use Rattle.grammar_reader.proofs.TextAnswers as answers
use Rattle.udp_tables.proofs.ModelFaultPlaces.{place_of_fault}
use Rattle.specify_blocks.specs.declared.model.VModule.{VModule}
use Rattle.verilog_grammar.specs.VerilogText.{file, language}

-- nothing stands behind a text
file_ends : (s : List (List ℕ)) (a : List VModule) (r : List (List ℕ)) → Takes file s a r → r ≡ []
unfolding file
file_ends s a r (u, m, h, (all, n, i, (e, j, k))) = k

-- a text is modules, or it has a fault, and not both, as the function of its bytes says
pub is_answer : HaveOneAnswer language
is_answer = answers.is_answer language
    (record { place_of_lexical = λ at. refl; place_of_fault = place_of_fault; file_ends = file_ends })
