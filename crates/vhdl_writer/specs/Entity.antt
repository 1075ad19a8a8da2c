-- The text of an entity and of its architecture. (IEEE 1076-1993, 1.1, 1.2 and 9.2; IEEE 1076.4-2000.)
use Rattle.std.specs.Prelude.{ℕ, if◌then◌else◌, List, ◌++◌, Option, is_some, codes}
use Rattle.vital_models.specs.declared.model.VEntity.{VEntity}
use Rattle.vhdl_writer.specs.Joined.{numbered_texts}
use Rattle.vhdl_writer.specs.Tables.{constants_text}
use Rattle.vhdl_writer.specs.Declarations.{header_text, first_input, process_text, variables_text}
use Rattle.vhdl_writer.specs.Statements.{check_text, violation_text, state_text}
use Rattle.vhdl_writer.specs.Outputs.{value_line, output_line}

-- the end of the process, and of the architecture. A process that responds to no signal waits.
abbrev pub end_text : Option ℕ → List ℕ
end_text first = if is_some first then codes "  end process;\nend vital;\n" else codes "    wait;\n  end process;\nend vital;\n"

-- the statements: the checks, the violation, the states, the values of the outputs, the outputs
unfoldable pub statements_text : VEntity → List ℕ
statements_text e =
    numbered_texts (check_text e) 1 e.checks
    ++ (violation_text e.checks
    ++ (numbered_texts (state_text e) 1 e.states
    ++ (numbered_texts (value_line e) 1 e.outputs ++ numbered_texts (output_line e) 1 e.outputs)))

-- the text of an entity
unfoldable pub entity_text : VEntity → List ℕ
entity_text e =
    header_text e
    ++ (constants_text e
    ++ (process_text e ++ (variables_text e ++ (codes "  begin\n" ++ (statements_text e ++ end_text (first_input e.ports))))))
