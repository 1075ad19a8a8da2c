-- Laws of VHDL text.
use Rattle.std.specs.Prelude.{ℕ, List, length}
use Rattle.vital_tables.specs.declared.model.VEntity.{VEntity}
use Rattle.vhdl_grammar.specs.VhdlText.{IsVhdlText}
use Rattle.vhdl_grammar.specs.WellFormed.{IsCount, AreWellFormed}

-- The entities of a text are well formed, where memory can hold its bytes: an entity has no more parts than its text has bytes.
abbrev pub TextsAreWellFormed : Type 0
TextsAreWellFormed = (bytes : List ℕ) (es : List VEntity) → IsCount (length bytes) → IsVhdlText bytes es → AreWellFormed es
