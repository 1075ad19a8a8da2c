-- Verilog text: the modules that its bytes are, or its fault. (IEEE 1364-2005, A.1, source text, and 19.8, `timescale; the subset
-- is this project's.)
use Rattle.std.specs.Prelude.{ℕ, Bool, true, false, ◌||◌, List, [], ◌∷◌, ◌++◌, Result, codes}
use Rattle.std.specs.Str.{bytes_eq}
use Rattle.grammar_rules.specs.Rule as r
use Rattle.udp_tables.specs.declared.table.Udp.{Udp}
use Rattle.udp_tables.specs.declared.models.ModelFault.{ModelFault}
use Rattle.specify_blocks.specs.declared.model.VModule.{VModule}
use Rattle.verilog_tokens.specs.Tokens.{lexis}
use Rattle.grammar_reader.specs.declared.refusal.Refusal.TheVariants.{Syntax, Undriven}
use Rattle.grammar_reader.specs.Texts.{Texts, IsText, text}
use Rattle.grammar_reader.specs.Words.{Grammar, ◌>>=◌, begins_by}
use Rattle.udp_tables.specs.ModelFaults.{model_faults}
use Rattle.udp_tables.specs.VerilogRules.{expect, expect_where, begins, new_name}
use Rattle.udp_tables.specs.VerilogPrimitives.{primitive}
use Rattle.verilog_grammar.specs.VerilogModules.{declarations, instances, are_all_driven}
use Rattle.verilog_grammar.specs.VerilogBlocks.{specify}

-- What stands before a place of a text: the modules, the names of all primitives and modules, and the primitives behind the last
-- module.
pub record Before : Type 0 where
  pub modules : List VModule
  pub names : List (List ℕ)
  pub udps : List Udp

abbrev pub nothing : Before
nothing = record { modules = []; names = []; udps = [] }

abbrev pub with_primitive : Before → Udp → Before
with_primitive before udp = record {
  modules = before.modules;
  names = before.names ++ udp.name ∷ [];
  udps =
      before.udps ++ udp ∷ [];
}

abbrev pub with_module : Before → VModule → Before
with_module before m = record { modules = before.modules ++ m ∷ []; names = before.names ++ m.name ∷ []; udps = [] }

-- primitive, behind the word "primitive"
unfoldable pub next_primitive : Before → Grammar Before
next_primitive before = do
  udp ← primitive before.names
  r.Gives (with_primitive before udp)

-- A module behind the word "module", where primitives and modules of these names stand before it and these primitives behind the
-- module before: its declarations, its instances and its specify block. All its outputs and wires are driven.
unfoldable pub one_module : List (List ℕ) → List Udp → Grammar VModule
one_module names udps = do
  name ← new_name names
  declared ← declarations name udps
  joined ← instances declared
  m ← specify joined
  _ ← expect_where (are_all_driven m) Undriven (codes "endmodule")
  r.Gives m

-- module, behind the word "module"
unfoldable pub next_module : Before → Grammar Before
next_module before = do
  m ← one_module before.names before.udps
  r.Gives (with_module before m)

-- { primitive } behind others
unfoldable pub more_primitives : Before → Grammar Before
more_primitives before = r.Many (λ _. begins (codes "primitive")) (λ more _. next_primitive more) before

-- { primitive } module, behind the word "primitive"
unfoldable pub primitives_and_module : Before → Grammar Before
primitives_and_module before = do
  first ← next_primitive before
  more ← more_primitives first
  _ ← expect (codes "module")
  next_module more

-- the first token of { primitive } module
abbrev pub is_design_start : List ℕ → Bool
is_design_start x = bytes_eq x (codes "primitive") || bytes_eq x (codes "module")

abbrev pub design_by : Before → Bool → Grammar Before
design_by before true = primitives_and_module before
design_by before false = next_module before

-- { primitive } module, behind its first token
abbrev pub design : Before → List ℕ → Grammar Before
design before x = design_by before (bytes_eq x (codes "primitive"))

-- { { primitive } module }
unfoldable pub designs : Grammar Before
designs = r.Many (λ _. begins_by is_design_start) design nothing

-- "`timescale" "1ps" "/" "1ps" (19.8)
unfoldable pub prelude : Grammar (Unit {0})
prelude = do
  _ ← expect (codes "`timescale")
  _ ← expect (codes "1ps")
  _ ← expect (codes "/")
  expect (codes "1ps")

-- the grammar of a text
unfoldable pub file : Grammar (List VModule)
file = do
  _ ← prelude
  all ← designs
  r.Last (λ _. Syntax) all.modules

-- the tokens of Verilog, its grammar and its faults
abbrev pub language : Texts (List VModule) ModelFault
language = record { lexis = lexis; file = file; faults = model_faults }

-- The bytes are the text of these modules: they are tokens, without a lexical fault, that the grammar takes.
abbrev pub IsVerilogText : List ℕ → List VModule → Type 0
IsVerilogText = IsText language

-- the modules of a text, or its fault (`Texts`, `IsAnswer`)
unfoldable pub verilog_text : List ℕ → Result (List VModule) ModelFault
verilog_text bytes = text language bytes
