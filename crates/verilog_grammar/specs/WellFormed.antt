-- When a list of modules is one of a Verilog text of this project's subset. (IEEE 1364-2005, 3.7, identifiers, 3.12, name spaces,
-- 8.1, primitives, 12.1 and 12.3, modules and their ports; the limits are this project's.)
use Rattle.std.specs.Prelude.{◌≡◌, ℕ, ◌<◌, ◌≤◌, ◌^◌, Bool, true, false, not, IsTrue, All, List, [], ◌∷◌, ◌++◌, length, map}
use Rattle.std.specs.Prelude.{flat_map, Option, Some, None}
use Rattle.std.specs.List.{IsDistinct}
use Rattle.std.specs.Str.{bytes_eq}
use Rattle.verilog_tokens.specs.Kept.{is_identifier}
use Rattle.verilog_tokens.specs.Words.{is_verilog_word}
use Rattle.udp_tables.specs.declared.table.Level.TheVariants as level
use Rattle.udp_tables.specs.declared.table.Next.TheVariants as next
use Rattle.udp_tables.specs.declared.table.UdpRow.{UdpRow}
use Rattle.udp_tables.specs.declared.table.Udp.{Udp}
use Rattle.specify_blocks.specs.declared.model.VPath.{VPath}
use Rattle.udp_tables.specs.declared.timing_checks.TimingCheck.{TimingCheck}
use Rattle.specify_blocks.specs.declared.model.VModule.{VModule}
use Rattle.specify_blocks.specs.Sound.{IsTable, IsSound}
use Rattle.verilog_grammar.specs.VerilogModules.{port_names}

-- an identifier that is no word of Verilog
pub record IsName (name : List ℕ) : Type 0 where
  pub identifier : IsTrue (is_identifier name)
  pub no_word : IsTrue (not (is_verilog_word name))

-- no name stands twice
abbrev pub AreApart : List (List ℕ) → Type 0
AreApart names = IsDistinct bytes_eq names

-- the most inputs of a primitive, with a state or without one (8.1)
abbrev pub most_inputs_of : Bool → ℕ
most_inputs_of true = 9
most_inputs_of false = 10

-- whether a row is one of a primitive without a state: it has no column of the state, and keeps none (8.1.4)
pub record HasNoState (row : UdpRow) : Type 0 where
  pub state : row.state ≡ level.Any
  pub next : row.next ≡ next.Keep → ⊥

abbrev pub HasNoStates : Bool → Udp → Type 0
HasNoStates true udp = Unit {0}
HasNoStates false udp = All HasNoState udp.rows

-- a primitive that a text can declare
pub record IsWellFormedUdp (udp : Udp) : Type 0 where
  pub name : IsName udp.name
  pub output : IsName udp.output
  pub inputs : All IsName udp.inputs
  pub apart : AreApart (udp.output ∷ udp.inputs)
  pub some : 1 ≤ length udp.inputs
  pub most : length udp.inputs ≤ most_inputs_of udp.sequential
  pub rows : 1 ≤ length udp.rows
  pub table : IsTable udp.sequential udp
  pub stateless : HasNoStates udp.sequential udp

-- the names of the ports, the wires and the register of a module
abbrev pub register_names : Option (List ℕ) → List (List ℕ)
register_names None = []
register_names (Some name) = name ∷ []

abbrev pub inner_names : VModule → List (List ℕ)
inner_names m = port_names m.ports ++ m.wires ++ register_names m.notifier

-- a number of at most 15 digits
abbrev pub IsNumber : ℕ → Type 0
IsNumber n = n < 10 ^ 15

-- delays that a text can tell
pub record HasNumbers (path : VPath) : Type 0 where
  pub rise : IsNumber path.rise
  pub fall : IsNumber path.fall

-- A module that a text can declare, with the primitives before it. Its ports stand in any order.
pub record IsWellFormedModule (m : VModule) : Type 0 where
  pub name : IsName m.name
  pub inner : All IsName (inner_names m)
  pub apart : AreApart (inner_names m)
  pub udps : All IsWellFormedUdp m.udps
  pub sound : IsSound m
  pub paths : All HasNumbers m.paths
  pub checks : All (λ (k : TimingCheck). IsNumber k.limit) m.checks

-- the names of primitives
abbrev pub udp_names : List Udp → List (List ℕ)
udp_names udps = map (λ (udp : Udp). udp.name) udps

-- the names of the primitives before a module, and its own
abbrev pub outer_names : VModule → List (List ℕ)
outer_names m = udp_names m.udps ++ m.name ∷ []

-- A list of modules that a text can have: each is well formed, and no two of all their primitives and modules share a name.
pub record AreWellFormed (ms : List VModule) : Type 0 where
  pub modules : All IsWellFormedModule ms
  pub apart : AreApart (flat_map outer_names ms)
