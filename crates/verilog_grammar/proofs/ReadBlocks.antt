-- Specify blocks that are read: their paths and checks are sound, with numbers of at most 15 digits.
use Rattle.std.proofs.Common.{◌≡◌, ℕ, Bool, true, false, nat_eq, if◌then◌else◌, IsTrue, List, [], Option, Some, None, is_some}
use Rattle.std.proofs.Common.{refl, sym, subst, arith, codes}
use Rattle.std.specs.Prelude.{All}
use Rattle.std.specs.Str.{bytes_eq}
use Rattle.std.specs.List.{position}
use Rattle.std.proofs.lemmas.Bool.{and_from, eq-eqb}
use Rattle.std.proofs.lemmas.List.Elements.{All-push}
use Rattle.verilog_tokens.specs.Numbers.{number_of}
use Rattle.lexer.proofs.DigitLemmas.{number_below}
use Rattle.grammar_rules.proofs.Promises.{Promises, gives, in_turn, many, choice, weaker}
use Rattle.cell_machine.specs.declared.checks.CheckKind.{CheckKind}
use Rattle.cell_machine.specs.declared.checks.CheckKind.TheVariants as check_kind
use Rattle.cell_machine.specs.declared.checks.Edge.{Edge}
use Rattle.cell_machine.specs.declared.checks.Edge.TheVariants as edge
use Rattle.cell_machine.specs.declared.checks.Event.{Event}
use Rattle.cell_machine.specs.CellRules.{are_opposite}
use Rattle.specify_blocks.specs.declared.model.VPath.{VPath}
use Rattle.udp_tables.specs.declared.timing_checks.TimingCheck.{TimingCheck}
use Rattle.specify_blocks.specs.declared.model.VModule.{VModule}
use Rattle.specify_blocks.specs.Nets.{is_output_port, is_value}
use Rattle.udp_tables.specs.Ports.{is_input_port}
use Rattle.specify_blocks.specs.Sound.{is_gate, IsPath, is_enabling, IsCheck, has_written_events}
use Rattle.grammar_reader.specs.Words.{is_this}
use Rattle.verilog_grammar.specs.VerilogBlocks.{a_number, kept, port_of, an_input, an_output, a_condition, if_gate, ifnone_gate}
use Rattle.verilog_grammar.specs.VerilogBlocks.{gate_by, path_gate, path, next_path, paths, edge_of, an_event, an_edge_event}
use Rattle.verilog_grammar.specs.VerilogBlocks.{condition_name, condition, check_end, ordered_check, turned_check, opposite}
use Rattle.verilog_grammar.specs.VerilogBlocks.{width_check, period_check, check_of_kind, check, next_check, checks, with_block}
use Rattle.verilog_grammar.specs.VerilogBlocks.{block, specify}
use Rattle.verilog_grammar.specs.WellFormed.{IsNumber, HasNumbers}
use Rattle.verilog_grammar.proofs.ReadNames.{IsSpelled, some_if, known_values, values, behind, surely}

-- Numbers.

number_fits : (x : List ℕ) (n : ℕ) → number_of x ≡ Some n → IsNumber n
number_fits = number_below

numbers : Promises IsSpelled a_number IsNumber
unfolding a_number
numbers = weaker (values number_of) (λ n f. number_fits f.0 n f.1)

-- Names of ports and conditions.

kept_passes : (test : ℕ → Bool) (o : Option ℕ) (n : ℕ) → kept test o ≡ Some n → IsTrue (test n)
kept_passes test None n e = absurd cc
kept_passes test (Some m) n e = let f = some_if (test m) m n e in subst (λ k. IsTrue (test k)) f.1 f.0

an_input_port : (m : VModule) → Promises IsSpelled (an_input m) (λ p. IsTrue (is_input_port m.ports p))
unfolding an_input
an_input_port m = weaker (known_values (λ x. kept (is_input_port m.ports) (port_of m x)))
    (λ p f. kept_passes (is_input_port m.ports) (port_of m f.0) p f.1)

an_output_port : (m : VModule) → Promises IsSpelled (an_output m) (λ p. IsTrue (is_output_port m.ports p))
unfolding an_output
an_output_port m = weaker (known_values (λ x. kept (is_output_port m.ports) (port_of m x)))
    (λ p f. kept_passes (is_output_port m.ports) (port_of m f.0) p f.1)

a_value : (m : VModule) → Promises IsSpelled (a_condition m) (λ w. IsTrue (is_value m m.instances w))
unfolding a_condition
a_value m = weaker (known_values (λ x. kept (is_value m m.instances) (position (bytes_eq x) m.wires)))
    (λ w f. kept_passes (is_value m m.instances) (position (bytes_eq f.0) m.wires) w f.1)

-- Paths.

gates : (m : VModule) (x : List ℕ) → Promises IsSpelled (path_gate m x) (λ g. IsTrue (is_gate m g))
unfolding path_gate if_gate ifnone_gate
gates m x = by_word m (bytes_eq x (codes "if")) (bytes_eq x (codes "ifnone"))
  where
    by_word : (m : VModule) (a b : Bool) → Promises IsSpelled (gate_by m a b) (λ g. IsTrue (is_gate m g))
    by_word m true b = behind (λ c. in_turn (a_value m) (λ w h. behind (λ d. behind (λ e. gives h))))
    by_word m false true = behind (λ c. gives refl)
    by_word m false false = gives refl

-- a path that a text can tell
pub record IsToldPath (m : VModule) (path : VPath) : Type 0 where
  pub sound : IsPath m path
  pub numbers : HasNumbers path

one_path : (m : VModule) (x : List ℕ) → Promises IsSpelled (path m x) (IsToldPath m)
unfolding path
one_path m x =
    in_turn (gates m x) (λ when gated.
    in_turn (an_input_port m) (λ from starts.
    behind (λ a. in_turn (an_output_port m) (λ to ends.
    behind (λ b. behind (λ c. behind (λ d. in_turn numbers (λ rise r.
    behind (λ e. in_turn numbers (λ fall f.
    behind (λ g. behind (λ h. gives (record {
      sound = record { starts = starts; ends = ends; gated = gated };
      numbers =
          record { rise = r; fall = f };
    })))))))))))))

all_paths : (m : VModule) → Promises IsSpelled (paths m) (All (IsToldPath m))
unfolding paths next_path
all_paths m =
    many (λ k d h. absurd (omega arith))
    (λ w x a q p e. in_turn (one_path m a) (λ path h. gives (All-push (IsToldPath m) w path q h)))

-- Checks.

abbrev IsEvent : VModule → Event → Type 0
IsEvent m e = IsTrue (is_input_port m.ports e.pin)

events : (m : VModule) → Promises IsSpelled (an_event m) (IsEvent m)
unfolding an_event
events m = behind (λ e. in_turn (an_input_port m) (λ p h. gives h))

-- an event with an edge
record IsEdgeEvent (m : VModule) (e : Event) : Type 0 where
  pin : IsEvent m e
  edge : IsTrue (are_opposite e.edge (opposite e.edge))

opposite_edges : (x : List ℕ) (e : Edge) → edge_of x ≡ Some e → IsTrue (are_opposite e (opposite e))
opposite_edges x e h = of_word (bytes_eq x (codes "posedge")) (bytes_eq x (codes "negedge")) e h
  where
    of_word : (a b : Bool) (e : Edge) → (if a then Some edge.Rise else (if b then Some edge.Fall else None)) ≡ Some e
        → IsTrue (are_opposite e (opposite e))
    of_word true b edge.Rise h = refl
    of_word true b edge.Fall h = absurd cc
    of_word true b edge.Any h = absurd cc
    of_word false true edge.Rise h = absurd cc
    of_word false true edge.Fall h = refl
    of_word false true edge.Any h = absurd cc
    of_word false false e h = absurd cc

edge_events : (m : VModule) → Promises IsSpelled (an_edge_event m) (IsEdgeEvent m)
unfolding an_edge_event
edge_events m = in_turn (values edge_of)
    (λ e f. in_turn (an_input_port m) (λ p h. gives (record { pin = h; edge = opposite_edges f.0 e f.1 })))

conditions : (m : VModule) → Promises IsSpelled (condition m) (λ when. IsTrue (is_enabling m when))
unfolding condition condition_name
conditions m = choice (λ x a p e. in_turn (a_value m) (λ w h. gives h)) (gives refl)

there_is : (o : Option (List ℕ)) (x : List ℕ) (a : Unit {0}) → is_this bytes_eq o x ≡ Some a → IsTrue (is_some o)
there_is None x a e = absurd cc
there_is (Some name) x a e = refl

ends : (m : VModule) → Promises IsSpelled (check_end m) (λ _. IsTrue (is_some m.notifier))
unfolding check_end
ends m =
    behind (λ a. in_turn (known_values (is_this bytes_eq m.notifier))
    (λ b f. behind (λ c. surely (λ d. there_is m.notifier f.0 b f.1))))

-- a check that a text can tell
pub record IsToldCheck (m : VModule) (k : TimingCheck) : Type 0 where
  pub sound : IsCheck m k
  pub number : IsNumber k.limit

-- whether the text of a check of this kind tells both of its events
abbrev TellsBoth : CheckKind → Type 0
TellsBoth kind = (k : TimingCheck) → IsTrue (has_written_events k kind)

told_both : (m : VModule) (kind : CheckKind) → TellsBoth kind → (first second : Event) (limit : ℕ) (when : Option ℕ)
    → IsEvent m first → IsEvent m second → IsTrue (is_enabling m when) → IsTrue (is_some m.notifier) → IsNumber limit
    → IsToldCheck m (record { kind = kind; first = first; second = second; limit = limit; condition = when })
told_both m kind both first second limit when f s w n l =
    let k : TimingCheck = record { kind = kind; first = first; second = second; limit = limit; condition = when } in
    record { sound = record { first = f; second = s; written = both k; enabled = w; notified = n }; number = l }

ordered : (m : VModule) (kind : CheckKind) → TellsBoth kind → Promises IsSpelled (ordered_check kind m) (IsToldCheck m)
unfolding ordered_check
ordered m kind both =
    in_turn (events m) (λ first f.
    behind (λ a. in_turn (events m) (λ second s.
    in_turn (conditions m) (λ when w.
    behind (λ b. in_turn numbers (λ limit l.
    in_turn (ends m) (λ c n.
    gives (told_both m kind both first second limit when f s w n l))))))))

turned : (m : VModule) (kind : CheckKind) → TellsBoth kind → Promises IsSpelled (turned_check kind m) (IsToldCheck m)
unfolding turned_check
turned m kind both =
    in_turn (events m) (λ second s.
    in_turn (conditions m) (λ when w.
    behind (λ a. in_turn (events m) (λ first f.
    behind (λ b. in_turn numbers (λ limit l.
    in_turn (ends m) (λ c n.
    gives (told_both m kind both first second limit when f s w n l))))))))

widths : (m : VModule) → Promises IsSpelled (width_check m) (IsToldCheck m)
unfolding width_check
widths m =
    in_turn (edge_events m) (λ first f.
    in_turn (conditions m) (λ when w.
    behind (λ a. in_turn numbers (λ limit l.
    behind (λ b. behind (λ c. in_turn (ends m) (λ d n.
    gives (record {
      sound = record {
        first = f.pin;
        second = f.pin;
        written = and_from (nat_eq first.pin first.pin) (are_opposite first.edge (opposite first.edge))
            (same_pin first.pin) f.edge;
        enabled = w;
        notified = n;
      };
      number = l;
    }))))))))
  where
    same_pin : (p : ℕ) → nat_eq p p ≡ true
    same_pin p = eq-eqb p p refl

periods : (m : VModule) → Promises IsSpelled (period_check m) (IsToldCheck m)
unfolding period_check
periods m =
    behind (λ a. in_turn (an_input_port m) (λ p h.
    in_turn (conditions m) (λ when w.
    behind (λ b. in_turn numbers (λ limit l.
    in_turn (ends m) (λ c n.
    behind (λ d. gives (record {
      sound = record {
        first = h;
        second = h;
        written = and_from (nat_eq p p) true (eq-eqb p p refl) refl;
        enabled = w;
        notified =
            n;
      };
      number = l;
    }))))))))

kinds : (m : VModule) (kind : CheckKind) → Promises IsSpelled (check_of_kind m kind) (IsToldCheck m)
unfolding check_of_kind
kinds m check_kind.Setup = ordered m check_kind.Setup (λ k. refl)
kinds m check_kind.Hold = ordered m check_kind.Hold (λ k. refl)
kinds m check_kind.Recovery = ordered m check_kind.Recovery (λ k. refl)
kinds m check_kind.Removal = turned m check_kind.Removal (λ k. refl)
kinds m check_kind.Width = widths m
kinds m check_kind.Period = periods m

all_checks : (m : VModule) → Promises IsSpelled (checks m) (All (IsToldCheck m))
unfolding checks next_check check
all_checks m =
    many (λ k d h. absurd (omega arith))
    (λ w x kind q p e. in_turn (behind (λ a. kinds m kind)) (λ k h. gives (All-push (IsToldCheck m) w k q h)))

-- Blocks.

-- a module with paths and checks that a text can tell
pub record IsFinished (m finished : VModule) : Type 0 where
  pub paths : List VPath
  pub checks : List TimingCheck
  pub same : finished ≡ with_block m paths checks
  pub told_paths : All (IsToldPath m) paths
  pub told_checks : All (IsToldCheck m) checks

unspecified : (m : VModule) → m.paths ≡ [] → m.checks ≡ [] → IsFinished m m
unspecified m no_paths no_checks = record {
  paths = m.paths;
  checks = m.checks;
  same = refl;
  told_paths = subst (All (IsToldPath m)) (sym no_paths) (λ k d h. absurd (omega arith));
  told_checks = subst (All (IsToldCheck m)) (sym no_checks) (λ k d h. absurd (omega arith));
}

pub specified : (m : VModule) → m.paths ≡ [] → m.checks ≡ [] → Promises IsSpelled (specify m) (IsFinished m)
unfolding specify block
specified m no_paths no_checks =
    choice
    (λ x a p e.
    in_turn (all_paths m) (λ some_paths hp.
    in_turn (all_checks m) (λ some_checks hc.
    behind (λ b. gives (record { paths = some_paths; checks = some_checks; same = refl; told_paths = hp; told_checks = hc })))))
    (gives (unspecified m no_paths no_checks))
