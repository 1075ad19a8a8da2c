-- The text of well formed modules is read as these modules.
use Rattle.std.proofs.Common.{◌≡◌, ℕ, false, List, [], ◌∷◌, ◌++◌, flat_map, refl, sym, ap, ◌∙◌, subst, codes, append_assoc}
use Rattle.std.specs.List.{AllByRecursion}
use Rattle.std.proofs.lemmas.List.{append-nil, map-append}
use Rattle.std.proofs.lemmas.Grind.{flat_map-append}
use Rattle.std.proofs.lemmas.List.Elements.{recursion_from_All}
use Rattle.udp_tables.specs.declared.table.Udp.{Udp}
use Rattle.verilog_tokens.specs.Tokens.{scan_of}
use Rattle.verilog_tokens.specs.Separators.{spelled}
use Rattle.udp_tables.specs.VerilogRules.{begins, is_among}
use Rattle.verilog_grammar.specs.specify_blocks.declared.model.VModule.{VModule}
use Rattle.verilog_grammar.specs.VerilogText.{Before, with_primitive, next_primitive, next_module, more_primitives}
use Rattle.verilog_grammar.specs.VerilogText.{primitives_and_module, is_design_start, design, designs, prelude, file, language}
use Rattle.verilog_grammar.specs.VerilogText.{IsVerilogText, verilog_text}
use Rattle.verilog_grammar.specs.WellFormed.{AreApart, IsWellFormedUdp, IsWellFormedModule, udp_names, outer_names, AreWellFormed}
use Rattle.verilog_grammar.proofs.VerilogAnswers.{is_answer}
use Rattle.grammar_reader.specs.Words.{begins_by}
use Rattle.verilog_writer.specs.Model.{prelude_text, module_text}
use Rattle.written_modules.specs.Laws.{modules_text, WrittenModulesReadBack}
use Rattle.grammar_reader.specs.ReadBack.{ReadsBack}
use Rattle.grammar_reader.proofs.Spelling.{literal, all_found, behind, each_spelled}
use Rattle.written_modules.proofs.Spelling.{Spells}
use Rattle.grammar_reader.proofs.Fronts.{Front, Anything, each}
use Rattle.written_modules.proofs.PrimitiveTokens.{primitive_tokens, primitive_spelled}
use Rattle.written_modules.proofs.PrimitiveReading.{primitive_read}
use Rattle.grammar_reader.proofs.Derivations.{Reads, to_same, gives, in_turn, Turn, turn, through}
use Rattle.written_modules.proofs.NameReading.{expected, is_new}
use Rattle.grammar_reader.proofs.ItemPlaces.{at_place}
use Rattle.grammar_reader.proofs.TextsReadBack.{is_text, reads_back}
use Rattle.written_modules.proofs.NetReading.{apart_tail}
use Rattle.written_modules.proofs.ModuleReading.{module_more, module_tokens, module_spelled, module_read}

-- Names of all primitives and modules.

split_outer : (before : List VModule) (m : VModule) (after : List VModule)
    → flat_map outer_names (before ++ m ∷ after) ≡ flat_map outer_names before
    ++ (udp_names m.udps ++ m.name ∷ flat_map outer_names after)
split_outer before m after =
    flat_map-append outer_names before (m ∷ after)
    ∙ ap (λ (l : List (List ℕ)). flat_map outer_names before ++ l)
    (append_assoc (udp_names m.udps) (m.name ∷ []) (flat_map outer_names after))

-- the names before and behind a module, and what it is
record IsPlaced (before : List VModule) (m : VModule) (others : List (List ℕ)) : Type 0 where
  formed : IsWellFormedModule m
  apart : AreApart (flat_map outer_names before ++ (udp_names m.udps ++ m.name ∷ others))

module_name_new : (before : List VModule) (m : VModule) (others : List (List ℕ)) → IsPlaced before m others
    → is_among (flat_map outer_names before ++ udp_names m.udps) m.name ≡ false
module_name_new before m others h =
    is_new (flat_map outer_names before ++ udp_names m.udps) m.name others
    (subst AreApart (sym (append_assoc (flat_map outer_names before) (udp_names m.udps) (m.name ∷ others))) h.apart)

split_udps : (names : List (List ℕ)) (done : List Udp) (udp : Udp) (after : List Udp) (others : List (List ℕ))
    → names ++ (udp_names (done ++ udp ∷ after) ++ others) ≡ (names ++ udp_names done) ++ udp.name ∷ (udp_names after ++ others)
split_udps names done udp after others =
    ap (λ (l : List (List ℕ)). names ++ (l ++ others)) (map-append (λ (u : Udp). u.name) done (udp ∷ after))
    ∙ ap (λ (l : List (List ℕ)). names ++ l) (append_assoc (udp_names done) (udp.name ∷ udp_names after) others)
    ∙ sym (append_assoc names (udp_names done) (udp.name ∷ (udp_names after ++ others)))

udp_name_new : (before : List VModule) (m : VModule) (others : List (List ℕ)) → IsPlaced before m others
    → (done : List Udp) (udp : Udp) (after : List Udp) → done ++ udp ∷ after ≡ m.udps
    → is_among (flat_map outer_names before ++ udp_names done) udp.name ≡ false
udp_name_new before m others h done udp after same =
    let names : List (List ℕ) = flat_map outer_names before in
    is_new (names ++ udp_names done) udp.name (udp_names after ++ m.name ∷ others)
    (subst AreApart (ap (λ (l : List Udp). names ++ (udp_names l ++ m.name ∷ others)) (sym same)
    ∙ split_udps names done udp after (m.name ∷ others)) h.apart)

-- Primitives before a module.

-- before a module, some of its primitives are read
abbrev among : List VModule → List Udp → Before
among before done = record { modules = before; names = flat_map outer_names before ++ udp_names done; udps = done }

with_next : (before : List VModule) (done : List Udp) (udp : Udp)
    → with_primitive (among before done) udp ≡ among before (done ++ udp ∷ [])
with_next before done udp =
    ap (λ (l : List (List ℕ)). record { modules = before; names = l; udps = done ++ udp ∷ [] })
    (append_assoc (flat_map outer_names before) (udp_names done) (udp.name ∷ [])
    ∙ ap (λ (l : List (List ℕ)). flat_map outer_names before ++ l) (sym (map-append (λ (u : Udp). u.name) done (udp ∷ []))))

formed_udp : (m : VModule) → IsWellFormedModule m → (done : List Udp) (udp : Udp) (after : List Udp)
    → done ++ udp ∷ after ≡ m.udps → IsWellFormedUdp udp
formed_udp m h done udp after same =
    at_place IsWellFormedUdp done udp after
    (subst (AllByRecursion IsWellFormedUdp) (sym same) (recursion_from_All IsWellFormedUdp m.udps h.udps))

primitive_turn : (before : List VModule) (m : VModule) (others : List (List ℕ)) → IsPlaced before m others
    → (done : List Udp) (udp : Udp) (after : List Udp) (s : List (List ℕ)) → done ++ udp ∷ after ≡ m.udps
    → Turn (λ _. begins (codes "primitive")) (λ more _. next_primitive more) (among before done) (primitive_tokens udp s)
    (among before (done ++ udp ∷ [])) s
unfolding next_primitive
primitive_turn before m others h done udp after s same =
    turn refl (to_same (with_next before done udp)
    (in_turn (primitive_read (flat_map outer_names before ++ udp_names done) udp s (formed_udp m h.formed done udp after same)
    (udp_name_new before m others h done udp after same)) gives))

-- Modules.

-- before some module
abbrev up_to : List VModule → Before
up_to before = record { modules = before; names = flat_map outer_names before; udps = [] }

abbrev pub design_tokens : VModule → Front
design_tokens m s = each primitive_tokens m.udps (module_tokens m s)

with_it : (before : List VModule) (m : VModule)
    → record {
      modules = before ++ m ∷ [];
      names = (flat_map outer_names before ++ udp_names m.udps) ++ m.name ∷ [];
      udps =
          [];
    } ≡ up_to (before ++ m ∷ [])
with_it before m =
    ap (λ (l : List (List ℕ)). record { modules = before ++ m ∷ []; names = l; udps = [] })
    (append_assoc (flat_map outer_names before) (udp_names m.udps) (m.name ∷ []) ∙ sym (split_outer before m []))

own_apart : (before : List VModule) (m : VModule) (others : List (List ℕ)) → IsPlaced before m others
    → AreApart (udp_names m.udps ++ m.name ∷ others)
own_apart before m others h = apart_tail (flat_map outer_names before) (udp_names m.udps ++ m.name ∷ others) h.apart

-- a module behind its primitives
module_behind : (before : List VModule) (m : VModule) (others s : List (List ℕ)) → IsPlaced before m others
    → Reads (next_module (among before m.udps)) (module_more m s) (up_to (before ++ m ∷ [])) s
unfolding next_module
module_behind before m others s h =
    to_same (with_it before m)
    (in_turn (module_read (flat_map outer_names before ++ udp_names m.udps) m (m.name ∷ others) s h.formed
    (own_apart before m others h) (module_name_new before m others h)) gives)

no_primitives : (before : List VModule) → among before [] ≡ up_to before
no_primitives before = ap (λ (l : List (List ℕ)). record { modules = before; names = l; udps = [] })
    (append-nil (flat_map outer_names before))

design_by : (before : List VModule) (m : VModule) (others s : List (List ℕ)) → IsPlaced before m others → (udps : List Udp)
    → m.udps ≡ udps
    → Turn (λ _. begins_by is_design_start) design (up_to before) (each primitive_tokens udps (module_tokens m s))
    (up_to (before ++ m ∷ [])) s
unfolding primitives_and_module more_primitives next_primitive
design_by before m others s h [] e =
    turn refl (subst (λ (b : Before). Reads (next_module b) (module_more m s) (up_to (before ++ m ∷ [])) s)
    (ap (among before) e ∙ no_primitives before) (module_behind before m others s h))
design_by before m others s h (udp ∷ udps) e =
    let names : List (List ℕ) = flat_map outer_names before in
    let first_new : is_among names udp.name ≡ false =
    subst (λ (l : List (List ℕ)). is_among l udp.name ≡ false) (append-nil names)
    (udp_name_new before m others h [] udp udps (sym e)) in
    let rest : List (List ℕ) = each primitive_tokens udps (module_tokens m s) in
    turn refl
    (in_turn (in_turn (primitive_read names udp rest (formed_udp m h.formed [] udp udps (sym e)) first_new) gives)
    (in_turn (through (λ (l : List Udp). among before l) primitive_tokens (udp ∷ []) udps
    (λ done u after q same. primitive_turn before m others h done u after q (same ∙ sym e)) (module_tokens m s) refl)
    (in_turn expected (subst (λ (l : List Udp). Reads (next_module (among before l)) (module_more m s)
    (up_to (before ++ m ∷ [])) s) e (module_behind before m others s h)))))

placed : (ms : List VModule) → AreWellFormed ms → (before : List VModule) (m : VModule) (after : List VModule)
    → before ++ m ∷ after ≡ ms → IsPlaced before m (flat_map outer_names after)
placed ms h before m after same = record {
  formed = at_place IsWellFormedModule before m after
      (subst (AllByRecursion IsWellFormedModule) (sym same) (recursion_from_All IsWellFormedModule ms h.modules));
  apart = subst AreApart (ap (flat_map outer_names) (sym same) ∙ split_outer before m after) h.apart;
}

designs_read : (ms : List VModule) → AreWellFormed ms → Reads designs (each design_tokens ms []) (up_to ms) []
unfolding designs
designs_read ms h =
    through up_to design_tokens [] ms
    (λ before m after s same. design_by before m (flat_map outer_names after) s (placed ms h before m after same) m.udps refl)
    [] tt

-- Files.

abbrev pub file_tokens : List VModule → List (List ℕ)
file_tokens ms = codes "`timescale" ∷ codes "1ps" ∷ codes "/" ∷ codes "1ps" ∷ each design_tokens ms []

file_read : (ms : List VModule) → AreWellFormed ms → Reads file (file_tokens ms) ms []
unfolding file prelude
file_read ms h =
    in_turn (in_turn expected (in_turn expected (in_turn expected expected)))
    (in_turn (designs_read ms h) (record { taken = (refl, refl, refl) }))

pub prelude_spelled : Spells Anything false prelude_text (λ s. codes "`timescale" ∷ codes "1ps" ∷ codes "/" ∷ codes "1ps" ∷ s)
    false
unfolding prelude_text
prelude_spelled = literal (λ r. refl) refl

pub design_spelled : (m : VModule) (others : List (List ℕ)) → IsWellFormedModule m → AreApart (udp_names m.udps ++ others)
    → Spells Anything false (module_text m) (design_tokens m) false
unfolding module_text
design_spelled m others h apart =
    behind (each_spelled IsWellFormedUdp primitive_spelled (λ u r q. tt) m.udps
    (recursion_from_All IsWellFormedUdp m.udps h.udps)) (module_spelled m others h apart)

-- a module whose names are apart from each other
abbrev pub IsAlone : VModule → Type 0
IsAlone m = IsWellFormedModule m × ((others : List (List ℕ)) × AreApart (udp_names m.udps ++ others))

pub all_alone : (ms : List VModule) → AreWellFormed ms → (before after : List VModule) → before ++ after ≡ ms
    → AllByRecursion IsAlone after
all_alone ms h before [] same = tt
all_alone ms h before (m ∷ after) same =
    let p = placed ms h before m after same in (
      (p.formed, (m.name ∷ flat_map outer_names after, own_apart before m (flat_map outer_names after) p)),
      all_alone ms h
          (before ++ m ∷ []) after (append_assoc before (m ∷ []) after ∙ same),
    )

-- the tokens of a file, in which no section begins
pub file_spelled : (ms : List VModule) → AreWellFormed ms
    → Spells Anything false (modules_text ms)
    (λ s. codes "`timescale" ∷ codes "1ps" ∷ codes "/" ∷ codes "1ps" ∷ each design_tokens ms s) false
unfolding modules_text
file_spelled ms h = behind prelude_spelled
    (each_spelled IsAlone (λ m a. design_spelled m a.1.0 a.0 a.1.1) (λ m r q. tt) ms (all_alone ms h [] ms refl))

-- bytes of the tokens of well formed modules read back
pub read_from : (ms : List VModule) → AreWellFormed ms → (bytes : List ℕ) → spelled (scan_of bytes) ≡ (file_tokens ms, false)
    → ReadsBack verilog_text IsVerilogText bytes ms
unfolding verilog_text
read_from ms h bytes e =
    reads_back verilog_text IsVerilogText bytes ms (is_answer bytes).value
    (is_text language bytes ms (file_tokens ms) e (file_read ms h))

-- what is well formed reads back
pub read_back : WrittenModulesReadBack
read_back ms h = read_from ms h (modules_text ms) (all_found (file_spelled ms h))
