-- Marks of driven nets, while instances are read.
use Rattle.std.proofs.Common.{◌≡◌, ◌≤◌, ◌<◌, ℕ, zero, suc, ◌+◌, Bool, true, false, not, ◌||◌, ◌&&◌, List, [], ◌∷◌, ◌++◌, take}
use Rattle.std.proofs.Common.{length, get_or, replicate, nat_eq, Option, Some, None, refl, sym, ap, subst, ◌∙◌, arith}
use Rattle.std.specs.Prelude.{slice_get, slice_set}
use Rattle.std.specs.List.{list_any}
use Rattle.std.specs.Option.{option_map}
use Rattle.std.proofs.Math.Dec.{eqb-zero-suc, eqb-suc-zero, eqb-suc-suc}
use Rattle.std.proofs.Math.Dec.{eqb-zero-suc, eqb-suc-zero, eqb-suc-suc}
use Rattle.std.proofs.lemmas.List.{take_more}
use Rattle.std.proofs.lemmas.List.Folds.{list_any-append}
use Rattle.std.proofs.Math.Bool.{and-false as and_false}
use Rattle.udp_tables.specs.declared.table.Udp.{Udp}
use Rattle.verilog_grammar.specs.specify_blocks.declared.model.VNet.{VNet}
use Rattle.verilog_grammar.specs.specify_blocks.declared.model.VNet.TheVariants as net
use Rattle.verilog_grammar.specs.specify_blocks.declared.model.Instance.{Instance}
use Rattle.verilog_grammar.specs.specify_blocks.Nets.{same_net, net_driven, has_state}
use Rattle.verilog_reader.specs.declared.driven_nets.DrivenNets.{DrivenNets}
use Rattle.verilog_reader.specs.DrivenNets.{Tell, AreDriven, driven_by, drives_port, drives_state, drives_value}

-- nothing is set behind the last mark
pub set_behind : (marks : List Bool) (k : ℕ) → length marks ≤ k → slice_set marks k true ≡ marks
set_behind [] k h = refl
set_behind (m ∷ marks) zero h = absurd (omega (arith, h))
set_behind (m ∷ marks) (suc k) h = ap (λ ms. m ∷ ms) (set_behind marks k (omega (arith, h)))

or_false : (b : Bool) → b ≡ (b || false)
or_false true = refl
or_false false = refl

or_true : (b : Bool) → true ≡ (b || true)
or_true true = refl
or_true false = refl

some_or_false : (o : Option Bool) → o ≡ option_map (λ b. b || false) o
some_or_false (Some b) = ap Some (or_false b)
some_or_false None = refl

-- a mark after one was set
get_set : (marks : List Bool) (k n : ℕ)
    → slice_get (slice_set marks k true) n ≡ option_map (λ b. b || nat_eq k n) (slice_get marks n)
get_set [] k n = refl
get_set (m ∷ marks) zero zero = ap Some (or_true m)
get_set (m ∷ marks) zero (suc n) = some_or_false (slice_get marks n)
    ∙ ap (λ t. option_map (λ b. b || t) (slice_get marks n)) (sym (eqb-zero-suc n))
get_set (m ∷ marks) (suc k) zero = ap Some (or_false m ∙ ap (λ t. m || t) (sym (eqb-suc-zero k)))
get_set (m ∷ marks) (suc k) (suc n) =
    get_set marks k n ∙ ap (λ t. option_map (λ b. b || t) (slice_get marks n)) (sym (eqb-suc-suc k n))

-- what marks tell behind one instance more
tell_more : (test : ℕ → Instance → Bool) (marks new : List Bool) (instances : List Instance) (i : Instance)
    → ((n : ℕ) → slice_get new n ≡ option_map (λ b. b || test n i) (slice_get marks n)) → Tell test marks instances
    → Tell test new (instances ++ i ∷ [])
tell_more test marks new instances i more tell = λ n b e. by_mark n b (slice_get marks n) refl (sym (more n) ∙ e)
  where
    by_mark : (n : ℕ) (b : Bool) (o : Option Bool) → slice_get marks n ≡ o → option_map (λ c. c || test n i) o ≡ Some b
        → b ≡ list_any (test n) (instances ++ i ∷ [])
    by_mark n b None e f = absurd cc
    by_mark n b (Some c) e f =
        let same : (c || test n i) ≡ b = cc in
        sym same ∙ ap (λ d. d || test n i) (tell n c e) ∙ ap (λ d. list_any (test n) instances || d) (or_false (test n i))
        ∙ sym (list_any-append (test n) instances (i ∷ []))

-- an instance that drives this one, and one that drives none of these
tell_set : (test : ℕ → Instance → Bool) (marks : List Bool) (instances : List Instance) (i : Instance) (k : ℕ)
    → ((n : ℕ) → test n i ≡ nat_eq k n)
    → Tell test marks instances → Tell test (slice_set marks k true) (instances ++ i ∷ [])
tell_set test marks instances i k here tell =
    tell_more test marks (slice_set marks k true) instances i
    (λ n. get_set marks k n ∙ ap (λ t. option_map (λ b. b || t) (slice_get marks n)) (sym (here n))) tell

tell_same : (test : ℕ → Instance → Bool) (marks : List Bool) (instances : List Instance) (i : Instance)
    → ((n : ℕ) → test n i ≡ false)
    → Tell test marks instances → Tell test marks (instances ++ i ∷ [])
tell_same test marks instances i none tell =
    tell_more test marks marks instances i
    (λ n. some_or_false (slice_get marks n) ∙ ap (λ t. option_map (λ b. b || t) (slice_get marks n)) (sym (none n))) tell

-- the nets behind one instance more
pub driven_more : (found : DrivenNets) (udps : List Udp) (instances : List Instance) (i : Instance)
    → AreDriven found udps instances
    → AreDriven (driven_by found (has_state udps i) (net_driven i)) udps (instances ++ i ∷ [])
driven_more found udps instances i d = by_net (net_driven i) refl (has_state udps i) refl
  where
    by_net : (n : VNet) → net_driven i ≡ n → (b : Bool) → has_state udps i ≡ b
        → AreDriven (driven_by found b n) udps (instances ++ i ∷ [])
    by_net (net.Port p) e b f = record {
      ports = tell_set drives_port found.ports instances i p (λ n. ap (λ m. same_net m (net.Port n)) e) d.ports;
      states = tell_same (drives_state udps) found.states instances i
          (λ n. ap (λ m. has_state udps i && same_net m (net.Wire n)) e ∙ and_false (has_state udps i)) d.states;
      values = tell_same (drives_value udps) found.values instances i
          (λ n. ap (λ m. not (has_state udps i) && same_net m (net.Wire n)) e ∙ and_false (not (has_state udps i))) d.values;
    }
    by_net (net.Wire w) e true f = record {
      ports = tell_same drives_port found.ports instances i (λ n. ap (λ m. same_net m (net.Port n)) e) d.ports;
      states = tell_set (drives_state udps) found.states instances i w (λ n. rw (f, e) refl) d.states;
      values = tell_same (drives_value udps) found.values instances i (λ n. rw f refl) d.values;
    }
    by_net (net.Wire w) e false f = record {
      ports = tell_same drives_port found.ports instances i (λ n. ap (λ m. same_net m (net.Port n)) e) d.ports;
      states = tell_same (drives_state udps) found.states instances i (λ n. rw f refl) d.states;
      values = tell_set (drives_value udps) found.values instances i w (λ n. rw (f, e) refl) d.values;
    }
    by_net net.Notifier e b f = record {
      ports = tell_same drives_port found.ports instances i (λ n. ap (λ m. same_net m (net.Port n)) e) d.ports;
      states = tell_same (drives_state udps) found.states instances i
          (λ n. ap (λ m. has_state udps i && same_net m (net.Wire n)) e ∙ and_false (has_state udps i)) d.states;
      values = tell_same (drives_value udps) found.values instances i
          (λ n. ap (λ m. not (has_state udps i) && same_net m (net.Wire n)) e ∙ and_false (not (has_state udps i))) d.values;
    }

-- no marks tell of any instances
pub no_marks : (udps : List Udp) (instances : List Instance)
    → AreDriven (record { ports = []; states = []; values = [] }) udps instances
no_marks udps instances = record { ports = λ n b e. absurd cc; states = λ n b e. absurd cc; values = λ n b e. absurd cc }

-- marks of which none is set tell of no instances
unset : (count n : ℕ) (b : Bool) → slice_get (replicate count false) n ≡ Some b → b ≡ false
unset zero n b e = absurd cc
unset (suc count) zero b e = cc
unset (suc count) (suc n) b e = unset count n b e

tell_none : (test : ℕ → Instance → Bool) (count : ℕ) → Tell test (replicate count false) []
tell_none test count = λ n b e. unset count n b e

pub none_driven : (found : DrivenNets) (udps : List Udp) (p s v : ℕ) → found.ports ≡ replicate p false
    → found.states ≡ replicate s false → found.values ≡ replicate v false
    → AreDriven found udps []
none_driven found udps p s v ep es ev = record {
  ports = subst (λ ms. Tell drives_port ms []) (sym ep) (tell_none drives_port p);
  states = subst (λ ms. Tell (drives_state udps) ms []) (sym es) (tell_none (drives_state udps) s);
  values = subst (λ ms. Tell (drives_value udps) ms []) (sym ev) (tell_none (drives_value udps) v);
}

-- behind one instance more of a list
pub driven_next : (found new : DrivenNets) (udps : List Udp) (instances : List Instance) (k : ℕ) (i : Instance)
    → k < length instances → i ≡ get_or instances k i
    → AreDriven found udps (take k instances) → new ≡ driven_by found (has_state udps i) (net_driven i)
    → AreDriven new udps (take (k + 1) instances)
driven_next found new udps instances k i h e d f =
    let longer : take (k + 1) instances ≡ take k instances ++ i ∷ [] =
    take_more instances k i h ∙ ap (λ j. take k instances ++ j ∷ []) (sym e) in
    rw (f, longer) (driven_more found udps (take k instances) i d)

-- where its parts are at hand
pub driven_step : (found new : DrivenNets) (us udps : List Udp) (instances : List Instance) (k : ℕ) (i : Instance) (b : Bool)
    (n : VNet) → k < length instances → i ≡ get_or instances k i
    → AreDriven found udps (take k instances) → us ≡ udps → b ≡ has_state us i → n ≡ net_driven i → new ≡ driven_by found b n
    → AreDriven new udps (take (k + 1) instances)
driven_step found new us udps instances k i b n h e d eu eb en f =
    let stateful : b ≡ has_state udps i = eb ∙ ap (λ u. has_state u i) eu in
    driven_next found new udps instances k i h e d (rw (stateful, en) at f)
