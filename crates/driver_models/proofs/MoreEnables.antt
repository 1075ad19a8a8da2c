-- The wires to enables, one behind the other.
use Rattle.std.proofs.Common.{◌≡◌, ℕ, suc, ◌+◌, ◌-◌, ◌<◌, Bool, List, Ok, codes, ap, ◌∙◌, arith}
use Rattle.grammar_rules.specs.Reading.{Outcome, and_then, read}
use Rattle.grammar_reader.specs.declared.refusal.Refusal.{Refusal}
use Rattle.grammar_reader.specs.Words.{expect, this_name}
use Rattle.driver_models.specs.Terminals.{enable_name, more_enables}

-- one more of them
pub passed : (is_name : List ℕ → Bool) (is_same : List ℕ → List ℕ → Bool) (value enable : List ℕ) (count : ℕ) (ready : Bool)
    (n i : ℕ) (s r q : List (List ℕ)) (u w : Unit {0}) →
    i < n → read (expect is_same (codes ",")) s ≡ Ok (u, r) →
    read (this_name is_name is_same (enable_name is_name is_same value enable count ready (i + 1))) r ≡ Ok (w, q) →
    read (more_enables is_name is_same value enable count ready (i + 1) (n - i)) s
    ≡ read (more_enables is_name is_same value enable count ready (i + 1 + 1) (n - (i + 1))) q
passed is_name is_same value enable count ready n i s r q u w h e f =
    let k : n - i ≡ suc (n - (i + 1)) = omega (arith, h) in
    ap (λ (m : ℕ). read (more_enables is_name is_same value enable count ready (i + 1) m) s) k
    ∙ ap (λ (o : Outcome (List ℕ) Refusal (Unit {0})). and_then o
    (λ _ t. and_then (read (this_name is_name is_same (enable_name is_name is_same value enable count ready (i + 1))) t)
    (λ _ v. read (more_enables is_name is_same value enable count ready (i + 1 + 1) (n - (i + 1))) v))) e
    ∙ ap (λ (o : Outcome (List ℕ) Refusal (Unit {0})). and_then o
    (λ _ v. read (more_enables is_name is_same value enable count ready (i + 1 + 1) (n - (i + 1))) v)) f
