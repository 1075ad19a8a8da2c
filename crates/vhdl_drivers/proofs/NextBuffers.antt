-- The buffers of a driver, one behind the other.
use Rattle.std.proofs.Common.{◌≡◌, ℕ, suc, ◌+◌, ◌-◌, ◌<◌, List, Ok, Err, ap, ◌∙◌, arith}
use Rattle.grammar_rules.specs.Reading.{Outcome, and_then, read}
use Rattle.grammar_reader.specs.declared.refusal.Refusal.{Refusal}
use Rattle.vhdl_drivers.specs.DriverSections.{buffer, buffers}

-- one more of them
pub passed : (n i : ℕ) (s q : List (List ℕ)) (u : Unit {0}) → i < n → read (buffer (i + 1)) s ≡ Ok (u, q)
    → read (buffers (i + 1) (n - i)) s ≡ read (buffers (i + 1 + 1) (n - (i + 1))) q
passed n i s q u h e =
    let k : n - i ≡ suc (n - (i + 1)) = omega (arith, h) in
    ap (λ (m : ℕ). read (buffers (i + 1) m) s) k
    ∙ ap (λ (o : Outcome (List ℕ) Refusal (Unit {0})). and_then o (λ _ v. read (buffers (i + 1 + 1) (n - (i + 1))) v)) e
