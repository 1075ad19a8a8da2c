-- One turn of a list of values.
use Rattle.std.proofs.Common.{◌≡◌, ℕ, suc, ◌+◌, ◌-◌, ◌<◌, true, List, [], ◌∷◌, ◌++◌, Some, refl, ap, ◌∙◌}
use Rattle.std.proofs.Common.{arith}
use Rattle.liberty_text.specs.declared.token.Token.{Token}
use Rattle.grammar_rules.specs.Rule.{Gives}
use Rattle.grammar_rules.specs.Reading.{Outcome, repeat, read}
use Rattle.liberty_groups.specs.declared.fault.Refusal.{Refusal}
use Rattle.liberty_groups.specs.declared.reader.Place.{Place}
use Rattle.liberty_groups.specs.declared.tree.Value.{Value}
use Rattle.liberty_groups.specs.Lexeme.{Lexeme, next_token, rest}
use Rattle.liberty_groups.specs.Grammar.{goes_on, part_at, next_part}

-- so many more turns of a list of values
abbrev pub part_turns : Place → ℕ → List Value → List Lexeme → Outcome Lexeme Refusal (List Value)
part_turns p n found s = repeat (λ _. part_at p) (λ v a r. read (Gives (v ++ a)) r) n found s

part_turn_suc : (p : Place) (n : ℕ) (found : List Value) (s : List Lexeme) (t : Token) → next_token s ≡ Some t
    → goes_on p t ≡ true →
    part_turns p (suc n) found s ≡ part_turns p n (found ++ next_part s) (rest s)
part_turn_suc p n found [] t e h = absurd cc
part_turn_suc p n found (x ∷ s) t e h =
    let i : goes_on p x.token ≡ true = ap (goes_on p) (some_is e) ∙ h in rw i refl
  where
    some_is : {a b : Token} → Some a ≡ Some b → a ≡ b
    some_is e = cc

pub part_turn : (p : Place) (n i : ℕ) (found : List Value) (s : List Lexeme) (t : Token) → i < n → next_token s ≡ Some t
    → goes_on p t ≡ true →
    part_turns p (n - i) found s ≡ part_turns p (n - (i + 1)) (found ++ next_part s) (rest s)
part_turn p n i found s t l e h =
    let k : n - i ≡ suc (n - (i + 1)) = omega arith in
    ap (λ (m : ℕ). part_turns p m found s) k ∙ part_turn_suc p (n - (i + 1)) found s t e h
