-- What the words of a grammar promise of what they take, whatever is known of each token.
use Rattle.std.proofs.Common.{◌≡◌, ℕ, Bool, true, false, if◌then◌else◌, List, Option, refl}
use Rattle.grammar_rules.specs.Rule.{Fits, Foul}
use Rattle.grammar_rules.specs.Rule as r
use Rattle.grammar_rules.proofs.Promises.{Promises, token, gives, in_turn, keeps}
use Rattle.grammar_reader.specs.declared.refusal.Refusal.{Refusal}
use Rattle.grammar_reader.specs.declared.refusal.Refusal.TheVariants.{Syntax, Undefined}
use Rattle.grammar_reader.specs.Words.{Grammar, allowed_by, expect_where, go_on_where, known, valued}
use Rattle.grammar_reader.proofs.Passing.{fits_if, fits_where, fits_allowed, IsFound}

pub values : {A : Type 0} {P : List ℕ → Type 0} (find : List ℕ → Option A) → Promises P (valued find) (IsFound find)
values find = token (λ x a p e. (x, fits_allowed Syntax (find x) a e))

pub goes_on : {P : List ℕ → Type 0} (b : Bool) → Promises P (go_on_where b) (λ _. b ≡ true)
goes_on true = gives refl
goes_on false = token (λ x a p e. absurd cc)

-- behind a part of which nothing is said
pub behind : {A B : Type 0} {P : List ℕ → Type 0} {p : Grammar A} {g : A → Grammar B} {Q : B → Type 0}
    → ((a : A) → Promises P (g a) Q) → Promises P (r.Then p g) Q
behind {P = P} {p = p} more = in_turn (keeps P p) (λ a _. more a)

-- a name that stands for a value
pub known_values : {A : Type 0} {P : List ℕ → Type 0} (is_name : List ℕ → Bool) (find : List ℕ → Option A)
    → Promises P (known is_name find) (IsFound find)
known_values is_name find = token (λ x a p e.
    let n = fits_if (is_name x) (allowed_by Undefined (find x)) Syntax a e in
    (x, fits_allowed Undefined (find x) a n.1))

-- what has to hold at a token, where no strict rule is broken
pub where_holds : {P : List ℕ → Type 0} (is_same : List ℕ → List ℕ → Bool) (b : Bool) (k : Refusal) (text : List ℕ)
    → Promises P (expect_where is_same b k text) (λ _. b ≡ true)
where_holds is_same b k text = token (λ x a p e.
    let n = fits_if (is_same x text) (if b then Fits tt else Foul k tt) Syntax a e in
    (fits_where b k tt a n.1).0)

-- what each value has
pub surely : {A : Type 0} {P : List ℕ → Type 0} {p : Grammar A} {Q : A → Type 0} → ((a : A) → Q a) → Promises P p Q
surely {P = P} {p = p} q = record { kept = λ s a left all t. (q a, ((keeps P p).kept s a left all t).1) }
