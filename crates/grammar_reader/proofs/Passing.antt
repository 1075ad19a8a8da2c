-- Tests of a token that passes.
use Rattle.std.proofs.Common.{◌≡◌, ℕ, Bool, true, false, if◌then◌else◌, List, Option, Some, None, refl}
use Rattle.grammar_rules.specs.Rule.{Verdict, Fits, Foul, Misfit}
use Rattle.grammar_reader.specs.declared.refusal.Refusal.{Refusal}
use Rattle.grammar_reader.specs.Words.{allowed_by}

pub fits_if : {A : Type 0} (b : Bool) (v : Verdict A Refusal) (k : Refusal) (a : A) → (if b then v else Misfit k) ≡ Fits a
    → (b ≡ true) × (v ≡ Fits a)
fits_if true v k a e = (refl, e)
fits_if false v k a e = absurd cc

pub fits_unless : {A : Type 0} (b : Bool) (k : Refusal) (x a : A) → (if b then Foul k x else Fits x) ≡ Fits a → (b ≡ false)
    × (x ≡ a)
fits_unless true k x a e = absurd cc
fits_unless false k x a e = (refl, cc)

pub fits_where : {A : Type 0} (b : Bool) (k : Refusal) (x a : A) → (if b then Fits x else Foul k x) ≡ Fits a → (b ≡ true)
    × (x ≡ a)
fits_where true k x a e = (refl, cc)
fits_where false k x a e = absurd cc

pub some_if : {A : Type 0} (b : Bool) (v w : A) → (if b then Some v else None) ≡ Some w → (b ≡ true) × (v ≡ w)
some_if true v w e = (refl, cc)
some_if false v w e = absurd cc

pub fits_allowed : {A : Type 0} (k : Refusal) (o : Option A) (a : A) → allowed_by k o ≡ Fits a → o ≡ Some a
fits_allowed k None a e = absurd cc
fits_allowed k (Some b) a e = cc

-- some token stands for the value
abbrev pub IsFound : {A : Type 0} → (List ℕ → Option A) → A → Type 0
IsFound find a = (x : List ℕ) × (find x ≡ Some a)
