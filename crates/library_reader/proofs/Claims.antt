-- What is claimed of a value that may be there, and of an answer that may be an error.
use Rattle.std.proofs.Common.{◌≡◌, Option, Some, None, Result, Ok, Err, IsErr, IfSome, OnOk, refl}
pub use Rattle.std.proofs.lemmas.Result.{IfOk-weaker as IfOk-map, IfOk-from_err as IfOk-err}

-- each value that is there
pub IfSome-each : {X : Type 0} (o : Option X) (P : X → Type 0) → ((x : X) → o ≡ Some x → P x) → IfSome o P
IfSome-each None P f = tt
IfSome-each (Some x) P f = f x refl

-- what holds of every value holds of the one that is there
pub IfSome-always : {X : Type 0} (o : Option X) (P : X → Type 0) → ((x : X) → P x) → IfSome o P
IfSome-always None P f = tt
IfSome-always (Some x) P f = f x

pub IfSome-map : {X : Type 0} (o : Option X) (P Q : X → Type 0) → ((x : X) → P x → Q x) → IfSome o P → IfSome o Q
IfSome-map None P Q f h = tt
IfSome-map (Some x) P Q f h = f x h

-- nothing is claimed of what an error gave
pub OnOk-err : {T E : Type 0} (r : Result T E) (P : Type 0) → IsErr r → OnOk r P
OnOk-err (Ok x) P e = absurd (cc)
OnOk-err (Err y) P e = tt
