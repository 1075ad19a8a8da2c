-- The model that was read of a text that tells one is the model that the text tells.
use Rattle.std.proofs.Common.{◌≡◌, List, [], ◌∷◌, Result, Ok, Err, IfOk, IsOkAnd, Vec, sym, ap, ◌∙◌}

pub one_read : {T A E F G : Type 0} (answer : Result (List T) G) (m : T) (read : Result (Vec T A) E) (result : Result T F)
    → answer ≡ Ok (m ∷ []) → IfOk read (λ models. answer ≡ Ok models.items)
    → IfOk result (λ model. IsOkAnd read (λ models. models.items ≡ model ∷ [])) → IfOk result (λ model. model ≡ m)
one_read answer m (Ok models) (Ok model) is told one = let h = sym (told ∙ ap Ok one) ∙ is in cc
one_read answer m (Err e) (Ok model) is told one = absurd one
one_read answer m read (Err e) is told one = tt
