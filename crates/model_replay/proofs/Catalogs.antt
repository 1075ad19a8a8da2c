-- Lists of names, and of models, that are filled one after another.
use Rattle.std.proofs.Common.{◌≡◌, ◌<◌, ℕ, ◌+◌, List, [], ◌∷◌, ◌++◌, drop, get_or, length, Option, Some, None, sym, ap, subst}
use Rattle.std.proofs.Common.{◌∙◌, append_assoc}
use Rattle.std.proofs.lemmas.List.{drop_more}
use Rattle.udp_tables.specs.declared.models.VPort.{VPort}
use Rattle.stimulus.specs.declared.ports.Ports.{Ports}
use Rattle.stimulus.specs.PortEntries.{NamedCells, AddsCell}
use Rattle.model_files.specs.Languages.{Language}
use Rattle.model_files.specs.ModelNames.{model_names, AreNew, HasOwnNames, HasOwnPorts, HaveOwnNames}
use Rattle.model_replay.specs.ModelPorts.{ports_of, model_ports}

-- these names stand in a list, those of the rest are still to come and are new, and together they are all
abbrev pub Fills : List (List ℕ) → List (List ℕ) → List (List ℕ) → Type 0
Fills names rest all = AreNew [] all → (names ++ rest ≡ all) × AreNew names rest

-- these models stand in a catalog, and the rest is still to come
pub record Lists {M : Type 0} (l : Language M) (catalog : NamedCells) (rest all : List M) : Type 0 where
  pub names : catalog.names ++ model_names l rest ≡ model_names l all
  pub new : AreNew catalog.names (model_names l rest)
  pub cells : catalog.cells ++ model_ports l rest ≡ model_ports l all

-- a model is added
added_as : {M : Type 0} (l : Language M) (old new : NamedCells) (m : M) (name : List ℕ) (ports : Ports) (rest all : List M)
    (found : Option ℕ) → Lists l old (m ∷ rest) all
    → name ≡ l.name m → ports ≡ ports_of (l.ports m) → AddsCell old name ports found new → Lists l new rest all
added_as l old new m name ports rest all None k n e a = absurd (a.0 (rw n k.new.0))
added_as l old new m name ports rest all (Some number) k n e a = rw a.2 (record {
  names = append_assoc old.names (name ∷ []) (model_names l rest) ∙ ap (λ x. old.names ++ x ∷ model_names l rest) n ∙ k.names;
  new = subst (λ x. AreNew (old.names ++ x ∷ []) (model_names l rest)) (sym n) k.new.1;
  cells = append_assoc old.cells (ports ∷ []) (model_ports l rest) ∙ ap (λ p. old.cells ++ p ∷ model_ports l rest) e ∙ k.cells;
})

-- the next model is added
pub lists_more : {M : Type 0} (l : Language M) (old new : NamedCells) (models : List M) (i : ℕ) (m : M) (name : List ℕ)
    (ports : List VPort) (named : Ports) (found : Option ℕ)
    → i < length models → m ≡ get_or models i m → (HaveOwnNames l models → Lists l old (drop i models) models) → name ≡ l.name m
    → ports ≡ l.ports m
    → (HasOwnNames ports → named ≡ ports_of ports) → AddsCell old name named found new
    → HaveOwnNames l models → Lists l new (drop (i + 1) models) models
lists_more l old new models i m name ports named found h e before n p same added own =
    let rest = drop (i + 1) models in
    let next : drop i models ≡ m ∷ rest = drop_more models i m h ∙ ap (λ x. x ∷ rest) (sym e) in
    let k = subst (λ r. Lists l old r models) next (before own) in
    let own_ports : HasOwnPorts l m = subst (HasOwnPorts l) (sym e) (own.ports i m h) in
    added_as l old new m name named rest models found k n (same (subst HasOwnNames (sym p) own_ports.names) ∙ ap ports_of p) added
