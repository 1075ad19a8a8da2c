-- One more turn of the loops over the groups and names of a cell.
use Rattle.std.proofs.Common.{◌≡◌, ℕ, suc, ◌+◌, ◌*◌, ◌<◌, false, List, [], ◌∷◌, ◌++◌, length, map, drop, get_or, refl, sym, ap}
use Rattle.std.proofs.Common.{arith, nat_eq, append_assoc}
use Rattle.std.specs.Prelude.{flat_map, bytes_eq}
use Rattle.std.proofs.lemmas.List.{drop_more}
use Rattle.bool_functions.specs.Support.{insert_all}
use Rattle.bool_functions.proofs.Trees.{insert_all_append}
use Rattle.statetables.specs.declared.table.StateTable.{StateTable}
use Rattle.cell_machine.specs.declared.groups.GroupKind.TheVariants as kind
use Rattle.cell_machine.specs.declared.groups.StateGroup.{StateGroup}
use Rattle.cell_attributes.specs.declared.state_readings.StateReading.{StateReading}
use Rattle.cell_attributes.specs.States.{StateName}
use Rattle.cell_attributes.specs.Building.{stands_for, is_second_name, number_in, node_groups}

pub insert_turn :
    {B : Type 0} (h : B → List ℕ) (xs : List B) (i : ℕ) (d : B) (found next : List ℕ)
    → i < length xs → next ≡ insert_all found (h (get_or xs i d))
    → insert_all next (flat_map h (drop (i + 1) xs)) ≡ insert_all found (flat_map h (drop i xs))
insert_turn h xs i d found next within more =
    rw (drop_more xs i d within)
    (rw more (sym (insert_all_append found (h (get_or xs i d)) (flat_map h (drop (i + 1) xs)))))

pub stands_turn :
    (pins place : ℕ) (groups : List StateGroup) (i : ℕ)
    → place < length groups → nat_eq i (pins + 2 * place + 1) ≡ false
    → stands_for (pins + 2 * (place + 1)) (drop (place + 1) groups) i ≡ stands_for (pins + 2 * place) (drop place groups) i
stands_turn pins place [] i within other = absurd (omega arith)
stands_turn pins place (group ∷ groups) i within other =
    let more : pins + 2 * (place + 1) ≡ pins + 2 * place + 2 = omega arith in
    rw (drop_more (group ∷ groups) place group within, other) (ap (λ n. stands_for n (drop (place + 1) (group ∷ groups)) i) more)

pub number_turn :
    {A : Type 0} (shown : A → StateName) (pins place : ℕ) (states : List A) (name : List ℕ) (d : A)
    → place < length states
    → bytes_eq (shown (get_or states place d)).first name ≡ false
    → is_second_name name (shown (get_or states place d)).second ≡ false
    → number_in (map shown (drop (place + 1) states)) (pins + 2 * (place + 1)) name ≡ number_in (map shown (drop place states))
    (pins + 2 * place) name
number_turn shown pins place states name d within first second =
    let more : pins + 2 * (place + 1) ≡ pins + 2 * place + 2 = omega arith in
    rw (drop_more states place d within, first, second) (ap (λ n. number_in (map shown (drop (place + 1) states)) n name) more)

pub count_shown : {A B : Type 0} (f : A → B) (xs : List A) → length (map f xs) ≡ length xs
count_shown f [] = refl
count_shown f (x ∷ xs) = ap suc (count_shown f xs)

pub same_turn :
    {A B C : Type 0} (f : B → C) (s : A → B) (y : C) (xs : List A) (i : ℕ) (done next : List C)
    → ((x : A) → f (s x) ≡ y) → i < length xs → next ≡ done ++ y ∷ []
    → next ++ map f (map s (drop (i + 1) xs)) ≡ done ++ map f (map s (drop i xs))
same_turn f s y [] i done next all within more = absurd (omega arith)
same_turn f s y (x ∷ xs) i done next all within more =
    rw (drop_more (x ∷ xs) i x within)
    (rw (all (get_or (x ∷ xs) i x))
    (rw more (append_assoc done (y ∷ []) (map f (map s (drop (i + 1) (x ∷ xs)))))))

-- the state of a node of a table
abbrev pub node_state : StateReading → ℕ → StateTable → StateGroup
node_state r node table = record { kind = kind.Table table node r.inputs; support = r.support }

pub node_turn :
    {A : Type 0} (s : A → List ℕ) (table : StateTable) (r : StateReading) (names : List A) (node : ℕ)
    (done next : List StateGroup)
    → node < length names → next ≡ done ++ node_state r node table ∷ []
    → next ++ node_groups table r (node + 1) (map s (drop (node + 1) names)) ≡ done
    ++ node_groups table r node (map s (drop node names))
node_turn s table r [] node done next within more = absurd (omega arith)
node_turn s table r (x ∷ xs) node done next within more =
    rw (drop_more (x ∷ xs) node x within)
    (rw more
    (append_assoc done (node_state r node table ∷ []) (node_groups table r (node + 1) (map s (drop (node + 1) (x ∷ xs))))))
