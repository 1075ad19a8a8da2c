-- Names among lists that are joined.
use Rattle.std.proofs.Common.{◌≡◌, ℕ, ◌||◌, List, ◌++◌}
use Rattle.std.proofs.lemmas.List.Folds.{list_any-append}
use Rattle.std.specs.Str.{bytes_eq}
use Rattle.udp_tables.specs.VerilogRules.{is_among}

pub appended : (names others : List (List ℕ)) (x : List ℕ)
    → is_among (names ++ others) x ≡ (is_among names x || is_among others x)
appended names others x = list_any-append (bytes_eq x) names others
