-- Values at 64 points at once: bit k of a word is the value at point k.
use Rattle.std.specs.Prelude.{ℕ, ◌==◌, Bool, true, false, List, map, Option, Some, None, if◌then◌else◌}
use Rattle.std.specs.Int.{bit_at}
use Rattle.statetables.specs.declared.lanes.InputWords.{InputWords}
use Rattle.statetables.specs.declared.lanes.StepWords.{StepWords}

-- the value at point k
unfoldable pub lane : ℕ → ℕ → Bool
lane k word = bit_at word k == 1

-- the values of inputs at point k, before a change and after it
abbrev pub before_at : ℕ → List InputWords → List Bool
before_at k inputs = map (λ (words : InputWords). lane k words.before) inputs

abbrev pub after_at : ℕ → List InputWords → List Bool
after_at k inputs = map (λ (words : InputWords). lane k words.after) inputs

-- What is found at point k: where it is open nothing as yet, so what is found later; else 1, 0 or that it is not known.
abbrev pub found_at : ℕ → StepWords → Option Bool → Option Bool
found_at k words later =
    (if lane k words.undecided then later
    else (if lane k words.ones then Some true else (if lane k words.zeros then Some false else None)))

-- whether this next state is known to be 1, and to be 0
abbrev pub is_one : Option Bool → Bool
is_one (Some true) = true
is_one _ = false

abbrev pub is_zero : Option Bool → Bool
is_zero (Some false) = true
is_zero _ = false
