-- Connectedness: any two members are joined by a chain of members, each next to the one before it (`Laws.Joined` says so).
use Rattle.std.specs.Prelude.{ℕ, zero, suc, Bool, true, false, not, cond, List, [], ◌∷◌, ◌++◌, length}

-- those that pass
unfoldable pub those : (ℕ → Bool) → List ℕ → List ℕ
those p [] = []
those p (x ∷ xs) = cond (p x) (x ∷ those p xs) (those p xs)

-- What no chain from `todo` reaches of `rest`. Each turn takes the first of `todo`, and moves what is next to it from `rest` to `todo`.
unfoldable pub unreached : (ℕ → ℕ → Bool) → ℕ → List ℕ → List ℕ → List ℕ
unreached next zero todo rest = rest
unreached next (suc turns) [] rest = rest
unreached next (suc turns) (x ∷ todo) rest = unreached next turns (todo ++ those (next x) rest) (those (λ y. not (next x y)) rest)

unfoldable pub none_left : List ℕ → Bool
none_left [] = true
none_left (x ∷ xs) = false

-- from the first member every other is reached, in as many turns as there are members
unfoldable pub connected : (ℕ → ℕ → Bool) → List ℕ → Bool
connected next [] = true
connected next (x ∷ xs) = none_left (unreached next (suc (length xs)) (x ∷ []) xs)
