-- A number of several at each turn.
use Rattle.std.specs.Prelude.{◌≡◌, List, [], ◌∷◌, ◌++◌, ℕ, ◌+◌, ◌≤◌, ◌<◌, length, get_or, take, drop}
use Rattle.std.proofs.Common.{sym, ap, ◌∙◌, append-nil, add-one, arith, length-append, take-append-drop, take-suc}
use Rattle.lines.specs.Listing.{decimal, spaced}
use Rattle.lines.specs.Put.{Put, put_kept, one_turn}
use Rattle.lines.specs.Lines.{spaced_append, NumberTurns}

spaced_more : (ns : List ℕ) (i : ℕ) → i < length ns → spaced (take (i + 1) ns) ≡ spaced (take i ns) ++ (32 ∷ decimal (get_or ns i 0))
unfolding spaced
spaced_more ns i l =
    ap (λ (k : ℕ). spaced (take k ns)) (add-one i) ∙ ap spaced (take-suc ns i 0 l) ∙ spaced_append (take i ns) (get_or ns i 0 ∷ [])
    ∙ ap (λ (xs : List ℕ). spaced (take i ns) ++ xs) (append-nil (32 ∷ decimal (get_or ns i 0)))

module _ (ns : List ℕ) {d d' : List ℕ} {at n i : ℕ} (t : NumberTurns ns d at d' n i) (l : i < length ns) where
  pub number_room : at + length (spaced ns) ≤ length d → n + 1 + length (decimal (get_or ns i 0)) ≤ length d'
  number_room room =
      omega (
        arith,
        t.put.behind,
        put_kept t.put,
        ap length (spaced_more ns i l),
        length-append (spaced (take i ns)) (32 ∷ decimal (get_or ns i 0)),
        length-append (spaced (take (i + 1) ns)) (spaced (drop (i + 1) ns)),
        ap length (sym (spaced_append (take (i + 1) ns) (drop (i + 1) ns)) ∙ ap spaced (take-append-drop (i + 1) ns)),
      )

  pub number_turn : {d'' : List ℕ} {m : ℕ} → Put (32 ∷ decimal (get_or ns i 0)) d' n d'' m → NumberTurns ns d at d'' m (i + 1)
  number_turn q = one_turn t l (spaced_more ns i l) q
