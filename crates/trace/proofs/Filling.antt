-- Filling a lent list from its start, element by element.
use Rattle.std.proofs.Common.{◌≡◌, ℕ, ◌+◌, ◌<◌, List, [], ◌∷◌, ◌++◌, map, length, get_or, take, drop, set, sym, ap, ◌∙◌, append_assoc, arith}
use lib.ListN.{length-map}
use Rattle.std.proofs.lemmas.List.{drop_more, set_at, map_more, length-take-le}

-- one more element, at any function of the list that it is filled from
pub fills_more : {X Y : Type 0} (f : X → Y) (from : List X) (old xs : List Y) (k : ℕ) (d : X) (y : Y) → k < length from → k < length old →
    xs ≡ map f (take k from) ++ drop k old → y ≡ f (get_or from k d) → set xs k y ≡ map f (take (k + 1) from) ++ drop (k + 1) old
fills_more f from old xs k d y h room e v =
    ap (λ t. set t k y) (e ∙ ap (λ t. map f (take k from) ++ t) (drop_more old k y room))
    ∙ set_at (map f (take k from)) (get_or old k y) (drop (k + 1) old) y k (length-map (take k from) f ∙ length-take-le k from (omega arith))
    ∙ ap (λ z. map f (take k from) ++ z ∷ drop (k + 1) old) v
    ∙ sym (append_assoc (map f (take k from)) (f (get_or from k d) ∷ []) (drop (k + 1) old))
    ∙ ap (λ t. t ++ drop (k + 1) old) (sym (map_more f from k d h))
