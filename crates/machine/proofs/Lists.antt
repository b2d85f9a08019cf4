-- Lists: what holds of each element, and elements counted by a test.
use Rattle.std.proofs.Common.{◌≡◌, ◌+◌, ◌≤◌, Bool, true, false, cond, List, [], ◌∷◌, ◌++◌, length, filter, sym, refl, ap, ◌∙◌, arith}
use Rattle.std.specs.List.{AllByRecursion}
use Rattle.std.proofs.lemmas.List.{length-append}
use Rattle.std.proofs.lemmas.List.Elements.{filter-append}
use Rattle.std.proofs.lemmas.List.Sums.{length-filter, count_by-le-length}

-- both facts of each element, and the fact of the element before which a list is cut
pub all_both : {X : Type 0} (P Q R : X → Type 0) → ((x : X) → P x → Q x → R x) → (xs : List X) → AllByRecursion P xs → AllByRecursion Q xs → AllByRecursion R xs
all_both P Q R f [] a b = tt
all_both P Q R f (x ∷ xs) a b = (f x a.0 b.0, all_both P Q R f xs a.1 b.1)

pub all_at : {X : Type 0} (P : X → Type 0) (xs : List X) (y : X) (ys : List X) → AllByRecursion P (xs ++ (y ∷ ys)) → P y
all_at P [] y ys a = a.0
all_at P (x ∷ xs) y ys a = all_at P xs y ys a.1

pub all_joined : {X : Type 0} (P : X → Type 0) (front back : List X) (e : X) → P e → AllByRecursion P (front ++ back) → AllByRecursion P (front ++ (e ∷ back))
all_joined P [] back e p a = (p, a)
all_joined P (x ∷ front) back e p a = (a.0, all_joined P front back e p a.1)

-- what passes a test, counted: one element more at the front, inside or at the end
pub kept_one : {X : Type 0} (b : Bool) (x : X) (xs : List X) → length (cond b (x ∷ xs) xs) ≡ length xs + cond b 1 0
kept_one true x xs = omega arith
kept_one false x xs = omega arith

pub kept_joined : {X : Type 0} (p : X → Bool) (front : List X) (e : X) (back : List X) → length (filter p (front ++ (e ∷ back))) ≡ length (filter p (front ++ back)) + cond (p e) 1 0
kept_joined p [] e back = kept_one (p e) e (filter p back)
kept_joined p (x ∷ front) e back =
    let more = kept_joined p front e back in
    kept_one (p x) x (filter p (front ++ (e ∷ back))) ∙ sym (omega (arith, kept_one (p x) x (filter p (front ++ back))))

pub kept_last : {X : Type 0} (p : X → Bool) (xs : List X) (x : X) → length (filter p (xs ++ (x ∷ []))) ≡ length (filter p xs) + cond (p x) 1 0
kept_last p xs x =
    let cut : length (filter p (xs ++ (x ∷ []))) ≡ length (filter p xs ++ filter p (x ∷ [])) = ap length (filter-append p xs (x ∷ [])) in
    omega (arith, length-append (filter p xs) (filter p (x ∷ [])), kept_one (p x) x [])

pub fewer_kept : {X : Type 0} (p : X → Bool) (xs : List X) → length (filter p xs) ≤ length xs
fewer_kept p xs = omega (arith, length-filter p xs, count_by-le-length p xs)

-- where nothing passes, and where all does
pub kept_none : {X : Type 0} (p : X → Bool) (xs : List X) → AllByRecursion (λ x. p x ≡ false) xs → filter p xs ≡ []
kept_none p [] a = refl
kept_none p (x ∷ xs) a = ap (λ (b : Bool). cond b (x ∷ filter p xs) (filter p xs)) a.0 ∙ kept_none p xs a.1

pub kept_every : {X : Type 0} (p : X → Bool) (xs : List X) → AllByRecursion (λ x. p x ≡ true) xs → filter p xs ≡ xs
kept_every {X} p [] a = refl
kept_every {X} p (x ∷ xs) a = ap (λ (b : Bool). cond b (x ∷ filter p xs) (filter p xs)) a.0 ∙ ap (λ (ys : List X). x ∷ ys) (kept_every p xs a.1)
