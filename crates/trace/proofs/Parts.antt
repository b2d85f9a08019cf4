-- A lent buffer that is filled from its start, part after part.
use Rattle.std.proofs.Common.{◌≡◌, ℕ, ◌+◌, ◌≤◌, List, [], ◌++◌, length, take, drop, sym, refl, ap, ◌∙◌, append_assoc, arith, length-append, length-drop}
use borrow.Rule.Slice.PartMut.{put_mid}
use Rattle.std.proofs.lemmas.List.{take_at, drop_at, drop-drop, length-take-le}

-- the first a bytes are `front`, and the rest is as it was in `old`
pub record Filled (old front : List ℕ) (a : ℕ) (xs : List ℕ) : Type 0 where
  pub is : xs ≡ front ++ drop a old
  pub len : length front ≡ a

pub start : (old : List ℕ) → Filled old [] 0 old
start old = record { is = refl; len = refl }

pub filled_length : {old front : List ℕ} {a : ℕ} {xs : List ℕ} → a ≤ length old → Filled old front a xs → length xs ≡ length old
filled_length {old} {front} {a} {xs} h f = ap length f.is ∙ simp (length-append, length-drop) (omega arith)

pub part_length : {old front : List ℕ} {a : ℕ} {xs : List ℕ} (k : ℕ) → a + k ≤ length old → Filled old front a xs → length (take k (drop a xs)) ≡ k
part_length {old} {front} {a} {xs} k h f =
    let l = filled_length (omega arith) f in
    length-take-le k (drop a xs) (simp length-drop (omega arith))

pub grow : {old front : List ℕ} {a : ℕ} {xs : List ℕ} (k : ℕ) (ys : List ℕ) → Filled old front a xs → length ys ≡ k → Filled old (front ++ ys) (a + k) (put_mid a k xs ys)
grow {old} {front} {a} {xs} k ys f l = record {
  is =
      ap (λ z. put_mid a k z ys) f.is
      ∙ ap (λ z. z ++ (ys ++ drop k (drop a (front ++ drop a old)))) (take_at front (drop a old) a f.len)
      ∙ ap (λ z. front ++ (ys ++ drop k z)) (drop_at front (drop a old) a f.len)
      ∙ ap (λ z. front ++ (ys ++ z)) (drop-drop k a old)
      ∙ sym (append_assoc front ys (drop (a + k) old));
  len = simp length-append (omega arith);
}
