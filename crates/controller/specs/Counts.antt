-- How many offers of each requester were accepted.
use Rattle.std.specs.Prelude.{ℕ, ◌+◌, cond, List, nat_lt, slice_index, slice_set}

-- The count of a requester; 0 of a stranger.
abbrev pub count_of : List ℕ → ℕ → ℕ
count_of each r = cond (nat_lt r 16) (slice_index each r) 0

-- One more, as far as 32 bits go.
abbrev pub one_more : ℕ → ℕ
one_more x = cond (nat_lt x (4294967295)) (x + 1) x

-- The counts with one more offer of a requester; a stranger has none.
abbrev pub counted : List ℕ → ℕ → List ℕ
counted each r = cond (nat_lt r 16) (slice_set each r (one_more (slice_index each r))) each
