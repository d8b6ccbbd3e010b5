-- The calls of a plan: their checks in order, what each writes into the book, and its answer.
use Rattle.std.specs.Prelude.{◌≡◌, ℕ, Bool, cond, not, ◌&&◌, ◌⊎◌, List, [], ◌∷◌, ◌++◌, length, ℤ, pos, neg_ℤ, Some, None, Option, ◌==◌, int_le, nat_lt}
use Rattle.book.specs.declared.mark.Mark.{Mark}
use Rattle.book.specs.Limits.{most_events, most_gaps, most_period, most_length, most_width}
use Rattle.book.specs.Names.{is_name}
use Rattle.book.specs.Book.{Book, made, with_rows, with_gaps, has_name, good_window}

pub data Call : Type 0 where
  make : ℤ → ℤ → Call
  event : List ℕ → Mark → ℤ → ℤ → Call
  gap : ℕ → ℕ → ℤ → Call

pub data Answer : Type 0 where
  accepted : Answer
  numbered : ℕ → Answer
  refused : ℕ → Answer

-- ---- checks

abbrev pub within : ℤ → ℤ → ℤ → Bool
within low x high = int_le low x && int_le x high

abbrev pub known : Book → ℕ → Bool
known b j = nat_lt j (length b.rows)

-- the number of the first test of the list that fails
abbrev pub first_failed : List (Bool × ℕ) → Option ℕ
first_failed [] = None
first_failed (t ∷ ts) = cond t.0 (first_failed ts) (Some t.1)

-- the checks before the question of a timetable, in their order, each with the number of its refusal
abbrev pub checks : Book → Call → List (Bool × ℕ)
checks b (make p h) = (within (pos 1) p (pos most_period), 1) ∷ ((within (pos 1) h (pos most_length), 2) ∷ [])
checks b (event n m e l) =
    (nat_lt (length b.rows) most_events, 10) ∷ ((is_name n, 11) ∷ ((not (has_name b.rows n), 12) ∷ ((good_window b e l, 13) ∷ [])))
checks b (gap i j w) =
    (known b i && known b j, 20) ∷ ((not (i == j), 21) ∷
    ((within (neg_ℤ (pos most_width)) w (pos most_width), 22) ∷ ((nat_lt (length b.gaps) most_gaps, 23) ∷ [])))

abbrev pub failed : Book → Call → Option ℕ
failed b c = first_failed (checks b c)

-- the number by which a call is refused for want of a timetable
abbrev pub wants : Call → Option ℕ
wants (make p h) = None
wants (event n m e l) = Some 14
wants (gap i j w) = Some 24

-- ---- what a call writes and answers

-- the book with the call written in, accepted or not
abbrev pub changed : Book → Call → Book
changed b (make p h) = made p h
changed b (event n m e l) = with_rows b (b.rows ++ (record { name = n; mark = m; earliest = e; latest = l } ∷ []))
changed b (gap i j w) = with_gaps b (b.gaps ++ (record { from = i; to = j; width = w } ∷ []))

-- the answer of a call that is granted
abbrev pub granted : Book → Call → Answer
granted b (make p h) = accepted
granted b (event n m e l) = numbered (length b.rows)
granted b (gap i j w) = numbered (length b.gaps)

-- refused by this number, if there is one, the book then being as it was
abbrev pub Refused : Book → Option ℕ → Answer → Book → Type 0
Refused b None a after = ⊥
Refused b (Some n) a after = (a ≡ refused n) × (after ≡ b)

-- where a check fails, the call is refused by its number; else it is granted, or refused for want of a timetable
abbrev pub Answered : Book → Call → Option ℕ → Answer → Book → Type 0
Answered b c (Some n) a after = Refused b (Some n) a after
Answered b c None a after = ((a ≡ granted b c) × (after ≡ changed b c)) ⊎ Refused b (wants c) a after

-- the answer to the call, and the book after it
abbrev pub ByBook : Book → Call → Answer → Book → Type 0
ByBook b c a after = Answered b c (failed b c) a after
