-- The limits of a plan; src/limits.rt has the same numbers for the code.
use Rattle.std.specs.Prelude.{ℕ}
use Rattle.search.specs.Limits as limits

abbrev pub most_events : ℕ
most_events = limits.most_events

abbrev pub most_gaps : ℕ
most_gaps = 400

abbrev pub most_name : ℕ
most_name = 16

abbrev pub most_period : ℕ
most_period = 1000000

abbrev pub most_length : ℕ
most_length = 1000000000

abbrev pub most_width : ℕ
most_width = 1000000000

abbrev pub most_loop : ℕ
most_loop = 420

-- the code of the not-before edge of event j is this and j
abbrev pub code_not_before : ℕ
code_not_before = 1000

-- the code of the not-after edge of event j is this and j
abbrev pub code_not_after : ℕ
code_not_after = 2000
