-- The limits of a search; src/limits.rt has those that the code needs.
use Rattle.std.specs.Prelude.{ℕ}

-- events that one search tells apart
abbrev pub most_events : ℕ
most_events = 40

-- rounds that one search makes, and so items of a chain that it reads
abbrev pub most_rounds : ℕ
most_rounds = 4096

abbrev pub most_items : ℕ
most_items = 60000

-- no item weighs more, or less than the negative
abbrev pub most_weight : ℕ
most_weight = 1000000000000

-- the longest period, in ticks
abbrev pub most_period : ℕ
most_period = 1000000000

-- a sum that may go down to a multiple of a period and still fits 64 bits is not below the negative of this
abbrev pub deepest_sum : ℕ
deepest_sum = 9000000000000000000
