-- The loop record.
use Rattle.std.specs.Prelude.{ℕ, List, take}
use Rattle.timetable.specs.declared.found.Loop.{Loop}

-- the codes that a loop record has
abbrev pub codes_of : Loop → List ℕ
codes_of l = take l.count l.codes
