-- What a refusal says: its number, and a loop where want of a timetable is the cause.
use Rattle.std.specs.Prelude.{ℕ, List, [], Ok, Err, Result}
use Rattle.timetable.specs.Records.{codes_of}
use Rattle.planner.specs.declared.refusal.Refusal.{Refusal}
use Rattle.planner.specs.declared.refusal.Refusal.TheVariants.{PeriodRange, LengthRange, EventsFull, NameForm, NameTaken, EventWindow, EventUntimed, GapUnknownEvent, GapSameEvent, GapWidth, GapsFull, GapUntimed, TimeUnknownEvent}
use Rattle.planner.specs.Calls.{Answer, accepted, numbered, refused}

abbrev pub number_of : Refusal → ℕ
number_of PeriodRange = 1
number_of LengthRange = 2
number_of EventsFull = 10
number_of NameForm = 11
number_of NameTaken = 12
number_of EventWindow = 13
number_of (EventUntimed l) = 14
number_of GapUnknownEvent = 20
number_of GapSameEvent = 21
number_of GapWidth = 22
number_of GapsFull = 23
number_of (GapUntimed l) = 24
number_of TimeUnknownEvent = 60

-- the codes of the loop handed over, none where there is no loop
abbrev pub loop_of : Refusal → List ℕ
loop_of PeriodRange = []
loop_of LengthRange = []
loop_of EventsFull = []
loop_of NameForm = []
loop_of NameTaken = []
loop_of EventWindow = []
loop_of (EventUntimed l) = codes_of l
loop_of GapUnknownEvent = []
loop_of GapSameEvent = []
loop_of GapWidth = []
loop_of GapsFull = []
loop_of (GapUntimed l) = codes_of l
loop_of TimeUnknownEvent = []

-- ---- results of the code as answers

abbrev pub said_plain : {X : Type 0} → Result X Refusal → Answer
said_plain (Ok x) = accepted
said_plain (Err e) = refused (number_of e)

abbrev pub said_number : Result ℕ Refusal → Answer
said_number (Ok n) = numbered n
said_number (Err e) = refused (number_of e)
