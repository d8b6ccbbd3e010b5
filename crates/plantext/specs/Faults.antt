-- What a load fault says: its layer and its number.
use Rattle.std.specs.Prelude.{◌≡◌, ℕ, IfErr, Result}
use Rattle.planner.specs.Refusals as refusals
use Rattle.plantext.specs.declared.fault.TextFault.{TextFault}
use Rattle.plantext.specs.declared.fault.TextFault.TheVariants.{TooLong, Unended, FirstWord, FieldCount, BadNumber, UnknownName, MarkWord}
use Rattle.plantext.specs.declared.fault.Cause.{Cause}
use Rattle.plantext.specs.declared.fault.LineFault.{LineFault}
use Rattle.plantext.specs.declared.fault.Cause.TheVariants.{Text, Plan}

abbrev pub text_number : TextFault → ℕ
text_number TooLong = 70
text_number Unended = 71
text_number FirstWord = 72
text_number FieldCount = 73
text_number BadNumber = 74
text_number UnknownName = 75
text_number MarkWord = 76

-- the text is layer 1, the plan layer 2
abbrev pub layer_of : Cause → ℕ
layer_of (Text f) = 1
layer_of (Plan r) = 2

-- the number of the first cause, unchanged
abbrev pub number_of : Cause → ℕ
number_of (Text f) = text_number f
number_of (Plan r) = refusals.number_of r

-- what reads a line finds fault with its text alone
abbrev pub TextFaults : {A : Type 0} → Result A LineFault → Type 0
TextFaults r = IfErr r (λ e. layer_of e.cause ≡ 1)
