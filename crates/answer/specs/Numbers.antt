-- The number of each refusal and of each shelf operation, in one place.
use Rattle.std.specs.Prelude.{ℕ}
use Rattle.answer.specs.declared.Refusal.{Refusal}
use Rattle.answer.specs.declared.Refusal.TheVariants.{BufferLength, PastEnd, WrongPhase, RowInHand, NeedNotKept, BackupFull, AllKept, RowsLeft, AllSettled, DistanceAboveBackup, OutOfLimits, NoHead, LabelsDiffer, HeadMisfit, MembersLost, PowerLost, NumbersSpent, WrongGrant}
use Rattle.answer.specs.declared.Operation.{Operation}
use Rattle.answer.specs.declared.Operation.TheVariants.{Restart, Read, Write, Flush}

abbrev pub refusal_number : Refusal → ℕ
refusal_number BufferLength = 1
refusal_number PastEnd = 2
refusal_number WrongPhase = 3
refusal_number RowInHand = 4
refusal_number NeedNotKept = 5
refusal_number BackupFull = 6
refusal_number AllKept = 7
refusal_number RowsLeft = 8
refusal_number AllSettled = 9
refusal_number DistanceAboveBackup = 10
refusal_number OutOfLimits = 11
refusal_number NoHead = 12
refusal_number LabelsDiffer = 13
refusal_number HeadMisfit = 14
refusal_number MembersLost = 15
refusal_number PowerLost = 16
refusal_number NumbersSpent = 17
refusal_number WrongGrant = 18

abbrev pub operation_number : Operation → ℕ
operation_number Restart = 0
operation_number Read = 1
operation_number Write = 2
operation_number Flush = 3
