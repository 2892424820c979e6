-- The number of each refusal, and of what a test says.
-- Assumes nothing.
use Rattle.std.specs.Prelude.{ℕ, Result, Ok, Err}
use Rattle.refusal.specs.declared.Refusal.{Refusal}
use Rattle.refusal.specs.declared.Refusal.TheVariants.{TooManyVertices, TableLength, TableByte, SelfJoined, OneWay, Notion, Kind, Factor, BytesLength, WorkLength, SetByte, PositionByte, Gap, DeadPosition, FirstLetter, Form, NoProblemLine, SecondProblemLine, TextVertices, EdgeRange, EdgeLoop, EdgeCount, TableRoom, TextLength, Degrees, PairRange, PairEqual, StrayBit}

-- Document 01, "Turned back by the input" and "Turned back by the state", and document 02, C-12 and C-15
abbrev pub number : Refusal → ℕ
number TooManyVertices = 1
number TableLength = 2
number TableByte = 3
number SelfJoined = 4
number OneWay = 5
number Notion = 6
number Kind = 7
number Factor = 8
number BytesLength = 9
number WorkLength = 10
number SetByte = 11
number PositionByte = 21
number Gap = 22
number DeadPosition = 23
number FirstLetter = 31
number Form = 32
number NoProblemLine = 33
number SecondProblemLine = 34
number TextVertices = 35
number EdgeRange = 36
number EdgeLoop = 37
number EdgeCount = 39
number TableRoom = 40
number TextLength = 41
number Degrees = 42
number PairRange = 43
number PairEqual = 44
number StrayBit = 45

-- the number that an answer holds: 0 where nothing is refused
abbrev pub fault : {A : Type 0} → Result A Refusal → ℕ
fault (Ok _) = 0
fault (Err r) = number r
